use Rattle.partition.specs.Starts.{Counted}
use Rattle.partition.proofs.order.Order.lay_out.Given as goal

abbrev pub invariant-loop-x : goal.invariant-loop-x
invariant-loop-x l = Counted l.self.states l.x × Counted l.self.places l.x
