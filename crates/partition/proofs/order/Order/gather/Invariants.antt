use Rattle.partition.proofs.Gathers.{Gathering}
use Rattle.partition.proofs.order.Order.gather.Given as goal

abbrev pub invariant-loop-i : goal.invariant-loop-i
invariant-loop-i l =
    Gathering l.initial.self.states l.self.states l.self.places l.figures l.start l.end l.mid l.i l.figure
