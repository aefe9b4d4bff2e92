use Rattle.std.proofs.Common.{◌+◌}
use Rattle.partition.specs.Cuts.{Level}
use Rattle.partition.proofs.order.Order.alike.Given as goal

abbrev pub invariant-loop-state : goal.invariant-loop-state
invariant-loop-state l = Level l.self.states l.figures l.start (l.start + l.state-index)
