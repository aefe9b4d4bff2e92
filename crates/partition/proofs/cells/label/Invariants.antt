use Rattle.std.proofs.Common.{◌+◌}
use Rattle.partition.specs.Cuts.{Labelled}
use Rattle.partition.proofs.cells.label.Given as goal

abbrev pub invariant-loop-state : goal.invariant-loop-state
invariant-loop-state l = Labelled l.order l.initial.block l.block l.from (l.from + l.state-index) l.b
