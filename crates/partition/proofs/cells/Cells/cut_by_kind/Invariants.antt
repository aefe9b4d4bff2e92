use Rattle.partition.specs.Cells.{SortsByKind}
use Rattle.partition.proofs.cells.Cells.cut_by_kind.Given as goal

abbrev pub invariant-loop-x : goal.invariant-loop-x
invariant-loop-x l = SortsByKind l.initial.self l.kinds l.self l.m l.x
