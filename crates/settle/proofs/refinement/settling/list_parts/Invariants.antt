use Rattle.settle.specs.Parts.{Listed}
use Rattle.settle.proofs.refinement.settling.list_parts.Given as goal

abbrev pub invariant-loop-b : goal.invariant-loop-b
invariant-loop-b l = Listed l.initial.nodes l.row l.figures l.split.parent l.split.label l.split.marker l.nodes l.b
