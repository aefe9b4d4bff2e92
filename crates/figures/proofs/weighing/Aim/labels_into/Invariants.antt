use Rattle.std.proofs.Common.{◌≡◌, length}
use Rattle.partition.specs.View.{in_node}
use Rattle.figures.specs.Labels.{LabelsInto}
use Rattle.figures.proofs.weighing.Aim.labels_into.Given as goal

abbrev pub invariant-loop-link : goal.invariant-loop-link
invariant-loop-link l = LabelsInto l.link-items (in_node l.self.row.now l.self.marker) l.link-index l.used × (length l.used ≡ 64)
