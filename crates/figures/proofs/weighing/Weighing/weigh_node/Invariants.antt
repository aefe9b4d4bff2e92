use Rattle.std.proofs.Common.{◌≡◌, ℕ, ◌<◌, length}
use Rattle.table.specs.System.{figure_of}
use Rattle.partition.specs.Perm.{at, fig}
use Rattle.partition.specs.View.{in_node}
use Rattle.figures.proofs.weighing.Weighing.weigh_node.Given as goal

abbrev pub invariant-loop-state : goal.invariant-loop-state
invariant-loop-state g l =
    ((j : ℕ) → j < l.state-index → fig l.figures (at l.state-items j) ≡ figure_of (g.W.Weigher.figure l.self.pile.now) l.self.aim.chart.now (at l.state-items j) l.label (in_node l.self.aim.row.now l.self.aim.marker))
    × (length l.figures ≡ length l.initial.figures)
