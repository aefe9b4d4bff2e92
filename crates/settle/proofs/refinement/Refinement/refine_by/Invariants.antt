use Rattle.std.proofs.Common.{ℕ, ◌-◌, ◌<◌}
use Rattle.settle.specs.Progress.{Onward, Even}
use Rattle.settle.specs.Ready.{Ready}
use Rattle.settle.proofs.refinement.Refinement.refine_by.Given as goal

abbrev pub invariant-loop-node : goal.invariant-loop-node
invariant-loop-node g l =
    Ready (g.W.Weigher.figure l.subject.pile.now) l.subject.chart.now l.self
    × Onward (g.W.Weigher.figure l.subject.pile.now) l.subject.chart.now l.initial.self.nodes l.initial.self.row l.self.nodes l.self.row
    × ((b : ℕ) → b < l.node → Even (g.W.Weigher.figure l.subject.pile.now) l.subject.chart.now l.self.nodes l.self.row b l.marker)

abbrev pub decreases-loop-node : goal.decreases-loop-node
decreases-loop-node g l = 2048 - l.node
