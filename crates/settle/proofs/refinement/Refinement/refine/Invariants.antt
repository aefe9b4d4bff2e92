use Rattle.std.proofs.Common.{ℕ, ◌-◌, ◌<◌, ◌≤◌, length}
use Rattle.settle.specs.Progress.{Even}
use Rattle.settle.specs.Ready.{Ready}
use Rattle.settle.proofs.refinement.Refinement.refine.Given as goal

abbrev pub invariant-loop-marker : goal.invariant-loop-marker
invariant-loop-marker g l =
    Ready (g.W.Weigher.figure l.subject.pile.now) l.subject.chart.now l.self
    × ((m : ℕ) → m < l.marker → (b : ℕ) → Even (g.W.Weigher.figure l.subject.pile.now) l.subject.chart.now l.self.nodes l.self.row b m)
    × (l.marker ≤ length l.self.nodes)

abbrev pub decreases-loop-marker : goal.decreases-loop-marker
decreases-loop-marker g l = 2048 - l.marker
