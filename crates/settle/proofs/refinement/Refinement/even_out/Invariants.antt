use Rattle.std.proofs.Common.{◌≡◌, ℕ, ◌<◌}
use Rattle.settle.specs.Progress.{Same, EvenAt}
use Rattle.settle.specs.Ready.{Ready}
use Rattle.settle.proofs.refinement.Refinement.even_out.Given as goal

abbrev pub invariant-loop-label : goal.invariant-loop-label
invariant-loop-label g l =
    Ready (g.W.Weigher.figure l.subject.pile.now) l.subject.chart.now l.self
    × Same l.initial.self.row l.self.row
    × (l.self.nodes ≡ l.initial.self.nodes)
    × ((k : ℕ) → k < l.label → EvenAt (g.W.Weigher.figure l.subject.pile.now) l.subject.chart.now l.initial.self.nodes l.initial.self.row l.node l.marker k)
