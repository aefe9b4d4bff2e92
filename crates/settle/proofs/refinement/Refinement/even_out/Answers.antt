use Rattle.std.proofs.Common.{◌≡◌, List, sym, ap, ◌∙◌, arith}
use Rattle.weigher.specs.Figure.{Figure}
use Rattle.table.specs.System.{System}
use Rattle.table.specs.declared.parts.Node.{Node}
use Rattle.partition.specs.Perm.{at}
use Rattle.partition.specs.declared.row.Row.{Row}
use Rattle.settle.proofs.Progress.{same_self, same_then, evened_same, split_is_even, one_is_even, idle_is_even, even_back, even_more}
use Rattle.settle.proofs.refinement.Refinement.even_out.Goals as goal
use Rattle.settle.proofs.refinement.Refinement.even_out.Goals.{else-used-via-then-used+else-split_by, else-used-via-else-used}

pub returns-then-is_split : goal.returns-then-is_split
returns-then-is_split g c =
    let fig : Figure = g.W.Weigher.figure c.args.subject.now.pile.now in
    let t : System = c.args.subject.now.chart.now in
    let nodes : List Node = c.args.self.now.nodes in
    let r : Row = c.args.self.now.row in
    let s = c.requires.ready.shown in
    record { ready = c.requires.ready; evened = evened_same fig t nodes r r c.args.node c.args.marker (same_self r) s (split_is_even fig t nodes r s c.args.node c.args.marker (sym c.is_split.ensures ∙ c.if-is_split.true)) }

pub returns-then-states-lt2 : goal.returns-then-states-lt2
returns-then-states-lt2 g c =
    let fig : Figure = g.W.Weigher.figure c.args.subject.now.pile.now in
    let t : System = c.args.subject.now.chart.now in
    let nodes : List Node = c.args.self.now.nodes in
    let r : Row = c.args.self.now.row in
    let s = c.requires.ready.shown in
    record {
      ready = c.requires.ready;
      evened = evened_same fig t nodes r r c.args.node c.args.marker (same_self r) s (one_is_even fig t nodes r s c.args.node c.args.marker (λ x y xl yl ix iy.
          let i = c.states.ensures.found x xl ix in
          let j = c.states.ensures.found y yl iy in
          let same : i.0 ≡ j.0 = omega (arith, i.1, j.1, c.if-states-lt2.true) in
          sym i.2 ∙ ap (at c.states.result.now) same ∙ j.2));
    }

pub loop-label-preserved : goal.loop-label-preserved
loop-label-preserved g c =
    let fig : Figure = g.W.Weigher.figure c.args.subject.now.pile.now in
    let t : System = c.args.subject.now.chart.now in
    let nodes : List Node = c.args.self.now.nodes in
    let r : Row = c.args.self.now.row in
    let inv = c.loop-label.invariant in
    elim c.else-used.branch [
      | else-used-via-then-used+else-split_by w ↦
          let no' = w.if-split_by.false in
          let q = w.split_by.ensures.same no' in
          rw w.self-is (
            w.split_by.ensures.ready,
            same_then r c.loop-label.self.row w.split_by.new.self.row inv.1 q.0,
            q.1 ∙ inv.2,
            even_more fig t nodes r c.args.node c.args.marker c.loop-label.label inv.3
                (even_back fig t nodes c.loop-label.self.nodes r c.loop-label.self.row c.args.node c.args.marker c.loop-label.label inv.2 inv.1 (w.split_by.ensures.even no')),
          )
      | else-used-via-else-used w ↦ rw w.self-is (
        inv.0,
        inv.1,
        inv.2,
        even_more fig t nodes r c.args.node c.args.marker c.loop-label.label inv.3
            (idle_is_even fig t nodes r c.requires.ready.shown c.args.node c.args.marker c.args.used.now c.requires.idle c.loop-label.label w.if-used.false),
      )
    ]
