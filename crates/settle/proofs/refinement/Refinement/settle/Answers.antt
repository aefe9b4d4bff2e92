use Rattle.std.proofs.Common.{◌≡◌, List, length, ap, ◌∙◌, arith}
use Rattle.std.proofs.lemmas.List.{get_or_default}
use Rattle.weigher.specs.Figure.{Figure}
use Rattle.table.specs.System.{System, size}
use Rattle.table.specs.Numbering.{group_count, group_numbers}
use Rattle.table.specs.declared.parts.Node.{Node}
use Rattle.table.proofs.Lawfuls.{kept_lawful}
use Rattle.partition.specs.Perm.{at}
use Rattle.partition.specs.View.{size_of, block_of}
use Rattle.partition.specs.declared.row.Row.{Row}
use Rattle.partition.proofs.Facts.{known, few, small}
use Rattle.settle.proofs.Groupings.{grouped_here}
use Rattle.settle.proofs.refinement.Refinement.settle.Goals as goal

pub refine-requires : goal.refine-requires
refine-requires g c =
    let s = c.begin.ensures.shown (g.W.Weigher.figure c.args.pile.now) in
    record { shown = s; index = c.begin.ensures.index; figures = omega (arith, s.sized, c.begin.ensures.figures) }

pub number_groups-requires : goal.number_groups-requires
number_groups-requires g c =
    let r : Row = c.refine.new.self.row in
    let e = c.blocks-2.ensures in
    let n : length c.blocks-2.result.now ≡ size_of r = ap (λ bs. length bs) e ∙ r.cells.blocks in
    record {
      few = omega (arith, small r);
      low = λ k d low lt.
          let q = known r k (omega arith) in
          let b = few r in
          let a = small r in
          let f : at c.blocks-2.result.now k ≡ block_of r k = ap (λ bs. at bs k) e in
          omega (arith, get_or_default c.blocks-2.result.now k d 0 lt);
    }

pub returns : goal.returns
returns g c =
    let fig : Figure = g.W.Weigher.figure c.args.pile.now in
    let t : System = c.args.chart.now in
    let nodes : List Node = c.refine.new.self.nodes in
    let r : Row = c.refine.new.self.row in
    let e = c.blocks-2.ensures in
    let n : length c.blocks-2.result.now ≡ size t = ap (λ bs. length bs) e ∙ r.cells.blocks ∙ c.refine.ensures.ready.shown.sized in
    grouped_here fig (g.met.W.Weigher.order c.args.pile.now) (g.met.W.Weigher.joining c.args.pile.now) t (kept_lawful _ c.begin.ensures.kept) nodes r c.refine.ensures.ready.shown
    c.refine.ensures.even c.number_groups.new.groups c.number_groups.result
    (c.number_groups.ensures.groups ∙ ap (λ bs. group_numbers (at bs) (length c.blocks-2.result.now)) e ∙ ap (group_numbers (block_of r)) n)
    (c.number_groups.ensures.count ∙ ap (λ bs. group_count (at bs) (length c.blocks-2.result.now)) e ∙ ap (group_count (block_of r)) n)
