use Rattle.std.proofs.Common.{◌<◌, List, length, arith, rules}
use Rattle.weigher.specs.Figure.{Figure}
use Rattle.table.specs.System.{System}
use Rattle.table.specs.declared.parts.Node.{Node}
use Rattle.table.proofs.Lawfuls.{kept_lawful}
use Rattle.partition.specs.declared.row.Row.{Row}
use Rattle.settle.proofs.Progress.{longer, markers_more}
use Rattle.settle.proofs.refinement.Refinement.refine.Goals as goal

pub loop-marker-preserved : goal.loop-marker-preserved
loop-marker-preserved g c =
    let fig : Figure = g.W.Weigher.figure c.args.subject.now.pile.now in
    let t : System = c.args.subject.now.chart.now in
    let n1 : List Node = c.loop-marker.self.nodes in
    let n2 : List Node = c.refine_by.new.self.nodes in
    let r1 : Row = c.loop-marker.self.row in
    let r2 : Row = c.refine_by.new.self.row in
    let inv = c.loop-marker.invariant in
    let kl : c.loop-marker.marker < length n1 = search rules in
    let far = longer fig t n1 r1 n2 r2 inv.0.shown c.refine_by.ensures.onward in (
      c.refine_by.ensures.ready,
      markers_more fig t (kept_lawful _ c.args.subject.now.kept) n1 n2 r1 r2 inv.0.shown c.refine_by.ensures.onward c.loop-marker.marker kl inv.1 c.refine_by.ensures.even,
      omega arith,
    )
