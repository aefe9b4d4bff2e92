use Rattle.std.proofs.Common.{◌<◌, ◌≤◌, List, length, arith, rules}
use Rattle.weigher.specs.Figure.{Figure}
use Rattle.table.specs.System.{System}
use Rattle.table.specs.declared.parts.Node.{Node}
use Rattle.table.proofs.Lawfuls.{kept_lawful}
use Rattle.partition.specs.declared.row.Row.{Row}
use Rattle.settle.proofs.Progress.{longer, onward_then, one_more, all_even, idle_start, idle_still}
use Rattle.settle.proofs.refinement.Refinement.refine_by.Goals as goal

pub even_out-requires : goal.even_out-requires
even_out-requires g c =
    let fig : Figure = g.W.Weigher.figure c.args.subject.now.pile.now in
    let t : System = c.args.subject.now.chart.now in
    let n1 : List Node = c.args.self.now.nodes in
    let n2 : List Node = c.loop-node.self.nodes in
    let r1 : Row = c.args.self.now.row in
    let r2 : Row = c.loop-node.self.row in
    let inv = c.loop-node.invariant in
    let lawful = kept_lawful _ c.args.subject.now.kept in
    let ml : c.args.marker < length n1 = omega (arith, c.requires.marker) in
    let far = longer fig t n1 r1 n2 r2 c.requires.ready.shown inv.1 in
    record {
      ready = inv.0;
      node = search rules;
      marker = omega (arith);
      idle = idle_still fig t lawful n1 n2 r1 r2 c.requires.ready.shown inv.1 c.args.marker ml c.labels_into-used.result (idle_start fig t lawful n1 r1 c.requires.ready.shown c.args.marker ml c.labels_into-used.result c.labels_into-used.ensures);
    }

pub loop-node-preserved : goal.loop-node-preserved
loop-node-preserved g c =
    let fig : Figure = g.W.Weigher.figure c.args.subject.now.pile.now in
    let t : System = c.args.subject.now.chart.now in
    let n1 : List Node = c.args.self.now.nodes in
    let n2 : List Node = c.loop-node.self.nodes in
    let n3 : List Node = c.even_out.new.self.nodes in
    let r1 : Row = c.args.self.now.row in
    let r2 : Row = c.loop-node.self.row in
    let r3 : Row = c.even_out.new.self.row in
    let inv = c.loop-node.invariant in
    let far = longer fig t n1 r1 n2 r2 c.requires.ready.shown inv.1 in
    let kl : c.loop-node.node < length n2 = search rules in
    let ml : c.args.marker < length n2 = omega (arith, c.requires.marker) in
    let e = c.even_out.ensures.evened in (
      c.even_out.ensures.ready,
      onward_then fig t n1 n2 n3 r1 r2 r3 inv.1 e.onward,
      one_more fig t (kept_lawful _ c.args.subject.now.kept) n2 n3 r2 r3 inv.0.shown c.loop-node.node c.args.marker kl ml e inv.2,
    )

pub returns : goal.returns
returns g c =
    let fig : Figure = g.W.Weigher.figure c.args.subject.now.pile.now in
    let t : System = c.args.subject.now.chart.now in
    let n2 : List Node = c.loop-node.self.nodes in
    let inv = c.loop-node.invariant in
    let done : length n2 ≤ c.loop-node.node = search rules in
    record { ready = inv.0; onward = inv.1; even = all_even fig t n2 c.loop-node.self.row inv.0.shown c.loop-node.node c.args.marker done inv.2 }
