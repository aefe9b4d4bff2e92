use Rattle.std.proofs.Common.{◌<◌, List, length, ℤ, refl, ap, ◌∙◌, subst, arith, ◌≡◌, rules}
use Rattle.std.proofs.lemmas.Bool.{true≢false, false≢true}
use Rattle.weigher.specs.Figure.{Figure}
use Rattle.table.specs.System.{System}
use Rattle.table.specs.declared.parts.Node.{Node}
use Rattle.room.proofs.Written.{written}
use Rattle.table.proofs.Lawfuls.{kept_lawful}
use Rattle.partition.specs.View.{count_of, Divided, Unchanged}
use Rattle.partition.specs.declared.row.Row.{Row}
use Rattle.settle.specs.Parts.{Weighed, Listed}
use Rattle.settle.proofs.Progress.{same_items, same_shown}
use Rattle.settle.proofs.Splits.{weighed, split_evened, split_even}
use Rattle.settle.proofs.refinement.Refinement.split_by.Goals as goal

pub returns-then-not-split : goal.returns-then-not-split
returns-then-not-split g c =
    let fig : Figure = g.W.Weigher.figure c.args.subject.now.pile.now in
    let t : System = c.args.subject.now.chart.now in
    let nodes : List Node = c.args.self.now.nodes in
    let r : Row = c.args.self.now.row in
    let r2 : Row = c.split.new.self in
    let figs : List ℤ = c.weigh_node.new.figures in
    let len : length figs ≡ length c.args.self.now.figures = search rules in
    let back = written c.args.self.now.figures figs len in
    let many = ap (λ fs. length fs) back in
    let ml : c.args.split.marker < length nodes = omega (arith, c.requires.marker) in
    let w : Weighed fig t nodes r figs c.args.split.parent c.args.split.label c.args.split.marker = weighed fig t nodes r r2 c.requires.ready.shown figs c.args.split.parent c.args.split.label c.args.split.marker (kept_lawful _ c.args.subject.now.kept) ml c.weigh_node.ensures in
    let u : Unchanged r r2 figs c.args.split.parent = subst (λ fs. Unchanged r r2 fs c.args.split.parent) (c.deref.ensures ∙ back) (c.split.ensures.unchanged c.if-not-split.true) in
    let q = same_items r r2 figs c.args.split.parent u in
    record {
      ready = record { shown = same_shown fig t nodes r r2 q c.requires.ready.shown; index = c.requires.ready.index; figures = omega (arith, many, len, q.size, c.requires.ready.figures) };
      evened = λ e. absurd (false≢true e);
      same = λ _. (q, refl);
      even = λ _. split_even fig t nodes r r2 c.requires.ready.shown figs c.args.split.parent c.args.split.label c.args.split.marker w u;
    }

pub returns : goal.returns
returns g c =
    let fig : Figure = g.W.Weigher.figure c.args.subject.now.pile.now in
    let t : System = c.args.subject.now.chart.now in
    let nodes : List Node = c.args.self.now.nodes in
    let r : Row = c.args.self.now.row in
    let r2 : Row = c.split.new.self in
    let figs : List ℤ = c.weigh_node.new.figures in
    let len : length figs ≡ length c.args.self.now.figures = search rules in
    let back = written c.args.self.now.figures figs len in
    let many = ap (λ fs. length fs) back in
    let ml : c.args.split.marker < length nodes = omega (arith, c.requires.marker) in
    let w : Weighed fig t nodes r figs c.args.split.parent c.args.split.label c.args.split.marker = weighed fig t nodes r r2 c.requires.ready.shown figs c.args.split.parent c.args.split.label c.args.split.marker (kept_lawful _ c.args.subject.now.kept) ml c.weigh_node.ensures in
    let ll : c.args.split.parent < length nodes = omega (arith, c.requires.leaf) in
    let d : Divided r r2 figs c.args.split.parent = subst (λ fs. Divided r r2 fs c.args.split.parent) (c.deref.ensures ∙ back) (c.split.ensures.divided c.if-not-split.false) in
    let nodes2 : List Node = c.list_parts.new.nodes in
    let h : Listed nodes r2 figs c.args.split.parent c.args.split.label c.args.split.marker nodes2 (count_of r2) = subst (λ fs. Listed nodes r2 fs c.args.split.parent c.args.split.label c.args.split.marker nodes2 (count_of r2)) (c.deref-2.ensures ∙ back) c.list_parts.ensures in
    let e = split_evened fig t nodes r r2 c.requires.ready.shown figs c.args.split.parent c.args.split.label c.args.split.marker ll c.requires.open c.requires.label ml w d nodes2 h in
    record {
      ready = record { shown = e.onward.shown; index = c.requires.ready.index; figures = omega (arith, many, len, d.size, c.requires.ready.figures) };
      evened = λ _. e;
      same = λ q. absurd (true≢false q);
      even = λ q. absurd (true≢false q);
    }
