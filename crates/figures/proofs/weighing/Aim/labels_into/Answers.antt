use Rattle.std.proofs.Common.{ℕ, ◌<◌, Bool, true, List, length, sym, ◌∙◌, arith, rules}
use Rattle.std.proofs.lemmas.List.{length-set}
use Rattle.table.specs.declared.parts.Link.{Link}
use Rattle.partition.specs.View.{in_node}
use Rattle.figures.specs.Index.{link_at}
use Rattle.figures.proofs.Labels.{label_in, label_out}
use Rattle.figures.proofs.weighing.Aim.labels_into.Goals as goal
use Rattle.figures.proofs.weighing.Aim.labels_into.Goals.{then-leads_into, else-leads_into}

pub loop-link-preserved : goal.loop-link-preserved
loop-link-preserved c =
    let links : List Link = c.links-link-items.result.now in
    let S : ℕ → Bool = in_node c.args.self.now.row.now c.args.self.now.marker in
    let i : ℕ = c.loop-link.link-index in
    let lab : (link_at links i).label < 64 = search rules in
    let low : (link_at links i).label < length c.loop-link.used = omega (arith, c.loop-link.invariant.1) in
    elim c.if-leads_into.branch [
      | then-leads_into w ↦ rw w.used-is (label_in links S i c.loop-link.used c.loop-link.invariant.0 low, length-set c.loop-link.used (link_at links i).label true ∙ c.loop-link.invariant.1)
      | else-leads_into w ↦ rw w.used-is (label_out links S i c.loop-link.used c.loop-link.invariant.0 (sym w.if-leads_into.ensures), c.loop-link.invariant.1)
    ]
