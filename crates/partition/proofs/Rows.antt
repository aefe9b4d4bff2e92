-- What a cut makes of a row.
use Rattle.std.proofs.Common.{◌≡◌, ℕ, ◌+◌, ◌<◌, ◌≤◌, false, List, ℤ, sym, ◌∙◌}
use Rattle.partition.specs.Stretches.{stretch_at}
use Rattle.partition.specs.Cuts.{Cutting, Level, mark_at}
use Rattle.partition.specs.View.{count_of, is_split, Divided, Unchanged}
use Rattle.partition.specs.declared.row.Row.{Row}
use Rattle.partition.proofs.Divides.{same_members, new_block, kept_block, come_together, come_alike, new_open, leaf_split, old_split, level_alike}

module _ (r r2 : Row) (figs : List ℤ) (leaf : ℕ) (known : leaf < count_of r) (open' : is_split r leaf ≡ false) where
  pub divided : Cutting r.cells.order.states r.cells.block (mark_at r.cells.stretches leaf) figs (stretch_at r.cells.stretches leaf).start (stretch_at r.cells.stretches leaf).end r2.cells.order.states r2.cells.order.places r2.cells.block r2.cells.stretches (stretch_at r.cells.stretches leaf).end → count_of r + 2 ≤ count_of r2 → Divided r r2 figs leaf
  divided c two = record {
    size = c.outside.len;
    two = two;
    together = come_together _ _ _ _ r.whole leaf known open' figs _ _ _ _ c;
    alike = come_alike _ _ _ _ r.whole leaf known open' figs _ _ _ _ c;
    others = kept_block _ _ _ _ r.whole leaf known open' figs _ _ _ _ c;
    fresh = new_block _ _ _ _ r.whole leaf known open' figs _ _ _ _ c;
    whole = new_open _ _ _ _ r.whole leaf known open' figs _ _ _ _ c;
    marked = leaf_split _ _ _ _ r.whole leaf known open' figs _ _ _ _ c;
    old = old_split _ _ _ _ r.whole leaf known open' figs _ _ _ _ c;
    members = λ b x lb lx. same_members _ _ _ _ r.whole leaf known open' figs _ _ _ _ c x lx b lb;
  }

  pub unchanged : Level r.cells.order.states figs (stretch_at r.cells.stretches leaf).start (stretch_at r.cells.stretches leaf).end → r2.cells.order.states ≡ r.cells.order.states → r2.cells.order.places ≡ r.cells.order.places → r2.cells.block ≡ r.cells.block → r2.cells.stretches ≡ r.cells.stretches → Unchanged r r2 figs leaf
  unchanged level eo ep ek es =
      let is = level_alike _ _ _ _ r.whole leaf known open' figs level in
      record { order = eo; place = ep; block = ek; stretches = es; alike = λ x y lx ly qx qy. is x lx qx ∙ sym (is y ly qy) }
