-- What a chart keeps is lawful, and no more than a table can hold.
use Rattle.std.proofs.ByRecursion.{all_from_every}
use Rattle.table.specs.System.{System, Lawful, LawfulState, LawfulLink, Small, size}
use Rattle.table.specs.Shape.{Kept}

module _ (t : System) (k : Kept t) where
  pub kept_lawful : Lawful t
  kept_lawful = record {
    states = all_from_every LawfulState t.states (λ i d low lt. record { sort = k.sorts i d low lt; output = k.outputs i d low lt });
    links = all_from_every (LawfulLink (size t)) t.links (λ i d low lt. record {
      source = k.sources i d low lt;
      label = k.labels i d low lt;
      weight = record { sfits = k.weights i d low lt };
      target = k.targets i d low lt;
    });
  }

  pub kept_small : Small t
  kept_small = record { states = k.few_states; links = k.few_links }
