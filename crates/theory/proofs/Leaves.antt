-- Every fair grouping respects a record, and a record that is done gives the settled grouping.
use Rattle.std.proofs.Common.{◌≡◌, ℕ, zero, suc, ◌<◌, Bool, true, false, ◌&&◌, eqb, List, [], length, sym, refl, ap, ◌∙◌, ap₂, inl, inr, arith}
use Rattle.std.proofs.lemmas.Bool.{both_ways, ne_eqb}
use Rattle.std.proofs.lemmas.Bool.Decides.{Decides-eqb, same_from_decides}
use Rattle.weigher.specs.Figure.{Figure, Order, Joining}
use Rattle.table.specs.System.{System, Lawful, Fair, Union, size, figure_of, sort_of, output_of, class, into}
use Rattle.table.specs.declared.parts.Node.{Node}
use Rattle.table.specs.declared.parts.Node.TheVariants.{Start, Part}
use Rattle.theory.specs.Rounds.{same_int}
use Rattle.theory.specs.Record.{node_at, passes, holds_within, holds, Record, Leaves}
use Rattle.theory.specs.Theorems.{RecordsRespected, RecordsSettle}
use Rattle.theory.proofs.Weights.{into_same, into_none}
use Rattle.theory.proofs.Unions.{unions, found}
use Rattle.theory.proofs.Records.{Lower, lower, same_look}

module _ (fig : Figure) (order : Order fig) (joining : Joining fig) (t : System) (lawful : Lawful t) (nodes : List Node) (r : Record fig t nodes) where
  module _ (g : ℕ → ℕ) (fair : Fair fig t g) where
    passes_whole : (held : ℕ → ℕ → Bool) (i : ℕ) (nd : Node) → Lower i nd → ((j : ℕ) → j < i → Union (size t) g (held j)) → Union (size t) g (passes fig t held nd)
    passes_whole held i (Start s) low e x y xl yl same = ap₂ (λ a b. eqb a s.sort && eqb b s.output) (fair x y xl yl same).0 (fair x y xl yl same).1
    passes_whole held i (Part o) low e x y xl yl same =
        ap₂ (λ a b. a && same_int b o.figure) (e o.parent (low o refl).0 x y xl yl same)
        (unions fig order joining t lawful g fair (held o.marker) (e o.marker (low o refl).2) x y xl yl same o.label (low o refl).1)

    within_whole : (f i : ℕ) → i < length nodes → Union (size t) g (holds_within fig t nodes f i)
    unfolding holds_within
    within_whole zero i k = λ x y xl yl same. refl
    within_whole (suc f) i k = passes_whole (holds_within fig t nodes f) i (node_at nodes i) (λ o. lower fig t nodes r i o k) (λ j b. within_whole f j (omega arith))

    whole : (i : ℕ) → i < length nodes → Union (size t) g (holds fig t nodes i)
    unfolding holds
    whole i k = within_whole (suc i) i k

  module _ (g : ℕ → ℕ) (leaves : Leaves fig t nodes g) (stable : (x y : ℕ) → x < size t → y < size t → g x ≡ g y → (l m : ℕ) → l < 64 → m < length nodes → figure_of fig t x l (holds fig t nodes m) ≡ figure_of fig t y l (holds fig t nodes m)) where
    -- states of one group are in one leaf
    alike_in : (x y : ℕ) → x < size t → y < size t → g x ≡ g y → (sort_of t x ≡ sort_of t y) × (output_of t x ≡ output_of t y)
    alike_in x y xl yl e =
        let b = leaves.some x xl in
        same_look fig t nodes r b.0 x y b.1 b.3 ((leaves.group b.0 x y b.1 b.2 xl yl b.3).1 e)

    -- the group of z is what z's leaf holds
    as_leaf : (z c : ℕ) → z < size t → g z ≡ c → (i : ℕ) × (i < length nodes) × ((w : ℕ) → w < size t → class g c w ≡ holds fig t nodes i w)
    as_leaf z c zl e =
        let b = leaves.some z zl in (
          b.0,
          b.1,
          λ w wl.
              let q = leaves.group b.0 z w b.1 b.2 zl wl b.3 in
              same_from_decides _ _ (Decides-eqb (g w) c) (λ h. sym (q.0 h) ∙ e, λ h. q.1 (e ∙ sym h)),
        )

    figures : (x y : ℕ) → x < size t → y < size t → g x ≡ g y → (l c : ℕ) → l < 64 → figure_of fig t x l (class g c) ≡ figure_of fig t y l (class g c)
    figures x y xl yl e l c ll = elim (found g (λ z. true) c (size t)) [
      | inl h ↦ (let b = as_leaf h.0 c h.1 h.2 in
          ap (fig (sort_of t x) l) (into_same t lawful x l (class g c) (holds fig t nodes b.0) b.2)
          ∙ stable x y xl yl e l b.0 ll b.1
          ∙ ap (fig (sort_of t y) l) (sym (into_same t lawful y l (class g c) (holds fig t nodes b.0) b.2)))
      | inr h ↦ rw (none h x, none h y) (ap (λ s. fig s l []) (alike_in x y xl yl e).0)
    ]
      where
        none : ((z : ℕ) → z < size t → g z ≡ c → true ≡ false) → (u : ℕ) → into t u l (class g c) ≡ []
        none h u = into_none t lawful u l (class g c) (λ z zl. ne_eqb _ _ (λ q. both_ways true (h z zl q) refl))

    leaf_fair : Fair fig t g
    leaf_fair x y xl yl e = let s = alike_in x y xl yl e in (s.0, s.1, figures x y xl yl e)

    leaf_coarse : (other : ℕ → ℕ) → Fair fig t other → (x y : ℕ) → x < size t → y < size t → other x ≡ other y → g x ≡ g y
    leaf_coarse other fair x y xl yl e =
        let b = leaves.some x xl in
        (leaves.group b.0 x y b.1 b.2 xl yl b.3).0 (sym (whole other fair b.0 b.1 x y xl yl e) ∙ b.3)

pub respected : RecordsRespected
respected = whole

pub records_settle : RecordsSettle
records_settle fig order joining t lawful nodes r g leaves stable = (leaf_fair fig order joining t lawful nodes r g leaves stable, leaf_coarse fig order joining t lawful nodes r g leaves stable)
