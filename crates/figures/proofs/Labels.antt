-- The labels of the links into a set.
use Rattle.std.proofs.Common.{◌≡◌, ℕ, ◌+◌, ◌<◌, Bool, true, false, ◌&&◌, List, [], map, length, get_or, set, sym, refl, ap, ◌∙◌, inl, inr, arith}
use Rattle.std.proofs.ByRecursion.{All-from_get_or}
use Rattle.std.proofs.lemmas.List.{get_or-set_same, get_or-set_other}
use Rattle.std.proofs.lemmas.Bool.{cases_eq, cases_Bool, both_ways, eqb-true}
use Rattle.table.specs.System.{System, into, leads}
use Rattle.table.specs.declared.parts.Link.{Link}
use Rattle.theory.proofs.Weights.{none_kept}
use Rattle.figures.specs.Index.{link_at, no_link}
use Rattle.figures.specs.Labels.{LabelsInto}

module _ (links : List Link) (S : ℕ → Bool) (i : ℕ) (used : List Bool) (h : LabelsInto links S i used) where
  pub label_in : (link_at links i).label < length used → LabelsInto links S (i + 1) (set used (link_at links i).label true)
  label_in low k kl e = elim (cases_eq (link_at links k).label (link_at links i).label) [
    | inl q ↦ ap (λ n. get_or (set used (link_at links i).label true) n false) q ∙ get_or-set_same used (link_at links i).label true false low
    | inr ne ↦ get_or-set_other used (link_at links i).label (link_at links k).label true false ne ∙ elim (cases_eq k i) [ inl q ↦ absurd (ne (ap (λ n. (link_at links n).label) q)) | inr nk ↦ h k (omega arith) e ]
  ]

  pub label_out : S (link_at links i).target ≡ false → LabelsInto links S (i + 1) used
  label_out out k kl e = elim (cases_eq k i) [
    | inl q ↦ absurd (both_ways (S (link_at links i).target) out (ap (λ n. S (link_at links n).target) (sym q) ∙ e))
    | inr nk ↦ h k (omega arith) e
  ]

-- a label that no link into the set has
pub unused : (t : System) (S : ℕ → Bool) (used : List Bool) → LabelsInto t.links S (length t.links) used → (l : ℕ) → get_or used l false ≡ false → (x : ℕ) → into t x l S ≡ []
unused t S used h l clear x = ap (λ ks. map (λ k. k.weight) ks) (none_kept (leads x l S) t.links (All-from_get_or (λ k. leads x l S k ≡ false) t.links no_link never))
  where
    both_false : (a b c : Bool) → (b ≡ true → c ≡ false) → (a && (b && c)) ≡ false
    both_false false b c f = refl
    both_false true false c f = refl
    both_false true true c f = f refl

    never : (k : ℕ) → k < length t.links → leads x l S (link_at t.links k) ≡ false
    never k kl = both_false _ _ _ (λ e. elim (cases_Bool (S (link_at t.links k).target)) [
      | inl y ↦ absurd (both_ways (get_or used l false) clear (ap (λ n. get_or used n false) (sym (eqb-true _ _ e)) ∙ h k kl y))
      | inr n ↦ n
    ])
