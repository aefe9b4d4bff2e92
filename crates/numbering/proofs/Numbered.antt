-- The states below x have their groups' numbers.
use Rattle.std.proofs.Common.{◌≡◌, ℕ, suc, ◌+◌, ◌<◌, ◌≤◌, true, List, [], ◌∷◌, ◌++◌, length, set, replicate, Some, None, Option, sym, refl, ap, ◌∙◌, inl, inr, arith}
use Rattle.std.proofs.lemmas.List.FromFn.{map-range_with_len_more, length-map-range_with_len}
use Rattle.std.proofs.lemmas.List.{length-set, length-replicate, get_or-replicate, get_or-set_same, get_or-set_other}
use Rattle.std.proofs.lemmas.Bool.{both_ways, cases_Bool, cases_eq, cases_lt}
use Rattle.table.specs.Numbering.{how_many, smallest, is_smallest, group_number, group_count, group_numbers}
use Rattle.theory.proofs.Counts.{count_yes, count_no, count_none, count_bound}
use Rattle.theory.proofs.Groups.{smallest_like, smallest_least, smallest_same, is_smallest_lem}
use Rattle.numbering.specs.Blocks.{Numbered, number_at, given, numbers_after, next_after}

module _ (g : ℕ → ℕ) where
  pub numbered_none : (numbers : List (Option ℕ)) (groups : List ℕ) → numbers ≡ replicate 2048 None → groups ≡ [] → Numbered g 0 numbers 0 groups
  unfolding group_count group_numbers
  numbered_none numbers groups e f = record {
    len = ap length e ∙ length-replicate {A = Option ℕ} 2048 None;
    known = λ b n l h.
        let q : number_at numbers b ≡ None = ap (λ z. number_at z b) e ∙ get_or-replicate {A = Option ℕ} 2048 b None None l in
        absurd (both_ways true (cc) refl);
    none = λ b l h y yl. absurd (omega arith);
    next_is = sym (count_none (is_smallest g));
    groups_are = f;
  }

  pub numbered_few : (x : ℕ) (numbers : List (Option ℕ)) (next : ℕ) (groups : List ℕ) → Numbered g x numbers next groups → next ≤ x
  unfolding group_count
  numbered_few x numbers next groups h = omega (arith, h.next_is, count_bound (is_smallest g) x)

  pub numbered_long : (x : ℕ) (numbers : List (Option ℕ)) (next : ℕ) (groups : List ℕ) → Numbered g x numbers next groups → length groups ≡ x
  unfolding group_numbers
  numbered_long x numbers next groups h = ap length h.groups_are ∙ length-map-range_with_len (group_number g) 0 x

  groups_more : (x : ℕ) → group_numbers g (x + 1) ≡ group_numbers g x ++ group_number g x ∷ []
  unfolding group_numbers
  groups_more x = map-range_with_len_more (group_number g) 0 x x (omega arith)

  -- the first state of its group
  new_smallest : (x : ℕ) → ((y : ℕ) → y < x → g y ≡ g x → ⊥) → smallest g x ≡ x
  new_smallest x h = elim (cases_lt (smallest g x) x) [
    | inl l ↦ absurd (h (smallest g x) l (smallest_like g x))
    | inr l ↦ omega (arith, smallest_least g x x refl)
  ]

  new_number : (x : ℕ) → smallest g x ≡ x → group_number g x ≡ group_count g x
  unfolding group_number group_count
  new_number x e = ap (how_many (is_smallest g)) e

  new_count : (x : ℕ) → smallest g x ≡ x → group_count g (x + 1) ≡ group_count g x + 1
  unfolding group_count
  new_count x e =
      let s : x + 1 ≡ suc x = omega arith in
      ap (how_many (is_smallest g)) s ∙ count_yes (is_smallest g) x ((is_smallest_lem g x).1 e) ∙ omega arith

  -- a later state of its group
  old_number : (x y : ℕ) → g y ≡ g x → group_number g x ≡ group_number g y
  unfolding group_number
  old_number x y e = ap (how_many (is_smallest g)) ((smallest_same g x y).1 (sym e))

  old_count : (x y : ℕ) → y < x → g y ≡ g x → group_count g (x + 1) ≡ group_count g x
  unfolding group_count
  old_count x y l e =
      let s : x + 1 ≡ suc x = omega arith in
      ap (how_many (is_smallest g)) s ∙ elim (cases_Bool (is_smallest g x)) [
        | inl t ↦ absurd (omega (arith, (is_smallest_lem g x).0 t, smallest_least g x y e))
        | inr f ↦ count_no (is_smallest g) x f
      ]

  module _ (x : ℕ) (numbers : List (Option ℕ)) (next : ℕ) (groups : List ℕ) (h : Numbered g x numbers next groups) (low : g x < 2048) where
    more_old : (n : ℕ) → number_at numbers (g x) ≡ Some n → Numbered g (x + 1) numbers next (groups ++ n ∷ [])
    more_old n e =
        let k = h.known (g x) n low e in
        record {
          len = h.len;
          known = λ b m l q. let r = h.known b m l q in (r.0, omega (arith, r.1), r.2, r.3);
          none = λ b l q y yl ye. elim (cases_eq y x) [
            | inl same ↦ h.none b l q k.0 k.1 (k.2 ∙ ap g (sym same) ∙ ye)
            | inr ne ↦ h.none b l q y (omega arith) ye
          ];
          next_is = h.next_is ∙ sym (old_count x k.0 k.1 k.2);
          groups_are = ap (λ z. z ++ n ∷ []) h.groups_are ∙ ap (λ z. group_numbers g x ++ z ∷ []) (sym (old_number x k.0 k.2 ∙ k.3)) ∙ sym (groups_more x);
        }

    more_new : number_at numbers (g x) ≡ None → Numbered g (x + 1) (set numbers (g x) (Some next)) (next + 1) (groups ++ next ∷ [])
    more_new e =
        let s = new_smallest x (h.none (g x) low e) in
        let here : number_at (set numbers (g x) (Some next)) (g x) ≡ Some next = get_or-set_same numbers (g x) (Some next) None (omega (arith, h.len)) in
        let is : group_number g x ≡ next = new_number x s ∙ sym h.next_is in
        record {
          len = length-set numbers (g x) (Some next) ∙ h.len;
          known = λ b m l q. elim (cases_eq b (g x)) [
            | inl same ↦ (
                let w : number_at (set numbers (g x) (Some next)) b ≡ Some next = ap (number_at (set numbers (g x) (Some next))) same ∙ here in
                let n : next ≡ m = cc in
                (x, omega arith, sym same, is ∙ n))
            | inr ne ↦ (let r = h.known b m l (sym (get_or-set_other numbers (g x) b (Some next) None ne) ∙ q) in (r.0, omega (arith, r.1), r.2, r.3))
          ];
          none = λ b l q y yl ye. elim (cases_eq b (g x)) [
            | inl same ↦ (
                let w : number_at (set numbers (g x) (Some next)) b ≡ Some next = ap (number_at (set numbers (g x) (Some next))) same ∙ here in
                absurd (both_ways true (cc) refl))
            | inr ne ↦ h.none b l (sym (get_or-set_other numbers (g x) b (Some next) None ne) ∙ q) y (let ny : y ≡ x → ⊥ = λ z. ne (sym ye ∙ ap g z) in omega arith) ye
          ];
          next_is = ap (λ z. z + 1) h.next_is ∙ sym (new_count x s);
          groups_are = ap (λ z. z ++ next ∷ []) h.groups_are ∙ ap (λ z. group_numbers g x ++ z ∷ []) (sym is) ∙ sym (groups_more x);
        }

    more : (o : Option ℕ) → number_at numbers (g x) ≡ o → Numbered g (x + 1) (numbers_after o numbers (g x) next) (next_after o next) (groups ++ given o next ∷ [])
    more (Some n) e = more_old n e
    more None e = more_new e

    -- once a state has its number, so have the states up to it
    pub numbered_more : Numbered g (x + 1) (numbers_after (number_at numbers (g x)) numbers (g x) next) (next_after (number_at numbers (g x)) next) (groups ++ given (number_at numbers (g x)) next ∷ [])
    numbered_more = more (number_at numbers (g x)) refl
