-- The smallest state like another, as it is looked for.
use Rattle.std.proofs.Common.{◌≡◌, ℕ, zero, suc, ◌+◌, ◌<◌, ◌≤◌, Bool, true, false, List, length, take, get_or, Some, None, position, cond, nat_lt, sym, ap, ◌∙◌, subst, inl, inr, arith}
use Rattle.std.specs.Option.{unwrap_or}
use Rattle.std.specs.List.{position_or_len}
use Rattle.std.proofs.lemmas.Bool.{cond-true, cond-false, cases_Bool, cases_lt, lt-ltb, le-ltb}
use Rattle.std.proofs.lemmas.List.{get_or-take, length-take-le}
use Rattle.std.proofs.lemmas.List.Sums.{position_or_len_is}
use Rattle.table.specs.System.{System, state_at}
use Rattle.table.specs.Numbering.{first, earliest}
use Rattle.table.specs.declared.parts.State.{State}
use Rattle.theory.specs.Rounds.{alike}
use Rattle.numbering.specs.Kinds.{same_kind, bare, kind_of}

-- the first number that passes a test: none before it does, and it does unless all were tried
module _ (P : ℕ → Bool) where
  first_low : (f i : ℕ) → first P f i ≤ i + f
  unfolding first
  first_low zero i = omega arith
  first_low (suc f) i = elim (cases_Bool (P i)) [
    | inl t ↦ omega (arith, cond-true (P i) i (first P f (suc i)) t)
    | inr u ↦ omega (arith, cond-false (P i) i (first P f (suc i)) u, first_low f (suc i))
  ]

  first_none : (f i k : ℕ) → i ≤ k → k < first P f i → P k ≡ false
  unfolding first
  first_none zero i k a b = absurd (omega arith)
  first_none (suc f) i k a b = elim (cases_Bool (P i)) [
    | inl t ↦ absurd (omega (arith, cond-true (P i) i (first P f (suc i)) t))
    | inr u ↦ elim (cases_lt i k) [
      | inl l ↦ first_none f (suc i) k (omega arith) (omega (arith, cond-false (P i) i (first P f (suc i)) u))
      | inr g ↦ let e : i ≡ k = omega arith in subst (λ n. P n ≡ false) e u
    ]
  ]

  first_some : (f i : ℕ) → first P f i < i + f → P (first P f i) ≡ true
  unfolding first
  first_some zero i l = absurd (omega arith)
  first_some (suc f) i l = elim (cases_Bool (P i)) [
    | inl t ↦ rw (cond-true (P i) i (first P f (suc i)) t) t
    | inr u ↦ let e = cond-false (P i) i (first P f (suc i)) u in rw e (first_some f (suc i) (omega (arith, e)))
  ]

module _ (states : List State) (x : ℕ) where
  pub kind_low : kind_of states x ≤ x
  unfolding earliest
  kind_low = let low = first_low (alike (bare states) x) x 0 in omega arith

  -- the first of the states before x that is like x, or else x itself
  pub kind_found : x < length states → unwrap_or (position (same_kind (state_at (bare states) x)) (take x states)) x ≡ kind_of states x
  unfolding earliest alike
  kind_found xl =
      let P : ℕ → Bool = alike (bare states) x in
      let p : State → Bool = same_kind (state_at (bare states) x) in
      let d : State = record { sort = 0; output = 0 } in
      let e : ℕ = kind_of states x in
      let n : length (take x states) ≡ x = length-take-le x states (omega arith) in
      let low : e ≤ x = kind_low in
      let none : (k : ℕ) → k < e → p (get_or (take x states) k d) ≡ false = λ k l. ap p (get_or-take x states k d (omega arith)) ∙ first_none P x 0 k (omega arith) l in
      let some : e < length (take x states) → p (get_or (take x states) e d) ≡ true = λ l. ap p (get_or-take x states e d (omega arith)) ∙ first_some P x 0 (omega arith) in
      let is : position_or_len p (take x states) ≡ e = position_or_len_is p (take x states) e d (omega arith) none some in
      let found : ℕ → Bool → ℕ = λ z b. unwrap_or (cond b (Some z) None) x in
      ap (λ z. found z (nat_lt z (length (take x states)))) is ∙ elim (cases_lt e x) [
        | inl l ↦ ap (found e) (lt-ltb e (length (take x states)) (omega arith))
        | inr g ↦ ap (found e) (le-ltb e (length (take x states)) (omega arith)) ∙ (omega arith)
      ]

pub kind_in : (t : System) (states : List State) (x : ℕ) → t.states ≡ states → kind_of states x ≡ earliest (alike t) x
unfolding alike
kind_in t states x e = ap (λ s. kind_of s x) (sym e)
