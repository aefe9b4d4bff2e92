-- How many numbers below a bound pass a test.
use Rattle.std.proofs.Common.{◌≡◌, ℕ, zero, suc, ◌<◌, ◌≤◌, Bool, true, false, sym, refl, ap, ◌∙◌, inl, inr, arith}
use Rattle.std.proofs.lemmas.Bool.{both_ways, cases_Bool, cases_eq, cases_lt, cases_order, cond-true, cond-false}
use Rattle.table.specs.Numbering.{how_many}

module _ (P : ℕ → Bool) where
  pub count_yes : (n : ℕ) → P n ≡ true → how_many P (suc n) ≡ suc (how_many P n)
  unfolding how_many
  count_yes n e = cond-true (P n) _ _ e

  pub count_no : (n : ℕ) → P n ≡ false → how_many P (suc n) ≡ how_many P n
  unfolding how_many
  count_no n e = cond-false (P n) _ _ e

  pub count_none : how_many P 0 ≡ 0
  unfolding how_many
  count_none = refl

  pub count_bound : (n : ℕ) → how_many P n ≤ n
  count_bound zero = let e = count_none in omega arith
  count_bound (suc n) = let b = count_bound n in elim (cases_Bool (P n)) [ inl t ↦ omega (arith, count_yes n t) | inr f ↦ omega (arith, count_no n f) ]

  count_rises : (a b : ℕ) → a ≤ b → how_many P a ≤ how_many P b
  count_rises a zero h = let e : how_many P a ≡ how_many P 0 = ap (how_many P) (omega arith) in omega arith
  count_rises a (suc b) h = elim (cases_eq a (suc b)) [
    | inl e ↦ (let q : how_many P a ≡ how_many P (suc b) = ap (how_many P) e in omega arith)
    | inr ne ↦ (let r = count_rises a b (omega arith) in elim (cases_Bool (P b)) [ inl t ↦ omega (arith, count_yes b t) | inr f ↦ omega (arith, count_no b f) ])
  ]

  -- past a number that passes there is one more
  pub count_up : (a b : ℕ) → P a ≡ true → a < b → how_many P a < how_many P b
  count_up a b t h = omega (arith, count_yes a t, count_rises (suc a) b (omega arith))

  pub count_back : (a b : ℕ) → how_many P a < how_many P b → a < b
  count_back a b h = elim (cases_lt a b) [ inl l ↦ l | inr l ↦ absurd (omega (arith, count_rises b a l)) ]

  pub count_same : (a b : ℕ) → P a ≡ true → P b ≡ true → how_many P a ≡ how_many P b → a ≡ b
  count_same a b s t e = elim (cases_order a b) [
    | inl q ↦ q
    | inr (inl l) ↦ absurd (omega (arith, count_up a b s l))
    | inr (inr l) ↦ absurd (omega (arith, count_up b a t l))
  ]

  -- every number below the count is the count at one that passes
  pub count_at : (n k : ℕ) → k < how_many P n → (x : ℕ) × (x < n) × (P x ≡ true) × (how_many P x ≡ k)
  count_at zero k h = absurd (omega (arith, count_none))
  count_at (suc n) k h = elim (cases_lt k (how_many P n)) [
    | inl l ↦ (let r = count_at n k l in (r.0, omega (arith, r.1), r.2, r.3))
    | inr l ↦ elim (cases_Bool (P n)) [ inl t ↦ (n, omega arith, t, omega (arith, count_yes n t)) | inr f ↦ absurd (omega (arith, count_no n f)) ]
  ]

module _ (P Q : ℕ → Bool) where
  pub count_within : (n : ℕ) → ((x : ℕ) → x < n → P x ≡ true → Q x ≡ true) → how_many P n ≤ how_many Q n
  count_within zero h = omega (arith, count_none P, count_none Q)
  count_within (suc n) h =
      let r = count_within n (λ x l. h x (omega arith)) in
      elim (cases_Bool (P n)) [
        | inl t ↦ omega (arith, count_yes P n t, count_yes Q n (h n (omega arith) t))
        | inr f ↦ elim (cases_Bool (Q n)) [ inl t ↦ omega (arith, count_no P n f, count_yes Q n t) | inr u ↦ omega (arith, count_no P n f, count_no Q n u) ]
      ]

  -- no more pass the second test, so they are the same ones
  pub count_agree : (n : ℕ) → ((x : ℕ) → x < n → P x ≡ true → Q x ≡ true) → how_many Q n ≤ how_many P n → (x : ℕ) → x < n → Q x ≡ true → P x ≡ true
  count_agree zero h e x l t = absurd (omega arith)
  count_agree (suc n) h e x l t = elim (cases_Bool (P n)) [
    | inl u ↦ elim (cases_eq x n) [ inl q ↦ ap P q ∙ u | inr ne ↦ count_agree n low (omega (arith, count_yes P n u, count_yes Q n (h n (omega arith) u))) x (omega arith) t ]
    | inr f ↦ elim (cases_Bool (Q n)) [
      | inl v ↦ absurd (omega (arith, count_within n low, count_no P n f, count_yes Q n v))
      | inr v ↦ elim (cases_eq x n) [ inl q ↦ absurd (both_ways (Q n) v (sym (ap Q q) ∙ t)) | inr ne ↦ count_agree n low (omega (arith, count_no P n f, count_no Q n v)) x (omega arith) t ]
    ]
  ]
    where
      low : (z : ℕ) → z < n → P z ≡ true → Q z ≡ true
      low z zl = h z (omega arith)

  pub count_like : (n : ℕ) → ((x : ℕ) → x < n → P x ≡ Q x) → how_many P n ≡ how_many Q n
  unfolding how_many
  count_like zero h = refl
  count_like (suc n) h = rw (h n (omega arith), count_like n (λ x l. h x (omega arith)))
