-- The smallest state of a group, and the group numbers.
use Rattle.std.proofs.Common.{◌≡◌, ℕ, zero, suc, ◌+◌, ◌≤◌, Bool, true, eqb, ◌↔◌, Decides, sym, refl, ap, ◌∙◌, subst, inl, inr, arith}
use Rattle.std.proofs.lemmas.Bool.{both_ways, cases_Bool, cond-true, cond-false}
use Rattle.std.proofs.lemmas.Bool.Decides.{Decides-eqb}
use Rattle.table.specs.Numbering.{first, earliest, how_many, smallest, is_smallest, group_number, group_count}
use Rattle.theory.specs.Theorems.{Numbers}
use Rattle.theory.proofs.Counts.{count_up, count_back, count_same, count_at}

first_passes : (P : ℕ → Bool) (f i j : ℕ) → i + f ≡ j → P j ≡ true → P (first P f i) ≡ true
unfolding first
first_passes P zero i j e t = ap P (omega arith) ∙ t
first_passes P (suc f) i j e t = elim (cases_Bool (P i)) [
  | inl u ↦ ap P (cond-true (P i) _ _ u) ∙ u
  | inr u ↦ ap P (cond-false (P i) _ _ u) ∙ first_passes P f (suc i) j (omega arith) t
]

first_least : (P : ℕ → Bool) (f i j : ℕ) → i ≤ j → P j ≡ true → first P f i ≤ j
unfolding first
first_least P zero i j h t = h
first_least P (suc f) i j h t = elim (cases_Bool (P i)) [
  | inl u ↦ omega (arith, cond-true (P i) i (first P f (suc i)) u)
  | inr u ↦ (let ne : i ≡ j → ⊥ = λ q. both_ways (P j) (ap P (sym q) ∙ u) t in omega (arith, cond-false (P i) i (first P f (suc i)) u, first_least P f (suc i) j (omega arith) t))
]

-- the test says which states are related, and that is an equivalence
pub record Relating (T : ℕ → ℕ → Bool) (R : ℕ → ℕ → Type 0) : Type 0 where
  pub decides : (x y : ℕ) → Decides (T x y) (R x y)
  pub itself : (x : ℕ) → R x x
  pub back : (x y : ℕ) → R x y → R y x
  pub on : (x y z : ℕ) → R x y → R y z → R x z

module _ (T : ℕ → ℕ → Bool) (R : ℕ → ℕ → Type 0) (relating : Relating T R) where
  pub earliest_like : (x : ℕ) → R x (earliest T x)
  unfolding earliest
  earliest_like x = (relating.decides x (earliest T x)).0 (first_passes (T x) x 0 x (omega arith) ((relating.decides x x).1 (relating.itself x)))

  pub earliest_least : (x y : ℕ) → R x y → earliest T x ≤ y
  unfolding earliest
  earliest_least x y r = first_least (T x) x 0 y (omega arith) ((relating.decides x y).1 r)

  pub earliest_same : (x y : ℕ) → (earliest T x ≡ earliest T y) ↔ R x y
  earliest_same x y = (
    λ e. relating.on x (earliest T x) y (earliest_like x) (relating.back y (earliest T x) (subst (R y) (sym e) (earliest_like y))),
    λ r. omega (arith, earliest_least x (earliest T y) (relating.on x y (earliest T y) r (earliest_like y)), earliest_least y (earliest T x) (relating.on y x (earliest T x) (relating.back x y r) (earliest_like x))),
  )

module _ (g : ℕ → ℕ) where
  by_number : Relating (λ u v. eqb (g u) (g v)) (λ u v. g u ≡ g v)
  by_number = record { decides = λ x y. Decides-eqb (g x) (g y); itself = λ x. refl; back = λ x y e. sym e; on = λ x y z e f. e ∙ f }

  pub smallest_like : (x : ℕ) → g (smallest g x) ≡ g x
  unfolding smallest
  smallest_like x = sym (earliest_like _ (λ u v. g u ≡ g v) by_number x)

  pub smallest_least : (x y : ℕ) → g y ≡ g x → smallest g x ≤ y
  unfolding smallest
  smallest_least x y e = earliest_least _ (λ u v. g u ≡ g v) by_number x y (sym e)

  pub smallest_same : (x y : ℕ) → (smallest g x ≡ smallest g y) ↔ (g x ≡ g y)
  unfolding smallest
  smallest_same x y = earliest_same _ (λ u v. g u ≡ g v) by_number x y

  pub is_smallest_lem : (x : ℕ) → Decides (is_smallest g x) (smallest g x ≡ x)
  unfolding is_smallest
  is_smallest_lem x = Decides-eqb (smallest g x) x

  smallest_passes : (x : ℕ) → is_smallest g (smallest g x) ≡ true
  smallest_passes x = (is_smallest_lem (smallest g x)).1 ((smallest_same (smallest g x) x).1 (smallest_like x))

pub numbers : Numbers
unfolding group_number group_count
numbers g n = (
  λ x. (smallest_like g x, smallest_least g x),
  λ x y. (λ e. (smallest_same g x y).0 (count_same (is_smallest g) _ _ (smallest_passes g x) (smallest_passes g y) e), λ e. ap (how_many (is_smallest g)) ((smallest_same g x y).1 e)),
  λ x h. count_up (is_smallest g) (smallest g x) n (smallest_passes g x) (omega (arith, smallest_least g x x refl)),
  λ k h. let r = count_at (is_smallest g) n k h in (r.0, r.1, ap (how_many (is_smallest g)) ((is_smallest_lem g r.0).0 r.2) ∙ r.3),
  λ x y. (λ l. count_up (is_smallest g) _ _ (smallest_passes g x) l, λ l. count_back (is_smallest g) _ _ l),
)
