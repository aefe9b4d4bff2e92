-- Figures into a union of classes agree.
use Rattle.std.proofs.Common.{◌≡◌, ℕ, zero, suc, ◌<◌, max, Bool, true, false, not, ◌&&◌, eqb, ltb, ◌⊎◌, ◌++◌, sym, refl, ap, ◌∙◌, inl, inr, arith, w32, SFits}
use Rattle.std.proofs.ByRecursion.{All-get_or, All-append}
use Rattle.std.proofs.lemmas.Bool.{cases_eq, cases_Bool, and_right, and_left, lt-ltb, le-ltb, ne_eqb}
use Rattle.std.proofs.lemmas.Bool.Decides.{nat_tests}
use Rattle.weigher.specs.Figure.{Figure, Order, Joining, InRange}
use Rattle.table.specs.System.{System, Lawful, LawfulState, Fair, Union, size, class, into, figure_of, sort_of}
use Rattle.theory.proofs.Weights.{into_range, into_same, into_none, into_split}

-- a number above those of the first n states
top : (g : ℕ → ℕ) (n : ℕ) → (K : ℕ) × ((t : ℕ) → t < n → g t < K)
top g zero = (0, λ t h. absurd (omega arith))
top g (suc n) = (suc (max (g n) (top g n).0), λ t h. elim (cases_eq t n) [ inl e ↦ (let q : g t ≡ g n = ap g e in omega arith) | inr ne ↦ (let r = (top g n).1 t (omega arith) in omega arith) ])

-- whether a state below n is in the set and has the number c
pub found : (g : ℕ → ℕ) (S : ℕ → Bool) (c n : ℕ) → ((z : ℕ) × (z < n) × (g z ≡ c) × (S z ≡ true)) ⊎ ((z : ℕ) → z < n → g z ≡ c → S z ≡ false)
found g S c zero = inr (λ z h e. absurd (omega arith))
found g S c (suc n) = go (found g S c n) (cases_eq (g n) c) (cases_Bool (S n))
  where
    go : ((z : ℕ) × (z < n) × (g z ≡ c) × (S z ≡ true)) ⊎ ((z : ℕ) → z < n → g z ≡ c → S z ≡ false) → (g n ≡ c) ⊎ (g n ≡ c → ⊥) → (S n ≡ true) ⊎ (S n ≡ false) → ((z : ℕ) × (z < suc n) × (g z ≡ c) × (S z ≡ true)) ⊎ ((z : ℕ) → z < suc n → g z ≡ c → S z ≡ false)
    go (inl h) d b = inl (h.0, omega (arith, h.1), h.2, h.3)
    go (inr h) (inl e) (inl t) = inl (n, omega arith, e, t)
    go (inr h) (inl e) (inr f) = inr (λ z lt e'. elim (cases_eq z n) [ inl q ↦ ap S q ∙ f | inr ne ↦ h z (omega arith) e' ])
    go (inr h) (inr d) b = inr (λ z lt e'. elim (cases_eq z n) [ inl q ↦ absurd (d (sym (ap g q) ∙ e')) | inr ne ↦ h z (omega arith) e' ])

-- the part of the set below k
below : (ℕ → ℕ) → (ℕ → Bool) → ℕ → ℕ → Bool
below g S k z = S z && ltb (g z) k

-- the part of the set at k
at : (ℕ → ℕ) → (ℕ → Bool) → ℕ → ℕ → Bool
at g S k z = S z && eqb (g z) k

and_true : (b : Bool) → (b && true) ≡ b
and_true true = refl
and_true false = refl

below_none : (g : ℕ → ℕ) (S : ℕ → Bool) (t : ℕ) → below g S 0 t ≡ false
unfolding below
below_none g S t = and_right (S t) (ltb (g t) 0) (le-ltb (g t) 0 (omega arith))

below_low : (g : ℕ → ℕ) (S : ℕ → Bool) (k t : ℕ) → (below g S (suc k) t && ltb (g t) k) ≡ below g S k t
unfolding below
below_low g S k t = grind (arith, nat_tests)

below_high : (g : ℕ → ℕ) (S : ℕ → Bool) (k t : ℕ) → (below g S (suc k) t && not (ltb (g t) k)) ≡ at g S k t
unfolding below at
below_high g S k t = grind (arith, nat_tests)

module _ (fig : Figure) (order : Order fig) (joining : Joining fig) (t : System) (lawful : Lawful t) (g : ℕ → ℕ) (fair : Fair fig t g) (S : ℕ → Bool) (union : Union (size t) g S) (x y : ℕ) (xl : x < size t) (yl : y < size t) (same : g x ≡ g y) (l : ℕ) (ll : l < 64) where
  low : sort_of t x < 4
  low = (All-get_or LawfulState t.states x (record { sort = 0; output = 0 }) xl lawful.states).sort

  -- at one sort, that of x
  into_class : (c : ℕ) → fig (sort_of t x) l (into t x l (class g c)) ≡ fig (sort_of t x) l (into t y l (class g c))
  into_class c = (fair x y xl yl same).2 l c ll ∙ ap (λ s. fig s l (into t y l (class g c))) (sym (fair x y xl yl same).0)

  as_set : (P Q : ℕ → Bool) → ((z : ℕ) → z < size t → P z ≡ Q z) → fig (sort_of t x) l (into t x l Q) ≡ fig (sort_of t x) l (into t y l Q) → fig (sort_of t x) l (into t x l P) ≡ fig (sort_of t x) l (into t y l P)
  as_set P Q e h =
      ap (fig (sort_of t x) l) (into_same t lawful x l P Q e) ∙ h
      ∙ ap (fig (sort_of t x) l) (sym (into_same t lawful y l P Q e))

  as_none : (P : ℕ → Bool) → ((z : ℕ) → z < size t → P z ≡ false) → fig (sort_of t x) l (into t x l P) ≡ fig (sort_of t x) l (into t y l P)
  as_none P e = ap (fig (sort_of t x) l) (into_none t lawful x l P e ∙ sym (into_none t lawful y l P e))

  into_at : (k : ℕ) → fig (sort_of t x) l (into t x l (at g S k)) ≡ fig (sort_of t x) l (into t y l (at g S k))
  unfolding at
  into_at k = elim (found g S k (size t)) [
    | inl h ↦ as_set (at g S k) (class g k) (λ z zl. elim (cases_eq (g z) k) [
      | inl e ↦ rw (union z h.0 zl h.1 (e ∙ sym h.2), h.3)
      | inr ne ↦ rw (ne_eqb (g z) k ne) (and_right (S z) false refl)
    ]) (into_class k)
    | inr h ↦ as_none (at g S k) (λ z zl. elim (cases_eq (g z) k) [
      | inl e ↦ and_left (S z) (eqb (g z) k) (h z zl e)
      | inr ne ↦ and_right (S z) (eqb (g z) k) (ne_eqb (g z) k ne)
    ])
  ]

  into_below : (k : ℕ) → fig (sort_of t x) l (into t x l (below g S k)) ≡ fig (sort_of t x) l (into t y l (below g S k))
  into_below zero = as_none (below g S 0) (λ z zl. below_none g S z)
  into_below (suc k) = split x ∙ joining (sort_of t x) l low ll (into t x l (below g S k)) (into t y l (below g S k)) (into t x l (at g S k)) (into t y l (at g S k)) (range x (below g S k)) (range y (below g S k)) (range x (at g S k)) (range y (at g S k)) (into_below k) (into_at k) ∙ sym (split y)
    where
      range : (z : ℕ) (P : ℕ → Bool) → InRange (into t z l P)
      range z P = into_range t lawful z l P

      split : (z : ℕ) → fig (sort_of t x) l (into t z l (below g S (suc k))) ≡ fig (sort_of t x) l (into t z l (below g S k) ++ into t z l (at g S k))
      split z =
          order (sort_of t x) l low ll (into t z l (below g S (suc k))) (into t z l (below g S k) ++ into t z l (at g S k))
          (range z (below g S (suc k))) (All-append (SFits w32) (into t z l (below g S k)) (into t z l (at g S k)) (range z (below g S k)) (range z (at g S k)))
          (into_split t lawful z l (below g S (suc k)) (below g S k) (at g S k) (λ z. ltb (g z) k) (λ z zl. below_low g S k z) (λ z zl. below_high g S k z))

  pub unions : figure_of fig t x l S ≡ figure_of fig t y l S
  unfolding below
  unions =
      let K = top g (size t) in
      as_set S (below g S K.0) (λ z zl. rw (lt-ltb (g z) K.0 (K.1 z zl)) (sym (and_true (S z)))) (into_below K.0)
      ∙ ap (λ s. fig s l (into t y l S)) (fair x y xl yl same).0
