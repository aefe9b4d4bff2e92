-- A summary of a list that takes one element after another, where the order of two does not matter.
use Rattle.std.specs.Prelude.{◌≡◌, ℕ, zero, suc, ◌<◌, List, [], ◌∷◌, ◌++◌, length, slice_index_or, slice_set, refl}
use Rattle.std.proofs.Common.{sym, ap, ◌∙◌, arith}
use Rattle.std.specs.List.Sorted.{IsPermutation}
use Rattle.std.specs.List.{swap as exchanged}
use Rattle.std.proofs.lemmas.List.Sorted.{IsPermutation-keeps, IsPermutation-to_front, IsPermutation-append_comm}

module _ {X M : Type 0} (h : List X → M) (step : X → M → M) (cons : (x : X) (xs : List X) → h (x ∷ xs) ≡ step x (h xs)) (swap : (x y : X) (m : M) → step x (step y m) ≡ step y (step x m)) where
  -- one element for another, and that one before it
  placed : (xs : List X) (j : ℕ) (y d : X) → j < length xs → step (slice_index_or xs j d) (h (slice_set xs j y)) ≡ step y (h xs)
  placed [] j y d l = absurd (omega arith)
  placed (x ∷ xs) zero y d l = ap (step x) (cons y xs) ∙ swap x y (h xs) ∙ ap (step y) (sym (cons x xs))
  placed (x ∷ xs) (suc j) y d l =
      ap (step (slice_index_or xs j d)) (cons x (slice_set xs j y)) ∙ swap (slice_index_or xs j d) x (h (slice_set xs j y)) ∙ ap (step x) (placed xs j y d (omega arith))
      ∙ swap x y (h xs) ∙ ap (step y) (sym (cons x xs))

  swapped : (xs : List X) (i j : ℕ) (d : X) → i < length xs → j < length xs → h (slice_set (slice_set xs i (slice_index_or xs j d)) j (slice_index_or xs i d)) ≡ h xs
  swapped [] i j d p q = absurd (omega arith)
  swapped (x ∷ xs) zero zero d p q = refl
  swapped (x ∷ xs) zero (suc j) d p q = cons (slice_index_or xs j d) (slice_set xs j x) ∙ placed xs j x d (omega arith) ∙ sym (cons x xs)
  swapped (x ∷ xs) (suc i) zero d p q = cons (slice_index_or xs i d) (slice_set xs i x) ∙ placed xs i x d (omega arith) ∙ sym (cons x xs)
  swapped (x ∷ xs) (suc i) (suc j) d p q =
      cons x (slice_set (slice_set xs i (slice_index_or xs j d)) j (slice_index_or xs i d)) ∙ ap (step x) (swapped xs i j d (omega arith) (omega arith)) ∙ sym (cons x xs)

  exchange : (xs : List X) (i j : ℕ) → i < length xs → j < length xs → h (exchanged xs i j) ≡ h xs
  exchange [] i j p q = refl
  exchange (x ∷ xs) i j p q = swapped (x ∷ xs) i j x p q

  pub gather_shuffled : (u v : List X) → IsPermutation u v → h u ≡ h v
  gather_shuffled u v s = sym (IsPermutation-keeps u (λ l. h l ≡ h u) refl (λ l i j p q e. exchange l i j p q ∙ e) v s)

  -- the back may be replaced
  back : (u v v' : List X) → h v ≡ h v' → h (u ++ v) ≡ h (u ++ v')
  back [] v v' e = e
  back (x ∷ u) v v' e = cons x (u ++ v) ∙ ap (step x) (back u v v' e) ∙ sym (cons x (u ++ v'))

  pub gather_joins : (u u' v v' : List X) → h u ≡ h u' → h v ≡ h v' → h (u ++ v) ≡ h (u' ++ v')
  gather_joins u u' v v' p q =
      back u v v' q ∙ gather_shuffled (u ++ v') (v' ++ u) (IsPermutation-append_comm u v') ∙ back v' u u' p
      ∙ gather_shuffled (v' ++ u') (u' ++ v') (IsPermutation-append_comm v' u')

  pub gather_push : (xs : List X) (x : X) → h (xs ++ x ∷ []) ≡ step x (h xs)
  gather_push xs x = gather_shuffled (xs ++ x ∷ []) (x ∷ xs) (IsPermutation-to_front xs x) ∙ cons x xs
