-- A row of numbers and its inverse.
use Rattle.std.specs.Prelude.{◌≡◌, ℕ, ◌<◌, ◌≤◌, List, length, ℤ, pos, ◌≢◌, slice_index, slice_index_or}

abbrev pub at : List ℕ → ℕ → ℕ
at xs k = slice_index xs k

abbrev pub fig : List ℤ → ℕ → ℤ
fig figs x = slice_index_or figs x (pos 0)

-- each element is below n
abbrev pub Low : ℕ → List ℕ → Type 0
Low n xs = (k : ℕ) → k < length xs → at xs k < n

-- ys leads back from where xs leads
abbrev pub Back : List ℕ → List ℕ → Type 0
Back xs ys = (k : ℕ) → k < length xs → at ys (at xs k) ≡ k

-- order is a permutation, and place its inverse
pub record Perm (order place : List ℕ) : Type 0 where
  pub same : length place ≡ length order
  pub low : Low (length order) order
  pub back : Back order place
  pub low_place : Low (length order) place
  pub fore : Back place order

-- the two are the same but for start..end
pub record Outside (xs ys : List ℕ) (start end : ℕ) : Type 0 where
  pub len : length ys ≡ length xs
  pub below : (k : ℕ) → k < start → at ys k ≡ at xs k
  pub above : (k : ℕ) → end ≤ k → at ys k ≡ at xs k

-- what stood at i stands at j, and the other way round
pub record Swapped (xs ys : List ℕ) (i j : ℕ) : Type 0 where
  pub len : length ys ≡ length xs
  pub at_i : at ys i ≡ at xs j
  pub at_j : at ys j ≡ at xs i
  pub other : (k : ℕ) → (k ≢ i) → (k ≢ j) → at ys k ≡ at xs k
