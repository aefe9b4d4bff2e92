-- The numbers of groups: from 0, by the smallest states of the groups, in rising order.
use Rattle.std.specs.Prelude.{ℕ, zero, suc, Bool, cond, List, map, ◌==◌, nat_eq}
use Rattle.std.specs.List.{range_with_len}

-- the first number from i on that passes a test, or i + f where none before that does
unfoldable pub first : (ℕ → Bool) → ℕ → ℕ → ℕ
first P zero i = i
first P (suc f) i = let rest = first P f (suc i) in cond (P i) i rest

-- the smallest state that x is like: itself at the latest
unfoldable pub earliest : (ℕ → ℕ → Bool) → ℕ → ℕ
earliest like x = first (like x) x 0

-- how many numbers below n pass a test
unfoldable pub how_many : (ℕ → Bool) → ℕ → ℕ
how_many P zero = 0
how_many P (suc n) = let rest = how_many P n in cond (P n) (suc rest) rest

-- the smallest state of x's group
unfoldable pub smallest : (ℕ → ℕ) → ℕ → ℕ
smallest g x = earliest (λ u v. nat_eq (g u) (g v)) x

unfoldable pub is_smallest : (ℕ → ℕ) → ℕ → Bool
is_smallest g x = smallest g x == x

-- the number of x's group: how many groups have a smaller smallest state
unfoldable pub group_number : (ℕ → ℕ) → ℕ → ℕ
group_number g x = how_many (is_smallest g) (smallest g x)

-- how many groups the first n states make
unfoldable pub group_count : (ℕ → ℕ) → ℕ → ℕ
group_count g n = how_many (is_smallest g) n

-- the group numbers of the first n states
unfoldable pub group_numbers : (ℕ → ℕ) → ℕ → List ℕ
group_numbers g n = map (group_number g) (range_with_len 0 n)
