-- The numbers that blocks are given, one state after another.
use Rattle.std.specs.Prelude.{◌≡◌, ℕ, ◌+◌, ◌<◌, List, length, Some, None, Option, ◌≢◌, slice_index, slice_index_or, slice_set}
use Rattle.table.specs.Numbering.{group_number, group_count, group_numbers}

-- a list of blocks read as a grouping
abbrev pub at : List ℕ → ℕ → ℕ
at blocks x = slice_index blocks x

abbrev pub number_at : List (Option ℕ) → ℕ → Option ℕ
number_at numbers b = slice_index_or numbers b None

-- the number that a block has, or else the next
abbrev pub given : Option ℕ → ℕ → ℕ
given (Some n) next = n
given None next = next

-- the numbers and the next number, once a block has its number
abbrev pub numbers_after : Option ℕ → List (Option ℕ) → ℕ → ℕ → List (Option ℕ)
numbers_after (Some n) numbers b next = numbers
numbers_after None numbers b next = slice_set numbers b (Some next)

abbrev pub next_after : Option ℕ → ℕ → ℕ
next_after (Some n) next = next
next_after None next = next + 1

-- the states below x have the numbers of their groups: a block has the number of its states' group, a block without a number
-- has no state yet, and the next number is how many groups there are so far
pub record Numbered (g : ℕ → ℕ) (x : ℕ) (numbers : List (Option ℕ)) (next : ℕ) (groups : List ℕ) : Type 0 where
  pub len : length numbers ≡ 2048
  pub known : (b n : ℕ) → b < 2048 → number_at numbers b ≡ Some n → (y : ℕ) × (y < x) × (g y ≡ b) × (group_number g y ≡ n)
  pub none : (b : ℕ) → b < 2048 → number_at numbers b ≡ None → (y : ℕ) → y < x → g y ≢ b
  pub next_is : next ≡ group_count g x
  pub groups_are : groups ≡ group_numbers g x
