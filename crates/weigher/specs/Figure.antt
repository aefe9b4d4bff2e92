-- What a weigher means: its figure, and the two laws that make it lawful.
use Rattle.std.specs.Prelude.{◌≡◌, ℕ, ◌<◌, List, ◌++◌, ℤ, FitsSigned}
use Rattle.std.specs.Int.{w32}
use Rattle.std.specs.List.{AllByRecursion}
use Rattle.std.specs.List.Sorted.{IsPermutation}

-- the figure of a list of weights, at a sort and a label
abbrev pub Figure : Type 0
Figure = ℕ → ℕ → List ℤ → ℤ

-- every weight fits 32 bits, signed
abbrev pub InRange : List ℤ → Type 0
InRange ws = AllByRecursion (FitsSigned w32) ws

-- a list and any rearrangement of it have the same figure
abbrev pub Order : Figure → Type 0
Order fig = (s l : ℕ) → s < 4 → l < 64 → (u v : List ℤ) → InRange u → InRange v → IsPermutation u v → fig s l u ≡ fig s l v

-- lists of one figure can stand for one another in a longer list
abbrev pub Joining : Figure → Type 0
Joining fig =
    (s l : ℕ) → s < 4 → l < 64 → (u u' v v' : List ℤ) → InRange u → InRange u' → InRange v → InRange v' →
    fig s l u ≡ fig s l u' → fig s l v ≡ fig s l v' → fig s l (u ++ v) ≡ fig s l (u' ++ v')
