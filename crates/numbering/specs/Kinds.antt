-- The smallest states of each sort and output.
use Rattle.std.specs.Prelude.{◌≡◌, ℕ, ◌<◌, Bool, ◌&&◌, List, [], length, ℤ, pos, ◌==◌, slice_index_or}
use Rattle.table.specs.System.{System}
use Rattle.table.specs.Numbering.{earliest}
use Rattle.table.specs.declared.parts.State.{State}
use Rattle.theory.specs.Rounds.{alike}

-- whether two states have one sort and output
abbrev pub same_kind : State → State → Bool
same_kind a b = a.sort == b.sort && a.output == b.output

-- states with no links
abbrev pub bare : List State → System
bare states = record { states = states; links = [] }

-- the smallest state of x's sort and output
abbrev pub kind_of : List State → ℕ → ℕ
kind_of states x = earliest (alike (bare states)) x

-- figures that say of each state of a system of these states which is the smallest of its sort and output
abbrev pub Kinds : List State → List ℤ → Type 0
Kinds states figures = (t : System) → t.states ≡ states → (x : ℕ) → x < length states → slice_index_or figures x (pos 0) ≡ pos (earliest (alike t) x)
