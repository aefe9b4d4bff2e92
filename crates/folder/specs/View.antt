-- What a table holds, as its users know it.
use Rattle.std.specs.Prelude.{◌≡◌, ℕ, List, length, Some, None, Option}
use Rattle.weigher.specs.Figure.{Figure}
use Rattle.table.specs.System.{System, size}
use Rattle.table.specs.declared.parts.Node.{Node}
use Rattle.settle.specs.Grouped.{Grouped}
use Rattle.settle.specs.declared.refinement.Refinement.{Refinement}

-- what settling found: how many groups there are, the group of each state, and the record of splits
pub record Settlement : Type 0 where
  pub count : ℕ
  pub groups : List ℕ
  pub nodes : List Node

-- the pile, the states and links, what settling found, which an open table has not, and how many calls were refused
pub record View (W : Type 0) : Type 0 where
  pub pile : W
  pub system : System
  pub settlement : Option Settlement
  pub refusals : ℕ

abbrev pub settlement_of : Option ℕ → Refinement → Option Settlement
settlement_of (Some n) f = Some (record { count = n; groups = f.groups; nodes = f.nodes })
settlement_of None f = None

-- a settled table holds what settling finds under its pile, a group for each state
abbrev pub Sound : Figure → System → Option Settlement → Type 0
Sound fig t (Some s) = Grouped fig t s.groups s.count s.nodes × (length s.groups ≡ size t)
Sound fig t None = Unit {0}
