-- The kinds of states before the first split.
use Rattle.std.specs.Prelude.{◌≡◌, ℕ, ◌<◌, List, length, ℤ, pos}
use Rattle.table.specs.System.{System, size}
use Rattle.table.specs.Numbering.{earliest}
use Rattle.theory.specs.Rounds.{alike}
use Rattle.partition.specs.Perm.{fig}

-- each state has the smallest state of its sort and output
pub record KindsOf (t : System) (kinds : List ℤ) : Type 0 where
  pub len : length kinds ≡ size t
  pub each : (x : ℕ) → x < size t → fig kinds x ≡ pos (earliest (alike t) x)
