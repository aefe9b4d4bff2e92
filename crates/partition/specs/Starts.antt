-- A row before the first cut.
use Rattle.std.specs.Prelude.{◌≡◌, ℕ, ◌<◌, List, length}
use Rattle.partition.specs.Perm.{at}

-- 0, 1 and so on, below n
pub record Counted (xs : List ℕ) (n : ℕ) : Type 0 where
  pub len : length xs ≡ n
  pub each : (k : ℕ) → k < n → at xs k ≡ k
