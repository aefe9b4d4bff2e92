-- A row that is cut by kind.
use Rattle.std.specs.Prelude.{◌≡◌, ℕ, ◌<◌, ◌≤◌, List, [], length, ℤ, pos}
use Rattle.table.specs.Numbering.{how_many}
use Rattle.partition.specs.Perm.{at, fig}
use Rattle.partition.specs.Stretches.{by}
use Rattle.partition.specs.Cuts.{Cutting}
use Rattle.partition.specs.View.{leads}
use Rattle.partition.specs.declared.stretch.Stretch.{Stretch}

-- the kinds whose smallest state is below x have come to the first m places, a node for each; o0, k0: the order and the blocks before
pub record Sorting (o0 k0 : List ℕ) (ks : List ℤ) (o p k : List ℕ) (ns : List Stretch) (m x : ℕ) : Type 0 where
  pub size : length o ≡ length ks
  pub cut : Cutting o0 k0 [] ks 0 (length ks) o p k ns m
  pub count : length ns ≡ how_many (leads ks) x
  pub done : (i : ℕ) → i < m → (z : ℕ) × (z < x) × (fig ks (at o i) ≡ pos z) × (by k o i ≡ how_many (leads ks) z)
  pub todo : (i z : ℕ) → m ≤ i → i < length ks → fig ks (at o i) ≡ pos z → x ≤ z
