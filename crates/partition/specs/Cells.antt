-- The cuts of a row, between its cells before and after.
use Rattle.std.specs.Prelude.{◌≡◌, ℕ, List, ℤ}
use Rattle.partition.specs.Stretches.{Whole}
use Rattle.partition.specs.Cuts.{Taken, Cutting}
use Rattle.partition.specs.Kinds.{Sorting}
use Rattle.partition.specs.declared.cells.Cells.{Cells}
use Rattle.partition.specs.declared.stretch.Stretch.{Stretch}

abbrev pub TakesRun : Cells → List ℤ → ℕ → ℕ → ℤ → Cells → ℕ → Type 0
TakesRun c figs m end f c2 next = Taken c.order.states c.block c.stretches figs m end f c2.order.states c2.order.places c2.block c2.stretches next

-- the stretch start..end is cut into runs; ns: the nodes before
abbrev pub Cuts : Cells → List Stretch → List ℤ → ℕ → ℕ → Cells → Type 0
Cuts c ns figs start end c2 = Cutting c.order.states c.block ns figs start end c2.order.states c2.order.places c2.block c2.stretches end

abbrev pub SortsByKind : Cells → List ℤ → Cells → ℕ → ℕ → Type 0
SortsByKind c ks c2 m x = Sorting c.order.states c.block ks c2.order.states c2.order.places c2.block c2.stretches m x

abbrev pub WholeCells : Cells → Type 0
WholeCells c = Whole c.order.states c.order.places c.block c.stretches

pub record SameCells (c c2 : Cells) : Type 0 where
  pub states : c2.order.states ≡ c.order.states
  pub places : c2.order.places ≡ c.order.places
  pub block : c2.block ≡ c.block
  pub stretches : c2.stretches ≡ c.stretches
