-- What holds while a table is being settled.
use Rattle.std.specs.Prelude.{◌≡◌, ℕ, ◌<◌, Bool, true, false, List, [], ◌++◌, length, slice_index_or}
use Rattle.weigher.specs.Figure.{Figure}
use Rattle.table.specs.System.{System, size, into, figure_of}
use Rattle.table.specs.declared.parts.Node.{Node}
use Rattle.theory.specs.Record.{Record, Unsplit, holds}
use Rattle.partition.specs.View.{size_of, count_of, block_of, is_split, in_node}
use Rattle.partition.specs.declared.row.Row.{Row}

-- a row and a valid record have the same nodes
pub record Shown (fig : Figure) (t : System) (nodes : List Node) (r : Row) : Type 0 where
  pub valid : Record fig t nodes
  pub sized : size_of r ≡ size t
  pub count : count_of r ≡ length nodes
  pub members : (b x : ℕ) → b < length nodes → x < size t → in_node r b x ≡ holds fig t nodes b x
  pub whole : (b : ℕ) → b < length nodes → is_split r b ≡ false → Unsplit nodes b
  pub parted : (b : ℕ) → b < length nodes → is_split r b ≡ true → Unsplit nodes b → ⊥

-- the states of a block have one figure for a label and a marker
abbrev pub EvenAt : Figure → System → List Node → Row → ℕ → ℕ → ℕ → Type 0
EvenAt fig t nodes r b m l =
    (x y : ℕ) → x < size t → y < size t → block_of r x ≡ b → block_of r y ≡ b →
    figure_of fig t x l (holds fig t nodes m) ≡ figure_of fig t y l (holds fig t nodes m)

-- for every label
abbrev pub Even : Figure → System → List Node → Row → ℕ → ℕ → Type 0
Even fig t nodes r b m = (l : ℕ) → l < 64 → EvenAt fig t nodes r b m l

-- further splits: the record has grown, and blocks are parts of what they were
pub record Onward (fig : Figure) (t : System) (nodes : List Node) (r : Row) (nodes2 : List Node) (r2 : Row) : Type 0 where
  pub shown : Shown fig t nodes2 r2
  pub more : (ms : List Node) × (nodes2 ≡ nodes ++ ms)
  pub finer : (x y : ℕ) → x < size t → y < size t → block_of r2 x ≡ block_of r2 y → block_of r x ≡ block_of r y

-- at most one block was split: the states that keep an old block keep theirs, and the block b is even or gone
pub record Evened (fig : Figure) (t : System) (nodes : List Node) (r : Row) (b m : ℕ) (nodes2 : List Node) (r2 : Row) : Type 0 where
  pub onward : Onward fig t nodes r nodes2 r2
  pub stays : (x : ℕ) → x < size t → block_of r2 x < length nodes → block_of r2 x ≡ block_of r x
  pub even : Even fig t nodes2 r2 b m

-- two rows with the same nodes and blocks
pub record Same (r r2 : Row) : Type 0 where
  pub size : size_of r2 ≡ size_of r
  pub count : count_of r2 ≡ count_of r
  pub block : (x : ℕ) → block_of r2 x ≡ block_of r x
  pub split : (b : ℕ) → is_split r2 b ≡ is_split r b
  pub member : (b x : ℕ) → in_node r2 b x ≡ in_node r b x

-- a label that is not marked has no link into the marker
abbrev pub Idle : Figure → System → List Node → ℕ → List Bool → Type 0
Idle fig t nodes m used = (l : ℕ) → slice_index_or used l false ≡ false → (x : ℕ) → into t x l (holds fig t nodes m) ≡ []
