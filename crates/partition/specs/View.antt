-- What a row shows: which node a state is in.
use Rattle.std.specs.Prelude.{◌≡◌, ℕ, ◌+◌, ◌<◌, ◌≤◌, Bool, true, false, ◌&&◌, List, length, ℤ, pos, ◌≢◌, nat_le, nat_lt}
use Rattle.table.specs.Numbering.{how_many}
use Rattle.theory.specs.Rounds.{same_int}
use Rattle.partition.specs.Perm.{at, fig}
use Rattle.partition.specs.Stretches.{stretch_at}
use Rattle.partition.specs.declared.row.Row.{Row}
use Rattle.partition.specs.declared.stretch.Stretch.{Stretch}

-- how many states
abbrev pub size_of : Row → ℕ
size_of r = length r.cells.order.states

-- how many nodes
abbrev pub count_of : Row → ℕ
count_of r = length r.cells.stretches

-- the node, not split, that a state is in
abbrev pub block_of : Row → ℕ → ℕ
block_of r x = at r.cells.block x

abbrev pub is_split : Row → ℕ → Bool
is_split r b = (stretch_at r.cells.stretches b).split

-- whether a place is in a stretch
abbrev pub holds_place : Stretch → ℕ → Bool
holds_place t i = nat_le t.start i && nat_lt i t.end

-- whether a node holds a state
abbrev pub in_node : Row → ℕ → ℕ → Bool
in_node r b x = holds_place (stretch_at r.cells.stretches b) (at r.cells.order.places x)

-- each state has the smallest state of its kind
abbrev pub Kinds : List ℤ → Type 0
Kinds ks = (x : ℕ) → x < length ks → (k : ℕ) × (k ≤ x) × (fig ks x ≡ pos k) × (fig ks k ≡ pos k)

-- whether a state is the smallest of its kind
abbrev pub leads : List ℤ → ℕ → Bool
leads ks x = same_int (fig ks x) (pos x)

-- the row is cut by kind, and a kind's number is how many kinds have a smaller smallest state
pub record Begun (ks : List ℤ) (r : Row) : Type 0 where
  pub size : size_of r ≡ length ks
  pub count : count_of r ≡ how_many (leads ks) (length ks)
  pub block : (x k : ℕ) → x < length ks → fig ks x ≡ pos k → block_of r x ≡ how_many (leads ks) k
  pub whole : (b : ℕ) → b < count_of r → is_split r b ≡ false

-- a leaf of r is cut by figure in r2
pub record Divided (r r2 : Row) (figs : List ℤ) (leaf : ℕ) : Type 0 where
  pub size : size_of r2 ≡ size_of r
  pub two : count_of r + 2 ≤ count_of r2
  -- two states of the leaf come to one node exactly where their figures are equal
  pub together : (x y : ℕ) → x < size_of r → y < size_of r → block_of r x ≡ leaf → block_of r y ≡ leaf → fig figs x ≡ fig figs y → block_of r2 x ≡ block_of r2 y
  pub alike : (x y : ℕ) → x < size_of r → y < size_of r → block_of r x ≡ leaf → block_of r y ≡ leaf → block_of r2 x ≡ block_of r2 y → fig figs x ≡ fig figs y
  -- the others stay
  pub others : (x : ℕ) → x < size_of r → (block_of r x ≢ leaf) → block_of r2 x ≡ block_of r x
  -- the new nodes have the next numbers, and are not split
  pub fresh : (x : ℕ) → x < size_of r → block_of r x ≡ leaf → count_of r ≤ block_of r2 x
  pub whole : (b : ℕ) → count_of r ≤ b → b < count_of r2 → is_split r2 b ≡ false
  -- the old nodes are split as they were, but for the leaf
  pub marked : is_split r2 leaf ≡ true
  pub old : (b : ℕ) → b < count_of r → (b ≢ leaf) → is_split r2 b ≡ is_split r b
  -- an old node has the states that it had
  pub members : (b x : ℕ) → b < count_of r → x < size_of r → in_node r2 b x ≡ in_node r b x

-- all figures of a leaf are equal, and the row is as it was
pub record Unchanged (r r2 : Row) (figs : List ℤ) (leaf : ℕ) : Type 0 where
  pub order : r2.cells.order.states ≡ r.cells.order.states
  pub place : r2.cells.order.places ≡ r.cells.order.places
  pub block : r2.cells.block ≡ r.cells.block
  pub stretches : r2.cells.stretches ≡ r.cells.stretches
  pub alike : (x y : ℕ) → x < size_of r → y < size_of r → block_of r x ≡ leaf → block_of r y ≡ leaf → fig figs x ≡ fig figs y
