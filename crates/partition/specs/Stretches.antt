-- The nodes of a row: stretches of it.
use Rattle.std.specs.Prelude.{◌≡◌, ℕ, ◌+◌, ◌-◌, ◌*◌, ◌<◌, ◌≤◌, true, false, cond, List, [], ◌∷◌, length, slice_index_or}
use Rattle.partition.specs.Perm.{Perm, at}
use Rattle.partition.specs.declared.stretch.Stretch.{Stretch}

abbrev pub blank : Stretch
blank = record { start = 0; end = 0; split = false }

abbrev pub stretch_at : List Stretch → ℕ → Stretch
stretch_at ns b = slice_index_or ns b blank

abbrev pub marked : Stretch → Stretch
marked t = record { start = t.start; end = t.end; split = true }

-- the block of the state at place i
abbrev pub by : List ℕ → List ℕ → ℕ → ℕ
by block order i = at block (at order i)

-- how many more nodes a leaf could be cut into
abbrev pub slack_of : Stretch → ℕ
slack_of t = cond t.split 0 (t.end - t.start - 1)

abbrev pub slack : List Stretch → ℕ
slack [] = 0
slack (t ∷ ts) = slack_of t + slack ts

abbrev pub Filled : List Stretch → Type 0
Filled ns = (b : ℕ) → b < length ns → (stretch_at ns b).start < (stretch_at ns b).end

abbrev pub Within : ℕ → List Stretch → Type 0
Within n ns = (b : ℕ) → b < length ns → (stretch_at ns b).end ≤ n

abbrev pub Known : List ℕ → List ℕ → List Stretch → Type 0
Known order block ns = (i : ℕ) → i < length order → by block order i < length ns

-- each state is in a leaf: a node that is not split
abbrev pub Leaf : List ℕ → List ℕ → List Stretch → Type 0
Leaf order block ns = (i : ℕ) → i < length order → (stretch_at ns (by block order i)).split ≡ false

abbrev pub From : List ℕ → List ℕ → List Stretch → Type 0
From order block ns = (i : ℕ) → i < length order → (stretch_at ns (by block order i)).start ≤ i

abbrev pub To : List ℕ → List ℕ → List Stretch → Type 0
To order block ns = (i : ℕ) → i < length order → i < (stretch_at ns (by block order i)).end

-- a leaf has every state of its stretch
abbrev pub Own : List ℕ → List ℕ → List Stretch → Type 0
Own order block ns = (b i : ℕ) → (b < length ns) × ((stretch_at ns b).split ≡ false) × ((stretch_at ns b).start ≤ i) × (i < (stretch_at ns b).end) → by block order i ≡ b

-- a node is made of whole blocks
abbrev pub UnionLow : List ℕ → List ℕ → List Stretch → Type 0
UnionLow order block ns = (b i j : ℕ) → (b < length ns) × (i < length order) × (j < length order) × (by block order i ≡ by block order j) × ((stretch_at ns b).start ≤ i) × (i < (stretch_at ns b).end) → (stretch_at ns b).start ≤ j

abbrev pub UnionHigh : List ℕ → List ℕ → List Stretch → Type 0
UnionHigh order block ns = (b i j : ℕ) → (b < length ns) × (i < length order) × (j < length order) × (by block order i ≡ by block order j) × ((stretch_at ns b).start ≤ i) × (i < (stretch_at ns b).end) → j < (stretch_at ns b).end

abbrev pub Few : ℕ → List Stretch → Type 0
Few n ns = length ns + 2 * slack ns ≤ 2 * n

-- what holds of every row
pub record Whole (order place block : List ℕ) (ns : List Stretch) : Type 0 where
  pub perm : Perm order place
  pub same : length block ≡ length order
  pub filled : Filled ns
  pub within : Within (length order) ns
  pub known : Known order block ns
  pub leaf : Leaf order block ns
  pub from : From order block ns
  pub to : To order block ns
  pub own : Own order block ns
  pub union_low : UnionLow order block ns
  pub union_high : UnionHigh order block ns
  pub few : Few (length order) ns
