-- A stretch that is cut into runs of equal figure.
use Rattle.std.specs.Prelude.{◌≡◌, ℕ, ◌+◌, ◌<◌, ◌≤◌, false, List, [], ◌∷◌, ◌++◌, length, ℤ, ◌≢◌, slice_set}
use Rattle.partition.specs.Perm.{Perm, Outside, at, fig}
use Rattle.partition.specs.Stretches.{stretch_at, marked, by, slack}
use Rattle.partition.specs.declared.stretch.Stretch.{Stretch}

-- a new node
abbrev pub run : ℕ → ℕ → Stretch
run from to = record { start = from; end = to; split = false }

-- the nodes, with one marked as split
abbrev pub mark_at : List Stretch → ℕ → List Stretch
mark_at ns b = slice_set ns b (marked (stretch_at ns b))

-- no two places hold the same
abbrev pub Apart : List ℕ → Type 0
Apart xs = (i j : ℕ) → i < length xs → j < length xs → at xs i ≡ at xs j → i ≡ j

-- the states of a stretch have one figure
abbrev pub Level : List ℕ → List ℤ → ℕ → ℕ → Type 0
Level order figs start end = (i : ℕ) → start ≤ i → i < end → fig figs (at order i) ≡ fig figs (at order start)

-- the states at from..to have the block b, and the others theirs
pub record Labelled (order block block2 : List ℕ) (from to b : ℕ) : Type 0 where
  pub len : length block2 ≡ length block
  pub new : (i : ℕ) → from ≤ i → i < to → by block2 order i ≡ b
  pub below : (i : ℕ) → i < from → by block2 order i ≡ by block order i
  pub above : (i : ℕ) → to ≤ i → i < length order → by block2 order i ≡ by block order i

-- the states of m..end with figure f have come to m..next, which is the next node
pub record Taken (o k : List ℕ) (ns : List Stretch) (figs : List ℤ) (m end : ℕ) (f : ℤ) (o2 p2 k2 : List ℕ) (ns2 : List Stretch) (next : ℕ) : Type 0 where
  pub perm : Perm o2 p2
  pub outside : Outside o o2 m end
  pub low : m ≤ next
  pub high : next ≤ end
  pub front : (i : ℕ) → m ≤ i → i < next → fig figs (at o2 i) ≡ f
  pub rest : (i : ℕ) → next ≤ i → i < end → fig figs (at o2 i) ≢ f
  pub labelled : Labelled o2 k k2 m next (length ns)
  pub items : ns2 ≡ ns ++ run m next ∷ []

-- start..m of the stretch start..end is cut into runs; o0, k0, n1: the order, the blocks and the nodes before
pub record Cutting (o0 k0 : List ℕ) (n1 : List Stretch) (figs : List ℤ) (start end : ℕ) (o p k : List ℕ) (ns : List Stretch) (m : ℕ) : Type 0 where
  pub perm : Perm o p
  pub outside : Outside o0 o start end
  pub same : length k ≡ length o
  pub low : start ≤ m
  pub high : m ≤ end
  pub older : length n1 ≤ length ns
  pub old : (b : ℕ) → b < length n1 → stretch_at ns b ≡ stretch_at n1 b
  pub born_filled : (b : ℕ) → length n1 ≤ b → b < length ns → (stretch_at ns b).start < (stretch_at ns b).end
  pub born_end : (b : ℕ) → length n1 ≤ b → b < length ns → (stretch_at ns b).end ≤ m
  pub born_leaf : (b : ℕ) → length n1 ≤ b → b < length ns → (stretch_at ns b).split ≡ false
  pub runs : (b i : ℕ) → length n1 ≤ b → b < length ns → (stretch_at ns b).start ≤ i → i < (stretch_at ns b).end → by k o i ≡ b
  pub new : (i : ℕ) → start ≤ i → i < m → length n1 ≤ by k o i
  pub known : (i : ℕ) → start ≤ i → i < m → by k o i < length ns
  pub from : (i : ℕ) → start ≤ i → i < m → (stretch_at ns (by k o i)).start ≤ i
  pub to : (i : ℕ) → start ≤ i → i < m → i < (stretch_at ns (by k o i)).end
  pub kept_below : (i : ℕ) → i < start → by k o i ≡ by k0 o0 i
  pub kept_above : (i : ℕ) → end ≤ i → i < length o → by k o i ≡ by k0 o0 i
  pub apart : (i j : ℕ) → start ≤ i → i < m → m ≤ j → j < end → fig figs (at o i) ≢ fig figs (at o j)
  pub one : (i j : ℕ) → start ≤ i → i < m → start ≤ j → j < m → fig figs (at o i) ≡ fig figs (at o j) → by k o i ≡ by k o j
  pub alike : (i j : ℕ) → start ≤ i → i < m → start ≤ j → j < m → by k o i ≡ by k o j → fig figs (at o i) ≡ fig figs (at o j)
  pub count : slack ns + length ns + start ≡ slack n1 + length n1 + m
  pub room : length ns + start ≤ length n1 + m
