-- The figures by which a leaf is split, and the figures of its parts.
use Rattle.std.specs.Prelude.{◌≡◌, ℕ, ◌+◌, ◌<◌, true, List, ◌++◌, length, ℤ}
use Rattle.weigher.specs.Figure.{Figure}
use Rattle.table.specs.System.{System, size, figure_of}
use Rattle.table.specs.declared.parts.Node.{Node}
use Rattle.theory.specs.Record.{holds, parts, figure_at}
use Rattle.partition.specs.Perm.{fig as figure_in}
use Rattle.partition.specs.View.{size_of, count_of, block_of, in_node}
use Rattle.partition.specs.declared.row.Row.{Row}

-- the states of a leaf have their figures for a label and a marker
abbrev pub Weighed : Figure → System → List Node → Row → List ℤ → ℕ → ℕ → ℕ → Type 0
Weighed fig t nodes r figs leaf l m = (x : ℕ) → x < size t → block_of r x ≡ leaf → figure_in figs x ≡ figure_of fig t x l (holds fig t nodes m)

-- each new node has the figure of one of its states
pub record Figured (r r2 : Row) (figs vs : List ℤ) : Type 0 where
  pub len : count_of r + length vs ≡ count_of r2
  pub first : (j : ℕ) → j < length vs → (x : ℕ) × (x < size_of r) × (block_of r2 x ≡ count_of r + j) × (figure_at vs j ≡ figure_in figs x)

-- nodes from the first on of the row's that were not listed, up to b: each with the figure of one of its states
pub record Listed (nodes : List Node) (r : Row) (figs : List ℤ) (parent label marker : ℕ) (nodes2 : List Node) (b : ℕ) : Type 0 where
  pub values : List ℤ
  pub made : nodes2 ≡ nodes ++ parts (record { parent = parent; label = label; marker = marker; figures = values })
  pub len : length nodes + length values ≡ b
  pub first : (j : ℕ) → j < length values → (x : ℕ) × (x < size_of r) × (in_node r (length nodes + j) x ≡ true) × (figure_at values j ≡ figure_in figs x)
