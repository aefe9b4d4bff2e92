-- The record of splits: nodes, which stand for sets of states, in the order in which they were made.
use Rattle.std.specs.Prelude.{◌≡◌, ℕ, zero, suc, ◌<◌, ◌≤◌, Bool, true, false, ◌&&◌, ◌↔◌, List, [], ◌∷◌, ◌++◌, map, length, ℤ, pos, filter, ◌==◌, ◌≢◌, slice_index_or}
use Rattle.std.specs.List.{range_with_len}
use Rattle.weigher.specs.Figure.{Figure}
use Rattle.table.specs.System.{System, size, state_at, sort_of, output_of, figure_of}
use Rattle.table.specs.Numbering.{earliest}
use Rattle.table.specs.declared.parts.Node.{Node}
use Rattle.table.specs.declared.parts.Node.TheVariants.{Start, Part}
use Rattle.table.specs.declared.parts.Origin.{Origin}
use Rattle.theory.specs.Rounds.{same_int, alike}

abbrev pub nowhere : Node
nowhere = Start (record { sort = 0; output = 0 })

abbrev pub node_at : List Node → ℕ → Node
node_at nodes i = slice_index_or nodes i nowhere

-- whether x is in a node, where the other nodes hold what they do: of the sort and output, or in the parent and of the figure
abbrev pub passes : Figure → System → (ℕ → ℕ → Bool) → Node → ℕ → Bool
passes fig t held (Start s) x = sort_of t x == s.sort && output_of t x == s.output
passes fig t held (Part o) x = held o.parent x && same_int (figure_of fig t x o.label (held o.marker)) o.figure

-- the same, through at most so many nodes
unfoldable pub holds_within : Figure → System → List Node → ℕ → ℕ → ℕ → Bool
holds_within fig t nodes zero i x = false
holds_within fig t nodes (suc f) i x = passes fig t (holds_within fig t nodes f) (node_at nodes i) x

-- whether node i holds x; parents and markers have lower numbers, so no more nodes are asked than there are up to i
unfoldable pub holds : Figure → System → List Node → ℕ → ℕ → Bool
holds fig t nodes i x = holds_within fig t nodes (suc i) i x

-- the starting nodes: the sets of equal sort and output, by their smallest states
unfoldable pub leader : System → ℕ → Bool
leader t x = earliest (alike t) x == x

unfoldable pub start_nodes : System → List Node
start_nodes t = map (λ x. Start (state_at t x)) (filter (leader t) (range_with_len 0 (size t)))

-- a split: which node, by which label and marker, and the figures of the new nodes; in the field the marker is the splitter
pub record Split : Type 0 where
  pub parent : ℕ
  pub label : ℕ
  pub marker : ℕ
  pub figures : List ℤ

-- the new nodes, in order
abbrev pub parts : Split → List Node
parts s = map (λ v. Part (record { parent = s.parent; label = s.label; marker = s.marker; figure = v })) s.figures

-- no node of the record has this one for its parent
abbrev pub Unsplit : List Node → ℕ → Type 0
Unsplit nodes p = (i : ℕ) (o : Origin) → i < length nodes → node_at nodes i ≡ Part o → o.parent ≢ p

abbrev pub figure_at : List ℤ → ℕ → ℤ
figure_at figures i = slice_index_or figures i (pos 0)

-- a split that may come next: of a node not split before, with a marker among the nodes that there are, into two or more
-- nodes, one for each figure that a state of the node has
pub record Next (fig : Figure) (t : System) (nodes : List Node) (s : Split) : Type 0 where
  pub node : s.parent < length nodes
  pub unsplit : Unsplit nodes s.parent
  pub label : s.label < 64
  pub marker : s.marker < length nodes
  pub two : 2 ≤ length s.figures
  pub apart : (i j : ℕ) → i < length s.figures → j < length s.figures → figure_at s.figures i ≡ figure_at s.figures j → i ≡ j
  pub shared : (x : ℕ) → x < size t → holds fig t nodes s.parent x ≡ true →
      (i : ℕ) × (i < length s.figures) × (figure_of fig t x s.label (holds fig t nodes s.marker) ≡ figure_at s.figures i)
  pub filled : (i : ℕ) → i < length s.figures →
      (x : ℕ) × (x < size t) × (holds fig t nodes s.parent x ≡ true) × (figure_of fig t x s.label (holds fig t nodes s.marker) ≡ figure_at s.figures i)

-- splits, one after another
abbrev pub after : List Node → List Split → List Node
after nodes [] = nodes
after nodes (s ∷ ss) = after (nodes ++ parts s) ss

abbrev pub Each : Figure → System → List Node → List Split → Type 0
Each fig t nodes [] = Unit {0}
Each fig t nodes (s ∷ ss) = Next fig t nodes s × Each fig t (nodes ++ parts s) ss

-- a valid record: what splits make of the starting nodes
pub record Record (fig : Figure) (t : System) (nodes : List Node) : Type 0 where
  pub splits : List Split
  pub each : Each fig t (start_nodes t) splits
  pub made : nodes ≡ after (start_nodes t) splits

-- the nodes never split are the groups: each state is in one, and it holds the state's whole group
pub record Leaves (fig : Figure) (t : System) (nodes : List Node) (g : ℕ → ℕ) : Type 0 where
  pub some : (x : ℕ) → x < size t → (i : ℕ) × (i < length nodes) × (Unsplit nodes i) × (holds fig t nodes i x ≡ true)
  pub group : (i x y : ℕ) → i < length nodes → Unsplit nodes i → x < size t → y < size t → holds fig t nodes i x ≡ true → (holds fig t nodes i y ≡ true) ↔ (g x ≡ g y)
