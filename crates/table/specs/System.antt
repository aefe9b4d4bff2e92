-- States and links, the figures of the states, and which groupings of them are fair.
use Rattle.std.specs.Prelude.{◌≡◌, ℕ, ◌^◌, ◌<◌, ◌≤◌, Bool, ◌&&◌, List, map, length, ℤ, filter, FitsSigned, ◌==◌, slice_index_or}
use Rattle.std.specs.Int.{w32}
use Rattle.std.specs.List.{AllByRecursion}
use Rattle.weigher.specs.Figure.{Figure}
use Rattle.table.specs.declared.parts.State.{State}
use Rattle.table.specs.declared.parts.Link.{Link}

-- what a table holds; in the field a weighted transition system, or a coalgebra
pub record System : Type 0 where
  pub states : List State
  pub links : List Link

-- how many states there are; they are the numbers below it
abbrev pub size : System → ℕ
size t = length t.states

pub record LawfulState (s : State) : Type 0 where
  pub sort : s.sort < 4
  pub output : s.output < 2 ^ 16

-- a link among n states
pub record LawfulLink (n : ℕ) (k : Link) : Type 0 where
  pub source : k.source < n
  pub label : k.label < 64
  pub weight : FitsSigned w32 k.weight
  pub target : k.target < n

pub record Lawful (t : System) : Type 0 where
  pub states : AllByRecursion LawfulState t.states
  pub links : AllByRecursion (LawfulLink (size t)) t.links

-- no more than a table can hold
pub record Small (t : System) : Type 0 where
  pub states : size t ≤ 1024
  pub links : length t.links ≤ 4096

abbrev pub state_at : System → ℕ → State
state_at t x = slice_index_or t.states x (record { sort = 0; output = 0 })

abbrev pub sort_of : System → ℕ → ℕ
sort_of t x = (state_at t x).sort

abbrev pub output_of : System → ℕ → ℕ
output_of t x = (state_at t x).output

-- whether a link leaves x with this label and leads into the set
abbrev pub leads : ℕ → ℕ → (ℕ → Bool) → Link → Bool
leads x l S k = k.source == x && (k.label == l && S k.target)

-- the weights of these links, in the order of the table
abbrev pub into : System → ℕ → ℕ → (ℕ → Bool) → List ℤ
into t x l S = map (λ k. k.weight) (filter (leads x l S) t.links)

-- the figure of state x for a label and a set of states
abbrev pub figure_of : Figure → System → ℕ → ℕ → (ℕ → Bool) → ℤ
figure_of fig t x l S = fig (sort_of t x) l (into t x l S)

-- A grouping gives each state a number, and the states of one number are a group.
abbrev pub class : (ℕ → ℕ) → ℕ → ℕ → Bool
class g c z = g z == c

-- fair: two states of one group have the same sort, the same output and, for every label and every group, the same figure;
-- in the field a stable partition, or a behavioural equivalence
abbrev pub Fair : Figure → System → (ℕ → ℕ) → Type 0
Fair fig t g =
    (x y : ℕ) → x < size t → y < size t → g x ≡ g y →
    (sort_of t x ≡ sort_of t y) × (output_of t x ≡ output_of t y)
    × ((l c : ℕ) → l < 64 → figure_of fig t x l (class g c) ≡ figure_of fig t y l (class g c))

-- settled: fair, and every fair grouping refines it; in the field the coarsest stable partition
abbrev pub Settled : Figure → System → (ℕ → ℕ) → Type 0
Settled fig t g =
    Fair fig t g
    × ((other : ℕ → ℕ) → Fair fig t other → (x y : ℕ) → x < size t → y < size t → other x ≡ other y → g x ≡ g y)

-- a set that has all of a group or none of it, among the first n states
abbrev pub Union : ℕ → (ℕ → ℕ) → (ℕ → Bool) → Type 0
Union n g S = (y z : ℕ) → y < n → z < n → g y ≡ g z → S y ≡ S z
