-- What is proved of figures, groupings and rounds, for every lawful weigher and table.
use Rattle.std.specs.Prelude.{◌≡◌, ℕ, suc, ◌<◌, ◌≤◌, Bool, ◌↔◌, List, length}
use Rattle.weigher.specs.Figure.{Figure, Order, Joining}
use Rattle.table.specs.System.{System, Lawful, Fair, Settled, Union, size, figure_of, sort_of, output_of, class}
use Rattle.table.specs.Numbering.{smallest, group_number, group_count}
use Rattle.table.specs.declared.parts.Node.{Node}
use Rattle.theory.specs.Rounds.{in_round}
use Rattle.theory.specs.Record.{Record, Leaves, holds}

-- under a fair grouping the states of a group have one figure into any union of groups
abbrev pub Unions : Type 0
Unions =
    (fig : Figure) → Order fig → Joining fig → (t : System) → Lawful t →
    (g : ℕ → ℕ) → Fair fig t g → (S : ℕ → Bool) → Union (size t) g S →
    (x y : ℕ) → x < size t → y < size t → g x ≡ g y → (l : ℕ) → l < 64 →
    figure_of fig t x l S ≡ figure_of fig t y l S

-- there is at most one settled grouping
abbrev pub Unique : Type 0
Unique =
    (fig : Figure) (t : System) (g h : ℕ → ℕ) → Settled fig t g → Settled fig t h →
    (x y : ℕ) → x < size t → y < size t → (g x ≡ g y) ↔ (h x ≡ h y)

-- a group has a smallest state; group numbers tell groups apart, run from 0 to the count without a gap, and rise with the smallest states
abbrev pub Numbers : Type 0
Numbers =
    (g : ℕ → ℕ) (n : ℕ) →
    ((x : ℕ) → (g (smallest g x) ≡ g x) × ((y : ℕ) → g y ≡ g x → smallest g x ≤ y))
    × ((x y : ℕ) → (group_number g x ≡ group_number g y) ↔ (g x ≡ g y))
    × ((x : ℕ) → x < n → group_number g x < group_count g n)
    × ((k : ℕ) → k < group_count g n → (x : ℕ) × (x < n) × (group_number g x ≡ k))
    × ((x y : ℕ) → (smallest g x < smallest g y) ↔ (group_number g x < group_number g y))

-- round 0 keeps together what has one sort and output, and each further round what was together and has one figure for each
-- label and each group of the round before
abbrev pub RoundsMean : Type 0
RoundsMean =
    (fig : Figure) (t : System) → Lawful t → (x y : ℕ) → x < size t → y < size t →
    ((in_round fig t 0 x ≡ in_round fig t 0 y) ↔ ((sort_of t x ≡ sort_of t y) × (output_of t x ≡ output_of t y)))
    × ((k : ℕ) → (in_round fig t (suc k) x ≡ in_round fig t (suc k) y) ↔
    ((in_round fig t k x ≡ in_round fig t k y)
    × ((l c : ℕ) → l < 64 → figure_of fig t x l (class (in_round fig t k) c) ≡ figure_of fig t y l (class (in_round fig t k) c))))

-- every fair grouping refines every round
abbrev pub RoundsRefined : Type 0
RoundsRefined =
    (fig : Figure) → Order fig → Joining fig → (t : System) → Lawful t →
    (g : ℕ → ℕ) → Fair fig t g → (k x y : ℕ) → x < size t → y < size t → g x ≡ g y →
    in_round fig t k x ≡ in_round fig t k y

-- as many rounds as there are states reach the settled grouping
abbrev pub RoundsSettle : Type 0
RoundsSettle = (fig : Figure) → Order fig → Joining fig → (t : System) → Lawful t → Settled fig t (in_round fig t (size t))

-- every fair grouping respects every node of a record: a node holds all of a group or none of it
abbrev pub RecordsRespected : Type 0
RecordsRespected =
    (fig : Figure) → Order fig → Joining fig → (t : System) → Lawful t →
    (nodes : List Node) → Record fig t nodes →
    (g : ℕ → ℕ) → Fair fig t g → (i : ℕ) → i < length nodes → Union (size t) g (holds fig t nodes i)

-- a record whose leaves have one figure for every node and label gives the settled grouping
abbrev pub RecordsSettle : Type 0
RecordsSettle =
    (fig : Figure) → Order fig → Joining fig → (t : System) → Lawful t →
    (nodes : List Node) → Record fig t nodes → (g : ℕ → ℕ) → Leaves fig t nodes g →
    ((x y : ℕ) → x < size t → y < size t → g x ≡ g y → (l m : ℕ) → l < 64 → m < length nodes → figure_of fig t x l (holds fig t nodes m) ≡ figure_of fig t y l (holds fig t nodes m)) →
    Settled fig t g
