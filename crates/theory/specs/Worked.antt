-- Small tables with the groups that they settle to.
use Rattle.std.specs.Prelude.{◌≡◌, ℕ, List, [], ◌∷◌, map, ℤ, pos, negsuc, IfSome, Some, None, Option}
use Rattle.std.specs.List.{AllByRecursion}
use Rattle.weigher.specs.Figure.{Figure, Order, Joining}
use Rattle.weigher.specs.Weighers.{reach, sum, greatest, blind, buttons, timed}
use Rattle.table.specs.System.{System, Lawful, Settled, size}
use Rattle.table.specs.Numbering.{group_numbers, group_count}
use Rattle.table.specs.Folding.{folded}
use Rattle.table.specs.declared.parts.State.{State}
use Rattle.table.specs.declared.parts.Link.{Link}

-- a table, what weighs it, the number of its groups, each state's group and, where it is given, the folded table
pub record Case : Type 0 where
  pub figure : Figure
  pub system : System
  pub count : ℕ
  pub groups : List ℕ
  pub fold : Option System

-- the table is lawful, it has a settled grouping, and every settled grouping is the one that is written
pub record Shows (e : Case) : Type 0 where
  pub lawful : Lawful e.system
  pub order : Order e.figure
  pub joining : Joining e.figure
  pub some : (g : ℕ → ℕ) × Settled e.figure e.system g
  pub count : (g : ℕ → ℕ) → Settled e.figure e.system g → group_count g (size e.system) ≡ e.count
  pub groups : (g : ℕ → ℕ) → Settled e.figure e.system g → group_numbers g (size e.system) ≡ e.groups
  pub fold : IfSome e.fold (λ t. (g : ℕ → ℕ) → Settled e.figure e.system g → folded g e.system ≡ t)

-- states of sort 0, by their outputs
abbrev pub outputs : List ℕ → List State
outputs os = map (λ o. record { sort = 0; output = o }) os

-- a link, and one with label 0 and weight 1
abbrev pub link : ℕ → ℕ → ℤ → ℕ → Link
link x l w y = record { source = x; label = l; weight = w; target = y }

infix 30 ◌⟶◌
abbrev pub ◌⟶◌ : ℕ → ℕ → Link
x ⟶ y = link x 0 (pos 1) y

abbrev pub groups_of : Figure → List State → List Link → ℕ → List ℕ → Case
groups_of fig states links n groups = record { figure = fig; system = record { states = states; links = links }; count = n; groups = groups; fold = None }

abbrev pub folds_to : Case → List State → List Link → Case
folds_to e states links = record { figure = e.figure; system = e.system; count = e.count; groups = e.groups; fold = Some (record { states = states; links = links }) }

-- one press leads from two of three dark states to the lit one
abbrev pub dark : List State
dark = outputs (0 ∷ 0 ∷ 0 ∷ 1 ∷ [])

abbrev pub presses : List Link
presses = (0 ⟶ 3) ∷ (1 ⟶ 3) ∷ (2 ⟶ 2) ∷ (3 ⟶ 3) ∷ []

abbrev pub three : List State
three = outputs (0 ∷ 0 ∷ 1 ∷ [])

abbrev pub twice : List Link
twice = (0 ⟶ 2) ∷ (0 ⟶ 2) ∷ (1 ⟶ 2) ∷ []

abbrev pub cancelling : List Link
cancelling = link 0 0 (pos 5) 2 ∷ link 0 0 (negsuc 4) 2 ∷ []

abbrev pub weightless : List Link
weightless = link 0 0 (pos 0) 2 ∷ []

abbrev pub waits : ℕ → List Link
waits l = link 0 l (pos 3) 2 ∷ link 1 l (pos 4) 2 ∷ []

unfoldable pub cases : List Case
cases =
    folds_to (groups_of reach [] [] 0 []) [] []
    ∷ groups_of reach (outputs (0 ∷ [])) [] 1 (0 ∷ [])
    ∷ folds_to (groups_of buttons dark presses 3 (0 ∷ 0 ∷ 1 ∷ 2 ∷ [])) (outputs (0 ∷ 0 ∷ 1 ∷ [])) ((0 ⟶ 2) ∷ (1 ⟶ 1) ∷ (2 ⟶ 2) ∷ [])
    ∷ groups_of blind dark presses 2 (0 ∷ 0 ∷ 0 ∷ 1 ∷ [])
    ∷ folds_to (groups_of reach (outputs (0 ∷ 0 ∷ [])) ((0 ⟶ 1) ∷ (1 ⟶ 0) ∷ []) 1 (0 ∷ 0 ∷ [])) (outputs (0 ∷ [])) ((0 ⟶ 0) ∷ [])
    ∷ groups_of reach three twice 2 (0 ∷ 0 ∷ 1 ∷ [])
    ∷ groups_of greatest three twice 2 (0 ∷ 0 ∷ 1 ∷ [])
    ∷ groups_of sum three twice 3 (0 ∷ 1 ∷ 2 ∷ [])
    ∷ groups_of sum three cancelling 2 (0 ∷ 0 ∷ 1 ∷ [])
    ∷ groups_of reach three cancelling 3 (0 ∷ 1 ∷ 2 ∷ [])
    ∷ groups_of greatest three cancelling 3 (0 ∷ 1 ∷ 2 ∷ [])
    ∷ groups_of reach three weightless 3 (0 ∷ 1 ∷ 2 ∷ [])
    ∷ groups_of sum three weightless 2 (0 ∷ 0 ∷ 1 ∷ [])
    ∷ groups_of sum (outputs (0 ∷ 0 ∷ 1 ∷ 1 ∷ [])) ((0 ⟶ 2) ∷ (0 ⟶ 3) ∷ link 1 0 (pos 2) 2 ∷ []) 2 (0 ∷ 0 ∷ 1 ∷ 1 ∷ [])
    ∷ groups_of timed three (waits 48) 3 (0 ∷ 1 ∷ 2 ∷ [])
    ∷ groups_of timed three (waits 47) 2 (0 ∷ 0 ∷ 1 ∷ [])
    ∷ groups_of blind (record { sort = 0; output = 0 } ∷ record { sort = 1; output = 0 } ∷ []) [] 2 (0 ∷ 1 ∷ [])
    ∷ []

abbrev pub Worked : Type 0
Worked = AllByRecursion Shows cases
