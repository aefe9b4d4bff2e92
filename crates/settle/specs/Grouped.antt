-- What settling finds.
use Rattle.std.specs.Prelude.{◌≡◌, ℕ, List}
use Rattle.weigher.specs.Figure.{Figure}
use Rattle.table.specs.System.{System, Settled, size}
use Rattle.table.specs.Numbering.{group_count, group_numbers}
use Rattle.table.specs.declared.parts.Node.{Node}
use Rattle.theory.specs.Record.{Record, Leaves}
use Rattle.theory.specs.Rounds.{number_in}

-- the numbers of the states' groups, which are the settled grouping's, by their smallest states; how many groups there are; and
-- a record of splits, which is described: any valid record whose nodes never split are the groups
pub record Grouped (fig : Figure) (t : System) (groups : List ℕ) (count : ℕ) (nodes : List Node) : Type 0 where
  pub settled : Settled fig t (number_in groups)
  pub numbered : groups ≡ group_numbers (number_in groups) (size t)
  pub counted : count ≡ group_count (number_in groups) (size t)
  pub valid : Record fig t nodes
  pub leaves : Leaves fig t nodes (number_in groups)
