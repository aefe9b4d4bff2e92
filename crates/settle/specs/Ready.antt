-- What a refinement holds while a table is being settled.
use Rattle.std.specs.Prelude.{◌≤◌, length}
use Rattle.weigher.specs.Figure.{Figure}
use Rattle.table.specs.System.{System}
use Rattle.partition.specs.View.{size_of}
use Rattle.figures.specs.Index.{IndexOf}
use Rattle.settle.specs.Progress.{Shown}
use Rattle.settle.specs.declared.refinement.Refinement.{Refinement}

-- a row and a record with the same nodes, an index of the links, and a place for each state's figure
pub record Ready (fig : Figure) (t : System) (f : Refinement) : Type 0 where
  pub shown : Shown fig t f.nodes f.row
  pub index : IndexOf t f.index
  pub figures : size_of f.row ≤ length f.figures
