-- Where a node of the record of splits comes from.
use Rattle.std.specs.Prelude.{Some, None, Option}
use Rattle.table.specs.declared.parts.Node.{Node}
use Rattle.table.specs.declared.parts.Node.TheVariants.{Start, Part}
use Rattle.table.specs.declared.parts.Origin.{Origin}

-- a starting node comes from none
abbrev pub origin_of : Node → Option Origin
origin_of (Start s) = None
origin_of (Part o) = Some o
