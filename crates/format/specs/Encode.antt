-- The file of a table.
use Rattle.std.specs.Prelude.{◌≡◌, ℕ, zero, suc, ◌/◌, ◌%◌, List, [], ◌∷◌, ◌++◌, length}
use Rattle.std.proofs.Common.{of_z}
use Rattle.std.specs.Int.{w32}
use Rattle.std.specs.List.{flat_map}
use Rattle.table.specs.System.{System, Lawful, Small, size}
use Rattle.table.specs.declared.parts.State.{State}
use Rattle.table.specs.declared.parts.Link.{Link}

-- a number in so many bytes, the lowest first
abbrev pub bytes_of : ℕ → ℕ → List ℕ
bytes_of zero v = []
bytes_of (suc width) v = v % 256 ∷ bytes_of width (v / 256)

-- sort and output
abbrev pub state_bytes : State → List ℕ
state_bytes s = bytes_of 1 s.sort ++ bytes_of 2 s.output

-- source, label, weight in two's complement, and target
abbrev pub link_bytes : Link → List ℕ
link_bytes k = bytes_of 2 k.source ++ (bytes_of 1 k.label ++ (bytes_of 4 (of_z w32 k.weight) ++ bytes_of 2 k.target))

-- two sections, each after its count
unfoldable pub encode : System → List ℕ
encode t = bytes_of 2 (size t) ++ (flat_map state_bytes t.states ++ (bytes_of 2 (length t.links) ++ flat_map link_bytes t.links))

-- the bytes are the file of t, and t is lawful and no larger than a table may be
pub record FileOf (t : System) (bytes : List ℕ) : Type 0 where
  pub lawful : Lawful t
  pub small : Small t
  pub written : bytes ≡ encode t
