-- The folded table: a state for each group, with the links of the group's smallest state.
use Rattle.std.specs.Prelude.{ℕ, List, map, filter, nat_eq}
use Rattle.std.specs.List.{range_with_len, flat_map}
use Rattle.table.specs.System.{System, size, state_at}
use Rattle.table.specs.Numbering.{is_smallest, group_number}
use Rattle.table.specs.declared.parts.Link.{Link}

-- the smallest states of the groups, in rising order
unfoldable pub smallests : (ℕ → ℕ) → ℕ → List ℕ
smallests g n = filter (is_smallest g) (range_with_len 0 n)

-- a link between the groups in place of the states
unfoldable pub redirected : (ℕ → ℕ) → Link → Link
redirected g k = record { source = group_number g k.source; label = k.label; weight = k.weight; target = group_number g k.target }

-- the links of x, in the order of the table
unfoldable pub links_from : System → ℕ → List Link
links_from t x = filter (λ k. nat_eq k.source x) t.links

-- in the field the quotient by the grouping
unfoldable pub folded : (ℕ → ℕ) → System → System
folded g t = record {
  states = map (state_at t) (smallests g (size t));
  links = flat_map (λ x. map (redirected g) (links_from t x)) (smallests g (size t));
}
