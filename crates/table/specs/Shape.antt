-- What always holds of a table's states and links, each fact for each place.
use Rattle.std.specs.Prelude.{◌^◌, ◌<◌, ◌≤◌, length}
use Rattle.std.specs.Int.Signed.{mag}
use Rattle.std.specs.List.{AllWithin}
use Rattle.table.specs.System.{System, size}

-- no more than a table can hold, every number in its range, and links between states that are there: lawful and small
pub record Kept (t : System) : Type 0 where
  pub few_states : size t ≤ 1024
  pub few_links : length t.links ≤ 4096
  pub sorts : AllWithin (λ s. s.sort < 4) t.states 0 (size t)
  pub outputs : AllWithin (λ s. s.output < 2 ^ 16) t.states 0 (size t)
  pub sources : AllWithin (λ k. k.source < size t) t.links 0 (length t.links)
  pub labels : AllWithin (λ k. k.label < 64) t.links 0 (length t.links)
  pub weights : AllWithin (λ k. mag k.weight < 2 ^ 31) t.links 0 (length t.links)
  pub targets : AllWithin (λ k. k.target < size t) t.links 0 (length t.links)
