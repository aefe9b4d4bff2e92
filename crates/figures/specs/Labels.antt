-- The labels in use.
use Rattle.std.specs.Prelude.{◌≡◌, ℕ, ◌<◌, Bool, true, false, List, slice_index_or}
use Rattle.table.specs.declared.parts.Link.{Link}
use Rattle.figures.specs.Index.{link_at}

-- the first i links with a target in the set have their labels marked
abbrev pub LabelsInto : List Link → (ℕ → Bool) → ℕ → List Bool → Type 0
LabelsInto links S i used = (k : ℕ) → k < i → S (link_at links k).target ≡ true → slice_index_or used (link_at links k).label false ≡ true
