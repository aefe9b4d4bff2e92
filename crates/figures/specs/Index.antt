-- The links of each source and label, in the order of the table.
use Rattle.std.specs.Prelude.{◌≡◌, ℕ, ◌+◌, ◌*◌, ◌<◌, ◌≤◌, List, length, Some, None, Option, pos, ◌≢◌, slice_index_or}
use Rattle.std.specs.Option.{unwrap_or}
use Rattle.table.specs.System.{System, size}
use Rattle.table.specs.declared.parts.Link.{Link}
use Rattle.figures.specs.declared.index.Index.{Index}

abbrev pub link_in : List (Option ℕ) → ℕ → Option ℕ
link_in xs k = slice_index_or xs k None

abbrev pub no_link : Link
no_link = record { source = 0; label = 0; weight = pos 0; target = 0 }

abbrev pub link_at : List Link → ℕ → Link
link_at links i = slice_index_or links i no_link

-- where the first link of a source and label is kept
abbrev pub cell : ℕ → ℕ → ℕ
cell x l = x * 64 + l

-- the place of a link, or the end of the links
abbrev pub place_of : List Link → Option ℕ → ℕ
place_of links o = unwrap_or o (length links)

abbrev pub There : List Link → Option ℕ → Type 0
There links o = (j : ℕ) → o ≡ Some j → j < length links

-- o is the first link of a source and label from i on
pub record Follows (links : List Link) (x l i : ℕ) (o : Option ℕ) : Type 0 where
  pub there : There links o
  pub from : i ≤ place_of links o
  pub source : place_of links o < length links → (link_at links (place_of links o)).source ≡ x
  pub label : place_of links o < length links → (link_at links (place_of links o)).label ≡ l
  pub none : (k : ℕ) → i ≤ k → k < place_of links o → (link_at links k).source ≡ x → (link_at links k).label ≢ l

-- links among n states, indexed from the i-th on
pub record Indexed (n : ℕ) (links : List Link) (firsts nexts : List (Option ℕ)) (i : ℕ) : Type 0 where
  pub cells : length firsts ≡ n * 64
  pub len : length nexts ≡ length links
  pub first : (x l : ℕ) → x < n → l < 64 → Follows links x l i (link_in firsts (cell x l))
  pub next : (k : ℕ) → i ≤ k → k < length links → Follows links (link_at links k).source (link_at links k).label (k + 1) (link_in nexts k)

-- an index of all links of a table
abbrev pub IndexOf : System → Index → Type 0
IndexOf t i = Indexed (size t) t.links i.firsts i.nexts 0
