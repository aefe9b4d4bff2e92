-- What the programs print about a file.
use Rattle.std.specs.Prelude.{◌≡◌, ℕ, Vec, String, string_bytes, List, [], ◌∷◌, ◌++◌, length, Ok, Err, Result}
use Rattle.weigher.specs.Figure.{Figure}
use Rattle.table.specs.System.{System}
use Rattle.fault.specs.Faults.{line_of}
use Rattle.fault.specs.declared.TableFault.{TableFault}
use Rattle.table.specs.declared.parts.Refusal.{Refusal}
use Rattle.text.specs.Buffer.{whole_answer, whole_buffer}
use Rattle.text.specs.Report.{report_of}
use Rattle.settle.specs.Grouped.{Grouped}
use Rattle.folder.specs.View.{Settlement}

-- the report of what settling finds
abbrev pub Reported : Figure → System → List ℕ → Type 0
Reported fig t text = (s : Settlement) × Grouped fig t s.groups s.count s.nodes × (text ≡ report_of (length t.links) s.groups s.count)

-- the same, laid over a buffer
abbrev pub Written : Figure → System → List ℕ → Result ℕ Refusal → List ℕ → Type 0
Written fig t before r after =
    (s : Settlement) × Grouped fig t s.groups s.count s.nodes
    × (r ≡ whole_answer before (report_of (length t.links) s.groups s.count)) × (after ≡ whole_buffer before (report_of (length t.links) s.groups s.count))

-- the report of the file's table, or why the file is refused in one line
abbrev pub Printed : {Z : Type 0} → Figure → Result System TableFault → Result (Vec ℕ Z) (String Z) → Type 0
Printed fig (Ok t) (Ok text) = Reported fig t text.items
Printed fig (Ok t) (Err line) = ⊥
Printed fig (Err f) (Ok text) = ⊥
Printed fig (Err f) (Err line) = string_bytes line ≡ line_of f ++ (10 ∷ [])
