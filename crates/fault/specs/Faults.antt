-- What the caller reads from a fault: the refusal, the place of the field, and the section.
use Rattle.std.specs.Prelude.{ℕ, List, ◌++◌, codes, decimal}
use Rattle.table.specs.Refusals.{number_of}
use Rattle.table.specs.declared.parts.Refusal.{Refusal}
use Rattle.table.specs.declared.parts.Refusal.TheVariants.{Full, BadSort, NoSuchNumber, BadLabel, CutShort, TrailingBytes}
use Rattle.fault.specs.declared.Place.{Place}
use Rattle.fault.specs.declared.SectionFault.{SectionFault}
use Rattle.fault.specs.declared.SectionFault.TheVariants.{Cut, Value}
use Rattle.fault.specs.declared.StatesField.{StatesField}
use Rattle.fault.specs.declared.StatesField.TheVariants.{Count as StatesCount, Sort}
use Rattle.fault.specs.declared.LinksField.{LinksField}
use Rattle.fault.specs.declared.LinksField.TheVariants.{Count as LinksCount, Source, Label, Target}
use Rattle.fault.specs.declared.TableFault.{TableFault}
use Rattle.fault.specs.declared.TableFault.TheVariants.{States, Links, After}
use Rattle.fault.specs.declared.Section.{Section}
use Rattle.fault.specs.declared.Section.TheVariants.{States as InStates, Links as InLinks, End as AtEnd}

abbrev pub section_place : {F : Type 0} → SectionFault F → Place
section_place (Cut f) = f.place
section_place (Value field p) = p

-- the end of the file is item 0
abbrev pub table_place : TableFault → Place
table_place (States f) = section_place f
table_place (Links f) = section_place f
table_place (After offset) = record { offset = offset; item = 0 }

abbrev pub section_of : TableFault → Section
section_of (States f) = InStates
section_of (Links f) = InLinks
section_of (After offset) = AtEnd

-- 1 the states, 2 the links, 3 the end of the file
abbrev pub section_number : Section → ℕ
section_number InStates = 1
section_number InLinks = 2
section_number AtEnd = 3

-- why a value is refused
abbrev pub states_refusal : StatesField → Refusal
states_refusal StatesCount = Full
states_refusal Sort = BadSort

abbrev pub links_refusal : LinksField → Refusal
links_refusal LinksCount = Full
links_refusal Source = NoSuchNumber
links_refusal Label = BadLabel
links_refusal Target = NoSuchNumber

abbrev pub section_refusal : {F : Type 0} → (F → Refusal) → SectionFault F → Refusal
section_refusal value (Cut f) = CutShort
section_refusal value (Value field p) = value field

abbrev pub refusal_of : TableFault → Refusal
refusal_of (States f) = section_refusal states_refusal f
refusal_of (Links f) = section_refusal links_refusal f
refusal_of (After offset) = TrailingBytes

-- the line that a user sees, without its line feed
abbrev pub line_of : TableFault → List ℕ
line_of f =
    codes "refused " ++ (decimal (number_of (refusal_of f)) ++ (codes " byte " ++ (decimal (table_place f).offset
    ++ (codes " section " ++ (decimal (section_number (section_of f)) ++ (codes " item " ++ decimal (table_place f).item))))))
