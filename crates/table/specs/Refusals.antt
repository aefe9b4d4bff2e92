-- The number of each refusal.
use Rattle.std.specs.Prelude.{ℕ}
use Rattle.table.specs.declared.parts.Refusal.{Refusal}
use Rattle.table.specs.declared.parts.Refusal.TheVariants.{AlreadySettled, NotSettled, Full, BadSort, NoSuchNumber, BadLabel, CutShort, TrailingBytes, NoRoom}

abbrev pub number_of : Refusal → ℕ
number_of AlreadySettled = 1
number_of NotSettled = 2
number_of Full = 3
number_of BadSort = 4
number_of NoSuchNumber = 5
number_of BadLabel = 6
number_of CutShort = 7
number_of TrailingBytes = 8
number_of NoRoom = 9
