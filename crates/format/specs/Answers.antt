-- What the caller of a reading sees.
use Rattle.std.specs.Prelude.{Ok, Err, Result}
use Rattle.table.specs.System.{System}
use Rattle.table.specs.Charts.{no_system}
use Rattle.fault.specs.declared.TableFault.{TableFault}

-- the answer to a file that was read or refused, and what the chart then holds
abbrev pub answer_of : Result System TableFault → Result (Unit {0}) TableFault
answer_of (Ok t) = Ok tt
answer_of (Err f) = Err f

abbrev pub system_in : Result System TableFault → System
system_in (Ok t) = t
system_in (Err f) = no_system
