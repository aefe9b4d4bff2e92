use Rattle.std.proofs.Common.{drop, Result}
use Rattle.table.specs.declared.parts.Refusal.{Refusal}
use Rattle.text.specs.declared.buffer.Buffer.{Buffer}
use Rattle.text.specs.Buffer.{Wrote}
use Rattle.text.specs.Report.{lines_from}
use Rattle.text.proofs.report.Report.put_lines.Given as goal

-- whatever writes the lines that are left has then written them all
abbrev pub invariant-loop-state : goal.invariant-loop-state
invariant-loop-state l = (b : Buffer) (r : Result (Unit {0}) Refusal) → Wrote l.out (lines_from l.state (drop l.state l.group-items)) r b → Wrote l.initial.out (lines_from 0 l.group-items) r b
