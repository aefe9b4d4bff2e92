use Rattle.std.proofs.Common.{◌≡◌, drop, Result}
use Rattle.table.specs.declared.parts.Refusal.{Refusal}
use Rattle.text.specs.declared.buffer.Buffer.{Buffer}
use Rattle.text.specs.declared.buffer.Mode.TheVariants.{Write}
use Rattle.text.specs.Buffer.{Wrote}
use Rattle.text.proofs.buffer.Buffer.put_all.Given as goal

-- whatever writes the bytes that are left has then written them all
abbrev pub invariant-loop-byte : goal.invariant-loop-byte
invariant-loop-byte l =
    (l.self.mode ≡ Write) × ((b : Buffer) (r : Result (Unit {0}) Refusal) → Wrote l.self (drop l.byte-index l.bytes) r b → Wrote l.initial.self l.bytes r b)
