use Rattle.std.proofs.Common.{◌≡◌, replicate}
use Rattle.room.proofs.Room.fill.Given as goal

abbrev pub invariant-loop-i : goal.invariant-loop-i
invariant-loop-i g l = l.self ≡ replicate l._i l.value
