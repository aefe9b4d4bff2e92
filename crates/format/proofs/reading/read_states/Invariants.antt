use Rattle.std.proofs.Common.{◌≡◌, ◌+◌, ◌-◌, ◌*◌, [], length}
use Rattle.format.specs.Walk.{state_items}
use Rattle.format.proofs.reading.read_states.Given as goal

-- what is left gives the answer for all
abbrev pub invariant-loop-number : goal.invariant-loop-number
invariant-loop-number l =
    (state_items l.initial.cursor.bytes.now l.cursor.offset (l.number + 1) l.chart.states (l.count - l.number) ≡ state_items l.initial.cursor.bytes.now 2 1 [] l.count)
    × (l.cursor.offset ≡ 2 + 3 * l.number)
    × (length l.chart.states ≡ l.number)
    × (l.chart.links ≡ [])
    × (l.cursor.bytes.now ≡ l.initial.cursor.bytes.now)
