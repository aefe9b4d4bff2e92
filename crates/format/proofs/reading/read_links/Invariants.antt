use Rattle.std.proofs.Common.{◌≡◌, ◌+◌, ◌-◌, ◌*◌, [], length}
use Rattle.table.specs.System.{size}
use Rattle.format.specs.Walk.{link_items}
use Rattle.format.proofs.reading.read_links.Given as goal

-- what is left gives the answer for all
abbrev pub invariant-loop-number : goal.invariant-loop-number
invariant-loop-number l =
    (link_items (size l.initial.chart) l.initial.cursor.bytes.now l.cursor.offset (l.number + 1) l.chart.links (l.count - l.number) ≡ link_items (size l.initial.chart) l.initial.cursor.bytes.now l.initial.cursor.offset 1 [] l.count)
    × (l.cursor.offset ≡ l.initial.cursor.offset + 9 * l.number)
    × (length l.chart.links ≡ l.number)
    × (l.chart.states ≡ l.initial.chart.states)
    × (l.cursor.bytes.now ≡ l.initial.cursor.bytes.now)
