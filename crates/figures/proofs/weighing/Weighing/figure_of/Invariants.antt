use Rattle.std.proofs.Common.{◌≡◌, ◌-◌, ◌<◌, length}
use Rattle.partition.specs.View.{in_node}
use Rattle.figures.specs.Index.{There, place_of, link_at}
use Rattle.figures.proofs.Walks.{sofar}
use Rattle.figures.proofs.weighing.Weighing.figure_of.Given as goal

abbrev pub invariant-loop-next : goal.invariant-loop-next
invariant-loop-next g l =
    g.W.Weigher.carries l.self.pile.now l.sort l.label (sofar l.links l.state l.label (in_node l.self.aim.row.now l.self.aim.marker) (place_of l.links l.next)) l.load
    × There l.links l.next
    × (place_of l.links l.next < length l.links → (link_at l.links (place_of l.links l.next)).source ≡ l.state)
    × (place_of l.links l.next < length l.links → (link_at l.links (place_of l.links l.next)).label ≡ l.label)

abbrev pub decreases-loop-next : goal.decreases-loop-next
decreases-loop-next g l = length l.links - place_of l.links l.next
