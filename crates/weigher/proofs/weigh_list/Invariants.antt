use Rattle.std.proofs.Common.{take}
use Rattle.weigher.proofs.weigh_list.Given as goal

abbrev pub invariant-loop-weight : goal.invariant-loop-weight
invariant-loop-weight g l = g.W.Weigher.carries l.pile l.sort l.label (take l.weight-index l.weights) l.load
