use Rattle.std.proofs.Common.{◌≡◌}
use Rattle.theory.proofs.Starts.{starts_below}
use Rattle.settle.proofs.refinement.settling.list_starts.Given as goal

abbrev pub invariant-loop-x : goal.invariant-loop-x
invariant-loop-x l = l.nodes ≡ starts_below l.chart l.x
