use Rattle.figures.specs.Index.{Indexed}
use Rattle.figures.proofs.index.calls.chain.Given as goal

abbrev pub invariant-loop-i : goal.invariant-loop-i
invariant-loop-i l = Indexed l.states l.links l.firsts l.nexts l.i
