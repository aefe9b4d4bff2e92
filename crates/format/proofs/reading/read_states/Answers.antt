use Rattle.std.proofs.Common.{arith}
use Rattle.std.proofs.lemmas.Grind.{common_steps}
use Rattle.format.proofs.Walks.{state_walk, walk_on}
use Rattle.format.proofs.reading.read_states.Goals as goal

pub returns-in_err-state : goal.returns-in_err-state
returns-in_err-state c = grind (arith, common_steps, walk_on state_walk)

pub loop-number-preserved : goal.loop-number-preserved
loop-number-preserved c = grind (arith, common_steps, walk_on state_walk)
