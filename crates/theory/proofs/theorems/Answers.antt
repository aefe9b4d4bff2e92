use Rattle.theory.proofs.theorems.Goals as goal
use Rattle.theory.proofs.Unions.{unions}
use Rattle.theory.proofs.Groups.{numbers}
use Rattle.theory.proofs.Rounds.{rounds_mean, rounds_refined, rounds_settle}
use Rattle.theory.proofs.Kernels.{unique}
use Rattle.theory.proofs.Leaves.{respected, records_settle}
use Rattle.theory.proofs.Worked.{worked}

pub returns : goal.returns
returns c = record {
  unions = unions;
  unique = unique;
  numbers = numbers;
  rounds_mean = rounds_mean;
  rounds_refined = rounds_refined;
  rounds_settle = rounds_settle;
  records_respected = respected;
  records_settle = records_settle;
  worked = worked;
}
