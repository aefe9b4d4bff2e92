use Rattle.std.proofs.Common.{◌≡◌, arith}
use Rattle.std.proofs.lemmas.Grind.{common_steps}
use Rattle.folder.specs.Calls.{group_answer}
use Rattle.folder.proofs.Meanings.{group_means}
use Rattle.folder.proofs.tables.Table.group.Goals as goal

pub returns-clause-meaning : goal.returns-clause-meaning
returns-clause-meaning g c =
    let answer : c.copied.result ≡ group_answer c.args.self.now c.args.state = grind (arith, common_steps) in
    rw (← c.self.view_is) (group_means _ _ _ _ _ (rw (← c.self.view_is) at answer) c.self.invariant)
