use Rattle.folder.proofs.Meanings.{count_means}
use Rattle.folder.proofs.tables.Table.count.Goals as goal

pub returns-clause-meaning : goal.returns-clause-meaning
returns-clause-meaning g c = count_means _ _ _ _ c.tally.ensures.answer.groups_are c.tally.ensures.sound
