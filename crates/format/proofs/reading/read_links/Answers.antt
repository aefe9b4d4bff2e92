use Rattle.std.proofs.Common.{arith}
use Rattle.std.proofs.lemmas.Grind.{common_steps}
use Rattle.table.specs.System.{size}
use Rattle.format.proofs.Walks.{link_walk, walk_on}
use Rattle.format.proofs.reading.read_links.Goals as goal

pub returns-in_err-link : goal.returns-in_err-link
returns-in_err-link c = grind (arith, common_steps, walk_on (link_walk (size c.args.chart.now)))

pub loop-number-preserved : goal.loop-number-preserved
loop-number-preserved c = grind (arith, common_steps, walk_on (link_walk (size c.args.chart.now)))
