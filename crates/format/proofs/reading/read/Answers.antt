use Rattle.format.proofs.Answered.{answered}
use Rattle.format.proofs.Longest.{longest}
use Rattle.format.proofs.reading.read.Goals as goal

pub returns-clause-longest : goal.returns-clause-longest
returns-clause-longest c more = longest c.args.bytes.now more

pub returns-clause-file : goal.returns-clause-file
returns-clause-file c = answered c.args.bytes.now c.type_inv.bytes c.read_or_empty.result c.read_or_empty.new.chart c.read_or_empty.ensures.answer c.read_or_empty.ensures.after
