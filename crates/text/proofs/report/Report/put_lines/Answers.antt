use Rattle.std.proofs.Common.{arith}
use Rattle.std.proofs.lemmas.List.{drop_more, drop_all}
use Rattle.text.specs.Buffer.{laid}
use Rattle.text.proofs.Laid.{laying}
use Rattle.text.proofs.report.Report.put_lines.Goals as goal

pub returns-in_err-put_line : goal.returns-in_err-put_line
unfolding laid
returns-in_err-put_line c = c.loop-state.invariant _ _ (grind (arith, laying, drop_more))

pub loop-state-preserved : goal.loop-state-preserved
unfolding laid
loop-state-preserved c b r h = c.loop-state.invariant b r (grind (arith, laying, drop_more))

pub returns : goal.returns
unfolding laid
returns c = c.loop-state.invariant _ _ (grind (arith, laying, drop_all))
