use Rattle.std.proofs.Common.{rules}
use Rattle.text.proofs.Laid.{wrote_whole}
use Rattle.text.proofs.report.Report.write_to.Goals as goal

pub returns-clause-buffer : goal.returns-clause-buffer
returns-clause-buffer c =
    let w = (wrote_whole c.new-buffer.ensures c.in_ok-put_into.ensures).1 in
    search rules
