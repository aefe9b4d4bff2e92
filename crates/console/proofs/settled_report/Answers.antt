use Rattle.std.proofs.Common.{◌≡◌, ℕ, ◌≤◌, List, length, take, ap, ◌∙◌, ap₂, arith, rules}
use Rattle.std.specs.Result.{result_unwrap_or}
use Rattle.std.proofs.lemmas.List.{with_items_is}
use Rattle.table.specs.System.{System}
use Rattle.text.specs.Report.{report_of}
use Rattle.console.proofs.Fits.{fits, whole_answer_lem, whole_front}
use Rattle.console.proofs.settled_report.Goals as goal

pub returns : goal.returns
returns g c = λ e.
    let w = c.write_settled.ensures.written e in
    let t : System = c.args.table.now.system in
    let text : List ℕ = report_of (length t.links) w.0.groups w.0.count in
    let before : List ℕ = c.as_mut_slice.result.now in
    let room : length before ≡ 10275 = search rules in
    let fit : length text ≤ length before = omega (arith, fits _ t _ _ _ (c.write_settled.ensures.small e) w.1) in
    let len : c.unwrap_or-len.result ≡ length text = c.unwrap_or-len.ensures ∙ ap (λ r. result_unwrap_or r 0) (w.2 ∙ whole_answer_lem before text fit) in
    let filled = with_items_is c.in_ok-text.text c.write_settled.new.out (search rules) in
    (w.0, w.1, c.truncate.ensures.items ∙ ap₂ take len (filled ∙ w.3) ∙ whole_front before text fit)
