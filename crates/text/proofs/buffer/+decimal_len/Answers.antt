use Rattle.std.proofs.Common.{◌≤◌, length, decimal, sym, ap, ◌∙◌, arith, rules}
use Rattle.std.proofs.lemmas.Fmt.{decimal_digit, decimal_step, length-decimal-le}
use Rattle.std.proofs.lemmas.List.{length_push}
use Rattle.text.proofs.buffer.+decimal_len.Goals as goal

pub returns-then-n-lt10 : goal.returns-then-n-lt10
returns-then-n-lt10 t c = record { value = sym (ap length (decimal_digit _ c.if-n-lt10.true)); few = omega arith }

pub returns : goal.returns
returns t c =
    let n : length (decimal c.args.n) ≤ 20 = length-decimal-le 20 c.args.n (omega arith) (omega (arith, c.ranges.n)) (omega (arith, c.ranges.n)) in
    let e = ap length (decimal_step c.args.n c.if-n-lt10.false (search rules)) ∙ length_push _ _ in
    let h = c.decimal_len.ensures.value in
    record { value = omega arith; few = omega arith }
