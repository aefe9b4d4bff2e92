use Rattle.std.proofs.Common.{◌∙◌, arith}
use Rattle.std.proofs.lemmas.List.{drop_more, drop_all}
use Rattle.text.specs.Buffer.{laid}
use Rattle.text.proofs.Laid.{laying}
use Rattle.text.proofs.buffer.Buffer.put_all.Goals as goal

pub write-requires : goal.write-requires
write-requires c = c.loop-byte.invariant.0

pub returns-in_err-write : goal.returns-in_err-write
unfolding laid
returns-in_err-write c = c.loop-byte.invariant.1 _ _ (grind (arith, laying, drop_more))

pub loop-byte-preserved : goal.loop-byte-preserved
unfolding laid
loop-byte-preserved c = (c.in_ok-write.ensures.mode ∙ c.loop-byte.invariant.0, λ b r h. c.loop-byte.invariant.1 b r (grind (arith, laying, drop_more)))

pub returns : goal.returns
unfolding laid
returns c = c.loop-byte.invariant.1 _ _ (grind (arith, laying, drop_all))
