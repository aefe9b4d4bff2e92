use Rattle.std.proofs.Common.{◌≡◌, ◌<◌, ◌≤◌, length, arith}
use Rattle.numbering.specs.Blocks.{at}
use Rattle.numbering.proofs.Numbered.{numbered_few, numbered_long, numbered_more}
use Rattle.numbering.proofs.number_all.Goals as goal

pub number_state-next-requires : goal.number_state-next-requires
number_state-next-requires c =
    let h = c.loop-block.invariant in
    let block : at c.args.blocks.now c.loop-block.block-index < 2048 = c.requires.low c.loop-block.block-index _ (omega arith) c.loop-block-test.true in
    let next : c.loop-block.next ≤ c.loop-block.block-index = numbered_few _ _ _ _ _ h in
    let long : length c.loop-block.groups ≡ c.loop-block.block-index = numbered_long _ _ _ _ _ h in
    record {
      low = omega (arith, h.len);
      few = omega (arith, c.loop-block-test.true, c.requires.few);
      room = omega (arith, c.requires.few, c.loop-block-test.true);
    }

pub loop-block-preserved : goal.loop-block-preserved
loop-block-preserved c =
    let e = c.number_state-next.ensures in
    let block : at c.args.blocks.now c.loop-block.block-index < 2048 = c.requires.low c.loop-block.block-index _ (omega arith) c.loop-block-test.true in
    rw (e.groups, e.numbers, e.next) (numbered_more (at c.args.blocks.now) c.loop-block.block-index c.loop-block.numbers c.loop-block.next c.loop-block.groups c.loop-block.invariant block)
