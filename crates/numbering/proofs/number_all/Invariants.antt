use Rattle.numbering.specs.Blocks.{Numbered, at}
use Rattle.numbering.proofs.number_all.Given as goal

abbrev pub invariant-loop-block : goal.invariant-loop-block
invariant-loop-block l = Numbered (at l.blocks) l.block-index l.numbers l.next l.groups
