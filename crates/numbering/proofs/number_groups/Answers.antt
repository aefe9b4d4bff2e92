use Rattle.numbering.proofs.Numbered.{numbered_none}
use Rattle.numbering.proofs.number_groups.Goals as goal

pub number_all-requires : goal.number_all-requires
number_all-requires c = record {
  few = c.requires.few;
  low = c.requires.low;
  start = numbered_none _ _ _ c.fill.ensures c.clear.ensures;
}
