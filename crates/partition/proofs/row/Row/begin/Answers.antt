use Rattle.partition.proofs.Sorts.{whole_sorted, begun}
use Rattle.partition.proofs.row.Row.begin.Goals as goal

pub invariant_of-self : goal.invariant_of-self
invariant_of-self c = record { whole = whole_sorted _ _ _ _ _ _ _ c.cut_by_kind.ensures }

pub returns : goal.returns
returns c = begun _ _ _ _ c.cut_by_kind.ensures
