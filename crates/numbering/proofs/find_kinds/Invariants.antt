use Rattle.std.proofs.Common.{◌≡◌, map, pos}
use Rattle.std.specs.List.{range_with_len}
use Rattle.numbering.specs.Kinds.{kind_of}
use Rattle.numbering.proofs.find_kinds.Given as goal

abbrev pub invariant-loop-x : goal.invariant-loop-x
invariant-loop-x l = l.kinds ≡ map (λ x. pos (kind_of l.states x)) (range_with_len 0 l.x)
