-- The figures of the weighers, of the two layers, and of the piles that are shipped.
use Rattle.std.specs.Prelude.{ℕ, zero, suc, ◌-◌, cond, List, [], ◌∷◌, ℤ, pos, ◌+ℤ◌, Some, None, Option, nat_lt}
use Rattle.std.specs.Int.{int_max, int_wrap, w64}
use Rattle.std.specs.Option.{unwrap_or}
use Rattle.weigher.specs.Figure.{Figure}

-- reach: whether there is a link at all, whatever it weighs
abbrev pub reached : List ℤ → ℤ
reached [] = pos 0
reached (w ∷ ws) = pos 1

abbrev pub reach : Figure
reach s l ws = reached ws

-- sum: the total, modulo 2^64 and read as a signed number
abbrev pub total : List ℤ → ℤ
total [] = pos 0
total (w ∷ ws) = w +ℤ total ws

abbrev pub sum : Figure
sum s l ws = int_wrap w64 (total ws)

-- greatest: the greatest weight, and for no weight a number above every weight
abbrev pub larger : ℤ → Option ℤ → ℤ
larger w None = w
larger w (Some m) = int_max w m

abbrev pub most : List ℤ → Option ℤ
most [] = None
most (w ∷ ws) = Some (larger w (most ws))

abbrev pub greatest : Figure
greatest s l ws = unwrap_or (most ws) (pos 2147483648)

-- blind: nothing is seen
abbrev pub blind : Figure
blind s l ws = pos 0

-- by label: below the cut the first, and from the cut on the second at the label less the cut
abbrev pub by_label : ℕ → Figure → Figure → Figure
by_label cut first second s l ws = cond (nat_lt l cut) (first s l ws) (second s (l - cut) ws)

-- by sort: the first at sort 0, and the second at every other sort less one
abbrev pub by_sort : Figure → Figure → Figure
by_sort first second zero l ws = first 0 l ws
by_sort first second (suc s) l ws = second s l ws

-- the piles
abbrev pub buttons : Figure
buttons = reach

abbrev pub timed : Figure
timed = by_label 48 reach greatest

abbrev pub lots : Figure
lots = by_sort reach sum
