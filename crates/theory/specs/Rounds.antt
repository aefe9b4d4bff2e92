-- The rounds of refinement. Each state has the number of the smallest state that it is together with.
use Rattle.std.specs.Prelude.{ℕ, zero, suc, Bool, true, false, ◌&&◌, List, map, ℤ, pos, negsuc, ◌==◌, slice_index}
use Rattle.std.specs.List.{range_with_len}
use Rattle.weigher.specs.Figure.{Figure}
use Rattle.table.specs.System.{System, size, sort_of, output_of, figure_of, class}
use Rattle.table.specs.Numbering.{earliest}

abbrev pub same_int : ℤ → ℤ → Bool
same_int (pos a) (pos b) = a == b
same_int (pos a) (negsuc b) = false
same_int (negsuc a) (pos b) = false
same_int (negsuc a) (negsuc b) = a == b

-- whether a test passes at every number below n
unfoldable pub each_below : (ℕ → Bool) → ℕ → Bool
each_below P zero = true
each_below P (suc n) = let rest = each_below P n in P n && rest

-- a list of numbers read as a grouping
abbrev pub number_in : List ℕ → ℕ → ℕ
number_in numbers x = slice_index numbers x

-- together at the start: of one sort and output
unfoldable pub alike : System → ℕ → ℕ → Bool
alike t x y = sort_of t x == sort_of t y && output_of t x == output_of t y

-- together after a grouping: of one group, with one figure for each label and group
unfoldable pub still : Figure → System → List ℕ → ℕ → ℕ → Bool
still fig t numbers x y =
    let rest = each_below (λ l. each_below (λ c. same_int (figure_of fig t x l (class (number_in numbers) c)) (figure_of fig t y l (class (number_in numbers) c))) (size t)) 64 in
    (number_in numbers x == number_in numbers y) && rest

unfoldable pub grouped : (ℕ → ℕ → Bool) → ℕ → List ℕ
grouped like n = map (earliest like) (range_with_len 0 n)

unfoldable pub round : Figure → System → ℕ → List ℕ
round fig t zero = grouped (alike t) (size t)
round fig t (suc k) = let before = round fig t k in grouped (still fig t before) (size t)

-- the grouping of a round
abbrev pub in_round : Figure → System → ℕ → ℕ → ℕ
in_round fig t k = number_in (round fig t k)
