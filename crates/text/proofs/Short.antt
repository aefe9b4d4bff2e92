-- How long a report can be.
use Rattle.std.proofs.Common.{◌≡◌, ℕ, suc, ◌+◌, ◌*◌, ◌<◌, ◌≤◌, List, [], ◌∷◌, ◌++◌, length, decimal, arith}
use Rattle.std.specs.List.{AllByRecursion}
use Rattle.std.proofs.lemmas.Fmt.{length-decimal-le}
use Rattle.std.proofs.lemmas.List.{length-append}
use Rattle.text.specs.Report.{head_of, line_of, lines_from, report_of}

four : (n : ℕ) → n < 10000 → length (decimal n) ≤ 4
four n h = length-decimal-le 4 n (omega arith) (omega arith) (omega arith)

line_length : (x g : ℕ) (rest : List ℕ) → length (line_of x g ++ rest) ≡ length (decimal x) + length (decimal g) + 2 + length rest
line_length x g rest = simp length-append (omega arith)

lines_short : (x : ℕ) (groups : List ℕ) → x + length groups ≤ 10000 → AllByRecursion (λ g. g < 10000) groups → length (lines_from x groups) ≤ 10 * length groups
lines_short x [] h low = omega arith
lines_short x (g ∷ groups) h low = omega (arith, line_length x g (lines_from (suc x) groups), four x (omega arith), four g low.0, lines_short (suc x) groups (omega arith) low.1)

head_short : (states links groups : ℕ) → states < 10000 → links < 10000 → groups < 10000 → length (head_of states links groups) ≤ 35
head_short states links groups a b c = simp length-append (omega (arith, four states a, four links b, four groups c))

-- no table has a longer one
pub report_short : (links : ℕ) (groups : List ℕ) (count : ℕ) → links ≤ 4096 → length groups ≤ 1024 → count ≤ 1024 → AllByRecursion (λ g. g < 10000) groups → length (report_of links groups count) ≤ 10275
report_short links groups count a b c low =
    omega (arith, length-append (head_of (length groups) links count) (lines_from 0 groups), head_short (length groups) links count (omega arith) (omega arith) (omega arith), lines_short 0 groups (omega arith) low)
