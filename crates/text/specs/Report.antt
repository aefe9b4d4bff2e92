-- The report of a settled table.
use Rattle.std.specs.Prelude.{ℕ, suc, List, [], ◌∷◌, ◌++◌, length, codes, decimal}
use Rattle.text.specs.declared.report.Report.{Report}

-- `states 4 links 4 groups 3`
abbrev pub head_of : ℕ → ℕ → ℕ → List ℕ
head_of states links groups = codes "states " ++ (decimal states ++ (codes " links " ++ (decimal links ++ (codes " groups " ++ (decimal groups ++ (10 ∷ []))))))

-- a state's number, a space and its group
abbrev pub line_of : ℕ → ℕ → List ℕ
line_of x group = decimal x ++ (32 ∷ (decimal group ++ (10 ∷ [])))

-- the lines of the states from x on, which have these groups
abbrev pub lines_from : ℕ → List ℕ → List ℕ
lines_from x [] = []
lines_from x (g ∷ groups) = line_of x g ++ lines_from (suc x) groups

-- the report of so many links, the groups of the states in order, and how many groups there are
abbrev pub report_of : ℕ → List ℕ → ℕ → List ℕ
report_of links groups count = head_of (length groups) links count ++ lines_from 0 groups

abbrev pub text_of : Report → List ℕ
text_of r = report_of r.links r.groups.now r.count
