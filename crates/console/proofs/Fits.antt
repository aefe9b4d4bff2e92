-- Every report fits the room for the longest.
use Rattle.std.proofs.Common.{◌≡◌, ℕ, ◌<◌, ◌≤◌, leb, List, ◌++◌, length, take, drop, Ok, Err, refl, ap, ◌∙◌, arith}
use Rattle.std.proofs.ByRecursion.{All-from_get_or}
use Rattle.std.proofs.lemmas.List.{take_at}
use Rattle.std.proofs.lemmas.Bool.{cond-true, le-leb}
use Rattle.weigher.specs.Figure.{Figure}
use Rattle.table.specs.System.{System, Small, size}
use Rattle.table.specs.Numbering.{group_number, group_count, is_smallest}
use Rattle.table.specs.declared.parts.Node.{Node}
use Rattle.table.specs.declared.parts.Refusal.TheVariants.{NoRoom}
use Rattle.theory.specs.Rounds.{number_in}
use Rattle.theory.proofs.Counts.{count_bound}
use Rattle.theory.proofs.Groups.{numbers}
use Rattle.settle.specs.Grouped.{Grouped}
use Rattle.settle.proofs.Groupings.{number_in_lem, grouped_length}
use Rattle.text.specs.Buffer.{whole_answer, whole_buffer}
use Rattle.text.specs.Report.{report_of}
use Rattle.text.proofs.Short.{report_short}

few_groups : (g : ℕ → ℕ) (n : ℕ) → group_count g n ≤ n
unfolding group_count
few_groups g n = count_bound (is_smallest g) n

pub fits : (fig : Figure) (t : System) (groups : List ℕ) (count : ℕ) (nodes : List Node) → Small t → Grouped fig t groups count nodes → length (report_of (length t.links) groups count) ≤ 10275
fits fig t groups count nodes s h =
    let n = grouped_length fig t groups count nodes h in
    let a = s.states in
    let f = few_groups (number_in groups) (size t) in
    let c = h.counted in
    report_short (length t.links) groups count s.links (omega arith) (omega arith)
    (All-from_get_or (λ g. g < 10000) groups 0 (λ x l.
    let e : number_in groups x ≡ group_number (number_in groups) x = ap (λ gs. number_in gs x) h.numbered ∙ number_in_lem (number_in groups) (size t) x (omega arith) in
    omega (arith, (numbers (number_in groups) (size t)).2 x (omega arith))))

-- what fits is answered by its length, and stands at the front
pub whole_answer_lem : (before text : List ℕ) → length text ≤ length before → whole_answer before text ≡ Ok (length text)
whole_answer_lem before text h = cond-true (leb (length text) (length before)) (Ok (length text)) (Err NoRoom) (le-leb _ _ h)

pub whole_front : (before text : List ℕ) → length text ≤ length before → take (length text) (whole_buffer before text) ≡ text
whole_front before text h = ap (take (length text)) (cond-true (leb (length text) (length before)) (text ++ drop (length text) before) before (le-leb _ _ h)) ∙ take_at text (drop (length text) before) (length text) refl
