use Rattle.std.proofs.Common.{◌≡◌, ℕ, suc, ◌+◌, ◌<◌, List, [], ◌∷◌, ◌++◌, length, get_or, pos, sym, ap, ◌∙◌, arith, w64, of_z}
use Rattle.table.specs.System.{System, size}
use Rattle.table.specs.Numbering.{earliest}
use Rattle.table.specs.declared.parts.State.{State}
use Rattle.table.specs.declared.parts.Node.TheVariants.{Start}
use Rattle.theory.specs.Rounds.{alike}
use Rattle.theory.specs.Record.{leader}
use Rattle.theory.proofs.Counts.{count_bound}
use Rattle.theory.proofs.Starts.{starts_below, starts_yes, starts_no, starts_all, length_below}
use Rattle.settle.proofs.Begins.{leader_yes, leader_no}
use Rattle.settle.proofs.refinement.settling.list_starts.Goals as goal
use Rattle.settle.proofs.refinement.settling.list_starts.Goals.{then-kinds-x, else-kinds-x}

pub push-requires : goal.push-requires
push-requires c =
    let t : System = c.args.chart.now in
    let n = ap (λ ns. length ns) c.loop-x.invariant ∙ length_below t c.loop-x.x in
    let b = count_bound (leader t) c.loop-x.x in
    let few : c.loop-x.x < 1024 = omega (arith, c.loop-x-test.true, ap (λ ss. length ss) c.states-state-items.ensures.states, c.states-state-items.ensures.kept.few_states) in
    omega arith

pub loop-x-preserved : goal.loop-x-preserved
loop-x-preserved c =
    let t : System = c.args.chart.now in
    let x : ℕ = c.loop-x.x in
    let on : suc x ≡ x + 1 = omega arith in
    let xl : x < size t = omega (arith, c.loop-x-test.true, ap (λ ss. length ss) c.states-state-items.ensures.states) in
    let k : of_z w64 (get_or c.args.kinds.now x (pos 0)) ≡ earliest (alike t) x = ap (of_z w64) (c.requires.each x xl) in
    elim c.if-kinds-x.branch [
      | then-kinds-x w ↦ rw w.nodes-is (w.push.ensures ∙ ap (λ ns. ns ++ (Start (get_or c.states-state-items.result.now x (record { sort = 0; output = 0 })) ∷ [])) c.loop-x.invariant
          ∙ ap (λ (ss : List State). starts_below t x ++ (Start (get_or ss x (record { sort = 0; output = 0 })) ∷ [])) c.states-state-items.ensures.states
          ∙ sym (starts_yes t x (leader_yes t x (sym k ∙ w.if-kinds-x.true))) ∙ ap (starts_below t) on)
      | else-kinds-x w ↦ rw w.nodes-is (c.loop-x.invariant ∙ sym (starts_no t x (leader_no t x (λ e. w.if-kinds-x.false (k ∙ e)))) ∙ ap (starts_below t) on)
    ]

pub returns : goal.returns
returns c =
    let t : System = c.args.chart.now in
    let all : c.loop-x.x ≡ size t = omega (arith, c.loop-x-test.false, c.loop-x.auto.x-end, ap (λ ss. length ss) c.states-state-items.ensures.states) in
    c.loop-x.invariant ∙ ap (starts_below t) all ∙ sym (starts_all t)
