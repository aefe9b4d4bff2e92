use Rattle.std.proofs.Common.{◌≡◌, List, length, ℤ, sym, ap, subst, arith}
use Rattle.table.specs.System.{System, size}
use Rattle.partition.specs.View.{Kinds, Begun}
use Rattle.settle.specs.Starts.{KindsOf}
use Rattle.settle.specs.Progress.{Shown}
use Rattle.settle.proofs.Begins.{kinds_are, shown_start}
use Rattle.settle.proofs.refinement.Refinement.begin.Goals as goal

pub begin-requires : goal.begin-requires
begin-requires c =
    let t : System = c.args.chart.now in
    let figs : List ℤ = c.find_kinds.new.kinds in
    let n = ap (λ ss. length ss) c.states.ensures.states in
    let len : length figs ≡ size t = omega (arith, c.find_kinds.ensures.len) in
    let k : KindsOf t figs = record { len = len; each = λ x xl. c.find_kinds.ensures.each t (sym c.states.ensures.states) x (omega arith) } in
    record { small = omega (arith, ap (λ fs. length fs) c.deref.ensures, c.states.ensures.kept.few_states); kinds = subst Kinds (sym c.deref.ensures) (kinds_are t figs k) }

pub returns : goal.returns
returns c =
    let t : System = c.args.chart.now in
    let figs : List ℤ = c.find_kinds.new.kinds in
    let n = ap (λ ss. length ss) c.states.ensures.states in
    let len : length figs ≡ size t = omega (arith, c.find_kinds.ensures.len) in
    let k : KindsOf t figs = record { len = len; each = λ x xl. c.find_kinds.ensures.each t (sym c.states.ensures.states) x (omega arith) } in
    let b : Begun figs c.begin.new.self = subst (λ fs. Begun fs c.begin.new.self) c.deref.ensures c.begin.ensures in
    record {
      kept = c.states.ensures.kept;
      shown = λ fig. subst (λ ns. Shown fig t ns c.begin.new.self) (sym c.list_starts.ensures) (shown_start t figs k fig c.begin.new.self b);
      index = c.build.ensures;
      figures = len;
    }
