use Rattle.std.proofs.Common.{◌≡◌, ◌<◌, ◌≤◌, length, ℤ, sym, ap, ◌∙◌, subst, arith, w64, SFits, rules}
use Rattle.std.proofs.lemmas.Int.{to_z-of_z}
use Rattle.partition.specs.Perm.{at, fig}
use Rattle.partition.specs.Cuts.{Cutting}
use Rattle.partition.proofs.Cuttings.{cutting_start, cutting_more, taken_some}
use Rattle.partition.proofs.cells.Cells.cut_runs.Goals as goal

pub loop-m-init : goal.loop-m-init
loop-m-init c = cutting_start _ _ _ _ _ _ _ c.args.self.now.order.perm c.args.self.now.blocks c.requires.start_within

pub take_run-m-requires : goal.take_run-m-requires
take_run-m-requires c =
    let i = c.loop-m.invariant in
    record {
      figured = omega (arith, i.outside.len, c.requires.figured);
      start_within = i.high;
      end_within = omega (arith, i.outside.len, c.requires.end_within);
      number = omega (arith, i.room, c.requires.number);
    }

pub loop-m-smaller : goal.loop-m-smaller
loop-m-smaller c =
    let i = c.loop-m.invariant in
    let t = c.take_run-m.ensures in
    let fits : c.args.end ≤ length c.loop-m.self.order.states = omega (arith, i.outside.len, c.requires.end_within) in
    let x : ℤ = fig c.args.figures.now (at c.deref.result.now c.loop-m.m) in
    let fit : SFits w64 x = search rules in
    let more : c.loop-m.m < c.take_run-m.result = taken_some _ _ _ _ _ _ _ _ _ _ _ _ _ _ _ _ _ i fits t c.loop-m.m (omega arith) c.loop-m-test.true (ap (λ xs. fig c.args.figures.now (at xs c.loop-m.m)) (sym c.deref.ensures) ∙ sym (to_z-of_z w64 x fit)) in
    omega (arith, t.high)

pub loop-m-preserved : goal.loop-m-preserved
loop-m-preserved c =
    let i = c.loop-m.invariant in
    let t = c.take_run-m.ensures in
    let fits : c.args.end ≤ length c.loop-m.self.order.states = omega (arith, i.outside.len, c.requires.end_within) in
    let x : ℤ = fig c.args.figures.now (at c.deref.result.now c.loop-m.m) in
    let fit : SFits w64 x = search rules in
    let more : c.loop-m.m < c.take_run-m.result = taken_some _ _ _ _ _ _ _ _ _ _ _ _ _ _ _ _ _ i fits t c.loop-m.m (omega arith) c.loop-m-test.true (ap (λ xs. fig c.args.figures.now (at xs c.loop-m.m)) (sym c.deref.ensures) ∙ sym (to_z-of_z w64 x fit)) in
    cutting_more _ _ _ _ _ _ _ _ _ _ _ _ _ _ _ _ _ i fits t more

pub returns : goal.returns
returns c =
    let i = c.loop-m.invariant in
    let d : c.loop-m.m ≡ c.args.end = omega (arith, i.high, c.loop-m-test.false) in
    let old = c.args.self.now in
    let new = c.loop-m.self in
    subst (λ z. Cutting old.order.states old.block old.stretches c.args.figures.now c.args.start c.args.end new.order.states new.order.places new.block new.stretches z) d i
