use Rattle.std.proofs.Common.{◌≡◌, ℕ, ◌^◌, ◌<◌, length, ℤ, pos, sym, ap, ◌∙◌, subst, arith, w64, to_z, of_z, SFits, rules}
use Rattle.std.proofs.lemmas.Int.{to_z_pos, to_z-of_z}
use Rattle.partition.specs.Perm.{fig}
use Rattle.partition.specs.Kinds.{Sorting}
use Rattle.partition.proofs.Sorts.{sort_none, sort_skip, sort_take, sort_end, cells_like}
use Rattle.partition.proofs.cells.Cells.cut_by_kind.Goals as goal
use Rattle.partition.proofs.cells.Cells.cut_by_kind.Goals.{then-kind-x, else-kind-x}

pub loop-x-init : goal.loop-x-init
loop-x-init c = sort_none _ _ _ _ _ c.args.self.now.order.perm c.args.self.now.blocks c.requires.sized c.requires.empty

pub loop-x-preserved : goal.loop-x-preserved
loop-x-preserved c =
    let s = c.loop-x.invariant in
    let x : ℕ = c.loop-x.x in
    let v : ℤ = fig c.args.kinds.now x in
    let low : x < 2 ^ 63 = omega (arith, c.requires.small, c.loop-x-test.true) in
    let fit : SFits w64 v = search rules in
    let back = to_z-of_z w64 v fit in
    elim c.if-kind-x.branch [
      | then-kind-x w ↦
          let told : to_z w64 (of_z w64 v) ≡ pos x = ap (to_z w64) w.if-kind-x.true ∙ to_z_pos w64 x low in
          cells_like c.args.self.now c.args.kinds.now w.take_run-m.new.self c.if-kind-x.self _ _ _ w.self-is w.m-is
          (sort_take _ _ _ _ _ _ _ _ _ c.requires.kinds s c.loop-x-test.true (sym back ∙ told) _ told _ _ _ _ _ w.take_run-m.ensures)
      | else-kind-x w ↦
          cells_like c.args.self.now c.args.kinds.now c.loop-x.self c.if-kind-x.self _ _ _ w.self-is w.m-is
          (sort_skip _ _ _ _ _ _ _ _ _ c.requires.kinds s c.loop-x-test.true (λ e. w.if-kind-x.false (ap (of_z w64) e)))
    ]

pub returns : goal.returns
returns c =
    let s = c.loop-x.invariant in
    let x : c.loop-x.x ≡ length c.args.kinds.now = omega arith in
    let m = sort_end _ _ _ _ _ _ _ _ _ c.requires.kinds s x in
    let old = c.args.self.now in
    let new = c.loop-x.self in
    let upto : ℕ → ℕ → Type 0 = λ m x. Sorting old.order.states old.block c.args.kinds.now new.order.states new.order.places new.block new.stretches m x in
    subst (λ z. upto z (length c.args.kinds.now)) m (subst (upto c.loop-x.m) x s)
