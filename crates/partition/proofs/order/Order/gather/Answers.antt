use Rattle.std.proofs.Common.{◌≡◌, ◌≢◌, ◌∙◌, subst, arith, w64, SFits, to_z, of_z}
use Rattle.partition.specs.Perm.{at, fig}
use Rattle.std.proofs.lemmas.Int.{to_z-of_z}
use Rattle.std.proofs.lemmas.Bool.Decides.{when_true, when_false}
use Rattle.partition.proofs.Gathers.{gather_none, gather_skip, gather_stay, gather_swap, gather_like, gather_as}
use Rattle.partition.proofs.Orders.{states_are, places_are}
use Rattle.partition.proofs.order.Order.gather.Goals as goal
use Rattle.partition.proofs.order.Order.gather.Goals.{then-shows, else-shows, then-mid-i, else-mid-i}

pub loop-i-init : goal.loop-i-init
loop-i-init c = gather_none _ _ _ _ _ _ c.args.self.now.perm

pub loop-i-preserved : goal.loop-i-preserved
loop-i-preserved c =
    elim c.if-shows.branch [
      | then-shows w ↦
          let is : fig c.args.figures.now (at c.loop-i.self.states c.loop-i.i) ≡ to_z w64 (of_z w64 c.args.figure) = subst (λ xs. fig c.args.figures.now (at xs c.loop-i.i) ≡ to_z w64 (of_z w64 c.args.figure)) c.deref.ensures (when_true _ _ w.if-shows.true c.shows.ensures) in
          elim w.if-mid-i.branch [
            | then-mid-i v ↦
                gather_as _ _ _ _ _ _ _ _ _ _ _ _ (states_are (w.self-is ∙ v.self-is)) (places_are (w.self-is ∙ v.self-is)) w.mid-is
                (gather_swap _ _ _ _ _ _ _ _ _ c.loop-i.invariant c.loop-i-test.true _ _ v.if-mid-i.true v.exchange.ensures v.exchange.new.self.perm is)
            | else-mid-i v ↦
                gather_as _ _ _ _ _ _ _ _ _ _ _ _ (states_are (w.self-is ∙ v.self-is)) (places_are (w.self-is ∙ v.self-is)) w.mid-is
                (gather_stay _ _ _ _ _ _ _ _ _ c.loop-i.invariant c.loop-i-test.true v.if-mid-i.false is)
          ]
      | else-shows w ↦
          gather_as _ _ _ _ _ _ _ _ _ _ _ _ (states_are w.self-is) (places_are w.self-is) w.mid-is
          (gather_skip _ _ _ _ _ _ _ _ _ c.loop-i.invariant c.loop-i-test.true (subst (λ xs. fig c.args.figures.now (at xs c.loop-i.i) ≢ to_z w64 (of_z w64 c.args.figure)) c.deref.ensures (when_false _ _ w.if-shows.false c.shows.ensures)))
    ]

pub returns : goal.returns
returns c =
    let e : c.loop-i.i ≡ c.args.end = omega arith in
    let fit : SFits w64 c.args.figure = c.ranges.figure in
    let g = gather_like _ _ _ _ _ _ _ _ _ _ c.args.figure e (to_z-of_z w64 c.args.figure fit) c.loop-i.invariant in
    record { outside = g.outside; low = g.low; high = g.high; front = g.front; rest = g.rest }
