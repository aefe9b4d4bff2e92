use Rattle.std.proofs.Common.{ℕ, ◌<◌, [], ◌∷◌, ◌++◌, length, ℤ, ap, ◌∙◌, arith, w64, SFits, to_z, of_z, rules}
use Rattle.std.proofs.lemmas.Int.{to_z-of_z}
use Rattle.partition.specs.Perm.{at, fig as figure_in}
use Rattle.partition.proofs.Facts.{filled}
use Rattle.settle.proofs.Listings.{listed_more, listed_length}
use Rattle.settle.proofs.refinement.settling.list_parts.Goals as goal

pub bounds-states-0 : goal.bounds-states-0
bounds-states-0 c =
    let x = filled c.args.row.now c.loop-b.b (search rules) in
    let i = c.states.ensures.found x.0 x.1 x.2 in
    let some : 0 < length c.states.result.now = omega (arith, i.1) in
    search rules

pub bounds-figures-first : goal.bounds-figures-first
bounds-figures-first c =
    let x = filled c.args.row.now c.loop-b.b (search rules) in
    let i = c.states.ensures.found x.0 x.1 x.2 in
    omega (arith, c.states.ensures.known 0 (omega (arith, i.1)), c.requires.figured)

pub push-requires : goal.push-requires
push-requires c =
    let n = listed_length _ _ _ _ _ _ _ _ c.loop-b.invariant in
    omega (arith, c.requires.few, c.loop-b-test.true)

pub loop-b-preserved : goal.loop-b-preserved
loop-b-preserved c =
    let x : ℕ = at c.states.result.now 0 in
    let y = filled c.args.row.now c.loop-b.b (search rules) in
    let i = c.states.ensures.found y.0 y.1 y.2 in
    let some : 0 < length c.states.result.now = omega (arith, i.1) in
    let v : ℤ = figure_in c.args.figures.now x in
    let fit : SFits w64 v = search rules in
    listed_more _ _ _ _ _ _ _ _ c.loop-b.b x (to_z w64 (of_z w64 v)) c.loop-b.invariant (c.states.ensures.known 0 some) (c.states.ensures.held 0 some) (to_z-of_z w64 v fit) (c.push.ensures ∙ ap (λ n. c.loop-b.nodes ++ (n ∷ [])) c.part.ensures)
