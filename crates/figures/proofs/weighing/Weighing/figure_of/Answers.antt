use Rattle.std.proofs.Common.{◌≡◌, ℕ, ◌+◌, ◌<◌, ◌≤◌, Bool, List, map, length, get_or, filter, Option, sym, ap, ◌∙◌, subst, arith, w32, w64, SFits, rules}
use Rattle.std.proofs.lemmas.Int.{to_z-of_z}
use Rattle.table.specs.System.{System, sort_of, into, leads}
use Rattle.table.specs.declared.parts.State.{State}
use Rattle.table.specs.declared.parts.Link.{Link}
use Rattle.partition.specs.View.{in_node}
use Rattle.figures.specs.Index.{Follows, link_in, link_at, place_of}
use Rattle.figures.proofs.Walks.{sofar, sofar_none, sofar_all, walk_in, walk_past, walked}
use Rattle.figures.proofs.weighing.Weighing.figure_of.Goals as goal
use Rattle.figures.proofs.weighing.Weighing.figure_of.Goals.{then-leads_into, else-leads_into}

pub loop-next-init : goal.loop-next-init
loop-next-init g c =
    let links : List Link = c.links-links.result.now in
    let x : ℕ = c.args.state in
    let l : ℕ = c.args.label in
    let S : ℕ → Bool = in_node c.args.self.now.aim.row.now c.args.self.now.aim.marker in
    let sort : ℕ = (get_or c.states.result.now x (record { sort = 0; output = 0 })).sort in
    let f : Follows links x l 0 c.first-next.result = rw (c.links-links.ensures.links, c.first-next.ensures) (c.args.self.now.indexed.first x l c.requires.state c.requires.label) in
    walked links x l S (λ ws. g.W.Weigher.carries c.args.self.now.pile.now sort l ws c.empty-load.result) 0 c.first-next.result f
    (rw (sofar_none links x l S) c.empty-load.ensures)

pub loop-next-preserved : goal.loop-next-preserved
loop-next-preserved g c =
    let links : List Link = c.links-links.result.now in
    let i : ℕ = c.in-Some.i in
    let x : ℕ = c.args.state in
    let l : ℕ = c.args.label in
    let S : ℕ → Bool = in_node c.args.self.now.aim.row.now c.args.self.now.aim.marker in
    let sort : ℕ = (get_or c.states.result.now x (record { sort = 0; output = 0 })).sort in
    let here : place_of links c.loop-next.next ≡ i = ap (place_of links) c.in-Some.is in
    let low : i < length links = c.loop-next.invariant.1 i c.in-Some.is in
    let Fed : ℕ → Type 0 = λ k. g.W.Weigher.carries c.args.self.now.pile.now sort l (sofar links x l S k) c.loop-next.load in
    let From : ℕ → Type 0 = λ k. k < length links → (link_at links k).source ≡ x in
    let With : ℕ → Type 0 = λ k. k < length links → (link_at links k).label ≡ l in
    let fed : Fed i = subst Fed here c.loop-next.invariant.0 in
    let ex = subst From here c.loop-next.invariant.2 low in
    let el = subst With here c.loop-next.invariant.3 low in
    let nexts : List (Option ℕ) = c.args.self.now.index.now.nexts in
    let f0 : Follows links (link_at links i).source (link_at links i).label (i + 1) (link_in nexts i) = rw c.links-links.ensures.links (c.args.self.now.indexed.next i (search rules) (search rules)) in
    let f : Follows links x l (i + 1) c.next-next.result = rw (c.next-next.ensures, ← ex, ← el) f0 in
    walked links x l S (λ ws. g.W.Weigher.carries c.args.self.now.pile.now sort l ws c.if-leads_into.load) (i + 1) c.next-next.result f
    (elim c.if-leads_into.branch [
      | then-leads_into w ↦
          let fit : SFits w32 (link_at links i).weight = search rules in
          let h = w.add-load.ensures (sofar links x l S i) fed in
          rw (walk_in links x l S i low ex el (sym c.leads_into.ensures ∙ w.if-leads_into.true), w.load-is) (simp to_z-of_z at h)
      | else-leads_into w ↦ rw (walk_past links x l S i low ex el (sym c.leads_into.ensures ∙ w.if-leads_into.false), w.load-is) fed
    ])

pub returns : goal.returns
returns g c =
    let links : List Link = c.links-links.result.now in
    let x : ℕ = c.args.state in
    let l : ℕ = c.args.label in
    let S : ℕ → Bool = in_node c.args.self.now.aim.row.now c.args.self.now.aim.marker in
    let fit : SFits w64 c.weigh.result = search rules in
    let t : System = c.args.self.now.aim.chart.now in
    let sort : ℕ = (get_or c.states.result.now x (record { sort = 0; output = 0 })).sort in
    let at_end : length links ≤ place_of links c.loop-next.next = omega (arith, ap (place_of links) c.in_default.is) in
    let all : sofar links x l S (place_of links c.loop-next.next) ≡ into t x l S =
    sofar_all links x l S (place_of links c.loop-next.next) at_end ∙ ap (λ ks. map (λ k. k.weight) (filter (leads x l S) ks)) c.links-links.ensures.links
    in
    let es : sort ≡ sort_of t x = ap (λ (ss : List State). (get_or ss x (record { sort = 0; output = 0 })).sort) c.states.ensures.states in
    let fed : g.W.Weigher.carries c.args.self.now.pile.now sort l (into t x l S) c.loop-next.load = subst (λ ws. g.W.Weigher.carries c.args.self.now.pile.now sort l ws c.loop-next.load) all c.loop-next.invariant.0 in
    to_z-of_z w64 c.weigh.result fit ∙ c.weigh.ensures (into t x l S) fed ∙ ap (λ s. g.W.Weigher.figure c.args.self.now.pile.now s l (into t x l S)) es
