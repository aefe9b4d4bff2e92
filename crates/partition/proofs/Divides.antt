-- What a whole cut gives.
use Rattle.std.proofs.Common.{◌≡◌, ℕ, ◌+◌, ◌<◌, ◌≤◌, true, false, ◌⊎◌, List, length, get_or, ℤ, Decides, sym, refl, ap, ◌∙◌, subst, inl, inr, arith}
use Rattle.std.proofs.lemmas.List.{length-set, get_or_read}
use Rattle.std.proofs.lemmas.Bool.{cases_eq, cases_lt, leb-true, le-leb}
use Rattle.std.proofs.lemmas.Bool.Decides.{Decides-and, Decides-like, Decides-ltb, same_from_decides}
use Rattle.partition.specs.Perm.{Perm, at, fig}
use Rattle.partition.specs.Stretches.{stretch_at, marked, blank, by, Whole}
use Rattle.partition.specs.Cuts.{Cutting, Level, mark_at}
use Rattle.partition.specs.View.{holds_place}
use Rattle.partition.specs.declared.stretch.Stretch.{Stretch}
use Rattle.partition.proofs.Perms.{Stays, stays, came_from, outside_back}
use Rattle.partition.proofs.Slacks.{slack_mark, mark_other, mark_same, mark_keeps, mark_left}

-- whether a place is in a stretch
pub decides_place : (t : Stretch) (i : ℕ) → Decides (holds_place t i) ((t.start ≤ i) × (i < t.end))
decides_place t i = Decides-and _ _ (leb-true t.start i, le-leb t.start i) (Decides-ltb i t.end)

-- a state by its place
pub at_place : (o p k : List ℕ) → Perm o p → (x : ℕ) → x < length p → by k o (at p x) ≡ at k x
at_place o p k h x l = ap (at k) (h.fore x l)

module _ (o0 p0 k0 : List ℕ) (ns0 : List Stretch) (w : Whole o0 p0 k0 ns0) (leaf : ℕ) (known : leaf < length ns0) (open' : (stretch_at ns0 leaf).split ≡ false) where
  -- a place is in the leaf's stretch where its block is the leaf
  in_low : (i : ℕ) → i < length o0 → by k0 o0 i ≡ leaf → (stretch_at ns0 leaf).start ≤ i
  in_low i l q = subst (λ b. (stretch_at ns0 b).start ≤ i) q (w.from i l)

  in_high : (i : ℕ) → i < length o0 → by k0 o0 i ≡ leaf → i < (stretch_at ns0 leaf).end
  in_high i l q = subst (λ b. i < (stretch_at ns0 b).end) q (w.to i l)

  is_leaf : (i : ℕ) → (stretch_at ns0 leaf).start ≤ i → i < (stretch_at ns0 leaf).end → by k0 o0 i ≡ leaf
  is_leaf i a b = w.own leaf i (known, open', a, b)

module _ (o0 p0 k0 : List ℕ) (ns0 : List Stretch) (w : Whole o0 p0 k0 ns0) (leaf : ℕ) (known : leaf < length ns0) (open' : (stretch_at ns0 leaf).split ≡ false) (figs : List ℤ) (o p k : List ℕ) (ns : List Stretch) (c : Cutting o0 k0 (mark_at ns0 leaf) figs (stretch_at ns0 leaf).start (stretch_at ns0 leaf).end o p k ns (stretch_at ns0 leaf).end) where
  many : length (mark_at ns0 leaf) ≡ length ns0
  many = length-set ns0 leaf (marked (stretch_at ns0 leaf))

  long : length o ≡ length o0
  long = c.outside.len

  leaf_end : (stretch_at ns0 leaf).end ≤ length o0
  leaf_end = w.within leaf known

  old_keeps : {A : Type 0} (f : Stretch → A) → ((t : Stretch) → f (marked t) ≡ f t) → (b : ℕ) → b < length ns0 → f (stretch_at ns b) ≡ f (stretch_at ns0 b)
  old_keeps f h b l = ap f (c.old b (omega (arith, many))) ∙ mark_keeps ns0 leaf known f h b

  old_start : (b : ℕ) → b < length ns0 → (stretch_at ns b).start ≡ (stretch_at ns0 b).start
  old_start = old_keeps (λ t. t.start) (λ t. refl)

  old_end : (b : ℕ) → b < length ns0 → (stretch_at ns b).end ≡ (stretch_at ns0 b).end
  old_end = old_keeps (λ t. t.end) (λ t. refl)

  -- by cases on where a place lies
  sides : (P : ℕ → Type 0) → ((i : ℕ) → i < length o0 → (by k0 o0 i ≡ leaf → ⊥) → by k o i ≡ by k0 o0 i → P i) → ((i : ℕ) → (stretch_at ns0 leaf).start ≤ i → i < (stretch_at ns0 leaf).end → P i) → (i : ℕ) → i < length o0 → P i
  sides P out in' i l =
      elim (cases_lt i (stretch_at ns0 leaf).start) [
        | inl lt ↦ out i l (λ q. omega (arith, in_low o0 p0 k0 ns0 w leaf known open' i l q)) (c.kept_below i lt)
        | inr ge ↦ elim (cases_lt i (stretch_at ns0 leaf).end) [
          | inl lt ↦ in' i ge lt
          | inr ge2 ↦ out i l (λ q. omega (arith, in_high o0 p0 k0 ns0 w leaf known open' i l q)) (c.kept_above i ge2 (omega (arith, long)))
        ]
      ]

  kept_stretch_at : (i : ℕ) → i < length o0 → (by k0 o0 i ≡ leaf → ⊥) → stretch_at ns (by k0 o0 i) ≡ stretch_at ns0 (by k0 o0 i)
  kept_stretch_at i l ne = c.old (by k0 o0 i) (omega (arith, many, w.known i l)) ∙ mark_other ns0 leaf known (by k0 o0 i) ne

  -- what holds of each place's block and stretch_at
  each : (Q : ℕ → ℕ → Stretch → Type 0) → ((i : ℕ) → i < length o0 → Q i (by k0 o0 i) (stretch_at ns0 (by k0 o0 i))) → ((i : ℕ) → (stretch_at ns0 leaf).start ≤ i → i < (stretch_at ns0 leaf).end → Q i (by k o i) (stretch_at ns (by k o i))) → (i : ℕ) → i < length o0 → Q i (by k o i) (stretch_at ns (by k o i))
  each Q old new =
      sides (λ i. Q i (by k o i) (stretch_at ns (by k o i)))
      (λ i l ne q. subst (λ b. Q i b (stretch_at ns b)) (sym q) (subst (Q i (by k0 o0 i)) (sym (kept_stretch_at i l ne)) (old i l))) new

  all_known : (i : ℕ) → i < length o0 → by k o i < length ns
  all_known = each (λ i b t. b < length ns) (λ i l. omega (arith, w.known i l, c.older, many)) c.known

  all_leaf : (i : ℕ) → i < length o0 → (stretch_at ns (by k o i)).split ≡ false
  all_leaf = each (λ i b t. t.split ≡ false) w.leaf (λ i a l. c.born_leaf (by k o i) (c.new i a l) (c.known i a l))

  all_from : (i : ℕ) → i < length o0 → (stretch_at ns (by k o i)).start ≤ i
  all_from = each (λ i b t. t.start ≤ i) w.from c.from

  all_to : (i : ℕ) → i < length o0 → i < (stretch_at ns (by k o i)).end
  all_to = each (λ i b t. i < t.end) w.to c.to

  -- two places of one block were in one block
  was_same : (i : ℕ) → i < length o0 → (j : ℕ) → j < length o0 → by k o i ≡ by k o j → by k0 o0 i ≡ by k0 o0 j
  was_same =
      sides (λ i. (j : ℕ) → j < length o0 → by k o i ≡ by k o j → by k0 o0 i ≡ by k0 o0 j)
      (λ i l ne q. sides (λ j. by k o i ≡ by k o j → by k0 o0 i ≡ by k0 o0 j)
      (λ j l1 ne1 q1 e. sym q ∙ e ∙ q1)
      (λ j a b e. absurd (omega (arith, c.new j a b, many, w.known i l))))
      (λ i a b. sides (λ j. by k o i ≡ by k o j → by k0 o0 i ≡ by k0 o0 j)
      (λ j l1 ne1 q1 e. absurd (omega (arith, c.new i a b, many, w.known j l1)))
      (λ j a1 b1 e. is_leaf o0 p0 k0 ns0 w leaf known open' i a b ∙ sym (is_leaf o0 p0 k0 ns0 w leaf known open' j a1 b1)))

  all_own : (b i : ℕ) → (b < length ns) × ((stretch_at ns b).split ≡ false) × ((stretch_at ns b).start ≤ i) × (i < (stretch_at ns b).end) → by k o i ≡ b
  all_own b i h =
      elim (cases_lt b (length ns0)) [
        | inl lt ↦
            let s1 : (stretch_at (mark_at ns0 leaf) b).split ≡ false = sym (ap (λ t. t.split) (c.old b (omega (arith, many)))) ∙ h.1 in
            let ne : b ≡ leaf → ⊥ = mark_left ns0 leaf known b s1 in
            let q : by k0 o0 i ≡ b = w.own b i (lt, sym (ap (λ t. t.split) (mark_other ns0 leaf known b ne)) ∙ s1, omega (arith, old_start b lt, h.2), omega (arith, old_end b lt, h.3)) in
            let li : i < length o0 = omega (arith, w.within b lt, old_end b lt, h.3) in
            sides (λ n. by k0 o0 n ≡ b → by k o n ≡ b) (λ n l no' e f. e ∙ f) (λ n u v f. absurd (ne (sym f ∙ is_leaf o0 p0 k0 ns0 w leaf known open' n u v))) i li q
        | inr ge ↦ c.runs b i (omega (arith, many)) h.0 h.2 h.3
      ]

  all_union : (b i j : ℕ) → (b < length ns) × (i < length o) × (j < length o) × (by k o i ≡ by k o j) × ((stretch_at ns b).start ≤ i) × (i < (stretch_at ns b).end) → ((stretch_at ns b).start ≤ j) × (j < (stretch_at ns b).end)
  all_union b i j h =
      let li : i < length o0 = omega (arith, h.1, long) in
      let lj : j < length o0 = omega (arith, h.2, long) in
      elim (cases_lt b (length ns0)) [
        | inl lt ↦
            let es = old_start b lt in
            let ee = old_end b lt in
            let g : (b < length ns0) × (i < length o0) × (j < length o0) × (by k0 o0 i ≡ by k0 o0 j) × ((stretch_at ns0 b).start ≤ i) × (i < (stretch_at ns0 b).end) = (lt, li, lj, was_same i li j lj h.3, omega (arith, h.4), omega (arith, h.5)) in
            (omega (arith, w.union_low b i j g), omega (arith, w.union_high b i j g))
        | inr ge ↦
            let q : by k o j ≡ b = sym h.3 ∙ c.runs b i (omega (arith, many)) h.0 h.4 h.5 in
            (subst (λ n. (stretch_at ns n).start ≤ j) q (all_from j lj), subst (λ n. j < (stretch_at ns n).end) q (all_to j lj))
      ]

  by_age : (P : ℕ → Type 0) → ((b : ℕ) → b < length ns0 → P b) → ((b : ℕ) → length (mark_at ns0 leaf) ≤ b → b < length ns → P b) → (b : ℕ) → b < length ns → P b
  by_age P old new b l = elim (cases_lt b (length ns0)) [ inl lt ↦ old b lt | inr ge ↦ new b (omega (arith, many)) l ]

  pub whole_cut : length ns0 + 2 ≤ length ns → Whole o p k ns
  whole_cut two = record {
    perm = c.perm;
    same = c.same;
    filled = by_age (λ b. (stretch_at ns b).start < (stretch_at ns b).end) (λ b l. omega (arith, old_start b l, old_end b l, w.filled b l)) c.born_filled;
    within = by_age (λ b. (stretch_at ns b).end ≤ length o) (λ b l. omega (arith, old_end b l, w.within b l, long)) (λ b a l. omega (arith, c.born_end b a l, leaf_end, long));
    known = λ i l. all_known i (omega (arith, long));
    leaf = λ i l. all_leaf i (omega (arith, long));
    from = λ i l. all_from i (omega (arith, long));
    to = λ i l. all_to i (omega (arith, long));
    own = all_own;
    union_low = λ b i j h. (all_union b i j h).0;
    union_high = λ b i j h. (all_union b i j h).1;
    few = omega (arith, c.count, w.few, many, long, slack_mark ns0 leaf known open' (w.filled leaf known));
  }

  moved : Stays p0 p (stretch_at ns0 leaf).start (stretch_at ns0 leaf).end
  moved = stays o0 p0 o p (stretch_at ns0 leaf).start (stretch_at ns0 leaf).end w.perm c.perm c.outside leaf_end

  module _ (x : ℕ) (l : x < length o0) where
    l0 : x < length p0
    l0 = omega (arith, w.perm.same)

    lx : x < length p
    lx = omega (arith, c.perm.same, long)

    lp0 : at p0 x < length o0
    lp0 = w.perm.low_place x l0

    lp : at p x < length o0
    lp = omega (arith, c.perm.low_place x lx, long)

    now_at : by k o (at p x) ≡ at k x
    now_at = at_place o p k c.perm x lx

    was_at : by k0 o0 (at p0 x) ≡ at k0 x
    was_at = at_place o0 p0 k0 w.perm x l0

    figure_at_lem : fig figs (at o (at p x)) ≡ fig figs x
    figure_at_lem = ap (fig figs) (c.perm.fore x lx)

    state_in : at k0 x ≡ leaf → ((stretch_at ns0 leaf).start ≤ at p x) × (at p x < (stretch_at ns0 leaf).end)
    state_in q =
        let a = in_low o0 p0 k0 ns0 w leaf known open' (at p0 x) lp0 (was_at ∙ q) in
        let b = in_high o0 p0 k0 ns0 w leaf known open' (at p0 x) lp0 (was_at ∙ q) in
        (moved.low x l0 a b, moved.high x l0 a b)

    -- a state is in the leaf still, or where it was
    state_sides : ((by k0 o0 (at p0 x) ≡ leaf) × (by k0 o0 (at p x) ≡ leaf)) ⊎ (at p x ≡ at p0 x)
    state_sides =
        elim (cases_lt (at p0 x) (stretch_at ns0 leaf).start) [
          | inl lt ↦ inr (moved.below x l0 lt)
          | inr ge ↦ elim (cases_lt (at p0 x) (stretch_at ns0 leaf).end) [
            | inl lt ↦ inl (is_leaf o0 p0 k0 ns0 w leaf known open' (at p0 x) ge lt, is_leaf o0 p0 k0 ns0 w leaf known open' (at p x) (moved.low x l0 ge lt) (moved.high x l0 ge lt))
            | inr ge2 ↦ inr (moved.above x l0 ge2)
          ]
        ]

    stayed : (b : ℕ) → b < length ns0 → ((stretch_at ns0 b).start ≤ at p0 x) × (at p0 x < (stretch_at ns0 b).end) → ((stretch_at ns0 b).start ≤ at p x) × (at p x < (stretch_at ns0 b).end)
    stayed b lb h =
        elim state_sides [
          | inl q ↦
              (w.union_low b (at p0 x) (at p x) (lb, lp0, lp, q.0 ∙ sym q.1, h.0, h.1), w.union_high b (at p0 x) (at p x) (lb, lp0, lp, q.0 ∙ sym q.1, h.0, h.1))
          | inr q ↦ (omega (arith, h.0), omega (arith, h.1))
        ]

    was_there : (b : ℕ) → b < length ns0 → ((stretch_at ns0 b).start ≤ at p x) × (at p x < (stretch_at ns0 b).end) → ((stretch_at ns0 b).start ≤ at p0 x) × (at p0 x < (stretch_at ns0 b).end)
    was_there b lb h =
        elim state_sides [
          | inl q ↦
              (w.union_low b (at p x) (at p0 x) (lb, lp, lp0, q.1 ∙ sym q.0, h.0, h.1), w.union_high b (at p x) (at p0 x) (lb, lp, lp0, q.1 ∙ sym q.0, h.0, h.1))
          | inr q ↦ (omega (arith, h.0), omega (arith, h.1))
        ]

    -- an old node has the states that it had
    pub same_members : (b : ℕ) → b < length ns0 → holds_place (stretch_at ns b) (at p x) ≡ holds_place (stretch_at ns0 b) (at p0 x)
    same_members b lb =
        let es = old_start b lb in
        let ee = old_end b lb in
        let d = decides_place (stretch_at ns b) (at p x) in
        same_from_decides _ _
        (Decides-like _ (λ h. was_there b lb (omega (arith, h.0), omega (arith, h.1))) (λ h. let g = stayed b lb h in (omega (arith, g.0), omega (arith, g.1))) d)
        (decides_place (stretch_at ns0 b) (at p0 x))

    pub new_block : at k0 x ≡ leaf → length ns0 ≤ at k x
    new_block q = let h = state_in q in omega (arith, many, now_at, c.new (at p x) h.0 h.1)

    pub kept_block : (at k0 x ≡ leaf → ⊥) → at k x ≡ at k0 x
    kept_block ne =
        elim state_sides [
          | inl q ↦ absurd (ne (sym was_at ∙ q.0))
          | inr q ↦
              sym now_at
              ∙ sides (λ i. at p0 x ≡ i → by k o i ≡ by k0 o0 i) (λ i u v e _. e) (λ i u v e. absurd (ne (sym was_at ∙ ap (by k0 o0) e ∙ is_leaf o0 p0 k0 ns0 w leaf known open' i u v))) (at p x) lp (sym q)
              ∙ ap (by k0 o0) q ∙ was_at
        ]

  module _ (x y : ℕ) (lx' : x < length o0) (ly' : y < length o0) (qx : at k0 x ≡ leaf) (qy : at k0 y ≡ leaf) where
    -- two states of the leaf come to one node exactly where their figures are equal
    pub come_together : fig figs x ≡ fig figs y → at k x ≡ at k y
    come_together e =
        let hx = state_in x lx' qx in
        let hy = state_in y ly' qy in
        sym (now_at x lx') ∙ c.one (at p x) (at p y) hx.0 hx.1 hy.0 hy.1 (figure_at_lem x lx' ∙ e ∙ sym (figure_at_lem y ly')) ∙ now_at y ly'

    pub come_alike : at k x ≡ at k y → fig figs x ≡ fig figs y
    come_alike e =
        let hx = state_in x lx' qx in
        let hy = state_in y ly' qy in
        sym (figure_at_lem x lx') ∙ c.alike (at p x) (at p y) hx.0 hx.1 hy.0 hy.1 (now_at x lx' ∙ e ∙ sym (now_at y ly')) ∙ figure_at_lem y ly'

  pub new_open : (b : ℕ) → length ns0 ≤ b → b < length ns → (stretch_at ns b).split ≡ false
  new_open b a l = c.born_leaf b (omega (arith, many)) l

  pub leaf_split : (stretch_at ns leaf).split ≡ true
  leaf_split = ap (λ t. t.split) (c.old leaf (omega (arith, many)) ∙ mark_same ns0 leaf known)

  pub old_split : (b : ℕ) → b < length ns0 → (b ≡ leaf → ⊥) → (stretch_at ns b).split ≡ (stretch_at ns0 b).split
  old_split b l ne = ap (λ t. t.split) (c.old b (omega (arith, many)) ∙ mark_other ns0 leaf known b ne)

-- where a leaf is level, the figures of its states are equal
pub level_alike : (o p k : List ℕ) (ns : List Stretch) → Whole o p k ns → (leaf : ℕ) → leaf < length ns → (stretch_at ns leaf).split ≡ false → (figs : List ℤ) → Level o figs (stretch_at ns leaf).start (stretch_at ns leaf).end → (x : ℕ) → x < length o → at k x ≡ leaf → fig figs x ≡ fig figs (at o (stretch_at ns leaf).start)
level_alike o p k ns w leaf known open' figs level x l q =
    let lx : x < length p = omega (arith, w.perm.same) in
    let lp = w.perm.low_place x lx in
    let u = at_place o p k w.perm x lx ∙ q in
    sym (ap (fig figs) (w.perm.fore x lx)) ∙ level (at p x) (in_low o p k ns w leaf known open' (at p x) lp u) (in_high o p k ns w leaf known open' (at p x) lp u)

-- a node as it was read
pub read : (ns : List Stretch) (b : ℕ) (t : Stretch) → b < length ns → t ≡ get_or ns b t → t ≡ stretch_at ns b
read ns b t l e = get_or_read ns b t l e blank

-- where two places of the leaf differ, there are two new nodes
pub two_runs : (o0 p0 k0 : List ℕ) (n1 : List Stretch) (figs : List ℤ) (s e : ℕ) (o p k : List ℕ) (ns : List Stretch) → Perm o0 p0 → e ≤ length o0 → s < e → Cutting o0 k0 n1 figs s e o p k ns e → (i : ℕ) → s ≤ i → i < e → (fig figs (at o0 i) ≡ fig figs (at o0 s) → ⊥) → length n1 + 2 ≤ length ns
two_runs o0 p0 k0 n1 figs s e o p k ns h le lt c i a b ne =
    elim (cases_lt (length ns) (length n1 + 2)) [
      | inl few ↦
          let back = came_from o p o0 p0 s e c.perm h (outside_back o0 o s e c.outside) (omega (arith, c.outside.len)) in
          let u = back i a b in
          let v = back s (omega arith) lt in
          let q : by k o (at p (at o0 i)) ≡ by k o (at p (at o0 s)) = omega (arith, c.new (at p (at o0 i)) u.0 u.1, c.known (at p (at o0 i)) u.0 u.1, c.new (at p (at o0 s)) v.0 v.1, c.known (at p (at o0 s)) v.0 v.1) in
          absurd (ne (sym (ap (fig figs) u.2) ∙ c.alike (at p (at o0 i)) (at p (at o0 s)) u.0 u.1 v.0 v.1 q ∙ ap (fig figs) v.2))
      | inr ge ↦ ge
    ]

-- two places that differ are two
wide : (figs : List ℤ) (o : List ℕ) (s e i : ℕ) → s ≤ i → i < e → (fig figs (at o i) ≡ fig figs (at o s) → ⊥) → s + 2 ≤ e
wide figs o s e i a b ne = elim (cases_eq i s) [ inl q ↦ absurd (ne (ap (λ n. fig figs (at o n)) q)) | inr no' ↦ omega arith ]

module _ (o p k : List ℕ) (ns : List Stretch) (w : Whole o p k ns) (leaf : ℕ) (known : leaf < length ns) (open' : (stretch_at ns leaf).split ≡ false) (t : Stretch) (e : t ≡ stretch_at ns leaf) where
  pub read_filled : t.start < t.end
  read_filled = rw e (w.filled leaf known)

  pub read_within : t.end ≤ length o
  read_within = rw e (w.within leaf known)

  -- there is room for the runs of a leaf with two figures
  pub room_left : (figs : List ℤ) (i : ℕ) → t.start ≤ i → i < t.end → (fig figs (at o i) ≡ fig figs (at o t.start) → ⊥) → length o ≤ 1024 → length ns + t.end ≤ 2048 + t.start
  room_left figs i a b ne small =
      let s : t.start ≡ (stretch_at ns leaf).start = ap (λ z. z.start) e in
      let n : t.end ≡ (stretch_at ns leaf).end = ap (λ z. z.end) e in
      omega (arith, wide figs o t.start t.end i a b ne, w.few, slack_mark ns leaf known open' (w.filled leaf known))

-- the cut, as the code names its parts
pub cut_read : (o0 k0 : List ℕ) (ns0 n1 : List Stretch) (figs : List ℤ) (leaf : ℕ) (t : Stretch) (o p k : List ℕ) (ns : List Stretch) → t ≡ stretch_at ns0 leaf → n1 ≡ mark_at ns0 leaf → Cutting o0 k0 n1 figs t.start t.end o p k ns t.end → Cutting o0 k0 (mark_at ns0 leaf) figs (stretch_at ns0 leaf).start (stretch_at ns0 leaf).end o p k ns (stretch_at ns0 leaf).end
cut_read o0 k0 ns0 n1 figs leaf t o p k ns e q c =
    subst (λ z. Cutting o0 k0 (mark_at ns0 leaf) figs z.start z.end o p k ns z.end) e
    (subst (λ z. Cutting o0 k0 z figs t.start t.end o p k ns t.end) q c)
