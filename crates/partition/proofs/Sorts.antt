-- The steps of a cut by kind, and what the whole cut gives.
use Rattle.std.proofs.Common.{◌≡◌, ℕ, suc, ◌+◌, ◌<◌, ◌≤◌, List, [], length, ℤ, pos, sym, ap, ◌∙◌, subst, inl, inr, arith}
use Rattle.std.proofs.lemmas.List.{length_push}
use Rattle.std.proofs.lemmas.Bool.{cases_eq, cases_lt, cases_Bool}
use Rattle.table.specs.Numbering.{how_many}
use Rattle.theory.proofs.Counts.{count_yes, count_no, count_none}
use Rattle.theory.proofs.Rounds.{decides_same_int}
use Rattle.partition.specs.Perm.{Perm, at, fig}
use Rattle.partition.specs.Stretches.{stretch_at, by, Whole}
use Rattle.partition.specs.Cuts.{Taken, run}
use Rattle.partition.specs.Kinds.{Sorting}
use Rattle.partition.specs.View.{Kinds, leads, Begun}
use Rattle.partition.specs.Cells.{SortsByKind}
use Rattle.partition.specs.declared.cells.Cells.{Cells}
use Rattle.partition.specs.declared.row.Row.{Row}
use Rattle.partition.specs.declared.stretch.Stretch.{Stretch}
use Rattle.partition.proofs.Perms.{came_from}
use Rattle.partition.proofs.Cuttings.{cutting_start, cutting_more, taken_some}
use Rattle.partition.proofs.Divides.{at_place}

pub sort_none : (o p k : List ℕ) (ks : List ℤ) (ns : List Stretch) → Perm o p → length k ≡ length o → length o ≡ length ks → ns ≡ [] → Sorting o k ks o p k ns 0 0
sort_none o p k ks ns h same sized e = subst (λ z. Sorting o k ks o p k z 0 0) (sym e) (record {
  size = sized;
  cut = cutting_start o p k [] ks 0 (length ks) h same (omega arith);
  count = sym (count_none (leads ks));
  done = λ i l. absurd (omega arith);
  todo = λ i z a l q. omega arith;
})

module _ (o0 k0 : List ℕ) (ks : List ℤ) (o p k : List ℕ) (ns : List Stretch) (m x : ℕ) (kinds : Kinds ks) (s : Sorting o0 k0 ks o p k ns m x) where
  -- a kind's name is its smallest state
  leader : (i z : ℕ) → i < length ks → fig ks (at o i) ≡ pos z → (z ≤ at o i) × (fig ks z ≡ pos z)
  leader i z l q =
      let h = kinds (at o i) (omega (arith, s.cut.perm.low i (omega (arith, s.size)), s.size)) in
      let e : pos h.0 ≡ pos z = sym h.2 ∙ q in
      let n : h.0 ≡ z = cc in
      (omega (arith, h.1), subst (λ y. fig ks y ≡ pos y) n h.3)

  -- once all kinds are met, no state is left
  pub sort_end : x ≡ length ks → m ≡ length ks
  sort_end e = elim (cases_lt m (length ks)) [
    | inl l ↦
        let low = s.cut.perm.low m (omega (arith, s.size)) in
        let h = kinds (at o m) (omega (arith, s.size)) in
        absurd (omega (arith, h.1, s.todo m h.0 (omega arith) l h.2, s.size))
    | inr l ↦ omega (arith, s.cut.high)
  ]

  module _ (lx : x < length ks) where
    next_count : how_many (leads ks) (suc x) ≡ how_many (leads ks) (x + 1)
    next_count = ap (how_many (leads ks)) (omega arith)

    pub sort_skip : (fig ks x ≡ pos x → ⊥) → Sorting o0 k0 ks o p k ns m (x + 1)
    sort_skip ne = record {
      size = s.size;
      cut = s.cut;
      count = elim (cases_Bool (leads ks x)) [
        | inl t ↦ absurd (ne ((decides_same_int (fig ks x) (pos x)).0 t))
        | inr f ↦ s.count ∙ sym (count_no (leads ks) x f) ∙ next_count
      ];
      done = λ i l. let d = s.done i l in (d.0, omega (arith, d.1), d.2, d.3);
      todo = λ i z a l q. elim (cases_eq z x) [
        | inl e ↦ absurd (ne (subst (λ y. fig ks y ≡ pos y) e (leader i z l q).1))
        | inr nz ↦ omega (arith, s.todo i z a l q)
      ];
    }

    module _ (is : fig ks x ≡ pos x) (f : ℤ) (name : f ≡ pos x) (o2 p2 k2 : List ℕ) (ns2 : List Stretch) (next : ℕ) (t : Taken o k ns ks m (length ks) f o2 p2 k2 ns2 next) where
      fits : length ks ≤ length o
      fits = omega (arith, s.size)

      lp : x < length p
      lp = omega (arith, s.size, s.cut.perm.same)

      here : fig ks (at o (at p x)) ≡ pos x
      here = ap (fig ks) (s.cut.perm.fore x lp) ∙ is

      -- the smallest state of the kind is still to come
      left : m ≤ at p x
      left = elim (cases_lt (at p x) m) [
        | inl l ↦
            let d = s.done (at p x) l in
            let e : pos d.0 ≡ pos x = sym d.2 ∙ here in
            let n : d.0 ≡ x = cc in
            absurd (omega (arith, d.1))
        | inr l ↦ l
      ]

      some : m < next
      some = taken_some o0 k0 [] ks 0 (length ks) o p k ns m f o2 p2 k2 ns2 next s.cut fits t (at p x) left (omega (arith, s.cut.perm.low_place x lp, s.size)) (here ∙ sym name)

      pub sort_take : Sorting o0 k0 ks o2 p2 k2 ns2 next (x + 1)
      sort_take =
          let grown : length ns + 1 ≡ how_many (leads ks) (x + 1) = omega (arith, s.count, count_yes (leads ks) x ((decides_same_int (fig ks x) (pos x)).1 is), next_count) in
          record {
            size = t.outside.len ∙ s.size;
            cut = cutting_more o0 k0 [] ks 0 (length ks) o p k ns m f o2 p2 k2 ns2 next s.cut fits t some;
            count = ap length t.items ∙ length_push ns (run m next) ∙ grown;
            done = λ i l. elim (cases_lt i m) [
              | inl lt ↦
                  let d = s.done i lt in
                  (d.0, omega (arith, d.1), ap (fig ks) (t.outside.below i lt) ∙ d.2, t.labelled.below i lt ∙ ap (at k) (t.outside.below i lt) ∙ d.3)
              | inr ge ↦ (x, omega arith, t.front i ge l ∙ name, t.labelled.new i ge l ∙ s.count)
            ];
            todo = λ i z a l q.
                let w = came_from o p o2 p2 m (length ks) s.cut.perm t.perm t.outside fits i (omega (arith, t.low)) l in
                elim (cases_eq z x) [
                  | inl e ↦ absurd (t.rest i a l (q ∙ ap pos e ∙ sym name))
                  | inr nz ↦ omega (arith, s.todo (at p (at o2 i)) z w.0 w.1 (ap (fig ks) w.2 ∙ q))
                ];
          }

module _ (o0 k0 : List ℕ) (ks : List ℤ) (o p k : List ℕ) (ns : List Stretch) (s : Sorting o0 k0 ks o p k ns (length ks) (length ks)) where
  union : (b i j : ℕ) → (b < length ns) × (i < length o) × (j < length o) × (by k o i ≡ by k o j) × ((stretch_at ns b).start ≤ i) × (i < (stretch_at ns b).end) → ((stretch_at ns b).start ≤ j) × (j < (stretch_at ns b).end)
  union b i j h =
      let q : by k o j ≡ b = sym h.3 ∙ s.cut.runs b i (omega arith) h.0 h.4 h.5 in
      let l : j < length ks = omega (arith, h.2, s.size) in
      (subst (λ n. (stretch_at ns n).start ≤ j) q (s.cut.from j (omega arith) l), subst (λ n. j < (stretch_at ns n).end) q (s.cut.to j (omega arith) l))

  pub whole_sorted : Whole o p k ns
  whole_sorted =
      let c = s.cut in
      let in' : (i : ℕ) → i < length o → i < length ks = λ i l. omega (arith, s.size) in
      let none : (b : ℕ) → 0 ≤ b = λ b. omega arith in
      record {
        perm = c.perm;
        same = c.same;
        filled = λ b l. c.born_filled b (none b) l;
        within = λ b l. omega (arith, c.born_end b (none b) l, s.size);
        known = λ i l. c.known i (none i) (in' i l);
        leaf = λ i l. c.born_leaf (by k o i) (none (by k o i)) (c.known i (none i) (in' i l));
        from = λ i l. c.from i (none i) (in' i l);
        to = λ i l. c.to i (none i) (in' i l);
        own = λ b i h. c.runs b i (none b) h.0 h.2 h.3;
        union_low = λ b i j h. (union b i j h).0;
        union_high = λ b i j h. (union b i j h).1;
        few = omega (arith, c.count, s.size);
      }

pub begun : (o0 k0 : List ℕ) (ks : List ℤ) (r : Row) → Sorting o0 k0 ks r.cells.order.states r.cells.order.places r.cells.block r.cells.stretches (length ks) (length ks) → Begun ks r
begun o0 k0 ks r s =
    let c = s.cut in
    let all = s.size in
    record {
      size = all;
      count = s.count;
      block = λ x z l q.
          let lx : x < length r.cells.order.places = omega (arith, c.perm.same) in
          let lp = c.perm.low_place x lx in
          let d = s.done (at r.cells.order.places x) (omega arith) in
          let e : pos d.0 ≡ pos z = sym d.2 ∙ ap (fig ks) (c.perm.fore x lx) ∙ q in
          let n : d.0 ≡ z = cc in
          sym (at_place _ _ r.cells.block c.perm x lx) ∙ d.3 ∙ ap (how_many (leads ks)) n;
      whole = λ b l. c.born_leaf b (omega arith) l;
    }

pub cells_like : (c0 : Cells) (ks : List ℤ) (c c2 : Cells) (m m2 x : ℕ) → c2 ≡ c → m2 ≡ m → SortsByKind c0 ks c m x → SortsByKind c0 ks c2 m2 x
cells_like c0 ks c c2 m m2 x e em s = subst (λ z. SortsByKind c0 ks z m2 x) (sym e) (subst (λ z. SortsByKind c0 ks c z x) (sym em) s)
