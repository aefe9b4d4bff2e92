-- The steps of a cut.
use Rattle.std.proofs.Common.{◌≡◌, ℕ, ◌<◌, ◌≤◌, false, List, [], ◌∷◌, ◌++◌, length, ℤ, sym, refl, ap, ◌∙◌, subst, inl, inr, arith}
use Rattle.std.proofs.lemmas.List.{length_push, get_or_push, get_or_append_left}
use Rattle.std.proofs.lemmas.Bool.{cases_eq, cases_lt}
use Rattle.partition.specs.Perm.{Perm, Outside, at, fig}
use Rattle.partition.specs.Stretches.{stretch_at, blank, by}
use Rattle.partition.specs.Cuts.{Labelled, Taken, Cutting, run}
use Rattle.partition.specs.declared.stretch.Stretch.{Stretch}
use Rattle.partition.proofs.Perms.{came_from, outside_none}
use Rattle.partition.proofs.Gathers.{gather_some}
use Rattle.partition.proofs.Slacks.{slack_push}

pub cutting_start : (o p k : List ℕ) (n1 : List Stretch) (figs : List ℤ) (s e : ℕ) → Perm o p → length k ≡ length o → s ≤ e → Cutting o k n1 figs s e o p k n1 s
cutting_start o p k n1 figs s e h same le = record {
  perm = h;
  outside = outside_none o s e;
  same = same;
  low = omega arith;
  high = le;
  older = omega arith;
  old = λ b l. refl;
  born_filled = λ b a c. absurd (omega arith);
  born_end = λ b a c. absurd (omega arith);
  born_leaf = λ b a c. absurd (omega arith);
  runs = λ b i a c. absurd (omega arith);
  new = λ i a c. absurd (omega arith);
  known = λ i a c. absurd (omega arith);
  from = λ i a c. absurd (omega arith);
  to = λ i a c. absurd (omega arith);
  kept_below = λ i l. refl;
  kept_above = λ i l m. refl;
  apart = λ i j a c. absurd (omega arith);
  one = λ i j a c. absurd (omega arith);
  alike = λ i j a c. absurd (omega arith);
  count = refl;
  room = omega arith;
}

-- what is left is moved
cutting_gather : (o0 k0 : List ℕ) (n1 : List Stretch) (figs : List ℤ) (s e : ℕ) (o p k : List ℕ) (ns : List Stretch) (m : ℕ) (o2 p2 : List ℕ) → Cutting o0 k0 n1 figs s e o p k ns m → e ≤ length o → Perm o2 p2 → Outside o o2 m e → Cutting o0 k0 n1 figs s e o2 p2 k ns m
cutting_gather o0 k0 n1 figs s e o p k ns m o2 p2 c le h out =
    let w : (j : ℕ) → m ≤ j → j < e → (m ≤ at p (at o2 j)) × (at p (at o2 j) < e) × (at o (at p (at o2 j)) ≡ at o2 j) = came_from o p o2 p2 m e c.perm h out le in
    let eq : (i : ℕ) → i < m → by k o2 i ≡ by k o i = λ i l. ap (at k) (out.below i l) in
    record {
      perm = h;
      outside = record {
        len = out.len ∙ c.outside.len;
        below = λ i l. out.below i (omega (arith, c.low)) ∙ c.outside.below i l;
        above = λ i l. out.above i l ∙ c.outside.above i l;
      };
      same = c.same ∙ sym out.len;
      low = c.low;
      high = c.high;
      older = c.older;
      old = c.old;
      born_filled = c.born_filled;
      born_end = c.born_end;
      born_leaf = c.born_leaf;
      runs = λ b i a l f t. eq i (omega (arith, c.born_end b a l)) ∙ c.runs b i a l f t;
      new = λ i a l. omega (arith, eq i l, c.new i a l);
      known = λ i a l. omega (arith, eq i l, c.known i a l);
      from = λ i a l. rw (eq i l) (c.from i a l);
      to = λ i a l. rw (eq i l) (c.to i a l);
      kept_below = λ i l. eq i (omega (arith, c.low)) ∙ c.kept_below i l;
      kept_above = λ i l b. ap (at k) (out.above i l) ∙ c.kept_above i l (omega (arith, out.len));
      apart = λ i j a l m1 l1 q.
          let v = w j m1 l1 in
          c.apart i (at p (at o2 j)) a l v.0 v.1 (sym (ap (fig figs) (out.below i l)) ∙ q ∙ sym (ap (fig figs) v.2));
      one = λ i j a l a1 l1 q.
          eq i l ∙ c.one i j a l a1 l1 (sym (ap (fig figs) (out.below i l)) ∙ q ∙ ap (fig figs) (out.below j l1)) ∙ sym (eq j l1);
      alike = λ i j a l a1 l1 q.
          ap (fig figs) (out.below i l) ∙ c.alike i j a l a1 l1 (sym (eq i l) ∙ q ∙ eq j l1) ∙ sym (ap (fig figs) (out.below j l1));
      count = c.count;
      room = c.room;
    }

module _ (o0 k0 : List ℕ) (n1 : List Stretch) (figs : List ℤ) (s e : ℕ) (o p k : List ℕ) (ns : List Stretch) (m : ℕ) (mid : ℕ) (f : ℤ) (k2 : List ℕ) (c : Cutting o0 k0 n1 figs s e o p k ns m) (le : e ≤ length o) (lm : m < mid) (hm : mid ≤ e) (lab : Labelled o k k2 m mid (length ns)) where
  born : (P : ℕ → Stretch → Type 0) → ((b : ℕ) → length n1 ≤ b → b < length ns → P b (stretch_at ns b)) → P (length ns) (run m mid) → (b : ℕ) → length n1 ≤ b → b < length (ns ++ run m mid ∷ []) → P b (stretch_at (ns ++ run m mid ∷ []) b)
  born P old new b a l =
      let ll = length_push ns (run m mid) in
      elim (cases_eq b (length ns)) [
        | inl q ↦ subst (P b) (sym (get_or_push ns (run m mid) blank b (sym q))) (subst (λ n. P n (run m mid)) (sym q) new)
        | inr ne ↦ let l2 : b < length ns = omega arith in subst (P b) (sym (get_or_append_left ns (run m mid ∷ []) blank b l2)) (old b a l2)
      ]

  spot : (Q : ℕ → ℕ → Stretch → Type 0) → ((i : ℕ) → s ≤ i → i < m → Q i (by k o i) (stretch_at ns (by k o i))) → ((i : ℕ) → m ≤ i → i < mid → Q i (length ns) (run m mid)) → (i : ℕ) → s ≤ i → i < mid → Q i (by k2 o i) (stretch_at (ns ++ run m mid ∷ []) (by k2 o i))
  spot Q old new i a l =
      elim (cases_lt i m) [
        | inl lt ↦
            subst (λ b. Q i b (stretch_at (ns ++ run m mid ∷ []) b)) (sym (lab.below i lt))
            (subst (Q i (by k o i)) (sym (get_or_append_left ns (run m mid ∷ []) blank (by k o i) (c.known i a lt))) (old i a lt))
        | inr ge ↦
            subst (λ b. Q i b (stretch_at (ns ++ run m mid ∷ []) b)) (sym (lab.new i ge l))
            (subst (Q i (length ns)) (sym (get_or_push ns (run m mid) blank (length ns) refl)) (new i ge l))
      ]

  cutting_label : ((i : ℕ) → m ≤ i → i < mid → fig figs (at o i) ≡ f) → ((i : ℕ) → mid ≤ i → i < e → fig figs (at o i) ≡ f → ⊥) → Cutting o0 k0 n1 figs s e o p k2 (ns ++ run m mid ∷ []) mid
  cutting_label front rest =
      let ll = length_push ns (run m mid) in
      record {
        perm = c.perm;
        outside = c.outside;
        same = lab.len ∙ c.same;
        low = omega (arith, c.low);
        high = hm;
        older = omega (arith, c.older);
        old = λ b l. get_or_append_left ns (run m mid ∷ []) blank b (omega (arith, c.older)) ∙ c.old b l;
        born_filled = born (λ b t. t.start < t.end) c.born_filled lm;
        born_end = born (λ b t. t.end ≤ mid) (λ b a l. omega (arith, c.born_end b a l)) (omega arith);
        born_leaf = born (λ b t. t.split ≡ false) c.born_leaf refl;
        runs = λ b i a l.
            born (λ b t. t.start ≤ i → i < t.end → by k2 o i ≡ b)
            (λ b a l u v. lab.below i (omega (arith, c.born_end b a l)) ∙ c.runs b i a l u v)
            (λ u v. lab.new i u v) b a l;
        new = spot (λ i b t. length n1 ≤ b) c.new (λ i a l. c.older);
        known = spot (λ i b t. b < length (ns ++ run m mid ∷ [])) (λ i a l. omega (arith, c.known i a l)) (λ i a l. omega arith);
        from = spot (λ i b t. t.start ≤ i) c.from (λ i a l. a);
        to = spot (λ i b t. i < t.end) c.to (λ i a l. l);
        kept_below = λ i l. lab.below i (omega (arith, c.low)) ∙ c.kept_below i l;
        kept_above = λ i a l. lab.above i (omega arith) l ∙ c.kept_above i a l;
        apart = λ i j a l a1 l1 q. elim (cases_lt i m) [
          | inl lt ↦ c.apart i j a lt (omega arith) l1 q
          | inr ge ↦ rest j a1 l1 (sym q ∙ front i ge l)
        ];
        one = λ i j a l a1 l1 q. elim (cases_lt i m) [
          | inl lt ↦ elim (cases_lt j m) [
            | inl lt1 ↦ lab.below i lt ∙ c.one i j a lt a1 lt1 q ∙ sym (lab.below j lt1)
            | inr ge1 ↦ absurd (c.apart i j a lt ge1 (omega arith) q)
          ]
          | inr ge ↦ elim (cases_lt j m) [
            | inl lt1 ↦ absurd (c.apart j i a1 lt1 ge (omega arith) (sym q))
            | inr ge1 ↦ lab.new i ge l ∙ sym (lab.new j ge1 l1)
          ]
        ];
        alike = λ i j a l a1 l1 q. elim (cases_lt i m) [
          | inl lt ↦ elim (cases_lt j m) [
            | inl lt1 ↦ c.alike i j a lt a1 lt1 (sym (lab.below i lt) ∙ q ∙ lab.below j lt1)
            | inr ge1 ↦ absurd (omega (arith, lab.below i lt, c.known i a lt, lab.new j ge1 l1))
          ]
          | inr ge ↦ elim (cases_lt j m) [
            | inl lt1 ↦ absurd (omega (arith, lab.below j lt1, c.known j a1 lt1, lab.new i ge l))
            | inr ge1 ↦ front i ge l ∙ sym (front j ge1 l1)
          ]
        ];
        count = omega (arith, c.count, slack_push ns (run m mid));
        room = omega (arith, c.room);
      }

module _ (o0 k0 : List ℕ) (n1 : List Stretch) (figs : List ℤ) (s e : ℕ) (o p k : List ℕ) (ns : List Stretch) (m : ℕ) (f : ℤ) (o2 p2 k2 : List ℕ) (ns2 : List Stretch) (next : ℕ) (c : Cutting o0 k0 n1 figs s e o p k ns m) (le : e ≤ length o) (t : Taken o k ns figs m e f o2 p2 k2 ns2 next) where
  -- where a place that is left has the figure, the run has a state
  pub taken_some : (j : ℕ) → m ≤ j → j < e → fig figs (at o j) ≡ f → m < next
  taken_some j a l is = gather_some o p o2 p2 figs m e next f c.perm t.perm t.outside le j a l is t.rest

  -- one more run
  pub cutting_more : m < next → Cutting o0 k0 n1 figs s e o2 p2 k2 ns2 next
  cutting_more l =
      let moved = cutting_gather o0 k0 n1 figs s e o p k ns m o2 p2 c le t.perm t.outside in
      subst (λ z. Cutting o0 k0 n1 figs s e o2 p2 k2 z next) (sym t.items)
      (cutting_label o0 k0 n1 figs s e o2 p2 k ns m next f k2 moved (omega (arith, t.outside.len)) l t.high t.labelled t.front t.rest)
