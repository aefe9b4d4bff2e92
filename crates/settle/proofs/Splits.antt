-- A split of a leaf by its states' figures, in the row and in the record.
use Rattle.std.proofs.Common.{◌≡◌, ℕ, ◌+◌, ◌-◌, ◌<◌, ◌≤◌, Bool, true, false, ◌&&◌, List, ◌++◌, length, ℤ, sym, refl, ap, ◌∙◌, subst, inl, inr, arith}
use Rattle.std.proofs.lemmas.List.{length-append}
use Rattle.std.proofs.lemmas.Bool.{cases_eq, cases_lt, cases_Bool, both_ways, and_parts}
use Rattle.weigher.specs.Figure.{Figure}
use Rattle.table.specs.System.{System, Lawful, size, figure_of}
use Rattle.table.specs.declared.parts.Node.{Node}
use Rattle.theory.specs.Rounds.{same_int}
use Rattle.theory.specs.Record.{Split, Next, Unsplit, parts, holds, figure_at}
use Rattle.theory.proofs.Rounds.{decides_same_int}
use Rattle.theory.proofs.Records.{grows, length_parts, record_next, part_holds, unsplit_other, unsplit_new, split_now, split_still}
use Rattle.partition.specs.Perm.{fig as figure_in}
use Rattle.partition.specs.View.{size_of, count_of, block_of, is_split, in_node, Divided, Unchanged}
use Rattle.partition.specs.declared.row.Row.{Row}
use Rattle.partition.proofs.Facts.{known, mine, own}
use Rattle.settle.specs.Progress.{Shown, EvenAt, Evened}
use Rattle.settle.specs.Parts.{Weighed, Figured, Listed}
use Rattle.settle.proofs.Progress.{in_size, block_holds, as_record}

pub same_truth : (a b : Bool) → (a ≡ true → b ≡ true) → (b ≡ true → a ≡ true) → a ≡ b
same_truth a b f g = elim (cases_Bool a) [
  | inl e ↦ e ∙ sym (f e)
  | inr e ↦ elim (cases_Bool b) [ inl q ↦ absurd (both_ways a e (g q)) | inr q ↦ e ∙ sym q ]
]

module _ (fig : Figure) (t : System) (nodes : List Node) (r r2 : Row) (s : Shown fig t nodes r) (figs : List ℤ) (leaf l m : ℕ)
    (leaf_low : leaf < length nodes) (leaf_open : is_split r leaf ≡ false) (label_low : l < 64) (marker_low : m < length nodes)
    (w : Weighed fig t nodes r figs leaf l m) (d : Divided r r2 figs leaf) (vs : List ℤ) (f : Figured r r2 figs vs) where
  abbrev pub split : Split
  split = record { parent = leaf; label = l; marker = m; figures = vs }

  figure : ℕ → ℤ
  figure x = figure_of fig t x l (holds fig t nodes m)

  block_low : (x : ℕ) → x < size t → block_of r x < count_of r
  block_low x xl = known r x (in_size fig t nodes r s x xl)

  in_size2 : (x : ℕ) → x < size t → x < size_of r2
  in_size2 x xl = omega (arith, d.size, s.sized)

  -- a state of a new node was in the leaf
  came : (x : ℕ) → x < size t → count_of r ≤ block_of r2 x → block_of r x ≡ leaf
  came x xl h = elim (cases_eq (block_of r x) leaf) [ inl e ↦ e | inr ne ↦ absurd (omega (arith, d.others x (in_size fig t nodes r s x xl) ne, block_low x xl)) ]

  leaf_held : (x : ℕ) → x < size t → holds fig t nodes leaf x ≡ true → block_of r x ≡ leaf
  leaf_held x xl h = own r leaf x (omega (arith, s.count)) (in_size fig t nodes r s x xl) leaf_open (s.members leaf x leaf_low xl ∙ h)

  -- a state of the j-th new node has its figure
  has_figure : (x j : ℕ) → x < size t → j < length vs → block_of r2 x ≡ count_of r + j → figure x ≡ figure_at vs j
  unfolding figure
  has_figure x j xl jl e =
      let y = f.first j jl in
      let yl : y.0 < size t = omega (arith, y.1, s.sized) in
      let ex = came x xl (omega arith) in
      let ey = came y.0 yl (omega (arith, y.2)) in
      sym (w x xl ex) ∙ d.alike x y.0 (in_size fig t nodes r s x xl) y.1 ex ey (e ∙ sym y.2) ∙ sym y.3

  -- and a state of the leaf with that figure is there
  by_figure : (x j : ℕ) → x < size t → j < length vs → block_of r x ≡ leaf → figure x ≡ figure_at vs j → block_of r2 x ≡ count_of r + j
  unfolding figure
  by_figure x j xl jl ex e =
      let y = f.first j jl in
      let yl : y.0 < size t = omega (arith, y.1, s.sized) in
      let ey = came y.0 yl (omega (arith, y.2)) in
      d.together x y.0 (in_size fig t nodes r s x xl) y.1 ex ey (w x xl ex ∙ e ∙ y.3) ∙ y.2

  pub next : Next fig t nodes split
  unfolding figure
  next = record {
    node = leaf_low;
    unsplit = s.whole leaf leaf_low leaf_open;
    label = label_low;
    marker = marker_low;
    two = omega (arith, f.len, d.two);
    apart = λ i j il jl e.
        let x = f.first i il in
        let xl : x.0 < size t = omega (arith, x.1, s.sized) in
        let q = by_figure x.0 j xl jl (came x.0 xl (omega (arith, x.2))) (has_figure x.0 i xl il x.2 ∙ e) in
        omega (arith, x.2);
    shared = λ x xl h.
        let ex = leaf_held x xl h in
        let low = d.fresh x (in_size fig t nodes r s x xl) ex in
        let high = known r2 x (in_size2 x xl) in
        let jl : block_of r2 x - count_of r < length vs = omega (arith, f.len) in
        (block_of r2 x - count_of r, jl, has_figure x (block_of r2 x - count_of r) xl jl (omega arith));
    filled = λ i il.
        let x = f.first i il in
        let xl : x.0 < size t = omega (arith, x.1, s.sized) in
        (x.0, xl, block_holds fig t nodes r s x.0 leaf xl (came x.0 xl (omega (arith, x.2))), has_figure x.0 i xl il x.2);
  }

  length_more : length (nodes ++ parts split) ≡ length nodes + length vs
  length_more = length-append nodes (parts split) ∙ ap (λ n. length nodes + n) (length_parts split)

  new_open : (b : ℕ) → count_of r ≤ b → b < count_of r2 → is_split r2 b ≡ false
  new_open = d.whole

  count_more : count_of r2 ≡ length (nodes ++ parts split)
  count_more = omega (arith, length_more, f.len, s.count, d.two)

  new_members : (j x : ℕ) → j < length vs → x < size t → in_node r2 (count_of r + j) x ≡ (holds fig t nodes leaf x && same_int (figure x) (figure_at vs j))
  new_members j x jl xl = same_truth _ _
      (λ h.
      let e : block_of r2 x ≡ count_of r + j = own r2 (count_of r + j) x (omega (arith, f.len, d.two)) (in_size2 x xl) (d.whole (count_of r + j) (omega arith) (omega (arith, f.len, d.two))) h in
      both (block_holds fig t nodes r s x leaf xl (came x xl (omega arith))) ((decides_same_int (figure x) (figure_at vs j)).1 (has_figure x j xl jl e)))
      (λ h.
      let p = and_parts _ _ h in
      let e = by_figure x j xl jl (leaf_held x xl p.0) ((decides_same_int (figure x) (figure_at vs j)).0 p.1) in
      ap (λ b. in_node r2 b x) (sym e) ∙ mine r2 x (in_size2 x xl))
    where
      both : {a b : Bool} → a ≡ true → b ≡ true → (a && b) ≡ true
      both p q = rw (p, q)

  pub shown : Shown fig t (nodes ++ parts split) r2
  unfolding figure
  shown = record {
    valid = record_next fig t nodes split s.valid next;
    sized = d.size ∙ s.sized;
    count = count_more;
    members = λ b x bl xl. elim (cases_lt b (length nodes)) [
      | inl lt ↦ d.members b x (omega (arith, s.count)) (in_size fig t nodes r s x xl) ∙ s.members b x lt xl ∙ sym (grows fig t nodes (parts split) s.valid b lt x)
      | inr ge ↦ new_node b x bl xl ge
    ];
    whole = λ b bl e. elim (cases_lt b (length nodes)) [
      | inl lt ↦ elim (cases_eq b leaf) [
        | inl q ↦ absurd (both_ways (is_split r2 b) e (ap (is_split r2) q ∙ d.marked))
        | inr ne ↦ unsplit_other fig t nodes split next b ne (s.whole b lt (sym (d.old b (omega (arith, s.count)) ne) ∙ e))
      ]
      | inr ge ↦ unsplit_new fig t nodes split s.valid next b ge
    ];
    parted = λ b bl e. elim (cases_lt b (length nodes)) [
      | inl lt ↦ elim (cases_eq b leaf) [
        | inl q ↦ λ u. split_now fig t nodes split next (subst (Unsplit (nodes ++ parts split)) q u)
        | inr ne ↦ split_still nodes split b (s.parted b lt (sym (d.old b (omega (arith, s.count)) ne) ∙ e))
      ]
      | inr ge ↦ absurd (both_ways (is_split r2 b) (d.whole b (omega (arith, s.count)) (omega (arith, count_more))) e)
    ];
  }
    where
      new_node : (b x : ℕ) → b < length (nodes ++ parts split) → x < size t → length nodes ≤ b → in_node r2 b x ≡ holds fig t (nodes ++ parts split) b x
      new_node b x bl xl ge =
          let jl : b - length nodes < length vs = omega (arith, length_more) in
          let eb : count_of r + (b - length nodes) ≡ b = omega (arith, s.count) in
          let en : length nodes + (b - length nodes) ≡ b = omega arith in
          ap (λ c. in_node r2 c x) (sym eb) ∙ new_members (b - length nodes) x jl xl ∙ sym (part_holds fig t nodes split s.valid next (b - length nodes) jl x) ∙ ap (λ c. holds fig t (nodes ++ parts split) c x) en

  pub evened : Evened fig t nodes r leaf m (nodes ++ parts split) r2
  evened = record {
    onward = record {
      shown = shown;
      more = (parts split, refl);
      finer = λ x y xl yl e. elim (cases_eq (block_of r x) leaf) [
        | inl ex ↦ ex ∙ sym (came y yl (omega (arith, d.fresh x (in_size fig t nodes r s x xl) ex)))
        | inr nx ↦ elim (cases_eq (block_of r y) leaf) [
          | inl ey ↦ came x xl (omega (arith, d.fresh y (in_size fig t nodes r s y yl) ey)) ∙ sym ey
          | inr ny ↦ sym (d.others x (in_size fig t nodes r s x xl) nx) ∙ e ∙ d.others y (in_size fig t nodes r s y yl) ny
        ]
      ];
    };
    stays = λ x xl h. d.others x (in_size fig t nodes r s x xl) (λ e. omega (arith, s.count, d.fresh x (in_size fig t nodes r s x xl) e));
    even = λ b bl x y xl yl ex ey. absurd (gone x xl ex);
  }
    where
      gone : (x : ℕ) → x < size t → block_of r2 x ≡ leaf → ⊥
      gone x xl e = elim (cases_eq (block_of r x) leaf) [
        | inl q ↦ omega (arith, s.count, d.fresh x (in_size fig t nodes r s x xl) q)
        | inr ne ↦ ne (sym (d.others x (in_size fig t nodes r s x xl) ne) ∙ e)
      ]

module _ (fig : Figure) (t : System) (nodes : List Node) (r r2 : Row) (s : Shown fig t nodes r) (figs : List ℤ) (leaf l m : ℕ) where
  -- figures into the row's marker are figures into the record's
  pub weighed : Lawful t → m < length nodes → ((x : ℕ) → x < size t → in_node r leaf x ≡ true → figure_in figs x ≡ figure_of fig t x l (in_node r m)) → Weighed fig t nodes r figs leaf l m
  weighed lawful ml h x xl e = h x xl (ap (λ b. in_node r b x) (sym e) ∙ mine r x (in_size fig t nodes r s x xl)) ∙ as_record fig t nodes r s lawful m ml x l

  figured : (nodes2 : List Node) (d : Divided r r2 figs leaf) (h : Listed nodes r2 figs leaf l m nodes2 (count_of r2)) → Figured r r2 figs h.values
  figured nodes2 d h =
      let count = s.count in
      let len = h.len in
      let two = d.two in
      record {
        len = omega arith;
        first = λ j jl.
            let y = h.first j jl in
            let low : y.0 < size_of r = omega (arith, y.1, d.size) in
            let at_j : length nodes + j ≡ count_of r + j = omega arith in
            (y.0, low, own r2 (length nodes + j) y.0 (omega arith) y.1 (d.whole (length nodes + j) (omega arith) (omega arith)) y.2 ∙ at_j, y.3);
      }

  pub split_evened : leaf < length nodes → is_split r leaf ≡ false → l < 64 → m < length nodes → Weighed fig t nodes r figs leaf l m → Divided r r2 figs leaf →
      (nodes2 : List Node) → Listed nodes r2 figs leaf l m nodes2 (count_of r2) → Evened fig t nodes r leaf m nodes2 r2
  split_evened leaf_low leaf_open label_low marker_low w d nodes2 h =
      subst (λ ns. Evened fig t nodes r leaf m ns r2) (sym h.made) (evened fig t nodes r r2 s figs leaf l m leaf_low leaf_open label_low marker_low w d h.values (figured nodes2 d h))

  -- where nothing is split, the figures are the same
  pub split_even : Weighed fig t nodes r figs leaf l m → Unchanged r r2 figs leaf → EvenAt fig t nodes r leaf m l
  split_even w u x y xl yl ex ey = sym (w x xl ex) ∙ u.alike x y (in_size fig t nodes r s x xl) (in_size fig t nodes r s y yl) ex ey ∙ w y yl ey
