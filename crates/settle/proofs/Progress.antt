-- How far settling has come, step by step.
use Rattle.std.proofs.Common.{◌≡◌, ℕ, ◌+◌, ◌<◌, ◌≤◌, Bool, true, false, List, [], ◌++◌, length, get_or, ℤ, sym, refl, ap, ◌∙◌, subst, ap₂, inl, inr, arith}
use Rattle.std.proofs.lemmas.List.{length-append, append-nil, append_assoc}
use Rattle.std.proofs.lemmas.Bool.{cases_eq, cases_Bool, both_ways}
use Rattle.weigher.specs.Figure.{Figure}
use Rattle.table.specs.System.{System, Lawful, size, sort_of, figure_of, into}
use Rattle.table.specs.declared.parts.Node.{Node}
use Rattle.theory.specs.Record.{Unsplit, Leaves, holds}
use Rattle.theory.proofs.Weights.{into_same}
use Rattle.theory.proofs.Records.{grows, same_look}
use Rattle.partition.specs.Perm.{at}
use Rattle.partition.specs.Stretches.{stretch_at}
use Rattle.partition.specs.View.{size_of, block_of, is_split, in_node, holds_place, Unchanged}
use Rattle.partition.specs.declared.row.Row.{Row}
use Rattle.partition.proofs.Facts.{known, unsplit, mine, own}
use Rattle.settle.specs.Progress.{Shown, EvenAt, Even, Onward, Evened, Same, Idle}
use Rattle.figures.specs.Labels.{LabelsInto}
use Rattle.figures.proofs.Labels.{unused}

module _ (fig : Figure) (t : System) where
  module _ (nodes : List Node) (r : Row) (s : Shown fig t nodes r) where
    pub in_size : (x : ℕ) → x < size t → x < size_of r
    in_size x l = omega (arith, s.sized)

    pub block_known : (x : ℕ) → x < size t → block_of r x < length nodes
    block_known x l = omega (arith, s.count, known r x (in_size x l))

    -- a state is held by its block
    pub block_holds : (x b : ℕ) → x < size t → block_of r x ≡ b → holds fig t nodes b x ≡ true
    block_holds x b l e = ap (λ c. holds fig t nodes c x) (sym e) ∙ sym (s.members (block_of r x) x (block_known x l) l) ∙ mine r x (in_size x l)

    pub one_sort : (x y b : ℕ) → x < size t → y < size t → block_of r x ≡ b → block_of r y ≡ b → sort_of t x ≡ sort_of t y
    one_sort x y b xl yl ex ey =
        let bl : b < length nodes = omega (arith, block_known x xl) in
        (same_look fig t nodes s.valid b x y bl (block_holds x b xl ex) (block_holds y b yl ey)).0

    -- figures into a node of the row are figures into the node of the record
    pub as_record : Lawful t → (m : ℕ) → m < length nodes → (x l : ℕ) → figure_of fig t x l (in_node r m) ≡ figure_of fig t x l (holds fig t nodes m)
    as_record lawful m ml x l = ap (fig (sort_of t x) l) (into_same t lawful x l (in_node r m) (holds fig t nodes m) (λ z zl. s.members m z ml zl))

    -- the blocks are the leaves
    pub leaves : Leaves fig t nodes (block_of r)
    leaves = record {
      some = λ x xl.
          let k = block_known x xl in
          (block_of r x, k, s.whole (block_of r x) k (unsplit r x (in_size x xl)), block_holds x (block_of r x) xl refl);
      group = λ i x y il un xl yl hx.
          let open_leaf : is_split r i ≡ false = not_parted i il un in
          let ex : block_of r x ≡ i = own r i x (omega (arith, s.count)) (in_size x xl) open_leaf (s.members i x il xl ∙ hx) in (
            λ hy. ex ∙ sym (own r i y (omega (arith, s.count)) (in_size y yl) open_leaf (s.members i y il yl ∙ hy)),
            λ e. block_holds y i yl (sym e ∙ ex),
          );
    }
      where
        not_parted : (i : ℕ) → i < length nodes → Unsplit nodes i → is_split r i ≡ false
        not_parted i il un = elim (cases_Bool (is_split r i)) [ inl e ↦ absurd (s.parted i il e un) | inr e ↦ e ]

  module _ (nodes : List Node) (r : Row) (nodes2 : List Node) (r2 : Row) (s : Shown fig t nodes r) (o : Onward fig t nodes r nodes2 r2) where
    pub longer : length nodes ≤ length nodes2
    longer = omega (arith, ap (λ ns. length ns) o.more.1 ∙ length-append nodes o.more.0)

    -- an old node holds what it held
    pub same_node : Lawful t → (m : ℕ) → m < length nodes → (x l : ℕ) → figure_of fig t x l (holds fig t nodes2 m) ≡ figure_of fig t x l (holds fig t nodes m)
    same_node lawful m ml x l =
        ap (λ ns. figure_of fig t x l (holds fig t ns m)) o.more.1
        ∙ ap (fig (sort_of t x) l) (into_same t lawful x l (holds fig t (nodes ++ o.more.0) m) (holds fig t nodes m) (λ z zl. grows fig t nodes o.more.0 s.valid m ml z))

    -- what was even is even still
    pub still_even : Lawful t → (m : ℕ) → m < length nodes → ((b : ℕ) → Even fig t nodes r b m) → (b : ℕ) → Even fig t nodes2 r2 b m
    still_even lawful m ml h b l ll x y xl yl ex ey =
        same_node lawful m ml x l
        ∙ h (block_of r x) l ll x y xl yl refl (sym (o.finer x y xl yl (ex ∙ sym ey)))
        ∙ sym (same_node lawful m ml y l)

  pub onward_then : (n1 n2 n3 : List Node) (r1 r2 r3 : Row) → Onward fig t n1 r1 n2 r2 → Onward fig t n2 r2 n3 r3 → Onward fig t n1 r1 n3 r3
  onward_then n1 n2 n3 r1 r2 r3 a b = record {
    shown = b.shown;
    more = (a.more.0 ++ b.more.0, b.more.1 ∙ ap (λ ns. ns ++ b.more.0) a.more.1 ∙ append_assoc n1 a.more.0 b.more.0);
    finer = λ x y xl yl e. a.finer x y xl yl (b.finer x y xl yl e);
  }

  -- the blocks below k are even for the marker, after one more block
  module _ (lawful : Lawful t) (n1 n2 : List Node) (r1 r2 : Row) (s : Shown fig t n1 r1) (k m : ℕ) (kl : k < length n1) (ml : m < length n1) (e : Evened fig t n1 r1 k m n2 r2) (h : (b : ℕ) → b < k → Even fig t n1 r1 b m) where
    pub one_more : (b : ℕ) → b < k + 1 → Even fig t n2 r2 b m
    one_more b bl = elim (cases_eq b k) [
      | inl q ↦ rw q e.even
      | inr ne ↦ λ l ll x y xl yl ex ey.
          let px : block_of r1 x ≡ b = sym (e.stays x xl (omega arith)) ∙ ex in
          let py : block_of r1 y ≡ b = sym (e.stays y yl (omega arith)) ∙ ey in
          same_node n1 r1 n2 r2 s e.onward lawful m ml x l ∙ h b (omega arith) l ll x y xl yl px py ∙ sym (same_node n1 r1 n2 r2 s e.onward lawful m ml y l)
    ]

  -- no block is left
  pub all_even : (nodes : List Node) (r : Row) → Shown fig t nodes r → (k m : ℕ) → length nodes ≤ k → ((b : ℕ) → b < k → Even fig t nodes r b m) → (b : ℕ) → Even fig t nodes r b m
  all_even nodes r s k m kl h b l ll x y xl yl ex ey = h b (omega (arith, block_known nodes r s x xl)) l ll x y xl yl ex ey

  pub same_shown : (nodes : List Node) (r r2 : Row) → Same r r2 → Shown fig t nodes r → Shown fig t nodes r2
  same_shown nodes r r2 q s = record {
    valid = s.valid;
    sized = q.size ∙ s.sized;
    count = q.count ∙ s.count;
    members = λ b x bl xl. q.member b x ∙ s.members b x bl xl;
    whole = λ b bl e. s.whole b bl (sym (q.split b) ∙ e);
    parted = λ b bl e. s.parted b bl (sym (q.split b) ∙ e);
  }

  -- the row with the same nodes is as far
  pub evened_same : (nodes : List Node) (r r2 : Row) (b m : ℕ) → Same r r2 → Shown fig t nodes r → Even fig t nodes r b m → Evened fig t nodes r b m nodes r2
  evened_same nodes r r2 b m q s e = record {
    onward = record { shown = same_shown nodes r r2 q s; more = ([], sym (append-nil nodes)); finer = λ x y xl yl h. sym (q.block x) ∙ h ∙ q.block y };
    stays = λ x xl h. q.block x;
    even = λ l ll x y xl yl ex ey. e l ll x y xl yl (sym (q.block x) ∙ ex) (sym (q.block y) ∙ ey);
  }

  -- what is split has no states of its own
  pub split_is_even : (nodes : List Node) (r : Row) → Shown fig t nodes r → (b m : ℕ) → is_split r b ≡ true → Even fig t nodes r b m
  split_is_even nodes r s b m e l ll x y xl yl ex ey = absurd (both_ways (is_split r b) (ap (is_split r) (sym ex) ∙ unsplit r x (in_size nodes r s x xl)) e)

  -- one state is even
  pub one_is_even : (nodes : List Node) (r : Row) → Shown fig t nodes r → (b m : ℕ) → ((x y : ℕ) → x < size_of r → y < size_of r → in_node r b x ≡ true → in_node r b y ≡ true → x ≡ y) → Even fig t nodes r b m
  one_is_even nodes r s b m one l ll x y xl yl ex ey =
      let ix = ap (λ c. in_node r c x) (sym ex) ∙ mine r x (in_size nodes r s x xl) in
      let iy = ap (λ c. in_node r c y) (sym ey) ∙ mine r y (in_size nodes r s y yl) in
      ap (λ z. figure_of fig t z l (holds fig t nodes m)) (one x y (in_size nodes r s x xl) (in_size nodes r s y yl) ix iy)

  -- no link into the marker: all states of a block have the figure of no weights
  pub idle_is_even : (nodes : List Node) (r : Row) → Shown fig t nodes r → (b m : ℕ) (used : List Bool) → Idle fig t nodes m used → (l : ℕ) → get_or used l false ≡ false → EvenAt fig t nodes r b m l
  idle_is_even nodes r s b m used idle l clear x y xl yl ex ey = rw (idle l clear x, idle l clear y) (ap (λ z. fig z l []) (one_sort nodes r s x y b xl yl ex ey))

  pub idle_still : Lawful t → (n1 n2 : List Node) (r1 r2 : Row) → Shown fig t n1 r1 → Onward fig t n1 r1 n2 r2 → (m : ℕ) → m < length n1 → (used : List Bool) → Idle fig t n1 m used → Idle fig t n2 m used
  idle_still lawful n1 n2 r1 r2 s o m ml used idle l clear x =
      ap (λ ns. into t x l (holds fig t ns m)) o.more.1
      ∙ into_same t lawful x l (holds fig t (n1 ++ o.more.0) m) (holds fig t n1 m) (λ z zl. grows fig t n1 o.more.0 s.valid m ml z)
      ∙ idle l clear x

  pub idle_start : Lawful t → (nodes : List Node) (r : Row) → Shown fig t nodes r → (m : ℕ) → m < length nodes → (used : List Bool) → LabelsInto t.links (in_node r m) (length t.links) used → Idle fig t nodes m used
  idle_start lawful nodes r s m ml used h l clear x = sym (into_same t lawful x l (in_node r m) (holds fig t nodes m) (λ z zl. s.members m z ml zl)) ∙ unused t (in_node r m) used h l clear x

  pub even_back : (nodes nodes1 : List Node) (r r1 : Row) (b m l : ℕ) → nodes1 ≡ nodes → Same r r1 → EvenAt fig t nodes1 r1 b m l → EvenAt fig t nodes r b m l
  even_back nodes nodes1 r r1 b m l e q h x y xl yl ex ey =
      subst (λ ns. figure_of fig t x l (holds fig t ns m) ≡ figure_of fig t y l (holds fig t ns m)) e (h x y xl yl (q.block x ∙ ex) (q.block y ∙ ey))

  pub even_more : (nodes : List Node) (r : Row) (b m i : ℕ) → ((k : ℕ) → k < i → EvenAt fig t nodes r b m k) → EvenAt fig t nodes r b m i → (k : ℕ) → k < i + 1 → EvenAt fig t nodes r b m k
  even_more nodes r b m i h e k kl = elim (cases_eq k i) [ inl q ↦ rw q e | inr ne ↦ h k (omega arith) ]

  -- one marker more
  pub markers_more : Lawful t → (n1 n2 : List Node) (r1 r2 : Row) → Shown fig t n1 r1 → Onward fig t n1 r1 n2 r2 → (k : ℕ) → k < length n1 →
      ((m : ℕ) → m < k → (b : ℕ) → Even fig t n1 r1 b m) → ((b : ℕ) → Even fig t n2 r2 b k) → (m : ℕ) → m < k + 1 → (b : ℕ) → Even fig t n2 r2 b m
  markers_more lawful n1 n2 r1 r2 s o k kl h e m ml b = elim (cases_eq m k) [
    | inl q ↦ rw q (e b)
    | inr ne ↦ still_even n1 r1 n2 r2 s o lawful m (omega arith) (h m (omega arith)) b
  ]

pub same_self : (r : Row) → Same r r
same_self r = record { size = refl; count = refl; block = λ x. refl; split = λ b. refl; member = λ b x. refl }

pub same_then : (r1 r2 r3 : Row) → Same r1 r2 → Same r2 r3 → Same r1 r3
same_then r1 r2 r3 a b = record {
  size = b.size ∙ a.size;
  count = b.count ∙ a.count;
  block = λ x. b.block x ∙ a.block x;
  split = λ n. b.split n ∙ a.split n;
  member = λ n x. b.member n x ∙ a.member n x;
}

pub same_items : (r r2 : Row) (figs : List ℤ) (leaf : ℕ) → Unchanged r r2 figs leaf → Same r r2
same_items r r2 figs leaf u = record {
  size = ap (λ xs. length xs) u.order;
  count = ap (λ xs. length xs) u.stretches;
  block = λ x. ap (λ xs. at xs x) u.block;
  split = λ b. ap (λ ss. (stretch_at ss b).split) u.stretches;
  member = λ b x. ap₂ (λ ss ps. holds_place (stretch_at ss b) (at ps x)) u.stretches u.place;
}
