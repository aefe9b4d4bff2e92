-- Records of splits: what their nodes hold, and what a further split makes of them.
use Rattle.std.proofs.Common.{◌≡◌, ℕ, zero, suc, ◌+◌, ◌-◌, ◌<◌, ◌≤◌, Bool, true, false, ◌&&◌, ◌⊎◌, List, [], ◌∷◌, ◌++◌, length, sym, refl, ap, ◌∙◌, subst, ap₂, inl, inr, arith}
use Rattle.std.proofs.lemmas.List.{length-append, length-map, get_or-map, get_or_append_left, get_or-append-add}
use Rattle.std.proofs.lemmas.Bool.{cases_lt, both_ways, and_parts, eqb-true}
use Rattle.weigher.specs.Figure.{Figure}
use Rattle.table.specs.System.{System, sort_of, output_of, figure_of}
use Rattle.table.specs.declared.parts.Node.{Node}
use Rattle.table.specs.declared.parts.Node.TheVariants.{Start, Part}
use Rattle.table.specs.declared.parts.Origin.{Origin}
use Rattle.theory.specs.Rounds.{same_int}
use Rattle.theory.specs.Record.{nowhere, node_at, passes, holds_within, holds, start_nodes, Split, parts, Unsplit, figure_at, Next, after, Each, Record}
use Rattle.theory.proofs.Rounds.{Alike}
use Rattle.theory.proofs.Starts.{start_never}

-- where the nodes of a split come from
abbrev origin : Split → ℕ → Origin
origin s j = record { parent = s.parent; label = s.label; marker = s.marker; figure = figure_at s.figures j }

pub length_parts : (s : Split) → length (parts s) ≡ length s.figures
length_parts s = length-map s.figures _

part_at : (nodes : List Node) (s : Split) (j : ℕ) → j < length s.figures → node_at (nodes ++ parts s) (length nodes + j) ≡ Part (origin s j)
part_at nodes s j l = get_or-append-add nodes (parts s) j nowhere ∙ get_or-map _ s.figures j _ nowhere l

longer : (nodes : List Node) (s : Split) → length (nodes ++ parts s) ≡ length nodes + length s.figures
longer nodes s = length-append nodes (parts s) ∙ ap (λ n. length nodes + n) (length_parts s)

-- a node after a split that comes from a split was there before it, or comes from this one
which : (nodes : List Node) (s : Split) (i : ℕ) (o : Origin) → i < length (nodes ++ parts s) → node_at (nodes ++ parts s) i ≡ Part o →
    ((i < length nodes) × (node_at nodes i ≡ Part o)) ⊎ ((length nodes ≤ i) × (j : ℕ) × (o ≡ origin s j))
which nodes s i o l e = elim (cases_lt i (length nodes)) [
  | inl b ↦ inl (b, sym (get_or_append_left nodes (parts s) nowhere i b) ∙ e)
  | inr b ↦ inr (b, i - length nodes, new b)
]
  where
    new : length nodes ≤ i → o ≡ origin s (i - length nodes)
    new b =
        let q : node_at (nodes ++ parts s) i ≡ node_at (nodes ++ parts s) (length nodes + (i - length nodes)) = ap (node_at (nodes ++ parts s)) (omega arith) in
        let p = part_at nodes s (i - length nodes) (omega (arith, longer nodes s)) in
        cc

pub split_still : (nodes : List Node) (s : Split) (b : ℕ) → (Unsplit nodes b → ⊥) → Unsplit (nodes ++ parts s) b → ⊥
split_still nodes s b h u = h (λ i o l e. u i o (omega (arith, longer nodes s)) (get_or_append_left nodes (parts s) nowhere i l ∙ e))

-- a node comes from nodes before it
abbrev pub Lower : ℕ → Node → Type 0
Lower i nd = (o : Origin) → nd ≡ Part o → (o.parent < i) × (o.label < 64) × (o.marker < i)

abbrev Lowers : List Node → Type 0
Lowers nodes = (i : ℕ) → i < length nodes → Lower i (node_at nodes i)

module _ (fig : Figure) (t : System) where
  pub unsplit_other : (nodes : List Node) (s : Split) → Next fig t nodes s → (b : ℕ) → (b ≡ s.parent → ⊥) → Unsplit nodes b → Unsplit (nodes ++ parts s) b
  unsplit_other nodes s n b ne u i o l e q = elim (which nodes s i o l e) [
    | inl h ↦ u i o h.0 h.1 q
    | inr h ↦ ne (sym q ∙ ap (λ a. a.parent) h.2)
  ]

  pub split_now : (nodes : List Node) (s : Split) → Next fig t nodes s → Unsplit (nodes ++ parts s) s.parent → ⊥
  split_now nodes s n u =
      let two = n.two in
      u (length nodes + 0) (origin s 0) (omega (arith, longer nodes s)) (part_at nodes s 0 (omega arith)) refl

  lowers_next : (nodes : List Node) (s : Split) → Lowers nodes → Next fig t nodes s → Lowers (nodes ++ parts s)
  lowers_next nodes s low n i l o e = elim (which nodes s i o l e) [
    | inl h ↦ low i h.0 o h.1
    | inr h ↦ (
      let p = n.node in omega (arith, ap (λ a. a.parent) h.2, h.0),
      let p = n.label in omega (arith, ap (λ a. a.label) h.2),
      let p = n.marker in omega (arith, ap (λ a. a.marker) h.2, h.0),
    )
  ]

  lowers_after : (nodes : List Node) (ss : List Split) → Lowers nodes → Each fig t nodes ss → Lowers (after nodes ss)
  lowers_after nodes [] low e = low
  lowers_after nodes (s ∷ ss) low e = lowers_after (nodes ++ parts s) ss (lowers_next nodes s low e.0) e.1

  lowers : (nodes : List Node) → Record fig t nodes → Lowers nodes
  lowers nodes r = subst Lowers (sym r.made) (lowers_after (start_nodes t) r.splits (λ i l o e. absurd (start_never t i o l e)) r.each)

  pub lower : (nodes : List Node) → Record fig t nodes → (i : ℕ) (o : Origin) → i < length nodes → node_at nodes i ≡ Part o → (o.parent < i) × (o.label < 64) × (o.marker < i)
  lower nodes r i o l e = lowers nodes r i l o e

  pub unsplit_new : (nodes : List Node) (s : Split) → Record fig t nodes → Next fig t nodes s → (b : ℕ) → length nodes ≤ b → Unsplit (nodes ++ parts s) b
  unsplit_new nodes s r n b h i o l e q = elim (which nodes s i o l e) [
    | inl k ↦ absurd (omega (arith, k.0, (lower nodes r i o k.0 k.1).0))
    | inr k ↦ (let p = n.node in absurd (omega (arith, ap (λ a. a.parent) k.2)))
  ]

  pub record_start : Record fig t (start_nodes t)
  record_start = record { splits = []; each = tt; made = refl }

  after_push : (nodes : List Node) (ss : List Split) (s : Split) → after nodes (ss ++ s ∷ []) ≡ after nodes ss ++ parts s
  after_push nodes [] s = refl
  after_push nodes (a ∷ ss) s = after_push (nodes ++ parts a) ss s

  each_push : (nodes : List Node) (ss : List Split) (s : Split) → Each fig t nodes ss → Next fig t (after nodes ss) s → Each fig t nodes (ss ++ s ∷ [])
  each_push nodes [] s e n = (n, tt)
  each_push nodes (a ∷ ss) s e n = (e.0, each_push (nodes ++ parts a) ss s e.1 n)

  pub record_next : (nodes : List Node) (s : Split) → Record fig t nodes → Next fig t nodes s → Record fig t (nodes ++ parts s)
  record_next nodes s r n = record {
    splits = r.splits ++ s ∷ [];
    each = each_push (start_nodes t) r.splits s r.each (subst (λ ns. Next fig t ns s) r.made n);
    made = ap (λ ns. ns ++ parts s) r.made ∙ sym (after_push (start_nodes t) r.splits s);
  }

  -- whether a state is in a node depends on the nodes before it alone
  passes_same : (held held' : ℕ → ℕ → Bool) (i : ℕ) (nd : Node) → Lower i nd → ((j : ℕ) → j < i → held j ≡ held' j) → passes fig t held nd ≡ passes fig t held' nd
  passes_same held held' i (Start s) low e = refl
  passes_same held held' i (Part o) low e = ap₂ {C = ℕ → Bool} (λ a b x. a x && same_int (figure_of fig t x o.label b) o.figure) (e o.parent (low o refl).0) (e o.marker (low o refl).2)

  within_same : (nodes more : List Node) → Lowers nodes → (f f' i : ℕ) → i < f → i < f' → i < length nodes → holds_within fig t nodes f i ≡ holds_within fig t (nodes ++ more) f' i
  unfolding holds_within
  within_same nodes more low zero f' i h h' k = absurd (omega arith)
  within_same nodes more low (suc f) zero i h h' k = absurd (omega arith)
  within_same nodes more low (suc f) (suc f') i h h' k =
      passes_same (holds_within fig t nodes f) (holds_within fig t (nodes ++ more) f') i (node_at nodes i) (low i k) (λ j b. within_same nodes more low f f' j (omega arith) (omega arith) (omega arith))
      ∙ ap (passes fig t (holds_within fig t (nodes ++ more) f')) (sym (get_or_append_left nodes more nowhere i k))

  whole_grows : (nodes more : List Node) → Record fig t nodes → (i : ℕ) → i < length nodes → holds fig t (nodes ++ more) i ≡ holds fig t nodes i
  unfolding holds
  whole_grows nodes more r i k = sym (within_same nodes more (lowers nodes r) (suc i) (suc i) i (omega arith) (omega arith) k)

  pub grows : (nodes more : List Node) → Record fig t nodes → (i : ℕ) → i < length nodes → (x : ℕ) → holds fig t (nodes ++ more) i x ≡ holds fig t nodes i x
  grows nodes more r i k x = ap (λ h. h x) (whole_grows nodes more r i k)

  pub opens : (nodes : List Node) → Record fig t nodes → (i : ℕ) → i < length nodes → (x : ℕ) → holds fig t nodes i x ≡ passes fig t (holds fig t nodes) (node_at nodes i) x
  unfolding holds holds_within
  opens nodes r i k x = ap (λ h. h x) (passes_same (holds_within fig t nodes i) (holds fig t nodes) i (node_at nodes i) (lowers nodes r i k) fuel)
    where
      fuel : (j : ℕ) → j < i → holds_within fig t nodes i j ≡ holds_within fig t nodes (suc j) j
      fuel j b = within_same nodes [] (lowers nodes r) i (suc j) j b (omega arith) (omega arith) ∙ sym (within_same nodes [] (lowers nodes r) (suc j) (suc j) j (omega arith) (omega arith) (omega arith))

  pub part_holds : (nodes : List Node) (s : Split) → Record fig t nodes → Next fig t nodes s → (j : ℕ) → j < length s.figures → (x : ℕ) →
      holds fig t (nodes ++ parts s) (length nodes + j) x ≡ (holds fig t nodes s.parent x && same_int (figure_of fig t x s.label (holds fig t nodes s.marker)) (figure_at s.figures j))
  part_holds nodes s r n j l x =
      opens (nodes ++ parts s) (record_next nodes s r n) (length nodes + j) (omega (arith, longer nodes s)) x
      ∙ ap (λ nd. passes fig t (holds fig t (nodes ++ parts s)) nd x) (part_at nodes s j l)
      ∙ ap₂ (λ (a b : ℕ → Bool). a x && same_int (figure_of fig t x s.label b) (figure_at s.figures j)) (whole_grows nodes (parts s) r s.parent n.node) (whole_grows nodes (parts s) r s.marker n.marker)

  -- states in one node come from one starting node
  passes_look : (held : ℕ → ℕ → Bool) (nd : Node) (x y : ℕ) → ((j : ℕ) → held j x ≡ true → held j y ≡ true → Alike t x y) → passes fig t held nd x ≡ true → passes fig t held nd y ≡ true → Alike t x y
  passes_look held (Start s) x y before u v =
      let p = and_parts _ _ u in
      let q = and_parts _ _ v in
      (eqb-true _ _ p.0 ∙ sym (eqb-true _ _ q.0), eqb-true _ _ p.1 ∙ sym (eqb-true _ _ q.1))
  passes_look held (Part o) x y before u v = before o.parent (and_parts _ _ u).0 (and_parts _ _ v).0

  within_look : (nodes : List Node) (f i x y : ℕ) → holds_within fig t nodes f i x ≡ true → holds_within fig t nodes f i y ≡ true → Alike t x y
  unfolding holds_within
  within_look nodes zero i x y = λ a b. absurd (both_ways false refl a)
  within_look nodes (suc f) i x y = passes_look (holds_within fig t nodes f) (node_at nodes i) x y (λ j. within_look nodes f j x y)

  pub same_look : (nodes : List Node) → Record fig t nodes → (i x y : ℕ) → i < length nodes → holds fig t nodes i x ≡ true → holds fig t nodes i y ≡ true → (sort_of t x ≡ sort_of t y) × (output_of t x ≡ output_of t y)
  unfolding holds
  same_look nodes r i x y l = within_look nodes (suc i) i x y
