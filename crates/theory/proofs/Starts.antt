-- The starting nodes of a record: how many there are, where each stands and which states it holds.
use Rattle.std.proofs.Common.{◌≡◌, ℕ, zero, suc, ◌+◌, ◌<◌, true, false, cond, eqb, List, [], ◌∷◌, ◌++◌, map, length, filter, sym, refl, ap, ◌∙◌, subst, inl, inr, arith}
use Rattle.std.specs.List.{range_with_len}
use Rattle.std.proofs.lemmas.List.Elements.{filter-append}
use Rattle.std.proofs.lemmas.List.{map-append, append-nil, length_push, get_or_push, get_or_append_left}
use Rattle.std.proofs.lemmas.Bool.{both_ways, cases_Bool, cases_eq, cond-true, cond-false, eqb-true, eq-eqb}
use Rattle.std.proofs.lemmas.Bool.Decides.{same_from_decides}
use Rattle.weigher.specs.Figure.{Figure}
use Rattle.table.specs.System.{System, size, state_at}
use Rattle.table.specs.Numbering.{earliest, how_many}
use Rattle.table.specs.declared.parts.Node.{Node}
use Rattle.table.specs.declared.parts.Node.TheVariants.{Start, Part}
use Rattle.table.specs.declared.parts.Origin.{Origin}
use Rattle.theory.specs.Rounds.{alike}
use Rattle.theory.specs.Record.{nowhere, node_at, passes, holds_within, holds, leader, start_nodes, Unsplit}
use Rattle.theory.proofs.Counts.{count_yes, count_no, count_none, count_up, count_same, count_at}
use Rattle.theory.proofs.Groups.{earliest_like, earliest_same}
use Rattle.theory.proofs.Rounds.{Alike, alike_relating}

counting_more : (a n j : ℕ) → a + n ≡ j → range_with_len a (suc n) ≡ range_with_len a n ++ j ∷ []
counting_more a zero j e = ap (λ k. k ∷ []) (omega arith)
counting_more a (suc n) j e = ap (λ ks. a ∷ ks) (counting_more (a + 1) n j (omega arith))

module _ (t : System) where
  -- the starting nodes whose smallest states are below k
  abbrev pub starts_below : ℕ → List Node
  starts_below k = map (λ x. Start (state_at t x)) (filter (leader t) (range_with_len 0 k))

  pub starts_all : start_nodes t ≡ starts_below (size t)
  unfolding start_nodes
  starts_all = refl

  pub starts_none : starts_below 0 ≡ []
  starts_none = refl

  starts_more : (k : ℕ) → starts_below (suc k) ≡ starts_below k ++ map (λ x. Start (state_at t x)) (cond (leader t k) (k ∷ []) [])
  starts_more k =
      ap (λ ks. map (λ x. Start (state_at t x)) (filter (leader t) ks)) (counting_more 0 k k (omega arith))
      ∙ ap (map (λ x. Start (state_at t x))) (filter-append (leader t) (range_with_len 0 k) (k ∷ []))
      ∙ map-append (λ x. Start (state_at t x)) (filter (leader t) (range_with_len 0 k)) (filter (leader t) (k ∷ []))

  pub starts_yes : (k : ℕ) → leader t k ≡ true → starts_below (suc k) ≡ starts_below k ++ (Start (state_at t k) ∷ [])
  starts_yes k e = starts_more k ∙ ap (λ ks. starts_below k ++ map (λ x. Start (state_at t x)) ks) (cond-true (leader t k) (k ∷ []) [] e)

  pub starts_no : (k : ℕ) → leader t k ≡ false → starts_below (suc k) ≡ starts_below k
  starts_no k e = starts_more k ∙ ap (λ ks. starts_below k ++ map (λ x. Start (state_at t x)) ks) (cond-false (leader t k) (k ∷ []) [] e) ∙ append-nil (starts_below k)

  pub length_below : (k : ℕ) → length (starts_below k) ≡ how_many (leader t) k
  length_below zero = ap (λ ns. length ns) starts_none ∙ sym (count_none (leader t))
  length_below (suc k) = let r = length_below k in elim (cases_Bool (leader t k)) [
    | inl e ↦ ap (λ ns. length ns) (starts_yes k e) ∙ length_push (starts_below k) (Start (state_at t k)) ∙ omega (arith, count_yes (leader t) k e)
    | inr e ↦ ap (λ ns. length ns) (starts_no k e) ∙ r ∙ sym (count_no (leader t) k e)
  ]

  at_below : (k x : ℕ) → x < k → leader t x ≡ true → node_at (starts_below k) (how_many (leader t) x) ≡ Start (state_at t x)
  at_below zero x l e = absurd (omega arith)
  at_below (suc k) x l e = elim (cases_Bool (leader t k)) [
    | inl y ↦ ap (λ ns. node_at ns (how_many (leader t) x)) (starts_yes k y) ∙ elim (cases_eq x k) [
      | inl q ↦ get_or_push (starts_below k) (Start (state_at t k)) nowhere (how_many (leader t) x) (length_below k ∙ ap (how_many (leader t)) (sym q)) ∙ ap (λ z. Start (state_at t z)) (sym q)
      | inr ne ↦ get_or_append_left (starts_below k) (Start (state_at t k) ∷ []) nowhere (how_many (leader t) x) (omega (arith, length_below k, count_up (leader t) x k e (omega arith))) ∙ at_below k x (omega arith) e
    ]
    | inr n ↦ ap (λ ns. node_at ns (how_many (leader t) x)) (starts_no k n) ∙ elim (cases_eq x k) [
      | inl q ↦ absurd (both_ways (leader t k) n (ap (leader t) (sym q) ∙ e))
      | inr ne ↦ at_below k x (omega arith) e
    ]
  ]

  pub start_length : length (start_nodes t) ≡ how_many (leader t) (size t)
  start_length = ap (λ ns. length ns) starts_all ∙ length_below (size t)

  pub start_at : (x : ℕ) → x < size t → leader t x ≡ true → node_at (start_nodes t) (how_many (leader t) x) ≡ Start (state_at t x)
  start_at x l e = ap (λ ns. node_at ns (how_many (leader t) x)) starts_all ∙ at_below (size t) x l e

  -- no starting node comes from a split
  pub start_never : (i : ℕ) (o : Origin) → i < length (start_nodes t) → node_at (start_nodes t) i ≡ Part o → ⊥
  start_never i o l e =
      let r = count_at (leader t) (size t) i (omega (arith, start_length)) in
      let s : node_at (start_nodes t) i ≡ Start (state_at t r.0) = ap (node_at (start_nodes t)) (sym r.3) ∙ start_at r.0 r.1 r.2 in
      both_ways true (cc) refl

  pub start_unsplit : (b : ℕ) → Unsplit (start_nodes t) b
  start_unsplit b i o l e q = start_never i o l e

  -- the smallest state like x is the smallest like itself
  pub leads_itself : (x : ℕ) → leader t (earliest (alike t) x) ≡ true
  unfolding leader
  leads_itself x = eq-eqb _ _ (sym ((earliest_same (alike t) (Alike t) (alike_relating t) x (earliest (alike t) x)).1 (earliest_like (alike t) (Alike t) (alike_relating t) x)))

  pub leader_is : (x : ℕ) → leader t x ≡ true → earliest (alike t) x ≡ x
  unfolding leader
  leader_is x e = eqb-true _ _ e

  -- a state is in the starting node of the smallest state like it
  alike_place : (x z : ℕ) → leader t z ≡ true → alike t x z ≡ eqb (how_many (leader t) z) (how_many (leader t) (earliest (alike t) x))
  alike_place x z e = same_from_decides _ _ ((alike_relating t).decides x z) (
    λ q. subst (Alike t x) (sym (count_same (leader t) z (earliest (alike t) x) e (leads_itself x) (eqb-true _ _ q))) (earliest_like (alike t) (Alike t) (alike_relating t) x),
    λ r. eq-eqb _ _ (ap (how_many (leader t)) (sym ((earliest_same (alike t) (Alike t) (alike_relating t) x z).1 r ∙ leader_is z e))),
  )

module _ (fig : Figure) (t : System) where
  pub start_holds : (i x : ℕ) → i < length (start_nodes t) → x < size t → holds fig t (start_nodes t) i x ≡ eqb i (how_many (leader t) (earliest (alike t) x))
  unfolding holds holds_within alike
  start_holds i x l xl =
      let r = count_at (leader t) (size t) i (omega (arith, start_length t)) in
      let s : node_at (start_nodes t) i ≡ Start (state_at t r.0) = ap (node_at (start_nodes t)) (sym r.3) ∙ start_at t r.0 r.1 r.2 in
      ap (λ nd. passes fig t (holds_within fig t (start_nodes t) i) nd x) s ∙ alike_place t x r.0 r.2
      ∙ ap (λ k. eqb k (how_many (leader t) (earliest (alike t) x))) r.3
