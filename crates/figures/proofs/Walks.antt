-- The weights of the links so far, along the links of one source and label.
use Rattle.std.proofs.Common.{◌≡◌, ℕ, zero, suc, ◌+◌, ◌-◌, ◌<◌, ◌≤◌, Bool, true, false, cond, List, [], ◌∷◌, ◌++◌, map, length, take, ℤ, filter, Some, None, Option, sym, refl, ap, ◌∙◌, subst, inl, inr, arith, eq-eqb, ne_eqb}
use Rattle.std.proofs.lemmas.List.Elements.{filter_more}
use Rattle.std.proofs.lemmas.List.{map-append, append-nil, take_all}
use Rattle.std.proofs.lemmas.Bool.{cases_eq}
use Rattle.table.specs.System.{leads}
use Rattle.table.specs.declared.parts.Link.{Link}
use Rattle.figures.specs.Index.{Follows, There, place_of, link_at, no_link}

module _ (links : List Link) (x l : ℕ) (S : ℕ → Bool) where
  -- the weights of the first i links that leave x with the label into S
  unfoldable pub sofar : ℕ → List ℤ
  sofar i = map (λ k. k.weight) (filter (leads x l S) (take i links))

  pub sofar_none : sofar 0 ≡ []
  unfolding sofar
  sofar_none = refl

  pub sofar_all : (i : ℕ) → length links ≤ i → sofar i ≡ map (λ k. k.weight) (filter (leads x l S) links)
  unfolding sofar
  sofar_all i h = ap (λ ks. map (λ k. k.weight) (filter (leads x l S) ks)) (take_all i links h)

  step_yes : (i : ℕ) → i < length links → leads x l S (link_at links i) ≡ true → sofar (i + 1) ≡ sofar i ++ (link_at links i).weight ∷ []
  unfolding sofar
  step_yes i h p =
      ap (map (λ k. k.weight)) (filter_more (leads x l S) links i no_link h ∙ ap (λ b. filter (leads x l S) (take i links) ++ cond b (link_at links i ∷ []) []) p)
      ∙ map-append (λ k. k.weight) (filter (leads x l S) (take i links)) (link_at links i ∷ [])

  step_no : (i : ℕ) → i < length links → leads x l S (link_at links i) ≡ false → sofar (i + 1) ≡ sofar i
  unfolding sofar
  step_no i h p =
      ap (map (λ k. k.weight)) (filter_more (leads x l S) links i no_link h ∙ ap (λ b. filter (leads x l S) (take i links) ++ cond b (link_at links i ∷ []) []) p ∙ append-nil _)

  -- a link that leads into S adds its weight
  pub walk_in : (i : ℕ) → i < length links → (link_at links i).source ≡ x → (link_at links i).label ≡ l → S (link_at links i).target ≡ true → sofar (i + 1) ≡ sofar i ++ (link_at links i).weight ∷ []
  walk_in i h ex el es = step_yes i h (rw (eq-eqb (link_at links i).source x ex, eq-eqb (link_at links i).label l el, es))

  pub walk_past : (i : ℕ) → i < length links → (link_at links i).source ≡ x → (link_at links i).label ≡ l → S (link_at links i).target ≡ false → sofar (i + 1) ≡ sofar i
  walk_past i h ex el es = step_no i h (rw (eq-eqb (link_at links i).source x ex, eq-eqb (link_at links i).label l el, es))

  walk_other : (i : ℕ) → i < length links → ((link_at links i).source ≡ x → (link_at links i).label ≡ l → ⊥) → sofar (i + 1) ≡ sofar i
  walk_other i h ne = elim (cases_eq (link_at links i).source x) [
    | inl e ↦ step_no i h (rw (eq-eqb (link_at links i).source x e, ne_eqb (link_at links i).label l (ne e)))
    | inr n ↦ step_no i h (rw (ne_eqb (link_at links i).source x n))
  ]

  -- links of another source or label add nothing
  walk_on : (d i : ℕ) → i + d ≤ length links → ((k : ℕ) → i ≤ k → k < i + d → (link_at links k).source ≡ x → (link_at links k).label ≡ l → ⊥) → sofar (i + d) ≡ sofar i
  walk_on zero i h none = ap sofar (omega arith)
  walk_on (suc d) i h none =
      let e : sofar (i + suc d) ≡ sofar (i + d + 1) = ap sofar (omega arith) in
      e ∙ walk_other (i + d) (omega arith) (none (i + d) (omega arith) (omega arith)) ∙ walk_on d i (omega arith) (λ k a b. none k a (omega arith))

  pub walk_to : (i : ℕ) (o : Option ℕ) → Follows links x l i o → sofar (place_of links o) ≡ sofar i
  walk_to i o f =
      let j : ℕ = place_of links o in
      let e : i + (j - i) ≡ j = omega (arith, f.from) in
      sym (ap sofar e) ∙ walk_on (j - i) i (omega (arith, place_low o f.there)) (λ k low high. f.none k low (omega arith))
    where
      place_low : (o : Option ℕ) → There links o → place_of links o ≤ length links
      place_low None h = omega arith
      place_low (Some j) h = let l = h j refl in omega arith

  -- what is fed so far at a link is fed so far at the next of its kind
  pub walked : (H : List ℤ → Type 0) (i : ℕ) (o : Option ℕ) → Follows links x l i o → H (sofar i) →
      H (sofar (place_of links o)) × There links o × (place_of links o < length links → (link_at links (place_of links o)).source ≡ x) × (place_of links o < length links → (link_at links (place_of links o)).label ≡ l)
  walked H i o f h = (subst H (sym (walk_to i o f)) h, f.there, f.source, f.label)
