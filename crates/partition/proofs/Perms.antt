-- How a permutation with its inverse changes.
use Rattle.std.proofs.Common.{◌≡◌, ℕ, ◌<◌, ◌≤◌, List, length, sym, refl, ap, ◌∙◌, subst, inl, inr, arith}
use Rattle.std.proofs.lemmas.Bool.{cases_lt}
use Rattle.partition.specs.Perm.{Perm, Outside, Back, at}

-- places that hold the same are the same
place_same : (o p : List ℕ) → Back o p → (i j : ℕ) → i < length o → j < length o → at o i ≡ at o j → i ≡ j
place_same o p b i j li lj e = sym (b i li) ∙ ap (at p) e ∙ b j lj

pub outside_none : (o : List ℕ) (s e : ℕ) → Outside o o s e
outside_none o s e = record { len = refl; below = λ k l. refl; above = λ k l. refl }

pub outside_back : (o o2 : List ℕ) (s e : ℕ) → Outside o o2 s e → Outside o2 o s e
outside_back o o2 s e h = record { len = sym h.len; below = λ k l. sym (h.below k l); above = λ k l. sym (h.above k l) }

module _ (o p o2 p2 : List ℕ) (s e : ℕ) (h : Perm o p) (h2 : Perm o2 p2) (out : Outside o o2 s e) (le : e ≤ length o) where
  -- what stands in start..end came from there
  pub came_from : (j : ℕ) → s ≤ j → j < e → (s ≤ at p (at o2 j)) × (at p (at o2 j) < e) × (at o (at p (at o2 j)) ≡ at o2 j)
  came_from j a b =
      let lj : j < length o2 = omega (arith, out.len) in
      let lx : at o2 j < length p = omega (arith, h2.low j lj, out.len, h.same) in
      let li : at p (at o2 j) < length o = h.low_place (at o2 j) lx in
      let li2 : at p (at o2 j) < length o2 = omega (arith, out.len) in
      let is : at o (at p (at o2 j)) ≡ at o2 j = h.fore (at o2 j) lx in (
        elim (cases_lt (at p (at o2 j)) s) [
          | inl l ↦
              let q : at p (at o2 j) ≡ j = place_same o2 p2 h2.back (at p (at o2 j)) j li2 lj (out.below (at p (at o2 j)) l ∙ is) in omega arith
          | inr l ↦ l
        ],
        elim (cases_lt (at p (at o2 j)) e) [
          | inl l ↦ l
          | inr l ↦
              let q : at p (at o2 j) ≡ j = place_same o2 p2 h2.back (at p (at o2 j)) j li2 lj (out.above (at p (at o2 j)) l ∙ is) in omega arith
        ],
        is,
      )

-- the states of start..end are the same, and the others keep their places
pub record Stays (p p2 : List ℕ) (start end : ℕ) : Type 0 where
  pub below : (x : ℕ) → x < length p → at p x < start → at p2 x ≡ at p x
  pub above : (x : ℕ) → x < length p → end ≤ at p x → at p2 x ≡ at p x
  pub low : (x : ℕ) → x < length p → start ≤ at p x → at p x < end → start ≤ at p2 x
  pub high : (x : ℕ) → x < length p → start ≤ at p x → at p x < end → at p2 x < end

module _ (o p o2 p2 : List ℕ) (s e : ℕ) (h : Perm o p) (h2 : Perm o2 p2) (out : Outside o o2 s e) (le : e ≤ length o) where
  stays_put : (x : ℕ) → x < length p → at o2 (at p x) ≡ at o (at p x) → at p2 x ≡ at p x
  stays_put x l q = sym (ap (at p2) (q ∙ h.fore x l)) ∙ h2.back (at p x) (omega (arith, out.len, h.low_place x l))

  stays_in : (x : ℕ) → x < length p → s ≤ at p x → at p x < e → (s ≤ at p2 x) × (at p2 x < e)
  stays_in x l a b =
      let q : at o (at p x) ≡ x = h.fore x l in
      let w = came_from o2 p2 o p s e h2 h (outside_back o o2 s e out) (omega (arith, out.len)) (at p x) a b in
      subst (λ y. (s ≤ at p2 y) × (at p2 y < e)) q (w.0, w.1)

  pub stays : Stays p p2 s e
  stays = record {
    below = λ x l b. stays_put x l (out.below (at p x) b);
    above = λ x l b. stays_put x l (out.above (at p x) b);
    low = λ x l a b. (stays_in x l a b).0;
    high = λ x l a b. (stays_in x l a b).1;
  }

pub perm_like : {o p o2 p2 : List ℕ} → o2 ≡ o → p2 ≡ p → Perm o p → Perm o2 p2
perm_like a b h = rw (a, b) h
