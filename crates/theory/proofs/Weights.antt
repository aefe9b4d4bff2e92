-- The weights into a set: what they depend on, that they are in range, and how they split.
use Rattle.std.proofs.Common.{◌≡◌, ℕ, ◌<◌, Bool, true, false, cond, not, ◌&&◌, eqb, List, [], ◌∷◌, ◌++◌, map, filter, refl, ap, ◌∙◌, subst, arith, w32, SFits}
use Rattle.std.specs.List.{AllByRecursion}
use Rattle.std.specs.List.Sorted.{IsPermutation}
use Rattle.std.proofs.ByRecursion.{All-map, all_kept_by, All-weaker}
use Rattle.std.proofs.lemmas.List.Sorted.{IsPermutation-refl, IsPermutation-cons, IsPermutation-trans, IsPermutation-swap}
use Rattle.weigher.specs.Figure.{InRange}
use Rattle.table.specs.System.{System, Lawful, LawfulLink, size, leads, into}
use Rattle.table.specs.declared.parts.Link.{Link}

-- an element can be put anywhere
shuffled_middle : {X : Type 0} (u v : List X) (a : X) → IsPermutation (a ∷ (u ++ v)) (u ++ a ∷ v)
shuffled_middle [] v a = IsPermutation-refl (a ∷ v)
shuffled_middle (b ∷ u) v a =
    IsPermutation-trans (a ∷ b ∷ (u ++ v)) (b ∷ a ∷ (u ++ v)) (b ∷ (u ++ a ∷ v))
    (IsPermutation-swap (a ∷ b ∷ (u ++ v)) (b ∷ a ∷ (u ++ v)) 0 1 (omega arith) (omega arith) refl)
    (IsPermutation-cons b (a ∷ (u ++ v)) (u ++ a ∷ v) (shuffled_middle u v a))

-- what passes a test is what passes a second one too and what does not
split_kept : (p c : Link → Bool) (xs : List Link) →
    IsPermutation (map (λ k. k.weight) (filter p xs)) (map (λ k. k.weight) (filter (λ k. p k && c k) xs) ++ map (λ k. k.weight) (filter (λ k. p k && not (c k)) xs))
split_kept p c [] = IsPermutation-refl []
split_kept p c (x ∷ xs) = go (p x) (c x) (split_kept p c xs)
  where
    go : (a b : Bool) →
        IsPermutation (map (λ k. k.weight) (filter p xs)) (map (λ k. k.weight) (filter (λ k. p k && c k) xs) ++ map (λ k. k.weight) (filter (λ k. p k && not (c k)) xs)) →
        IsPermutation (map (λ k. k.weight) (cond a (x ∷ filter p xs) (filter p xs))) (map (λ k. k.weight) (cond (a && b) (x ∷ filter (λ k. p k && c k) xs) (filter (λ k. p k && c k) xs)) ++ map (λ k. k.weight) (cond (a && not b) (x ∷ filter (λ k. p k && not (c k)) xs) (filter (λ k. p k && not (c k)) xs)))
    go false b h = h
    go true true h = IsPermutation-cons x.weight _ _ h
    go true false h = IsPermutation-trans _ _ _ (IsPermutation-cons x.weight _ _ h) (shuffled_middle _ _ x.weight)

pub same_kept : {X : Type 0} (p q : X → Bool) (xs : List X) → AllByRecursion (λ k. p k ≡ q k) xs → filter p xs ≡ filter q xs
same_kept p q [] h = refl
same_kept p q (x ∷ xs) h = rw (h.0, same_kept p q xs h.1)

pub none_kept : (p : Link → Bool) (xs : List Link) → AllByRecursion (λ k. p k ≡ false) xs → filter p xs ≡ []
none_kept p [] h = refl
none_kept p (x ∷ xs) h = rw (h.0, none_kept p xs h.1)

and_none : (a b : Bool) → (a && (b && false)) ≡ false
and_none false b = refl
and_none true false = refl
and_none true true = refl

and_regroup : (a b s c : Bool) → ((a && (b && s)) && c) ≡ (a && (b && (s && c)))
and_regroup false b s c = refl
and_regroup true false s c = refl
and_regroup true true s c = refl

module _ (t : System) (lawful : Lawful t) (x l : ℕ) where
  pub into_range : (S : ℕ → Bool) → InRange (into t x l S)
  into_range S = All-map (SFits w32) (λ k. k.weight) (filter (leads x l S) t.links) (all_kept_by (leads x l S) (λ k. SFits w32 k.weight) t.links (All-weaker (LawfulLink (size t)) (λ k. SFits w32 k.weight) (λ k h. h.weight) t.links lawful.links))

  -- the weights depend on the set at the states alone
  pub into_same : (S S' : ℕ → Bool) → ((z : ℕ) → z < size t → S z ≡ S' z) → into t x l S ≡ into t x l S'
  into_same S S' e =
      ap (map (λ k. k.weight)) (same_kept (leads x l S) (leads x l S') t.links
      (All-weaker (LawfulLink (size t)) (λ k. leads x l S k ≡ leads x l S' k) (λ k h. ap (λ b. eqb k.source x && (eqb k.label l && b)) (e k.target h.target)) t.links lawful.links))

  pub into_none : (S : ℕ → Bool) → ((z : ℕ) → z < size t → S z ≡ false) → into t x l S ≡ []
  into_none S e =
      ap (map (λ k. k.weight)) (none_kept (leads x l S) t.links
      (All-weaker (LawfulLink (size t)) (λ k. leads x l S k ≡ false) (λ k h. ap (λ b. eqb k.source x && (eqb k.label l && b)) (e k.target h.target) ∙ and_none (eqb k.source x) (eqb k.label l)) t.links lawful.links))

  -- the weights into a set are, rearranged, those into two parts of it
  pub into_split : (S A B : ℕ → Bool) → (C : ℕ → Bool) → ((z : ℕ) → z < size t → (S z && C z) ≡ A z) → ((z : ℕ) → z < size t → (S z && not (C z)) ≡ B z) → IsPermutation (into t x l S) (into t x l A ++ into t x l B)
  into_split S A B C a b =
      subst (λ w. IsPermutation (into t x l S) (w ++ into t x l B)) (part A C a)
      (subst (λ w. IsPermutation (into t x l S) (map (λ k. k.weight) (filter (λ k. leads x l S k && C k.target) t.links) ++ w)) (part B (λ z. not (C z)) b)
      (split_kept (leads x l S) (λ k. C k.target) t.links))
    where
      part : (P D : ℕ → Bool) → ((z : ℕ) → z < size t → (S z && D z) ≡ P z) → map (λ k. k.weight) (filter (λ k. leads x l S k && D k.target) t.links) ≡ into t x l P
      part P D e =
          ap (map (λ k. k.weight)) (same_kept (λ k. leads x l S k && D k.target) (leads x l P) t.links
          (All-weaker (LawfulLink (size t)) (λ k. (leads x l S k && D k.target) ≡ leads x l P k)
          (λ k h. and_regroup (eqb k.source x) (eqb k.label l) (S k.target) (D k.target) ∙ ap (λ b. eqb k.source x && (eqb k.label l && b)) (e k.target h.target)) t.links lawful.links))
