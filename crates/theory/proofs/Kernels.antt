-- Group numbers and the folded table depend on which states are together, and on nothing else of a grouping.
use Rattle.std.proofs.Common.{◌≡◌, ℕ, ◌<◌, ◌≤◌, eqb, ◌↔◌, List, [], ◌∷◌, map, refl, ap, ◌∙◌, ap₂, arith}
use Rattle.std.specs.List.{range_with_len, flat_map, AllByRecursion}
use Rattle.std.proofs.lemmas.List.FromFn.{length-range_with_len, get_or-range_with_len}
use Rattle.std.proofs.ByRecursion.{All-from_get_or, All-weaker, all_kept_by}
use Rattle.table.specs.System.{System, Lawful, LawfulLink, size, state_at}
use Rattle.table.specs.Numbering.{how_many, smallest, is_smallest, group_number, group_count, group_numbers}
use Rattle.table.specs.Folding.{smallests, redirected, links_from, folded}
use Rattle.table.specs.declared.parts.Link.{Link}
use Rattle.theory.specs.Theorems.{Unique}
use Rattle.theory.proofs.Weights.{same_kept}
use Rattle.theory.proofs.Counts.{count_like}
use Rattle.theory.proofs.Groups.{smallest_like, smallest_least}

pub unique : Unique
unique fig t g h p q x y xl yl = (q.1 g p.0 x y xl yl, p.1 h q.0 x y xl yl)

same_map : {X Y : Type 0} (f h : X → Y) (xs : List X) → AllByRecursion (λ x. f x ≡ h x) xs → map f xs ≡ map h xs
same_map f h [] e = refl
same_map f h (x ∷ xs) e = ap₂ ◌∷◌ e.0 (same_map f h xs e.1)

counting_below : (n : ℕ) → AllByRecursion (λ x. x < n) (range_with_len 0 n)
counting_below n = All-from_get_or (λ x. x < n) (range_with_len 0 n) 0 (λ i l. omega (arith, get_or-range_with_len 0 n i 0 (omega (arith, length-range_with_len 0 n)), length-range_with_len 0 n))

smallest_under : (g h : ℕ → ℕ) (n : ℕ) → ((x y : ℕ) → x < n → y < n → h x ≡ h y → g x ≡ g y) → (x : ℕ) → x < n → smallest g x ≤ smallest h x
smallest_under g h n same x l = smallest_least g x (smallest h x) (same (smallest h x) x (omega (arith, smallest_least h x x refl)) l (smallest_like h x))

module _ (g h : ℕ → ℕ) (n : ℕ) (same : (x y : ℕ) → x < n → y < n → (g x ≡ g y) ↔ (h x ≡ h y)) where
  pub same_smallest : (x : ℕ) → x < n → smallest g x ≡ smallest h x
  same_smallest x l = omega (arith, smallest_under g h n (λ u v ul vl. (same u v ul vl).1) x l, smallest_under h g n (λ u v ul vl. (same u v ul vl).0) x l)

  same_is : (x : ℕ) → x < n → is_smallest g x ≡ is_smallest h x
  unfolding is_smallest
  same_is x l = ap (λ s. eqb s x) (same_smallest x l)

  pub same_count : group_count g n ≡ group_count h n
  unfolding group_count
  same_count = count_like (is_smallest g) (is_smallest h) n same_is

  pub same_number : (x : ℕ) → x < n → group_number g x ≡ group_number h x
  unfolding group_number
  same_number x l =
      ap (how_many (is_smallest g)) (same_smallest x l)
      ∙ count_like (is_smallest g) (is_smallest h) (smallest h x) (λ z zl. same_is z (omega (arith, smallest_least h x x refl)))

  pub same_numbers : group_numbers g n ≡ group_numbers h n
  unfolding group_numbers
  same_numbers = same_map (group_number g) (group_number h) (range_with_len 0 n) (All-weaker (λ x. x < n) (λ x. group_number g x ≡ group_number h x) same_number (range_with_len 0 n) (counting_below n))

  pub same_smallests : smallests g n ≡ smallests h n
  unfolding smallests
  same_smallests = same_kept (is_smallest g) (is_smallest h) (range_with_len 0 n) (All-weaker (λ x. x < n) (λ x. is_smallest g x ≡ is_smallest h x) same_is (range_with_len 0 n) (counting_below n))

module _ (t : System) (lawful : Lawful t) (g h : ℕ → ℕ) (same : (x y : ℕ) → x < size t → y < size t → (g x ≡ g y) ↔ (h x ≡ h y)) where
  same_redirected : (k : Link) → LawfulLink (size t) k → redirected g k ≡ redirected h k
  unfolding redirected
  same_redirected k l =
      ap₂ (λ a b. record { source = a; label = k.label; weight = k.weight; target = b })
      (same_number g h (size t) same k.source l.source) (same_number g h (size t) same k.target l.target)

  same_links : (x : ℕ) → map (redirected g) (links_from t x) ≡ map (redirected h) (links_from t x)
  unfolding links_from
  same_links x =
      same_map (redirected g) (redirected h) (links_from t x)
      (All-weaker (LawfulLink (size t)) (λ k. redirected g k ≡ redirected h k) same_redirected (links_from t x)
      (all_kept_by (λ k. eqb k.source x) (LawfulLink (size t)) t.links lawful.links))

  pub same_folded : folded g t ≡ folded h t
  unfolding folded
  same_folded =
      ap₂ (λ (ss : List ℕ) (f : ℕ → List Link). record { states = map (state_at t) ss; links = flat_map f ss })
      (same_smallests g h (size t) same) (λ i x. same_links x i)
