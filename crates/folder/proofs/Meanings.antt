-- What the answers of a sound table mean.
use Rattle.std.proofs.Common.{◌≡◌, ℕ, ◌<◌, true, cond, leb, List, Some, None, Ok, Err, Option, Result, sym, refl, ap, ◌∙◌, inl, inr}
use Rattle.std.proofs.lemmas.Bool.{both_ways, cases_lt, cond-true, cond-false, le-leb, lt-leb}
use Rattle.weigher.specs.Figure.{Figure}
use Rattle.table.specs.System.{System, Settled, size}
use Rattle.table.specs.Numbering.{group_number, group_count}
use Rattle.table.specs.declared.parts.Node.{Node}
use Rattle.table.specs.declared.parts.Refusal.{Refusal}
use Rattle.table.specs.declared.parts.Refusal.TheVariants.{NoSuchNumber}
use Rattle.theory.specs.Rounds.{number_in}
use Rattle.theory.proofs.Kernels.{unique, same_number, same_count}
use Rattle.settle.specs.Grouped.{Grouped}
use Rattle.settle.proofs.Groupings.{number_in_lem}
use Rattle.folder.specs.View.{Settlement, Sound}
use Rattle.folder.specs.Calls.{when_settled, groups_of, CountMeans, GroupMeans}

module _ (fig : Figure) (t : System) (groups : List ℕ) (count : ℕ) (nodes : List Node) (h : Grouped fig t groups count nodes) (g : ℕ → ℕ) (s : Settled fig t g) where
  number_means : (x : ℕ) → x < size t → number_in groups x ≡ group_number g x
  number_means x l =
      ap (λ gs. number_in gs x) h.numbered ∙ number_in_lem (number_in groups) (size t) x l
      ∙ same_number (number_in groups) g (size t) (unique fig t (number_in groups) g h.settled s) x l

  count_is : count ≡ group_count g (size t)
  count_is = h.counted ∙ same_count (number_in groups) g (size t) (unique fig t (number_in groups) g h.settled s)

pub count_means : (fig : Figure) (t : System) (o : Option Settlement) (r : Option ℕ) → r ≡ groups_of o → Sound fig t o → CountMeans fig t r
count_means fig t (Some s) r f h n e g q = let c : s.count ≡ n = cc in sym c ∙ count_is fig t s.groups s.count s.nodes h.0 g q
count_means fig t None r f h n e g q = absurd (both_ways true (cc) refl)

pub group_means : (fig : Figure) (t : System) (x : ℕ) (o : Option Settlement) (r : Result ℕ Refusal) →
    r ≡ when_settled o (λ s. cond (leb (size t) x) (Err NoSuchNumber) (Ok (number_in s.groups x))) → Sound fig t o → GroupMeans fig t x r
group_means fig t x (Some s) r f h n e g q = elim (cases_lt x (size t)) [
  | inl l ↦
      let here : cond (leb (size t) x) (Err NoSuchNumber) (Ok (number_in s.groups x)) ≡ Ok (number_in s.groups x) = cond-false (leb (size t) x) (Err NoSuchNumber) (Ok (number_in s.groups x)) (lt-leb _ _ l) in
      let c : number_in s.groups x ≡ n = cc in
      sym c ∙ number_means fig t s.groups s.count s.nodes h.0 g q x l
  | inr l ↦
      let gone : cond (leb (size t) x) (Err NoSuchNumber) (Ok (number_in s.groups x)) ≡ Err NoSuchNumber = cond-true (leb (size t) x) (Err NoSuchNumber) (Ok (number_in s.groups x)) (le-leb _ _ l) in
      absurd (both_ways true (cc) refl)
]
group_means fig t x None r f h n e g q = absurd (both_ways true (cc) refl)
