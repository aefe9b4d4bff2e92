-- The small tables, by computation.
use Rattle.std.proofs.Common.{◌≡◌, ℕ, ◌^◌, ◌<◌, Bool, true, ◌&&◌, ltb, ◌↔◌, List, [], ◌∷◌, IfSome, Some, None, Option, refl, ◌∙◌, subst}
use lib.Signed.{mag}
use Rattle.std.specs.List.{AllByRecursion}
use Rattle.std.specs.Int.{int_wrap}
use Rattle.std.proofs.lemmas.Bool.{and_parts, ltb-true}
use Rattle.weigher.specs.Figure.{Order, Joining}
use Rattle.weigher.specs.Weighers.{reach, greatest, timed}
use Rattle.weigher.specs.Laws.{reach_order, reach_joining, sum_order, sum_joining, greatest_order, greatest_joining, blind_order, blind_joining, by_label_order, by_label_joining}
use Rattle.table.specs.System.{System, Lawful, LawfulState, LawfulLink, Settled, size}
use Rattle.table.specs.Numbering.{first, earliest, how_many, smallest, is_smallest, group_number, group_count, group_numbers}
use Rattle.table.specs.Folding.{smallests, redirected, links_from, folded}
use Rattle.table.specs.declared.parts.State.{State}
use Rattle.table.specs.declared.parts.Link.{Link}
use Rattle.theory.specs.Rounds.{each_below, number_in, alike, still, grouped, round}
use Rattle.theory.specs.Worked.{Case, Shows, Worked, cases}
use Rattle.theory.proofs.Rounds.{rounds_settle}
use Rattle.theory.proofs.Kernels.{unique, same_count, same_numbers, same_folded}

-- tests for a lawful table
abbrev each : {X : Type 0} → (X → Bool) → List X → Bool
each p [] = true
each p (x ∷ xs) = p x && each p xs

abbrev good_state : State → Bool
good_state s = ltb s.sort 4 && ltb s.output (2 ^ 16)

abbrev good_link : ℕ → Link → Bool
good_link n k = (ltb k.source n && ltb k.label 64) && (ltb (mag k.weight) (2 ^ 31) && ltb k.target n)

all_each : {X : Type 0} (p : X → Bool) (P : X → Type 0) → ((x : X) → p x ≡ true → P x) → (xs : List X) → each p xs ≡ true → AllByRecursion P xs
all_each p P h [] e = tt
all_each p P h (x ∷ xs) e = (h x (and_parts (p x) (each p xs) e).0, all_each p P h xs (and_parts (p x) (each p xs) e).1)

tested : (t : System) → (each good_state t.states && each (good_link (size t)) t.links) ≡ true → Lawful t
tested t e = record {
  states = all_each good_state LawfulState (λ s h. let p = and_parts _ _ h in record { sort = ltb-true _ _ p.0; output = ltb-true _ _ p.1 }) t.states (and_parts _ _ e).0;
  links = all_each (good_link (size t)) (LawfulLink (size t)) (λ k h.
      let p = and_parts _ _ h in
      let a = and_parts _ _ p.0 in
      let b = and_parts _ _ p.1 in
      record { source = ltb-true _ _ a.0; label = ltb-true _ _ a.1; weight = record { sfits = ltb-true _ _ b.0 }; target = ltb-true _ _ b.1 }) t.links (and_parts _ _ e).1;
}

-- a case from its last round, as a list
module _ (e : Case) (lawful : Lawful e.system) (order : Order e.figure) (joining : Joining e.figure) (r : List ℕ) (is : round e.figure e.system (size e.system) ≡ r) where
  settled : Settled e.figure e.system (number_in r)
  settled = subst (λ u. Settled e.figure e.system (number_in u)) is (rounds_settle e.figure order joining e.system lawful)

  same : (g : ℕ → ℕ) → Settled e.figure e.system g → (x y : ℕ) → x < size e.system → y < size e.system → (g x ≡ g y) ↔ (number_in r x ≡ number_in r y)
  same g s = unique e.figure e.system g (number_in r) s settled

  by_fold : (o : Option System) → IfSome o (λ t. folded (number_in r) e.system ≡ t) → IfSome o (λ t. (g : ℕ → ℕ) → Settled e.figure e.system g → folded g e.system ≡ t)
  by_fold None h = tt
  by_fold (Some t) h = λ g s. same_folded e.system lawful g (number_in r) (same g s) ∙ h

  shows : group_count (number_in r) (size e.system) ≡ e.count → group_numbers (number_in r) (size e.system) ≡ e.groups → IfSome e.fold (λ t. folded (number_in r) e.system ≡ t) → Shows e
  shows count groups fold = record {
    lawful = lawful;
    order = order;
    joining = joining;
    some = (number_in r, settled);
    count = λ g s. same_count g (number_in r) (size e.system) (same g s) ∙ count;
    groups = λ g s. same_numbers g (number_in r) (size e.system) (same g s) ∙ groups;
    fold = by_fold e.fold fold;
  }

timed_order : Order timed
timed_order = by_label_order 48 reach greatest reach_order greatest_order

timed_joining : Joining timed
timed_joining = by_label_joining 48 reach greatest reach_joining greatest_joining

infixr 10 ◌also◌
◌also◌ : {A B : Type 0} → A → B → A × B
a also b = (a, b)

pub worked : Worked
unfolding first earliest how_many smallest is_smallest group_number group_count group_numbers smallests redirected links_from folded each_below alike still grouped round int_wrap cases
worked =
    shows _ (tested _ refl) reach_order reach_joining [] refl refl refl refl
    also shows _ (tested _ refl) reach_order reach_joining (0 ∷ []) refl refl refl tt
    also shows _ (tested _ refl) reach_order reach_joining (0 ∷ 0 ∷ 2 ∷ 3 ∷ []) refl refl refl refl
    also shows _ (tested _ refl) blind_order blind_joining (0 ∷ 0 ∷ 0 ∷ 3 ∷ []) refl refl refl tt
    also shows _ (tested _ refl) reach_order reach_joining (0 ∷ 0 ∷ []) refl refl refl refl
    also shows _ (tested _ refl) reach_order reach_joining (0 ∷ 0 ∷ 2 ∷ []) refl refl refl tt
    also shows _ (tested _ refl) greatest_order greatest_joining (0 ∷ 0 ∷ 2 ∷ []) refl refl refl tt
    also shows _ (tested _ refl) sum_order sum_joining (0 ∷ 1 ∷ 2 ∷ []) refl refl refl tt
    also shows _ (tested _ refl) sum_order sum_joining (0 ∷ 0 ∷ 2 ∷ []) refl refl refl tt
    also shows _ (tested _ refl) reach_order reach_joining (0 ∷ 1 ∷ 2 ∷ []) refl refl refl tt
    also shows _ (tested _ refl) greatest_order greatest_joining (0 ∷ 1 ∷ 2 ∷ []) refl refl refl tt
    also shows _ (tested _ refl) reach_order reach_joining (0 ∷ 1 ∷ 2 ∷ []) refl refl refl tt
    also shows _ (tested _ refl) sum_order sum_joining (0 ∷ 0 ∷ 2 ∷ []) refl refl refl tt
    also shows _ (tested _ refl) sum_order sum_joining (0 ∷ 0 ∷ 2 ∷ 2 ∷ []) refl refl refl tt
    also shows _ (tested _ refl) timed_order timed_joining (0 ∷ 1 ∷ 2 ∷ []) refl refl refl tt
    also shows _ (tested _ refl) timed_order timed_joining (0 ∷ 0 ∷ 2 ∷ []) refl refl refl tt
    also shows _ (tested _ refl) blind_order blind_joining (0 ∷ 1 ∷ []) refl refl refl tt
    also tt
