-- Items one after the other.
use Rattle.std.proofs.Common.{◌≡◌, ℕ, suc, ◌+◌, ◌-◌, ◌<◌, List, [], ◌∷◌, ◌++◌, Ok, Result, refl, ap, ◌∙◌, arith}
use Rattle.format.specs.Walk.{and_then, state_fields, state_items, link_fields, link_items}

-- from reads so many items, each by a step over w bytes, behind those that were read
pub record Walks {X E : Type 0} (w : ℕ) (step : List ℕ → ℕ → ℕ → Result X E) (from : List ℕ → ℕ → ℕ → List X → ℕ → Result (List X) E) : Type 0 where
  pub done : (bytes : List ℕ) (at item : ℕ) (acc : List X) → from bytes at item acc 0 ≡ Ok acc
  pub more : (bytes : List ℕ) (at item : ℕ) (acc : List X) (left : ℕ) → from bytes at item acc (suc left) ≡ and_then (λ f. f) (step bytes at item) (λ x. from bytes (at + w) (item + 1) (acc ++ (x ∷ [])) left)

pub state_walk : Walks 3 state_fields state_items
state_walk = record { done = λ _ _ _ _. refl; more = λ _ _ _ _ _. refl }

pub link_walk : (n : ℕ) → Walks 9 (link_fields n) (link_items n)
link_walk n = record { done = λ _ _ _ _. refl; more = λ _ _ _ _ _. refl }

-- the items from number i on: one, and those after it
pub walk_on : {X E : Type 0} {w : ℕ} {step : List ℕ → ℕ → ℕ → Result X E} {from : List ℕ → ℕ → ℕ → List X → ℕ → Result (List X) E} → Walks w step from →
    (bytes : List ℕ) (at item : ℕ) (acc : List X) (count i : ℕ) → i < count → from bytes at item acc (count - i) ≡ and_then (λ f. f) (step bytes at item) (λ x. from bytes (at + w) (item + 1) (acc ++ (x ∷ [])) (count - (i + 1)))
walk_on {from = from} walk bytes at item acc count i h =
    let one : count - i ≡ suc (count - (i + 1)) = omega arith in
    ap (from bytes at item acc) one ∙ walk.more bytes at item acc (count - (i + 1))
