-- Past the longest file, what follows changes no answer.
use Rattle.std.proofs.Common.{◌≡◌, ℕ, zero, suc, ◌+◌, ◌*◌, ◌<◌, ◌≤◌, ltb, List, [], ◌∷◌, ◌++◌, length, Ok, Err, Result, sym, refl, ap, ◌∙◌, mul-le-mul_left, mul-suc, arith}
use Rattle.std.proofs.lemmas.List.{length-append, length_push}
use Rattle.std.proofs.lemmas.Bool.{lt-ltb}
use Rattle.std.proofs.lemmas.Grind.{common_steps}
use Rattle.format.specs.Walk.{and_then, field_at, checked_at, state_fields, states_section, states_end, link_fields, links_section, links_end, decode}
use Rattle.fault.specs.declared.SectionFault.{SectionFault}
use Rattle.fault.specs.declared.StatesField.TheVariants.{Count as StatesCount}
use Rattle.fault.specs.declared.LinksField.TheVariants.{Count as LinksCount}
use Rattle.fault.specs.declared.TableFault.TheVariants.{States, Links}
use Rattle.format.proofs.Bytes.{first_read}
use Rattle.format.proofs.Walks.{Walks, state_walk, link_walk}

-- two steps that read the same, and go on alike
then_same : {X Y E F : Type 0} (up : E → F) (r r' : Result X E) (next next' : X → Result Y F) → r ≡ r' → ((x : X) → r' ≡ Ok x → next x ≡ next' x) → and_then up r next ≡ and_then up r' next'
then_same up r (Ok x) next next' e k = ap (λ q. and_then up q next) e ∙ k x refl
then_same up r (Err f) next next' e k = ap (λ q. and_then up q next) e

module _ (bytes more : List ℕ) where
  field_same : (w at item : ℕ) → at + w ≤ length bytes → field_at w (bytes ++ more) at item ≡ field_at w bytes at item
  field_same w at item h = grind (arith, common_steps)

  state_same : (at item : ℕ) → at + 3 ≤ length bytes → state_fields (bytes ++ more) at item ≡ state_fields bytes at item
  state_same at item h = rw (field_same 1 at item (omega arith), field_same 2 (at + 1) item (omega arith))

  link_same : (n at item : ℕ) → at + 9 ≤ length bytes → link_fields n (bytes ++ more) at item ≡ link_fields n bytes at item
  link_same n at item h =
      rw (field_same 2 at item (omega arith), field_same 1 (at + 2) item (omega arith), field_same 4 (at + 3) item (omega arith), field_same 2 (at + 7) item (omega arith))

  -- items of w bytes each
  module _ {X F : Type 0} {w : ℕ} {step : List ℕ → ℕ → ℕ → Result X (SectionFault F)} {from : List ℕ → ℕ → ℕ → List X → ℕ → Result (List X) (SectionFault F)} (walk : Walks w step from)
      (step_same : (at item : ℕ) → at + w ≤ length bytes → step (bytes ++ more) at item ≡ step bytes at item) where
    items_same : (at item : ℕ) (acc : List X) (left : ℕ) → at + w * left ≤ length bytes → from (bytes ++ more) at item acc left ≡ from bytes at item acc left
    items_same at item acc zero h = walk.done (bytes ++ more) at item acc ∙ sym (walk.done bytes at item acc)
    items_same at item acc (suc left) h =
        let m = mul-suc w left in
        walk.more (bytes ++ more) at item acc left
        ∙ then_same (λ f. f) (step (bytes ++ more) at item) (step bytes at item) _ _ (step_same at item (omega arith)) (λ x _. items_same (at + w) (item + 1) (acc ++ (x ∷ [])) left (omega arith))
        ∙ sym (walk.more bytes at item acc left)

    items_many : (at item : ℕ) (acc : List X) (left : ℕ) (res : List X) → from bytes at item acc left ≡ Ok res → length res ≡ length acc + left
    items_many at item acc zero res h = let e : acc ≡ res = cc (walk.done bytes at item acc) in omega (arith, ap length e)
    items_many at item acc (suc left) res h =
        first_read (λ f. f) (step bytes at item) _ res (sym (walk.more bytes at item acc left) ∙ h) λ x e later.
        omega (arith, items_many (at + w) (item + 1) (acc ++ (x ∷ [])) left res later, length_push acc x)

    section_same : (field : F) (most at : ℕ) → at + 2 + w * most ≤ length bytes →
        let section : List ℕ → Result (List X) (SectionFault F) = λ bs. and_then (λ f. f) (checked_at field (ltb most) 2 bs at 0) (from bs (at + 2) 1 []) in
        (section (bytes ++ more) ≡ section bytes) × ((xs : List X) → section bytes ≡ Ok xs → length xs ≤ most)
    section_same field most at h =
        let few : (count : ℕ) → checked_at field (ltb most) 2 bytes at 0 ≡ Ok count → count ≤ most = λ count e. grind (arith, common_steps) in (
          then_same (λ f. f) (checked_at field (ltb most) 2 (bytes ++ more) at 0) (checked_at field (ltb most) 2 bytes at 0) _ _ (rw (field_same 2 at 0 (omega arith))) λ count e.
              items_same (at + 2) 1 [] count (omega (arith, mul-le-mul_left w (few count e))),
          λ xs e.
              first_read (λ f. f) (checked_at field (ltb most) 2 bytes at 0) _ xs e λ count a e.
              omega (arith, few count a, items_many (at + 2) 1 [] count xs e),
        )

pub longest : (bytes more : List ℕ) → 39940 < length bytes → decode (bytes ++ more) ≡ decode bytes
longest bytes more h =
    let s = section_same bytes more state_walk (state_same bytes more) StatesCount 1024 0 (omega arith) in
    then_same States (states_section (bytes ++ more)) (states_section bytes) _ _ s.0 λ states a.
    let n : ℕ = length states in
    let few : n ≤ 1024 = s.1 states a in
    let k = section_same bytes more (link_walk n) (link_same bytes more n) LinksCount 4096 (states_end n) (omega arith) in
    then_same Links (links_section n (bytes ++ more) (states_end n)) (links_section n bytes (states_end n)) _ _ k.0 λ links b.
    let end : ℕ = links_end n (length links) in
    let short : end ≤ 39940 = omega (arith, k.1 links b) in
    rw (lt-ltb end (length bytes) (omega arith), lt-ltb end (length (bytes ++ more)) (omega (arith, length-append bytes more)))
