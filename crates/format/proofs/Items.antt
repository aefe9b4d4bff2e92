-- A state, a link, and the sections of a file.
use Rattle.std.proofs.Common.{◌≡◌, ℕ, zero, suc, ◌+◌, ◌*◌, ◌<◌, ◌≤◌, ltb, List, [], ◌∷◌, ◌++◌, length, drop, ℤ, Ok, Result, sym, refl, ap, ◌∙◌, subst, ap₂, mul-zero, mul-suc, arith, w32, SFits, to_z, of_z}
use mir.Facts.{sfits_to_z, Fits-of_z}
use Rattle.std.specs.List.{flat_map, AllByRecursion}
use Rattle.std.proofs.lemmas.List.{append_assoc, append-nil, length-append}
use Rattle.std.proofs.lemmas.Grind.{common_steps}
use Rattle.std.proofs.lemmas.Int.{of_z-to_z, to_z-of_z}
use Rattle.std.proofs.lemmas.Bool.{le-ltb}
use Rattle.table.specs.System.{LawfulState, LawfulLink}
use Rattle.format.specs.Walk.{and_then, field_at, checked_at, state_fields, states_section, weight_at, link_fields, links_section}
use Rattle.format.specs.Encode.{bytes_of, state_bytes, link_bytes}
use Rattle.fault.specs.declared.SectionFault.{SectionFault}
use Rattle.fault.specs.declared.StatesField.TheVariants.{Count as StatesCount}
use Rattle.fault.specs.declared.LinksField.TheVariants.{Count as LinksCount}
use Rattle.format.proofs.Bytes.{Byte, first_read, join, past, split, field_sound, field_complete}
use Rattle.format.proofs.Walks.{Walks, state_walk, link_walk}

-- a section: the items after their count
abbrev pub section_bytes : {X : Type 0} → (X → List ℕ) → List X → List ℕ
section_bytes write xs = bytes_of 2 (length xs) ++ flat_map write xs

-- a step reads just the items with P, each from the w bytes that write it
record Reads (bytes : List ℕ) {X E : Type 0} (step : List ℕ → ℕ → ℕ → Result X E) (write : X → List ℕ) (w : ℕ) (P : X → Type 0) : Type 0 where
  sound : (at item : ℕ) (x : X) → step bytes at item ≡ Ok x → P x × (drop at bytes ≡ write x ++ drop (at + w) bytes)
  complete : (at item : ℕ) (x : X) (rest : List ℕ) → P x → drop at bytes ≡ write x ++ rest → step bytes at item ≡ Ok x
  sized : (x : X) → length (write x) ≡ w

-- the same of a section, which has no more than most of them
pub record Section (bytes : List ℕ) {X E : Type 0} (r : Result (List X) E) (write : X → List ℕ) (w most at : ℕ) (P : X → Type 0) : Type 0 where
  pub sound : (xs : List X) (to : ℕ) → at + 2 + w * length xs ≡ to → r ≡ Ok xs → (length xs ≤ most) × AllByRecursion P xs × (drop at bytes ≡ section_bytes write xs ++ drop to bytes)
  pub complete : (xs : List X) (to : ℕ) (rest : List ℕ) → at + 2 + w * length xs ≡ to → length xs ≤ most → AllByRecursion P xs → drop at bytes ≡ section_bytes write xs ++ rest → (r ≡ Ok xs) × (drop to bytes ≡ rest)

module _ {bytes : List ℕ} {X F : Type 0} {step : List ℕ → ℕ → ℕ → Result X (SectionFault F)} {write : X → List ℕ} {w : ℕ} {P : X → Type 0} (reads : Reads bytes step write w P)
    {from : List ℕ → ℕ → ℕ → List X → ℕ → Result (List X) (SectionFault F)} (walk : Walks w step from) where
  items_sound : (at item : ℕ) (acc : List X) (left to : ℕ) (res : List X) → at + w * left ≡ to → from bytes at item acc left ≡ Ok res →
      (xs : List X) × (res ≡ acc ++ xs) × (length xs ≡ left) × AllByRecursion P xs × (drop at bytes ≡ flat_map write xs ++ drop to bytes)
  items_sound at item acc zero to res t h =
      let e : acc ≡ res = cc (walk.done bytes at item acc) in
      ([], sym e ∙ sym (append-nil acc), refl, tt, ap (λ k. drop k bytes) (omega (arith, mul-zero w)))
  items_sound at item acc (suc left) to res t h =
      first_read (λ f. f) (step bytes at item) _ res (sym (walk.more bytes at item acc left) ∙ h) λ x e later.
      let one = reads.sound at item x e in
      let r = items_sound (at + w) (item + 1) (acc ++ (x ∷ [])) left to res (omega (arith, mul-suc w left)) later in
      (x ∷ r.0, r.1 ∙ append_assoc acc (x ∷ []) r.0, ap suc r.2, (one.0, r.3), join bytes at (at + w) to (write x) (flat_map write r.0) one.1 r.4)

  items_complete : (at item : ℕ) (acc xs : List X) (rest : List ℕ) → AllByRecursion P xs → drop at bytes ≡ flat_map write xs ++ rest → from bytes at item acc (length xs) ≡ Ok (acc ++ xs)
  items_complete at item acc [] rest h e = walk.done bytes at item acc ∙ ap Ok (sym (append-nil acc))
  items_complete at item acc (x ∷ xs) rest h e =
      let k = split bytes at w (at + w) (write x) (flat_map write xs) rest refl (reads.sized x) e in
      walk.more bytes at item acc (length xs)
      ∙ ap (λ r. and_then (λ f. f) r (λ y. from bytes (at + w) (item + 1) (acc ++ (y ∷ [])) (length xs))) (reads.complete at item x _ h.0 k.0)
      ∙ items_complete (at + w) (item + 1) (acc ++ (x ∷ [])) xs rest h.1 k.1
      ∙ ap Ok (append_assoc acc (x ∷ []) xs)

  items_sized : (xs : List X) → length (flat_map write xs) ≡ w * length xs
  items_sized [] = sym (mul-zero w)
  items_sized (x ∷ xs) = length-append (write x) (flat_map write xs) ∙ omega (arith, reads.sized x, items_sized xs, mul-suc w (length xs))

  section : AllByRecursion Byte bytes → (field : F) (most at : ℕ) → most < 65536 →
      Section bytes (and_then (λ f. f) (checked_at field (ltb most) 2 bytes at 0) (from bytes (at + 2) 1 [])) write w most at P
  section all field most at small = record {
    sound = λ xs to t h.
        first_read (λ f. f) (checked_at field (ltb most) 2 bytes at 0) _ xs h λ count a h.
        let counted : (field_at 2 bytes at 0 ≡ Ok count) × (count ≤ most) = grind (arith, common_steps) in
        let s = items_sound (at + 2) 1 [] count (at + 2 + w * count) xs refl h in
        let n : count ≡ length xs = sym (ap length s.1 ∙ s.2) in
        let first : drop at bytes ≡ bytes_of 2 (length xs) ++ drop (at + 2) bytes = (field_sound bytes all 2 at (at + 2) 0 count refl counted.0).1 ∙ ap (λ m. bytes_of 2 m ++ drop (at + 2) bytes) n in
        let rest : drop (at + 2) bytes ≡ flat_map write xs ++ drop to bytes = s.4 ∙ ap₂ (λ ys m. flat_map write ys ++ drop m bytes) (sym s.1) (ap (λ m. at + 2 + w * m) n ∙ t) in
        (omega (arith, counted.1), subst (AllByRecursion P) (sym s.1) s.3, join bytes at (at + 2) to (bytes_of 2 (length xs)) (flat_map write xs) first rest);
    complete = λ xs to rest t l h e.
        let k = split bytes at 2 (at + 2) (bytes_of 2 (length xs)) (flat_map write xs) rest refl refl e in
        let count = field_complete bytes 2 at 0 (length xs) _ (omega arith) (omega arith) k.0 in (
          rw (count, le-ltb most (length xs) l, items_complete (at + 2) 1 [] xs rest h k.1),
          past bytes (at + 2) (w * length xs) to (flat_map write xs) rest t (items_sized xs) k.1,
        );
  }

module _ (bytes : List ℕ) (all : AllByRecursion Byte bytes) where
  reads_state : Reads bytes state_fields state_bytes 3 LawfulState
  reads_state = record {
    sound = λ at item x h. grind (arith, common_steps, append_assoc, field_sound bytes all 1 at (at + 1) item x.sort refl, field_sound bytes all 2 (at + 1) (at + 3) item x.output (omega arith));
    complete = λ at item x rest p e.
        let k = split bytes at 1 (at + 1) (bytes_of 1 x.sort) (bytes_of 2 x.output) rest refl refl e in
        let sort = field_complete bytes 1 at item x.sort _ (omega arith) (omega (arith, p.sort)) k.0 in
        let output = field_complete bytes 2 (at + 1) item x.output rest (omega arith) p.output k.1 in
        grind (arith, common_steps, p.sort, sort, output);
    sized = λ x. refl;
  }

  -- a weight and its four bytes
  weight_sound : (at item : ℕ) (z : ℤ) → weight_at bytes at item ≡ Ok z → (field_at 4 bytes at item ≡ Ok (of_z w32 z)) × SFits w32 z
  weight_sound at item z h =
      first_read (λ f. f) (field_at 4 bytes at item) (λ v. Ok (to_z w32 v)) z h λ v read h.
      let low = (field_sound bytes all 4 at (at + 4) item v refl read).0 in
      let is : to_z w32 v ≡ z = cc in
      (read ∙ ap Ok (sym (of_z-to_z w32 v low) ∙ ap (of_z w32) is), subst (SFits w32) is (sfits_to_z (record { fits = low })))

  reads_link : (n : ℕ) → n ≤ 1024 → Reads bytes (link_fields n) link_bytes 9 (LawfulLink n)
  reads_link n small = record {
    sound = λ at item x h.
        grind (
          arith,
          common_steps,
          append_assoc,
          weight_sound (at + 3) item x.weight,
          field_sound bytes all 2 at (at + 2) item x.source refl,
          field_sound bytes all 1 (at + 2) (at + 3) item x.label (omega arith),
          field_sound bytes all 4 (at + 3) (at + 7) item (of_z w32 x.weight) (omega arith),
          field_sound bytes all 2 (at + 7) (at + 9) item x.target (omega arith),
        );
    complete = λ at item x rest p e.
        let target : List ℕ = bytes_of 2 x.target in
        let weight : List ℕ = bytes_of 4 (of_z w32 x.weight) in
        let label : List ℕ = bytes_of 1 x.label in
        let a = split bytes at 2 (at + 2) (bytes_of 2 x.source) (label ++ (weight ++ target)) rest refl refl e in
        let b = split bytes (at + 2) 1 (at + 3) label (weight ++ target) rest (omega arith) refl a.1 in
        let c = split bytes (at + 3) 4 (at + 7) weight target rest (omega arith) refl b.1 in
        grind (
          arith,
          common_steps,
          p,
          to_z-of_z w32 x.weight p.weight,
          field_complete bytes 2 at item x.source _ (omega arith) (omega (arith, p.source)) a.0,
          field_complete bytes 1 (at + 2) item x.label _ (omega arith) (omega (arith, p.label)) b.0,
          field_complete bytes 4 (at + 3) item (of_z w32 x.weight) _ (omega arith) (Fits-of_z p.weight).fits c.0,
          field_complete bytes 2 (at + 7) item x.target rest (omega arith) (omega (arith, p.target)) c.1,
        );
    sized = λ x. refl;
  }

  pub states_section_lem : Section bytes (states_section bytes) state_bytes 3 1024 0 LawfulState
  states_section_lem = section reads_state state_walk all StatesCount 1024 0 (omega arith)

  pub links_section_lem : (n at : ℕ) → n ≤ 1024 → Section bytes (links_section n bytes at) link_bytes 9 4096 at (LawfulLink n)
  links_section_lem n at small = section (reads_link n small) (link_walk n) all LinksCount 4096 at (omega arith)
