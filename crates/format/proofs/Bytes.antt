-- Numbers and their bytes, and the fields of a file.
use Rattle.std.proofs.Common.{◌≡◌, ℕ, zero, suc, ◌+◌, ◌*◌, ◌/◌, ◌%◌, ◌^◌, ◌<◌, ◌≤◌, Bool, true, false, cond, List, [], ◌∷◌, ◌++◌, length, take, drop, Ok, Err, Result, sym, refl, ap, ◌∙◌, ap₂, pow-suc, arith}
use Rattle.std.specs.List.{AllByRecursion}
use Rattle.std.proofs.lemmas.List.{append_assoc, drop_at, drop-drop, length-append, length-drop, length-take-le, take-append-drop, take_at}
use Rattle.std.proofs.lemmas.Grind.{common_steps}
use Rattle.std.proofs.ByRecursion.{All-take, All-drop}
use Rattle.format.specs.Walk.{numeral, and_then, field_at}
use Rattle.format.specs.Encode.{bytes_of}

abbrev pub Byte : ℕ → Type 0
Byte b = b < 256

length_bytes_of : (w v : ℕ) → length (bytes_of w v) ≡ w
length_bytes_of zero v = refl
length_bytes_of (suc w) v = ap suc (length_bytes_of w (v / 256))

numeral_bytes_of : (w v : ℕ) → v < 256 ^ w → numeral (bytes_of w v) ≡ v
numeral_bytes_of zero v h = omega arith
numeral_bytes_of (suc w) v h =
    let p = pow-suc 256 w in
    let e = numeral_bytes_of w (v / 256) (omega arith) in
    omega arith

numeral_lt : (bs : List ℕ) → AllByRecursion Byte bs → numeral bs < 256 ^ length bs
numeral_lt [] h = omega arith
numeral_lt (b ∷ bs) h =
    let p = pow-suc 256 (length bs) in
    let l = numeral_lt bs h.1 in
    omega arith

bytes_of_numeral : (bs : List ℕ) → AllByRecursion Byte bs → bytes_of (length bs) (numeral bs) ≡ bs
bytes_of_numeral [] h = refl
bytes_of_numeral (b ∷ bs) h =
    let low : (b + 256 * numeral bs) % 256 ≡ b = omega arith in
    let high : (b + 256 * numeral bs) / 256 ≡ numeral bs = omega arith in
    ap₂ ◌∷◌ low (ap (bytes_of (length bs)) high ∙ bytes_of_numeral bs h.1)

-- a test that did not refuse, and what was read after it
pub passed : {X E G : Type 0} (b : Bool) (f : E) (r : Result X E) (x : X) → cond b (Err f) r ≡ Ok x → (b ≡ false → r ≡ Ok x → G) → G
passed true f r x h k = absurd (cc)
passed false f r x h k = k refl h

-- a step that was read, and what was read after it
pub first_read : {X Y E F G : Type 0} (up : E → F) (r : Result X E) (next : X → Result Y F) (y : Y) → and_then up r next ≡ Ok y → ((x : X) → r ≡ Ok x → next x ≡ Ok y → G) → G
first_read up (Ok x) next y h k = k x refl h
first_read up (Err e) next y h k = absurd (cc)

module _ (bytes : List ℕ) where
  -- one part of the file after another
  pub join : (at mid to : ℕ) (xs ys : List ℕ) → drop at bytes ≡ xs ++ drop mid bytes → drop mid bytes ≡ ys ++ drop to bytes → drop at bytes ≡ (xs ++ ys) ++ drop to bytes
  join at mid to xs ys e f = e ∙ ap (λ zs. xs ++ zs) f ∙ sym (append_assoc xs ys (drop to bytes))

  pub past : (at w to : ℕ) (xs rest : List ℕ) → at + w ≡ to → length xs ≡ w → drop at bytes ≡ xs ++ rest → drop to bytes ≡ rest
  past at w to xs rest t l e = ap (λ k. drop k bytes) (sym t) ∙ sym (drop-drop w at bytes) ∙ ap (drop w) e ∙ drop_at xs rest w l

  pub split : (at w to : ℕ) (xs ys rest : List ℕ) → at + w ≡ to → length xs ≡ w → drop at bytes ≡ (xs ++ ys) ++ rest → (drop at bytes ≡ xs ++ (ys ++ rest)) × (drop to bytes ≡ ys ++ rest)
  split at w to xs ys rest t l e = let f = e ∙ append_assoc xs ys rest in (f, past at w to xs (ys ++ rest) t l f)

  -- a field holds the bytes of what is read, and the bytes of a number are read as it
  pub field_sound : AllByRecursion Byte bytes → (w at to item v : ℕ) → at + w ≡ to → field_at w bytes at item ≡ Ok v → (v < 256 ^ w) × (drop at bytes ≡ bytes_of w v ++ drop to bytes)
  field_sound all w at to item v t h =
      let k : (at + w ≤ length bytes) × (numeral (take w (drop at bytes)) ≡ v) = grind (arith, common_steps) in
      let n : length (take w (drop at bytes)) ≡ w = length-take-le w (drop at bytes) (omega (arith, k.0, length-drop at bytes)) in
      let each = All-take Byte w (drop at bytes) (All-drop Byte at bytes all) in
      let low = numeral_lt (take w (drop at bytes)) each in
      let size : 256 ^ length (take w (drop at bytes)) ≡ 256 ^ w = ap (λ m. 256 ^ m) n in
      let back : bytes_of w v ≡ take w (drop at bytes) = ap₂ bytes_of (sym n) (sym k.1) ∙ bytes_of_numeral (take w (drop at bytes)) each in
      (omega arith, sym (take-append-drop w (drop at bytes)) ∙ ap₂ ◌++◌ (sym back) (drop-drop w at bytes ∙ ap (λ m. drop m bytes) t))

  pub field_complete : (w at item v : ℕ) (rest : List ℕ) → 0 < w → v < 256 ^ w → drop at bytes ≡ bytes_of w v ++ rest → field_at w bytes at item ≡ Ok v
  field_complete w at item v rest some small e =
      let n = length_bytes_of w v in
      let l : length (drop at bytes) ≡ length (bytes_of w v) + length rest = ap length e ∙ length-append (bytes_of w v) rest in
      let whole : field_at w bytes at item ≡ Ok (numeral (take w (drop at bytes))) = let h : at + w ≤ length bytes = omega (arith, length-drop at bytes) in grind (arith, common_steps) in
      whole ∙ ap Ok (ap (λ xs. numeral (take w xs)) e ∙ ap numeral (take_at (bytes_of w v) rest w n) ∙ numeral_bytes_of w v small)
