-- What the inner functions of reading answer.
use Rattle.std.specs.Prelude.{◌≡◌, ℕ, ◌+◌, List, Ok, Err, Result, OnOk}
use Rattle.format.specs.declared.cursor.Cursor.{Cursor}

-- what a definition reads at a cursor
abbrev pub here : {X : Type 0} → (List ℕ → ℕ → ℕ → X) → Cursor → X
here read c = read c.bytes.now c.offset c.item

-- the cursor afterwards: past so many bytes if they were read; the bytes and the item stay
abbrev pub Onward : {X E : Type 0} → Result X E → ℕ → Cursor → Cursor → Type 0
Onward r width old new = (new.bytes.now ≡ old.bytes.now) × (new.item ≡ old.item) × OnOk r (new.offset ≡ old.offset + width)

-- an answer without a value, as a definition says it: P holds of what was read, or the fault is the same
abbrev pub Follows : {X E : Type 0} → Result X E → Result (Unit {0}) E → (X → Type 0) → Type 0
Follows (Ok x) r P = (r ≡ Ok tt) × P x
Follows (Err f) r P = r ≡ Err f
