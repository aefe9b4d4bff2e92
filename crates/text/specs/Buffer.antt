-- Text that is laid over a lent buffer.
use Rattle.std.specs.Prelude.{◌≡◌, ℕ, suc, ◌+◌, ◌-◌, cond, List, [], ◌∷◌, ◌++◌, length, drop, Ok, Err, Result, nat_le, slice_set}
use Rattle.table.specs.declared.parts.Refusal.{Refusal}
use Rattle.table.specs.declared.parts.Refusal.TheVariants.{NoRoom}
use Rattle.text.specs.declared.buffer.Buffer.{Buffer}
use Rattle.text.specs.declared.buffer.Mode.{Mode}
use Rattle.text.specs.declared.buffer.Mode.TheVariants.{Write, Measure}

-- a text laid over a buffer from a place on: what does not fit is left out
unfoldable pub laid : List ℕ → ℕ → List ℕ → List ℕ
laid buffer at [] = buffer
laid buffer at (b ∷ text) = laid (slice_set buffer at b) (suc at) text

-- whether n more bytes fit into a buffer of so many bytes, from a place on
abbrev pub fits_at : ℕ → ℕ → ℕ → Result (Unit {0}) Refusal
fits_at size at n = cond (nat_le n (size - at)) (Ok tt) (Err NoRoom)

-- how far a writer is after n bytes, of which as many count as fit
abbrev pub stands_at : ℕ → ℕ → ℕ → ℕ
stands_at size at n = at + cond (nat_le n (size - at)) n (size - at)

-- what is written, or else what was there
abbrev pub by_mode : Mode → List ℕ → List ℕ → List ℕ
by_mode Write new old = new
by_mode Measure new old = old

-- a text was written as far as it fits, or measured alone: the buffer before, the answer, and the buffer after
pub record Wrote (before : Buffer) (text : List ℕ) (r : Result (Unit {0}) Refusal) (after : Buffer) : Type 0 where
  pub bytes : after.out.now ≡ by_mode before.mode (laid before.out.now before.len text) before.out.now
  pub answer : r ≡ fits_at (length before.out.now) before.len (length text)
  pub counted : after.len ≡ stands_at (length before.out.now) before.len (length text)
  pub mode : after.mode ≡ before.mode
  pub same : after.out.ghost_name ≡ before.out.ghost_name

-- the answer of a writer that writes all of a text or nothing: its length, or a refusal
abbrev pub whole_answer : List ℕ → List ℕ → Result ℕ Refusal
whole_answer buffer text = cond (nat_le (length text) (length buffer)) (Ok (length text)) (Err NoRoom)

-- the buffer afterwards: the text and then the old bytes, or the old bytes alone
abbrev pub whole_buffer : List ℕ → List ℕ → List ℕ
whole_buffer buffer text = cond (nat_le (length text) (length buffer)) (text ++ drop (length text) buffer) buffer
