-- Texts laid over a buffer.
use Rattle.std.proofs.Common.{◌≡◌, ℕ, suc, ◌+◌, ◌≤◌, List, [], ◌∷◌, ◌++◌, length, take, drop, set, IsErrAnd, Ok, Err, Result, refl, arith}
use Rattle.std.proofs.lemmas.List.{length-append, length-set, set_past, drop-set-lt, take-append-drop, append_assoc}
use Rattle.std.proofs.lemmas.Grind.{take-set_at}
use Rattle.std.proofs.lemmas.Result.{err_from_is_err_and}
use Rattle.std.proofs.lemmas.Bool.Decides.{nat_tests}
use Rattle.std.specs.Borrow.{MutBor}
use Rattle.table.specs.declared.parts.Refusal.{Refusal}
use Rattle.text.specs.declared.buffer.Buffer.{Buffer}
use Rattle.text.specs.declared.buffer.Mode.TheVariants.{Write}
use Rattle.text.specs.Buffer.{laid, Wrote, whole_answer, whole_buffer}

pub laid_append : (xs : List ℕ) (i : ℕ) (ps bs : List ℕ) → laid xs i (ps ++ bs) ≡ laid (laid xs i ps) (i + length ps) bs
unfolding laid
laid_append xs i [] bs = grind arith
laid_append xs i (a ∷ ps) bs = grind (arith, laid_append (set xs i a) (suc i) ps bs)

pub laid_past : (xs : List ℕ) (i : ℕ) (bs : List ℕ) → length xs ≤ i → laid xs i bs ≡ xs
unfolding laid
laid_past xs i [] h = refl
laid_past xs i (b ∷ bs) h = grind (arith, set_past, laid_past (set xs i b) (suc i) bs, length-set)

pub length_laid : (xs : List ℕ) (i : ℕ) (bs : List ℕ) → length (laid xs i bs) ≡ length xs
unfolding laid
length_laid xs i [] = refl
length_laid xs i (b ∷ bs) = grind (arith, length_laid (set xs i b) (suc i) bs, length-set)

-- a part after another, and the exit of a `?`: with `laid` unfolded, the check then finds that a text in parts was written
pub ruleset laying = (laid_append, laid_past, length_laid, length-append, append_assoc, length-set, set_past, nat_tests)

-- after one part, another
pub wrote_then : {a b c : Buffer} {ps bs : List ℕ} {r : Result (Unit {0}) Refusal} → Wrote a ps (Ok tt) b → Wrote b bs r c → Wrote a (ps ++ bs) r c
unfolding laid
wrote_then {a} {b} {c} {ps} {bs} {r} p q = grind (arith, laying)

-- the exit of a `?`, which leaves out the rest bs
pub wrote_exit : {a b : Buffer} {ps : List ℕ} {e : Refusal} {r : Result (Unit {0}) Refusal} (bs : List ℕ) → Wrote a ps (Err e) b → IsErrAnd r (λ y. y ≡ e) → Wrote a (ps ++ bs) r b
unfolding laid
wrote_exit {a} {b} {ps} {e} {r} bs p h =
    let q = err_from_is_err_and r h in
    let is = q.1 in
    let same = q.2 in
    grind (arith, laying)

laid_between : (text xs : List ℕ) (i : ℕ) → i + length text ≤ length xs → laid xs i text ≡ take i xs ++ (text ++ drop (i + length text) xs)
unfolding laid
laid_between [] xs i h = grind (arith, take-append-drop)
laid_between (b ∷ text) xs i h = grind (arith, laid_between text (set xs i b) (suc i), take-set_at xs i (suc i) b, drop-set-lt (i + suc (length text)) xs i b, length-set, append_assoc)

-- a text that fits stands at the front of the buffer, and its length is the answer
pub wrote_whole : {a b : Buffer} {out : MutBor (List ℕ)} {text : List ℕ} → a ≡ record { out = out; len = 0; mode = Write } → Wrote a text (Ok tt) b → (Ok b.len ≡ whole_answer out.now text) × (b.out.now ≡ whole_buffer out.now text)
wrote_whole {a} {b} {out} {text} e p = let q = rw e at p in (grind (arith, nat_tests), grind (arith, nat_tests, laid_between text out.now 0))
