-- The answer to a file, in the words of the format.
use Rattle.std.proofs.Common.{◌≡◌, ℕ, ◌<◌, ◌↔◌, List, get_or, Ok, Err, Result, sym, refl, ap, ◌∙◌, w8, Fits}
use Rattle.std.specs.List.{AllByRecursion}
use Rattle.std.proofs.ByRecursion.{All-from_get_or}
use Rattle.table.specs.System.{System}
use Rattle.format.specs.Answers.{answer_of, system_in}
use Rattle.format.specs.Encode.{FileOf}
use Rattle.format.specs.Walk.{decode}
use Rattle.fault.specs.declared.TableFault.{TableFault}
use Rattle.format.proofs.Accepted.{accepts}

module _ (bytes : List ℕ) (fits : (i : ℕ) → Fits w8 (get_or bytes i 0)) where
  all : AllByRecursion (λ b. b < 256) bytes
  all = All-from_get_or (λ b. b < 256) bytes 0 (λ i l. (fits i).fits)

  pub answered : (r : Result (Unit {0}) TableFault) (s : System) → r ≡ answer_of (decode bytes) → s ≡ system_in (decode bytes) → (t : System) → ((r ≡ Ok tt) × (s ≡ t)) ↔ FileOf t bytes
  answered r s a b t = go (decode bytes) refl
    where
      go : (d : Result System TableFault) → decode bytes ≡ d → ((r ≡ Ok tt) × (s ≡ t)) ↔ FileOf t bytes
      go (Ok u) e = (
        λ h. (accepts bytes all t).0 (e ∙ ap Ok (sym (b ∙ ap system_in e) ∙ h.1)),
        λ f. let q : u ≡ t = cc (e, (accepts bytes all t).1 f) in (a ∙ ap answer_of e, b ∙ ap system_in e ∙ q),
      )
      go (Err x) e = (λ h. absurd (cc (h.0, a, ap answer_of e)), λ f. absurd (cc (e, (accepts bytes all t).1 f)))
