-- How the nodes and their slack change.
use Rattle.std.proofs.Common.{◌≡◌, ℕ, zero, suc, ◌+◌, ◌-◌, ◌<◌, false, cond, List, [], ◌∷◌, ◌++◌, length, set, sym, ap, ◌∙◌, inl, inr, arith}
use Rattle.std.proofs.lemmas.List.{get_or-set_same, get_or-set_other}
use Rattle.std.proofs.lemmas.Bool.{cases_eq, true≢false}
use Rattle.partition.specs.Stretches.{stretch_at, marked, slack, slack_of, blank}
use Rattle.partition.specs.Cuts.{mark_at}
use Rattle.partition.specs.declared.stretch.Stretch.{Stretch}

pub slack_push : (ts : List Stretch) (t : Stretch) → slack (ts ++ t ∷ []) ≡ slack ts + slack_of t
slack_push [] t = omega arith
slack_push (u ∷ ts) t = omega (arith, slack_push ts t)

slack_set : (ts : List Stretch) (b : ℕ) (t : Stretch) → b < length ts → slack (set ts b t) + slack_of (stretch_at ts b) ≡ slack ts + slack_of t
slack_set [] b t l = absurd (omega arith)
slack_set (u ∷ ts) zero t l = omega arith
slack_set (u ∷ ts) (suc b) t l = let h = slack_set ts b t (omega arith) in omega arith

pub slack_mark : (ts : List Stretch) (b : ℕ) → b < length ts → (stretch_at ts b).split ≡ false → (stretch_at ts b).start < (stretch_at ts b).end → slack (mark_at ts b) + (stretch_at ts b).end ≡ slack ts + (stretch_at ts b).start + 1
slack_mark ts b l s f =
    let h = slack_set ts b (marked (stretch_at ts b)) l in
    let q : slack_of (stretch_at ts b) ≡ (stretch_at ts b).end - (stretch_at ts b).start - 1 = ap (λ z. cond z 0 ((stretch_at ts b).end - (stretch_at ts b).start - 1)) s in
    omega arith

module _ (ts : List Stretch) (leaf : ℕ) (l : leaf < length ts) where
  pub mark_other : (b : ℕ) → (b ≡ leaf → ⊥) → stretch_at (mark_at ts leaf) b ≡ stretch_at ts b
  mark_other b ne = get_or-set_other ts leaf b (marked (stretch_at ts leaf)) blank ne

  pub mark_same : stretch_at (mark_at ts leaf) leaf ≡ marked (stretch_at ts leaf)
  mark_same = get_or-set_same ts leaf (marked (stretch_at ts leaf)) blank l

  pub mark_keeps : {A : Type 0} (f : Stretch → A) → ((t : Stretch) → f (marked t) ≡ f t) → (b : ℕ) → f (stretch_at (mark_at ts leaf) b) ≡ f (stretch_at ts b)
  mark_keeps f h b = elim (cases_eq b leaf) [
    | inl e ↦ ap (λ n. f (stretch_at (mark_at ts leaf) n)) e ∙ ap f mark_same ∙ h (stretch_at ts leaf) ∙ sym (ap (λ n. f (stretch_at ts n)) e)
    | inr ne ↦ ap f (mark_other b ne)
  ]

  -- what is not split was not, and is another
  pub mark_left : (b : ℕ) → (stretch_at (mark_at ts leaf) b).split ≡ false → b ≡ leaf → ⊥
  mark_left b s e = true≢false (sym (ap (λ t. t.split) mark_same) ∙ sym (ap (λ n. (stretch_at (mark_at ts leaf) n).split) e) ∙ s)
