-- What the rounds are, and that as many as there are states are enough.
use Rattle.std.proofs.Common.{◌≡◌, ℕ, zero, suc, ◌<◌, ◌≤◌, Bool, true, false, eqb, ◌⊎◌, ◌↔◌, [], length, ℤ, pos, negsuc, Decides, sym, refl, ap, ◌∙◌, subst, inl, inr, arith}
use Rattle.std.proofs.lemmas.List.FromFn.{get_or-map-range_with_len, length-map-range_with_len}
use Rattle.std.proofs.lemmas.List.{ext_get_or}
use Rattle.std.proofs.lemmas.Bool.{cases_lt, both_ways, eqb-true, eq-eqb, ne_eqb}
use Rattle.std.proofs.lemmas.Bool.Decides.{Decides-eqb, Decides-and, Decides-below_and}
use Rattle.weigher.specs.Figure.{Figure, Order, Joining}
use Rattle.table.specs.System.{System, Lawful, Fair, Settled, size, figure_of, sort_of, output_of, class, into}
use Rattle.table.specs.Numbering.{earliest, how_many}
use Rattle.theory.specs.Rounds.{same_int, each_below, number_in, alike, still, grouped, round, in_round}
use Rattle.theory.specs.Theorems.{RoundsMean, RoundsRefined, RoundsSettle}
use Rattle.theory.proofs.Weights.{into_none}
use Rattle.theory.proofs.Unions.{unions}
use Rattle.theory.proofs.Counts.{count_bound, count_agree}
use Rattle.theory.proofs.Groups.{Relating, earliest_like, earliest_least, earliest_same}

pub decides_same_int : (a b : ℤ) → Decides (same_int a b) (a ≡ b)
decides_same_int (pos a) (pos b) = (λ e. ap pos (eqb-true a b e), λ e. eq-eqb a b (cc))
decides_same_int (pos a) (negsuc b) = (λ e. absurd (both_ways false refl e), λ e. cc)
decides_same_int (negsuc a) (pos b) = (λ e. absurd (both_ways false refl e), λ e. cc)
decides_same_int (negsuc a) (negsuc b) = (λ e. ap negsuc (eqb-true a b e), λ e. eq-eqb a b (cc))

decides_each : (p : ℕ → Bool) (P : ℕ → Type 0) → ((k : ℕ) → Decides (p k) (P k)) → (n : ℕ) → Decides (each_below p n) ((k : ℕ) → k < n → P k)
unfolding each_below
decides_each p P e = Decides-below_and p P (each_below p) e refl (λ n. refl)

-- what the test at the start says
abbrev pub Alike : System → ℕ → ℕ → Type 0
Alike t x y = (sort_of t x ≡ sort_of t y) × (output_of t x ≡ output_of t y)

pub alike_relating : (t : System) → Relating (alike t) (Alike t)
unfolding alike
alike_relating t = record {
  decides = λ x y. Decides-and _ _ (Decides-eqb (sort_of t x) (sort_of t y)) (Decides-eqb (output_of t x) (output_of t y));
  itself = λ x. (refl, refl);
  back = λ x y h. (sym h.0, sym h.1);
  on = λ x y z h k. (h.0 ∙ k.0, h.1 ∙ k.1);
}

-- the test of a round, and what it says
test : Figure → System → ℕ → ℕ → ℕ → Bool
test fig t zero = alike t
test fig t (suc k) = still fig t (round fig t k)

Kept : Figure → System → ℕ → ℕ → ℕ → Type 0
Kept fig t zero x y = Alike t x y
Kept fig t (suc k) x y =
    (in_round fig t k x ≡ in_round fig t k y)
    × ((l : ℕ) → l < 64 → (c : ℕ) → c < size t → figure_of fig t x l (class (in_round fig t k) c) ≡ figure_of fig t y l (class (in_round fig t k) c))

module _ (fig : Figure) (t : System) where
  relating : (k : ℕ) → Relating (test fig t k) (Kept fig t k)
  unfolding test Kept still
  relating zero = alike_relating t
  relating (suc k) = record {
    decides = λ x y. Decides-and _ _ (Decides-eqb (in_round fig t k x) (in_round fig t k y)) (decides_each _ _ (λ l. decides_each _ _ (λ c. decides_same_int (figure_of fig t x l (class (in_round fig t k) c)) (figure_of fig t y l (class (in_round fig t k) c))) (size t)) 64);
    itself = λ x. (refl, λ l ll c cl. refl);
    back = λ x y h. (sym h.0, λ l ll c cl. sym (h.1 l ll c cl));
    on = λ x y z h k. (h.0 ∙ k.0, λ l ll c cl. h.1 l ll c cl ∙ k.1 l ll c cl);
  }

  round_is : (k : ℕ) → round fig t k ≡ grouped (test fig t k) (size t)
  unfolding round test
  round_is zero = refl
  round_is (suc k) = refl

  round_at : (k x : ℕ) → x < size t → in_round fig t k x ≡ earliest (test fig t k) x
  unfolding grouped
  round_at k x h = ap (λ r. number_in r x) (round_is k) ∙ get_or-map-range_with_len (earliest (test fig t k)) 0 (size t) x x 0 h (omega arith)

  pub round_length : (k : ℕ) → length (round fig t k) ≡ size t
  unfolding grouped
  round_length k = ap (λ r. length r) (round_is k) ∙ length-map-range_with_len (earliest (test fig t k)) 0 (size t)

  -- a state's number is that of a state that it is together with, and of none after it
  pub round_low : (k x : ℕ) → x < size t → in_round fig t k x ≤ x
  round_low k x h = omega (arith, round_at k x h, earliest_least (test fig t k) (Kept fig t k) (relating k) x x ((relating k).itself x))

  round_same : (k x y : ℕ) → x < size t → y < size t → (in_round fig t k x ≡ in_round fig t k y) ↔ Kept fig t k x y
  round_same k x y h j =
      let e = earliest_same (test fig t k) (Kept fig t k) (relating k) x y in
      (λ q. e.0 (sym (round_at k x h) ∙ q ∙ round_at k y j), λ r. round_at k x h ∙ e.1 r ∙ sym (round_at k y j))

  pub round_twice : (k x : ℕ) → x < size t → in_round fig t k (in_round fig t k x) ≡ in_round fig t k x
  round_twice k x h =
      sym ((round_same k x (in_round fig t k x) h (omega (arith, round_low k x h))).1
      (subst (Kept fig t k x) (sym (round_at k x h)) (earliest_like (test fig t k) (Kept fig t k) (relating k) x)))

  pub refines : (k x y : ℕ) → x < size t → y < size t → in_round fig t (suc k) x ≡ in_round fig t (suc k) y → in_round fig t k x ≡ in_round fig t k y
  unfolding Kept
  refines k x y h j e = ((round_same (suc k) x y h j).0 e).0

  pub same_start : (k x y : ℕ) → x < size t → y < size t → in_round fig t k x ≡ in_round fig t k y → (sort_of t x ≡ sort_of t y) × (output_of t x ≡ output_of t y)
  unfolding Kept
  same_start zero x y h j e = (round_same 0 x y h j).0 e
  same_start (suc k) x y h j e = same_start k x y h j (refines k x y h j e)

  pub start : (x y : ℕ) → x < size t → y < size t → (in_round fig t 0 x ≡ in_round fig t 0 y) ↔ ((sort_of t x ≡ sort_of t y) × (output_of t x ≡ output_of t y))
  unfolding Kept
  start = round_same 0

  -- the smallest states of a round's groups
  marked : ℕ → ℕ → Bool
  marked k x = eqb (in_round fig t k x) x

  marked_more : (k x : ℕ) → x < size t → marked k x ≡ true → marked (suc k) x ≡ true
  unfolding marked
  marked_more k x h e =
      let low = round_low (suc k) x h in
      let z : in_round fig t (suc k) x < size t = omega arith in
      let q = refines k (in_round fig t (suc k) x) x z h (round_twice (suc k) x h) in
      eq-eqb _ _ (omega (arith, eqb-true _ _ e, round_low k (in_round fig t (suc k) x) z))

  -- no more groups than before: the same groups
  stays : (k : ℕ) → how_many (marked (suc k)) (size t) ≤ how_many (marked k) (size t) → round fig t k ≡ round fig t (suc k)
  unfolding marked
  stays k h = ext_get_or 0 (round fig t k) (round fig t (suc k)) (round_length k ∙ sym (round_length (suc k))) (λ x l.
      let xl : x < size t = omega (arith, round_length k) in
      let low = round_low (suc k) x xl in
      let z : in_round fig t (suc k) x < size t = omega arith in
      let m = count_agree (marked k) (marked (suc k)) (size t) (marked_more k) h (in_round fig t (suc k) x) z (eq-eqb _ _ (round_twice (suc k) x xl)) in
      sym (refines k (in_round fig t (suc k) x) x z xl (round_twice (suc k) x xl)) ∙ eqb-true _ _ m)

  stays_on : (k : ℕ) → round fig t k ≡ round fig t (suc k) → round fig t (suc k) ≡ round fig t (suc (suc k))
  unfolding round
  stays_on k e = ap (λ r. grouped (still fig t r) (size t)) e

  stays_or_grows : (k : ℕ) → (round fig t k ≡ round fig t (suc k)) ⊎ (k < how_many (marked (suc k)) (size t))
  stays_or_grows zero = elim (cases_lt (how_many (marked 0) (size t)) (how_many (marked 1) (size t))) [ inl h ↦ inr (omega arith) | inr h ↦ inl (stays 0 h) ]
  stays_or_grows (suc k) = elim (stays_or_grows k) [
    | inl e ↦ inl (stays_on k e)
    | inr b ↦ elim (cases_lt (how_many (marked (suc k)) (size t)) (how_many (marked (suc (suc k))) (size t))) [ inl h ↦ inr (omega arith) | inr h ↦ inl (stays (suc k) h) ]
  ]

  pub last : round fig t (size t) ≡ round fig t (suc (size t))
  last = elim (stays_or_grows (size t)) [ inl e ↦ e | inr b ↦ absurd (omega (arith, count_bound (marked (suc (size t))) (size t))) ]

  module _ (lawful : Lawful t) where
    -- a number that no state has: no weights
    past : (k x l c : ℕ) → size t ≤ c → into t x l (class (in_round fig t k) c) ≡ []
    past k x l c h = into_none t lawful x l (class (in_round fig t k) c) (λ z zl. ne_eqb _ _ (λ e. let b = round_low k z zl in absurd (omega arith)))

    pub next : (k x y : ℕ) → x < size t → y < size t →
        (in_round fig t (suc k) x ≡ in_round fig t (suc k) y)
        ↔ ((in_round fig t k x ≡ in_round fig t k y)
        × ((l c : ℕ) → l < 64 → figure_of fig t x l (class (in_round fig t k) c) ≡ figure_of fig t y l (class (in_round fig t k) c)))
    unfolding Kept
    next k x y xl yl =
        let same = round_same (suc k) x y xl yl in (
          λ e. (
            (same.0 e).0,
            λ l c ll. elim (cases_lt c (size t)) [
              | inl b ↦ (same.0 e).1 l ll c b
              | inr b ↦ rw (past k x l c b, past k y l c b) (ap (λ s. fig s l []) (same_start (suc k) x y xl yl e).0)
            ],
          ),
          λ h. same.1 (h.0, λ l ll c cl. h.1 l c ll),
        )

    module _ (order : Order fig) (joining : Joining fig) where
      pub refined : (g : ℕ → ℕ) → Fair fig t g → (k x y : ℕ) → x < size t → y < size t → g x ≡ g y → in_round fig t k x ≡ in_round fig t k y
      refined g fair zero x y xl yl e = (start x y xl yl).1 ((fair x y xl yl e).0, (fair x y xl yl e).1)
      refined g fair (suc k) x y xl yl e =
          (next k x y xl yl).1 (
            refined g fair k x y xl yl e,
            λ l c ll.
                unions fig order joining t lawful g fair (class (in_round fig t k) c)
                (λ u v ul vl q. ap (λ a. eqb a c) (refined g fair k u v ul vl q)) x y xl yl e l ll,
          )

      -- a round that the next one leaves as it is has settled
      pub settle : (k : ℕ) → round fig t k ≡ round fig t (suc k) → Settled fig t (in_round fig t k)
      settle k e = (
        λ x y xl yl q.
            let s = same_start k x y xl yl q in
            (s.0, s.1, ((next k x y xl yl).0 (subst (λ r. number_in r x ≡ number_in r y) e q)).1),
        λ other fair. refined other fair k,
      )

pub rounds_mean : RoundsMean
rounds_mean fig t lawful x y xl yl = (start fig t x y xl yl, λ k. next fig t lawful k x y xl yl)

pub rounds_refined : RoundsRefined
rounds_refined fig order joining t lawful = refined fig t lawful order joining

pub rounds_settle : RoundsSettle
rounds_settle fig order joining t lawful = settle fig t lawful order joining (size t) (last fig t)
