-- One turn of the loop that gathers the states with one figure.
use Rattle.std.proofs.Common.{◌≡◌, ℕ, ◌+◌, ◌<◌, ◌≤◌, List, length, ℤ, sym, refl, ap, ◌∙◌, subst, inl, inr, arith}
use Rattle.std.proofs.lemmas.Bool.{cases_eq, cases_lt}
use Rattle.partition.specs.Perm.{Perm, Outside, Swapped, at, fig}
use Rattle.partition.proofs.Perms.{came_from, outside_back}

-- how far the states with figure f have come to the front of start..end: they are start..mid, and mid..i has others
pub record Gathering (o o2 p2 : List ℕ) (figs : List ℤ) (start end mid i : ℕ) (f : ℤ) : Type 0 where
  pub perm : Perm o2 p2
  pub outside : Outside o o2 start end
  pub low : start ≤ mid
  pub high : mid ≤ i
  pub front : (k : ℕ) → start ≤ k → k < mid → fig figs (at o2 k) ≡ f
  pub rest : (k : ℕ) → mid ≤ k → k < i → fig figs (at o2 k) ≡ f → ⊥

pub gather_none : (o p : List ℕ) (figs : List ℤ) (start end : ℕ) (f : ℤ) → Perm o p → Gathering o o p figs start end start start f
gather_none o p figs start end f h = record {
  perm = h;
  outside = record { len = refl; below = λ k l. refl; above = λ k l. refl };
  low = omega arith;
  high = omega arith;
  front = λ k a b. absurd (omega arith);
  rest = λ k a b. absurd (omega arith);
}

module _ (o o2 p2 : List ℕ) (figs : List ℤ) (start end mid i : ℕ) (f : ℤ) (g : Gathering o o2 p2 figs start end mid i f) (l : i < end) where
  pub gather_skip : (fig figs (at o2 i) ≡ f → ⊥) → Gathering o o2 p2 figs start end mid (i + 1) f
  gather_skip isnt = record {
    perm = g.perm;
    outside = g.outside;
    low = g.low;
    high = omega arith;
    front = g.front;
    rest = λ k a b. elim (cases_eq k i) [
      | inl e ↦ λ h. isnt (sym (ap (λ n. fig figs (at o2 n)) e) ∙ h)
      | inr ne ↦ g.rest k a (omega arith)
    ];
  }

  pub gather_stay : mid ≡ i → fig figs (at o2 i) ≡ f → Gathering o o2 p2 figs start end (mid + 1) (i + 1) f
  gather_stay e is = record {
    perm = g.perm;
    outside = g.outside;
    low = omega arith;
    high = omega arith;
    front = λ k a b. elim (cases_eq k i) [
      | inl q ↦ ap (λ n. fig figs (at o2 n)) q ∙ is
      | inr ne ↦ g.front k a (omega arith)
    ];
    rest = λ k a b. absurd (omega arith);
  }

  pub gather_swap : (o3 p3 : List ℕ) → (mid ≡ i → ⊥) → Swapped o2 o3 mid i → Perm o3 p3 → fig figs (at o2 i) ≡ f → Gathering o o3 p3 figs start end (mid + 1) (i + 1) f
  gather_swap o3 p3 ne s h is = record {
    perm = h;
    outside = record {
      len = s.len ∙ g.outside.len;
      below = λ k b. s.other k (λ e. omega (arith, g.low)) (λ e. omega (arith, g.low, g.high)) ∙ g.outside.below k b;
      above = λ k b. s.other k (λ e. omega (arith, g.high)) (λ e. omega arith) ∙ g.outside.above k b;
    };
    low = omega arith;
    high = omega arith;
    front = λ k a b. elim (cases_eq k mid) [
      | inl e ↦ ap (λ n. fig figs (at o3 n)) e ∙ ap (fig figs) s.at_i ∙ is
      | inr nm ↦ ap (fig figs) (s.other k nm (λ e. omega (arith, g.high))) ∙ g.front k a (omega arith)
    ];
    rest = λ k a b. elim (cases_eq k i) [
      | inl e ↦ λ q. g.rest mid (omega arith) (omega arith) (sym (ap (fig figs) s.at_j) ∙ sym (ap (λ n. fig figs (at o3 n)) e) ∙ q)
      | inr ni ↦ λ q. g.rest k (omega arith) (omega arith) (sym (ap (fig figs) (s.other k (λ e. omega arith) ni)) ∙ q)
    ];
  }

pub gather_like : (o o2 p2 : List ℕ) (figs : List ℤ) (start end mid i j : ℕ) (f f2 : ℤ) → i ≡ j → f ≡ f2 → Gathering o o2 p2 figs start end mid i f → Gathering o o2 p2 figs start end mid j f2
gather_like o o2 p2 figs start end mid i j f f2 e q g = subst (λ n. Gathering o o2 p2 figs start end mid n f2) e (subst (λ n. Gathering o o2 p2 figs start end mid i n) q g)

pub gather_as : (o o2 p2 o3 p3 : List ℕ) (figs : List ℤ) (start end mid mid2 i : ℕ) (f : ℤ) → o3 ≡ o2 → p3 ≡ p2 → mid2 ≡ mid → Gathering o o2 p2 figs start end mid i f → Gathering o o3 p3 figs start end mid2 i f
gather_as o o2 p2 o3 p3 figs start end mid mid2 i f a b e g = rw (a, b, e) g

-- where a place has the figure, there is one at the front
pub gather_some : (o p o2 p2 : List ℕ) (figs : List ℤ) (start end mid : ℕ) (f : ℤ) → Perm o p → Perm o2 p2 → Outside o o2 start end → end ≤ length o → (j : ℕ) → start ≤ j → j < end → fig figs (at o j) ≡ f → ((k : ℕ) → mid ≤ k → k < end → fig figs (at o2 k) ≡ f → ⊥) → start < mid
gather_some o p o2 p2 figs start end mid f h h2 out le j a l is rest =
    let w = came_from o2 p2 o p start end h2 h (outside_back o o2 start end out) (omega (arith, out.len)) j a l in
    elim (cases_lt start mid) [
      | inl lt ↦ lt
      | inr ge ↦ absurd (rest (at p2 (at o j)) (omega (arith, w.0)) w.1 (ap (fig figs) w.2 ∙ is))
    ]
