-- The row and the record before the first split.
use Rattle.std.proofs.Common.{◌≡◌, ℕ, ◌<◌, ◌≤◌, true, false, eqb, List, length, ℤ, pos, sym, refl, ap, ◌∙◌, arith}
use Rattle.std.proofs.lemmas.Bool.{both_ways, eq-eqb, ne_eqb, eqb-true}
use Rattle.weigher.specs.Figure.{Figure}
use Rattle.table.specs.System.{System, size}
use Rattle.table.specs.Numbering.{earliest, how_many}
use Rattle.theory.specs.Rounds.{same_int, alike}
use Rattle.theory.specs.Record.{leader, start_nodes, holds}
use Rattle.theory.proofs.Counts.{count_like}
use Rattle.theory.proofs.Groups.{earliest_least}
use Rattle.theory.proofs.Rounds.{Alike, alike_relating}
use Rattle.theory.proofs.Records.{record_start}
use Rattle.theory.proofs.Starts.{start_length, start_holds, start_unsplit, leads_itself, leader_is}
use Rattle.partition.specs.View.{size_of, count_of, block_of, is_split, in_node, Kinds, leads, Begun}
use Rattle.partition.specs.declared.row.Row.{Row}
use Rattle.partition.proofs.Facts.{mine, own}
use Rattle.settle.specs.Progress.{Shown}
use Rattle.settle.specs.Starts.{KindsOf}
use Rattle.settle.proofs.Splits.{same_truth}

pub leader_yes : (t : System) (x : ℕ) → earliest (alike t) x ≡ x → leader t x ≡ true
unfolding leader
leader_yes t x e = eq-eqb _ _ e

pub leader_no : (t : System) (x : ℕ) → (earliest (alike t) x ≡ x → ⊥) → leader t x ≡ false
unfolding leader
leader_no t x ne = ne_eqb _ _ ne

module _ (t : System) (kinds : List ℤ) (k : KindsOf t kinds) where
  earliest_low : (x : ℕ) → earliest (alike t) x ≤ x
  earliest_low x = earliest_least (alike t) (Alike t) (alike_relating t) x x (refl, refl)

  -- the smallest states of the kinds, as row and record know them
  pub same_leads : (x : ℕ) → x < size t → leads kinds x ≡ leader t x
  unfolding leader
  same_leads x l = ap (λ z. same_int z (pos x)) (k.each x l)

  pub kinds_are : Kinds kinds
  kinds_are x l =
      let xl : x < size t = omega (arith, k.len) in
      let low = earliest_low x in
      (earliest (alike t) x, low, k.each x xl, k.each (earliest (alike t) x) (omega arith) ∙ ap pos (leader_is t (earliest (alike t) x) (leads_itself t x)))

  module _ (fig : Figure) (r : Row) (b : Begun kinds r) where
    block_is : (x : ℕ) → x < size t → block_of r x ≡ how_many (leader t) (earliest (alike t) x)
    block_is x l =
        b.block x (earliest (alike t) x) (omega (arith, k.len)) (k.each x l)
        ∙ count_like (leads kinds) (leader t) (earliest (alike t) x) (λ z zl. same_leads z (omega (arith, earliest_low x)))

    count_is : count_of r ≡ length (start_nodes t)
    count_is = b.count ∙ ap (how_many (leads kinds)) k.len ∙ count_like (leads kinds) (leader t) (size t) same_leads ∙ sym (start_length t)

    members_are : (i x : ℕ) → i < length (start_nodes t) → x < size t → in_node r i x ≡ holds fig t (start_nodes t) i x
    members_are i x il xl =
        let c = count_is in
        let xr : x < size_of r = omega (arith, b.size, k.len) in
        let e = block_is x xl in
        same_truth (in_node r i x) (eqb i (how_many (leader t) (earliest (alike t) x)))
        (λ h. eq-eqb i _ (sym (own r i x (omega arith) xr (b.whole i (omega arith)) h) ∙ e))
        (λ h. ap (λ n. in_node r n x) (eqb-true i _ h ∙ sym e) ∙ mine r x xr)
        ∙ sym (start_holds fig t i x il xl)

    pub shown_start : Shown fig t (start_nodes t) r
    shown_start = record {
      valid = record_start fig t;
      sized = b.size ∙ k.len;
      count = count_is;
      members = members_are;
      whole = λ n nl e. start_unsplit t n;
      parted = λ n nl e. absurd (both_ways (is_split r n) (b.whole n (omega (arith, count_is))) e);
    }
