-- What holds of every row.
use Rattle.std.proofs.Common.{◌≡◌, ℕ, ◌+◌, ◌-◌, ◌*◌, ◌<◌, ◌≤◌, true, false, List, length, sym, ap, ◌∙◌, subst, arith}
use Rattle.std.specs.List.{between}
use Rattle.std.proofs.lemmas.List.Edits.{length-between, get_or-between}
use Rattle.partition.specs.Perm.{at}
use Rattle.partition.specs.Stretches.{stretch_at, by}
use Rattle.partition.specs.View.{size_of, count_of, block_of, is_split, holds_place, in_node}
use Rattle.partition.specs.declared.row.Row.{Row}
use Rattle.partition.specs.declared.stretch.Stretch.{Stretch}
use Rattle.partition.proofs.Divides.{at_place, decides_place}

module _ (r : Row) (x : ℕ) (l : x < size_of r) where
  listed : x < length r.cells.order.places
  listed = omega (arith, r.cells.order.perm.same)

  placed : at r.cells.order.places x < size_of r
  placed = r.cells.order.perm.low_place x listed

  here : by r.cells.block r.cells.order.states (at r.cells.order.places x) ≡ block_of r x
  here = at_place _ _ r.cells.block r.whole.perm x listed

  -- a state's block is a node
  pub known : block_of r x < count_of r
  known = omega (arith, here, r.whole.known (at r.cells.order.places x) placed)

  -- which is not split
  pub unsplit : is_split r (block_of r x) ≡ false
  unsplit = subst (λ b. is_split r b ≡ false) here (r.whole.leaf (at r.cells.order.places x) placed)

  -- and holds the state
  pub mine : in_node r (block_of r x) x ≡ true
  mine =
      subst (λ b. in_node r b x ≡ true) here
      ((decides_place (stretch_at r.cells.stretches (by r.cells.block r.cells.order.states (at r.cells.order.places x))) (at r.cells.order.places x)).1
      (r.whole.from (at r.cells.order.places x) placed, r.whole.to (at r.cells.order.places x) placed))

-- a node that is not split is the block of the states that it holds
pub own : (r : Row) (b x : ℕ) → b < count_of r → x < size_of r → is_split r b ≡ false → in_node r b x ≡ true → block_of r x ≡ b
own r b x lb lx s h =
    let d = (decides_place (stretch_at r.cells.stretches b) (at r.cells.order.places x)).0 h in
    sym (here r x lx) ∙ r.whole.own b (at r.cells.order.places x) (lb, s, d.0, d.1)

-- a place in a node has a state that the node holds
at_in : (r : Row) (b i : ℕ) → b < count_of r → (stretch_at r.cells.stretches b).start ≤ i → i < (stretch_at r.cells.stretches b).end → (at r.cells.order.states i < size_of r) × (in_node r b (at r.cells.order.states i) ≡ true)
at_in r b i lb a l =
    let li : i < size_of r = omega (arith, r.whole.within b lb) in
    (r.cells.order.perm.low i li, subst (λ z. holds_place (stretch_at r.cells.stretches b) z ≡ true) (sym (r.cells.order.perm.back i li)) ((decides_place (stretch_at r.cells.stretches b) i).1 (a, l)))

-- each node holds a state
pub filled : (r : Row) (b : ℕ) → b < count_of r → (x : ℕ) × (x < size_of r) × (in_node r b x ≡ true)
filled r b lb =
    let h = at_in r b (stretch_at r.cells.stretches b).start lb (omega arith) (r.whole.filled b lb) in
    (at r.cells.order.states (stretch_at r.cells.stretches b).start, h.0, h.1)

-- the states of a node, as they are read
module _ (r : Row) (b : ℕ) (lb : b < count_of r) (o : List ℕ) (t : Stretch) (eo : o ≡ r.cells.order.states) (et : t ≡ stretch_at r.cells.stretches b) where
  long : length (between t.start t.end o) + t.start ≡ t.end
  long =
      let s : t.start ≡ (stretch_at r.cells.stretches b).start = ap (λ z. z.start) et in
      let e : t.end ≡ (stretch_at r.cells.stretches b).end = ap (λ z. z.end) et in
      omega (arith, length-between o t.start t.end (omega (arith, r.whole.within b lb, ap length eo)), r.whole.filled b lb)

  read : (i : ℕ) → i < length (between t.start t.end o) → at (between t.start t.end o) i ≡ at r.cells.order.states (t.start + i)
  read i l = get_or-between o t.start t.end i 0 (omega (arith, long)) ∙ ap (λ z. at z (t.start + i)) eo

  pub states_in : (i : ℕ) → i < length (between t.start t.end o) → (at (between t.start t.end o) i < size_of r) × (in_node r b (at (between t.start t.end o) i) ≡ true)
  states_in i l =
      let s : t.start ≡ (stretch_at r.cells.stretches b).start = ap (λ z. z.start) et in
      let e : t.end ≡ (stretch_at r.cells.stretches b).end = ap (λ z. z.end) et in
      subst (λ x. (x < size_of r) × (in_node r b x ≡ true)) (sym (read i l)) (at_in r b (t.start + i) lb (omega arith) (omega (arith, long)))

  pub states_found : (x : ℕ) → x < size_of r → in_node r b x ≡ true → (i : ℕ) × (i < length (between t.start t.end o)) × (at (between t.start t.end o) i ≡ x)
  states_found x l h =
      let d = (decides_place (stretch_at r.cells.stretches b) (at r.cells.order.places x)).0 h in
      let s : t.start ≡ (stretch_at r.cells.stretches b).start = ap (λ z. z.start) et in
      let e : t.end ≡ (stretch_at r.cells.stretches b).end = ap (λ z. z.end) et in
      let i : at r.cells.order.places x - t.start < length (between t.start t.end o) = omega (arith, long, d.0, d.1) in
      let back : t.start + (at r.cells.order.places x - t.start) ≡ at r.cells.order.places x = omega (arith, d.0) in
      (at r.cells.order.places x - t.start, i, read (at r.cells.order.places x - t.start) i ∙ ap (at r.cells.order.states) back ∙ r.cells.order.perm.fore x (listed r x l))

-- there are at most twice as many nodes as states
pub few : (r : Row) → count_of r ≤ 2 * size_of r
few r = omega (arith, r.whole.few)

pub small : (r : Row) → size_of r ≤ 1024
small r = r.cells.order.small
