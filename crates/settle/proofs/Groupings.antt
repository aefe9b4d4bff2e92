-- From blocks that are even for every node to the numbers of the settled grouping.
use Rattle.std.proofs.Common.{◌≡◌, ℕ, ◌+◌, ◌<◌, ◌↔◌, List, length, sym, refl, ap, ◌∙◌, arith}
use Rattle.std.specs.List.{range_with_len}
use Rattle.std.proofs.lemmas.List.FromFn.{length-range_with_len, get_or-range_with_len}
use Rattle.std.proofs.lemmas.List.{get_or-map, length-map}
use Rattle.weigher.specs.Figure.{Figure, Order, Joining}
use Rattle.table.specs.System.{System, Lawful, size}
use Rattle.table.specs.Numbering.{group_number, group_count, group_numbers}
use Rattle.table.specs.declared.parts.Node.{Node}
use Rattle.theory.specs.Record.{Leaves}
use Rattle.theory.specs.Rounds.{number_in}
use Rattle.theory.proofs.Groups.{numbers}
use Rattle.theory.proofs.Kernels.{same_count, same_numbers}
use Rattle.theory.proofs.Leaves.{records_settle}
use Rattle.partition.specs.View.{block_of}
use Rattle.partition.specs.declared.row.Row.{Row}
use Rattle.settle.specs.Grouped.{Grouped}
use Rattle.settle.specs.Progress.{Shown, Even}
use Rattle.settle.proofs.Progress.{leaves}

pub number_in_lem : (g : ℕ → ℕ) (n x : ℕ) → x < n → number_in (group_numbers g n) x ≡ group_number g x
unfolding group_numbers
number_in_lem g n x l =
    let len = length-range_with_len 0 n in
    let z : 0 + x ≡ x = omega arith in
    get_or-map (group_number g) (range_with_len 0 n) x 0 0 (omega arith) ∙ ap (group_number g) (get_or-range_with_len 0 n x 0 l ∙ z)

module _ (fig : Figure) (order : Order fig) (joining : Joining fig) (t : System) (lawful : Lawful t) (nodes : List Node) (r : Row) (s : Shown fig t nodes r) (even : (m : ℕ) → m < length nodes → (b : ℕ) → Even fig t nodes r b m) where
  groups : List ℕ
  groups = group_numbers (block_of r) (size t)

  -- the numbers tell the same states apart as the blocks
  same : (x y : ℕ) → x < size t → y < size t → (block_of r x ≡ block_of r y) ↔ (number_in groups x ≡ number_in groups y)
  unfolding groups
  same x y xl yl =
      let tell = (numbers (block_of r) (size t)).1 x y in (
        λ e. number_in_lem (block_of r) (size t) x xl ∙ tell.1 e ∙ sym (number_in_lem (block_of r) (size t) y yl),
        λ e. tell.0 (sym (number_in_lem (block_of r) (size t) x xl) ∙ e ∙ number_in_lem (block_of r) (size t) y yl),
      )

  group_leaves : Leaves fig t nodes (number_in groups)
  group_leaves =
      let h = leaves fig t nodes r s in
      record {
        some = h.some;
        group = λ i x y il un xl yl hx. (λ hy. (same x y xl yl).0 ((h.group i x y il un xl yl hx).0 hy), λ e. (h.group i x y il un xl yl hx).1 ((same x y xl yl).1 e));
      }

  pub grouped_here : (found : List ℕ) (count : ℕ) → found ≡ group_numbers (block_of r) (size t) → count ≡ group_count (block_of r) (size t) → Grouped fig t found count nodes
  unfolding groups
  grouped_here found count e q = rw e (record {
    settled = records_settle fig order joining t lawful nodes s.valid (number_in groups) group_leaves (λ x y xl yl h l m ll ml. even m ml (block_of r x) l ll x y xl yl refl (sym ((same x y xl yl).1 h)));
    numbered = same_numbers (block_of r) (number_in groups) (size t) same;
    counted = q ∙ same_count (block_of r) (number_in groups) (size t) same;
    valid = s.valid;
    leaves = group_leaves;
  })

length_numbers : (g : ℕ → ℕ) (n : ℕ) → length (group_numbers g n) ≡ n
unfolding group_numbers
length_numbers g n = length-map (range_with_len 0 n) (group_number g) ∙ length-range_with_len 0 n

pub grouped_length : (fig : Figure) (t : System) (groups : List ℕ) (count : ℕ) (nodes : List Node) → Grouped fig t groups count nodes → length groups ≡ size t
grouped_length fig t groups count nodes h = ap (λ gs. length gs) h.numbered ∙ length_numbers (number_in groups) (size t)
