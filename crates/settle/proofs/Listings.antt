-- New nodes, listed one by one.
use Rattle.std.proofs.Common.{◌≡◌, ℕ, ◌+◌, ◌<◌, true, List, [], ◌∷◌, ◌++◌, length, ℤ, pos, sym, ap, ◌∙◌, inl, inr, arith}
use Rattle.std.proofs.lemmas.List.{length-append, append_assoc, map_push, length_push, get_or_push, get_or_append_left}
use Rattle.std.proofs.lemmas.Bool.{cases_eq}
use Rattle.table.specs.declared.parts.Node.{Node}
use Rattle.table.specs.declared.parts.Node.TheVariants.{Part}
use Rattle.theory.proofs.Records.{length_parts}
use Rattle.partition.specs.Perm.{fig as figure_in}
use Rattle.partition.specs.View.{size_of, in_node}
use Rattle.partition.specs.declared.row.Row.{Row}
use Rattle.settle.specs.Parts.{Listed}

module _ (nodes : List Node) (r : Row) (figs : List ℤ) (parent label marker : ℕ) where
  abbrev part : ℤ → Node
  part v = Part (record { parent = parent; label = label; marker = marker; figure = v })

  pub listed_more : (nodes2 nodes3 : List Node) (b x : ℕ) (v : ℤ) → Listed nodes r figs parent label marker nodes2 b →
      x < size_of r → in_node r b x ≡ true → v ≡ figure_in figs x → nodes3 ≡ nodes2 ++ (part v ∷ []) → Listed nodes r figs parent label marker nodes3 (b + 1)
  listed_more nodes2 nodes3 b x v h xl inb e made =
      let vs : List ℤ = h.values in
      let n = length_push vs v in
      let hl = h.len in
      record {
        values = vs ++ (v ∷ []);
        made = made ∙ ap (λ ns. ns ++ (part v ∷ [])) h.made ∙ append_assoc nodes _ (part v ∷ []) ∙ ap (λ ns. nodes ++ ns) (sym (map_push part vs v));
        len = omega arith;
        first = λ j l. elim (cases_eq j (length vs)) [
          | inl q ↦
              let at_b : length nodes + j ≡ b = omega arith in
              (x, xl, ap (λ c. in_node r c x) at_b ∙ inb, get_or_push vs v (pos 0) j (sym q) ∙ e)
          | inr ne ↦
              let jl : j < length vs = omega arith in
              let y = h.first j jl in
              (y.0, y.1, y.2, get_or_append_left vs (v ∷ []) (pos 0) j jl ∙ y.3)
        ];
      }

  pub listed_length : (nodes2 : List Node) (b : ℕ) → Listed nodes r figs parent label marker nodes2 b → length nodes2 ≡ b
  listed_length nodes2 b h = ap (λ ns. length ns) h.made ∙ length-append nodes _ ∙ ap (λ n. length nodes + n) (length_parts _) ∙ h.len
