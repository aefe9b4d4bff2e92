-- The summaries behind the figures, and what tells them apart.
use Rattle.std.specs.Prelude.{◌≡◌, ℕ, zero, suc, ◌-◌, true, false, cond, List, [], ◌∷◌, ◌++◌, ℤ, pos, ◌+ℤ◌, Some, None, Option, FitsSigned, ◌≢◌, int_lt, nat_lt, refl}
use Rattle.std.proofs.Common.{sym, ap, subst, ◌∙◌, arith}
use Rattle.std.proofs.Math.IntN.{+ℤ_assoc, +ℤ_comm}
use Rattle.std.specs.Int.{int_max, int_wrap, w32, w64}
use Rattle.std.specs.Option.{unwrap_or}
use Rattle.std.proofs.lemmas.Int.{int_wrap-add_right, ints, clamps}
use Rattle.weigher.specs.Figure.{Figure, InRange, Order, Joining}
use Rattle.weigher.specs.Weighers.{reached, reach, total, sum, larger, most, greatest, blind, by_label, by_sort}
use Rattle.weigher.specs.Gathers.{gather_shuffled, gather_joins, gather_push}

reached_step : ℤ → ℤ → ℤ
reached_step w m = pos 1

reached_cons : (w : ℤ) (ws : List ℤ) → reached (w ∷ ws) ≡ reached_step w (reached ws)
unfolding reached_step
reached_cons w ws = refl

reached_swap : (a b m : ℤ) → reached_step a (reached_step b m) ≡ reached_step b (reached_step a m)
unfolding reached_step
reached_swap a b m = refl

sum_step : ℤ → ℤ → ℤ
sum_step w m = int_wrap w64 (w +ℤ m)

sum_cons : (w : ℤ) (ws : List ℤ) → int_wrap w64 (total (w ∷ ws)) ≡ sum_step w (int_wrap w64 (total ws))
unfolding sum_step
sum_cons w ws = sym (int_wrap-add_right w64 w (total ws))

sum_swap : (a b m : ℤ) → sum_step a (sum_step b m) ≡ sum_step b (sum_step a m)
unfolding sum_step
sum_swap a b m =
    int_wrap-add_right w64 a (b +ℤ m) ∙ ap (int_wrap w64) (sym (+ℤ_assoc a b m) ∙ ap (λ z. z +ℤ m) (+ℤ_comm a b) ∙ +ℤ_assoc b a m)
    ∙ sym (int_wrap-add_right w64 b (a +ℤ m))

most_step : ℤ → Option ℤ → Option ℤ
most_step w m = Some (larger w m)

most_cons : (w : ℤ) (ws : List ℤ) → most (w ∷ ws) ≡ most_step w (most ws)
unfolding most_step
most_cons w ws = refl

most_swap : (a b : ℤ) (m : Option ℤ) → most_step a (most_step b m) ≡ most_step b (most_step a m)
unfolding most_step
most_swap a b None = ap Some (omega (arith, ints, clamps))
most_swap a b (Some m) = ap Some (omega (arith, ints, clamps))

pub most_push : (ws : List ℤ) (w : ℤ) (m : Option ℤ) → m ≡ most ws → most (ws ++ w ∷ []) ≡ Some (larger w m)
unfolding most_step
most_push ws w m e = gather_push most most_step most_cons most_swap ws w ∙ ap (λ o. Some (larger w o)) (sym e)

-- no weight is greater than every weight of 32 bits
Fitting : Option ℤ → Type 0
Fitting None = Unit {0}
Fitting (Some m) = FitsSigned w32 m

max_fits : (a b : ℤ) → FitsSigned w32 a → FitsSigned w32 b → FitsSigned w32 (int_max a b)
max_fits a b p q = elim (int_lt b a) as (λ t. FitsSigned w32 (cond t a b)) [ true ↦ p | false ↦ q ]

most_fits : (ws : List ℤ) → InRange ws → Fitting (most ws)
unfolding Fitting
most_fits [] r = tt
most_fits (w ∷ ws) r = one (most ws) (most_fits ws r.1)
  where
    one : (m : Option ℤ) → Fitting m → FitsSigned w32 (larger w m)
    one None h = r.0
    one (Some m) h = max_fits w m r.0 h

above : (m : ℤ) → FitsSigned w32 m → pos 2147483648 ≢ m
above m f e = let g : FitsSigned w32 (pos 2147483648) = subst (FitsSigned w32) (sym e) f in omega (arith, g.sfits)

same_most : (a b : Option ℤ) → Fitting a → Fitting b → unwrap_or a (pos 2147483648) ≡ unwrap_or b (pos 2147483648) → a ≡ b
unfolding Fitting
same_most None None p q e = refl
same_most None (Some m) p q e = absurd (above m q e)
same_most (Some m) None p q e = absurd (above m p (sym e))
same_most (Some m) (Some n) p q e = ap Some e

greatest_most : (u v : List ℤ) → InRange u → InRange v → unwrap_or (most u) (pos 2147483648) ≡ unwrap_or (most v) (pos 2147483648) → most u ≡ most v
greatest_most u v p q e = same_most (most u) (most v) (most_fits u p) (most_fits v q) e

-- one weight more, and it wraps
pub sum_push : (ws : List ℤ) (w load : ℤ) → load ≡ int_wrap w64 (total ws) → int_wrap w64 (load +ℤ w) ≡ int_wrap w64 (total (ws ++ w ∷ []))
unfolding sum_step
sum_push ws w load e =
    ap (int_wrap w64) (+ℤ_comm load w) ∙ ap (λ z. int_wrap w64 (w +ℤ z)) e ∙ sym (gather_push (λ us. int_wrap w64 (total us)) sum_step sum_cons sum_swap ws w)

-- each figure is lawful
pub reach_order : Order reach
reach_order s l sl ll u v ru rv = gather_shuffled reached reached_step reached_cons reached_swap u v

pub reach_joining : Joining reach
reach_joining s l sl ll u u' v v' ru ru' rv rv' = gather_joins reached reached_step reached_cons reached_swap u u' v v'

pub sum_order : Order sum
sum_order s l sl ll u v ru rv = gather_shuffled (λ ws. int_wrap w64 (total ws)) sum_step sum_cons sum_swap u v

pub sum_joining : Joining sum
sum_joining s l sl ll u u' v v' ru ru' rv rv' = gather_joins (λ ws. int_wrap w64 (total ws)) sum_step sum_cons sum_swap u u' v v'

pub greatest_order : Order greatest
greatest_order s l sl ll u v ru rv h = ap (λ m. unwrap_or m (pos 2147483648)) (gather_shuffled most most_step most_cons most_swap u v h)

pub greatest_joining : Joining greatest
greatest_joining s l sl ll u u' v v' ru ru' rv rv' p q =
    ap (λ m. unwrap_or m (pos 2147483648))
    (gather_joins most most_step most_cons most_swap u u' v v' (greatest_most u u' ru ru' p) (greatest_most v v' rv rv' q))

pub blind_order : Order blind
blind_order s l sl ll u v ru rv h = refl

pub blind_joining : Joining blind
blind_joining s l sl ll u u' v v' ru ru' rv rv' p q = refl

-- the layers, over any two lawful figures
pub by_label_order : (cut : ℕ) (f g : Figure) → Order f → Order g → Order (by_label cut f g)
by_label_order cut f g a b s l sl ll u v ru rv h =
    elim (nat_lt l cut) as (λ t. cond t (f s l u) (g s (l - cut) u) ≡ cond t (f s l v) (g s (l - cut) v))
    [ true ↦ a s l sl ll u v ru rv h | false ↦ b s (l - cut) sl (omega arith) u v ru rv h ]

pub by_label_joining : (cut : ℕ) (f g : Figure) → Joining f → Joining g → Joining (by_label cut f g)
by_label_joining cut f g a b s l sl ll u u' v v' ru ru' rv rv' =
    elim (nat_lt l cut) as (λ t. cond t (f s l u) (g s (l - cut) u) ≡ cond t (f s l u') (g s (l - cut) u') → cond t (f s l v) (g s (l - cut) v) ≡ cond t (f s l v') (g s (l - cut) v') → cond t (f s l (u ++ v)) (g s (l - cut) (u ++ v)) ≡ cond t (f s l (u' ++ v')) (g s (l - cut) (u' ++ v')))
    [ true ↦ a s l sl ll u u' v v' ru ru' rv rv' | false ↦ b s (l - cut) sl (omega arith) u u' v v' ru ru' rv rv' ]

pub by_sort_order : (f g : Figure) → Order f → Order g → Order (by_sort f g)
by_sort_order f g a b zero l sl ll u v ru rv h = a 0 l sl ll u v ru rv h
by_sort_order f g a b (suc s) l sl ll u v ru rv h = b s l (omega arith) ll u v ru rv h

pub by_sort_joining : (f g : Figure) → Joining f → Joining g → Joining (by_sort f g)
by_sort_joining f g a b zero l sl ll u u' v v' ru ru' rv rv' p q = a 0 l sl ll u u' v v' ru ru' rv rv' p q
by_sort_joining f g a b (suc s) l sl ll u u' v v' ru ru' rv rv' p q = b s l (omega arith) ll u u' v v' ru ru' rv rv' p q
