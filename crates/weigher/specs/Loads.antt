-- Which loads stand for a list of weights.
use Rattle.std.specs.Prelude.{Bool, true, false, List, [], ◌∷◌, ℤ}
use Rattle.weigher.specs.declared.layers.Charge.{Charge}
use Rattle.weigher.specs.declared.layers.Charge.TheVariants.{First, Second}

-- whether a list has a weight
abbrev pub some : List ℤ → Bool
some [] = false
some (w ∷ ws) = true

-- a layer's load is one of the part in charge: the first where the test says so, else the second
abbrev pub Charged : {A B : Type 0} → Bool → (A → Type 0) → (B → Type 0) → Charge A B → Type 0
Charged true P Q (First a) = P a
Charged true P Q (Second b) = ⊥
Charged false P Q (First a) = ⊥
Charged false P Q (Second b) = Q b
