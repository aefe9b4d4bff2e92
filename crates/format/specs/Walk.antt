-- Reading a file field by field: each field is checked as soon as it is taken.
use Rattle.std.specs.Prelude.{ℕ, zero, suc, ◌+◌, ◌*◌, Bool, cond, ltb, leb, List, [], ◌∷◌, ◌++◌, length, take, drop, ℤ, Ok, Err, Result, nat_le, nat_lt}
use Rattle.std.proofs.Common.{to_z}
use Rattle.std.specs.Int.{w32}
use Rattle.table.specs.System.{System}
use Rattle.table.specs.declared.parts.State.{State}
use Rattle.table.specs.declared.parts.Link.{Link}
use Rattle.fault.specs.declared.ByteFault.{ByteFault}
use Rattle.fault.specs.declared.SectionFault.{SectionFault}
use Rattle.fault.specs.declared.SectionFault.TheVariants.{Cut, Value}
use Rattle.fault.specs.declared.StatesField.{StatesField}
use Rattle.fault.specs.declared.StatesField.TheVariants.{Count as StatesCount, Sort}
use Rattle.fault.specs.declared.LinksField.{LinksField}
use Rattle.fault.specs.declared.LinksField.TheVariants.{Count as LinksCount, Source, Label, Target}
use Rattle.fault.specs.declared.TableFault.{TableFault}
use Rattle.fault.specs.declared.TableFault.TheVariants.{States, Links, After}

-- the number that bytes write, the lowest first
abbrev pub numeral : List ℕ → ℕ
numeral [] = 0
numeral (b ∷ bs) = b + 256 * numeral bs

-- go on with what was read, or pass the fault up a layer
abbrev pub and_then : {X Y E F : Type 0} → (E → F) → Result X E → (X → Result Y F) → Result Y F
and_then up (Ok x) next = next x
and_then up (Err e) next = Err (up e)

-- the bytes of a field at an offset, if it is whole
abbrev pub bytes_at : ℕ → List ℕ → ℕ → ℕ → Result (List ℕ) ByteFault
bytes_at width bytes at item =
    cond (nat_le (at + width) (length bytes)) (Ok (take width (drop at bytes))) (Err (record { place = record { offset = at; item = item } }))

-- the number that a field holds
abbrev pub field_at : ℕ → List ℕ → ℕ → ℕ → Result ℕ ByteFault
field_at width bytes at item = and_then (λ f. f) (bytes_at width bytes at item) (λ bs. Ok (numeral bs))

-- the same for a field whose number must not be wrong
abbrev pub checked_at : {F : Type 0} → F → (ℕ → Bool) → ℕ → List ℕ → ℕ → ℕ → Result ℕ (SectionFault F)
checked_at field wrong width bytes at item =
    and_then Cut (field_at width bytes at item) (λ v. cond (wrong v) (Err (Value field (record { offset = at; item = item }))) (Ok v))

-- a sort is at most 3
abbrev pub sort_at : List ℕ → ℕ → ℕ → Result ℕ (SectionFault StatesField)
sort_at bytes at item = checked_at Sort (ltb 3) 1 bytes at item

-- a state: sort and output
abbrev pub state_fields : List ℕ → ℕ → ℕ → Result State (SectionFault StatesField)
state_fields bytes at item =
    and_then (λ f. f) (sort_at bytes at item) (λ sort.
    and_then Cut (field_at 2 bytes (at + 1) item) (λ output.
    Ok (record { sort = sort; output = output })))

-- so many states more, from an offset and an item on, behind those that were read
abbrev pub state_items : List ℕ → ℕ → ℕ → List State → ℕ → Result (List State) (SectionFault StatesField)
state_items bytes at item states zero = Ok states
state_items bytes at item states (suc left) = and_then (λ f. f) (state_fields bytes at item) (λ s. state_items bytes (at + 3) (item + 1) (states ++ (s ∷ [])) left)

-- at most 1,024 states, after their count
abbrev pub states_section : List ℕ → Result (List State) (SectionFault StatesField)
states_section bytes = and_then (λ f. f) (checked_at StatesCount (ltb 1024) 2 bytes 0 0) (state_items bytes 2 1 [])

-- a source and a target are among n states, and a label is at most 63
abbrev pub end_at : LinksField → ℕ → List ℕ → ℕ → ℕ → Result ℕ (SectionFault LinksField)
end_at field n bytes at item = checked_at field (leb n) 2 bytes at item

abbrev pub label_at : List ℕ → ℕ → ℕ → Result ℕ (SectionFault LinksField)
label_at bytes at item = checked_at Label (ltb 63) 1 bytes at item

-- a weight is four bytes in two's complement
abbrev pub weight_at : List ℕ → ℕ → ℕ → Result ℤ ByteFault
weight_at bytes at item = and_then (λ f. f) (field_at 4 bytes at item) (λ v. Ok (to_z w32 v))

-- a link: source, label, weight and target
abbrev pub link_fields : ℕ → List ℕ → ℕ → ℕ → Result Link (SectionFault LinksField)
link_fields n bytes at item =
    and_then (λ f. f) (end_at Source n bytes at item) (λ source.
    and_then (λ f. f) (label_at bytes (at + 2) item) (λ label.
    and_then Cut (weight_at bytes (at + 3) item) (λ weight.
    and_then (λ f. f) (end_at Target n bytes (at + 7) item) (λ target.
    Ok (record { source = source; label = label; weight = weight; target = target })))))

abbrev pub link_items : ℕ → List ℕ → ℕ → ℕ → List Link → ℕ → Result (List Link) (SectionFault LinksField)
link_items n bytes at item links zero = Ok links
link_items n bytes at item links (suc left) = and_then (λ f. f) (link_fields n bytes at item) (λ k. link_items n bytes (at + 9) (item + 1) (links ++ (k ∷ [])) left)

-- at most 4,096 links, after their count
abbrev pub links_section : ℕ → List ℕ → ℕ → Result (List Link) (SectionFault LinksField)
links_section n bytes at = and_then (λ f. f) (checked_at LinksCount (ltb 4096) 2 bytes at 0) (link_items n bytes (at + 2) 1 [])

-- where the states end, and the links
abbrev pub states_end : ℕ → ℕ
states_end n = 2 + 3 * n

abbrev pub links_end : ℕ → ℕ → ℕ
links_end n m = states_end n + 2 + 9 * m

-- the states, the links, and nothing after them
abbrev pub decode : List ℕ → Result System TableFault
decode bytes =
    and_then States (states_section bytes) (λ states.
    and_then Links (links_section (length states) bytes (states_end (length states))) (λ links.
    cond (nat_lt (links_end (length states) (length links)) (length bytes)) (Err (After (links_end (length states) (length links))))
    (Ok (record { states = states; links = links }))))
