-- What a chart holds, and what it answers.
use Rattle.std.specs.Prelude.{ℕ, cond, [], ◌∷◌, ◌++◌, length, Ok, Err, Result, nat_le, nat_lt}
use Rattle.table.specs.System.{System, size}
use Rattle.table.specs.declared.parts.State.{State}
use Rattle.table.specs.declared.parts.Link.{Link}
use Rattle.table.specs.declared.parts.Refusal.{Refusal}
use Rattle.table.specs.declared.parts.Refusal.TheVariants.{Full, BadSort, NoSuchNumber, BadLabel}

abbrev pub no_system : System
no_system = record { states = []; links = [] }

-- a system with a state more, or a link more
abbrev pub with_state : System → State → System
with_state t s = record { states = t.states ++ (s ∷ []); links = t.links }

abbrev pub with_link : System → Link → System
with_link t k = record { states = t.states; links = t.links ++ (k ∷ []) }

-- the answer to a new state: its number, unless there are 1,024 already or the sort is above 3
abbrev pub state_answer : System → State → Result ℕ Refusal
state_answer t s = cond (nat_le 1024 (size t)) (Err Full) (cond (nat_lt 3 s.sort) (Err BadSort) (Ok (size t)))

-- the answer to a new link: its number, unless there are 4,096 already, the source is no state, the label is above 63 or the
-- target is no state, in this order
abbrev pub link_answer : System → Link → Result ℕ Refusal
link_answer t k =
    cond (nat_le 4096 (length t.links)) (Err Full) (cond (nat_le (size t) k.source) (Err NoSuchNumber) (cond (nat_lt 63 k.label) (Err BadLabel) (cond (nat_le (size t) k.target) (Err NoSuchNumber) (Ok (length t.links)))))

-- the old one at a refusal, else the new one
abbrev pub afterwards : {X Y : Type 0} → Result X Y → System → System → System
afterwards (Ok x) old new = new
afterwards (Err y) old new = old
