-- What each call answers, and what the table then holds.
use Rattle.std.specs.Prelude.{◌≡◌, ℕ, ◌+◌, ◌-◌, ◌^◌, min, cond, List, length, Some, None, Ok, Err, Option, Result, nat_le}
use Rattle.weigher.specs.Figure.{Figure}
use Rattle.table.specs.System.{System, Settled, size}
use Rattle.table.specs.Charts.{no_system, state_answer, link_answer}
use Rattle.table.specs.Origins.{origin_of}
use Rattle.table.specs.Numbering.{group_number, group_count}
use Rattle.table.specs.declared.parts.State.{State}
use Rattle.table.specs.declared.parts.Link.{Link}
use Rattle.table.specs.declared.parts.Origin.{Origin}
use Rattle.table.specs.declared.parts.Refusal.{Refusal}
use Rattle.table.specs.declared.parts.Refusal.TheVariants.{AlreadySettled, NotSettled, NoSuchNumber}
use Rattle.theory.specs.Record.{node_at}
use Rattle.theory.specs.Rounds.{number_in}
use Rattle.settle.specs.Grouped.{Grouped}
use Rattle.fault.specs.declared.TableFault.{TableFault}
use Rattle.text.specs.Buffer.{whole_answer, whole_buffer}
use Rattle.text.specs.Report.{report_of}
use Rattle.folder.specs.View.{View, Settlement}

-- a new table
abbrev pub fresh : {W : Type 0} → W → View W
fresh pile = record { pile = pile; system = no_system; settlement = None; refusals = 0 }

-- an open table of these states and links
abbrev pub opened : {W : Type 0} → View W → System → View W
opened v t = record { pile = v.pile; system = t; settlement = None; refusals = v.refusals }

-- a settled one
abbrev pub settled : {W : Type 0} → View W → Settlement → View W
settled v s = record { pile = v.pile; system = v.system; settlement = Some s; refusals = v.refusals }

-- one refusal more, up to 4,294,967,295; all else is as before
abbrev pub refused : {W : Type 0} → View W → View W
refused v = record { pile = v.pile; system = v.system; settlement = v.settlement; refusals = min (v.refusals + 1) (2 ^ 32 - 1) }

-- after a call: the new view, or the old one with one refusal more
abbrev pub after : {W X Y : Type 0} → Result X Y → View W → View W → View W
after (Ok x) old new = new
after (Err y) old new = refused old

-- one answer for an open table, another for a settled one
abbrev pub when_open : {X : Type 0} → Option Settlement → Result X Refusal → Result X Refusal
when_open (Some s) answer = Err AlreadySettled
when_open None answer = answer

abbrev pub when_settled : {X : Type 0} → Option Settlement → (Settlement → Result X Refusal) → Result X Refusal
when_settled (Some s) answer = answer s
when_settled None answer = Err NotSettled

abbrev pub add_answer : {W : Type 0} → View W → State → Result ℕ Refusal
add_answer v s = when_open v.settlement (state_answer v.system s)

abbrev pub linking_answer : {W : Type 0} → View W → Link → Result ℕ Refusal
linking_answer v k = when_open v.settlement (link_answer v.system k)

-- reading takes a file's states and links in place of the table's
abbrev pub read_view : {W : Type 0} → View W → Result System TableFault → View W
read_view v (Ok t) = opened v t
read_view v (Err f) = refused v

-- finding the groups, which is described: the groups are fixed, and the record of splits is any valid one
abbrev pub Finds : {W : Type 0} → Figure → View W → ℕ → View W → Type 0
Finds fig v n after = (s : Settlement) × (n ≡ s.count) × (after ≡ settled v s) × Grouped fig v.system s.groups s.count s.nodes

-- settling finds the groups of an open table
abbrev pub Settles : {W : Type 0} → Figure → View W → Result ℕ Refusal → View W → Option Settlement → Type 0
Settles fig v r after (Some s) = (r ≡ Err AlreadySettled) × (after ≡ refused v)
Settles fig v r after None = (n : ℕ) × (r ≡ Ok n) × Finds fig v n after

abbrev pub reopen_answer : {W : Type 0} → View W → Result (Unit {0}) Refusal
reopen_answer v = when_settled v.settlement (λ s. Ok tt)

-- how many groups there are: absent while the table is open
abbrev pub groups_of : Option Settlement → Option ℕ
groups_of (Some s) = Some s.count
groups_of None = None

-- what counting answers: states, links, groups and refusals
pub record Tally {W : Type 0} (v : View W) (states links : ℕ) (groups : Option ℕ) (refusals : ℕ) : Type 0 where
  pub states_are : states ≡ size v.system
  pub links_are : links ≡ length v.system.links
  pub groups_are : groups ≡ groups_of v.settlement
  pub refusals_are : refusals ≡ v.refusals

-- the count is of the settled grouping's groups
abbrev pub CountMeans : Figure → System → Option ℕ → Type 0
CountMeans fig t r = (n : ℕ) → r ≡ Some n → (g : ℕ → ℕ) → Settled fig t g → n ≡ group_count g (size t)

abbrev pub group_answer : {W : Type 0} → View W → ℕ → Result ℕ Refusal
group_answer v x = when_settled v.settlement (λ s. cond (nat_le (size v.system) x) (Err NoSuchNumber) (Ok (number_in s.groups x)))

-- the answer is the number of the state's group in the settled grouping
abbrev pub GroupMeans : Figure → System → ℕ → Result ℕ Refusal → Type 0
GroupMeans fig t x r = (n : ℕ) → r ≡ Ok n → (g : ℕ → ℕ) → Settled fig t g → n ≡ group_number g x

-- where a node comes from
abbrev pub node_answer : {W : Type 0} → View W → ℕ → Result (Option Origin) Refusal
node_answer v i = when_settled v.settlement (λ s. cond (nat_le (length s.nodes) i) (Err NoSuchNumber) (Ok (origin_of (node_at s.nodes i))))

-- the report of a settled table
abbrev pub report_text : {W : Type 0} → View W → Settlement → List ℕ
report_text v s = report_of (length v.system.links) s.groups s.count

abbrev pub report_answer : {W : Type 0} → View W → List ℕ → Result ℕ Refusal
report_answer v buffer = when_settled v.settlement (λ s. whole_answer buffer (report_text v s))

abbrev pub report_buffer : {W : Type 0} → View W → List ℕ → Option Settlement → List ℕ
report_buffer v buffer (Some s) = whole_buffer buffer (report_text v s)
report_buffer v buffer None = buffer
