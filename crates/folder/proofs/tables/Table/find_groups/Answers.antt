use Rattle.std.proofs.Common.{refl}
use Rattle.settle.proofs.Groupings.{grouped_length}
use Rattle.folder.proofs.tables.Table.find_groups.Goals as goal

pub invariant_of-self : goal.invariant_of-self
invariant_of-self g c = (c.settle-count.ensures, grouped_length _ _ _ _ _ c.settle-count.ensures)

pub returns : goal.returns
returns g c =
    let f = c.settle-count.new.self in
    rw (← c.self.view_is) (record { count = c.settle-count.result; groups = f.groups; nodes = f.nodes }, refl, refl, c.settle-count.ensures)
