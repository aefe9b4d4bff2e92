use Rattle.std.proofs.Common.{◌-◌}
use Rattle.partition.specs.Cuts.{Cutting}
use Rattle.partition.proofs.cells.Cells.cut_runs.Given as goal

abbrev pub invariant-loop-m : goal.invariant-loop-m
invariant-loop-m l =
    Cutting l.initial.self.order.states l.initial.self.block l.initial.self.stretches l.figures l.initial.m l.end l.self.order.states l.self.order.places l.self.block l.self.stretches l.m

abbrev pub decreases-loop-m : goal.decreases-loop-m
decreases-loop-m l = l.end - l.m
