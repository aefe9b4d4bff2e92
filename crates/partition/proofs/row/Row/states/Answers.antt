use Rattle.std.proofs.Common.{ap}
use Rattle.partition.specs.Stretches.{stretch_at}
use Rattle.partition.proofs.Facts.{states_in, states_found}
use Rattle.partition.proofs.row.Row.states.Goals as goal

pub returns : goal.returns
returns c =
    let r = c.args.self.now in
    let b = c.args.b in
    let o = c.deref-2.ensures in
    let t = ap (λ z. stretch_at z b) c.deref.ensures in
    record {
      known = λ i l. (states_in r b c.requires _ _ o t i l).0;
      held = λ i l. (states_in r b c.requires _ _ o t i l).1;
      found = states_found r b c.requires _ _ o t;
    }
