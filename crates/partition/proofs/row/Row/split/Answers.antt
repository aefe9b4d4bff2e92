use Rattle.partition.proofs.Rows.{divided, unchanged}
use Rattle.partition.proofs.row.Row.split.Goals as goal

pub returns : goal.returns
returns c =
    let r = c.args.self.now in
    record {
      divided = λ q. divided r _ c.args.figures.now c.args.leaf c.requires.known c.requires.open (c.refine.ensures.cut q) (c.refine.ensures.two q);
      unchanged = λ q.
          let s = c.refine.ensures.same q in
          unchanged r _ c.args.figures.now c.args.leaf c.requires.known c.requires.open (c.refine.ensures.level q) s.states s.places s.block s.stretches;
    }
