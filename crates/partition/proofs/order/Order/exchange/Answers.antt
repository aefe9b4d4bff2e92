use Rattle.std.proofs.Common.{ap, length, subst, arith, rules}
use Rattle.room.proofs.Written.{written}
use Rattle.partition.specs.Perm.{Swapped}
use Rattle.partition.proofs.Perms.{perm_like}
use Rattle.partition.proofs.order.Order.exchange.Goals as goal

pub exchange_in-requires : goal.exchange_in-requires
exchange_in-requires c =
    let o = c.args.self.now in
    let es = c.deref_mut.ensures.value in
    let ep = c.deref_mut-2.ensures.value in
    let n = ap (λ xs. length xs) es in
    record {
      few = omega (arith, o.small);
      perm = perm_like es ep o.perm;
      i_within = omega (arith, c.requires.i_within);
      j_within = omega (arith, c.requires.j_within);
    }

pub invariant_of-self : goal.invariant_of-self
invariant_of-self c =
    let o = c.args.self.now in
    let es = written o.states c.exchange_in.new.states (search rules) in
    let ep = written o.places c.exchange_in.new.places (search rules) in
    let p = perm_like es ep c.exchange_in.ensures.perm in
    record {
      small = omega (arith, ap (λ xs. length xs) es, c.exchange_in.ensures.swapped.len, ap (λ xs. length xs) c.deref_mut.ensures.value, o.small);
      perm = p;
    }

pub returns : goal.returns
returns c =
    let o = c.args.self.now in
    let s : Swapped o.states c.exchange_in.new.states c.args.i c.args.j = subst (λ xs. Swapped xs c.exchange_in.new.states c.args.i c.args.j) c.deref_mut.ensures.value c.exchange_in.ensures.swapped in
    rw (written o.states c.exchange_in.new.states (search rules)) s
