use Rattle.std.proofs.Common.{◌≡◌, ℕ, length, get_or, ℤ, pos, sym, ap, ◌∙◌, arith, w64, to_z}
use Rattle.std.proofs.lemmas.List.FromFn.{length-map-range_with_len, get_or-map-range_with_len, map-range_with_len_more}
use Rattle.std.proofs.lemmas.Int.{to_z_pos}
use Rattle.std.specs.Option.{unwrap_or}
use Rattle.numbering.specs.Kinds.{kind_of}
use Rattle.numbering.proofs.Earliest.{kind_in, kind_low, kind_found}
use Rattle.numbering.proofs.find_kinds.Goals as goal

pub push-requires : goal.push-requires
push-requires c =
    let n : length c.loop-x.kinds ≡ c.loop-x.x = ap length c.loop-x.invariant ∙ length-map-range_with_len _ 0 c.loop-x.x in
    omega (arith, c.requires.few, c.loop-x-test.true)

pub loop-x-preserved : goal.loop-x-preserved
loop-x-preserved c =
    let states = c.args.states.now in
    let x : ℕ = c.loop-x.x in
    let kind : ℕ → ℤ = λ x. pos (kind_of states x) in
    let is : c.unwrap_or-kind.result ≡ kind_of states x = c.unwrap_or-kind.ensures ∙ ap (λ p. unwrap_or p x) c.find_alike.ensures ∙ kind_found states x c.loop-x-test.true in
    let found : to_z w64 c.unwrap_or-kind.result ≡ kind x = to_z_pos w64 c.unwrap_or-kind.result (omega (arith, kind_low states x, c.requires.few, c.loop-x-test.true)) ∙ ap pos is in
    c.push.ensures ∙ rw (c.loop-x.invariant, found) (sym (map-range_with_len_more kind 0 x x (omega arith)))

pub returns : goal.returns
returns c =
    let n : length c.loop-x.kinds ≡ c.loop-x.x = ap length c.loop-x.invariant ∙ length-map-range_with_len _ 0 c.loop-x.x in
    let kind : ℕ → ℤ = λ x. pos (kind_of c.args.states.now x) in
    record {
      len = omega (arith, c.loop-x-test.false, c.loop-x.auto.x-end);
      each = λ t e x l.
          ap (λ z. get_or z x (pos 0)) c.loop-x.invariant ∙ get_or-map-range_with_len kind 0 c.loop-x.x x x (pos 0) (omega (arith, c.loop-x-test.false)) (omega arith) ∙ ap pos (kind_in t c.args.states.now x e);
    }
