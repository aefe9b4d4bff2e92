use Rattle.std.proofs.Common.{◌≡◌, ℕ, ◌+◌, ◌≤◌, List, ◌++◌, length, take, drop, ap, ◌∙◌, arith}
use Rattle.std.proofs.lemmas.List.{length-set}
use Rattle.std.proofs.lemmas.Bool.{true≢false}
use Rattle.room.proofs.Written.{written}
use Rattle.partition.specs.Stretches.{stretch_at, marked}
use Rattle.partition.specs.Cuts.{mark_at}
use Rattle.partition.specs.declared.stretch.Stretch.{Stretch}
use Rattle.partition.proofs.Divides.{read_filled, read_within, two_runs, room_left, cut_read, whole_cut}
use Rattle.partition.proofs.cells.Cells.refine.Goals as goal

-- the nodes with the leaf marked, as they are written back
marked_back : (ns shown : List Stretch) (leaf : ℕ) → shown ≡ ns → let ws = mark_at shown leaf in take (length ns) ws ++ drop (length ws) ns ≡ mark_at ns leaf
marked_back ns shown leaf e = written ns (mark_at shown leaf) (length-set shown leaf (marked (stretch_at shown leaf)) ∙ ap (λ xs. length xs) e) ∙ ap (λ xs. mark_at xs leaf) e

pub cut_runs-requires : goal.cut_runs-requires
cut_runs-requires c =
    let h = c.requires in
    let ns : List Stretch = c.args.self.now.stretches in
    let e = ap (λ xs. stretch_at xs c.args.leaf) c.deref.ensures in
    let f = read_filled _ _ _ _ h.whole c.args.leaf h.known h.open _ e in
    let q = c.alike.ensures.other c.if-alike.false in
    let n = ap (λ xs. length xs) (marked_back ns c.deref_mut.result.now c.args.leaf c.deref_mut.ensures.value) ∙ length-set ns c.args.leaf (marked (stretch_at ns c.args.leaf)) in
    record {
      figured = h.figured;
      start_within = omega arith;
      end_within = read_within _ _ _ _ h.whole c.args.leaf h.known h.open _ e;
      number = omega (arith, n, room_left _ _ _ _ h.whole c.args.leaf h.known h.open _ e c.args.figures.now q.0 q.1 q.2 q.3 c.args.self.now.order.small);
    }

pub returns : goal.returns
returns c =
    let h = c.requires in
    let ns : List Stretch = c.args.self.now.stretches in
    let e = ap (λ xs. stretch_at xs c.args.leaf) c.deref.ensures in
    let f = read_filled _ _ _ _ h.whole c.args.leaf h.known h.open _ e in
    let q = c.alike.ensures.other c.if-alike.false in
    let m = marked_back ns c.deref_mut.result.now c.args.leaf c.deref_mut.ensures.value in
    let n = ap (λ xs. length xs) m ∙ length-set ns c.args.leaf (marked (stretch_at ns c.args.leaf)) in
    let r = two_runs _ _ _ _ _ _ _ _ _ _ _ h.whole.perm (read_within _ _ _ _ h.whole c.args.leaf h.known h.open _ e) f c.cut_runs.ensures q.0 q.1 q.2 q.3 in
    let two : length ns + 2 ≤ length c.cut_runs.new.self.stretches = omega (arith, n, r) in
    let cut = cut_read _ _ ns _ _ _ _ _ _ _ _ e m c.cut_runs.ensures in
    record {
      whole = whole_cut _ _ _ _ h.whole c.args.leaf h.known h.open _ _ _ _ _ cut two;
      cut = λ _. cut;
      two = λ _. two;
      level = λ z. absurd (true≢false z);
      same = λ z. absurd (true≢false z);
    }
