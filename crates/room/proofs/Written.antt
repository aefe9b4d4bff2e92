-- What a room holds after its items were lent: as many as before, so those that were written last.
use Rattle.std.proofs.Common.{◌≡◌, List, ◌++◌, length, take, drop, arith}
use Rattle.std.proofs.lemmas.List.{take_all, drop_all, append-nil}

pub written : {X : Type 0} (xs ws : List X) → length ws ≡ length xs → take (length xs) ws ++ drop (length ws) xs ≡ ws
written xs ws e = rw (take_all (length xs) ws (omega arith), drop_all (length ws) xs (omega arith)) (append-nil ws)
