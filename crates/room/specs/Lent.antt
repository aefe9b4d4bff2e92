-- What a room holds once its items were lent for writing.
use Rattle.std.specs.Prelude.{List, ◌++◌, length, take, drop}
use Rattle.std.specs.Borrow.{Lends, Fml, RattleType, MutBor, Array}
use Rattle.room.specs.contracts.Room.{the_row}

-- the items that were written last
abbrev pub lent : (T N : RattleType) → MutBor (List T.Denot) → MutBor (List T.Denot) → Fml
lent T N room items = Lends (the_row T N) (Array T 0) room items (λ ws. take (length room.now) ws ++ drop (length ws) room.now)
