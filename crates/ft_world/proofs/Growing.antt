-- What is settled before rows of events is a prefix of what is settled after them, since rows are actions.
use Rattle.std.proofs.Common.{List}
use Rattle.ft_world.proofs.Words.{Changes, Copying, Event, First, IsCopying, Lawful, Machine, Nothing, Reached, Rows, World, changes-append, changes_grow, row_changes}
use Rattle.pair_protocol.specs.Change.{Stays}
use Rattle.pair_protocol.specs.Reply as protocol
use Rattle.pair_protocol.specs.Grows.{Grows}

-- rows are actions
rows_changes : {S : Type 0} (M : Machine S) (C : Copying S) (w new : World S) (events : List Event)
    (replies : List protocol.Reply) → Rows M C w events replies new → Changes M C w new
rows_changes M C w new events replies Nothing = Stays
rows_changes M C w new events replies (First {mid = v} {e = e} {events = es} {r = r} {replies = rs} row rest) =
    changes-append M C w v new (row_changes M C w v e r row) (rows_changes M C v new es rs rest)

-- rows of events let what is settled grow
pub rows_grow : {S : Type 0} (M : Machine S) (C : Copying S) → Lawful M → IsCopying M C → (w new : World S) (events : List Event)
    (replies : List protocol.Reply) → Reached M C w → Rows M C w events replies new →
    Grows M w new
rows_grow M C laws copies w new events replies h rows =
    changes_grow M C laws copies w new h (rows_changes M C w new events replies rows)
