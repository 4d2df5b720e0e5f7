-- What happens to the packets that the link takes out.
use Rattle.std.specs.Prelude.{◌≡◌, ℕ, ◌+◌, ◌-◌, ◌^◌, min, Option, Some, None, is_some, option_map, unwrap_or, if◌then◌else◌, List, length, slice_get}
use Rattle.std.specs.Option.{option_or}
use Rattle.pair_rule.specs.Seats.{Carrier, Empties, Fills}
use Rattle.pair_rule.specs.declared.mailbox.Mailbox.TheVariants.{Inbox, Outbox}
use Rattle.pair_rule.specs.declared.payload.Packet.{Packet}
use Rattle.pair_rule.specs.declared.payload.Payload.TheVariants.{Log}
use Rattle.pair_threads.specs.declared.link.Fate.{Fate}
use Rattle.pair_threads.specs.declared.link.Fate.TheVariants.{Pass, Drop, Twice}
use Rattle.pair_threads.specs.declared.link.LinkWorker.{LinkWorker}
use Rattle.pair_threads.specs.declared.worker.Turn.{Turn}
use Rattle.pair_threads.specs.Turns.{turn_by}

-- the fate of a packet by its place among them, from 0: the one at that place of the list, else the list's last one;
-- without a list it is delivered
abbrev pub fate_at : List Fate → ℕ → Fate
fate_at fates packet = unwrap_or (option_or (slice_get fates packet) (slice_get fates (length fates - 1))) Pass

-- what the link has done with the packet in its hand, and the fate of what it then has there: it delivered the packet; it
-- lost it; or it delivered it, and will deliver it once more
abbrev pub IsDealtWith : Fate → Packet → Carrier → Carrier → Option Fate → Type 0
IsDealtWith Pass p old new next = Fills Inbox (Log p) old.core new.core × (new.hand ≡ None) × (next ≡ None)
IsDealtWith Drop p old new next = (new.core ≡ old.core) × (new.hand ≡ None) × (next ≡ None)
IsDealtWith Twice p old new next = Fills Inbox (Log p) old.core new.core × (new.hand ≡ Some p) × (next ≡ Some Pass)

-- it took the next packet out, if one was there, and counted it: its fate is the one by how many were taken out before it
abbrev pub HasTaken : LinkWorker → LinkWorker → Type 0
HasTaken old new =
    Empties Outbox (option_map Log new.seat.hand) old.seat.core new.seat.core × (new.fates ≡ old.fates)
    × (new.fate ≡ (if is_some new.seat.hand then Some (fate_at old.fates.items old.packets) else None))
    × (new.packets ≡ (if is_some new.seat.hand then min (old.packets + 1) (2 ^ 64 - 1) else old.packets))

-- what it has done in a turn: with a packet in its hand it did what the packet's fate says, and counted none; with none it took the
-- next one out
abbrev pub CarriesBy : Option Fate → LinkWorker → LinkWorker → Type 0
CarriesBy (Some fate) old new =
    ((p : Packet) × (old.seat.hand ≡ Some p) × IsDealtWith fate p old.seat new.seat new.fate)
    × (new.fates ≡ old.fates) × (new.packets ≡ old.packets)
CarriesBy None old new = HasTaken old new

abbrev pub HasCarried : LinkWorker → LinkWorker → Turn → Type 0
HasCarried old new turn = (turn ≡ turn_by (is_some old.fate) (is_some new.fate)) × CarriesBy old.fate old new
