-- What the turns of a backup are.
use Rattle.std.specs.Prelude.{◌≡◌, ◌≢◌, ◌⊎◌, ◌<◌, ℕ, Bool, true, false, if◌then◌else◌, List, length, Option, Some, is_some, option_map}
use Rattle.log_entry.specs.declared.entry.Entry.{Entry}
use Rattle.pair_rule.specs.declared.mailbox.Mailbox.TheVariants.{Inbox}
use Rattle.pair_rule.specs.declared.payload.Packet.{Packet}
use Rattle.pair_rule.specs.declared.payload.Payload.TheVariants.{Log}
use Rattle.pair_rule.specs.declared.view.Core.{Core}
use Rattle.pair_rule.specs.Seats.{Empties}
use Rattle.pair_threads.specs.declared.backup.BackupChore.{BackupChore}
use Rattle.pair_threads.specs.declared.backup.BackupChore.TheVariants.{Take, Hold, Replay}
use Rattle.pair_threads.specs.declared.worker.Turn.{Turn}
use Rattle.pair_threads.specs.declared.worker.Turn.TheVariants.{Moved, Looks, Waits, Ends}

-- it takes, acknowledges and repeats, in rotation
abbrev pub next_chore : BackupChore → BackupChore
next_chore Take = Hold
next_chore Hold = Replay
next_chore Replay = Take

-- a turn that did nothing: if it has repeated all, it waits, or looks for something else at once
abbrev pub turn_of_nothing : Bool → Bool → Turn
turn_of_nothing waits all = if all then (if waits then Waits else Looks) else Moved

-- it waits once in a rotation: after a look into its box
abbrev pub turn_of_take : Bool → Bool → Turn
turn_of_take found all = if found then Moved else turn_of_nothing true all

-- a packet is taken, or none is there
abbrev pub TakesPacket : Core → Core → Bool → Turn → Type 0
TakesPacket old new all turn =
    (found : Option Packet) × Empties Inbox (option_map Log found) old new × (turn ≡ turn_of_take (is_some found) all)

-- once its list has grown, its guest makes at most 1,000 steps before the next look
abbrev pub LooksSoon : List Entry → List Entry → ℕ → Type 0
LooksSoon old new stride = length old < length new → stride ≡ 1000

-- a look into its box, unless its guest is too far behind: then it goes on to repeat
abbrev pub IsLook : Bool → Core → Core → Bool → Turn → Type 0
IsLook true old new all turn = (new ≡ old) × (turn ≡ Looks)
IsLook false old new all turn = TakesPacket old new all turn

-- a turn by its chore, by whether its guest was too far behind, by what was found in the box, and by whether its guest has then
-- repeated all
abbrev pub IsTurnOf : BackupChore → Bool → Core → Core → Bool → Turn → Type 0
IsTurnOf Take far old new all turn = IsLook far old new all turn
IsTurnOf Hold far old new all turn = turn ≡ turn_of_nothing false all
IsTurnOf Replay far old new all turn = turn ≡ turn_of_nothing false all

-- a turn in which it asks to go on alone: it moves if it has won, and is at its end if it has lost
abbrev pub turn_of_asking : Bool → Turn
turn_of_asking won = if won then Moved else Ends

-- a turn after it has won: it repeats what it still holds, and is at its end if that is nothing
abbrev pub turn_of_draining : Bool → Turn
turn_of_draining all = if all then Ends else Moved

-- a turn of this number: by whether it had won, and whether it was planned to ask in it
abbrev pub IsTurn : Bool → Option ℕ → ℕ → Bool → Bool → Type 0 → Turn → Type 0
IsTurn true contests_at number all won follows turn = turn ≡ turn_of_draining all
IsTurn false contests_at number all won follows turn =
    ((contests_at ≡ Some number) × (turn ≡ turn_of_asking won)) ⊎ ((contests_at ≢ Some number) × follows)
