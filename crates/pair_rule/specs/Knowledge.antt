-- What the seats know together, what holds of it, and how each step changes it.
use Rattle.std.specs.Prelude.{◌≡◌, ◌≢◌, ◌⊎◌, ℕ, zero, suc, ◌+◌, ◌<◌, ◌≤◌, ◌==◌, cond, List, [], ◌∷◌, ◌++◌, length, Option, Some, None}
use mathlib.Core.Option.{some}
use lib.ListN.{get_elem?}
use Rattle.disk_dcdd.specs.declared.sector.SectorWrite.{SectorWrite}
use Rattle.event_callbacks.specs.declared.operations.Operation.{Operation}
use Rattle.event_callbacks.specs.declared.operations.Operation.TheVariants.{Byte, Write}
use Rattle.log_entry.specs.declared.entry.Entry.{Entry}
use Rattle.pair_protocol.specs.Lawful.{Among}
use Rattle.pair_rule.specs.declared.mailbox.Mailbox.{Mailbox}
use Rattle.pair_rule.specs.declared.mailbox.Mailbox.TheVariants.{Outbox, Inbox, Bytes0, Bytes1, Requests, Answers}
use Rattle.pair_rule.specs.declared.payload.Packet.{Packet}
use Rattle.pair_rule.specs.declared.payload.Payload.{Payload}
use Rattle.pair_rule.specs.declared.payload.Payload.TheVariants.{Log, Out, Request, Answer}
use Rattle.pair_rule.specs.declared.payload.DiskRequest.{DiskRequest}
use Rattle.pair_rule.specs.declared.payload.DiskRequest.TheVariants as ask
use Rattle.pair_rule.specs.declared.payload.DiskAnswer.{DiskAnswer}
use Rattle.pair_rule.specs.declared.payload.DiskAnswer.TheVariants as answer
use Rattle.disk_dcdd.specs.Address.{address_of}
use Rattle.disk_dcdd.specs.declared.address.SectorAddress.{SectorAddress}
use Rattle.shared_disk.specs.Arrivals.{read_address}
use Rattle.pair_rule.specs.declared.view.Arrived.{Arrived}
use Rattle.pair_rule.specs.declared.view.BackupView.{BackupView}
use Rattle.pair_rule.specs.declared.view.DiskView.{DiskView}
use Rattle.pair_rule.specs.declared.view.Knowledge.{Knowledge}
use Rattle.pair_rule.specs.declared.view.PrimaryCall.{PrimaryCall}
use Rattle.pair_rule.specs.declared.view.PrimaryCall.TheVariants.{Appended, Released}
use Rattle.pair_rule.specs.declared.view.PrimaryView.{PrimaryView}
use Rattle.pair_protocol.specs.World.{latest}

-- ---- the words that what is known gives

-- the last of a list
abbrev pub last_or : ℕ → List ℕ → ℕ
last_or x [] = x
last_or x (y ∷ ys) = last_or y ys

-- how many bytes are accepted, after n of them
abbrev pub accepted_after : ℕ → List Arrived → ℕ
accepted_after n [] = n
accepted_after n (a ∷ arrivals) = cond (a.number == n + 1) (accepted_after (n + 1) arrivals) (accepted_after n arrivals)

-- how many bytes of a port are accepted
abbrev pub accepted_at : ℕ → Knowledge → ℕ
accepted_at zero k = accepted_after 0 k.terminal.arrivals0
accepted_at (suc port) k = accepted_after 0 k.terminal.arrivals1

-- what the primary saw counted at a port
abbrev pub counted_at : ℕ → Knowledge → ℕ
counted_at zero k = k.primary.counted0
counted_at (suc port) k = k.primary.counted1

-- who won: 0 for none, 1 the primary, 2 the backup
abbrev pub winner_of : ℕ → ℕ → ℕ
winner_of zero backup = backup
winner_of (suc primary) backup = suc primary

-- word 0 is the length of the list, 1 what is acknowledged, 2 the winner, 3 and 4 the bytes accepted at ports 0 and 1
abbrev pub words_of : Knowledge → List ℕ
words_of k =
    length k.primary.list ∷ last_or 0 k.backup.held_values ∷ winner_of k.primary.winner k.backup.winner
    ∷ accepted_after 0 k.terminal.arrivals0 ∷ accepted_after 0 k.terminal.arrivals1 ∷ []

-- ---- what holds

-- the packet is that entry of the primary's list
abbrev pub IsEntryOf : ℕ → List Entry → Packet → Type 0
IsEntryOf g list p = (p.generation ≡ g) × (get_elem? list p.index ≡ some p.entry)

-- the list begins with the copy
abbrev pub StartsWith : List Entry → List Entry → Type 0
StartsWith list copy = (more : List Entry) × (list ≡ copy ++ more)

-- the numbers never fall from `low` on, and none is past `high`
abbrev pub Rising : ℕ → ℕ → List ℕ → Type 0
Rising low high [] = low ≤ high
Rising low high (x ∷ xs) = (low ≤ x) × Rising x high xs

-- an operation in a hand was released to that port
abbrev pub IsByteOf : ℕ → List Operation → Operation → Type 0
IsByteOf port released (Byte to number byte) = (to ≡ port) × Among (Byte to number byte) released
IsByteOf port released (Write w) = ⊥

-- a write was released
abbrev pub IsAsked : List Operation → DiskRequest → Type 0
IsAsked released (ask.Write w) = Among (Write w) released
IsAsked released (ask.Read a) = Unit {0}

-- what may lie in a box, by the primary's list, what it released, and what the disk answered
abbrev pub MayLie : Mailbox → ℕ → List Entry → List Operation → List DiskAnswer → Payload → Type 0
MayLie Outbox g list released given (Log p) = IsEntryOf g list p
MayLie Inbox g list released given (Log p) = IsEntryOf g list p
MayLie Bytes0 g list released given (Out o) = IsByteOf 0 released o
MayLie Bytes1 g list released given (Out o) = IsByteOf 1 released o
MayLie Requests g list released given (Request r) = IsAsked released r
MayLie Answers g list released given (Answer a) = Among a given
MayLie _ g list released given _ = ⊥

abbrev pub Fits : Mailbox → Knowledge → Payload → Type 0
Fits b k x = MayLie b k.generation k.primary.list k.primary.released k.disk.given x

-- it holds of the value, if there is one
abbrev pub WhereSome : {A : Type 0} → Option A → (A → Type 0) → Type 0
WhereSome None holds = Unit {0}
WhereSome (Some x) holds = holds x

-- it holds of each element
abbrev pub AllAre : {A : Type 0} → List A → (A → Type 0) → Type 0
AllAre [] holds = Unit {0}
AllAre (x ∷ xs) holds = holds x × AllAre xs holds

-- whoever asked knows who won, and there is only one winner
pub record Decided (primary backup : ℕ) : Type 0 where
  pub few : winner_of primary backup < 3
  pub same : primary ≢ 0 → backup ≢ 0 → primary ≡ backup
  -- whoever lost knows that the other one asked first
  pub primary_lost : primary ≡ 2 → backup ≡ 2
  pub backup_lost : backup ≡ 1 → primary ≡ 1

-- a write was put with that number; a sector is as a write put it, or it is as it was, under number 0
abbrev pub HasWrite : List SectorWrite → ℕ → Type 0
HasWrite puts n = (w : SectorWrite) × Among w puts × (w.number ≡ n)

-- an answer is of a write that was put, or of a read
abbrev pub IsReplied : List SectorWrite → DiskAnswer → Type 0
IsReplied puts (answer.Written n) = HasWrite puts n
IsReplied puts (answer.Read r) = (r.number ≡ 0) ⊎
    ((w : SectorWrite) × Among w puts × (address_of w ≡ read_address r) × (w.number ≡ r.number) × (w.bytes ≡ r.bytes))

-- the primary's list: the backup's copy, the packet in the link, what is acknowledged, and what the primary saw of it
pub record ListStands (generation : ℕ) (list : List Entry) (link : Option Packet) (copy : List Entry)
    (held_values : List ℕ) (seen : ℕ) : Type 0 where
  pub prefix : StartsWith list copy
  pub in_link : WhereSome link (IsEntryOf generation list)
  pub rising : Rising 0 (length copy) held_values
  pub behind : seen ≤ last_or 0 held_values
  pub once : (seen ≡ 0) ⊎ Among seen held_values

-- a port: the primary counts no byte that its terminal has not accepted, and what arrived there was released
pub record PortStands (port : ℕ) (released : List Operation) (counted : ℕ) (hand : Option Operation)
    (arrivals : List Arrived) : Type 0 where
  pub accepted : counted ≤ accepted_after 0 arrivals
  pub in_hand : WhereSome hand (IsByteOf port released)
  pub arrived : AllAre arrivals (λ a. Among (Byte port a.number a.byte) released)

-- the disk: what it took and put was released, and each answer that the primary has is one of its answers
pub record DiskStands (released : List Operation) (had : List DiskAnswer) (disk : DiskView) : Type 0 where
  pub taken : WhereSome disk.taken (IsAsked released)
  pub puts : AllAre disk.puts (λ w. Among (Write w) released)
  pub answers : AllAre had (λ a. Among a disk.given)
  pub replies : AllAre disk.given (IsReplied disk.puts)

-- what holds of all that the seats know
pub record Stands (k : Knowledge) : Type 0 where
  pub log : ListStands k.generation k.primary.list k.link k.backup.list k.backup.held_values k.primary.seen
  pub decided : Decided k.primary.winner k.backup.winner
  pub port0 : PortStands 0 k.primary.released k.primary.counted0 k.terminal.hand0 k.terminal.arrivals0
  pub port1 : PortStands 1 k.primary.released k.primary.counted1 k.terminal.hand1 k.terminal.arrivals1
  pub disk : DiskStands k.primary.released k.primary.answers k.disk

-- ---- how each step changes what is known

-- the backup after a packet: its list is longer if the packet is the next one
abbrev pub grown : BackupView → Packet → BackupView
grown b p = record b { list = cond (p.index == length b.list) (b.list ++ p.entry ∷ []) b.list }

-- a write that is answered was put there
abbrev pub put_by : Option DiskRequest → List SectorWrite → List SectorWrite
put_by None puts = puts
put_by (Some (ask.Write w)) puts = puts ++ w ∷ []
put_by (Some (ask.Read a)) puts = puts

-- what is released with a request
abbrev pub released_by : List Operation → DiskRequest → List Operation
released_by released (ask.Write w) = released ++ Write w ∷ []
released_by released (ask.Read a) = released

-- the calls of the primary that promise something: an entry was appended, an operation released
abbrev pub with_entry : Entry → PrimaryView → PrimaryView
with_entry e p = record p {
  list = p.list ++ e ∷ [];
  calls = Appended p.list p.counted0 p.counted1 p.answers e ∷ p.calls;
}

-- how often the disk was asked, after a release: a write is released by a request
abbrev pub asked_after : Operation → ℕ → ℕ
asked_after (Byte port number byte) n = n
asked_after (Write w) n = n + 1

abbrev pub with_release : Operation → PrimaryView → PrimaryView
with_release o p = record p {
  released = p.released ++ o ∷ [];
  asked = asked_after o p.asked;
  calls = Released p.list p.seen o ∷ p.calls;
}

abbrev pub calls_by : DiskRequest → PrimaryView → List PrimaryCall
calls_by (ask.Write w) p = Released p.list p.seen (Write w) ∷ p.calls
calls_by (ask.Read a) p = p.calls

abbrev pub with_request : DiskRequest → PrimaryView → PrimaryView
with_request r p = record p { released = released_by p.released r; asked = p.asked + 1; calls = calls_by r p }

-- what the seat that fills a box knows then
abbrev pub after_fill : Mailbox → Payload → Knowledge → Knowledge
after_fill Bytes0 (Out o) k = record k { primary = with_release o k.primary }
after_fill Bytes1 (Out o) k = record k { primary = with_release o k.primary }
after_fill Requests (Request r) k = record k { primary = with_request r k.primary }
after_fill Answers (Answer a) k = record k {
  disk = record k.disk {
    puts = put_by k.disk.taken k.disk.puts;
    given = k.disk.given ++ a ∷ [];
  };
}
after_fill _ _ k = k

-- what the seat that empties a box knows then
abbrev pub after_empty : Mailbox → Payload → Knowledge → Knowledge
after_empty Outbox (Log p) k = record k { link = Some p }
after_empty Inbox (Log p) k = record k { backup = grown k.backup p }
after_empty Bytes0 (Out o) k = record k { terminal = record k.terminal { hand0 = Some o } }
after_empty Bytes1 (Out o) k = record k { terminal = record k.terminal { hand1 = Some o } }
after_empty Requests (Request r) k = record k { disk = record k.disk { taken = Some r; takes = k.disk.takes + 1 } }
after_empty Answers (Answer a) k = record k { primary = record k.primary { answers = k.primary.answers ++ a ∷ [] } }
after_empty _ _ k = k

-- the list, what was seen, and what is acknowledged grow
abbrev pub appended : Entry → Knowledge → Knowledge
appended e k = record k { primary = with_entry e k.primary }

abbrev pub saw : ℕ → Knowledge → Knowledge
saw n k = record k { primary = record k.primary { seen = n } }

abbrev pub held : Knowledge → Knowledge
held k = record k { backup = record k.backup { held_values = k.backup.held_values ++ length k.backup.list ∷ [] } }

-- who asks is told who asked first, which is itself if nobody had
abbrev pub winner_after : ℕ → ℕ → ℕ
winner_after me found = cond (found == 0) me found

abbrev pub primary_asked : ℕ → Knowledge → Knowledge
primary_asked found k = record k { primary = record k.primary { winner = winner_after 1 found } }

abbrev pub backup_asked : ℕ → Knowledge → Knowledge
backup_asked found k = record k { backup = record k.backup { winner = winner_after 2 found } }

-- the byte in a hand arrives
abbrev pub arrives : Option Operation → List Arrived → List Arrived
arrives None arrivals = arrivals
arrives (Some (Byte port number byte)) arrivals = arrivals ++ record { number = number; byte = byte } ∷ []
arrives (Some (Write w)) arrivals = arrivals

-- a byte in hand arrives, and what is counted is seen
abbrev pub byte_arrived : ℕ → Knowledge → Knowledge
byte_arrived zero k = record k { terminal = record k.terminal { arrivals0 = arrives k.terminal.hand0 k.terminal.arrivals0 } }
byte_arrived (suc port) k = record k {
  terminal =
      record k.terminal { arrivals1 = arrives k.terminal.hand1 k.terminal.arrivals1 };
}

abbrev pub saw_count : ℕ → ℕ → Knowledge → Knowledge
saw_count zero n k = record k { primary = record k.primary { counted0 = n } }
saw_count (suc port) n k = record k { primary = record k.primary { counted1 = n } }

-- what may be put into a box
abbrev pub CanFill : Mailbox → Knowledge → Payload → Type 0
CanFill Outbox k (Log p) = IsEntryOf k.generation k.primary.list p
CanFill Inbox k (Log p) = k.link ≡ Some p
CanFill Bytes0 k (Out (Byte to number byte)) = to ≡ 0
CanFill Bytes1 k (Out (Byte to number byte)) = to ≡ 1
CanFill Requests k (Request r) = Unit {0}
CanFill Answers k (Answer a) = IsReplied (put_by k.disk.taken k.disk.puts) a
CanFill _ k _ = ⊥

-- it is the answer to the request that was taken last: for a read what the greatest answered write there left, or the
-- sector as it was, with number 0
abbrev pub Replies : DiskView → DiskAnswer → Type 0
Replies d (answer.Written n) = (w : SectorWrite) × (d.taken ≡ Some (ask.Write w)) × (n ≡ w.number)
Replies d (answer.Read r) =
    (a : SectorAddress) × (d.taken ≡ Some (ask.Read a))
    × (a ≡ record { drive = r.drive; track = r.track; sector = r.sector })
    × (latest (record { number = 0; bytes = r.bytes }) d.puts a ≡ record { number = r.number; bytes = r.bytes })

-- the number that the terminal writes is the number accepted with the byte in hand
abbrev pub accepted_with : ℕ → Knowledge → ℕ
accepted_with zero k = accepted_after 0 (arrives k.terminal.hand0 k.terminal.arrivals0)
accepted_with (suc port) k = accepted_after 0 (arrives k.terminal.hand1 k.terminal.arrivals1)
