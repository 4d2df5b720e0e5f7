-- The two ends of a log's channel: what each knows, and what it returns.
use Rattle.std.specs.Prelude.{◌≡◌, ◌≢◌, ℕ, ◌+◌, ◌-◌, ◌^◌, ◌<◌, List, [], ◌∷◌, ◌++◌, max, Bool, true, false, not, Option, Some, None, Result, Ok, Err, MatchResult, unwrap_or, nat_lt, ◌==◌, if◌then◌else◌}
use Rattle.std.specs.Global.{Vec}
use Rattle.i8080_words.specs.declared.refusal.Fault.{Fault}
use Rattle.i8080_words.specs.declared.refusal.Fault.TheVariants.{OutOfMemory, WrongGeneration, Malformed, Unknown, BadAck}
use Rattle.log_entry.specs.declared.entry.Entry.{Entry}
use Rattle.log_entry.specs.Spelling.{IsEntry}
use Rattle.log_channel.specs.declared.packet.Packet.{Packet}
use Rattle.log_channel.specs.declared.packet.Packet.TheVariants.{Log, Ack}
use Rattle.log_channel.specs.Packet.{packet_bytes}

-- the primary's end: its generation, the most entries that the backup has said it holds, and the most that it has said
-- are replayed
pub record Sending : Type 0 where
  pub generation : ℕ
  pub held : ℕ
  pub replayed : ℕ

-- the backup's end: how many entries it has ever held, and those of them that are not popped yet
pub record Receiving : Type 0 where
  pub generation : ℕ
  pub held : ℕ
  pub entries : List Entry

-- ---- packets that are made

-- the bytes of the packet, if there is one
abbrev pub Spells : Option Packet → Result (Vec ℕ) Fault → Type 0
Spells None result = result ≡ Err Unknown
Spells (Some packet) result =
    MatchResult result (λ bytes. bytes.items ≡ packet_bytes packet) (λ fault. fault ≡ OutOfMemory)

-- the packet of an entry that is kept
abbrev pub packet_of : ℕ → ℕ → Option Entry → Option Packet
packet_of generation index None = None
packet_of generation index (Some entry) = Some (Log generation index entry)

-- the packet that acknowledges what is held, and reports how much of it is replayed
abbrev pub ack_of : Receiving → Option ℕ → Packet
ack_of r replayed = Ack r.generation r.held replayed

-- ---- packets that arrive at the primary

-- an acknowledgement of no more entries than the log has returns the greatest number so far
abbrev pub ack_answer : Sending → ℕ → Option Packet → Result ℕ Fault
ack_answer s next None = Err Malformed
ack_answer s next (Some (Log generation index entry)) = Err Malformed
ack_answer s next (Some (Ack generation held replayed)) =
    if not (generation == s.generation) then Err WrongGeneration
    else if nat_lt next held then Err BadAck
    else Ok (max s.held held)

-- how many entries a packet reports as replayed; one without a report reports 0
abbrev pub replayed_in : Option Packet → ℕ
replayed_in None = 0
replayed_in (Some (Log generation index entry)) = 0
replayed_in (Some (Ack generation held replayed)) = unwrap_or replayed 0

-- what is known then: the greatest numbers so far; a refusal changes nothing
abbrev pub acknowledged : Sending → Option Packet → Result ℕ Fault → Sending
acknowledged s packet (Ok held) = record s { held = held; replayed = max s.replayed (replayed_in packet) }
acknowledged s packet (Err fault) = s

-- ---- packets that arrive at the backup

-- what a packet is to the backup: refused, a repeat or one past a gap, or the next entry
pub data Heard : Type 0 where
  Refused : (fault : Fault) → Heard
  OutOfTurn : Heard
  Next : (entry : Entry) → Heard

abbrev pub heard : Receiving → Option Packet → Heard
heard r None = Refused Malformed
heard r (Some (Ack generation held replayed)) = Refused Malformed
heard r (Some (Log generation index entry)) =
    if not (generation == r.generation) then Refused WrongGeneration
    else if not (index == r.held) then OutOfTurn
    else Next entry

-- one more entry is held, after the others
abbrev pub holding : Receiving → Entry → Receiving
holding r entry = record r { held = r.held + 1; entries = r.entries ++ entry ∷ [] }

-- the next entry, if the packet brings it
abbrev pub next_in : Heard → Result (Option Entry) Fault
next_in (Refused fault) = Err fault
next_in OutOfTurn = Ok None
next_in (Next entry) = Ok (Some entry)

-- an entry that can be spelled, for which an index is left
abbrev pub MayHold : Receiving → Entry → Type 0
MayHold r entry = IsEntry entry × (r.held < 2 ^ 62 - 1)

-- an entry is held, or memory ran out, which is needed only if others are held before it
abbrev pub Holds : Entry → Receiving → Result (Unit {0}) Fault → Receiving → Type 0
Holds entry old (Ok done) new = new ≡ holding old entry
Holds entry old (Err fault) new = (fault ≡ OutOfMemory) × (new ≡ old) × (old.entries ≢ [])

-- only the next entry changes anything
abbrev pub Answers : Heard → Receiving → Result Bool Fault → Receiving → Type 0
Answers (Refused fault) old result new = (result ≡ Err fault) × (new ≡ old)
Answers OutOfTurn old result new = (result ≡ Ok false) × (new ≡ old)
Answers (Next entry) old (Ok answer) new = (answer ≡ true) × Holds entry old (Ok tt) new
Answers (Next entry) old (Err fault) new = Holds entry old (Err fault) new
