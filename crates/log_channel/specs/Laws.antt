-- What code that joins the two ends may rely on.
use Rattle.std.specs.Prelude.{◌≡◌, ℕ, ◌≤◌, Bool, List, [], ◌∷◌, ◌++◌, length, take, drop, slice_get, Option, Some, None, Result}
use Rattle.i8080_words.specs.declared.refusal.Fault.{Fault}
use Rattle.log_entry.specs.declared.entry.Entry.{Entry}
use Rattle.log_entry.specs.Numbers.{IsBytes}
use Rattle.log_channel.specs.declared.packet.Packet.{Packet}
use Rattle.log_channel.specs.declared.packet.Packet.TheVariants.{Log, Ack}
use Rattle.log_channel.specs.Channel.{Receiving, Answers, heard}
use Rattle.log_channel.specs.Packet.{packet_bytes, IsPacket, packet_at}

-- ---- the grammar

-- what is written is read back
abbrev pub ReadsAgain : Type 0
ReadsAgain = (p : Packet) → IsPacket p → packet_at (packet_bytes p) ≡ Some p

-- bytes that are read as a packet are its spelling
abbrev pub OneSpelling : Type 0
OneSpelling = (bytes : List ℕ) (p : Packet) → IsBytes bytes → packet_at bytes ≡ Some p
    → IsPacket p × (bytes ≡ packet_bytes p)

-- no two packets share a spelling
abbrev pub OneMeaning : Type 0
OneMeaning = (p other : Packet) → IsPacket p → IsPacket other → packet_bytes p ≡ packet_bytes other → p ≡ other

-- ---- both ends

-- a packet of this generation names an entry of the log at its index
abbrev pub IsSent : ℕ → List Entry → Option Packet → Type 0
IsSent generation es None = Unit {0}
IsSent generation es (Some (Ack of held replayed)) = Unit {0}
IsSent generation es (Some (Log of index e)) = of ≡ generation → slice_get es index ≡ Some e

-- the entries that were popped and those that are held are the first ones of the log
pub record HoldsFirst (es popped : List Entry) (r : Receiving) : Type 0 where
  pub prefix : popped ++ r.entries ≡ take r.held es
  pub within : r.held ≤ length es

-- that stays so while the log grows, packets of the log arrive in any order, and entries are popped
pub record KeepsHolding : Type 0 where
  pub begins : (es : List Entry) (generation : ℕ)
      → HoldsFirst es [] (record { generation = generation; held = 0; entries = [] })
  pub grows : (es more popped : List Entry) (r : Receiving) → HoldsFirst es popped r
      → HoldsFirst (es ++ more) popped r
  pub hears : (es popped : List Entry) (packet : Option Packet) (old new : Receiving) (result : Result Bool Fault)
      → HoldsFirst es popped old → IsSent old.generation es packet
      → Answers (heard old packet) old result new → HoldsFirst es popped new
  pub pops : (es popped : List Entry) (e : Entry) (r : Receiving) → HoldsFirst es popped r
      → slice_get r.entries 0 ≡ Some e
      → HoldsFirst es (popped ++ e ∷ []) (record r { entries = drop 1 r.entries })
