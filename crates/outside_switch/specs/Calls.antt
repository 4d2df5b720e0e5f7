-- The calls of the devices one after another, with the frames of the law that go with each.
use Rattle.std.specs.Prelude.{◌≡◌, ℕ, Bool, IsTrue, nat_lt, List, [], ◌++◌, Ok, Err}
use Rattle.arbiter_core.specs.declared.arbiter.Won.{Won}
use Rattle.disk_dcdd.specs.declared.address.SectorAddress.{SectorAddress}
use Rattle.disk_dcdd.specs.declared.sector.SectorWrite.{SectorWrite}
use Rattle.event_callbacks.specs.declared.operations.Operation.TheVariants.{Byte, Write}
use Rattle.i8080_words.specs.declared.refusal.Fault.{Fault}
use Rattle.i8080_words.specs.declared.refusal.Fault.TheVariants.{Lost}
use Rattle.pair_protocol.specs.World.{Released, WriteDone, SectorRead}
use Rattle.shared_disk.specs.declared.disk.SectorRead as device
use Rattle.host_law.specs.Frame.{Frame, Carries, AsksSector, TellsKeys, AsksArbiter, Key, AreAccepted, HasWon, HasLost, MayBegin, Act, quiet, taking, sending, answering}
use Rattle.outside_switch.specs.DeviceCalls.{Asks, Puts, Reads, admitted_after, arrived_after, key_answer, terminal_at, told_after, typed_after, typed_answer}
use Rattle.outside_switch.specs.Held.{Held}

-- one call, and what it leaves of the devices
pub data Call (held : Held) (new : Held) : Act → Type 0 where
  TypesKey : (port byte index : ℕ) → typed_answer held.terminals port ≡ Ok index →
      new ≡ record held { terminals = typed_after held.terminals port byte } → Call held new quiet
  SendsKey : (port index byte : ℕ) → key_answer held.terminals port index ≡ Ok byte → new ≡ held →
      Call held new (sending (Key port index byte))
  HearsKeys : (port keys : ℕ) → new ≡ record held { terminals = told_after held.terminals port keys } →
      Call held new (taking (TellsKeys port keys))
  TakesByte : (port number byte : ℕ) (room : Bool) →
      new ≡ record held { terminals = arrived_after held.terminals port number room } →
      Call held new (taking (Carries (Released (Byte port number byte))))
  SendsCount : (port : ℕ) → new ≡ held → Call held new (sending (AreAccepted port (terminal_at held.terminals port).accepted))
  Wins : (generation host : ℕ) (won : Won) → Asks held.askings generation host (Ok won) new.askings →
      new ≡ record held { askings = new.askings } →
      Call held new (answering (AsksArbiter host generation) (HasWon generation host))
  Loses : (generation host : ℕ) → Asks held.askings generation host (Err Lost) new.askings →
      new ≡ record held { askings = new.askings } →
      Call held new (answering (AsksArbiter host generation) (HasLost generation host))
  -- a question that could not be kept
  Forgets : (generation host : ℕ) (fault : Fault) → Asks held.askings generation host (Err fault) new.askings →
      new ≡ record held { askings = new.askings } → Call held new (taking (AsksArbiter host generation))
  PutsWrite : (write : SectorWrite) → Puts held.records write (Ok tt) new.records →
      new ≡ record held { records = new.records; may_fail = new.may_fail } →
      Call held new (answering (Carries (Released (Write write))) (Carries (WriteDone write.number)))
  RefusesWrite : (write : SectorWrite) (fault : Fault) → Puts held.records write (Err fault) new.records →
      new ≡ record held { records = new.records; may_fail = new.may_fail } →
      Call held new (taking (Carries (Released (Write write))))
  ReadsSector : (address : SectorAddress) (read : device.SectorRead) →
      Reads held.records address (Ok read) new.records →
      new ≡ record held { records = new.records; may_fail = new.may_fail } →
      Call held new (answering (AsksSector address) (Carries (SectorRead address read.number read.bytes)))
  RefusesRead : (address : SectorAddress) (fault : Fault) → Reads held.records address (Err fault) new.records →
      new ≡ record held { records = new.records; may_fail = new.may_fail } →
      Call held new (taking (AsksSector address))
  Offers : (generation : ℕ) → IsTrue (nat_lt generation held.hosts) → new ≡ held →
      Call held new (sending (MayBegin generation))
  Admits : (host : ℕ) → new ≡ record held { hosts = admitted_after held.hosts host } → Call held new quiet

-- calls one after another: the frames that they take, and those that they send
pub data Called (first : Held) : List Frame → List Frame → Held → Type 0 where
  Rests : Called first [] [] first
  Goes : {held : Held} {read written : List Frame} (new : Held) (act : Act) → Called first read written held →
      Call held new act → Called first (read ++ act.takes) (written ++ act.sends) new
