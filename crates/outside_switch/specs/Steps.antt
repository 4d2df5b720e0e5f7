-- What the calls are in the law: of whatever outside the devices show, each call is a step with these frames.
use Rattle.std.specs.Prelude.{◌≡◌, ℕ, ◌≤◌, Bool, IsTrue, if◌then◌else◌, nat_lt, Some, is_none, List, [], ◌∷◌, ◌++◌, length, slice_get, Ok, Err, Option}
use Rattle.arbiter_core.specs.declared.arbiter.Asking.{Asking}
use Rattle.arbiter_core.specs.declared.arbiter.Won.{Won}
use Rattle.disk_dcdd.specs.Address.{address_of, has_sector}
use Rattle.disk_dcdd.specs.declared.address.SectorAddress.{SectorAddress}
use Rattle.disk_dcdd.specs.declared.sector.SectorWrite.{SectorWrite}
use Rattle.event_callbacks.specs.declared.operations.Operation.TheVariants.{Byte, Write}
use Rattle.guest_lockstep.specs.Machine.{Machine}
use Rattle.i8080_words.specs.declared.refusal.Fault.{Fault}
use Rattle.i8080_words.specs.declared.refusal.Fault.TheVariants.{DeviceFault, Lost}
use Rattle.pair_protocol.specs.World.{Released, WriteDone, SectorRead, accepted_in, terminal_in, winner_in}
use Rattle.shared_disk.specs.declared.disk.SectorRead as device
use Rattle.shared_disk.specs.declared.store.Record.{Record}
use Rattle.host_law.specs.Frame.{Frame, Carries, AsksSector, TellsKeys, AsksArbiter, Key, AreAccepted, HasWon, HasLost, MayBegin, Act, quiet, taking, sending, answering}
use Rattle.host_law.specs.Outside.{Outside, OutsideStep, with_arrived, with_first, with_keys, with_typed}
use Rattle.outside_switch.specs.DeviceCalls.{Asks, Puts, Reads, admitted_after, arrived_after, is_accepted, key_answer, terminal_at, told_after, typed_after, typed_answer}
use Rattle.outside_switch.specs.Held.{Held}
use Rattle.outside_switch.specs.Shown.{Shows}
use Rattle.outside_switch.specs.Terminal.{key_of}

-- a step of the outside, after which the devices show what it leads to
pub record Makes {S : Type 0} (M : Machine S) (drives : ℕ) (o : Outside) (act : Act) (new : Held) (p : Outside)
    : Type 0 where
  pub step : OutsideStep M o act p
  pub shows : Shows M drives new p

-- ---- the terminals

-- a key that is typed: its index is how many were typed before
pub record TypesKey {S : Type 0} (M : Machine S) (drives : ℕ) (held : Held) (o : Outside) (port byte index : ℕ)
    : Type 0 where
  pub makes : Makes M drives o quiet (record held { terminals = typed_after held.terminals port byte })
      (with_typed o port byte)
  pub index_is : index ≡ length (terminal_in o.terminals port).typed

-- a byte that arrives: it arrives in the law if it is accepted, and is dropped if not; what was accepted until now is
-- what was shown until now
abbrev pub arrived : Bool → Outside → ℕ → ℕ → ℕ → Outside
arrived accepts o port number byte = if accepts then with_arrived o port number byte else o

pub record TakesByte {S : Type 0} (M : Machine S) (drives : ℕ) (held : Held) (o : Outside) (port number byte : ℕ)
    (room accepts : Bool) : Type 0 where
  pub makes : Makes M drives o (taking (Carries (Released (Byte port number byte))))
      (record held { terminals = arrived_after held.terminals port number room })
      (arrived accepts o port number byte)
  pub accepted : accepted_in (arrived accepts o port number byte).terminals port
      ≡ accepted_in o.terminals port ++ (if accepts then byte ∷ [] else [])

pub record TerminalsMake {S : Type 0} (M : Machine S) (drives : ℕ) (held : Held) (o : Outside) : Type 0 where
  pub types : (port byte index : ℕ) → typed_answer held.terminals port ≡ Ok index →
      TypesKey M drives held o port byte index
  pub sends_key : (port index byte : ℕ) → key_answer held.terminals port index ≡ Ok byte →
      OutsideStep M o (sending (Key port index byte)) o
  -- a key that is not covered is not forgotten
  pub keeps_keys : (port index : ℕ) → (terminal_in o.terminals port).told ≤ index →
      key_of (terminal_at held.terminals port) index ≡ slice_get (terminal_in o.terminals port).typed index
  pub hears : (port keys : ℕ) →
      Makes M drives o (taking (TellsKeys port keys))
      (record held { terminals = told_after held.terminals port keys }) (with_keys o port keys)
  pub takes : (port number byte : ℕ) (room : Bool) →
      TakesByte M drives held o port number byte room (is_accepted held.terminals port number room)
  pub sends_count : (port : ℕ) →
      OutsideStep M o (sending (AreAccepted port (terminal_at held.terminals port).accepted)) o
  -- and that is how many it has accepted
  pub counts : (port : ℕ) → (terminal_at held.terminals port).accepted ≡ length (accepted_in o.terminals port)

-- ---- the arbiter

-- the first to ask has won, if nobody has
abbrev pub asked : Outside → ℕ → ℕ → Outside
asked o generation host =
    if is_none (winner_in o.winners generation) then with_first o generation host else o

pub record Wins {S : Type 0} (M : Machine S) (drives : ℕ) (held : Held) (o : Outside) (generation host : ℕ)
    (askings : List Asking) : Type 0 where
  pub makes : Makes M drives o (answering (AsksArbiter host generation) (HasWon generation host))
      (record held { askings = askings }) (asked o generation host)
  pub won : winner_in (asked o generation host).winners generation ≡ Some host

pub record ArbiterMakes {S : Type 0} (M : Machine S) (drives : ℕ) (held : Held) (o : Outside) : Type 0 where
  pub wins : (generation host : ℕ) (won : Won) (askings : List Asking) →
      Asks held.askings generation host (Ok won) askings → Wins M drives held o generation host askings
  pub loses : (generation host : ℕ) (askings : List Asking) →
      Asks held.askings generation host (Err Lost) askings →
      Makes M drives o (answering (AsksArbiter host generation) (HasLost generation host))
      (record held { askings = askings }) o
  -- a question that could not be kept
  pub drops : (generation host : ℕ) (fault : Fault) (askings : List Asking) →
      Asks held.askings generation host (Err fault) askings →
      Makes M drives o (taking (AsksArbiter host generation)) (record held { askings = askings }) o

-- ---- the disk

-- a write that has not arrived: if the disk has its sector, the device failed
pub record DropsWrite {S : Type 0} (M : Machine S) (drives : ℕ) (held : Held) (o : Outside) (write : SectorWrite)
    (fault : Fault) : Type 0 where
  pub makes : Makes M drives o (taking (Carries (Released (Write write)))) held o
  pub why : IsTrue (has_sector drives (address_of write)) → fault ≡ DeviceFault

-- a sector that was not read
pub record DropsRead {S : Type 0} (M : Machine S) (drives : ℕ) (held : Held) (o : Outside) (address : SectorAddress)
    (fault : Fault) : Type 0 where
  pub makes : Makes M drives o (taking (AsksSector address)) held o
  pub why : IsTrue (has_sector drives address) → fault ≡ DeviceFault

pub record DiskMakes {S : Type 0} (M : Machine S) (drives : ℕ) (held : Held) (o : Outside) : Type 0 where
  pub puts : (write : SectorWrite) (records : List Record) (may_fail : Option ℕ) →
      Puts held.records write (Ok tt) records →
      Makes M drives o (answering (Carries (Released (Write write))) (Carries (WriteDone write.number)))
      (record held { records = records; may_fail = may_fail }) (record o { puts = o.puts ++ write ∷ [] })
  pub drops_write : (write : SectorWrite) (fault : Fault) (records : List Record) (may_fail : Option ℕ) →
      Puts held.records write (Err fault) records →
      DropsWrite M drives (record held { records = records; may_fail = may_fail }) o write fault
  pub reads : (address : SectorAddress) (read : device.SectorRead) (records : List Record) (may_fail : Option ℕ) →
      Reads held.records address (Ok read) records →
      Makes M drives o
      (answering (AsksSector address) (Carries (SectorRead address read.number read.bytes)))
      (record held { records = records; may_fail = may_fail }) o
  pub drops_read : (address : SectorAddress) (fault : Fault) (records : List Record) (may_fail : Option ℕ) →
      Reads held.records address (Err fault) records →
      DropsRead M drives (record held { records = records; may_fail = may_fail }) o address fault

-- ---- the hosts, and the frames between them

pub record HostsMake {S : Type 0} (M : Machine S) (drives : ℕ) (held : Held) (o : Outside) : Type 0 where
  pub offers : (generation : ℕ) → IsTrue (nat_lt generation held.hosts) →
      OutsideStep M o (sending (MayBegin generation)) o
  -- a host that comes is no step: the law counts from the first all hosts that ever come
  pub admits : (host : ℕ) → admitted_after held.hosts host ≤ o.hosts →
      Shows M drives (record held { hosts = admitted_after held.hosts host }) o
  pub passes : (frame : Frame) → Makes M drives o (answering frame frame) held o
  pub drops : (frame : Frame) → Makes M drives o (taking frame) held o

-- all of it, of whatever outside the devices show
pub record CallsMake {S : Type 0} (M : Machine S) (drives : ℕ) (held : Held) (o : Outside) : Type 0 where
  pub terminals : TerminalsMake M drives held o
  pub arbiter : ArbiterMakes M drives held o
  pub disk : DiskMakes M drives held o
  pub hosts : HostsMake M drives held o

abbrev pub CallsAreSteps : (S : Type 0) → Type 0
CallsAreSteps S =
    (M : Machine S) (drives : ℕ) (held : Held) (o : Outside) → Shows M drives held o → CallsMake M drives held o
