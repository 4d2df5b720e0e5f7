-- What the outside process does: it has the terminals, the arbiter and the shared disk, and passes frames between hosts.
use Rattle.std.specs.Prelude.{◌≡◌, ◌≢◌, ℕ, ◌<◌, ◌≤◌, max, Some, None, List, [], ◌∷◌, ◌++◌, length, slice_get, slice_set}
use Rattle.disk_dcdd.specs.declared.address.SectorAddress.{SectorAddress}
use Rattle.disk_dcdd.specs.declared.sector.SectorWrite.{SectorWrite}
use Rattle.event_callbacks.specs.declared.operations.Operation.TheVariants.{Byte, Write}
use Rattle.guest_lockstep.specs.Machine.{Machine}
use Rattle.pair_protocol.specs.World.{Terminal, Winner, Released, WriteDone, SectorRead, accepted_in, no_terminal, sector_record, terminal_in, winner_in}
use Rattle.host_law.specs.Frame.{Frame, Carries, AsksSector, TellsKeys, AsksArbiter, Key, AreAccepted, HasWon, HasLost, MayBegin, Act, quiet, taking, sending, answering}

-- its terminals, its arbiter's winners, and its disk; hosts 0, 1, .. below a number are there
pub record Outside : Type 0 where
  pub terminals : List Terminal
  pub winners : List Winner
  -- the writes that arrived at the disk
  pub puts : List SectorWrite
  pub hosts : ℕ

-- two terminals and this many hosts, and nothing has happened
abbrev pub at_first : ℕ → Outside
at_first hosts = record { terminals = no_terminal ∷ no_terminal ∷ []; winners = []; puts = []; hosts = hosts }

-- another terminal at a port: with one more key, with one more arrival, or told of keys
abbrev pub with_screen : Outside → ℕ → Terminal → Outside
with_screen o port t = record o { terminals = slice_set o.terminals port t }

abbrev pub with_typed : Outside → ℕ → ℕ → Outside
with_typed o port byte =
    with_screen o port
    (record (terminal_in o.terminals port) { typed = (terminal_in o.terminals port).typed ++ byte ∷ [] })

abbrev pub with_arrived : Outside → ℕ → ℕ → ℕ → Outside
with_arrived o port number byte =
    with_screen o port
    (record (terminal_in o.terminals port) {
      arrivals = (terminal_in o.terminals port).arrivals ++ record { number = number; byte = byte } ∷ [];
    })

abbrev pub with_keys : Outside → ℕ → ℕ → Outside
with_keys o port keys =
    with_screen o port
    (record (terminal_in o.terminals port) { told = max (terminal_in o.terminals port).told keys })

-- a host has won a generation
abbrev pub with_first : Outside → ℕ → ℕ → Outside
with_first o generation host =
    record o { winners = o.winners ++ record { generation = generation; node = host } ∷ [] }

-- one step, with the frames that go with it
pub data OutsideStep {S : Type 0} (M : Machine S) (o : Outside) : Act → Outside → Type 0 where
  -- a byte is typed; its key is sent, as often as it likes
  Types : (port byte : ℕ) → port < length o.terminals → OutsideStep M o quiet (with_typed o port byte)
  SendsKey : (port index byte : ℕ) → slice_get (terminal_in o.terminals port).typed index ≡ Some byte →
      OutsideStep M o (sending (Key port index byte)) o
  -- a byte arrives at its terminal; how many it has accepted is sent; it is told how many keys are covered
  Arrives : (port number byte : ℕ) →
      OutsideStep M o (taking (Carries (Released (Byte port number byte)))) (with_arrived o port number byte)
  SendsCount : (port count : ℕ) → count ≤ length (accepted_in o.terminals port) →
      OutsideStep M o (sending (AreAccepted port count)) o
  HearsKeys : (port keys : ℕ) → OutsideStep M o (taking (TellsKeys port keys)) (with_keys o port keys)
  -- a write arrives at the disk; a sector is read
  Puts : (write : SectorWrite) →
      OutsideStep M o (answering (Carries (Released (Write write))) (Carries (WriteDone write.number)))
      (record o { puts = o.puts ++ write ∷ [] })
  Reads : (address : SectorAddress) →
      OutsideStep M o
      (answering (AsksSector address)
      (Carries (SectorRead address (sector_record M o.puts address).number (sector_record M o.puts address).bytes))) o
  -- test-and-set: the first host of a generation to ask has won it, for good
  IsFirst : (host generation : ℕ) → winner_in o.winners generation ≡ None →
      OutsideStep M o (answering (AsksArbiter host generation) (HasWon generation host)) (with_first o generation host)
  IsAgain : (host generation : ℕ) → winner_in o.winners generation ≡ Some host →
      OutsideStep M o (answering (AsksArbiter host generation) (HasWon generation host)) o
  IsSecond : (host other generation : ℕ) → winner_in o.winners generation ≡ Some other → other ≢ host →
      OutsideStep M o (answering (AsksArbiter host generation) (HasLost generation host)) o
  -- a host is there for a generation, which may begin
  Offers : (generation : ℕ) → generation < o.hosts → OutsideStep M o (sending (MayBegin generation)) o
  -- a frame is passed on, or dropped: a device that fails drops what it was asked
  Passes : (frame : Frame) → OutsideStep M o (answering frame frame) o
  Drops : (frame : Frame) → OutsideStep M o (taking frame) o

-- one step after another
pub data OutsideRun {S : Type 0} (M : Machine S) : Outside → List Act → Outside → Type 0 where
  Rests : {o : Outside} → OutsideRun M o [] o
  Goes : {o mid p : Outside} {act : Act} {acts : List Act} → OutsideStep M o act mid → OutsideRun M mid acts p →
      OutsideRun M o (act ∷ acts) p
