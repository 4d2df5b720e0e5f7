-- What a running world stands for, and what an event does to it.
use Rattle.guest_parts.specs.Guest.{Guest}
use Rattle.std.specs.Prelude.{◌≡◌, ℕ, ◌+◌, List, [], ◌∷◌, Result, length, map}
use Rattle.disk_dcdd.specs.declared.address.SectorAddress.{SectorAddress}
use Rattle.clone_state.specs.Copies.{CopiesAs}
use Rattle.guest_lockstep.specs.Machine.{Machine}
use Rattle.i8080_words.specs.declared.refusal.Fault.{Fault}
use Rattle.shared_disk.specs.Records.{faults_in}
use Rattle.shared_disk.specs.declared.disk.SectorRead.{SectorRead}
use Rattle.shared_disk.specs.declared.store.Record.{Record}
use Rattle.pair_protocol.specs.Change.{Reached}
use Rattle.pair_protocol.specs.Copying.{Copying}
use Rattle.pair_protocol.specs.Reply as protocol
use Rattle.pair_protocol.specs.Faithful.{Faithful}
use Rattle.pair_protocol.specs.Grows.{Grows}
use Rattle.pair_protocol.specs.Row.{Row}
use Rattle.pair_protocol.specs.Settled.{highest}
use Rattle.pair_protocol.specs.SharedDevices.{AreWinners, IsDisk}
use Rattle.pair_protocol.specs.World.{World, sector_record}
use Rattle.ft_world.specs.Shows.{AreHosts, AreMessages, AreTerminals, IsOnlyBackup}
use Rattle.ft_world.specs.Standing.{Course, machine_of, IsMachine}
use Rattle.shared_disk.specs.Arrivals.{read_address}
use Rattle.ft_world.specs.Words.{answer_of}
use Rattle.pair_events.specs.declared.event.Event.{Event}
use Rattle.pair_events.specs.declared.event.Event.TheVariants as event
use Rattle.pair_events.specs.declared.reply.Reply.{Reply}
use Rattle.ft_world.specs.Running.{Running}

-- the fields show a world: its nodes, its messages, its terminals, its winners, its disk, the highest generation, and
-- the only node that may be its backup
pub record ShowsParts {B H D S : Type 0} (state : B → S) (M : Machine S) (records : D → List Record) (drives : ℕ)
    (v : Running B H D) (c : Course S) : Type 0 where
  pub hosts : AreHosts state M c.copying drives v.hosts c.world.nodes
  pub messages : AreMessages v.messages c.world.messages
  pub terminals : AreTerminals v.terminals c.world.terminals
  pub winners : AreWinners v.askings c.world.winners
  pub disk : IsDisk (machine_of M c) drives (records v.disk) c.world.puts
  pub generation : v.generation ≡ highest c.world.nodes
  pub backup : IsOnlyBackup c.world.nodes v.generation v.backup

-- a world of the protocol that a pair of such machines reaches, and that the running world shows
pub record Shows {B H D S : Type 0} (state : B → S) (copied : B → Guest) (M : Machine S) (records : D → List Record)
    (v : Running B H D) (c : Course S) : Type 0 where
  pub drives : ℕ
  pub machine : IsMachine (machine_of M c) c.copying drives
  pub copies_as : CopiesAs state copied drives c.copying.parts c.copying.part_count c.copying.assemble
  pub reached : Reached (machine_of M c) c.copying c.world
  pub parts : ShowsParts state M records drives v c

-- some such world is shown
pub record ShowsSome {B H D S : Type 0} (state : B → S) (copied : B → Guest) (M : Machine S)
    (records : D → List Record) (v : Running B H D) : Type 0 where
  pub course : Course S
  pub shows : Shows state copied M records v course

-- an event's row: its answer, and the world that is shown after it; that world is faithful, and what was settled grows
pub record Applies {B H D S : Type 0} (state : B → S) (copied : B → Guest) (M : Machine S)
    (records : D → List Record) (c : Course S) (e : Event) (answer : Result Reply Fault) (new : Running B H D) : Type 0 where
  pub after : World S
  pub row : Row (machine_of M c) c.copying c.world e (answer_of answer) after
  pub shows : Shows state copied M records new (record c { world = after })
  pub faithful : Faithful (machine_of M c) after
  pub grows : Grows (machine_of M c) c.world after

-- an event happens: it applies at whatever world is shown
abbrev pub Happens : {B H D S : Type 0} → (B → S) → (B → Guest) → Machine S → (D → List Record) → Running B H D
    → Event → Result Reply Fault → Running B H D → Type 0
Happens {S = S} state copied M records old e answer new =
    (c : Course S) → Shows state copied M records old c → Applies state copied M records c e answer new

-- the world of a course is faithful
abbrev pub IsFaithful : {S : Type 0} → Machine S → Course S → Type 0
IsFaithful M c = Faithful (machine_of M c) c.world

-- how many device failures an event's answer reports; only a put, a get and a fetch reach the device
abbrev pub failures_told : Event → Result Reply Fault → ℕ
failures_told (event.Put message) answer = faults_in answer
failures_told (event.Get node sector) answer = faults_in answer
failures_told (event.Fetch node) answer = faults_in answer
failures_told _ answer = 0

-- the sum of these over the answers to a list of events
abbrev pub failures_over : List Event → List (Result Reply Fault) → ℕ
failures_over (e ∷ events) (answer ∷ answers) = failures_told e answer + failures_over events answers
failures_over _ _ = 0

-- rows of events, one after another; no host is added in between
pub data Rows {S : Type 0} (M : Machine S) (C : Copying S) : World S → List Event → List protocol.Reply → World S
    → Type 0 where
  Nothing : {w : World S} → Rows M C w [] [] w
  First : {w mid new : World S} {e : Event} {events : List Event} {r : protocol.Reply}
      {replies : List protocol.Reply} → Row M C w e r mid → Rows M C mid events replies new →
      Rows M C w (e ∷ events) (r ∷ replies) new

-- a run: one answer for each event, each of them the event's row; the world after it is shown, it is faithful, and what
-- was settled before the run grows
pub record Runs {B H D S : Type 0} (state : B → S) (copied : B → Guest) (M : Machine S)
    (records : D → List Record) (c : Course S) (events : List Event) (answers : List (Result Reply Fault)) (new : Running B H D) : Type 0 where
  pub after : World S
  pub rows : Rows (machine_of M c) c.copying c.world events (map answer_of answers) after
  pub each : length answers ≡ length events
  pub shows : Shows state copied M records new (record c { world = after })
  pub faithful : Faithful (machine_of M c) after
  pub grows : Grows (machine_of M c) c.world after

-- what the disk of a world has for a sector
pub record IsSectorOf {S : Type 0} (M : Machine S) (w : World S) (address : SectorAddress) (read : SectorRead)
    : Type 0 where
  pub where_it_is : read_address read ≡ address
  pub number : read.number ≡ (sector_record M w.puts address).number
  pub bytes : read.bytes ≡ (sector_record M w.puts address).bytes
