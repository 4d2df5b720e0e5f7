-- Completion: whatever is outstanding at a live node can be brought to its device and completed, and then the terminals have
-- accepted the whole output and the disk is the machine's own.
use Rattle.std.specs.Prelude.{◌≡◌, ℕ, ◌*◌, ◌<◌, Some, None, List, length}
use Rattle.disk_dcdd.specs.declared.address.SectorAddress.{SectorAddress}
use Rattle.event_callbacks.specs.declared.operations.OpId.{OpId}
use Rattle.event_callbacks.specs.declared.operations.OpId.TheVariants as id
use Rattle.event_callbacks.specs.declared.operations.Operation.{Operation}
use Rattle.guest_lockstep.specs.Machine.{Machine, Move}
use Rattle.guest_lockstep.specs.Outstanding.{ComesAndGoes}
use Rattle.guest_lockstep.specs.Reach.{Reach, image, output}
use Rattle.guest_lockstep.specs.declared.input.Input.TheVariants.{Rx, Sent, Written}
use Rattle.guest_lockstep.specs.declared.timed.Timed.{Timed}
use Rattle.pair_events.specs.declared.event.Event.{Event}
use Rattle.pair_events.specs.declared.event.Event.TheVariants.{Release, Arrive, TellSent, Put, PutReply}
use Rattle.pair_protocol.specs.Copying.{Copying}
use Rattle.pair_protocol.specs.Lawful.{Among, Reaches, top}
use Rattle.pair_protocol.specs.Settled.{Settled}
use Rattle.pair_protocol.specs.World.{World, accepted, sector_record}
use Rattle.pair_progress.specs.Leads.{Leads}
use Rattle.pair_progress.specs.Takeover.{IsLive}

-- what is asked of the machine besides: outstanding operations come and go as they are given and completed; an outstanding
-- byte is of one of the two ports, at which a byte is due; a byte that is due is outstanding; and an input that is due is taken
pub record Responds {S : Type 0} (M : Machine S) : Type 0 where
  pub operations : ComesAndGoes M
  pub due : (moves : List Move) (s : S) (port number : ℕ) (o : Operation) → Reaches M moves s
      → M.find s (id.Byte port number) ≡ Some o → (port < 2) × ((k : ℕ) × (M.due_byte s port ≡ Some k))
  pub found : (moves : List Move) (s : S) (port number : ℕ) → Reaches M moves s → M.due_byte s port ≡ Some number
      → (o : Operation) × (M.find s (id.Byte port number) ≡ Some o)
  pub takes_byte : (moves : List Move) (s : S) (port number : ℕ) → Reaches M moves s → M.due_byte s port ≡ Some number
      → (t : S) × (M.take s (Sent port) ≡ Some t)
  pub takes_write : (moves : List Move) (s : S) (number : ℕ) (o : Operation) → Reaches M moves s
      → M.find s (id.Write number) ≡ Some o → (t : S) × (M.take s (Written number) ≡ Some t)
  pub takes_key : (moves : List Move) (s : S) (port byte : ℕ) → Reaches M moves s → port < 2 → M.keys s port < top
      → (t : S) × (M.take s (Rx port byte) ≡ Some t)

-- a node releases, terminals and disk take what was released, and the node is told
abbrev pub IsCompletion : ℕ → Event → Type 0
IsCompletion n (Release m name) = m ≡ n
IsCompletion n (Arrive message) = Unit {0}
IsCompletion n (TellSent m port number) = m ≡ n
IsCompletion n (Put message) = Unit {0}
IsCompletion n (PutReply message m) = m ≡ n
IsCompletion n e = ⊥

-- each terminal has accepted the whole output of the settled trace, and each sector has the bytes of its own disk
pub record IsExact {S : Type 0} (M : Machine S) (w : World S) : Type 0 where
  pub list : List Timed
  pub count : ℕ
  pub settled : Settled M w list count
  pub trace : List Move
  pub reach : Reach M list count trace
  pub output : (port : ℕ) → accepted w port ≡ output port trace
  pub disk : (address : SectorAddress) → (sector_record M w.puts address).bytes ≡ image M trace address

-- a live node at rest: nothing is outstanding, and terminals and disk have all of it
pub record IsAtRest {S : Type 0} (M : Machine S) (w : World S) (n generation : ℕ) : Type 0 where
  pub live : IsLive w n generation
  pub none : (name : OpId) → M.find live.x.machine name ≡ None
  pub exact : IsExact M w

-- these are the names of all that is outstanding, and maybe of more
abbrev pub CoverAll : {S : Type 0} → Machine S → S → List OpId → Type 0
CoverAll M s names = (name : OpId) (o : Operation) → M.find s name ≡ Some o → Among name names

-- whatever happened before, three events for each outstanding operation are enough
abbrev pub Completes : {S : Type 0} → Machine S → Copying S → World S → Type 0
Completes M C w = (n generation : ℕ) (live : IsLive w n generation) (names : List OpId) → CoverAll M live.x.machine names →
    Leads M C w (IsCompletion n) (3 * length names) (λ new. IsAtRest M new n generation)

-- and few operations are outstanding
abbrev pub CompletesSoon : {S : Type 0} → Machine S → Copying S → World S → Type 0
CompletesSoon M C w = (n generation : ℕ) → IsLive w n generation →
    Leads M C w (IsCompletion n) 120 (λ new. IsAtRest M new n generation)
