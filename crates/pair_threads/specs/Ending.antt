-- How a generation on threads ends: the trace of one machine that never fails, on the inputs of a list, is what the guests
-- have done, what the terminals have accepted, and what the disk holds.
use Rattle.std.specs.Prelude.{◌≡◌, ◌⊎◌, ℕ, zero, suc, ◌+◌, ◌<◌, false, length, List, [], ◌∷◌, Option, Some, None, IsSome}
use Rattle.disk_dcdd.specs.declared.address.SectorAddress.{SectorAddress}
use Rattle.event_callbacks.specs.declared.operations.OpId.{OpId}
use Rattle.guest_lockstep.specs.Lockstep.{step_refusal}
use Rattle.guest_lockstep.specs.Machine.{Machine, Move}
use Rattle.guest_lockstep.specs.declared.reads.Reads.TheVariants.{Logged}
use Rattle.guest_lockstep.specs.Reach.{Reach, image, keys, output}
use Rattle.i8080_words.specs.declared.refusal.Fault.{Fault}
use Rattle.i8080_words.specs.declared.refusal.Fault.TheVariants.{Idle, OutOfMemory, Stalled}
use Rattle.log_entry.specs.Entries.{entries, inputs_of, last_count}
use Rattle.log_entry.specs.declared.entry.Entry.{Entry}
use Rattle.pair_protocol.specs.Faithful.{IsAllBut, IsPrefix, MayHave}
use Rattle.pair_rule.specs.declared.view.Knowledge.{Knowledge}
use Rattle.pair_threads.specs.declared.gate.Who.{Who}
use Rattle.pair_threads.specs.declared.gate.Who.TheVariants.{Primary, Backup}
use Rattle.shared_disk.specs.Records.{IsThere, record_at}
use Rattle.shared_disk.specs.declared.store.Record.{Record}

-- who goes on alone, by the word of the table
abbrev pub winner_named : ℕ → Option Who
winner_named zero = None
winner_named (suc zero) = Some Primary
winner_named (suc (suc n)) = Some Backup

-- whoever goes on alone was planned to ask at a turn; if nobody does, nobody was planned to
abbrev pub WonBy : Option ℕ → Option ℕ → Option Who → Type 0
WonBy primary_contests backup_contests None = (primary_contests ≡ None) × (backup_contests ≡ None)
WonBy primary_contests backup_contests (Some Primary) = IsSome primary_contests
WonBy primary_contests backup_contests (Some Backup) = IsSome backup_contests
WonBy primary_contests backup_contests (Some who) = ⊥

-- the two ways in which a run fails
abbrev pub IsEnding : Fault → Type 0
IsEnding fault = (fault ≡ OutOfMemory) ⊎ (fault ≡ Stalled)

-- the trace of the machine on the inputs of the list ends at a count in this state, and its entries are the list
pub record IsTraceOf {S : Type 0} (M : Machine S) (list : List Entry) (count : ℕ) (trace : List Move) (s : S) : Type 0 where
  pub reach : Reach M (inputs_of list) count trace
  pub ends : reach.last ≡ s
  pub entries_are : entries Logged 0 trace ≡ list

-- no sector is due: none of the track that the selected drive's head is at may come
abbrev pub NoSectorIsDue : {S : Type 0} → Machine S → S → Type 0
NoSectorIsDue M s =
    (drive sector : ℕ) → M.selected s ≡ Some drive → sector < 32 → M.ready s (M.address s drive sector) ≡ false

-- nothing is under way between primary and disk: each request that was made was taken and answered, and each answer came
pub record NoneUnderWay (k : Knowledge) : Type 0 where
  pub taken : k.disk.takes ≡ k.primary.asked
  pub answered : length k.disk.given ≡ k.disk.takes
  pub came : length k.primary.answers ≡ length k.disk.given

-- each screen, from that of this port on
abbrev pub EachScreen : (ℕ → List ℕ → Type 0) → ℕ → List (List ℕ) → Type 0
EachScreen Fits port [] = Unit {0}
EachScreen Fits port (screen ∷ screens) = Fits port screen × EachScreen Fits (port + 1) screens

-- each sector
abbrev pub EachSector : (SectorAddress → List ℕ → Type 0) → List Record → Type 0
EachSector Fits records = (address : SectorAddress) (r : Record) → record_at records address ≡ Some r → Fits address r.bytes

-- each sector that was on the disk is still there
abbrev pub KeepsSectors : List Record → List Record → Type 0
KeepsSectors old new = (address : SectorAddress) → IsThere old address → IsThere new address

-- the trace of the list up to its last count: the terminals have accepted its output, or all of it but the last bytes of a
-- window; and each sector has the bytes of its disk, or of an outstanding write
pub record Keeps {S : Type 0} (M : Machine S) (list : List Entry) (screens : List (List ℕ)) (records : List Record) : Type 0 where
  pub trace : List Move
  pub s : S
  pub is : IsTraceOf M list (last_count 0 list) trace s
  pub outputs : EachScreen (λ port screen. IsAllBut M.window_size screen (output port trace)) 0 screens
  pub disk : EachSector (MayHave M trace s) records

-- nobody went on alone: the primary's guest is where the trace of its list leads, idles, has nothing outstanding, waits for
-- no sector and has taken all keys; the terminals have accepted its output; the disk is the machine's own; and the backup's
-- guest is where the trace leads up to the last entry
pub record EndsWell {S : Type 0} (M : Machine S) (typed0 typed1 : List ℕ) (list : List Entry)
    (screens : List (List ℕ)) (records : List Record) (primary backup : S) : Type 0 where
  pub trace : List Move
  pub is : IsTraceOf M list (M.count primary) trace primary
  pub idle : step_refusal M primary ≡ Some Idle
  pub none : (name : OpId) → M.find primary name ≡ None
  pub no_sector : NoSectorIsDue M primary
  pub keys0 : keys 0 (inputs_of list) ≡ typed0
  pub keys1 : keys 1 (inputs_of list) ≡ typed1
  pub outputs : EachScreen (λ port screen. screen ≡ output port trace) 0 screens
  pub disk : EachSector (λ address bytes. bytes ≡ image M trace address) records
  pub front : List Move
  pub copied : IsTraceOf M list (last_count 0 list) front backup

-- who won has this list: terminals and disk have what its trace gives, and its keys are the first of those typed
pub record EndsAlone {S : Type 0} (M : Machine S) (typed0 typed1 : List ℕ) (list : List Entry)
    (screens : List (List ℕ)) (records : List Record) : Type 0 where
  pub keeps : Keeps M list screens records
  pub keys0 : IsPrefix (keys 0 (inputs_of list)) typed0
  pub keys1 : IsPrefix (keys 1 (inputs_of list)) typed1

-- a backup that won is where the trace of its list leads up to the last entry
abbrev pub IsWhereItLeads : {S : Type 0} → Machine S → List Entry → S → Type 0
IsWhereItLeads M list s = (trace : List Move) × IsTraceOf M list (last_count 0 list) trace s

-- by who goes on alone
abbrev pub EndsBy : {S : Type 0} → Machine S → List ℕ → List ℕ → Option Who → List Entry → List Entry → ℕ →
    List (List ℕ) → List Record → S → S → Type 0
EndsBy M typed0 typed1 None primary backup held screens records s t =
    (primary ≡ backup) × (held ≡ length primary) × EndsWell M typed0 typed1 primary screens records s t
EndsBy M typed0 typed1 (Some Primary) primary backup held screens records s t =
    EndsAlone M typed0 typed1 primary screens records
EndsBy M typed0 typed1 (Some Backup) primary backup held screens records s t =
    EndsAlone M typed0 typed1 backup screens records × IsWhereItLeads M backup t
EndsBy M typed0 typed1 (Some who) primary backup held screens records s t = ⊥
