-- The entries of a trace: one for each input and one mark for each operation, each with its count.
use Rattle.std.specs.Prelude.{ℕ, suc, Bool, true, false, Option, Some, None, List, [], ◌∷◌, ◌++◌, ◌==◌, if◌then◌else◌}
use Rattle.std.specs.Option.{option_map}
use Rattle.event_callbacks.specs.declared.operations.Operation.{Operation}
use Rattle.guest_lockstep.specs.Machine.{Move, Do, Take}
use Rattle.guest_lockstep.specs.declared.input.Input.{Input}
use Rattle.guest_lockstep.specs.declared.input.Input.TheVariants as input
use Rattle.guest_lockstep.specs.declared.reads.Reads.{Reads}
use Rattle.guest_lockstep.specs.declared.reads.Reads.TheVariants.{Logged, Shared}
use Rattle.guest_lockstep.specs.declared.timed.Bare.{Bare}
use Rattle.guest_lockstep.specs.declared.timed.Bare.TheVariants as bare
use Rattle.guest_lockstep.specs.declared.timed.Timed.{Timed}
use Rattle.log_entry.specs.declared.entry.Entry.{Entry}
use Rattle.log_entry.specs.declared.entry.Entry.TheVariants.{Mark, Rx, Sent, Sector, Written, Read}

-- the count of an entry
abbrev pub count_of : Entry → ℕ
count_of (Mark count) = count
count_of (Rx count port byte) = count
count_of (Sent count port) = count
count_of (Sector count drive sector number bytes) = count
count_of (Written count number) = count
count_of (Read count drive sector number) = count

-- the entry of a sector that came under the head: with its bytes, or as a read of the shared disk
abbrev pub sector_entry : Reads → ℕ → ℕ → ℕ → ℕ → List ℕ → Entry
sector_entry Logged count drive sector number bytes = Sector count drive sector number bytes
sector_entry Shared count drive sector number bytes = Read count drive sector number

-- the entry of an input at a count
abbrev pub entry_of : Reads → ℕ → Input → Entry
entry_of reads count (input.Rx port byte) = Rx count port byte
entry_of reads count (input.Sent port) = Sent count port
entry_of reads count (input.Sector drive sector number bytes) = sector_entry reads count drive sector number bytes
entry_of reads count (input.Written number) = Written count number

-- the input that an entry carries; a mark has none, and a read does not carry its bytes
abbrev pub input_of : Entry → Option Input
input_of (Mark count) = None
input_of (Rx count port byte) = Some (input.Rx port byte)
input_of (Sent count port) = Some (input.Sent port)
input_of (Sector count drive sector number bytes) = Some (input.Sector drive sector number bytes)
input_of (Written count number) = Some (input.Written number)
input_of (Read count drive sector number) = None

-- the drive, the sector and the number of a read
abbrev pub read_of : Entry → Option (ℕ × ℕ × ℕ)
read_of (Mark count) = None
read_of (Rx count port byte) = None
read_of (Sent count port) = None
read_of (Sector count drive sector number bytes) = None
read_of (Written count number) = None
read_of (Read count drive sector number) = Some (drive, sector, number)

abbrev pub is_read : Entry → Bool
is_read (Mark count) = false
is_read (Rx count port byte) = false
is_read (Sent count port) = false
is_read (Sector count drive sector number bytes) = false
is_read (Written count number) = false
is_read (Read count drive sector number) = true

-- the input of an entry, without what only the log carries; a mark has none
abbrev pub bare_of : Entry → Option Bare
bare_of (Mark count) = None
bare_of (Rx count port byte) = Some (bare.Rx port byte)
bare_of (Sent count port) = Some (bare.Sent port)
bare_of (Sector count drive sector number bytes) = Some (bare.Sector drive sector)
bare_of (Written count number) = Some (bare.Written number)
bare_of (Read count drive sector number) = Some (bare.Sector drive sector)

-- the timed input of an entry
abbrev pub timed_of : Entry → Option Timed
timed_of e = option_map (λ input. record { count = count_of e; input = input }) (bare_of e)

-- the mark of an operation, at the count after its step
abbrev pub marks : ℕ → Option Operation → List Entry
marks count None = []
marks count (Some operation) = Mark count ∷ []

-- the entries of moves that begin at a count, in the order of the moves
abbrev pub entries : Reads → ℕ → List Move → List Entry
entries reads count [] = []
entries reads count (Do gives ∷ moves) = marks (suc count) gives ++ entries reads (suc count) moves
entries reads count (Take i ∷ moves) = entry_of reads count i ∷ entries reads count moves

-- the timed inputs of entries
abbrev pub timed_in : Option Timed → List Timed
timed_in None = []
timed_in (Some t) = t ∷ []

abbrev pub inputs_of : List Entry → List Timed
inputs_of [] = []
inputs_of (e ∷ es) = timed_in (timed_of e) ++ inputs_of es

-- the count of the last entry, or this count if there is none
abbrev pub last_count : ℕ → List Entry → ℕ
last_count count [] = count
last_count count (e ∷ es) = last_count (count_of e) es

-- ---- reads that are due

-- the drive, the sector and the number of the read that a machine at this count has reached: the next entry, at its count
abbrev pub read_at : ℕ → Option Entry → Option (ℕ × ℕ × ℕ)
read_at count None = None
read_at count (Some e) = if count == count_of e then read_of e else None

-- the read that it waits for, if its bytes have not arrived
abbrev pub wanted_of : Option (List ℕ) → Option (ℕ × ℕ × ℕ) → Option (ℕ × ℕ × ℕ)
wanted_of None read = read
wanted_of (Some bytes) read = None
