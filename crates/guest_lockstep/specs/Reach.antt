-- The trace of a single machine from a list of timed inputs, and what such a trace has sent, written and stored.
use Rattle.std.specs.Prelude.{◌≡◌, ℕ, suc, ◌+◌, ◌==◌, if◌then◌else◌, Some, None, List, [], ◌∷◌, ◌++◌}
use Rattle.disk_dcdd.specs.Address.{address_of, same_address}
use Rattle.disk_dcdd.specs.declared.address.SectorAddress.{SectorAddress}
use Rattle.disk_dcdd.specs.declared.sector.SectorWrite.{SectorWrite}
use Rattle.event_callbacks.specs.declared.operations.Operation.{Operation}
use Rattle.event_callbacks.specs.declared.operations.Operation.TheVariants.{Byte, Write}
use Rattle.guest_lockstep.specs.Machine.{Machine, Move, Do, Take, Runs}
use Rattle.guest_lockstep.specs.declared.input.Input.{Input}
use Rattle.guest_lockstep.specs.declared.input.Input.TheVariants as input
use Rattle.guest_lockstep.specs.declared.timed.Bare.{Bare}
use Rattle.guest_lockstep.specs.declared.timed.Bare.TheVariants.{Rx, Sent, Sector, Written}
use Rattle.guest_lockstep.specs.declared.timed.Timed.{Timed}

-- ---- what a list of moves is

-- an input without what only the log carries
abbrev pub bare : Input → Bare
bare (input.Rx port byte) = Rx port byte
bare (input.Sent port) = Sent port
bare (input.Sector drive sector number bytes) = Sector drive sector
bare (input.Written number) = Written number

-- an input at a count
abbrev pub timed : ℕ → Input → Timed
timed count i = record { count = count; input = bare i }

-- the timed inputs of moves that begin at a count
abbrev pub inputs : ℕ → List Move → List Timed
inputs count [] = []
inputs count (Do gives ∷ moves) = inputs (suc count) moves
inputs count (Take i ∷ moves) = timed count i ∷ inputs count moves

-- how many steps
abbrev pub steps : List Move → ℕ
steps [] = 0
steps (Do gives ∷ moves) = suc (steps moves)
steps (Take i ∷ moves) = steps moves

-- the operations, in order
abbrev pub operations : List Move → List Operation
operations [] = []
operations (Do None ∷ moves) = operations moves
operations (Do (Some operation) ∷ moves) = operation ∷ operations moves
operations (Take i ∷ moves) = operations moves

-- the byte of an operation that goes to a port
abbrev pub byte_to : ℕ → Operation → List ℕ
byte_to port (Byte to number byte) = if port == to then byte ∷ [] else []
byte_to port (Write write) = []

-- the output at a port: the bytes sent there, in order
abbrev pub output : ℕ → List Move → List ℕ
output port [] = []
output port (Do None ∷ moves) = output port moves
output port (Do (Some operation) ∷ moves) = byte_to port operation ++ output port moves
output port (Take i ∷ moves) = output port moves

-- the sector writes, in order
abbrev pub write_of : Operation → List SectorWrite
write_of (Byte port number byte) = []
write_of (Write write) = write ∷ []

abbrev pub writes : List Move → List SectorWrite
writes [] = []
writes (Do None ∷ moves) = writes moves
writes (Do (Some operation) ∷ moves) = write_of operation ++ writes moves
writes (Take i ∷ moves) = writes moves

-- the key of an input that is taken at a port
abbrev pub key_at : ℕ → Bare → List ℕ
key_at port (Rx at byte) = if port == at then byte ∷ [] else []
key_at port (Sent at) = []
key_at port (Sector drive sector) = []
key_at port (Written number) = []

-- the keys taken at a port
abbrev pub keys : ℕ → List Timed → List ℕ
keys port [] = []
keys port (t ∷ ts) = key_at port t.input ++ keys port ts

-- an acceptance at a port
abbrev pub accepted_at : ℕ → Bare → ℕ
accepted_at port (Rx at byte) = 0
accepted_at port (Sent at) = if port == at then 1 else 0
accepted_at port (Sector drive sector) = 0
accepted_at port (Written number) = 0

-- how many bytes of a port are accepted
abbrev pub acceptances : ℕ → List Timed → ℕ
acceptances port [] = 0
acceptances port (t ∷ ts) = accepted_at port t.input + acceptances port ts

-- ---- the machine's own disk

-- what a sector has after the write of this number is done
abbrev pub bytes_after : List SectorWrite → ℕ → SectorAddress → List ℕ → List ℕ
bytes_after [] number address bytes = bytes
bytes_after (write ∷ rest) number address bytes =
    if write.number == number
    then (if same_address (address_of write) address then write.bytes else bytes)
    else bytes_after rest number address bytes

-- what a sector has after moves, if these writes were issued before them, latest first: a write that is done puts its
-- bytes there
abbrev pub image_from : List SectorWrite → SectorAddress → List ℕ → List Move → List ℕ
image_from issued address bytes [] = bytes
image_from issued address bytes (Do None ∷ moves) = image_from issued address bytes moves
image_from issued address bytes (Do (Some (Byte port number byte)) ∷ moves) = image_from issued address bytes moves
image_from issued address bytes (Do (Some (Write write)) ∷ moves) = image_from (write ∷ issued) address bytes moves
image_from issued address bytes (Take (input.Rx port byte) ∷ moves) = image_from issued address bytes moves
image_from issued address bytes (Take (input.Sent port) ∷ moves) = image_from issued address bytes moves
image_from issued address bytes (Take (input.Sector drive sector number others) ∷ moves) =
    image_from issued address bytes moves
image_from issued address bytes (Take (input.Written number) ∷ moves) =
    image_from issued address (bytes_after issued number address bytes) moves

-- what a sector of the machine's own disk has after moves from boot
abbrev pub image : {S : Type 0} → Machine S → List Move → SectorAddress → List ℕ
image M moves address = image_from [] address (M.boot_sector address) moves

-- after the moves before it, an input carries what the machine's own disk has
abbrev pub Own : {S : Type 0} → Machine S → List Move → S → Input → Type 0
Own M before s (input.Rx port byte) = Unit {0}
Own M before s (input.Sent port) = Unit {0}
Own M before s (input.Sector drive sector number bytes) =
    (M.done s (M.address s drive sector) ≡ number) × (image M before (M.address s drive sector) ≡ bytes)
Own M before s (input.Written number) = Unit {0}

-- so does each input along the moves
abbrev pub Owns : {S : Type 0} → Machine S → List Move → S → List Move → Type 0
Owns M before s [] = Unit {0}
Owns {S} M before s (Do gives ∷ moves) =
    (u : S) → M.step s ≡ Some (u, gives) → Owns M (before ++ Do gives ∷ []) u moves
Owns {S} M before s (Take i ∷ moves) =
    Own M before s i × ((u : S) → M.take s i ≡ Some u → Owns M (before ++ Take i ∷ []) u moves)

-- ---- reach

-- the moves are the trace from boot that ends at a count, with these timed inputs, each at its count, and no others
pub record Reach {S : Type 0} (M : Machine S) (list : List Timed) (count : ℕ) (moves : List Move) : Type 0 where
  pub last : S
  pub runs : Runs M M.boot moves last
  pub owns : Owns M [] M.boot moves
  pub list_is : inputs 0 moves ≡ list
  pub count_is : steps moves ≡ count
