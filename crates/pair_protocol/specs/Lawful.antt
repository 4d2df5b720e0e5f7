-- What a pair asks of the machine that it runs: laws of the machine's traces from boot.
use Rattle.std.specs.Prelude.{◌≡◌, ℕ, ◌+◌, ◌-◌, ◌^◌, ◌≤◌, ◌⊎◌, true, Some, None, List, [], ◌∷◌, ◌++◌, length, map}
use Rattle.disk_dcdd.specs.Address.{address_of}
use Rattle.disk_dcdd.specs.declared.address.SectorAddress.{SectorAddress}
use Rattle.disk_dcdd.specs.declared.sector.SectorWrite.{SectorWrite}
use Rattle.event_callbacks.specs.Operations.{id_of}
use Rattle.event_callbacks.specs.declared.operations.OpId.{OpId}
use Rattle.event_callbacks.specs.declared.operations.OpId.TheVariants as id
use Rattle.event_callbacks.specs.declared.operations.Operation.{Operation}
use Rattle.event_callbacks.specs.declared.operations.Operation.TheVariants.{Byte, Write}
use Rattle.guest_lockstep.specs.Lockstep.{IsInput, HasRoom}
use Rattle.guest_lockstep.specs.Machine.{Machine, Move, Do, Runs, refusal_of}
use Rattle.guest_lockstep.specs.Outstanding.{AreFew}
use Rattle.guest_lockstep.specs.declared.input.Input.{Input}
use Rattle.guest_lockstep.specs.Reach.{inputs, steps, operations, output, keys, acceptances, image}
use Rattle.guest_lockstep.specs.declared.timed.Bare.TheVariants.{Written}

-- the greatest count, and the greatest number of a byte or a write
unfoldable pub top : ℕ
top = 2 ^ 62 - 1

-- an element is in a list
abbrev pub Among : {A : Type 0} → A → List A → Type 0
Among x [] = ⊥
Among x (y ∷ ys) = (x ≡ y) ⊎ Among x ys

-- the moves lead from boot to this state
abbrev pub Reaches : {S : Type 0} → Machine S → List Move → S → Type 0
Reaches M moves s = Runs M M.boot moves s

-- the completion of a write is among the inputs of moves
abbrev pub IsDone : ℕ → List Move → Type 0
IsDone number moves = Among (Written number) (map (λ t. t.input) (inputs 0 moves))

-- the disk holds a sector's bytes at boot, and no write of it is completed
pub record IsUnwritten {S : Type 0} (M : Machine S) (moves : List Move) (s : S) (address : SectorAddress) : Type 0 where
  pub none : M.done s address ≡ 0
  pub bytes : image M moves address ≡ M.boot_sector address

-- the disk holds the bytes of the last completed write of a sector
pub record IsWritten {S : Type 0} (M : Machine S) (moves : List Move) (s : S) (address : SectorAddress) : Type 0 where
  pub write : SectorWrite
  pub issued : Among (Write write) (operations moves)
  pub there : address_of write ≡ address
  pub last : write.number ≡ M.done s address
  pub bytes : write.bytes ≡ image M moves address
  pub completed : IsDone write.number moves

pub record Lawful {S : Type 0} (M : Machine S) : Type 0 where
  -- its count is the number of its steps, and the keys that it has taken are those of its inputs
  pub counts : (moves : List Move) (s : S) → Reaches M moves s → M.count s ≡ steps moves
  pub takes_keys : (moves : List Move) (s : S) (port : ℕ) → Reaches M moves s
      → M.keys s port ≡ length (keys port (inputs 0 moves))
  -- no count passes the limit
  pub limit : (moves : List Move) (s : S) → Reaches M moves s → M.count s ≤ top
  pub spent : (moves : List Move) (s : S) → Reaches M moves s → M.is_spent s ≡ true → M.step s ≡ None
  -- the bytes of a port that are sent and not accepted fit the window
  pub window : (moves : List Move) (s : S) (port : ℕ) → Reaches M moves s
      → length (output port moves) ≤ acceptances port (inputs 0 moves) + M.window_size
  -- bytes are numbered from 1 at each port, and the next one to be accepted is the oldest that is not accepted
  pub numbered : (moves : List Move) (s : S) (port number byte : ℕ)
      → Reaches M (moves ++ Do (Some (Byte port number byte)) ∷ []) s → number ≡ length (output port moves) + 1
  pub due : (moves : List Move) (s : S) (port number : ℕ) → Reaches M moves s → M.due_byte s port ≡ Some number
      → number ≡ acceptances port (inputs 0 moves) + 1
  -- what is outstanding has the name under which it is found, and was given by a step
  pub named : (moves : List Move) (s : S) (name : OpId) (operation : Operation) → Reaches M moves s
      → M.find s name ≡ Some operation → id_of operation ≡ name
  pub given : (moves : List Move) (s : S) (name : OpId) (operation : Operation) → Reaches M moves s
      → M.find s name ≡ Some operation → Among operation (operations moves)
  -- writes are numbered from 1, each number once
  pub write_once : (moves : List Move) (s : S) (v w : SectorWrite) → Reaches M moves s
      → Among (Write v) (operations moves) → Among (Write w) (operations moves) → v.number ≡ w.number → v ≡ w
  pub write_some : (moves : List Move) (s : S) (w : SectorWrite) → Reaches M moves s
      → Among (Write w) (operations moves) → 1 ≤ w.number
  -- each sector of the machine's own disk is unwritten, or holds its last completed write
  pub own_disk : (moves : List Move) (s : S) (address : SectorAddress) → Reaches M moves s
      → IsUnwritten M moves s address ⊎ IsWritten M moves s address
  -- a write is outstanding, or it is completed, and then no later than the last completed write of its sector
  pub write_is : (moves : List Move) (s : S) (w : SectorWrite) → Reaches M moves s
      → Among (Write w) (operations moves)
      → (w.number ≤ M.done s (address_of w)) ⊎ (M.find s (id.Write w.number) ≡ Some (Write w))
  -- a sector has the drive and the number by which it is asked for, and is busy while a write to it is outstanding
  pub placed : (s : S) (drive sector : ℕ)
      → M.address s drive sector ≡ record (M.address s drive sector) { drive = drive; sector = sector }
  pub busy : (moves : List Move) (s : S) (w : SectorWrite) (drive sector : ℕ) → Reaches M moves s
      → M.find s (id.Write w.number) ≡ Some (Write w) → address_of w ≡ M.address s drive sector
      → M.busy s (M.address s drive sector) ≡ true
  -- few operations are outstanding at once
  pub few : (moves : List Move) (s : S) → Reaches M moves s → AreFew M s
  -- an input that is taken and not refused names a port or a sector that exists, and there was room for it
  pub accepts : (moves : List Move) (s t : S) (i : Input) → Reaches M moves s → refusal_of M s i ≡ None
      → M.take s i ≡ Some t → IsInput i × HasRoom M s i
