-- Whether a pair has done what one never-failing machine does.
use Rattle.std.specs.Prelude.{◌≡◌, ◌≢◌, ℕ, ◌<◌, ◌⊎◌, Bool, true, false, if◌then◌else◌, IsTrue, List, All, Any}
use Rattle.disk_dcdd.specs.Address.{address_of, has_sector}
use Rattle.disk_dcdd.specs.declared.address.SectorAddress.{SectorAddress}
use Rattle.disk_dcdd.specs.declared.sector.SectorWrite.{SectorWrite}
use Rattle.guest_parts.specs.Guest.{Guest}
use Rattle.guest_lockstep.specs.Machine.{Machine, Move}
use Rattle.i8080_words.specs.declared.refusal.Fault.{Fault}
use Rattle.i8080_words.specs.declared.refusal.Fault.TheVariants.{OutOfMemory}
use Rattle.guest_lockstep.specs.Reach.{Reach, output, writes, image}
use Rattle.plain_single.specs.Reaching.{Fails, NeverFall}
use Rattle.guest_lockstep.specs.declared.timed.Bare.TheVariants.{Written}
use Rattle.guest_lockstep.specs.declared.timed.Timed.{Timed}
use Rattle.pair_protocol.specs.Faithful.{IsAllBut}
use Rattle.pair_protocol.specs.Settled.{Settled}
use Rattle.pair_protocol.specs.World.{World, accepted, sector_record}
use Rattle.shared_disk.specs.Records.{IsThere}
use Rattle.shared_disk.specs.declared.store.Record.{Record}
use Rattle.altair_pair.specs.declared.verdict.Verdict.{Verdict}
use Rattle.altair_pair.specs.declared.verdict.Verdict.TheVariants.{Same, Differs}

-- no input says that the write of this number is done
abbrev pub IsUndone : List Timed → ℕ → Type 0
IsUndone settled number = All (λ (t : Timed). t.input ≢ Written number) settled

-- a write that brings these bytes to a sector, and is outstanding
pub record Brings (settled : List Timed) (address : SectorAddress) (bytes : List ℕ) (write : SectorWrite)
    : Type 0 where
  pub there : address_of write ≡ address
  pub bytes_are : write.bytes ≡ bytes
  pub undone : IsUndone settled write.number

-- what a sector may have: the bytes of the machine's own disk, or those of an outstanding write of the machine
abbrev pub MayHave : List ℕ → List SectorWrite → List Timed → SectorAddress → List ℕ → Type 0
MayHave image writes settled address bytes = (bytes ≡ image) ⊎ Any (Brings settled address bytes) writes

-- what a pair has done: the bytes that the terminal of each port has accepted, what each sector of its disk has, and
-- the inputs that are settled
pub record Deeds : Type 0 where
  pub accepted : ℕ → List ℕ
  pub sector : SectorAddress → List ℕ
  pub settled : List Timed

-- the pair has done the same as a machine of this many drives with this output at each port, these writes and this disk:
-- each terminal has accepted the output, or all of it but at most its last sixteen bytes
pub record IsAlike (drives : ℕ) (d : Deeds) (output : ℕ → List ℕ) (writes : List SectorWrite)
    (image : SectorAddress → List ℕ) : Type 0 where
  pub outputs : (port : ℕ) → port < 2 → IsAllBut 16 (d.accepted port) (output port)
  pub disk : (address : SectorAddress) → IsTrue (has_sector drives address)
      → MayHave (image address) writes d.settled address (d.sector address)

-- whether it has; if its disk lacks a sector, it has not
pub data IsAnswer (drives : ℕ) (d : Deeds) (records : List Record) (output : ℕ → List ℕ) (writes : List SectorWrite)
    (image : SectorAddress → List ℕ) : Bool → Type 0 where
  Alike : IsAlike drives d output writes image → IsAnswer drives d records output writes image true
  Unlike : (IsAlike drives d output writes image → ⊥) → IsAnswer drives d records output writes image false
  Lacks : (address : SectorAddress) → IsTrue (has_sector drives address) → (IsThere records address → ⊥)
      → IsAnswer drives d records output writes image false

-- the verdict on a pair that has settled its inputs up to a count, by the machine that runs from them to there: `Same`
-- exactly if the pair has done the same; it also differs if counts fall, or if the machine does not run like that
pub data IsVerdict (M : Machine Guest) (drives : ℕ) (d : Deeds) (records : List Record) (count : ℕ) : Verdict → Type 0 where
  Ran : (moves : List Move) (answer : Bool) → Reach M d.settled count moves
      → IsAnswer drives d records (λ port. output port moves) (writes moves) (image M moves) answer
      → IsVerdict M drives d records count (if answer then Same count else Differs)
  Falls : (NeverFall 0 d.settled → ⊥) → IsVerdict M drives d records count Differs
  Stops : (fault : Fault) → (fault ≡ OutOfMemory → ⊥) → Fails M d.settled count fault
      → IsVerdict M drives d records count Differs

-- what the pair of a world has done, if these inputs are settled
abbrev pub deeds_of : {S : Type 0} → Machine S → World S → List Timed → Deeds
deeds_of M w settled = record {
  accepted = accepted w;
  sector = λ address. (sector_record M w.puts address).bytes;
  settled = settled;
}

-- the verdict on a world, by a machine of this many drives
pub record IsVerdictOn {S : Type 0} (single : Machine Guest) (drives : ℕ) (M : Machine S) (w : World S)
    (records : List Record) (verdict : Verdict) : Type 0 where
  pub list : List Timed
  pub count : ℕ
  pub settled : Settled M w list count
  pub judged : IsVerdict single drives (deeds_of M w list) records count verdict
