-- A comparison of a pair with the machine, by its outputs and its sectors.
use Rattle.std.proofs.Common.{◌≡◌, ℕ, ◌<◌, ◌≤◌, ◌+◌, Bool, true, false, IsTrue, List, refl, sym, arith, subst, inl, inr}
use Rattle.std.proofs.lemmas.Bool.{and_from, and_parts, lt-ltb, ltb-false, ltb-true}
use Rattle.std.specs.Prelude.{◌⊎◌, ◌↔◌, nat_lt, if◌then◌else◌}
use Rattle.i8080_words.proofs.Bits.{below_two}
use Rattle.disk_dcdd.specs.Address.{has_sector, is_on_disk}
use Rattle.disk_dcdd.specs.declared.address.SectorAddress.{SectorAddress}
use Rattle.disk_dcdd.specs.declared.drive.TheConstants.{TRACKS}
use Rattle.disk_dcdd.specs.declared.sector.SectorWrite.{SectorWrite}
use Rattle.disk_dcdd.specs.declared.sector.TheConstants.{SECTORS}
use Rattle.disk_dcdd.specs.declared.controller.TheConstants.{DRIVES}
use Rattle.guest_parts.specs.Guest.{Guest}
use Rattle.guest_lockstep.specs.Machine.{Machine}
use Rattle.plain_single.specs.SingleState.{SingleState, output_of}
use Rattle.plain_single.specs.Image.{IsSector, sector_at}
use Rattle.guest_lockstep.specs.Reach.{Reach, output, writes, image}
use Rattle.plain_single.specs.Reaching.{RunsTo}
use Rattle.guest_lockstep.specs.declared.timed.Timed.{Timed}
use Rattle.ft_world.specs.Applies.{Shows}
use Rattle.ft_world.specs.Running.{Running}
use Rattle.ft_world.specs.Standing.{Course, machine_of}
use Rattle.pair_protocol.specs.Faithful.{IsAllBut}
use Rattle.shared_disk.specs.Records.{IsThere}
use Rattle.shared_disk.specs.declared.store.Record.{Record}
use Rattle.altair_pair.specs.Comparing.{Deeds, IsAlike, IsAnswer, Alike, Unlike, Lacks, IsVerdict, Ran, MayHave, deeds_of}
use Rattle.altair_pair.specs.Sectors.{EachOf, IsBad, SomeOf, address_at}
use Rattle.altair_pair.specs.declared.verdict.Verdict.TheVariants.{Same, Differs}

each_case : (n k : ℕ) (P : ℕ → Type 0) → EachOf n P → P n → k < n + 1 → (b : Bool) → nat_lt k n ≡ b → P k
each_case n k P each one less true is = each k (ltb-true k n is)
each_case n k P each one less false is =
    let from : n ≤ k = ltb-false k n is in
    let same : n ≡ k = omega arith in
    subst P same one

-- each of this many, and one more
pub each_more : (n : ℕ) (P : ℕ → Type 0) → EachOf n P → P n → EachOf (n + 1) P
each_more n P each one k less = each_case n k P each one less (nat_lt k n) refl

-- the drive, track and number of a sector that is there are within their limits
within : (drives : ℕ) (a : SectorAddress) → IsTrue (has_sector drives a)
    → (a.drive < drives) × (a.track < TRACKS) × (a.sector < SECTORS)
within drives a is =
    let parts = and_parts (is_on_disk a) (nat_lt a.drive drives) is in
    let places = and_parts (nat_lt a.track TRACKS) (nat_lt a.sector SECTORS) parts.0 in
    (ltb-true a.drive drives parts.1, ltb-true a.track TRACKS places.0, ltb-true a.sector SECTORS places.1)

there_at : (drives drive track sector : ℕ) → drive < drives → track < TRACKS → sector < SECTORS
    → IsTrue (has_sector drives (address_at drive track sector))
there_at drives drive track sector d t s =
    and_from (is_on_disk (address_at drive track sector)) (nat_lt drive drives)
    (and_from (nat_lt track TRACKS) (nat_lt sector SECTORS) (lt-ltb track TRACKS t) (lt-ltb sector SECTORS s))
    (lt-ltb drive drives d)

-- if the first terminal has what it may have, an answer for the second one is an answer for both
pub by_second : (accepted output : ℕ → List ℕ) (answer : Bool) → IsAllBut 16 (accepted 0) (output 0)
    → (IsTrue answer ↔ IsAllBut 16 (accepted 1) (output 1))
    → IsTrue answer ↔ ((port : ℕ) → port < 2 → IsAllBut 16 (accepted port) (output port))
by_second accepted output answer first second =
    let low : 1 < 2 = omega arith in
    ((λ yes. below_two (λ port. IsAllBut 16 (accepted port) (output port)) first (second.0 yes)), λ all. second.1 (all 1 low))

module _ (drives : ℕ) (d : Deeds) (records : List Record) (output : ℕ → List ℕ) (writes : List SectorWrite)
    (image : SectorAddress → List ℕ) where
  abbrev pub Good : SectorAddress → Type 0
  Good address = MayHave (image address) writes d.settled address (d.sector address)

  abbrev pub Bad : SectorAddress → Type 0
  Bad address = (IsThere records address → ⊥) ⊎ (Good address → ⊥)

  -- the outputs are not alike
  pub unlike_output : (((port : ℕ) → port < 2 → IsAllBut 16 (d.accepted port) (output port)) → ⊥)
      → IsAnswer drives d records output writes image false
  unlike_output not = Unlike (λ alike. not alike.outputs)

  good_all : EachOf drives (λ drive. EachOf TRACKS (λ track. EachOf SECTORS (λ sector. Good (address_at drive track sector))))
      → (address : SectorAddress) → IsTrue (has_sector drives address) → Good address
  good_all each address is =
      let places = within drives address is in
      each address.drive places.0 address.track places.1 address.sector places.2

  bad_some : SomeOf drives (λ drive. SomeOf TRACKS (λ track. SomeOf SECTORS (λ sector. Bad (address_at drive track sector))))
      → IsAnswer drives d records output writes image false
  bad_some (drive, on_drive, (track, on_track, (sector, on_sector, inl missing))) =
      Lacks (address_at drive track sector) (there_at drives drive track sector on_drive on_track on_sector) missing
  bad_some (drive, on_drive, (track, on_track, (sector, on_sector, inr bad))) =
      Unlike (λ alike. bad (alike.disk (address_at drive track sector) (there_at drives drive track sector on_drive on_track on_sector)))

  -- they are, and the sectors decide
  pub by_sectors : (answer : Bool) → ((port : ℕ) → port < 2 → IsAllBut 16 (d.accepted port) (output port))
      → (answer ≡ true → EachOf drives (λ drive. EachOf TRACKS (λ track. EachOf SECTORS (λ sector. Good (address_at drive track sector)))))
      → (answer ≡ false → SomeOf drives (λ drive. SomeOf TRACKS (λ track. SomeOf SECTORS (λ sector. Bad (address_at drive track sector)))))
      → IsAnswer drives d records output writes image answer
  by_sectors true outputs all some = Alike (record { outputs = outputs; disk = good_all (all refl) })
  by_sectors false outputs all some = bad_some (some refl)

pub alike_by : (drives : ℕ) (d : Deeds) (output output' : ℕ → List ℕ) (writes writes' : List SectorWrite)
    (image image' : SectorAddress → List ℕ) → ((port : ℕ) → port < 2 → output port ≡ output' port) → writes ≡ writes'
    → ((address : SectorAddress) → IsTrue (has_sector drives address) → image address ≡ image' address)
    → IsAlike drives d output writes image → IsAlike drives d output' writes' image'
alike_by drives d output output' writes writes' image image' o w i alike = record {
  outputs = λ port p. subst (λ bytes. IsAllBut 16 (d.accepted port) bytes) (o port p) (alike.outputs port p);
  disk = λ address is.
      subst (λ ws. MayHave (image' address) ws d.settled address (d.sector address)) w
      (subst (λ bytes. MayHave bytes writes d.settled address (d.sector address)) (i address is) (alike.disk address is));
}

-- equal outputs, writes and disks give the same answer
pub answer_alike : (drives : ℕ) (d : Deeds) (records : List Record) (output output' : ℕ → List ℕ)
    (writes writes' : List SectorWrite) (image image' : SectorAddress → List ℕ) (answer : Bool)
    → ((port : ℕ) → port < 2 → output port ≡ output' port) → writes ≡ writes'
    → ((address : SectorAddress) → IsTrue (has_sector drives address) → image address ≡ image' address)
    → IsAnswer drives d records output writes image answer → IsAnswer drives d records output' writes' image' answer
answer_alike drives d records output output' writes writes' image image' true o w i (Alike alike) =
    Alike (alike_by drives d output output' writes writes' image image' o w i alike)
answer_alike drives d records output output' writes writes' image image' false o w i (Unlike not) =
    Unlike (λ alike. not (alike_by drives d output' output writes' writes image' image (λ port p. sym (o port p)) (sym w)
    (λ address is. sym (i address is)) alike))
answer_alike drives d records output output' writes writes' image image' false o w i (Lacks address is missing) =
    Lacks address is missing

-- a sector that is bad for every world that is shown is bad for one of them
pub some_bad : {B H S : Type 0} (state : B → S) (copied : B → Guest) (M : Machine S) (v : Running B H (List Record)) (single : SingleState)
    (settled : List Timed) (drives : ℕ) (c : Course S) → Shows state copied M (λ records. records) v c
    → SomeOf drives (λ drive. SomeOf TRACKS (λ track. SomeOf SECTORS
    (λ sector. IsBad state copied M v single settled (address_at drive track sector))))
    → SomeOf drives (λ drive. SomeOf TRACKS (λ track. SomeOf SECTORS
    (λ sector. Bad drives (deeds_of (machine_of M c) c.world settled) v.disk (output_of single) single.behind.writes
    (sector_at single.disk) (address_at drive track sector))))
some_bad state copied M v single settled drives c shows (drive, d, (track, t, (sector, s, inl missing))) =
    (drive, d, (track, t, (sector, s, inl missing)))
some_bad state copied M v single settled drives c shows (drive, d, (track, t, (sector, s, inr bad))) =
    (drive, d, (track, t, (sector, s, inr (bad c shows))))

is_sector : (drives : ℕ) → drives ≤ DRIVES → (address : SectorAddress) → IsTrue (has_sector drives address)
    → IsSector address
is_sector drives few address on =
    let parts = and_parts (is_on_disk address) (nat_lt address.drive drives) on in
    let low : address.drive < drives = ltb-true address.drive drives parts.1 in
    record { drive = omega arith; place = parts.0 }

-- the verdict of a machine that runs to the count
pub verdict_of : (M : Machine Guest) (drives : ℕ) (d : Deeds) (records : List Record) (count : ℕ) (a : SingleState)
    (answer : Bool) → drives ≤ DRIVES → RunsTo M d.settled count a
    → IsAnswer drives d records (output_of a) a.behind.writes (sector_at a.disk) answer
    → IsVerdict M drives d records count (if answer then Same count else Differs)
verdict_of M drives d records count a answer few runs is =
    let moves = runs.stands.moves in
    Ran moves answer (subst (λ n. Reach M d.settled n moves) runs.count_is runs.stands.reach)
    (answer_alike drives d records (output_of a) (λ port. output port moves) a.behind.writes (writes moves)
    (sector_at a.disk) (image M moves) answer
    (below_two (λ port. output_of a port ≡ output port moves) runs.stands.stands.first runs.stands.stands.second)
    runs.stands.stands.writes (λ address on. runs.stands.stands.disk address (is_sector drives few address on)) is)
