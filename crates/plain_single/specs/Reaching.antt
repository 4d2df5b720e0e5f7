-- What a run of the single machine over a list of timed inputs returns, by the traces of its machine.
use Rattle.std.specs.Prelude.{◌≡◌, ℕ, ◌<◌, ◌≤◌, min, Bool, true, false, nat_lt, ◌||◌, ◌&&◌, if◌then◌else◌, None, List, [], ◌∷◌, ◌++◌, ◌⊎◌}
use Rattle.i8080_words.specs.declared.refusal.Fault.{Fault}
use Rattle.i8080_words.specs.declared.refusal.Fault.TheVariants.{OutOfMemory, Spent, NotDue, SectorBusy, Idle}
use Rattle.disk_dcdd.specs.declared.address.SectorAddress.{SectorAddress}
use Rattle.i8080_words.specs.declared.limits.TheConstants.{GREATEST_NUMBER}
use Rattle.guest_parts.specs.Guest.{Guest}
use Rattle.guest_lockstep.specs.Machine.{Machine, Move}
use Rattle.guest_lockstep.specs.declared.input.Input.{Input}
use Rattle.plain_single.specs.SingleState.{SingleState, StandsFor}
use Rattle.plain_single.specs.Image.{IsSector, sector_at}
use Rattle.guest_lockstep.specs.Reach.{Reach, bare, output, writes, image}
use Rattle.guest_lockstep.specs.declared.timed.Bare.{Bare}
use Rattle.guest_lockstep.specs.declared.timed.Bare.TheVariants as input
use Rattle.guest_lockstep.specs.declared.timed.Timed.{Timed}

-- the counts of a list of inputs never fall, from this count on
abbrev pub NeverFall : ℕ → List Timed → Type 0
NeverFall from [] = Unit {0}
NeverFall from (t ∷ ts) = (from ≤ t.count) × NeverFall t.count ts

-- ---- where a run ends

-- the single machine is where moves from boot lead: it stands for the guest there, with what the moves sent, wrote and
-- put on the disk
pub record StandsAfter (M : Machine Guest) (moves : List Move) (last : Guest) (a : SingleState) : Type 0 where
  pub guest : StandsFor a last
  pub first : a.behind.first.output ≡ output 0 moves
  pub second : a.behind.second.output ≡ output 1 moves
  pub writes : a.behind.writes ≡ writes moves
  pub disk : (address : SectorAddress) → IsSector address → sector_at a.disk address ≡ image M moves address

-- it is at boot
abbrev pub IsAtBoot : Machine Guest → SingleState → Type 0
IsAtBoot M a = StandsAfter M [] M.boot a

-- it is at the end of the trace with these inputs
pub record StandsAt (M : Machine Guest) (list : List Timed) (a : SingleState) : Type 0 where
  pub moves : List Move
  pub reach : Reach M list a.count moves
  pub stands : StandsAfter M moves reach.last a

-- and it is at this count
pub record RunsTo (M : Machine Guest) (list : List Timed) (count : ℕ) (a : SingleState) : Type 0 where
  pub stands : StandsAt M list a
  pub count_is : a.count ≡ count

-- ---- why a run is refused

-- the fault of an input that is refused
abbrev pub refusal_at : Machine Guest → Guest → Bare → Fault
refusal_at M s (input.Sector drive sector) =
    if M.ready s (M.address s drive sector) && M.busy s (M.address s drive sector) then SectorBusy else NotDue
refusal_at M s _ = NotDue

-- the machine refuses an input, whatever the input carries of the disk: a busy sector, or else one that is not due
pub record IsRefused (M : Machine Guest) (s : Guest) (b : Bare) (fault : Fault) : Type 0 where
  pub untaken : (i : Input) → bare i ≡ b → M.take s i ≡ None
  pub why : fault ≡ refusal_at M s b

-- the trace meets an input that is refused
pub record MeetsRefused (M : Machine Guest) (list : List Timed) (count : ℕ) (fault : Fault) : Type 0 where
  pub before : List Timed
  pub input : Timed
  pub after : List Timed
  pub split : before ++ input ∷ after ≡ list
  pub due : input.count ≤ count
  pub moves : List Move
  pub reach : Reach M before input.count moves
  pub refused : IsRefused M reach.last input.input fault

-- the trace of some of the inputs ends before a count, and the machine executes no step there
pub record Stops (M : Machine Guest) (before : List Timed) (target : ℕ) : Type 0 where
  pub at : ℕ
  pub early : at < target
  pub moves : List Move
  pub reach : Reach M before at moves
  pub stuck : M.step reach.last ≡ None

-- the limit is passed, or a number of the machine is spent
abbrev pub is_spent_at : Machine Guest → ℕ → Guest → Bool
is_spent_at M count s = nat_lt GREATEST_NUMBER count || M.is_spent s

-- it ends there because a number is spent, or else because the machine idles
pub record StopsBy (M : Machine Guest) (before : List Timed) (target count : ℕ) (is_spent : Bool) : Type 0 where
  pub stops : Stops M before target
  pub why : is_spent_at M count stops.reach.last ≡ is_spent

-- the count that the trace has to reach next: that of the next input, and no more than the last one
abbrev pub next_count : ℕ → List Timed → ℕ
next_count count [] = count
next_count count (t ∷ ts) = min t.count count

-- the trace of the list ends short of its next input, or of the last count
pub record StopsShort (M : Machine Guest) (list : List Timed) (count : ℕ) (is_spent : Bool) : Type 0 where
  pub before : List Timed
  pub rest : List Timed
  pub split : before ++ rest ≡ list
  pub ends : StopsBy M before (next_count count rest) count is_spent

-- an input is left when the trace has reached the last count
pub record LeavesInput (M : Machine Guest) (list : List Timed) (count : ℕ) : Type 0 where
  pub before : List Timed
  pub input : Timed
  pub after : List Timed
  pub split : before ++ input ∷ after ≡ list
  pub late : count < input.count
  pub moves : List Move
  pub reach : Reach M before count moves

-- why a run is refused: an input is refused; otherwise the limit is passed or a number is spent before the count; otherwise
-- the machine idles before it, or an input is left at its end; or out of memory
abbrev pub Fails : Machine Guest → List Timed → ℕ → Fault → Type 0
Fails M list count NotDue = MeetsRefused M list count NotDue
Fails M list count SectorBusy = MeetsRefused M list count SectorBusy
Fails M list count Spent = StopsShort M list count true
Fails M list count Idle = StopsShort M list count false ⊎ LeavesInput M list count
Fails M list count OutOfMemory = Unit {0}
Fails M list count _ = ⊥

-- the same for the way to one count
abbrev pub FailsBefore : Machine Guest → List Timed → ℕ → ℕ → Fault → Type 0
FailsBefore M before target count Spent = StopsBy M before target count true
FailsBefore M before target count Idle = StopsBy M before target count false
FailsBefore M before target count OutOfMemory = Unit {0}
FailsBefore M before target count _ = ⊥
