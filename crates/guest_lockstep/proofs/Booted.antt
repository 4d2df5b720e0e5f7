-- A machine that boots elsewhere makes the same moves, so what is said of its moves and of what is outstanding holds of
-- both machines or of neither. Each fact is carried from a machine to one that boots elsewhere; the first machine is
-- itself the second booted elsewhere, and that carries the fact back.
use Rattle.std.proofs.Common.{◌≡◌, ℕ, List, [], ◌∷◌, refl}
use Rattle.disk_dcdd.specs.declared.address.SectorAddress.{SectorAddress}
use Rattle.guest_lockstep.specs.Machine.{Machine, Move, Do, Take, Runs, booted_from}
use Rattle.guest_lockstep.specs.Outstanding.{ComesAndGoes, AreFew, IsFrugal}
use Rattle.guest_lockstep.specs.Recorded.{Counts, Accepts, Recorded}
use Rattle.guest_lockstep.specs.declared.input.Input.{Input}

pub booted_back : {S : Type 0} (M : Machine S) (start : S) (sectors : SectorAddress → List ℕ)
    → booted_from (booted_from M start sectors) M.boot M.boot_sector ≡ M
booted_back M start sectors = refl

-- ---- to the machine that boots elsewhere

module _ {S : Type 0} (M : Machine S) (start : S) (sectors : SectorAddress → List ℕ) where
  pub Runs-booted : (s t : S) (moves : List Move) → Runs M s moves t → Runs (booted_from M start sectors) s moves t
  Runs-booted s t moves r = r

  pub Accepts-booted : (s t : S) (input : Input) → Accepts M s input t → Accepts (booted_from M start sectors) s input t
  Accepts-booted s t input a =
      record { is_input = a.is_input; room = a.room; allowed = a.allowed; taken = a.taken }

  pub Recorded-booted : (s t : S) (moves : List Move) → Recorded M s moves t
      → Recorded (booted_from M start sectors) s moves t
  Recorded-booted s t [] r = r
  Recorded-booted s t (Do gives ∷ moves) r = (r.0, r.1, Recorded-booted r.0 t moves r.2)
  Recorded-booted s t (Take input ∷ moves) r =
      (r.0, Accepts-booted s r.0 input r.1, Recorded-booted r.0 t moves r.2)

  pub Counts-booted : Counts M → Counts (booted_from M start sectors)
  Counts-booted c = record { by_step = c.by_step; by_input = c.by_input; spent = c.spent }

  pub ComesAndGoes-booted : ComesAndGoes M → ComesAndGoes (booted_from M start sectors)
  ComesAndGoes-booted c = record { comes = c.comes; quiet = c.quiet; goes = c.goes; stays = c.stays }

  pub AreFew-booted : (s : S) → AreFew M s → AreFew (booted_from M start sectors) s
  AreFew-booted s f = record { names = f.names; few = f.few; all = f.all }

  pub IsFrugal-booted : (s : S) → IsFrugal M s → IsFrugal (booted_from M start sectors) s
  IsFrugal-booted s f moves t r = AreFew-booted t (f moves t r)

-- ---- and back

module _ {S : Type 0} (M : Machine S) (start : S) (sectors : SectorAddress → List ℕ) where
  pub Runs-back : (s t : S) (moves : List Move) → Runs (booted_from M start sectors) s moves t → Runs M s moves t
  Runs-back = Runs-booted (booted_from M start sectors) M.boot M.boot_sector

  pub Accepts-back : (s t : S) (input : Input) → Accepts (booted_from M start sectors) s input t → Accepts M s input t
  Accepts-back = Accepts-booted (booted_from M start sectors) M.boot M.boot_sector

  pub Recorded-back : (s t : S) (moves : List Move) → Recorded (booted_from M start sectors) s moves t
      → Recorded M s moves t
  Recorded-back = Recorded-booted (booted_from M start sectors) M.boot M.boot_sector

  pub Counts-back : Counts (booted_from M start sectors) → Counts M
  Counts-back = Counts-booted (booted_from M start sectors) M.boot M.boot_sector

  pub ComesAndGoes-back : ComesAndGoes (booted_from M start sectors) → ComesAndGoes M
  ComesAndGoes-back = ComesAndGoes-booted (booted_from M start sectors) M.boot M.boot_sector

  pub AreFew-back : (s : S) → AreFew (booted_from M start sectors) s → AreFew M s
  AreFew-back = AreFew-booted (booted_from M start sectors) M.boot M.boot_sector

  pub IsFrugal-back : (s : S) → IsFrugal (booted_from M start sectors) s → IsFrugal M s
  IsFrugal-back = IsFrugal-booted (booted_from M start sectors) M.boot M.boot_sector
