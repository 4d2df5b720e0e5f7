-- What holds of every board holds at boot: nothing is outstanding, and every number is 0.
use Rattle.std.proofs.Common.{◌≡◌, ℕ, zero, suc, ◌*◌, ◌^◌, ◌<◌, List, [], ◌∷◌, refl, arith}
use Rattle.std.specs.Prelude.{slice_index}
use Rattle.disk_dcdd.specs.declared.address.TheConstants.{DRIVE_SECTORS}
use Rattle.guest_board.proofs.Words.{Guest, IsBoard, at_boot, nothing_outstanding}
use Rattle.guest_memory.specs.Pages.{zeros}
use Rattle.guest_memory.proofs.NewMemory.{length-zeros, only_zeros}
use Rattle.guest_memory.specs.declared.memory.TheConstants.{PAGES}
use Rattle.guest_board.proofs.Awaited.{awaited-boot}

pub two_zeros : (k : ℕ) → slice_index (0 ∷ 0 ∷ []) k ≡ 0
two_zeros zero = refl
two_zeros (suc zero) = refl
two_zeros (suc (suc k)) = refl

pub board-boot : (g : Guest) (versions : List ℕ) (attached : ℕ) → g.devices ≡ at_boot attached
    → g.operations ≡ nothing_outstanding.operations → g.issued ≡ 0 ∷ 0 ∷ [] → g.keys ≡ 0 ∷ 0 ∷ [] → g.count ≡ 0
    → g.completed ≡ zeros (attached * DRIVE_SECTORS) → versions ≡ zeros PAGES
    → ((device : ℕ) → slice_index g.levels device < 8) → g.sense < 2 ^ 8 → IsBoard g versions
board-boot g versions attached at none issued keys count completed pages levels sense = record {
  awaited = rw (at, none, issued) (awaited-boot attached);
  in_range = record {
    count = rw count (omega arith);
    issued = λ port. rw (issued, two_zeros port) (omega arith);
    keys = λ port. rw (keys, two_zeros port) (omega arith);
    ports = rw keys refl;
    levels = levels;
    sense = sense;
    writes = λ page. rw (pages, only_zeros PAGES page) (omega arith);
  };
  completed = record {
    sectors = rw (completed, at) (length-zeros (attached * DRIVE_SECTORS));
    last = λ index. rw (completed, only_zeros (attached * DRIVE_SECTORS) index) (omega arith);
    done = λ index. rw at refl;
  };
}
