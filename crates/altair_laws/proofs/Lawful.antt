-- The laws of a pair's machine hold of the Altair, each by one of the invariants of its traces.
use Rattle.std.proofs.Common.{ℕ, List, ◌⊎◌, inl, inr, refl}
use Rattle.guest_board.specs.MoveLaws.{spent}
use Rattle.altair_laws.proofs.Words.{Guest, IsUnwritten, IsWritten, Lawful, Move, SectorAddress, Setup, altair}
use Rattle.altair_laws.proofs.Images.{Apart}
use Rattle.altair_laws.proofs.Counts.{counts_after, keys_taken}
use Rattle.altair_laws.proofs.Limits.{within_after}
use Rattle.altair_laws.proofs.Bytes.{bytes_after, window_is, due_is, numbered_is}
use Rattle.altair_laws.proofs.Busy.{busy_is}
use Rattle.altair_laws.proofs.Few.{few_is}
use Rattle.altair_laws.proofs.Inputs.{accepts_is}
use Rattle.altair_laws.proofs.Windows.{bytes_pending}
use Rattle.altair_laws.proofs.Writes.{OwnIs}
use Rattle.altair_laws.proofs.Completions.{writes_after}
use Rattle.altair_laws.proofs.Standing.{stands}

-- what its own disk has, in the words of the law
own_is : (setup : Setup) (sectors : SectorAddress → List ℕ) (moves : List Move) (g : Guest) (address : SectorAddress)
    → OwnIs (sectors address) moves g.completed address
    → IsUnwritten (altair setup sectors) moves g address ⊎ IsWritten (altair setup sectors) moves g address
own_is setup sectors moves g address (inl h) = inl (record { none = h.0; bytes = h.1 })
own_is setup sectors moves g address (inr h) =
    inr (record { write = h.0; issued = h.1; there = h.2; last = h.3; bytes = h.4; completed = h.5 })

pub lawful : Apart → (setup : Setup) (sectors : SectorAddress → List ℕ) → Lawful (altair setup sectors)
lawful apart setup sectors = record {
  counts = λ moves s r. (counts_after setup sectors moves s r).count;
  takes_keys = λ moves s port r. keys_taken moves s port (counts_after setup sectors moves s r);
  limit = λ moves s r. (within_after setup sectors moves s r).count;
  spent = λ moves s r e. spent s e;
  window = λ moves s port r. window_is moves s port (bytes_after setup sectors moves s r);
  numbered = λ moves s port number byte r. numbered_is setup sectors moves s port number byte r;
  due = λ moves s port number r e. due_is moves s port number (bytes_after setup sectors moves s r) e;
  named = λ moves s name operation r h. (writes_after apart setup sectors moves s r).are_given.named name operation h;
  given = λ moves s name operation r h. (writes_after apart setup sectors moves s r).are_given.given name operation h;
  write_once = λ moves s v w r. (writes_after apart setup sectors moves s r).once v w;
  write_some = λ moves s w r h. ((writes_after apart setup sectors moves s r).known w h).0;
  own_disk = λ moves s address r. own_is setup sectors moves s address
      ((writes_after apart setup sectors moves s r).own address);
  write_is = λ moves s w r h. (writes_after apart setup sectors moves s r).settled w h;
  placed = λ s drive sector. refl;
  busy = λ moves s w drive sector r found there.
      busy_is s w drive sector (stands apart setup sectors moves s r).writes found there;
  few = λ moves s r. few_is setup sectors moves s (bytes_after setup sectors moves s r)
      (bytes_pending setup sectors moves s r) (writes_after apart setup sectors moves s r);
  accepts = λ moves s t input r allowed taken.
      accepts_is setup sectors s t input (writes_after apart setup sectors moves s r).stands taken;
}
