-- No number passes its limit. A step is made only if no number is at its limit, and raises the count by one and the
-- number of bytes of one port or of writes by at most one; a key is taken only while the number of keys is below the
-- limit.
use Rattle.std.proofs.Common.{◌≡◌, ℕ, zero, suc, ◌+◌, ◌≤◌, ◌<◌, List, [], ◌∷◌, Some, ◌⊎◌, inl, inr, refl, sym, ap, subst, arith}
use Rattle.std.specs.Prelude.{slice_index, slice_index_or, slice_set, nat_lt, ◌&&◌}
use Rattle.std.proofs.lemmas.Bool.{ltb-true, and_parts}
use Rattle.std.proofs.lemmas.Option.{cond_some}
use Rattle.disk_dcdd.specs.Drive as drives
use Rattle.guest_board.proofs.Stepping.{not_spent}
use Rattle.guest_board.proofs.Boot.{two_zeros}
use Rattle.altair_laws.proofs.Words.{GREATEST_NUMBER, Guest, Input, IsWithin, Move, Processor, Reaches, Rx, SectorAddress, Setup, Wired, after_rx, altair, guest_at_boot, stepped, take_from, top, wired}
use Rattle.altair_laws.proofs.Moves.{from_boot}
use Rattle.altair_laws.proofs.Steps.{Gave, GaveNothing, GaveByte, GaveWrite, steps_from, after_step}
use Rattle.altair_laws.proofs.Sectors.{issues, after_data-issue}

pub top_is : top ≡ GREATEST_NUMBER
unfolding top
top_is = refl

-- the elements of a list of which one is set
pub set-cases : {A : Type 0} (xs : List A) (i : ℕ) (x d : A) (k : ℕ)
    → (slice_index_or (slice_set xs i x) k d ≡ x) ⊎ (slice_index_or (slice_set xs i x) k d ≡ slice_index_or xs k d)
set-cases [] i x d k = inr refl
set-cases (y ∷ xs) zero x d zero = inl refl
set-cases (y ∷ xs) zero x d (suc k) = inr refl
set-cases (y ∷ xs) (suc i) x d zero = inr refl
set-cases (y ∷ xs) (suc i) x d (suc k) = set-cases xs i x d k

-- each number of a list is at most this, and so is one that is set
pub set-within : (xs : List ℕ) (i x most : ℕ) → ((k : ℕ) → slice_index xs k ≤ most) → x ≤ most → (k : ℕ)
    → slice_index (slice_set xs i x) k ≤ most
set-within xs i x most h l k = go (set-cases xs i x 0 k)
  where
    go : (slice_index (slice_set xs i x) k ≡ x) ⊎ (slice_index (slice_set xs i x) k ≡ slice_index xs k)
        → slice_index (slice_set xs i x) k ≤ most
    go (inl e) = omega arith
    go (inr e) = let m = h k in omega arith

within-boot : (setup : Setup) → IsWithin (guest_at_boot setup)
within-boot setup = record {
  count = (let t = top_is in (omega arith));
  issued = λ port. (let z = two_zeros port in (omega arith));
  writes = (let t = top_is in (omega arith));
  keys = λ port. (let z = two_zeros port in (omega arith));
}

within-gave : (g : Guest) (processor : Processor) (w : Wired) → IsWithin g → g.count < GREATEST_NUMBER
    → Gave (wired g) w → IsWithin (stepped g processor w)
within-gave g processor w h l (GaveNothing _ e q) = record {
  count = (let t = top_is in (omega arith));
  issued = λ port. subst (λ xs. slice_index xs port ≤ top) (sym q.issued) (h.issued port);
  writes = subst (λ n. n ≤ top) (sym q.disk.issued) h.writes;
  keys = h.keys;
}
within-gave g processor w h l (GaveByte port byte inside k room) = record {
  count = (let t = top_is in (omega arith));
  issued = set-within g.issued port (slice_index g.issued port + 1) top h.issued (let t = top_is in omega arith);
  writes = h.writes;
  keys = h.keys;
}
within-gave g processor w h l (GaveWrite byte write e k) =
    let i = issues g.devices.disk byte write e in
    let n = ap (λ (d : drives.Drives). d.issued) (after_data-issue g.devices.disk byte write e) in
    record {
      count = (let t = top_is in (omega arith));
      issued = h.issued;
      writes = (let t = top_is in let m = i.number in (omega arith));
      keys = h.keys;
    }

within-take : (g u : Guest) (i : Input) → IsWithin g → take_from g i ≡ Some u → IsWithin u
within-take g u (Rx port byte) h e =
    let t = cond_some (nat_lt port 2 && nat_lt (slice_index g.keys port) GREATEST_NUMBER) (after_rx g port byte) u e in
    let l = ltb-true (slice_index g.keys port) GREATEST_NUMBER
    (and_parts (nat_lt port 2) (nat_lt (slice_index g.keys port) GREATEST_NUMBER) t.0).1 in
    subst IsWithin t.1 (record {
      count = h.count;
      issued = h.issued;
      writes = h.writes;
      keys = set-within g.keys port (slice_index g.keys port + 1) top h.keys (let t = top_is in omega arith);
    })
within-take g u i h e =
    subst IsWithin (cond_some _ _ u e).1 (record { count = h.count; issued = h.issued; writes = h.writes; keys = h.keys })

pub within_after : (setup : Setup) (sectors : SectorAddress → List ℕ) (moves : List Move) (g : Guest)
    → Reaches (altair setup sectors) moves g → IsWithin g
within_after setup sectors = from_boot (altair setup sectors) (λ moves g. IsWithin g) (within-boot setup) (record {
  steps = λ moves g u gives h e. (let k = steps_from g u gives e in
      after_step (λ moves g. IsWithin g) moves g u gives k
      (within-gave g k.processor k.behind h (not_spent g k.unspent) k.gave));
  takes = λ moves g u i h e. within-take g u i h e;
})
