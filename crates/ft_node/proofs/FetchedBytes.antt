-- The bytes that arrive for the read that a follower waits for: its replayer's read is the node's, and so are the refusals
-- of bytes that are not wanted.
use Rattle.std.proofs.Common.{◌≡◌, ℕ, Bool, true, false, cond, not, ◌==◌, Option, Some, None, List, [], ◌∷◌, Result, Ok, Err, refl, sym, ap, ◌∙◌}
use Rattle.std.specs.Prelude.{OnOk, OnErr}
use Rattle.disk_dcdd.specs.Address.{same_address}
use Rattle.ft_node.proofs.Words.{Backup, Draining, Fault, IsFollower, Machine, Node, NotDue, Reads, Receiving, Role, StaleRead, answered, fault_if, fetches, first_of, role_refusal}
use Rattle.pair_protocol.specs.Effects as effect
use Rattle.pair_protocol.specs.Refusals as refusals
use Rattle.replayer.specs.Replaying as replaying
use Rattle.replayer.specs.Replaying.{place_of}
use Rattle.shared_disk.specs.declared.disk.SectorRead.{SectorRead}
use Rattle.ft_node.specs.Calls as calls
use Rattle.ft_node.proofs.FollowerMoves.{wanted_is}

-- what a call that went well, or did not, left
pub when_ok : {A P Q : Type 0} (result : Result A Fault) → (P → Q) → OnOk result P → OnOk result Q
when_ok (Ok value) f p = f p
when_ok (Err fault) f p = tt

pub when_refused : {A P Q : Type 0} (result : Result A Fault) → (P → Q) → OnErr result P → OnErr result Q
when_refused (Ok value) f p = tt
when_refused (Err fault) f p = f p

-- both refusals of bytes, in one order
one_or_other : (a b : Bool)
    → cond a (Some NotDue) (cond b (Some StaleRead) None)
    ≡ first_of (fault_if a NotDue ∷ fault_if b StaleRead ∷ [])
one_or_other true b = refl
one_or_other false true = refl
one_or_other false false = refl

unwanted_alike : {S : Type 0} (M : Machine S) (x : Node S) (read : SectorRead) (next : Option (ℕ × ℕ × ℕ))
    → replaying.unwanted M x.machine read next ≡ refusals.unwanted M x (place_of read) read.number next
unwanted_alike M x read None = refl
unwanted_alike M x read (Some next) =
    one_or_other (not (same_address (M.address x.machine next.0 next.1) (place_of read))) (not (next.2 == read.number))

module _ {S : Type 0} (M : Machine S) (role : Role) (reads : Reads) (x : Node S) (s : S) (come : Option (List ℕ))
    (r : Receiving) (f : IsFollower role reads s come r x)
    (allowed : role_refusal (Backup ∷ Draining ∷ []) x ≡ None) where
  same_wanted : replaying.wanted M s r.entries come ≡ effect.wanted M x
  same_wanted =
      ap (λ s. replaying.wanted M s r.entries come) (sym f.machine)
      ∙ ap (replaying.wanted M x.machine r.entries) (sym f.come)
      ∙ wanted_is M x x.machine x.replayed r.entries x.fetched (sym f.left)

  refusal_is : (read : SectorRead)
      → replaying.bytes_refusal M s r.entries come read
      ≡ refusals.fetched_refusal M (place_of read) read.number x
  refusal_is read =
      ap (replaying.unwanted M s read) same_wanted
      ∙ ap (λ s. replaying.unwanted M s read (effect.wanted M x)) (sym f.machine)
      ∙ unwanted_alike M x read (effect.wanted M x)
      ∙ first_alone (refusals.unwanted M x (place_of read) read.number (effect.wanted M x))
      ∙ ap (λ role. first_of (role ∷ refusals.unwanted M x (place_of read) read.number (effect.wanted M x) ∷ []))
      (sym allowed)
    where
      first_alone : (o : Option Fault) → o ≡ first_of (None ∷ o ∷ [])
      first_alone None = refl
      first_alone (Some fault) = refl

  has_them : (read : SectorRead) (still : Option (List ℕ)) → still ≡ Some read.bytes
      → IsFollower role reads s still r (fetches x read.bytes)
  has_them read still is = record {
    role_is = f.role_is;
    up = f.up;
    generation = f.generation;
    reads_are = f.reads_are;
    machine = f.machine;
    come = sym is;
    held = f.held;
    left = f.left;
    within = f.within;
  }

  -- they are taken, or refused, which changes nothing
  pub fetched : (read : SectorRead) (t : S) (still : Option (List ℕ)) (left : Receiving)
      (result : Result (Unit {0}) Fault) → result ≡ answered (replaying.bytes_refusal M s r.entries come read)
      → OnOk result ((t ≡ s) × (left ≡ r) × (still ≡ Some read.bytes))
      → OnErr result ((t ≡ s) × (left ≡ r) × (still ≡ come))
      → calls.Fetches M (place_of read) read.number read.bytes x result (IsFollower role reads t still left)
  fetched read t still left result answer kept stays =
      go (refusals.fetched_refusal M (place_of read) read.number x) result (answer ∙ ap answered (refusal_is read)) kept
      stays
    where
      Is : Node S → Type 0
      Is = IsFollower role reads t still left

      go : (o : Option Fault) (result : Result (Unit {0}) Fault) → result ≡ answered o
          → OnOk result ((t ≡ s) × (left ≡ r) × (still ≡ Some read.bytes))
          → OnErr result ((t ≡ s) × (left ≡ r) × (still ≡ come))
          → calls.Unless o result (Is x) (calls.Gives result (⊥ × Is x) (λ done. calls.Makes x (effect.Fetched read.bytes) Is))
      go None (Ok done) is kept stays = record {
        y = fetches x read.bytes;
        done = refl;
        after = rw (kept.0, kept.1) (has_them read still kept.2);
      }
      go None (Err fault) is kept stays = absurd cc
      go (Some fault) (Ok done) is kept stays = absurd cc
      go (Some fault) (Err other) is kept stays = (is, rw (stays.0, stays.1, stays.2) f)
