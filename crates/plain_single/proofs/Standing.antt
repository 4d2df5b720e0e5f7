-- If the single machine is on a trace, it is on it after one more step; if it executes none, the trace ends.
use Rattle.std.proofs.Common.{◌≡◌, ℕ, ◌+◌, ◌<◌, Bool, true, false, ◌==◌, ◌||◌, List, [], ◌∷◌, ◌++◌, Option, None, Some, refl, sym, ap, ◌∙◌, subst, ◌⊎◌, inl, inr}
use Rattle.std.specs.Prelude.{if◌then◌else◌, nat_lt}
use Rattle.std.proofs.lemmas.List.{append-nil}
use Rattle.std.proofs.Math.Bool.{or-true}
use Rattle.disk_dcdd.specs.declared.address.SectorAddress.{SectorAddress}
use Rattle.disk_dcdd.specs.declared.sector.SectorWrite.{SectorWrite}
use Rattle.i8080_words.specs.declared.limits.TheConstants.{GREATEST_NUMBER}
use Rattle.i8080_words.specs.declared.refusal.Fault.{Fault}
use Rattle.i8080_words.specs.declared.refusal.Fault.TheVariants as faults
use Rattle.event_callbacks.specs.declared.operations.Operation.{Operation}
use Rattle.event_callbacks.specs.declared.operations.Operation.TheVariants.{Byte, Write}
use Rattle.guest_parts.specs.Guest.{Guest}
use Rattle.guest_board.specs.Guest.{altair, step_from, next, wired_after, is_spent, is_idle}
use Rattle.guest_lockstep.specs.Machine.{Machine, Do}
use Rattle.guest_board.specs.declared.setup.Setup.{Setup}
use Rattle.guest_board.specs.MoveLaws.{spent}
use Rattle.plain_single.specs.SingleState.{SingleState, guest_with, guest_of, step_refusal, RefusesStep, after_step}
use Rattle.plain_single.specs.Behind.{with_byte, with_write}
use Rattle.guest_lockstep.specs.Reach.{image_from}
use Rattle.plain_single.specs.Reaching.{StandsAt, StopsBy, is_spent_at, FailsBefore}
use Rattle.guest_lockstep.specs.declared.timed.Timed.{Timed}
use Rattle.guest_lockstep.proofs.Moves.{inputs-do, runs-append}
use Rattle.plain_single.proofs.Moves.{owns_on, steps_do, sent, written, output_do, writes_do, image_on}
use Rattle.plain_single.proofs.Stepping.{next_is, step_is}

-- ---- what a step adds

if_added : (b : Bool) (xs : List ℕ) (x : ℕ) → (if b then xs ++ x ∷ [] else xs) ≡ xs ++ (if b then x ∷ [] else [])
if_added true xs x = refl
if_added false xs x = sym (append-nil xs)

byte_added : (port : ℕ) (bytes : List ℕ) (gives : Option Operation)
    → with_byte port bytes gives ≡ bytes ++ sent port gives
byte_added port bytes None = sym (append-nil bytes)
byte_added port bytes (Some (Byte to number byte)) = if_added (port == to) bytes byte
byte_added port bytes (Some (Write w)) = sym (append-nil bytes)

write_added : (ws : List SectorWrite) (gives : Option Operation) → with_write ws gives ≡ ws ++ written gives
write_added ws None = sym (append-nil ws)
write_added ws (Some (Byte to number byte)) = sym (append-nil ws)
write_added ws (Some (Write w)) = refl

image_same : (issued : List SectorWrite) (a : SectorAddress) (bytes : List ℕ) (gives : Option Operation)
    → image_from issued a bytes (Do gives ∷ []) ≡ bytes
image_same issued a bytes None = refl
image_same issued a bytes (Some (Byte to number byte)) = refl
image_same issued a bytes (Some (Write w)) = refl

-- ---- one more step

pub steps_on : (last : ℕ) (setup : Setup) (sectors : SectorAddress → List ℕ) (list : List Timed) (a : SingleState)
    → StandsAt (altair setup sectors) list a → step_refusal last a ≡ None
    → StandsAt (altair setup sectors) list (after_step a)
steps_on last setup sectors list a x e =
    let M : Machine Guest = altair setup sectors in
    let t : Guest = x.reach.last in
    let u : Guest = next (guest_with a t.operations t.completed) in
    let gives : Option Operation = (wired_after (guest_of a)).given in
    let steps : step_from t ≡ Some (u, gives) =
    subst (λ g. step_from g ≡ Some (u, gives)) x.stands.guest (step_is last a t.operations t.completed e) in
    record {
      moves = x.moves ++ Do gives ∷ [];
      reach = record {
        last = u;
        runs = runs-append M M.boot t u x.moves (Do gives ∷ []) x.reach.runs (u, steps, refl);
        owns = owns_on M [] x.moves M.boot t x.moves (Do gives ∷ []) refl x.reach.owns x.reach.runs (λ v s. tt);
        list_is = inputs-do 0 x.moves gives ∙ x.reach.list_is;
        count_is = steps_do x.moves gives ∙ ap (λ n. n + 1) x.reach.count_is;
      };
      stands = record {
        guest = next_is a t.operations t.completed;
        first = byte_added 0 a.behind.first.output gives
            ∙ ap (λ bytes. bytes ++ sent 0 gives) x.stands.first ∙ sym (output_do 0 x.moves gives);
        second = byte_added 1 a.behind.second.output gives
            ∙ ap (λ bytes. bytes ++ sent 1 gives) x.stands.second ∙ sym (output_do 1 x.moves gives);
        writes = write_added a.behind.writes gives
            ∙ ap (λ ws. ws ++ written gives) x.stands.writes ∙ sym (writes_do x.moves gives);
        disk = λ address is. x.stands.disk address is
            ∙ sym (image_on [] address (sectors address) x.moves (Do gives ∷ []) ∙ image_same _ address _ gives);
      };
    }

-- ---- no more steps

-- the trace ends at the machine's count, if it executes no step there
stops_at : (setup : Setup) (sectors : SectorAddress → List ℕ) (list : List Timed) (a : SingleState) (target last : ℕ) (is_spent : Bool)
    → (x : StandsAt (altair setup sectors) list a) → a.count < target → step_from x.reach.last ≡ None
    → is_spent_at (altair setup sectors) last x.reach.last ≡ is_spent
    → StopsBy (altair setup sectors) list target last is_spent
stops_at setup sectors list a target last is_spent x early stuck why = record {
  stops = record { at = a.count; early = early; moves = x.moves; reach = x.reach; stuck = stuck };
  why = why;
}

idle_stuck : (g : Guest) → is_spent g ≡ false → is_idle g ≡ true → step_from g ≡ None
idle_stuck g e h = rw (e, h) refl

-- a refusal is one of three: a number is spent, the machine idles on the way past the limit, or it idles
cases : (spent idle past : Bool) (fault : Fault)
    → (if spent then Some faults.Spent else if idle then Some (if past then faults.Spent else faults.Idle) else None) ≡ Some fault
    → ((spent ≡ true) × (fault ≡ faults.Spent))
    ⊎ ((spent ≡ false) × (idle ≡ true) × (past ≡ true) × (fault ≡ faults.Spent))
    ⊎ ((spent ≡ false) × (idle ≡ true) × (past ≡ false) × (fault ≡ faults.Idle))
cases true idle past fault e = inl (refl, cc)
cases false true true fault e = inr (inl (refl, refl, refl, cc))
cases false true false fault e = inr (inr (refl, refl, refl, cc))
cases false false past fault e = absurd (cc)

pub fails_at : (setup : Setup) (sectors : SectorAddress → List ℕ) (list : List Timed) (a : SingleState) (target last : ℕ) (fault : Fault)
    → StandsAt (altair setup sectors) list a → a.count < target → step_refusal last a ≡ Some fault
    → FailsBefore (altair setup sectors) list target last fault
fails_at setup sectors list a target last fault x early e =
    let g : Guest = guest_with a x.reach.last.operations x.reach.last.completed in
    elim (cases (is_spent (guest_of a)) (is_idle (guest_of a)) (nat_lt GREATEST_NUMBER last) fault e) [
      | inl h ↦ subst (FailsBefore (altair setup sectors) list target last) (sym h.1)
          (stops_at setup sectors list a target last true x early
          (subst (λ s. step_from s ≡ None) x.stands.guest (spent g h.0))
          (subst (λ s. (nat_lt GREATEST_NUMBER last || is_spent s) ≡ true) x.stands.guest
          (rw h.0 (or-true (nat_lt GREATEST_NUMBER last)))))
      | inr k ↦ elim k [
        | inl h ↦ subst (FailsBefore (altair setup sectors) list target last) (sym h.3)
            (stops_at setup sectors list a target last true x early
            (subst (λ s. step_from s ≡ None) x.stands.guest (idle_stuck g h.0 h.1))
            (rw h.2 refl))
        | inr h ↦ subst (FailsBefore (altair setup sectors) list target last) (sym h.3)
            (stops_at setup sectors list a target last false x early
            (subst (λ s. step_from s ≡ None) x.stands.guest (idle_stuck g h.0 h.1))
            (subst (λ s. (nat_lt GREATEST_NUMBER last || is_spent s) ≡ false) x.stands.guest (rw (h.2, h.0) refl)))
      ]
    ]

-- so it does if a step is refused for any reason but memory, of which nothing is said
pub refused_step : (setup : Setup) (sectors : SectorAddress → List ℕ) (list : List Timed) (a : SingleState) (target last : ℕ) (fault : Fault)
    → StandsAt (altair setup sectors) list a → a.count < target → RefusesStep last a fault
    → FailsBefore (altair setup sectors) list target last fault
refused_step setup sectors list a target last faults.OutOfMemory x early e = tt
refused_step setup sectors list a target last faults.Spent x early e =
    fails_at setup sectors list a target last faults.Spent x early e
refused_step setup sectors list a target last faults.LogFull x early e =
    fails_at setup sectors list a target last faults.LogFull x early e
refused_step setup sectors list a target last faults.NotDue x early e =
    fails_at setup sectors list a target last faults.NotDue x early e
refused_step setup sectors list a target last faults.WrongNumber x early e =
    fails_at setup sectors list a target last faults.WrongNumber x early e
refused_step setup sectors list a target last faults.StaleRead x early e =
    fails_at setup sectors list a target last faults.StaleRead x early e
refused_step setup sectors list a target last faults.SectorBusy x early e =
    fails_at setup sectors list a target last faults.SectorBusy x early e
refused_step setup sectors list a target last faults.WrongRole x early e =
    fails_at setup sectors list a target last faults.WrongRole x early e
refused_step setup sectors list a target last faults.WrongGeneration x early e =
    fails_at setup sectors list a target last faults.WrongGeneration x early e
refused_step setup sectors list a target last faults.Malformed x early e =
    fails_at setup sectors list a target last faults.Malformed x early e
refused_step setup sectors list a target last faults.NotWhole x early e =
    fails_at setup sectors list a target last faults.NotWhole x early e
refused_step setup sectors list a target last faults.NotCovered x early e =
    fails_at setup sectors list a target last faults.NotCovered x early e
refused_step setup sectors list a target last faults.DeviceFault x early e =
    fails_at setup sectors list a target last faults.DeviceFault x early e
refused_step setup sectors list a target last faults.Lost x early e =
    fails_at setup sectors list a target last faults.Lost x early e
refused_step setup sectors list a target last faults.Unknown x early e =
    fails_at setup sectors list a target last faults.Unknown x early e
refused_step setup sectors list a target last faults.BadAck x early e =
    fails_at setup sectors list a target last faults.BadAck x early e
refused_step setup sectors list a target last faults.Stalled x early e =
    fails_at setup sectors list a target last faults.Stalled x early e
refused_step setup sectors list a target last faults.Idle x early e =
    fails_at setup sectors list a target last faults.Idle x early e
refused_step setup sectors list a target last (faults.BadScript line) x early e =
    fails_at setup sectors list a target last (faults.BadScript line) x early e
