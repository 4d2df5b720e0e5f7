-- What one move of a guest changes apart from its devices. A step raises the count by one and adds the operation that
-- it gives; an input leaves the count unchanged and removes the operation that it completes, and all others stay under
-- their names.
use Rattle.std.proofs.Common.{◌≡◌, ℕ, suc, Bool, true, false, cond, ◌||◌, Option, Some, None, sym, ap, ◌∙◌, arith}
use Rattle.std.specs.Option.{option_map}
use Rattle.std.proofs.lemmas.Option.{cond_some, same_Some, none-some}
use Rattle.event_callbacks.specs.Completions.{is_due}
use Rattle.event_callbacks.specs.Operations.{id_of, operation_at, without_operation}
use Rattle.event_callbacks.specs.declared.devices.Done.TheVariants as done
use Rattle.event_callbacks.specs.declared.operations.OpId.{OpId}
use Rattle.event_callbacks.specs.declared.operations.OpId.TheVariants as id
use Rattle.event_callbacks.specs.declared.operations.Operation.{Operation}
use Rattle.event_callbacks.proofs.OperationMap.{operation_at-with, operation_at-with_other, operation_at-without, operation_at-without_other}
use Rattle.guest_parts.specs.Guest.{Guest}
use Rattle.guest_board.specs.Guest.{wired_after, next, with_given, is_spent, is_idle, step_from, take_from, oldest_byte, may_take_key, may_take_sector, after_rx, after_sent, after_sector, after_written}
use Rattle.guest_board.specs.Inputs.{some_altair}
use Rattle.guest_lockstep.specs.Outstanding.{completed_by, ComesAndGoes}
use Rattle.guest_lockstep.specs.Recorded.{Counts}
use Rattle.guest_lockstep.specs.declared.input.Input.{Input}
use Rattle.guest_lockstep.specs.declared.input.Input.TheVariants.{Rx, Sent, Sector, Written}

-- ---- a step

-- a step that is executed leads to the next guest, and gives the operation that the wiring was given
pub record IsNext (g t : Guest) (gives : Option Operation) : Type 0 where
  pub after : next g ≡ t
  pub given : (wired_after g).given ≡ gives

pub is_next : (g t : Guest) (gives : Option Operation) → step_from g ≡ Some (t, gives) → IsNext g t gives
is_next g t gives e = made (is_spent g || is_idle g) e
  where
    made : (b : Bool)
        → cond {A = Option (Guest × Option Operation)} b None (Some (next g, (wired_after g).given)) ≡ Some (t, gives)
        → IsNext g t gives
    made true e = absurd (none-some _ e)
    made false e =
        let same = same_Some {A = Guest × Option Operation} (next g, (wired_after g).given) (t, gives) e in
        record { after = ap (λ p. p.0) same; given = ap (λ p. p.1) same }

-- a guest that is spent executes none
pub spent : (g : Guest) → is_spent g ≡ true → step_from g ≡ None
spent g e = ap (λ b. cond (b || is_idle g) None (Some (next g, (wired_after g).given))) e

count-step : (g t : Guest) (gives : Option Operation) → step_from g ≡ Some (t, gives) → t.count ≡ suc g.count
count-step g t gives e = let same = ap (λ (x : Guest). x.count) (is_next g t gives e).after in omega arith

-- the operations after a step
after_step : (g t : Guest) (gives : Option Operation) → step_from g ≡ Some (t, gives)
    → t.operations ≡ with_given g.operations gives
after_step g t gives e =
    let n = is_next g t gives e in
    sym (ap (λ (x : Guest). x.operations) n.after) ∙ ap (with_given g.operations) n.given

-- ---- an input

count-input : (g t : Guest) (input : Input) → take_from g input ≡ Some t → t.count ≡ g.count
count-input g t (Rx port byte) e =
    ap (λ (x : Guest). x.count) (sym (cond_some (may_take_key g port) (after_rx g port byte) t e).1)
count-input g t (Sent port) e =
    ap (λ (x : Guest). x.count) (sym (cond_some (is_due g.devices (done.Sent port)) (after_sent g port) t e).1)
count-input g t (Sector drive sector number bytes) e =
    ap (λ (x : Guest). x.count)
    (sym (cond_some (may_take_sector g drive sector bytes) (after_sector g sector bytes) t e).1)
count-input g t (Written number) e =
    ap (λ (x : Guest). x.count)
    (sym (cond_some (is_due g.devices (done.Written number)) (after_written g number) t e).1)

-- an acceptance that is due completes the oldest byte
completes_due : (g : Guest) (port : ℕ) → is_due g.devices (done.Sent port) ≡ true
    → completed_by some_altair g (Sent port) ≡ Some (id.Byte port (oldest_byte g port))
completes_due g port due = ap (λ b. option_map (id.Byte port) (cond b (Some (oldest_byte g port)) None)) due

-- the operations after an input that completes one, and after one that completes none
completes : (g t : Guest) (input : Input) (name : OpId) → take_from g input ≡ Some t
    → completed_by some_altair g input ≡ Some name → t.operations ≡ without_operation g.operations name
completes g t (Rx port byte) name e c = absurd (none-some name c)
completes g t (Sent port) name e c =
    let taken = cond_some (is_due g.devices (done.Sent port)) (after_sent g port) t e in
    let due = completes_due g port taken.0 in
    ap (λ (x : Guest). x.operations) (sym taken.1)
    ∙ ap (without_operation g.operations) (same_Some (id.Byte port (oldest_byte g port)) name (sym due ∙ c))
completes g t (Sector drive sector number bytes) name e c = absurd (none-some name c)
completes g t (Written number) name e c =
    ap (λ (x : Guest). x.operations)
    (sym (cond_some (is_due g.devices (done.Written number)) (after_written g number) t e).1)
    ∙ ap (without_operation g.operations) (same_Some (id.Write number) name c)

leaves : (g t : Guest) (input : Input) → take_from g input ≡ Some t → completed_by some_altair g input ≡ None
    → t.operations ≡ g.operations
leaves g t (Rx port byte) e c =
    ap (λ (x : Guest). x.operations) (sym (cond_some (may_take_key g port) (after_rx g port byte) t e).1)
leaves g t (Sent port) e c =
    let taken = cond_some (is_due g.devices (done.Sent port)) (after_sent g port) t e in
    absurd (none-some (id.Byte port (oldest_byte g port)) (sym c ∙ completes_due g port taken.0))
leaves g t (Sector drive sector number bytes) e c =
    ap (λ (x : Guest). x.operations)
    (sym (cond_some (may_take_sector g drive sector bytes) (after_sector g sector bytes) t e).1)
leaves g t (Written number) e c = absurd (none-some (id.Write number) (sym c))

-- ---- what holds of every guest

pub guests_count : Counts some_altair
guests_count = record { by_step = count-step; by_input = count-input; spent = spent }

pub guests_issue_and_complete : ComesAndGoes some_altair
guests_issue_and_complete = record {
  comes = λ s t o e. (
    ap (λ m. operation_at m (id_of o)) (after_step s t (Some o) e) ∙ operation_at-with s.operations o,
    λ name differs. ap (λ m. operation_at m name) (after_step s t (Some o) e)
        ∙ operation_at-with_other s.operations o name differs,
  );
  quiet = λ s t e name. ap (λ m. operation_at m name) (after_step s t None e);
  goes = λ s t input name e c. (
    ap (λ m. operation_at m name) (completes s t input name e c) ∙ operation_at-without s.operations name,
    λ other differs. ap (λ m. operation_at m other) (completes s t input name e c)
        ∙ operation_at-without_other s.operations name other differs,
  );
  stays = λ s t input e c name. ap (λ m. operation_at m name) (leaves s t input e c);
}
