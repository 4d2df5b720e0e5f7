-- A board is not ready for a step until the numbers are checked, and stays ready while no byte and no write gets a
-- number and no room is used: that holds after a step that gives nothing, and after an input.
use Rattle.std.proofs.Common.{◌≡◌, ◌+◌, ◌≤◌, ℕ, true, false, cond, List, None, Some, refl, sym, ap, ◌∙◌, arith, is_some}
use Rattle.std.specs.Prelude.{IfSome, IfNone}
use Rattle.guest_board.proofs.Words.{Guest, IsBoard, OpId, Outstanding, Processor, Stepped, Versioned, Wired, after_complete, operation_at, wired, wired_after, without_operation}
use Rattle.guest_board.specs.Board.{IsReadyUntil}
use Rattle.guest_board.proofs.Accesses.{IsNumberedAs}
use Rattle.guest_board.proofs.Steps.{IsStep, wired_fits}

pub not_ready : (issued : List ℕ) (writes spare : ℕ) → IsReadyUntil 0 issued writes spare
not_ready issued writes spare =
    record { numbers = λ count l. absurd (omega (arith, l)); room = λ l. absurd (omega (arith, l)) }

pub ready_after : (g : Guest) (versions : List ℕ) (kind : Stepped) (processor : Processor) (behind : Versioned)
    → (limit spare later room : ℕ) → IsBoard g versions → IsStep g versions kind processor behind
    → IsReadyUntil limit g.issued g.devices.disk.issued spare
    → IfSome behind.wired.given (λ _. later ≡ 0) → IfNone behind.wired.given ((later ≡ limit) × (room ≡ spare))
    → IsReadyUntil later behind.wired.issued behind.wired.devices.disk.issued room
ready_after g versions kind processor behind limit spare later room board is ready =
    elim behind.wired.given as (λ o. behind.wired.given ≡ o → IfSome o (λ _. later ≡ 0)
    → IfNone o ((later ≡ limit) × (room ≡ spare))
    → IsReadyUntil later behind.wired.issued behind.wired.devices.disk.issued room) [
      | Some op ↦ λ e zero same. rw zero (not_ready behind.wired.issued behind.wired.devices.disk.issued room)
      | None ↦ λ e zero same.
          let fits = wired_fits g board.awaited board.in_range.issued in
          let numbered : IsNumberedAs (wired g) (wired_after g) =
          fits.unless_given (sym (ap (λ (w : Wired). w.given) is.wired_is) ∙ e) in
          rw (same.0, same.1, is.wired_is, numbered.bytes, numbered.writes) ready
    ] refl

-- an operation that is completed leaves room
more_room : (pending : Outstanding) (name : OpId) → pending.spare ≤ (after_complete pending name).spare
more_room pending name =
    elim (is_some (operation_at pending.operations name)) as (λ b.
    pending.spare ≤ (cond b (record { operations = without_operation pending.operations name; spare = pending.spare + 1 }) pending).spare) [
      | true ↦ omega arith
      | false ↦ omega arith
    ]

pub ready_completed : (limit : ℕ) (issued : List ℕ) (writes : ℕ) (pending later : Outstanding) (name : OpId)
    → later ≡ after_complete pending name → IsReadyUntil limit issued writes pending.spare
    → IsReadyUntil limit issued writes later.spare
ready_completed limit issued writes pending later name after ready =
    let more : pending.spare ≤ (after_complete pending name).spare = more_room pending name in
    record {
      numbers = ready.numbers;
      room = λ l. let one : 1 ≤ pending.spare = ready.room l in rw after (omega (arith, one, more));
    }
