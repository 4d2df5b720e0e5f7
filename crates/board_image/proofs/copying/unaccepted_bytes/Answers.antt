-- Each byte that is read takes the next place; after the last one the window is that of the guest.
use Rattle.std.proofs.Common.{◌≡◌, ℕ, ◌+◌, ◌-◌, ◌≤◌, length, refl, ap, ◌∙◌, arith}
use Rattle.std.proofs.lemmas.List.{length-set}
use Rattle.event_callbacks.specs.Operations.{Operations}
use Rattle.guest_parts.specs.Parts.{oldest_of}
use Rattle.clone_state.specs.Checkpoint.{bytes_numbered, padded}
use Rattle.board_image.proofs.Windows.{all_free, one_more, still_free, window_is}
use Rattle.board_image.proofs.copying.unaccepted_bytes.Goals as goal

pub loop-place-init : goal.loop-place-init
loop-place-init g c = record { whole = refl; has = λ k low. absurd (omega (arith, low)); free = all_free 16 }

pub loop-place-preserved : goal.loop-place-preserved
loop-place-preserved g c =
    let i = c.loop-place.invariant in
    let oldest : ℕ = c.issued.result + 1 - c.from.result in
    let inside : c.loop-place.place + 1 ≤ length c.loop-place.bytes = omega arith in
    record {
      whole = length-set c.loop-place.bytes c.loop-place.place c.outstanding_byte.result ∙ i.whole;
      has = one_more c.args.board.now.guest.operations c.args.port oldest c.loop-place.place c.loop-place.bytes
          c.outstanding_byte.result (omega arith) (rw c.from-in-loop-place.ensures at c.outstanding_byte.ensures) i.has;
      free = still_free c.loop-place.place c.loop-place.bytes c.outstanding_byte.result i.free;
    }

pub returns-clause-window : goal.returns-clause-window
returns-clause-window g c =
    let i = c.loop-place.invariant in
    let m : Operations = c.args.board.now.guest.operations in
    let oldest : ℕ = c.issued.result + 1 - c.from.result in
    let all : c.loop-place.place ≡ c.port.result.unaccepted = omega arith in
    let first : oldest ≡ oldest_of c.args.board.now.guest.devices c.args.board.now.guest.issued c.args.port =
    rw (c.from.ensures, c.unaccepted-unaccepted.ensures.value, c.issued.ensures.value, c.port.ensures) refl in
    window_is m c.args.port oldest c.loop-place.place c.loop-place.bytes i.whole (omega arith) i.has i.free
    ∙ ap (λ n. padded (bytes_numbered m c.args.port n c.loop-place.place)) first
    ∙ ap (λ n. padded (bytes_numbered m c.args.port
    (oldest_of c.args.board.now.guest.devices c.args.board.now.guest.issued c.args.port) n)) (all ∙ ap (λ p. p.unaccepted) c.port.ensures)
