-- After any moves from boot an Altair meets the invariant of boards: each move keeps it.
use Rattle.std.proofs.Common.{◌≡◌, ℕ, ◌^◌, ◌<◌, true, false, Option, Some, None, List, refl, sym, ap, subst, ◌∙◌}
use Rattle.std.specs.Prelude.{nat_lt, slice_index, is_some, IfSome}
use Rattle.std.proofs.lemmas.Bool.{ltb-true, and_parts}
use Rattle.std.proofs.lemmas.Option.{cond_some}
use Rattle.serial_2sio.specs.Port as serial
use Rattle.disk_dcdd.specs.declared.address.SectorAddress.{SectorAddress}
use Rattle.i8080_words.specs.declared.limits.TheConstants.{GREATEST_NUMBER}
use Rattle.event_callbacks.specs.Completions.{port_of, is_due, done_of}
use Rattle.event_callbacks.specs.Operations.{operation_at, without_operation, id_of}
use Rattle.event_callbacks.specs.declared.devices.Done.TheVariants as done
use Rattle.event_callbacks.specs.declared.devices.TheConstants.{PORTS}
use Rattle.event_callbacks.specs.declared.operations.OpId.TheVariants as id
use Rattle.event_callbacks.specs.declared.operations.Operation.{Operation}
use Rattle.guest_parts.specs.Board.{IsBoard}
use Rattle.guest_parts.specs.Guest.{Guest}
use Rattle.guest_board.specs.Guest.{altair, guest_at_boot, step_from, take_from, may_take_key, may_take_sector, after_rx, after_sent, after_sector, after_written, oldest_byte, with_completed}
use Rattle.guest_lockstep.specs.Machine.{Move}
use Rattle.guest_board.specs.Stepping.{next_versions}
use Rattle.guest_lockstep.specs.declared.input.Input.{Input}
use Rattle.guest_lockstep.specs.declared.input.Input.TheVariants.{Rx, Sent, Sector, Written}
use Rattle.guest_board.specs.declared.setup.Setup.{Setup}
use Rattle.guest_board.proofs.Boot.{board-boot}
use Rattle.altair_laws.proofs.AfterMoves.{is_next}
use Rattle.guest_board.proofs.Steps.{board_next}
use Rattle.guest_board.proofs.Stepping.{not_spent}
use Rattle.guest_board.proofs.Inputs.{board_received, board_sent, board_sector, board_written}
use Rattle.guest_memory.specs.Pages.{zeros}
use Rattle.guest_memory.specs.declared.memory.TheConstants.{PAGES}
use Rattle.pair_protocol.specs.Lawful.{Reaches}
use Rattle.altair_laws.proofs.Moves.{from_boot}

-- it stands as boards do, however often its pages were written
abbrev pub StaysBoard : Guest → Type 0
StaysBoard g = (versions : List ℕ) × IsBoard g versions

board-step : (g u : Guest) (gives : Option Operation) → StaysBoard g → step_from g ≡ Some (u, gives) → StaysBoard u
board-step g u gives h e =
    let n = is_next g u gives e in
    let b = board_next g h.0 h.1 (not_spent g n.unspent) in
    (next_versions g h.0, subst (λ x. IsBoard x (next_versions g h.0)) n.after b)

board-take : (g u : Guest) (i : Input) → StaysBoard g → take_from g i ≡ Some u → StaysBoard u
board-take g u (Rx port byte) h e =
    let t = cond_some (may_take_key g port) (after_rx g port byte) u e in
    let room = (and_parts (nat_lt port PORTS) (nat_lt (slice_index g.keys port) GREATEST_NUMBER) t.0).1 in
    (h.0, subst (λ x. IsBoard x h.0) t.1 (board_received g h.0 port byte (ltb-true _ _ room) h.1))
board-take g u (Sent port) h e =
    let t = cond_some (is_due g.devices (done.Sent port)) (after_sent g port) u e in
    let there = (and_parts (nat_lt port PORTS) (serial.is_sent_due (port_of g.devices port)) t.0).0 in (
      h.0,
      subst (λ x. IsBoard x h.0) t.1
          (board_sent g h.0 port (done_of g.devices (done.Sent port))
          (without_operation g.operations (id.Byte port (oldest_byte g port))) (ltb-true port PORTS there) t.0 refl refl h.1),
    )
board-take g u (Sector drive sector number bytes) h e =
    let t = cond_some (may_take_sector g drive sector bytes) (after_sector g sector bytes) u e in (
      h.0,
      subst (λ x. IsBoard x h.0) t.1
          (board_sector g h.0 sector bytes (done_of g.devices (done.Sector sector bytes)) refl h.1),
    )
board-take g u (Written number) h e =
    let t = cond_some (is_due g.devices (done.Written number)) (after_written g number) u e in
    go (operation_at g.operations (id.Write number)) refl (h.1.awaited.writes number ∙ t.0) t.1
  where
    go : (o : Option Operation) → operation_at g.operations (id.Write number) ≡ o
        → is_some (operation_at g.operations (id.Write number)) ≡ true → after_written g number ≡ u → StaysBoard u
    go None f there after = let clash : false ≡ true = sym (ap is_some f) ∙ there in cc
    go (Some op) f there after =
        let named : id_of op ≡ id.Write number =
        subst (λ o. IfSome o (λ x. id_of x ≡ id.Write number)) f (h.1.awaited.names (id.Write number)) in (
          h.0,
          subst (λ x. IsBoard x h.0) after
              (board_written g h.0 number op _ _ _ f named refl refl (ap (with_completed g.completed) f) h.1),
        )

board-boots : (setup : Setup) → setup.sense < 2 ^ 8 → StaysBoard (guest_at_boot setup)
board-boots setup sense = (
  zeros PAGES,
  board-boot (guest_at_boot setup) (zeros PAGES) setup.drives refl refl refl refl refl refl refl
      setup.restarts sense,
)

pub stays_board : (setup : Setup) (sectors : SectorAddress → List ℕ) (moves : List Move) (g : Guest)
    → setup.sense < 2 ^ 8 → Reaches (altair setup sectors) moves g → StaysBoard g
stays_board setup sectors moves g sense r =
    from_boot (altair setup sectors) (λ moves g. StaysBoard g) (board-boots setup sense) (record {
      steps = λ moves s u gives h e. board-step s u gives h e;
      takes = λ moves s u i h e. board-take s u i h e;
    }) moves g r
