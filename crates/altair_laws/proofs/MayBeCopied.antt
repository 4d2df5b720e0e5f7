-- An Altair that is reached from boot may be copied.
use Rattle.std.proofs.Common.{◌≡◌, ℕ, Bool, true, false, not, List, length, refl, ap, ◌∙◌}
use Rattle.std.specs.Prelude.{◌&&◌}
use Rattle.i8080_words.specs.declared.registers.Interrupts.{Interrupts}
use Rattle.i8080_words.specs.declared.registers.Interrupts.TheVariants.{Off, Soon, On}
use Rattle.i8080_words.specs.declared.registers.Processor.{Processor}
use Rattle.disk_dcdd.specs.declared.address.SectorAddress.{SectorAddress}
use Rattle.event_callbacks.specs.declared.operations.OpId.TheVariants as id
use Rattle.event_callbacks.specs.declared.operations.Operation.TheVariants as operation
use Rattle.guest_parts.specs.Guest.{Guest}
use Rattle.guest_board.specs.Guest.{altair}
use Rattle.guest_lockstep.specs.Machine.{Move}
use Rattle.guest_board.specs.declared.setup.Setup.{Setup}
use Rattle.clone_state.specs.Laws.{IsCopyable}
use Rattle.clone_state.specs.Possible.{is_soon, may_halt}
use Rattle.pair_protocol.specs.Lawful.{Lawful, Reaches}
use Rattle.altair_laws.specs.Stands.{AltairStands, AreWhole}
use Rattle.altair_laws.specs.Copies.{IsSetup}
use Rattle.altair_laws.proofs.Halted.{IsAwake, awake}
use Rattle.altair_laws.proofs.Reached.{stays_board}
use Rattle.altair_laws.proofs.Sizes.{stays}

may_halt_awake : (p : Processor) → IsAwake p → may_halt p ≡ true
may_halt_awake p h = go p.halted p.interrupts h
  where
    go : (halted : Bool) (interrupts : Interrupts) → (halted ≡ true → interrupts ≡ Soon → ⊥)
        → not (halted && is_soon interrupts) ≡ true
    go false i h = refl
    go true Off h = refl
    go true Soon h = absurd (h refl refl)
    go true On h = refl

pub copyable : (setup : Setup) (sectors : SectorAddress → List ℕ) → IsSetup setup sectors
    → Lawful (altair setup sectors) → (moves : List Move) (g : Guest) → AltairStands setup moves g → AreWhole moves
    → Reaches (altair setup sectors) moves g → IsCopyable g
copyable setup sectors is laws moves g s whole r =
    let b = stays_board setup sectors moves g is.sense r in
    let stay = stays setup sectors moves g r in
    record {
      versions = b.0;
      board = b.1;
      disk = s.drives whole;
      window = λ port. (s.unaccepted port).few;
      memory = stay.memory ∙ is.memory;
      levels = ap length stay.levels ∙ is.levels;
      writes = λ w h. s.whole whole w (laws.given moves g (id.Write w.number) (operation.Write w) r h);
      awake = may_halt_awake g.processor (awake setup sectors moves g r);
    }
