-- A halted processor does not wait for EI to take effect: HLT is itself the instruction after EI.
use Rattle.std.proofs.Common.{◌≡◌, ℕ, Bool, true, false, cond, List, Option, Some, None, subst}
use Rattle.i8080_words.specs.Steps.{step, ran, idle, unless_heard, heard, interrupts_after, is_halt}
use Rattle.i8080_words.specs.declared.instruction.Op.{Op}
use Rattle.i8080_words.specs.declared.instruction.Op.TheVariants as op
use Rattle.i8080_words.specs.declared.registers.Interrupts.{Interrupts}
use Rattle.i8080_words.specs.declared.registers.Interrupts.TheVariants.{Off, Soon, On}
use Rattle.i8080_words.specs.declared.registers.Processor.{Processor}
use Rattle.disk_dcdd.specs.declared.address.SectorAddress.{SectorAddress}
use Rattle.guest_parts.specs.Guest.{Guest}
use Rattle.guest_board.specs.Guest.{altair, step_of, take_from, line_of, wired, after_rx, after_sent, after_sector, after_written}
use Rattle.guest_board.specs.Ports.{memory_byte, port_byte}
use Rattle.guest_lockstep.specs.Machine.{Move}
use Rattle.guest_lockstep.specs.declared.input.Input.{Input}
use Rattle.guest_lockstep.specs.declared.input.Input.TheVariants.{Rx, Sent, Sector, Written}
use Rattle.guest_board.specs.declared.setup.Setup.{Setup}
use Rattle.altair_laws.proofs.AfterMoves.{is_next}
use Rattle.pair_protocol.specs.Lawful.{Reaches}
use Rattle.altair_laws.proofs.Moves.{from_boot}
use Rattle.std.proofs.lemmas.Option.{cond_some}

abbrev pub IsAwake : Processor → Type 0
IsAwake p = p.halted ≡ true → p.interrupts ≡ Soon → ⊥

no_halt : (o : Op) (i : Interrupts) → is_halt o ≡ true → interrupts_after o i ≡ Soon → ⊥
no_halt op.Hlt Off h = λ e. (cc)
no_halt op.Hlt Soon h = λ e. (cc)
no_halt op.Hlt On h = λ e. (cc)
no_halt op.Nop i h = cc
no_halt op.Di i h = cc
no_halt op.Ei i h = cc
no_halt (op.Mov a b) i h = cc
no_halt (op.Mvi a b) i h = cc
no_halt (op.Lxi a b) i h = cc
no_halt (op.Stax a) i h = cc
no_halt (op.Ldax a) i h = cc
no_halt (op.Sta a) i h = cc
no_halt (op.Lda a) i h = cc
no_halt (op.Shld a) i h = cc
no_halt (op.Lhld a) i h = cc
no_halt op.Xchg i h = cc
no_halt (op.Arithmetic a b) i h = cc
no_halt (op.Immediate a b) i h = cc
no_halt (op.Inr a) i h = cc
no_halt (op.Dcr a) i h = cc
no_halt (op.Inx a) i h = cc
no_halt (op.Dcx a) i h = cc
no_halt (op.Dad a) i h = cc
no_halt (op.Accumulator a) i h = cc
no_halt (op.Jmp a) i h = cc
no_halt (op.JumpIf a b) i h = cc
no_halt (op.Call a) i h = cc
no_halt (op.CallIf a b) i h = cc
no_halt op.Ret i h = cc
no_halt (op.ReturnIf a) i h = cc
no_halt (op.Rst a) i h = cc
no_halt (op.Push a) i h = cc
no_halt (op.Pop a) i h = cc
no_halt op.Xthl i h = cc
no_halt op.Pchl i h = cc
no_halt op.Sphl i h = cc
no_halt (op.In a) i h = cc
no_halt (op.Out a) i h = cc

awake_step : (p : Processor) (memory ports : ℕ → ℕ) (line : Option ℕ) → IsAwake p → IsAwake (step p memory ports line).after
awake_step p memory ports line h = go (heard p.interrupts line)
  where
    by : (b : Bool) → IsAwake (cond b (idle p) (ran p memory ports)).after
    by true = h
    by false = no_halt _ p.interrupts

    go : (o : Option ℕ) → IsAwake (unless_heard o p memory ports).after
    go (Some n) = λ e. cc
    go None = by p.halted

awake_next : (g : Guest) → IsAwake g.processor → IsAwake (step_of g).after
unfolding step_of
awake_next g h = awake_step g.processor (memory_byte (wired g)) (port_byte (wired g)) (line_of g.devices g.levels) h

awake_take : (g u : Guest) (i : Input) → IsAwake g.processor → take_from g i ≡ Some u → IsAwake u.processor
awake_take g u (Rx port byte) h e = subst (λ (x : Guest). IsAwake x.processor) (cond_some _ (after_rx g port byte) u e).1 h
awake_take g u (Sent port) h e = subst (λ (x : Guest). IsAwake x.processor) (cond_some _ (after_sent g port) u e).1 h
awake_take g u (Sector drive sector number bytes) h e =
    subst (λ (x : Guest). IsAwake x.processor) (cond_some _ (after_sector g sector bytes) u e).1 h
awake_take g u (Written number) h e =
    subst (λ (x : Guest). IsAwake x.processor) (cond_some _ (after_written g number) u e).1 h

pub awake : (setup : Setup) (sectors : SectorAddress → List ℕ) (moves : List Move) (g : Guest)
    → Reaches (altair setup sectors) moves g → IsAwake g.processor
awake setup sectors moves g r =
    from_boot (altair setup sectors) (λ moves g. IsAwake g.processor) (λ h e. cc) (record {
      steps = λ moves s u gives h e. subst (λ (x : Guest). IsAwake x.processor) (is_next s u gives e).after (awake_next s h);
      takes = λ moves s u i h e. awake_take s u i h e;
    }) moves g r
