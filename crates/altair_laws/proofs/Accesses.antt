-- The accesses of a step: only writes to memory, or one read of a port, or one write of a port. By cases on the
-- instruction, and on its condition if it has one.
use Rattle.std.proofs.Common.{ℕ, ◌+◌, Bool, true, false, cond, List, [], ◌∷◌, Option, Some, None}
use Rattle.i8080_words.specs.Arithmetic.{wrapped}
use Rattle.i8080_words.specs.Opcodes.{opcode, size_of}
use Rattle.i8080_words.specs.Effects.{Access, Effect, quiet, put, effect, called, with_pc, holds}
use Rattle.i8080_words.specs.Effects.Access.{Write, Input, Output}
use Rattle.i8080_words.specs.Steps.{step, unless_heard, heard, completed, idle, ran}
use Rattle.i8080_words.specs.declared.registers.Regs.{Regs}
use Rattle.altair_laws.proofs.Words.{Processor}
use Rattle.i8080_words.specs.declared.instruction.Register.{Register}
use Rattle.i8080_words.specs.declared.instruction.Register.TheVariants as reg
use Rattle.i8080_words.specs.declared.instruction.Op.{Op}
use Rattle.i8080_words.specs.declared.instruction.Op.TheVariants.{Mov, Mvi, Stax, Sta, Shld, Inr, Dcr, Call, CallIf, Rst, Push, Xthl, In, Out}

abbrev pub AreWrites : List Access → Type 0
AreWrites [] = Unit {0}
AreWrites (Write address byte ∷ rest) = AreWrites rest
AreWrites (Input number ∷ rest) = ⊥
AreWrites (Output number byte ∷ rest) = ⊥

-- what the accesses of a step may be
pub data Kind : List Access → Type 0 where
  Memory : (accesses : List Access) → AreWrites accesses → Kind accesses
  Read : (number : ℕ) → Kind (Input number ∷ [])
  Sent : (number byte : ℕ) → Kind (Output number byte ∷ [])

none : Kind []
none = Memory [] tt

kind_put : (d : Register) (n : ℕ) (r : Regs) → Kind (put d n r).accesses
kind_put reg.B n r = none
kind_put reg.C n r = none
kind_put reg.D n r = none
kind_put reg.E n r = none
kind_put reg.H n r = none
kind_put reg.L n r = none
kind_put reg.M n r = Memory _ tt
kind_put reg.A n r = none

kind_either : (b : Bool) (x y : Effect) → Kind x.accesses → Kind y.accesses → Kind (cond b x y).accesses
kind_either true x y hx hy = hx
kind_either false x y hx hy = hy

kind_effects : (op : Op) (r : Regs) (memory ports : ℕ → ℕ) → Kind (effect op r memory ports).accesses
kind_effects (Mov d s) r memory ports = kind_put d _ _
kind_effects (Mvi d n) r memory ports = kind_put d _ _
kind_effects (Stax p) r memory ports = Memory _ tt
kind_effects (Sta n) r memory ports = Memory _ tt
kind_effects (Shld n) r memory ports = Memory _ tt
kind_effects (Inr d) r memory ports = kind_put d _ _
kind_effects (Dcr d) r memory ports = kind_put d _ _
kind_effects (CallIf c n) r memory ports = kind_either (holds c r.flags) (called n r) (quiet r) (Memory _ tt) none
kind_effects (Call n) r memory ports = Memory _ tt
kind_effects (Rst n) r memory ports = Memory _ tt
kind_effects (Push p) r memory ports = Memory _ tt
kind_effects Xthl r memory ports = Memory _ tt
kind_effects (In p) r memory ports = Read p
kind_effects (Out p) r memory ports = Sent p r.a
kind_effects _ r memory ports = none

kind_unless_halted : (h : Bool) (p : Processor) (memory ports : ℕ → ℕ)
    → Kind (cond h (idle p) (ran p memory ports)).accesses
kind_unless_halted true p memory ports = none
kind_unless_halted false p memory ports =
    let op = opcode (memory p.regs.pc) in
    kind_effects (completed op memory p.regs.pc) (with_pc (wrapped (p.regs.pc + size_of op)) p.regs) memory ports

pub kind_of_step : (p : Processor) (memory ports : ℕ → ℕ) (line : Option ℕ) → Kind (step p memory ports line).accesses
kind_of_step p memory ports line =
    elim (heard p.interrupts line) as (λ h. Kind (unless_heard h p memory ports).accesses) [
      | Some n ↦ Memory _ tt
      | None ↦ kind_unless_halted p.halted p memory ports
    ]
