-- What a host shows of its machine.
use Rattle.std.specs.Prelude.{◌≡◌, ℕ, ◌+◌, ◌*◌, ◌/◌, ◌%◌, Bool, true, false, if◌then◌else◌, List, [], ◌∷◌, ◌++◌, slice_range, Option, Some, None}
use Rattle.guest_lockstep.specs.Machine.{Machine}
use Rattle.guest_parts.specs.Guest.{Guest}
use Rattle.host_frames.specs.Frames.{Transfers}
use Rattle.host_frames.specs.declared.frame.Transfer.TheVariants.{Inspected}
use Rattle.host_node.specs.Guests.{Says}
use Rattle.host_node.specs.Looks.{HasCount}
use Rattle.host_node.specs.Mail.{HasSaid}
use Rattle.host_node.specs.declared.host.HostNode.{HostNode}
use Rattle.host_node.specs.declared.host.Hosted.{Hosted}
use Rattle.i8080_words.specs.Arithmetic.{flag_byte}
use Rattle.i8080_words.specs.declared.registers.Interrupts.{Interrupts}
use Rattle.i8080_words.specs.declared.registers.Interrupts.TheVariants as interrupts
use Rattle.i8080_words.specs.declared.registers.Processor.{Processor}

abbrev pub interrupts_code : Interrupts → ℕ
interrupts_code interrupts.Off = 0
interrupts_code interrupts.Soon = 1
interrupts_code interrupts.On = 2

-- a processor in 14 bytes: A, the flags as PUSH PSW stores them, B to L, SP and PC with the high byte first, the interrupt enable,
-- and 1 if it is halted
abbrev pub processor_bytes : Processor → List ℕ
processor_bytes p =
    p.regs.a ∷ flag_byte p.regs.flags ∷ p.regs.b ∷ p.regs.c ∷ p.regs.d ∷ p.regs.e ∷ p.regs.h ∷ p.regs.l
    ∷ p.regs.sp / 256 ∷ p.regs.sp % 256 ∷ p.regs.pc / 256 ∷ p.regs.pc % 256
    ∷ interrupts_code p.interrupts ∷ (if p.halted then 1 else 0) ∷ []

-- the bytes of a page
abbrev pub page_of : List ℕ → ℕ → List ℕ
page_of memory page = slice_range memory (page * 256) (page * 256 + 256)

-- the processor, a page of memory and the one after it
abbrev pub sight_of : Guest → ℕ → List ℕ
sight_of g page = processor_bytes g.processor ++ (page_of g.memory page ++ page_of g.memory ((page + 1) % 256))

module _ {B S : Type 0} {H : Type 0} (state : B → S) (M : Machine S) where
  -- what its guest shows, if there is one
  abbrev pub HasSight : (B → ℕ → List ℕ) → Hosted B H → (page : ℕ) → Option (List ℕ) → Type 0
  HasSight sight h page given = Says state M (λ guest. Some (sight guest page)) h None given

  -- it was shown with its count, by the number that it was asked for, or nothing was said
  abbrev pub SaysSight : (B → ℕ → List ℕ) → (number page : ℕ) → Bool → HostNode B H → HostNode B H → Type 0
  SaysSight sight number page true old new =
      (count : ℕ) × HasCount state M old.node count
      × ((bytes : List ℕ) × HasSight sight old.node page (Some bytes)
      × HasSaid (Transfers (Inspected number count bytes)) old.mail.gone new.mail.gone)
  SaysSight sight number page false old new = new.mail.gone ≡ old.mail.gone
