-- When a guest polls: it executes a loop of which each step only looks, at memory and at whether a key has come.
use Rattle.std.specs.Prelude.{◌≡◌, ℕ, suc, ◌==◌, ◌&&◌, Bool, true, false, not, if◌then◌else◌, Option, Some, None, is_some, slice_index, unwrap_or}
use Rattle.event_callbacks.specs.Completions.{port_of}
use Rattle.guest_parts.specs.Guest.{Guest}
use Rattle.i8080_words.specs.Effects.{Access, after_accesses}
use Rattle.i8080_words.specs.Effects.Access.{Write, Input, Output}
use Rattle.i8080_words.specs.Steps.{Step, step}
use Rattle.i8080_words.specs.declared.registers.Interrupts.{Interrupts}
use Rattle.i8080_words.specs.declared.registers.Interrupts.TheVariants.{Off, Soon, On}
use Rattle.i8080_words.specs.declared.registers.Processor.{Processor}
use Rattle.serial_2sio.specs.Port.{status_of}

-- a guest as its processor sees it that goes on while nothing else happens: whether it has looked at the status of a serial port,
-- and whether it would have done anything but look
pub record Seen : Type 0 where
  pub guest : Guest
  pub looks : Bool
  pub acts : Bool

abbrev pub seen_by : Guest → Bool → Bool → Seen
seen_by g looks acts = record { guest = g; looks = looks; acts = acts }

-- the status of the serial port whose control register is at a port number
abbrev pub status_at : Guest → ℕ → Option ℕ
status_at g number =
    if number == 0x10 then Some (status_of (port_of g.devices 0))
    else if number == 0x12 then Some (status_of (port_of g.devices 1))
    else None

abbrev pub byte_seen : Seen → ℕ → ℕ
byte_seen s address = slice_index s.guest.memory address

abbrev pub input_seen : Seen → ℕ → ℕ
input_seen s number = unwrap_or (status_at s.guest number) 0

-- Who reads a status looks. Who writes a byte that is there already changes nothing; anything else is an act.
abbrev pub seen_after : Access → Seen → Seen
seen_after (Write address byte) s = if slice_index s.guest.memory address == byte then s else record s { acts = true }
seen_after (Input number) s = if is_some (status_at s.guest number) then record s { looks = true } else record s { acts = true }
seen_after (Output number byte) s = record s { acts = true }

-- the next step, with no interrupt
abbrev pub step_seen : Processor → Seen → Step
step_seen p s = step p (byte_seen s) (input_seen s) None

abbrev pub processor_after : Processor → Seen → Processor
processor_after p s = (step_seen p s).after

abbrev pub after_step : Processor → Seen → Seen
after_step p s = after_accesses seen_after (step_seen p s).accesses s

abbrev pub is_off : Interrupts → Bool
is_off Off = true
is_off Soon = false
is_off On = false

-- it has only looked so far, and hears no interrupt
abbrev pub is_only_looking : Processor → Seen → Bool
is_only_looking p s = not s.acts && is_off p.interrupts

-- within so many steps a processor is as it was first, after steps that only look, of which one has looked at a status
pub data ComesBack (first : Processor) : ℕ → Processor → Seen → Type 0 where
  Back : {n : ℕ} {p : Processor} {s : Seen} → is_only_looking (processor_after p s) (after_step p s) ≡ true
      → (after_step p s).looks ≡ true → processor_after p s ≡ first → ComesBack first (suc n) p s
  Later : {n : ℕ} {p : Processor} {s : Seen} → is_only_looking (processor_after p s) (after_step p s) ≡ true
      → ComesBack first n (processor_after p s) (after_step p s) → ComesBack first (suc n) p s

-- before its next step
abbrev pub begins : Guest → Seen
begins g = seen_by g false false

-- A guest polls if its processor is as it was within 64 such steps. So it goes on for ever, until the status changes: memory and ports
-- are as they were too.
abbrev pub Polls : Guest → Type 0
Polls g = ComesBack g.processor 64 g.processor (begins g)
