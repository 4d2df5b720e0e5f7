-- What a running pair has done with some lines of a script, whatever world it showed before them.
use Rattle.std.specs.Prelude.{◌≡◌, ℕ, List, Option, Result}
use Rattle.ft_world.specs.Applies.{Applies, Shows, failures_told}
use Rattle.ft_world.specs.Running.{Running}
use Rattle.ft_world.specs.Standing.{Course, machine_of}
use Rattle.guest_parts.specs.Guest.{Guest}
use Rattle.guest_lockstep.specs.Machine.{Machine}
use Rattle.i8080_words.specs.declared.refusal.Fault.{Fault}
use Rattle.shared_disk.specs.Failing.{Disk, before_failures, disk_may_fail, records_in}
use Rattle.pair_events.specs.Printed.{answer_line}
use Rattle.pair_events.specs.declared.event.Event.{Event}
use Rattle.pair_events.specs.declared.reply.Reply.{Reply}
use Rattle.command_script.specs.Answering.{AddsAnswers, Happen}
use Rattle.pair_protocol.specs.World.{World}
use Rattle.script_language.specs.declared.line.Line.{Line}

-- the device of a running pair has failed this often
abbrev pub HasFailed : {B H : Type 0} → Running B H Disk → ℕ → Running B H Disk → Type 0
HasFailed before failures v = disk_may_fail before.disk ≡ before_failures failures (disk_may_fail v.disk)

-- an event has happened, and this text answers it
pub record HasHappened {B H S : Type 0} (state : B → S) (copied : B → Guest) (M : Machine S) (c : Course S)
    (happened : Event) (text : List ℕ) (before v : Running B H Disk) : Type 0 where
  pub answer : Result Reply Fault
  pub applies : Applies state copied M records_in c happened answer v
  pub counted : HasFailed before (failures_told happened answer) v
  pub told : text ≡ answer_line answer

-- the events of the lines have happened; those that were refused for it tell each failure of the device
pub record HaveHappened {B H S : Type 0} (state : B → S) (copied : B → Guest) (M : Machine S) (c : Course S)
    (lines : List Line) (before v : Running B H Disk) : Type 0 where
  pub after : World S
  pub failures : ℕ
  pub counted : HasFailed before failures v
  pub happen : Happen (machine_of M c) c.copying c.world lines failures after
  pub shows : Shows state copied M records_in v (record c { world = after })

-- the lines were answered; their answers tell each failure of the device
pub record HaveAnswers {B H S : Type 0} (state : B → S) (copied : B → Guest) (M : Machine S) (c : Course S)
    (lines : List Line) (before v : Running B H Disk) (old new : Option (List ℕ)) : Type 0 where
  pub after : World S
  pub failures : ℕ
  pub counted : HasFailed before failures v
  pub adds : AddsAnswers (machine_of M c) c.copying c.world lines failures old new after
  pub shows : Shows state copied M records_in v (record c { world = after })
