-- What a call does to a machine that is run in lockstep.
use Rattle.std.specs.Prelude.{◌≡◌, ◌<◌, ◌≤◌, Option, Some, None, option_map, Result, Ok, Err, is_none, if◌then◌else◌}
use Rattle.i8080_words.specs.declared.refusal.Fault.{Fault}
use Rattle.i8080_words.specs.declared.refusal.Fault.TheVariants.{OutOfMemory, Spent, Idle}
use Rattle.disk_dcdd.specs.declared.controller.TheConstants.{DRIVES}
use Rattle.i8080_words.specs.declared.limits.TheConstants.{GREATEST_NUMBER}
use Rattle.disk_dcdd.specs.declared.sector.TheConstants.{SECTORS}
use Rattle.event_callbacks.specs.declared.devices.TheConstants.{PORTS}
use Rattle.event_callbacks.specs.Operations.{id_of}
use Rattle.event_callbacks.specs.declared.operations.OpId.{OpId}
use Rattle.event_callbacks.specs.declared.operations.Operation.{Operation}
use Rattle.guest_lockstep.specs.Machine.{Machine, refusal_of}
use Rattle.guest_lockstep.specs.declared.input.Input.{Input}
use Rattle.guest_lockstep.specs.declared.input.Input.TheVariants.{Rx, Sent, Sector, Written}

-- why no step is executed, other than out of memory
abbrev pub step_refusal : {S : Type 0} → Machine S → S → Option Fault
step_refusal M s = if M.is_spent s then Some Spent else if is_none (M.step s) then Some Idle else None

-- a step with the name of the operation that it gives
abbrev pub named : {S : Type 0} → S × Option Operation → S × Option OpId
named made = (made.0, option_map id_of made.1)

-- a step that nothing refuses is executed, or runs out of memory
abbrev pub Steps : {S : Type 0} → Machine S → S → Result (Option OpId) Fault → S → Type 0
Steps M old (Ok name) new = option_map named (M.step old) ≡ Some (new, name)
Steps M old (Err fault) new = (fault ≡ OutOfMemory) × (new ≡ old)

-- a step that something refuses leaves the machine unchanged
abbrev pub StepsUnless : {S : Type 0} → Machine S → S → Option Fault → Result (Option OpId) Fault → S → Type 0
StepsUnless M old (Some fault) answer new = (answer ≡ Err fault) × (new ≡ old)
StepsUnless M old None answer new = Steps M old answer new

-- what a step returns and leaves
abbrev pub Executes : {S : Type 0} → Machine S → S → Result (Option OpId) Fault → S → Type 0
Executes M old answer new = StepsUnless M old (step_refusal M old) answer new

-- an input for a port and a sector that exist
abbrev pub IsInput : Input → Type 0
IsInput (Rx port byte) = port < PORTS
IsInput (Sent port) = port < PORTS
IsInput (Sector drive sector number bytes) = (drive < DRIVES) × (sector < SECTORS)
IsInput (Written number) = Unit {0}

-- the number of a write that an input names is one that a write can have; 0 stands for a sector that was never written
abbrev pub IsNumbered : Input → Type 0
IsNumbered (Rx port byte) = Unit {0}
IsNumbered (Sent port) = Unit {0}
IsNumbered (Sector drive sector number bytes) = number ≤ GREATEST_NUMBER
IsNumbered (Written number) = (0 < number) × (number ≤ GREATEST_NUMBER)

-- the number of keys has room for one more
abbrev pub HasRoom : {S : Type 0} → Machine S → S → Input → Type 0
HasRoom M s (Rx port byte) = M.keys s port < GREATEST_NUMBER
HasRoom M s (Sent port) = Unit {0}
HasRoom M s (Sector drive sector number bytes) = Unit {0}
HasRoom M s (Written number) = Unit {0}

-- what an input returns, and what it leaves: the open move, or nothing
abbrev pub Takes : {S : Type 0} → Machine S → S → Input → Result (Unit {0}) Fault → S → Type 0
Takes M old input (Ok done) new = (refusal_of M old input ≡ None) × (M.take old input ≡ Some new)
Takes M old input (Err fault) new = (refusal_of M old input ≡ Some fault) × (new ≡ old)
