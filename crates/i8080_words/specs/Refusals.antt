-- The number of each refusal.
use Rattle.std.specs.Prelude.{ℕ}
use Rattle.i8080_words.specs.declared.refusal.Fault.{Fault}
use Rattle.i8080_words.specs.declared.refusal.Fault.TheVariants.{OutOfMemory, Spent, LogFull, NotDue, WrongNumber, StaleRead, SectorBusy, WrongRole, WrongGeneration, Malformed, NotWhole, NotCovered, DeviceFault, Lost, Unknown, BadAck, Stalled, Idle, BadScript}

abbrev pub number_of : Fault → ℕ
number_of OutOfMemory = 1
number_of Spent = 2
number_of LogFull = 3
number_of NotDue = 4
number_of WrongNumber = 5
number_of StaleRead = 6
number_of SectorBusy = 7
number_of WrongRole = 8
number_of WrongGeneration = 9
number_of Malformed = 10
number_of NotWhole = 11
number_of NotCovered = 12
number_of DeviceFault = 13
number_of Lost = 14
number_of Unknown = 15
number_of BadAck = 16
number_of Stalled = 17
number_of Idle = 18
number_of (BadScript line) = 19
