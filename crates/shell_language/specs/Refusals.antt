-- The refusals that an event may meet, from 1 to 18 as docs/SCRIPTS.md has them.
use Rattle.std.specs.Prelude.{ℕ, List, [], ◌∷◌, ◌++◌, codes}
use Rattle.std.specs.Fmt.{decimal}
use Rattle.i8080_words.specs.declared.refusal.Fault.{Fault}
use Rattle.i8080_words.specs.declared.refusal.Fault.TheVariants as fault

abbrev pub refusals : List Fault
refusals =
    fault.OutOfMemory ∷ fault.Spent ∷ fault.LogFull ∷ fault.NotDue ∷ fault.WrongNumber ∷ fault.StaleRead ∷ fault.SectorBusy
    ∷ fault.WrongRole ∷ fault.WrongGeneration ∷ fault.Malformed ∷ fault.NotWhole ∷ fault.NotCovered ∷ fault.DeviceFault
    ∷ fault.Lost ∷ fault.Unknown ∷ fault.BadAck ∷ fault.Stalled ∷ fault.Idle ∷ []

-- the words of each
abbrev pub refusal_words : Fault → List ℕ
refusal_words fault.OutOfMemory = codes "out of memory"
refusal_words fault.Spent = codes "the range of numbers is spent"
refusal_words fault.LogFull = codes "the log is full"
refusal_words fault.NotDue = codes "not due"
refusal_words fault.WrongNumber = codes "wrong number"
refusal_words fault.StaleRead = codes "stale read"
refusal_words fault.SectorBusy = codes "the sector is busy"
refusal_words fault.WrongRole = codes "wrong role"
refusal_words fault.WrongGeneration = codes "wrong generation"
refusal_words fault.Malformed = codes "malformed"
refusal_words fault.NotWhole = codes "not whole"
refusal_words fault.NotCovered = codes "not covered"
refusal_words fault.DeviceFault = codes "device fault"
refusal_words fault.Lost = codes "lost"
refusal_words fault.Unknown = codes "unknown"
refusal_words fault.BadAck = codes "bad acknowledgement"
refusal_words fault.Stalled = codes "stalled"
refusal_words fault.Idle = codes "idle"
refusal_words (fault.BadScript line) = codes "bad script at line " ++ decimal line
