-- What an operation waits for besides its mark: a write waits until the backup has replayed each read before it.
use Rattle.std.specs.Prelude.{ℕ, zero, suc, Bool, true, false, List, [], ◌∷◌}
use Rattle.event_callbacks.specs.declared.operations.Operation.{Operation}
use Rattle.event_callbacks.specs.declared.operations.Operation.TheVariants.{Byte, Write}
use Rattle.log_entry.specs.Entries.{is_read}
use Rattle.log_entry.specs.declared.entry.Entry.{Entry}

-- how many entries there are up to the last read: for one entry and those after it, and for a log
abbrev pub up_to_read : Bool → ℕ → ℕ
up_to_read read (suc n) = suc (suc n)
up_to_read true zero = 1
up_to_read false zero = 0

abbrev pub reads_in : List Entry → ℕ
reads_in [] = 0
reads_in (e ∷ es) = up_to_read (is_read e) (reads_in es)

-- how many entries of a log the backup must have replayed for an operation to be covered: a byte waits for none
abbrev pub waits_for : Operation → List Entry → ℕ
waits_for (Write write) log = reads_in log
waits_for (Byte port number byte) log = 0
