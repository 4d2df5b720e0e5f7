-- What a primary notes about its log: the operations that a run of its guest gives, and the reads of the shared disk.
use Rattle.std.specs.Prelude.{ℕ, ◌+◌, ◌<◌, Bool, if◌then◌else◌, length}
use Rattle.guest_lockstep.specs.declared.running.StopReason.{StopReason}
use Rattle.guest_lockstep.specs.declared.running.StopReason.TheVariants as reason
use Rattle.log_entry.specs.Entries.{is_read}
use Rattle.log_entry.specs.declared.entry.Entry.{Entry}
use Rattle.output_rule.specs.Covering.{Covering, after_note, after_forget}
use Rattle.output_rule.specs.declared.notes.TheConstants.{PLACES}

-- an operation that was given has the note of its mark, and its name has no other note
abbrev pub noted : Covering → StopReason → ℕ → Covering
noted c reason.Turns mark = c
noted c (reason.Operation name) mark = after_note (after_forget c name) name mark
noted c (reason.Refused fault) mark = c

-- there is room for that note
abbrev pub HasPlace : Covering → StopReason → Type 0
HasPlace c reason.Turns = Unit {0}
HasPlace c (reason.Operation name) = length (after_forget c name).notes < PLACES
HasPlace c (reason.Refused fault) = Unit {0}

-- the last read of the log is at this index, if an entry is a read
abbrev pub with_read : Covering → Bool → ℕ → Covering
with_read c read index = record c { last_read = if read then index + 1 else c.last_read }

abbrev pub with_entry : Covering → Entry → ℕ → Covering
with_entry c e index = with_read c (is_read e) index
