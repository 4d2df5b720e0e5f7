-- How it is told why a day ended.
use Rattle.std.specs.Prelude.{ℕ, List, codes}
use Rattle.pair_events.specs.Printed.{refusal_text}
use Rattle.shell_picture.specs.declared.ending.DayEnd.{DayEnd}
use Rattle.shell_picture.specs.declared.ending.DayEnd.TheVariants.{Turns, Events, WaitsForKey, Polls, Refused}

abbrev pub ending_text : DayEnd → List ℕ
ending_text Turns = codes "turns"
ending_text Events = codes "events"
ending_text WaitsForKey = codes "waits for a key"
ending_text Polls = codes "polls"
ending_text (Refused fault) = refusal_text fault
