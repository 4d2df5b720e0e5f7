-- What a day notes of the answers to its events.
use Rattle.std.specs.Prelude.{ℕ, zero, suc, ◌+◌, ◌-◌, ◌*◌, ◌%◌, ◌^◌, ◌==◌, ◌&&◌, nat_le, min, Bool, true, false, if◌then◌else◌, Some, is_none, Result, Ok, Err, is_ok}
use Rattle.event_callbacks.specs.declared.operations.OpId.{OpId}
use Rattle.event_callbacks.specs.declared.operations.OpId.TheVariants as id
use Rattle.guest_lockstep.specs.declared.replay_end.ReplayEnd.TheVariants.{Wait}
use Rattle.guest_lockstep.specs.declared.running.StopReason.{StopReason}
use Rattle.guest_lockstep.specs.declared.running.StopReason.TheVariants as stopped
use Rattle.i8080_words.specs.declared.refusal.Fault.{Fault}
use Rattle.i8080_words.specs.declared.refusal.Fault.TheVariants.{Idle, NotCovered}
use Rattle.pair_events.specs.declared.event.Event.{Event}
use Rattle.pair_events.specs.declared.event.Event.TheVariants as event
use Rattle.pair_events.specs.declared.reply.Reply.{Reply}
use Rattle.pair_events.specs.declared.reply.Reply.TheVariants as reply
use Rattle.shell_picture.specs.declared.day.Day.{Day}
use Rattle.shell_picture.specs.declared.ending.DayEnd.TheVariants.{Turns, Events, Refused}

-- a number with others added, which stops at the greatest one that there is
abbrev pub added : ℕ → ℕ → ℕ
added n more = min (n + more) (2 ^ 64 - 1)

-- one more event has happened; the millionth without a step of the guest ends the day
abbrev pub counted : Day → Day
counted day = record day {
  events = added day.events 1;
  ending = if (added day.events 1 == 1000000) && is_none day.ending then Some Events else day.ending;
}

-- a guest that idles goes on when it is given an input; any other refusal ends the day
abbrev pub refused : Fault → Day → Day
refused Idle day = record day { is_idle = true; was_given = false }
refused fault day = record day { ending = Some (Refused fault) }

-- the guest has made steps
abbrev pub stepped : ℕ → Day → Day
stepped steps day = record day {
  events = if steps == 0 then day.events else 0;
  made = added day.made steps;
  since_key0 = added day.since_key0 steps;
  since_key1 = added day.since_key1 steps;
  is_idle = false;
  rounds_idle = 0;
}

-- the day ends with its last step; otherwise if the next one was refused
abbrev pub stopped_by : StopReason → Day → Day
stopped_by (stopped.Refused fault) day = refused fault day
stopped_by _ day = day

abbrev pub after_steps : StopReason → Day → Day
after_steps why day = if nat_le day.turns day.made then record day { ending = Some Turns } else stopped_by why day

abbrev pub heard_step : Result Reply Fault → Day → Day
heard_step (Ok (reply.Ran steps count why)) day = after_steps why (stepped steps day)
heard_step (Ok reply.Taken) day = record day { was_given = true }
heard_step (Ok other) day = day
heard_step (Err fault) day = refused fault day

-- no drive waits for a sector: the disk is asked after a pause, which is twice as long each time, up to a longest
abbrev pub lengthened : ℕ → Day → Day
lengthened longest day = record day { looks = min day.pause longest; pause = min (min (day.pause * 2) 255) longest }

-- a sector has come by, and the next one of 32 comes; if it was taken there is no pause, otherwise one of 2 looks at most
abbrev pub passed : Bool → Day → Day
passed true day = record day { sector = (day.sector % 32 + 1) % 32; was_given = true; pause = 1; looks = 0 }
passed false day = lengthened 2 (record day { sector = (day.sector % 32 + 1) % 32 })

-- whatever was taken is an input
abbrev pub heard_taken : Result Reply Fault → Day → Day
heard_taken (Ok reply.Taken) day = record day { was_given = true }
heard_taken _ day = day

-- with no drive selected the pause is 32 looks at most
abbrev pub heard_get : Result Reply Fault → Day → Day
heard_get (Err fault) day = lengthened 32 day
heard_get answer day = heard_taken answer day

abbrev pub heard_sector : Result Reply Fault → Day → Day
heard_sector answer day = passed (is_ok answer) day

-- a key was taken at a port: no steps since
abbrev pub key_taken : ℕ → Day → Day
key_taken zero day = record day { was_given = true; since_key0 = 0 }
key_taken (suc zero) day = record day { was_given = true; since_key1 = 0 }
key_taken (suc (suc n)) day = record day { was_given = true }

abbrev pub heard_key : ℕ → Result Reply Fault → Day → Day
heard_key port answer day = if is_ok answer then key_taken port day else day

-- the backup waits for the bytes of a sector; it has them
abbrev pub heard_replay : Result Reply Fault → Day → Day
heard_replay (Ok (reply.Moved moves Wait)) day = record day { awaits_sector = true }
heard_replay answer day = heard_taken answer day

abbrev pub heard_fetched : Result Reply Fault → Day → Day
heard_fetched answer day = if is_ok answer then record day { has_sector = true } else day

-- a write waits until the backup says what it has replayed
abbrev pub heard_release : OpId → Result Reply Fault → Day → Day
heard_release (id.Write number) (Err NotCovered) day = record day { awaits_report = true }
heard_release name answer day = heard_taken answer day

-- by the event
abbrev pub heard : Event → Result Reply Fault → Day → Day
heard (event.Step node turns) answer day = heard_step answer day
heard (event.Get node sector) answer day = heard_get answer day
heard (event.GetReply message node) answer day = heard_sector answer day
heard (event.TakeKey node port index) answer day = heard_key port answer day
heard (event.Replay node turns) answer day = heard_replay answer day
heard (event.Fetched message node) answer day = heard_fetched answer day
heard (event.Release node name) answer day = heard_release name answer day
heard other answer day = heard_taken answer day
