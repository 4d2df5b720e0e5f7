-- How many steps a guest makes that is to make at most so many a second.
use Rattle.std.specs.Prelude.{ℕ, ◌+◌, ◌-◌, ◌*◌, ◌/◌, ◌^◌, ◌==◌, nat_lt, Bool, min, if◌then◌else◌}
use Rattle.host_node.specs.declared.speed.Speed.{Speed}

-- 0 bounds nothing
abbrev pub as_fast_as_it_can : Speed
as_fast_as_it_can = record { bound = 0; since = 0; made = 0 }

abbrev pub set_to : (speed now : ℕ) → Speed → Speed
set_to speed now s = if s.bound == speed then s else record { bound = speed; since = now; made = 0 }

-- the steps that a speed gives in so many microseconds
abbrev pub due : (speed micros : ℕ) → ℕ
due speed micros = speed * micros / 1000000

-- it has yet to make more steps than those of a tenth of a second
abbrev pub is_late : Speed → ℕ → Bool
is_late s now = nat_lt (due s.bound 100000) (due s.bound (now - s.since) - s.made)

-- then they count anew from this time on
abbrev pub seen_at : ℕ → Speed → Speed
seen_at now s = if is_late s now then record s { since = now; made = 0 } else s

-- it makes those that are due, and at most so many
abbrev pub turns_at : (now most : ℕ) → Speed → ℕ
turns_at now most s = if s.bound == 0 then most else min (due s.bound (now - s.since) - s.made) most

abbrev pub has_made : ℕ → Speed → Speed
has_made steps s = record s { made = min (s.made + steps) (2 ^ 64 - 1) }
