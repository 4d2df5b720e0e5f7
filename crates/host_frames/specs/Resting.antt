-- When a loop that finds nothing looks again at once.
use Rattle.std.specs.Prelude.{ℕ, ◌+◌, ◌-◌, ◌&&◌, min, not, nat_lt, Bool, if◌then◌else◌}
use Rattle.host_frames.specs.declared.resting.Rests.{Rests}

-- a find that comes within half a millisecond after the one before makes looking again worth more, a later one less
abbrev pub worth_after : (waited worth : ℕ) → ℕ
worth_after waited worth = if nat_lt waited 500 then min worth 6 + 2 else worth - 1

abbrev pub found : ℕ → Rests → Rests
found now old = record old { found_at = now; worth = worth_after (now - old.found_at) old.worth }

-- it does for half a millisecond after it has found something, if that was worth it lately, but not for a while after a yield
-- that took long
abbrev pub looks_again : ℕ → Rests → Bool
looks_again now r = nat_lt 0 r.worth && (not (nat_lt now r.shuns_until) && nat_lt (now - r.found_at) 500)
