-- The track of a head that is stepped.
use Rattle.std.specs.Prelude.{ℕ, ◌+◌, ◌-◌, Bool, min, if◌then◌else◌}

-- after a step in, a step out, or both: at most track 76, and at least track 0
abbrev pub track_after : Bool → Bool → ℕ → ℕ
track_after step_in step_out track =
    let inner = if step_in then min (track + 1) 76 else track in
    if step_out then inner - 1 else inner
