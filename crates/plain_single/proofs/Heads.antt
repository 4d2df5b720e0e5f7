-- What a command does to a head, by its four bits.
use Rattle.std.proofs.Common.{◌≡◌, ℕ, Bool, true, false, not, ◌&&◌, ◌||◌, refl}
use Rattle.std.specs.Prelude.{if◌then◌else◌}
use Rattle.disk_dcdd.specs.Command as table
use Rattle.disk_dcdd.specs.declared.drive.Drive.{Drive}
use Rattle.plain_single.specs.Tracks.{track_after}

-- the changes to a drive that these bits ask for, one after another
abbrev changed : Bool → Bool → Bool → Bool → Drive → Drive
changed step_in step_out load unload d =
    let after_in = if step_in then table.stepped_in d else d in
    let after_out = if step_out then table.stepped_out after_in else after_in in
    let after_load = if load then table.loaded after_out else after_out in
    if unload then table.unloaded after_load else after_load

by_bits : (i o l u on : Bool) (track : ℕ)
    → record { track = track_after i o track; loaded = not u && (l || on) } ≡ changed i o l u (record { track = track; loaded = on })
by_bits true true true true on track = refl
by_bits true true true false on track = refl
by_bits true true false true on track = refl
by_bits true true false false on track = refl
by_bits true false true true on track = refl
by_bits true false true false on track = refl
by_bits true false false true on track = refl
by_bits true false false false on track = refl
by_bits false true true true on track = refl
by_bits false true true false on track = refl
by_bits false true false true on track = refl
by_bits false true false false on track = refl
by_bits false false true true on track = refl
by_bits false false true false on track = refl
by_bits false false false true on track = refl
by_bits false false false false on track = refl

pub commanded : (byte track : ℕ) (on : Bool)
    → record {
      track = track_after (table.has_bit byte 0) (table.has_bit byte 1) track;
      loaded = not (table.has_bit byte 3) && (table.has_bit byte 2 || on);
    } ≡ table.commanded_drive byte (record { track = track; loaded = on })
commanded byte track on =
    by_bits (table.has_bit byte 0) (table.has_bit byte 1) (table.has_bit byte 2) (table.has_bit byte 3) on track
