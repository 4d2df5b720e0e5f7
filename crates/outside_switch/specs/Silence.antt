-- When something moved last, by what is heard of the hosts: what they show or write, and what they read on another track than before.
use Rattle.std.specs.Prelude.{ℕ, ◌==◌, ◌&&◌, Bool, false, if◌then◌else◌, Option, Some, None}
use Rattle.disk_dcdd.specs.declared.address.SectorAddress.{SectorAddress}
use Rattle.outside_switch.specs.declared.heard.BodyOutcome.{BodyOutcome}
use Rattle.outside_switch.specs.declared.heard.BodyOutcome.TheVariants.{Read, Shown, Written}
use Rattle.outside_switch.specs.declared.session.Moments.{Moments}

-- whether a sector is on the track of the last that was read
abbrev pub is_again : Option SectorAddress → SectorAddress → Bool
is_again None address = false
is_again (Some last) address = last.drive == address.drive && last.track == address.track

abbrev pub after_read : ℕ → SectorAddress → Moments → Moments
after_read now address moments =
    if is_again moments.read address then moments else record moments { moved = now; read = Some address }

abbrev pub remembered : ℕ → BodyOutcome → Moments → Moments
remembered now (Shown port byte) moments = record moments { moved = now }
remembered now Written moments = record moments { moved = now }
remembered now (Read address) moments = after_read now address moments
remembered now _ moments = moments
