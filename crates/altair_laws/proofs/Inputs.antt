-- An input that an Altair takes is of a port or a sector that exists, and the key count of its port has room for one
-- more: a port takes what arrives at it, and the selected drive, if any, is an attached one.
use Rattle.std.proofs.Common.{◌≡◌, ℕ, ◌<◌, true, false, List, Option, Some, None, refl, arith}
use Rattle.std.specs.Prelude.{IfSome, not, slice_index, nat_lt, is_none, ◌==◌, ◌&&◌}
use Rattle.std.specs.Option.{option_map_or}
use Rattle.std.proofs.lemmas.Bool.{ltb-true, eqb-true, and_parts, both_ways}
use Rattle.std.proofs.lemmas.Option.{cond_some}
use Rattle.serial_2sio.specs.Port as serial
use Rattle.altair_laws.proofs.Words.{DRIVES, Drives, GREATEST_NUMBER, Guest, Input, Rx, SECTORS, Sector, SectorAddress, Sent, Setup, Written, after_rx, after_sector, after_sent, altair, is_due, is_head_loaded, is_sector_busy, is_sector_due, is_selected, may_take_sector, port_of, take_from}
use Rattle.event_callbacks.specs.declared.devices.Done.TheVariants as done
use Rattle.event_callbacks.specs.declared.devices.TheConstants.{PORTS}
use Rattle.guest_lockstep.specs.Lockstep.{IsInput, HasRoom}
use Rattle.altair_laws.proofs.Drives.{Stands}

-- a selected drive is one of those that a controller may have
selected_there : (d : Drives) (drive : ℕ) → Stands d → is_selected d drive ≡ true → drive < DRIVES
selected_there d drive h = of d.selected h.selected
  where
    of : (o : Option ℕ) → IfSome o (λ n. n < d.attached) → option_map_or (λ selected. selected == drive) o false ≡ true
        → drive < DRIVES
    of None below e = absurd (both_ways false refl e)
    of (Some selected) below e =
        let same = eqb-true selected drive e in
        let few = h.few in
        omega arith

pub accepts_is : (setup : Setup) (sectors : SectorAddress → List ℕ) (g t : Guest) (input : Input)
    → Stands g.devices.disk → take_from g input ≡ Some t → IsInput input × HasRoom (altair setup sectors) g input
accepts_is setup sectors g t (Rx port byte) h e =
    let may = (cond_some (nat_lt port PORTS && nat_lt (slice_index g.keys port) GREATEST_NUMBER)
    (after_rx g port byte) t e).0 in
    let both = and_parts (nat_lt port PORTS) (nat_lt (slice_index g.keys port) GREATEST_NUMBER) may in
    (ltb-true port PORTS both.0, ltb-true (slice_index g.keys port) GREATEST_NUMBER both.1)
accepts_is setup sectors g t (Sent port) h e =
    let due = (cond_some (is_due g.devices (done.Sent port)) (after_sent g port) t e).0 in
    (ltb-true port PORTS (and_parts (nat_lt port PORTS) (serial.is_sent_due (port_of g.devices port)) due).0, tt)
accepts_is setup sectors g t (Sector drive sector number bytes) h e =
    let disk = g.devices.disk in
    let may = (cond_some (may_take_sector g drive sector bytes) (after_sector g sector bytes) t e).0 in
    let both = and_parts (is_selected disk drive) (is_due g.devices (done.Sector sector bytes)) may in
    let due = (and_parts (is_sector_due disk sector) (not (is_sector_busy disk sector)) both.1).0 in
    let there = (and_parts (is_head_loaded disk && is_none disk.current) (nat_lt sector SECTORS) due).1 in
    ((selected_there disk drive h both.0, ltb-true sector SECTORS there), tt)
accepts_is setup sectors g t (Written number) h e = (tt, tt)
