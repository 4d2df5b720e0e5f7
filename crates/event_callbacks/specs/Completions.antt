-- The completion table: what a device may have done, and how that changes the devices.
use Rattle.std.specs.Prelude.{ℕ, Bool, not, nat_lt, ◌&&◌, [], ◌∷◌, slice_index_or, slice_set}
use Rattle.serial_2sio.specs.Port as serial
use Rattle.disk_dcdd.specs.Drive as drives
use Rattle.disk_dcdd.specs.Completion as drives_done
use Rattle.event_callbacks.specs.declared.devices.TheConstants.{PORTS}
use Rattle.event_callbacks.specs.declared.devices.Devices.{Devices}
use Rattle.event_callbacks.specs.declared.devices.Done.{Done}
use Rattle.event_callbacks.specs.declared.devices.Done.TheVariants.{Sent, Sector, Written}

-- the devices at boot, with this many drives
abbrev pub at_boot : ℕ → Devices
at_boot attached = record { ports = serial.at_boot ∷ serial.at_boot ∷ []; disk = drives.at_boot attached }

-- the port of this number
abbrev pub port_of : Devices → ℕ → serial.Port
port_of d port = slice_index_or d.ports port serial.at_boot

-- due: a port with a byte that is not accepted yet; a sector that the head waits for, with no outstanding write of it;
-- an outstanding write
abbrev pub is_due : Devices → Done → Bool
is_due d (Sent port) = nat_lt port PORTS && serial.is_sent_due (port_of d port)
is_due d (Sector sector bytes) =
    drives_done.is_sector_due d.disk sector && not (drives_done.is_sector_busy d.disk sector)
is_due d (Written number) = drives_done.is_outstanding d.disk number

-- the devices after it: the port has one unaccepted byte fewer; the sector is under the head; the write is no longer
-- outstanding; all else is unchanged
abbrev pub done_of : Devices → Done → Devices
done_of d (Sent port) = record d { ports = slice_set d.ports port (serial.after_sent (port_of d port)) }
done_of d (Sector sector bytes) = record d { disk = drives_done.after_sector d.disk sector bytes }
done_of d (Written number) = record d { disk = drives_done.after_written d.disk number }
