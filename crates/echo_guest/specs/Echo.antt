-- A small machine: it reads the key that arrived last and sends it at the next step, one byte at a time, and it idles
-- if it waits for an acceptance and has no key to read.
use Rattle.std.specs.Prelude.{ℕ, suc, Bool, true, false, ◌==◌, nat_le, ◌&&◌, ◌||◌, if◌then◌else◌, Option, Some, None, is_none, []}
use Rattle.disk_dcdd.specs.declared.address.SectorAddress.{SectorAddress}
use Rattle.i8080_words.specs.declared.limits.TheConstants.{GREATEST_NUMBER}
use Rattle.event_callbacks.specs.declared.operations.OpId.{OpId}
use Rattle.event_callbacks.specs.declared.operations.OpId.TheVariants as id
use Rattle.event_callbacks.specs.declared.operations.Operation.{Operation}
use Rattle.event_callbacks.specs.declared.operations.Operation.TheVariants.{Byte}
use Rattle.guest_lockstep.specs.Machine.{Machine}
use Rattle.guest_lockstep.specs.declared.input.Input.{Input}
use Rattle.guest_lockstep.specs.declared.input.Input.TheVariants.{Rx, Sent, Sector, Written}

-- how many steps it made and how many keys it took, the key that is not read, the byte that was read and not sent, how
-- many bytes it has sent, whether the last of them is not accepted, and that byte
pub record Echo : Type 0 where
  pub count : ℕ
  pub keys : ℕ
  pub key : Option ℕ
  pub byte : Option ℕ
  pub sent : ℕ
  pub waits : Bool
  pub outgoing : ℕ

abbrev pub at_boot : Echo
at_boot = record { count = 0; keys = 0; key = None; byte = None; sent = 0; waits = false; outgoing = 0 }

-- a byte that was read is sent, while none waits; otherwise the key is read
abbrev pub sends : Echo → ℕ → Echo × Option Operation
sends e byte = (
  record e { count = suc e.count; byte = None; sent = suc e.sent; waits = true; outgoing = byte },
  Some (Byte 0 (suc e.sent) byte),
)

abbrev pub reads : Echo → Echo × Option Operation
reads e = (record e { count = suc e.count; key = None; byte = e.key }, None)

abbrev pub moved : Echo → Option ℕ → Echo × Option Operation
moved e None = reads e
moved e (Some byte) = sends e byte

abbrev pub is_spent : Echo → Bool
is_spent e = nat_le GREATEST_NUMBER e.count

abbrev pub is_idle : Echo → Bool
is_idle e = e.waits && is_none e.key

abbrev pub step_of : Echo → Option (Echo × Option Operation)
step_of e =
    if is_spent e || is_idle e then None else Some (moved e (if e.waits then None else e.byte))

abbrev pub due_byte : Echo → ℕ → Option ℕ
due_byte e port = if e.waits && port == 0 then Some e.sent else None

-- keys arrive at either port; the byte that was sent is accepted
abbrev pub after : Echo → Input → Option Echo
after e (Rx port byte) = Some (record e { keys = suc e.keys; key = Some byte })
after e (Sent port) = if e.waits && port == 0 then Some (record e { waits = false }) else None
after e (Sector drive sector number bytes) = None
after e (Written number) = None

-- the byte that is not accepted is outstanding
abbrev pub is_outgoing : Echo → OpId → Bool
is_outgoing e (id.Byte port number) = e.waits && (port == 0 && number == e.sent)
is_outgoing e (id.Write number) = false

abbrev pub nowhere : SectorAddress
nowhere = record { drive = 0; track = 0; sector = 0 }

-- as a pair sees it: a machine without drives
abbrev pub echo : Machine Echo
echo = record {
  boot = at_boot;
  boot_sector = λ address. [];
  window_size = 1;
  step = step_of;
  take = after;
  count = λ e. e.count;
  is_spent = is_spent;
  keys = λ e port. e.keys;
  find = λ e name. if is_outgoing e name then Some (Byte 0 e.sent e.outgoing) else None;
  due_byte = due_byte;
  selected = λ e. None;
  address = λ e drive sector. nowhere;
  ready = λ e address. false;
  busy = λ e address. false;
  done = λ e address. 0;
}
