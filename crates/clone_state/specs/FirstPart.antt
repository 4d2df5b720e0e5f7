-- The first part of an image: all but memory and the last completed writes. In a message, with a head of 7 bytes, it has
-- 268 + 148n bytes with n outstanding writes; in version 01 it has 238 + 148n.
use Rattle.std.specs.Prelude.{ℕ, ◌+◌, ◌*◌, ◌/◌, ◌%◌, ◌==◌, nat_lt, nat_le, Bool, true, false, not, if◌then◌else◌, ◌&&◌, ◌||◌, List, ◌∷◌, length, map, replicate, slice_index, is_none, Option, Some, None}
use Rattle.std.specs.List.{zip}
use Rattle.std.specs.Option.{option_map_or}
use Rattle.i8080_words.specs.Arithmetic.{bit, has_bit, flag_byte, flags_from}
use Rattle.i8080_words.specs.declared.arithmetic.Flags.{Flags}
use Rattle.i8080_words.specs.declared.registers.Interrupts.{Interrupts}
use Rattle.i8080_words.specs.declared.registers.Interrupts.TheVariants.{Off, Soon, On}
use Rattle.i8080_words.specs.declared.registers.Processor.{Processor}
use Rattle.serial_2sio.specs.Port as serial
use Rattle.serial_2sio.specs.declared.acia.Receiver.{Receiver}
use Rattle.serial_2sio.specs.declared.acia.Receiver.TheVariants.{Empty, Full, FullLost, Over}
use Rattle.disk_dcdd.specs.Sector.{place_of}
use Rattle.disk_dcdd.specs.declared.controller.TheConstants.{DRIVES, OUTSTANDING}
use Rattle.disk_dcdd.specs.declared.drive.Drive.{Drive}
use Rattle.disk_dcdd.specs.declared.sector.CurrentSector.{CurrentSector}
use Rattle.disk_dcdd.specs.declared.sector.SectorWrite.{SectorWrite}
use Rattle.disk_dcdd.specs.declared.sector.TheConstants.{SECTOR_BYTES}
use Rattle.event_callbacks.specs.declared.devices.TheConstants.{PORTS}
use Rattle.log_entry.specs.Numbers.{◌>>=◌}
use Rattle.clone_state.specs.Codec.{Codec, both, by, only, one, byte_at, bytes, number, times, counted}
use Rattle.clone_state.specs.Checkpoint.{FirstPart}
use Rattle.clone_state.specs.Possible.{are_zeros, is_window, is_possible}

-- ---- small values

-- 00 or 01
abbrev pub is_bit : ℕ → Bool
is_bit n = nat_lt n 2

unfoldable pub truth : Codec Bool
truth = by (only one is_bit) bit (λ n. n == 1)

-- an address, or a register of two bytes
unfoldable pub word : Codec ℕ
word = by (both one one) (λ n. (n / 256, n % 256)) (λ p. p.0 * 256 + p.1)

-- a number that may be missing: FF stands for none
abbrev pub or_none : Option ℕ → ℕ
or_none o = option_map_or (λ n. n) o 255

abbrev pub some_below : ℕ → Option ℕ
some_below n = if n == 255 then None else Some n

unfoldable pub maybe : Codec (Option ℕ)
maybe = by one or_none some_below

-- ---- the processor: A, flags, B, C, D, E, H, L; SP, PC; interrupts, halted

-- bits 5 and 3 of the flag byte are 0, and bit 1 is 1
abbrev pub is_flag_byte : ℕ → Bool
is_flag_byte n = not (has_bit n 32) && not (has_bit n 8) && has_bit n 2

unfoldable pub flags : Codec Flags
flags = by (only one is_flag_byte) flag_byte flags_from

-- 0 off, 1 soon, 2 on
abbrev pub code_of_interrupts : Interrupts → ℕ
code_of_interrupts Off = 0
code_of_interrupts Soon = 1
code_of_interrupts On = 2

abbrev pub interrupts_of : ℕ → Interrupts
interrupts_of n = if n == 0 then Off else if n == 1 then Soon else On

abbrev pub is_interrupts : ℕ → Bool
is_interrupts n = nat_lt n 3

unfoldable pub interrupts : Codec Interrupts
interrupts = by (only one is_interrupts) code_of_interrupts interrupts_of

abbrev pub Registers : Type 0
Registers = (ℕ × (Flags × (ℕ × (ℕ × (ℕ × (ℕ × (ℕ × ℕ)))))))

unfoldable pub registers : Codec Registers
registers = both one (both flags (both one (both one (both one (both one (both one one))))))

unfoldable pub processor : Codec Processor
processor = by (both registers (both word (both word (both interrupts truth))))
    (λ p. (
      (p.regs.a, (p.regs.flags, (p.regs.b, (p.regs.c, (p.regs.d, (p.regs.e, (p.regs.h, p.regs.l))))))),
      (p.regs.sp, (p.regs.pc, (p.interrupts, p.halted))),
    ))
    (λ r. record {
      regs = record {
        pc = r.1.1.0;
        sp = r.1.0;
        b = r.0.1.1.0;
        c = r.0.1.1.1.0;
        d = r.0.1.1.1.1.0;
        e = r.0.1.1.1.1.1.0;
        h = r.0.1.1.1.1.1.1.0;
        l = r.0.1.1.1.1.1.1.1;
        a = r.0.0;
        flags = r.0.1.0;
      };
      interrupts = r.1.1.1.0;
      halted = r.1.1.1.1;
    })

-- ---- a port: control, data, receiver, how many bytes are unaccepted, the 16 places of the window

-- 0 empty, 1 full, 2 full with a byte lost, 3 overrun
abbrev pub code_of_receiver : Receiver → ℕ
code_of_receiver Empty = 0
code_of_receiver Full = 1
code_of_receiver FullLost = 2
code_of_receiver Over = 3

abbrev pub receiver_of : ℕ → Receiver
receiver_of n = if n == 0 then Empty else if n == 1 then Full else if n == 2 then FullLost else Over

abbrev pub is_receiver : ℕ → Bool
is_receiver n = nat_lt n 4

unfoldable pub receiver : Codec Receiver
receiver = by (only one is_receiver) code_of_receiver receiver_of

-- a port and the places of its window
abbrev pub PortImage : Type 0
PortImage = serial.Port × List ℕ

abbrev pub has_window : PortImage → Bool
has_window p = is_window p.0.unaccepted p.1

unfoldable pub port : Codec PortImage
port = only
    (by (both one (both one (both receiver (both one (bytes serial.window)))))
    (λ p. (p.0.control, (p.0.receive_data, (p.0.receiver, (p.0.unaccepted, p.1)))))
    (λ r. (serial.port_with r.0 r.1.0 r.1.1.0 r.1.1.1.0, r.1.1.1.1)))
    has_window

-- ---- a port in version 01: control, data, receiver, TDRE, the unaccepted byte or 00. A port with TDRE 0 has one
-- unaccepted byte, any other none

abbrev pub PortImage01 : Type 0
PortImage01 = (ℕ × (ℕ × (Receiver × (Bool × ℕ))))

-- a window whose oldest place has this byte
abbrev pub one_byte : ℕ → List ℕ
one_byte byte = byte ∷ replicate 15 0

abbrev pub has_byte : PortImage01 → Bool
has_byte r = not r.1.1.1.0 || r.1.1.1.1 == 0

unfoldable pub port_01 : Codec PortImage
port_01 = by (only (both one (both one (both receiver (both truth one)))) has_byte)
    (λ p. (p.0.control, (p.0.receive_data, (p.0.receiver, (p.0.unaccepted == 0, slice_index p.1 0)))))
    (λ r. (
      serial.port_with r.0 r.1.0 r.1.1.0 (if r.1.1.1.0 then 0 else 1),
      one_byte r.1.1.1.1,
    ))

-- ---- the controller and its outstanding writes

abbrev pub CurrentImage : Type 0
CurrentImage = (Bool × (ℕ × (Bool × (ℕ × (Option ℕ × List ℕ)))))

-- with no sector under the head its fields are 00, 00, 00, FF and 137 times 00
unfoldable pub no_bytes : List ℕ
no_bytes = replicate 137 0

abbrev pub shown_current : Option CurrentSector → CurrentImage
shown_current None = (false, (0, (false, (0, (None, no_bytes)))))
shown_current (Some s) = (true, (s.sector, (s.shown, (s.read, (s.filled, s.bytes)))))

abbrev pub is_current : CurrentImage → Bool
is_current r =
    r.0 || r.1.0 == 0 && not r.1.1.0 && r.1.1.1.0 == 0 && is_none r.1.1.1.1.0 && are_zeros r.1.1.1.1.1

abbrev pub current_of : CurrentImage → Option CurrentSector
current_of r =
    if r.0
    then Some (record {
      sector = r.1.0;
      bytes = r.1.1.1.1.1;
      read = r.1.1.1.0;
      shown = r.1.1.0;
      filled = r.1.1.1.1.0;
    })
    else None

unfoldable pub current : Codec (Option CurrentSector)
current = by
    (only (both truth (both one (both truth (both one (both maybe (bytes SECTOR_BYTES)))))) is_current)
    shown_current current_of

-- the four tracks, and then the four heads
abbrev pub drive_with : ℕ × Bool → Drive
drive_with p = record { track = p.0; loaded = p.1 }

unfoldable pub drives : Codec (List Drive)
drives = by (both (times DRIVES one) (times DRIVES truth))
    (λ ds. (map (λ (d : Drive). d.track) ds, map (λ (d : Drive). d.loaded) ds))
    (λ r. map drive_with (zip r.0 r.1))

unfoldable pub write : Codec SectorWrite
write = by (both number (both one (both one (both one (bytes SECTOR_BYTES)))))
    (λ w. (w.number, (w.drive, (w.track, (w.sector, w.bytes)))))
    (λ r. record { number = r.0; drive = r.1.0; track = r.1.1.0; sector = r.1.1.1.0; bytes = r.1.1.1.1 })

-- at most 8 writes, after a byte that says how many
abbrev pub are_few : List SectorWrite → Bool
are_few ws = nat_le (length ws) OUTSTANDING

unfoldable pub writes : Codec (List SectorWrite)
writes = only (counted write) are_few

-- how many writes were issued, the selected drive, interrupts, the drives, the sector under the head, the writes
abbrev pub ControllerFields : Type 0
ControllerFields = (ℕ × (Option ℕ × (Bool × (List Drive × (Option CurrentSector × List SectorWrite)))))

unfoldable pub controller : Codec ControllerFields
controller = both number (both maybe (both truth (both drives (both current writes))))

-- ---- all of it

-- the keys of each port, the bytes issued at each, the ports, and the controller
abbrev pub DeviceFields : Type 0
DeviceFields = (List ℕ × (List ℕ × (List PortImage × ControllerFields)))

unfoldable pub two_numbers : Codec (List ℕ)
two_numbers = times PORTS number

unfoldable pub devices : Codec PortImage → Codec DeviceFields
devices port_codec = both two_numbers (both two_numbers (both (times PORTS port_codec) controller))

-- how many drives, the levels, the sense switches, the count, the processor, and the devices
abbrev pub FirstImage : Type 0
FirstImage = (ℕ × (List ℕ × (ℕ × (ℕ × (Processor × DeviceFields)))))

unfoldable pub fields : Codec PortImage → Codec FirstImage
fields port_codec = both one (both (bytes 3) (both one (both number (both processor (devices port_codec)))))

abbrev pub image_of_first : FirstPart → FirstImage
image_of_first f =
    let d = f.devices.disk in (
      d.attached,
      (
        f.levels,
        (
          f.sense,
          (
            f.count,
            (
              f.processor,
              (
                f.keys,
                (
                  f.issued,
                  (
                    zip f.devices.ports f.unaccepted,
                    (
                      d.issued,
                      (
                        d.selected,
                        (
                          d.interrupts,
                          (
                            d.drives,
                            (d.current, f.writes),
                          ),
                        ),
                      ),
                    ),
                  ),
                ),
              ),
            ),
          ),
        ),
      ),
    )

abbrev pub first_of_image : FirstImage → FirstPart
first_of_image r =
    let ports = r.1.1.1.1.1.1.1.0 in
    let disk = r.1.1.1.1.1.1.1.1 in
    record {
      processor = r.1.1.1.1.0;
      devices = record {
        ports = map (λ (p : PortImage). p.0) ports;
        disk = record {
          attached = r.0;
          selected = disk.1.0;
          drives = disk.1.1.1.0;
          interrupts = disk.1.1.0;
          current = disk.1.1.1.1.0;
          outstanding = map place_of disk.1.1.1.1.1;
          issued = disk.0;
        };
      };
      unaccepted = map (λ (p : PortImage). p.1) ports;
      issued = r.1.1.1.1.1.1.0;
      writes = disk.1.1.1.1.1;
      count = r.1.1.1.0;
      keys = r.1.1.1.1.1.0;
      levels = r.1.0;
      sense = r.1.1.0;
    }

-- all after the version
unfoldable pub versioned : Codec PortImage → Codec FirstPart
versioned port_codec = only (by (fields port_codec) image_of_first first_of_image) is_possible

-- it is written in version 02; version 01, in which a port has another spelling, is read too
abbrev pub read_version : ℕ → List ℕ → Option (FirstPart × List ℕ)
read_version version rest =
    if version == 2 then (versioned port).read rest
    else if version == 1 then (versioned port_01).read rest
    else None

unfoldable pub first : Codec FirstPart
first = record {
  spell = λ f. 2 ∷ (versioned port).spell f;
  read = λ xs. byte_at xs >>= λ v. read_version v.0 v.1;
}

-- the spelling in version 01
abbrev pub spelling_01 : FirstPart → List ℕ
spelling_01 f = 1 ∷ (versioned port_01).spell f
