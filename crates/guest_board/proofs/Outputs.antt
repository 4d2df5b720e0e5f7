-- An output leaves memory as it was, whatever device is at its port.
use Rattle.std.proofs.Common.{◌≡◌, ℕ, Bool, true, false, cond, ◌==◌, Option, None, Some, refl}
use Rattle.std.specs.Prelude.{nat_lt, slice_index}
use Rattle.std.specs.Option.{option_map_or}
use Rattle.guest_board.proofs.Words.{GREATEST_NUMBER, Wired, after_byte, after_disk_data, after_out, after_serial_data, device_at, port_of}
use Rattle.serial_2sio.specs.Port as serial
use Rattle.guest_board.proofs.Accesses.{either}

pub cond_memory : (b : Bool) (v w : Wired) → v.memory ≡ w.memory → (cond b v w).memory ≡ w.memory
cond_memory true v w e = e
cond_memory false v w e = refl

some_memory : (o : Option ℕ) (f : ℕ → Wired) (w : Wired) → ((n : ℕ) → (f n).memory ≡ w.memory)
    → (option_map_or f o w).memory ≡ w.memory
some_memory None f w h = refl
some_memory (Some n) f w h = h n

serial_memory : (w : Wired) (port byte : ℕ) → (after_serial_data w port byte).memory ≡ w.memory
serial_memory w port byte =
    cond_memory (nat_lt (slice_index w.issued port) GREATEST_NUMBER) _ w
    (some_memory (serial.data_out_answer (port_of w.devices port) byte) (after_byte w port) w (λ n. refl))

disk_memory : (w : Wired) (byte : ℕ) → (after_disk_data w byte).memory ≡ w.memory
disk_memory w byte = cond_memory (nat_lt w.devices.disk.issued GREATEST_NUMBER) _ w refl

-- whatever device is at a port
at_ports : {D : Type 0} (P : D → Type 0) (a b c d e f g h i : D) (A B C D' E F G H : Bool)
    → P a → P b → P c → P d → P e → P f → P g → P h → P i
    → P (cond A a (cond B b (cond C c (cond D' d (cond E e (cond F f (cond G g (cond H h i))))))))
at_ports P a b c d e f g h i A B C D' E F G H pa pb pc pd pe pf pg ph pi =
    either P A a _ pa (either P B b _ pb (either P C c _ pc (either P D' d _ pd (either P E e _ pe
    (either P F f _ pf (either P G g _ pg (either P H h i ph pi)))))))

pub out_memory : (w : Wired) (number byte : ℕ) → (after_out w (device_at number) byte).memory ≡ w.memory
out_memory w number byte =
    at_ports (λ device. (after_out w device byte).memory ≡ w.memory)
    (device_at 0x10) (device_at 0x11) (device_at 0x12) (device_at 0x13) (device_at 0x08) (device_at 0x09)
    (device_at 0x0A) (device_at 0xFF) (device_at 0x00)
    (number == 0x10) (number == 0x11) (number == 0x12) (number == 0x13) (number == 0x08) (number == 0x09)
    (number == 0x0A) (number == 0xFF)
    refl (serial_memory w 0 byte) refl (serial_memory w 1 byte) refl refl (disk_memory w byte) refl refl
