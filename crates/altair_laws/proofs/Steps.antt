-- What a step does outside the processor. It gives nothing and is calm, or it gives one byte, or one write, since a
-- step has at most one access to a port. And an input is taken if it is due. No file above this one looks into the processor.
use Rattle.std.proofs.Common.{◌≡◌, ℕ, zero, suc, ◌<◌, Bool, true, false, cond, List, [], ◌∷◌, ◌++◌, length, Option, Some, None, refl, sym, ap, subst, lit≤}
use Rattle.std.specs.Prelude.{slice_index, slice_index_or, slice_set, nat_lt, ◌==◌, ◌||◌}
use Rattle.std.specs.Option.{option_map_or}
use Rattle.std.proofs.lemmas.Bool.{ltb-true, or_parts}
use Rattle.std.proofs.lemmas.List.{length-set}
use Rattle.std.proofs.lemmas.Option.{none-some, same_Some}
use Rattle.i8080_words.specs.Effects.{Access, after_accesses}
use Rattle.i8080_words.specs.Effects.Access.{Write, Input, Output}
use Rattle.altair_laws.proofs.Words.{Do, GREATEST_NUMBER, Guest, Move, Operation, Processor, SectorWrite, Wired, after_access, after_byte, after_disk_data, after_out, after_serial_data, device_at, devices_after_in, is_idle, is_spent, next, port_of, step_from, step_of, stepped, wired, wired_after, with_disk, with_port, write_given}
use Rattle.serial_2sio.specs.Port as serial
use Rattle.disk_dcdd.specs.Drive as drives
use Rattle.event_callbacks.specs.declared.devices.Devices.{Devices}
use Rattle.event_callbacks.specs.declared.operations.Operation.TheVariants as operation
use Rattle.altair_laws.proofs.Accesses.{Kind, Memory, Read, Sent, AreWrites, kind_of_step}
use Rattle.altair_laws.proofs.Drives.{Calm, calm-refl, calm-position, calm-read, calm-select}
use Rattle.altair_laws.proofs.Commands.{calm-command, calm-data}

-- nothing is sent, and the controller is calm
pub record Quiet (v w : Wired) : Type 0 where
  pub issued : w.issued ≡ v.issued
  pub ports : length w.devices.ports ≡ length v.devices.ports
  pub unaccepted : (port : ℕ) → (port_of w.devices port).unaccepted ≡ (port_of v.devices port).unaccepted
  pub disk : Calm v.devices.disk w.devices.disk

quiet-refl : (v : Wired) → Quiet v v
quiet-refl v = record { issued = refl; ports = refl; unaccepted = λ port. refl; disk = calm-refl v.devices.disk }

-- a write to the disk is given
abbrev pub after_write : Wired → ℕ → SectorWrite → Wired
after_write v byte write =
    record v {
      devices = with_disk v.devices (drives.after_data v.devices.disk byte);
      given =
          Some (operation.Write write);
    }

-- what a step gives, and what it leaves
pub data Gave (v : Wired) : Wired → Type 0 where
  GaveNothing : (w : Wired) → w.given ≡ None → Quiet v w → Gave v w
  GaveByte : (port byte : ℕ) → port < 2 → slice_index v.issued port < GREATEST_NUMBER
      → (port_of v.devices port).unaccepted < serial.window → Gave v (after_byte v port byte)
  GaveWrite : (byte : ℕ) (write : SectorWrite) → drives.issued_by v.devices.disk byte ≡ Some write
      → v.devices.disk.issued < GREATEST_NUMBER → Gave v (after_write v byte write)

-- ---- ports

-- a port is replaced by one with as many unaccepted bytes
pub same_unaccepted : (ports : List serial.Port) (number : ℕ) (port : serial.Port)
    → port.unaccepted ≡ (slice_index_or ports number serial.at_boot).unaccepted → (p : ℕ)
    → (slice_index_or (slice_set ports number port) p serial.at_boot).unaccepted
    ≡ (slice_index_or ports p serial.at_boot).unaccepted
same_unaccepted [] number port e p = refl
same_unaccepted (x ∷ xs) zero port e zero = e
same_unaccepted (x ∷ xs) zero port e (suc p) = refl
same_unaccepted (x ∷ xs) (suc number) port e zero = refl
same_unaccepted (x ∷ xs) (suc number) port e (suc p) = same_unaccepted xs number port e p

quiet-port : (v : Wired) (number : ℕ) (port : serial.Port) → port.unaccepted ≡ (port_of v.devices number).unaccepted
    → Quiet v (record v { devices = with_port v.devices number port })
quiet-port v number port e = record {
  issued = refl;
  ports = length-set v.devices.ports number port;
  unaccepted = same_unaccepted v.devices.ports number port e;
  disk = calm-refl v.devices.disk;
}

quiet-disk : (v : Wired) (disk : drives.Drives) → Calm v.devices.disk disk
    → Quiet v (record v { devices = with_disk v.devices disk })
quiet-disk v disk h = record { issued = refl; ports = refl; unaccepted = λ port. refl; disk = h }

-- what holds of each device of the board holds of the device at a port number
at_ports : {D : Type 0} (a b c d e f g h i : D) (P : D → Type 0) (A B C D' E F G H : Bool)
    → P a → P b → P c → P d → P e → P f → P g → P h → P i
    → P (cond A a (cond B b (cond C c (cond D' d (cond E e (cond F f (cond G g (cond H h i))))))))
at_ports a b c d e f g h i P true B C D' E F G H pa pb pc pd pe pf pg ph pi = pa
at_ports a b c d e f g h i P false true C D' E F G H pa pb pc pd pe pf pg ph pi = pb
at_ports a b c d e f g h i P false false true D' E F G H pa pb pc pd pe pf pg ph pi = pc
at_ports a b c d e f g h i P false false false true E F G H pa pb pc pd pe pf pg ph pi = pd
at_ports a b c d e f g h i P false false false false true F G H pa pb pc pd pe pf pg ph pi = pe
at_ports a b c d e f g h i P false false false false false true G H pa pb pc pd pe pf pg ph pi = pf
at_ports a b c d e f g h i P false false false false false false true H pa pb pc pd pe pf pg ph pi = pg
at_ports a b c d e f g h i P false false false false false false false true pa pb pc pd pe pf pg ph pi = ph
at_ports a b c d e f g h i P false false false false false false false false pa pb pc pd pe pf pg ph pi = pi

-- ---- accesses

gave-serial : (v : Wired) (port byte : ℕ) → v.given ≡ None → port < 2 → Gave v (after_serial_data v port byte)
gave-serial v port byte e inside = at (nat_lt (slice_index v.issued port) GREATEST_NUMBER) refl
  where
    sends : slice_index v.issued port < GREATEST_NUMBER → (b : Bool) → serial.is_ready (port_of v.devices port) ≡ b
        → (word : ℕ) → Gave v (option_map_or (after_byte v port) (cond b (Some word) None) v)
    sends l true r word = GaveByte port word inside l (ltb-true (port_of v.devices port).unaccepted serial.window r)
    sends l false r word = GaveNothing v e (quiet-refl v)

    at : (b : Bool) → nat_lt (slice_index v.issued port) GREATEST_NUMBER ≡ b
        → Gave v (cond b (option_map_or (after_byte v port) (serial.data_out_answer (port_of v.devices port) byte) v) v)
    at true q =
        sends (ltb-true (slice_index v.issued port) GREATEST_NUMBER q) (serial.is_ready (port_of v.devices port)) refl
        (serial.word_of (port_of v.devices port).control byte)
    at false q = GaveNothing v e (quiet-refl v)

gave-disk : (v : Wired) (byte : ℕ) → v.given ≡ None → Gave v (after_disk_data v byte)
gave-disk v byte e = at (nat_lt v.devices.disk.issued GREATEST_NUMBER) refl
  where
    gives : v.devices.disk.issued < GREATEST_NUMBER → (o : Option SectorWrite)
        → drives.issued_by v.devices.disk byte ≡ o
        → Gave v (record v {
          devices = with_disk v.devices (drives.after_data v.devices.disk byte);
          given =
              write_given o;
        })
    gives l None q =
        GaveNothing _ refl (record {
          issued = refl;
          ports = refl;
          unaccepted = λ port. refl;
          disk =
              calm-data v.devices.disk byte q;
        })
    gives l (Some write) q = GaveWrite byte write q l

    at : (b : Bool) → nat_lt v.devices.disk.issued GREATEST_NUMBER ≡ b
        → Gave v (cond b (record v {
          devices = with_disk v.devices (drives.after_data v.devices.disk byte);
          given =
              write_given (drives.issued_by v.devices.disk byte);
        }) v)
    at true q = gives (ltb-true v.devices.disk.issued GREATEST_NUMBER q) (drives.issued_by v.devices.disk byte) refl
    at false q = GaveNothing v e (quiet-refl v)

gave-out : (v : Wired) (number byte : ℕ) → v.given ≡ None → Gave v (after_out v (device_at number) byte)
gave-out v number byte e =
    at_ports (device_at 0x10) (device_at 0x11) (device_at 0x12) (device_at 0x13) (device_at 0x08) (device_at 0x09)
    (device_at 0x0A) (device_at 0xFF) (device_at 0x00)
    (λ device. Gave v (after_out v device byte))
    (number == 0x10) (number == 0x11) (number == 0x12) (number == 0x13) (number == 0x08) (number == 0x09)
    (number == 0x0A) (number == 0xFF)
    (GaveNothing _ e (quiet-port v 0 _ refl))
    (gave-serial v 0 byte e (lit≤ tt))
    (GaveNothing _ e (quiet-port v 1 _ refl))
    (gave-serial v 1 byte e (lit≤ tt))
    (GaveNothing _ e (quiet-disk v _ (calm-select v.devices.disk byte)))
    (GaveNothing _ e (quiet-disk v _ (calm-command v.devices.disk byte)))
    (gave-disk v byte e)
    (GaveNothing v e (quiet-refl v))
    (GaveNothing v e (quiet-refl v))

quiet-same : (v : Wired) → Quiet v (record v { devices = v.devices })
quiet-same v = record { issued = refl; ports = refl; unaccepted = λ port. refl; disk = calm-refl v.devices.disk }

quiet-in : (v : Wired) (number : ℕ) → Quiet v (record v { devices = devices_after_in v.devices (device_at number) })
quiet-in v number =
    at_ports (device_at 0x10) (device_at 0x11) (device_at 0x12) (device_at 0x13) (device_at 0x08) (device_at 0x09)
    (device_at 0x0A) (device_at 0xFF) (device_at 0x00)
    (λ device. Quiet v (record v { devices = devices_after_in v.devices device }))
    (number == 0x10) (number == 0x11) (number == 0x12) (number == 0x13) (number == 0x08) (number == 0x09)
    (number == 0x0A) (number == 0xFF)
    (quiet-same v)
    (quiet-port v 0 _ refl)
    (quiet-same v)
    (quiet-port v 1 _ refl)
    (quiet-same v)
    (quiet-disk v _ (calm-position v.devices.disk))
    (quiet-disk v _ (calm-read v.devices.disk))
    (quiet-same v)
    (quiet-same v)

-- writes of memory change nothing else
record Stored (v w : Wired) : Type 0 where
  given : w.given ≡ v.given
  devices : w.devices ≡ v.devices
  issued : w.issued ≡ v.issued

stored : (accesses : List Access) → AreWrites accesses → (v : Wired) → Stored v (after_accesses after_access accesses v)
stored [] h v = record { given = refl; devices = refl; issued = refl }
stored (Write address byte ∷ rest) h v =
    let s = stored rest h (after_access (Write address byte) v) in
    record { given = s.given; devices = s.devices; issued = s.issued }
stored (Input number ∷ rest) h v = absurd h
stored (Output number byte ∷ rest) h v = absurd h

gave-accesses : (g : Guest) (accesses : List Access) → Kind accesses
    → Gave (wired g) (after_accesses after_access accesses (wired g))
gave-accesses g _ (Memory accesses h) =
    let s = stored accesses h (wired g) in
    GaveNothing _ s.given (record {
      issued = s.issued;
      ports = ap (λ (d : Devices). length d.ports) s.devices;
      unaccepted = λ port. ap (λ (d : Devices). (port_of d port).unaccepted) s.devices;
      disk = subst (λ (d : Devices). Calm g.devices.disk d.disk) (sym s.devices) (calm-refl g.devices.disk);
    })
gave-accesses g _ (Read number) = GaveNothing _ refl (quiet-in (wired g) number)
gave-accesses g _ (Sent number byte) = gave-out (wired g) number byte refl

gave : (g : Guest) → Gave (wired g) (wired_after g)
unfolding wired_after step_of
gave g = gave-accesses g (step_of g).accesses (kind_of_step g.processor _ _ _)

-- ---- a step

pub record Steps (g u : Guest) (gives : Option Operation) : Type 0 where
  pub processor : Processor
  pub behind : Wired
  pub gave : Gave (wired g) behind
  pub after : stepped g processor behind ≡ u
  pub gives_is : behind.given ≡ gives
  pub unspent : is_spent g ≡ false

none_or : {A : Type 0} (b : Bool) (x y : A) → cond b None (Some x) ≡ Some y → (b ≡ false) × (x ≡ y)
none_or true x y e = absurd (none-some y e)
none_or false x y e = (refl, same_Some x y e)

pub steps_from : (g u : Guest) (gives : Option Operation) → step_from g ≡ Some (u, gives) → Steps g u gives
steps_from g u gives h =
    let k = none_or (is_spent g || is_idle g) (next g, (wired_after g).given) (u, gives) h in
    record {
      processor = (step_of g).after;
      behind = wired_after g;
      gave = gave g;
      after = ap (λ (x : Guest × Option Operation). x.0) k.1;
      gives_is = ap (λ (x : Guest × Option Operation). x.1) k.1;
      unspent = (or_parts (is_spent g) (is_idle g) k.0).0;
    }

-- a claim holds after a step, by what holds of the guest that the step leaves
pub after_step : (P : List Move → Guest
    → Type 0) (moves : List Move) (g u : Guest) (gives : Option Operation) (k : Steps g u gives)
    → P (moves ++ Do k.behind.given ∷ []) (stepped g k.processor k.behind) → P (moves ++ Do gives ∷ []) u
after_step P moves g u gives k h =
    subst (λ o. P (moves ++ Do o ∷ []) u) k.gives_is (subst (P (moves ++ Do k.behind.given ∷ [])) k.after h)
