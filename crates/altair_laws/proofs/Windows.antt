-- The outstanding bytes of a port are the last ones that were sent, as many as are unaccepted: a byte that is sent has
-- the next number, and the one that is accepted is the oldest.
use Rattle.std.proofs.Common.{◌≡◌, ◌≢◌, ℕ, ◌+◌, ◌-◌, ◌<◌, List, length, Some, ◌⊎◌, inl, inr, refl, sym, ap, ◌∙◌, subst, arith}
use Rattle.std.specs.Prelude.{slice_index, nat_lt, ◌&&◌}
use Rattle.std.proofs.lemmas.Bool.{ltb-true, and_parts, cases_eq}
use Rattle.std.proofs.lemmas.Grind.{get_or-set_at}
use Rattle.std.proofs.lemmas.List.{get_or-set_other}
use Rattle.std.proofs.lemmas.Option.{cond_some, none-some}
use Rattle.serial_2sio.specs.Port as serial
use Rattle.guest_board.proofs.Boot.{two_zeros}
use Rattle.altair_laws.proofs.Words.{AreBytes, Byte, Guest, Input, IsLast, Move, OpId, Operation, Processor, Reaches, Rx, Sector, SectorAddress, Sent, Setup, Wired, Write, Written, after_byte, after_rx, after_sent, altair, guest_at_boot, oldest_byte, operation_at, operation_at-empty, operation_at-with_named, operation_at-with_other, operation_at-without_other, port_of, stepped, take_from, wired, with_given}
use Rattle.event_callbacks.specs.declared.operations.OpId.TheVariants as id
use Rattle.altair_laws.proofs.Moves.{from_boot}
use Rattle.altair_laws.proofs.Operations.{with-cases, without-cases}
use Rattle.altair_laws.proofs.Steps.{Gave, GaveNothing, GaveByte, GaveWrite, steps_from, after_step, same_unaccepted}
use Rattle.altair_laws.proofs.Bytes.{Bytes, no_bytes, bytes-boot, bytes-step, bytes-take, sent-more, accepted-less}

record Windows (moves : List Move) (g : Guest) : Type 0 where
  bytes : Bytes moves g
  windows : (port : ℕ) → AreBytes g port

windows-boot : (setup : Setup) → (port : ℕ) → AreBytes (guest_at_boot setup) port
windows-boot setup port = record {
  last = λ number x h. absurd (none-some x (sym (operation_at-empty (id.Byte port number)) ∙ h));
  pending = λ number l. (let z = two_zeros port in let y = no_bytes port in let a = l.first in let b = l.last in
      absurd (omega arith));
}

-- nothing changes at a port
still : (g u : Guest) (port : ℕ) → AreBytes g port → slice_index u.issued port ≡ slice_index g.issued port
    → (port_of u.devices port).unaccepted ≡ (port_of g.devices port).unaccepted
    → ((number : ℕ) → operation_at u.operations (id.Byte port number) ≡ operation_at g.operations (id.Byte port number))
    → AreBytes u port
still g u port b issued unaccepted same = record {
  last = λ number x h. (let l = b.last number x (sym (same number) ∙ h) in let p = l.first in let q = l.last in
      record { first = omega arith; last = omega arith });
  pending = λ number l. (let p = l.first in let q = l.last in
      let r = b.pending number (record { first = omega arith; last = omega arith }) in (r.0, same number ∙ r.1));
}

byte_port : (p q n m : ℕ) → id.Byte p n ≡ id.Byte q m → p ≡ q
byte_port p q n m e = (cc)

byte_number : (p q n m : ℕ) → id.Byte p n ≡ id.Byte q m → n ≡ m
byte_number p q n m e = (cc)

byte_write : (p n m : ℕ) → id.Byte p n ≡ id.Write m → ⊥
byte_write p n m e = (cc)

-- ---- a byte is sent

windows-sent : (moves : List Move) (g : Guest) (processor : Processor) (port byte : ℕ) → Windows moves g → port < 2
    → (port_of g.devices port).unaccepted < serial.window
    → (p : ℕ) → AreBytes (stepped g processor (after_byte (wired g) port byte)) p
windows-sent moves g processor port byte w inside room p = go (cases_eq p port)
  where
    came : Operation
    came = Byte port (slice_index g.issued port + 1) byte

    u : Guest
    u = stepped g processor (after_byte (wired g) port byte)

    two : length g.issued ≡ 2
    two = w.bytes.counts

    issued : p ≡ port → slice_index u.issued p ≡ slice_index g.issued p + 1
    issued e =
        get_or-set_at g.issued port p (slice_index g.issued port + 1) 0 e (let c = w.bytes.counts in omega arith)
        ∙ ap (λ n. slice_index g.issued n + 1) (sym e)

    unaccepted : p ≡ port → (port_of u.devices p).unaccepted ≡ (port_of g.devices p).unaccepted + 1
    unaccepted e =
        ap (λ (q : serial.Port). q.unaccepted)
        (get_or-set_at g.devices.ports port p (serial.after_data_out (port_of g.devices port)) serial.at_boot e
        (let c = w.bytes.two in omega arith))
        ∙ sent-more (port_of g.devices port) room
        ∙ ap (λ n. (port_of g.devices n).unaccepted + 1) (sym e)

    last : p ≡ port → (number : ℕ) (x : Operation)
        → ((id.Byte port (slice_index g.issued port + 1) ≡ id.Byte p number)
        × (Byte port (slice_index g.issued port + 1) byte ≡ x))
        ⊎ (operation_at g.operations (id.Byte p number) ≡ Some x)
        → IsLast u p number
    last e number x (inl h) =
        let n = byte_number port p (slice_index g.issued port + 1) number h.0 in
        let k = ap (slice_index g.issued) e in let i = issued e in let q = unaccepted e in
        record { first = omega arith; last = omega arith }
    last e number x (inr h) =
        let l = (w.windows p).last number x h in let b = l.first in let c = l.last in let i = issued e in
        let q = unaccepted e in
        record { first = omega arith; last = omega arith }

    pending : p ≡ port → (number : ℕ) → IsLast u p number
        → (number ≡ slice_index g.issued port + 1) ⊎ (number ≡ slice_index g.issued port + 1 → ⊥)
        → (x : Operation) × (operation_at u.operations (id.Byte p number) ≡ Some x)
    pending e number l (inl n) = (
      came,
      operation_at-with_named g.operations came (id.Byte p number) (ap (λ q. id.Byte q number) e
          ∙ ap (λ m. id.Byte port m) n),
    )
    pending e number l (inr n) =
        let b = l.first in let c = l.last in let k = ap (slice_index g.issued) e in let i = issued e in
        let q = unaccepted e in
        let r = (w.windows p).pending number (record { first = omega arith; last = omega arith }) in (
          r.0,
          operation_at-with_other g.operations came (id.Byte p number)
              (λ h. n (byte_number p port number (slice_index g.issued port + 1) h)) ∙ r.1,
        )

    go : (p ≡ port) ⊎ (p ≡ port → ⊥) → AreBytes (stepped g processor (after_byte (wired g) port byte)) p
    go (inl e) = record {
      last = λ number x h. last e number x (with-cases g.operations came x (id.Byte p number) h);
      pending = λ number l. pending e number l (cases_eq number (slice_index g.issued port + 1));
    }
    go (inr n) =
        still g u p (w.windows p) (get_or-set_other g.issued port p (slice_index g.issued port + 1) 0 n)
        (ap (λ (q : serial.Port). q.unaccepted)
        (get_or-set_other g.devices.ports port p
        (serial.after_data_out (port_of g.devices port)) serial.at_boot n))
        (λ number. operation_at-with_other g.operations came (id.Byte p number)
        (λ h. n (byte_port p port number (slice_index g.issued port + 1) h)))

windows-gave : (moves : List Move) (g : Guest) (processor : Processor) (w : Wired) → Windows moves g → Gave (wired g) w
    → (p : ℕ) → AreBytes (stepped g processor w) p
windows-gave moves g processor w d (GaveNothing _ e q) p =
    still g (stepped g processor w) p (d.windows p) (ap (λ xs. slice_index xs p) q.issued) (q.unaccepted p)
    (λ number. ap (λ o. operation_at (with_given g.operations o) (id.Byte p number)) e)
windows-gave moves g processor w d (GaveByte port byte inside l room) p =
    windows-sent moves g processor port byte d inside room p
windows-gave moves g processor w d (GaveWrite byte write e l) p =
    still g _ p (d.windows p) refl refl
    (λ number. operation_at-with_other g.operations (Write write) (id.Byte p number)
    (λ h. byte_write p number write.number h))

-- ---- a byte is accepted

windows-accepted : (moves : List Move) (g : Guest) (port : ℕ) → Windows moves g → port < 2
    → 0 < (port_of g.devices port).unaccepted
    → (p : ℕ) → AreBytes (after_sent g port) p
windows-accepted moves g port w inside some p = go (cases_eq p port)
  where
    gone : OpId
    gone = id.Byte port (oldest_byte g port)

    unaccepted : p ≡ port → (port_of (after_sent g port).devices p).unaccepted ≡ (port_of g.devices p).unaccepted - 1
    unaccepted e =
        ap (λ (q : serial.Port). q.unaccepted)
        (get_or-set_at g.devices.ports port p (serial.after_sent (port_of g.devices port)) serial.at_boot e (let c =
        w.bytes.two in omega arith))
        ∙ accepted-less (port_of g.devices port) some
        ∙ ap (λ n. (port_of g.devices n).unaccepted - 1) (sym e)

    last : p ≡ port → (number : ℕ) (x : Operation)
        → (operation_at g.operations (id.Byte p number) ≡ Some x) × (id.Byte p number ≢ gone)
        → IsLast (after_sent g port) p number
    last e number x h =
        let l = (w.windows p).last number x h.0 in let b = l.first in let c = l.last in let q = unaccepted e in
        let k = ap (slice_index g.issued) e in let t = ap (λ n. (port_of g.devices n).unaccepted) e in
        let n : number ≢ slice_index g.issued port + 1 - (port_of g.devices port).unaccepted =
        λ m. h.1 (ap (λ r. id.Byte r number) e ∙ ap (λ r. id.Byte port r) m) in
        record { first = omega arith; last = c }

    pending : p ≡ port → (number : ℕ) → IsLast (after_sent g port) p number
        → (x : Operation) × (operation_at (after_sent g port).operations (id.Byte p number) ≡ Some x)
    pending e number l =
        let b = l.first in let c = l.last in let q = unaccepted e in
        let k = ap (slice_index g.issued) e in let t = ap (λ n. (port_of g.devices n).unaccepted) e in
        let r = (w.windows p).pending number (record { first = omega arith; last = c }) in
        let n : number ≢ slice_index g.issued port + 1 - (port_of g.devices port).unaccepted = λ m. (omega arith) in (
          r.0,
          operation_at-without_other g.operations gone (id.Byte p number)
              (λ h. n (byte_number p port number (oldest_byte g port) h)) ∙ r.1,
        )

    go : (p ≡ port) ⊎ (p ≡ port → ⊥) → AreBytes (after_sent g port) p
    go (inl e) = record {
      last = λ number x h. last e number x (without-cases g.operations gone (id.Byte p number) x h);
      pending = λ number l. pending e number l;
    }
    go (inr n) =
        still g (after_sent g port) p (w.windows p) refl
        (ap (λ (q : serial.Port). q.unaccepted)
        (get_or-set_other g.devices.ports port p (serial.after_sent (port_of g.devices port)) serial.at_boot n))
        (λ number. operation_at-without_other g.operations gone (id.Byte p number)
        (λ h. n (byte_port p port number (oldest_byte g port) h)))

windows-take : (moves : List Move) (g u : Guest) (i : Input) → Windows moves g → take_from g i ≡ Some u → (p : ℕ)
    → AreBytes u p
windows-take moves g u (Rx port byte) w h p =
    subst (λ x. AreBytes x p) (cond_some _ _ u h).1
    (still g (after_rx g port byte) p (w.windows p) refl (same_unaccepted g.devices.ports port _ refl p)
    (λ number. refl))
windows-take moves g u (Sent port) w h p =
    let t = cond_some (nat_lt port 2 && serial.is_sent_due (port_of g.devices port)) (after_sent g port) u h in
    let d = and_parts (nat_lt port 2) (serial.is_sent_due (port_of g.devices port)) t.0 in
    subst (λ x. AreBytes x p) t.1
    (windows-accepted moves g port w (ltb-true port 2 d.0) (ltb-true 0 (port_of g.devices port).unaccepted d.1) p)
windows-take moves g u (Sector drive sector number bytes) w h p =
    subst (λ x. AreBytes x p) (cond_some _ _ u h).1 (still g _ p (w.windows p) refl refl (λ number. refl))
windows-take moves g u (Written number) w h p =
    subst (λ x. AreBytes x p) (cond_some _ _ u h).1
    (still g _ p (w.windows p) refl refl
    (λ n. operation_at-without_other g.operations (id.Write number) (id.Byte p n) (λ e. byte_write p n number e)))

windows_after : (setup : Setup) (sectors : SectorAddress → List ℕ) (moves : List Move) (g : Guest)
    → Reaches (altair setup sectors) moves g → Windows moves g
windows_after setup sectors = from_boot (altair setup sectors) Windows
    (record { bytes = bytes-boot setup; windows = windows-boot setup })
    (record {
      steps = λ moves g u gives w h. (let k = steps_from g u gives h in record {
        bytes = bytes-step moves g u gives w.bytes k;
        windows = after_step (λ moves g. (port : ℕ)
            → AreBytes g port) moves g u gives k (windows-gave moves g k.processor k.behind w k.gave);
      });
      takes = λ moves g u i w h. record {
        bytes = bytes-take moves g u i w.bytes h;
        windows =
            windows-take moves g u i w h;
      };
    })

pub bytes_pending : (setup : Setup) (sectors : SectorAddress → List ℕ) (moves : List Move) (g : Guest)
    → Reaches (altair setup sectors) moves g → (port : ℕ) → AreBytes g port
bytes_pending setup sectors moves g r = (windows_after setup sectors moves g r).windows
