-- What an image says of a board makes its guest again: each operation of the image is one of the board's, and both have
-- one under the same names, so they are the same.
use Rattle.std.proofs.Common.{◌≡◌, ℕ, zero, suc, ◌+◌, ◌-◌, ◌<◌, ◌≤◌, true, ◌&&◌, List, [], ◌∷◌, ◌++◌, length, map, take, replicate, Option, Some, None, is_some, refl, sym, ap, ◌∙◌, arith, length-append, length-take-le}
use Rattle.std.specs.Prelude.{nat_lt, slice_index, All, IfSome}
use Rattle.std.specs.FinMap as finite
use Rattle.std.proofs.lemmas.Bool.Decides.{nat_tests}
use Rattle.std.proofs.lemmas.List.Elements.{All-cons, All-head, All-tail}
use Rattle.serial_2sio.specs.Port as serial
use Rattle.clone_state.proofs.Words.{Guest, IsDrives, Place, SectorWrite, byte_of, bytes_from, bytes_numbered, checkpoint_of, guest_of, oldest_of, operations_in, padded, place_of, window_of, with_each, write_at, writes_at, writes_of}
use Rattle.event_callbacks.specs.Completions.{port_of}
use Rattle.event_callbacks.specs.declared.devices.Devices.{Devices}
use Rattle.event_callbacks.specs.declared.devices.TheConstants.{PORTS}
use Rattle.event_callbacks.specs.declared.operations.OpId.{OpId}
use Rattle.event_callbacks.specs.declared.operations.OpId.TheVariants as id
use Rattle.event_callbacks.specs.declared.operations.Operation.{Operation}
use Rattle.event_callbacks.specs.declared.operations.Operation.TheVariants as operation
use Rattle.event_callbacks.specs.Operations.{Operations, operation_at, id_of}
use Rattle.guest_parts.specs.Board.{AreAwaited, IsBoard, IsHeld, is_on_its_way}
use Rattle.guest_parts.proofs.Shown.{each-among, empty-among, same_by_names, same_names}
use Rattle.guest_parts.proofs.Standing.{awaited-parts}

-- ---- maps of operations

-- each of these is outstanding under its name
abbrev AreThere : Operations → List Operation → Type 0
AreThere all ops = All (λ op. operation_at all (id_of op) ≡ Some op) ops

-- ---- the bytes of a window

-- an operation under the name of a byte is that byte
byte_itself : (port number : ℕ) (o : Option Operation) → is_some o ≡ true
    → IfSome o (λ op. id_of op ≡ id.Byte port number) → o ≡ Some (operation.Byte port number (byte_of o))
byte_itself port number None some named = cc
byte_itself port number (Some (operation.Byte p n b)) some named =
    let e : p ≡ port = cc in let f : n ≡ number = cc in
    ap (λ q. Some (operation.Byte q n b)) e ∙ ap (λ m. Some (operation.Byte port m b)) f
byte_itself port number (Some (operation.Write w)) some named = cc

window_there : (all : Operations) (p n u : ℕ)
    → ((k : ℕ) → n ≤ k → k < n + u → is_some (operation_at all (id.Byte p k)) ≡ true)
    → ((name : OpId) → IfSome (operation_at all name) (λ op. id_of op ≡ name))
    → AreThere all (bytes_from p n (bytes_numbered all p n u))
window_there all p n zero some named = λ k op inside. absurd (omega (arith, inside))
window_there all p n (suc u) some named =
    All-cons (λ op. operation_at all (id_of op) ≡ Some op)
    (operation.Byte p n (byte_of (operation_at all (id.Byte p n)))) (bytes_from p (n + 1) (bytes_numbered all p (n + 1) u))
    (byte_itself p n (operation_at all (id.Byte p n)) (some n (omega arith) (omega arith)) (named (id.Byte p n)))
    (window_there all p (n + 1) u (λ k low high. some k (omega (arith, low)) (omega (arith, high))) named)

pub window_length : (all : Operations) (p n u : ℕ) → length (bytes_numbered all p n u) ≡ u
window_length all p n zero = refl
window_length all p n (suc u) = ap suc (window_length all p (n + 1) u)

on_the_way : (issued u k : ℕ) → u ≤ issued → issued + 1 - u ≤ k → k < issued + 1 - u + u
    → is_on_its_way issued u k ≡ true
on_the_way issued u k few low high =
    let a : issued < k + u = omega (arith, few, low) in
    let b : k ≤ issued = omega (arith, few, high) in
    grind (arith, nat_tests)

port_there : (d : Devices) (all : Operations) (issued : List ℕ) (p : ℕ) → nat_lt p PORTS ≡ true
    → AreAwaited d all issued
    → AreThere all (bytes_from p (oldest_of d issued p)
    (bytes_numbered all p (oldest_of d issued p) (port_of d p).unaccepted))
port_there d all issued p there h =
    window_there all p (oldest_of d issued p) (port_of d p).unaccepted
    (λ k low high. h.bytes p k ∙ ap (λ b. b && is_on_its_way (slice_index issued p) (port_of d p).unaccepted k) there
    ∙ on_the_way (slice_index issued p) (port_of d p).unaccepted k (h.sent p) low high) h.names

-- ---- the places of a window

take_take : (n m : ℕ) (xs ys : List ℕ) → length xs ≡ n → n ≤ m → take n (take m (xs ++ ys)) ≡ xs
take_take zero m [] ys e few = refl
take_take zero m (x ∷ xs) ys e few = absurd (omega (arith, e))
take_take (suc n) m [] ys e few = absurd (omega (arith, e))
take_take (suc n) zero (x ∷ xs) ys e few = absurd (omega (arith, few))
take_take (suc n) (suc m) (x ∷ xs) ys e few =
    ap (λ zs. x ∷ zs) (take_take n m xs ys (omega (arith, e)) (omega (arith, few)))

pub padded_front : (n : ℕ) (xs : List ℕ) → length xs ≡ n → n ≤ serial.window → take n (padded xs) ≡ xs
unfolding padded
padded_front n xs e few = take_take n serial.window xs (replicate serial.window 0) e few

pub padded_length : (xs : List ℕ) → length (padded xs) ≡ serial.window
unfolding padded
padded_length xs =
    let l = length-append xs (replicate serial.window 0) in
    length-take-le serial.window (xs ++ replicate serial.window 0) (omega (arith, l))

-- ---- the writes

pub write_itself : (all : Operations) (place : Place) → IsHeld all place
    → (operation_at all (id.Write place.number)
    ≡ Some (operation.Write (write_at place (operation_at all (id.Write place.number)))))
    × (place_of (write_at place (operation_at all (id.Write place.number))) ≡ place)
write_itself all place h = (
  h.held ∙ ap (λ o. Some (operation.Write (write_at place o))) (sym h.held),
  ap (λ o. place_of (write_at place o)) h.held ∙ h.there,
)

pub writes_placed : (all : Operations) (places : List Place) → All (IsHeld all) places
    → map place_of (writes_at all places) ≡ places
writes_placed all [] h = refl
writes_placed all (x ∷ xs) h =
    ap (λ p. p ∷ map place_of (writes_at all xs)) (write_itself all x (All-head (IsHeld all) x xs h)).1
    ∙ ap (λ ps. x ∷ ps) (writes_placed all xs (All-tail (IsHeld all) x xs h))

writes_there : (all : Operations) (places : List Place) → All (IsHeld all) places
    → AreThere all (writes_of (writes_at all places))
writes_there all [] h = λ k op inside. absurd (omega (arith, inside))
writes_there all (x ∷ xs) h =
    let i = write_itself all x (All-head (IsHeld all) x xs h) in
    let w : SectorWrite = write_at x (operation_at all (id.Write x.number)) in
    All-cons (λ op. operation_at all (id_of op) ≡ Some op) (operation.Write w) (writes_of (writes_at all xs))
    (ap (λ (p : Place). operation_at all (id.Write p.number)) i.1 ∙ i.0)
    (writes_there all xs (All-tail (IsHeld all) x xs h))

-- ---- the guest

-- the operations with these bytes on their way to both ports
abbrev with_bytes : Guest → List ℕ → List ℕ → Operations
with_bytes g xs ys =
    with_each
    (with_each (with_each finite.empty (bytes_from 0 (oldest_of g.devices g.issued 0) xs))
    (bytes_from 1 (oldest_of g.devices g.issued 1) ys))
    (writes_of (writes_at g.operations g.devices.disk.outstanding))

-- no more bytes are unaccepted than the window has places
pub record FitsWindow (g : Guest) : Type 0 where
  pub first : (port_of g.devices 0).unaccepted ≤ serial.window
  pub second : (port_of g.devices 1).unaccepted ≤ serial.window

windows_again : (g : Guest) → FitsWindow g
    → operations_in (checkpoint_of g).first ≡ with_bytes g (window_of g 0) (window_of g 1)
windows_again g fits =
    let n : ℕ = (port_of g.devices 0).unaccepted in
    let m : ℕ = (port_of g.devices 1).unaccepted in
    let second : List ℕ = take m (padded (window_of g 1)) in
    ap (λ xs. with_bytes g xs second)
    (padded_front n (window_of g 0) (window_length g.operations 0 (oldest_of g.devices g.issued 0) n) fits.first)
    ∙ ap (with_bytes g (window_of g 0))
    (padded_front m (window_of g 1) (window_length g.operations 1 (oldest_of g.devices g.issued 1) m) fits.second)

bytes_again : (g : Guest) (versions : List ℕ) → IsBoard g versions → IsDrives g.devices.disk
    → with_bytes g (window_of g 0) (window_of g 1) ≡ g.operations
bytes_again g versions board stand =
    let all : Operations = g.operations in
    let d : Devices = g.devices in
    let a = board.awaited in
    let none : Operations = finite.empty in
    let one : Operations = with_each none (bytes_from 0 (oldest_of d g.issued 0) (window_of g 0)) in
    let two : Operations = with_each one (bytes_from 1 (oldest_of d g.issued 1) (window_of g 1)) in
    let ours : AreAwaited d (with_bytes g (window_of g 0) (window_of g 1)) g.issued =
    awaited-parts d g.issued (window_of g 0) (window_of g 1) (writes_at all d.disk.outstanding) a.ports a.numbers
    (window_length all 0 (oldest_of d g.issued 0) (port_of d 0).unaccepted)
    (window_length all 1 (oldest_of d g.issued 1) (port_of d 1).unaccepted)
    (a.sent 0) (a.sent 1) (writes_placed all d.disk.outstanding a.places) stand in
    same_by_names (with_bytes g (window_of g 0) (window_of g 1)) all
    (each-among two all (writes_of (writes_at all d.disk.outstanding)) (writes_there all d.disk.outstanding a.places)
    (each-among one all (bytes_from 1 (oldest_of d g.issued 1) (window_of g 1)) (port_there d all g.issued 1 refl a)
    (each-among none all (bytes_from 0 (oldest_of d g.issued 0) (window_of g 0)) (port_there d all g.issued 0 refl a)
    (empty-among all))))
    (same_names d (with_bytes g (window_of g 0) (window_of g 1)) all g.issued ours a)

pub guest_again : (g : Guest) (versions : List ℕ) → FitsWindow g → IsBoard g versions → IsDrives g.devices.disk
    → guest_of (checkpoint_of g) ≡ g
guest_again g versions fits board stand =
    ap (λ m. record g { operations = m }) (windows_again g fits ∙ bytes_again g versions board stand)
