-- The writes of a trace: they are numbered from 1, each number once; which are outstanding; and what each sector of the
-- machine's own disk has. At most one write of a sector is outstanding, so the one that is completed last has the
-- greatest number of the completed ones.
use Rattle.std.proofs.Common.{◌≡◌, ℕ, ◌*◌, ◌≤◌, ◌<◌, false, List, [], ◌∷◌, ◌++◌, length, get_or, Some, None, ◌⊎◌, inl, inr, sym, ap, ◌∙◌, subst, append-nil, arith, refl, Option}
use Rattle.std.proofs.lemmas.Bool.{cases_order, both_ways}
use Rattle.altair_laws.proofs.Words.{Among, Byte, DRIVE_SECTORS, Do, Guest, Input, IsIssued, Move, Operation, Operations, Place, SectorAddress, SectorWrite, Setup, TRACKS, Take, Write, address_of, among-split, drive_at_boot, guest_at_boot, image_from, index_of, inputs, is_at, operation_at, operation_at-empty, operation_at-with_other, operations, operations-append, place_of, same_address, with_operation}
use Rattle.event_callbacks.specs.declared.operations.OpId.TheVariants as id
use Rattle.guest_lockstep.specs.declared.timed.Bare.{Bare}
use Rattle.guest_lockstep.specs.declared.timed.Bare.TheVariants as bare
use Rattle.altair_laws.proofs.Operations.{AreGiven, with-cases, given-boot}
use Rattle.altair_laws.proofs.Drives.{Stands}
use Rattle.altair_laws.proofs.Images.{number_of, place-among, write-same, bares}
use Rattle.std.specs.Prelude.{slice_index, replicate}
use Rattle.std.specs.Option.{option_map_or}
use Rattle.std.proofs.lemmas.List.Elements.{All-replicate, All-drop, All-nil}
use Rattle.std.proofs.lemmas.Option.{none-some}
use Rattle.disk_dcdd.specs.declared.drive.Drive.{Drive}
use Rattle.disk_dcdd.proofs.Addresses.{same_address-refl}
use Rattle.guest_memory.specs.Pages.{zeros}
use Rattle.guest_memory.proofs.NewMemory.{length-zeros, only_zeros}
use Rattle.std.specs.FinMap as map

-- the write is outstanding
abbrev pub Has : Operations → SectorWrite → Type 0
Has m w = operation_at m (id.Write w.number) ≡ Some (Write w)

-- the write was issued along the moves
abbrev pub WasIssued : SectorWrite → List Move → Type 0
WasIssued w moves = Among (Write w) (operations moves)

-- the write is either completed, and then no later than the last completed one of its sector, or outstanding
abbrev pub IsSettled : List ℕ → Operations → SectorWrite → Type 0
IsSettled completed m w = (w.number ≤ number_of completed (address_of w)) ⊎ Has m w

-- what the machine's own disk has for a sector: the bytes at boot, or those of the last completed write
abbrev pub OwnIs : List ℕ → List Move → List ℕ → SectorAddress → Type 0
OwnIs start moves completed q =
    ((number_of completed q ≡ 0) × (image_from [] q start moves ≡ start))
    ⊎ ((w : SectorWrite) × WasIssued w moves × (address_of w ≡ q) × (w.number ≡ number_of completed q)
    × (w.bytes ≡ image_from [] q start moves) × Among (bare.Written w.number) (bares (inputs 0 moves)))

pub record Writes (start : SectorAddress → List ℕ) (moves : List Move) (g : Guest) : Type 0 where
  pub are_given : AreGiven moves g.operations
  pub stands : Stands g.devices.disk
  pub table : length g.completed ≡ g.devices.disk.attached * DRIVE_SECTORS
  pub known : (w : SectorWrite) → WasIssued w moves → (1 ≤ w.number) × (w.number ≤ g.devices.disk.issued)
  pub once : (v w : SectorWrite) → WasIssued v moves → WasIssued w moves → v.number ≡ w.number → v ≡ w
  pub placed : (w : SectorWrite) → Has g.operations w → Among (place_of w) g.devices.disk.outstanding
  pub from : (x : Place) → Among x g.devices.disk.outstanding
      → (w : SectorWrite) × Has g.operations w × (place_of w ≡ x)
  pub settled : (w : SectorWrite) → WasIssued w moves → IsSettled g.completed g.operations w
  pub later : (w : SectorWrite) → Has g.operations w → number_of g.completed (address_of w) < w.number
  pub own : (q : SectorAddress) → OwnIs (start q) moves g.completed q

pub given : (start : SectorAddress → List ℕ) (moves : List Move) (g : Guest) → Writes start moves g → (w : SectorWrite)
    → Has g.operations w → WasIssued w moves
given start moves g d w h = d.are_given.given (id.Write w.number) (Write w) h

-- ---- what follows at one moment

-- the controller knows where each outstanding write goes
pub known-place : (start : SectorAddress → List ℕ) (moves : List Move) (g : Guest) → Writes start moves g
    → (w : SectorWrite) → Has g.operations w
    → IsIssued g.devices.disk.attached g.devices.disk.issued (place_of w)
known-place start moves g d w h =
    let r = place-among (place_of w) g.devices.disk.outstanding (d.placed w h) in
    subst (IsIssued g.devices.disk.attached g.devices.disk.issued) (r.2 (place_of w))
    (d.stands.outstanding.each r.0 (place_of w) r.1)

-- of two outstanding writes, the later goes elsewhere
apart-places : (start : SectorAddress → List ℕ) (moves : List Move) (g : Guest) → Writes start moves g
    → (v w : SectorWrite) → (i j : ℕ) → i < j
    → j < length g.devices.disk.outstanding → ((d : Place) → get_or g.devices.disk.outstanding i d ≡ place_of v)
    → ((d : Place) → get_or g.devices.disk.outstanding j d ≡ place_of w)
    → address_of v ≡ address_of w → ⊥
apart-places start moves g d v w i j l inside is_v is_w e =
    let f = d.stands.outstanding.order i j (place_of v) l inside in
    let k : is_at w.drive w.track w.sector (place_of v) ≡ false =
    ap (λ (x : Place). is_at w.drive w.track w.sector x) (sym (is_v (place_of v)))
    ∙ ap (λ (x : Place). is_at x.drive x.track x.sector (get_or g.devices.disk.outstanding i (place_of v)))
    (sym (is_w (place_of v)))
    ∙ f.elsewhere in
    both_ways (same_address (address_of v) (address_of w)) k (same_address-refl (address_of v) (address_of w) e)

-- at most one write of a sector is outstanding
pub single : (start : SectorAddress → List ℕ) (moves : List Move) (g : Guest) → Writes start moves g
    → (v w : SectorWrite) → Has g.operations v → Has g.operations w
    → address_of v ≡ address_of w → v ≡ w
single start moves g d v w h k e =
    let a = place-among (place_of v) g.devices.disk.outstanding (d.placed v h) in
    let b = place-among (place_of w) g.devices.disk.outstanding (d.placed w k) in
    go a.0 b.0 (cases_order a.0 b.0) a.1 a.2 b.1 b.2
  where
    go : (i j : ℕ) → (i ≡ j) ⊎ ((i < j) ⊎ (j < i)) → i < length g.devices.disk.outstanding
        → ((d : Place) → get_or g.devices.disk.outstanding i d ≡ place_of v)
        → j < length g.devices.disk.outstanding → ((d : Place) → get_or g.devices.disk.outstanding j d ≡ place_of w)
        → v ≡ w
    go i j (inl s) l is_v m is_w =
        d.once v w (given start moves g d v h) (given start moves g d w k)
        (ap (λ (x : Place). x.number) (sym (is_v (place_of v))
        ∙ ap (λ n. get_or g.devices.disk.outstanding n (place_of v)) s ∙ is_w (place_of v)))
    go i j (inr (inl s)) l is_v m is_w = absurd (apart-places start moves g d v w i j s m is_v is_w e)
    go i j (inr (inr s)) l is_v m is_w = absurd (apart-places start moves g d w v j i s l is_w is_v (sym e))

-- no completed number is greater than the number of writes
pub number-few : (start : SectorAddress → List ℕ) (moves : List Move) (g : Guest) (q : SectorAddress)
    → Writes start moves g → number_of g.completed q ≤ g.devices.disk.issued
number-few start moves g q d = go (d.own q)
  where
    go : OwnIs (start q) moves g.completed q → number_of g.completed q ≤ g.devices.disk.issued
    go (inl h) = let e = h.0 in omega arith
    go (inr h) = let e = h.3 in let k = (d.known h.0 h.1).1 in omega arith

-- ---- moves that change no write

pub record Alike (start : SectorAddress → List ℕ) (moves more : List Move) (g u : Guest) : Type 0 where
  pub are_given : AreGiven more u.operations
  pub stands : Stands u.devices.disk
  pub attached_is : u.devices.disk.attached ≡ g.devices.disk.attached
  pub issued : u.devices.disk.issued ≡ g.devices.disk.issued
  pub outstanding : u.devices.disk.outstanding ≡ g.devices.disk.outstanding
  pub completed : u.completed ≡ g.completed
  pub there : (w : SectorWrite) → WasIssued w moves → WasIssued w more
  pub back : (w : SectorWrite) → WasIssued w more → WasIssued w moves
  pub has : (w : SectorWrite) → Has g.operations w → Has u.operations w
  pub had : (w : SectorWrite) → Has u.operations w → Has g.operations w
  pub image : (q : SectorAddress) → image_from [] q (start q) more ≡ image_from [] q (start q) moves
  pub done : (b : Bare) → Among b (bares (inputs 0 moves)) → Among b (bares (inputs 0 more))

pub own-alike : (start : List ℕ) (moves more : List Move) (completed : List ℕ) (q : SectorAddress)
    → ((w : SectorWrite) → WasIssued w moves → WasIssued w more)
    → image_from [] q start more ≡ image_from [] q start moves
    → ((b : Bare) → Among b (bares (inputs 0 moves)) → Among b (bares (inputs 0 more)))
    → OwnIs start moves completed q → OwnIs start more completed q
own-alike start moves more completed q there e done (inl h) = inl (h.0, e ∙ h.1)
own-alike start moves more completed q there e done (inr h) =
    inr (h.0, there h.0 h.1, h.2, h.3, h.4 ∙ sym e, done (bare.Written h.0.number) h.5)

pub alike : (start : SectorAddress → List ℕ) (moves more : List Move) (g u : Guest) → Writes start moves g
    → Alike start moves more g u → Writes start more u
alike start moves more g u d a = record {
  are_given = a.are_given;
  stands = a.stands;
  table = ap length a.completed ∙ d.table ∙ ap (λ n. n * DRIVE_SECTORS) (sym a.attached_is);
  known = λ w h. (let k = d.known w (a.back w h) in (k.0, subst (λ n. w.number ≤ n) (sym a.issued) k.1));
  once = λ v w h k e. d.once v w (a.back v h) (a.back w k) e;
  placed = λ w h. subst (Among (place_of w)) (sym a.outstanding) (d.placed w (a.had w h));
  from = λ x h. (let r = d.from x (subst (Among x) a.outstanding h) in (r.0, a.has r.0 r.1, r.2));
  settled = λ w h. settled_at w (d.settled w (a.back w h));
  later = λ w h. subst (λ xs. number_of xs (address_of w) < w.number) (sym a.completed) (d.later w (a.had w h));
  own = λ q. subst (λ xs. OwnIs (start q) more xs q) (sym a.completed)
      (own-alike (start q) moves more g.completed q a.there (a.image q) a.done (d.own q));
}
  where
    settled_at : (w : SectorWrite) → IsSettled g.completed g.operations w → IsSettled u.completed u.operations w
    settled_at w (inl h) = inl (subst (λ xs. w.number ≤ number_of xs (address_of w)) (sym a.completed) h)
    settled_at w (inr h) = inr (a.has w h)

-- ---- the operations of one more move

pub operations_none : (moves : List Move) → operations (moves ++ Do None ∷ []) ≡ operations moves
operations_none moves = operations-append moves (Do None ∷ []) ∙ append-nil (operations moves)

pub operations_take : (moves : List Move) (i : Input) → operations (moves ++ Take i ∷ []) ≡ operations moves
operations_take moves i = operations-append moves (Take i ∷ []) ∙ append-nil (operations moves)

pub operations_some : (moves : List Move) (x : Operation)
    → operations (moves ++ Do (Some x) ∷ []) ≡ operations moves ++ x ∷ []
operations_some moves x = operations-append moves (Do (Some x) ∷ [])

-- one more operation, a byte or a write
pub not_byte : (w : SectorWrite) (port number byte : ℕ) (os : List Operation)
    → Among (Write w) (os ++ Byte port number byte ∷ []) → Among (Write w) os
not_byte w port number byte os h = go (among-split (Write w) os (Byte port number byte ∷ []) h)
  where
    go : Among (Write w) os ⊎ Among (Write w) (Byte port number byte ∷ []) → Among (Write w) os
    go (inl a) = a
    go (inr (inl e)) = (cc)
    go (inr (inr a)) = absurd a

pub one_more : (w v : SectorWrite) (os : List Operation) → Among (Write w) (os ++ Write v ∷ [])
    → Among (Write w) os ⊎ (w ≡ v)
one_more w v os h = go (among-split (Write w) os (Write v ∷ []) h)
  where
    go : Among (Write w) os ⊎ Among (Write w) (Write v ∷ []) → Among (Write w) os ⊎ (w ≡ v)
    go (inl a) = inl a
    go (inr (inl e)) = inr (write-same w v e)
    go (inr (inr a)) = absurd a

pub grown : (w v : SectorWrite) (m : Operations) → Has (with_operation m (Write v)) w → Has m w ⊎ (w ≡ v)
grown w v m h = go (with-cases m (Write v) (Write w) (id.Write w.number) h)
  where
    go : ((id.Write v.number ≡ id.Write w.number) × (Write v ≡ Write w)) ⊎ Has m w → Has m w ⊎ (w ≡ v)
    go (inl e) = inr (sym (write-same v w e.1))
    go (inr a) = inl a

pub name_number : (n m : ℕ) → id.Write n ≡ id.Write m → n ≡ m
name_number n m e = (cc)

pub byte_name : (n port number : ℕ) → id.Write n ≡ id.Byte port number → ⊥
byte_name n port number e = (cc)

-- a byte comes or goes
pub byte-had : (m : Operations) (port number byte : ℕ) (w : SectorWrite)
    → Has (with_operation m (Byte port number byte)) w → Has m w
byte-had m port number byte w h = go (with-cases m (Byte port number byte) (Write w) (id.Write w.number) h)
  where
    go : ((id.Byte port number ≡ id.Write w.number) × (Byte port number byte ≡ Write w)) ⊎ Has m w → Has m w
    go (inl e) = absurd (byte_name w.number port number (sym e.0))
    go (inr a) = a

pub byte-has : (m : Operations) (port number byte : ℕ) (w : SectorWrite) → Has m w
    → Has (with_operation m (Byte port number byte)) w
byte-has m port number byte w h =
    operation_at-with_other m (Byte port number byte) (id.Write w.number) (λ e. byte_name w.number port number e) ∙ h

-- ---- at boot

pub writes-boot : (setup : Setup) (start : SectorAddress → List ℕ) → Writes start [] (guest_at_boot setup)
writes-boot setup start = record {
  are_given = given-boot;
  stands = record {
    some = setup.some;
    few = setup.few;
    selected = tt;
    drives = record {
      count = refl;
      tracks = All-replicate (λ (x : Drive). x.track < TRACKS) 4 drive_at_boot (omega arith);
      unattached =
          All-drop (λ (x : Drive). x ≡ drive_at_boot) setup.drives (replicate 4 drive_at_boot)
          (All-replicate (λ (x : Drive). x ≡ drive_at_boot) 4 drive_at_boot refl);
    };
    current = tt;
    outstanding =
        record {
          few = omega arith;
          each = All-nil (IsIssued setup.drives 0);
          order =
              λ i j e l m. absurd (omega arith);
        };
  };
  table = length-zeros (setup.drives * DRIVE_SECTORS);
  known = λ w h. absurd h;
  once = λ v w h k e. absurd h;
  placed = λ w h. absurd (empty w h);
  from = λ x h. absurd h;
  settled = λ w h. absurd h;
  later = λ w h. absurd (empty w h);
  own = λ q. inl (zero_of q (index_of q), refl);
}
  where
    empty : (w : SectorWrite) → Has map.empty w → ⊥
    empty w h = none-some (Write w) (sym (operation_at-empty (id.Write w.number)) ∙ h)

    zero_of : (q : SectorAddress) (o : Option ℕ)
        → option_map_or (λ index. slice_index (zeros (setup.drives * DRIVE_SECTORS)) index) o 0 ≡ 0
    zero_of q None = refl
    zero_of q (Some index) = only_zeros (setup.drives * DRIVE_SECTORS) index
