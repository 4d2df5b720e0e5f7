-- An input that the single machine takes is a move of the guest that it stands for, with what the machine's own disk has;
-- one that it refuses is not a move.
use Rattle.std.proofs.Common.{◌≡◌, ℕ, zero, suc, ◌+◌, ◌<◌, Bool, true, false, not, ◌==◌, ◌&&◌, List, [], ◌∷◌, ◌++◌, None, Some, refl, sym, ap, ◌∙◌, subst, arith}
use Rattle.std.specs.Prelude.{if◌then◌else◌, nat_lt, reverse}
use Rattle.std.proofs.lemmas.Bool.{eqb-true, ltb-true, false_from_ne_true, false≢true, and_left}
use Rattle.std.proofs.lemmas.List.{append-nil}
use Rattle.disk_dcdd.specs.Completion as completion
use Rattle.disk_dcdd.specs.declared.address.SectorAddress.{SectorAddress}
use Rattle.i8080_words.specs.declared.refusal.Fault.TheVariants as faults
use Rattle.event_callbacks.specs.Completions.{is_due}
use Rattle.event_callbacks.specs.Operations.{Operations}
use Rattle.event_callbacks.specs.declared.devices.Done.TheVariants as done
use Rattle.guest_board.specs.Guest as guest
use Rattle.guest_parts.specs.Guest.{Guest}
use Rattle.guest_board.specs.Guest.{altair, take_from}
use Rattle.guest_lockstep.specs.Machine.{Machine, Move, Take}
use Rattle.guest_lockstep.specs.declared.input.Input.{Input}
use Rattle.guest_lockstep.specs.declared.input.Input.TheVariants as input
use Rattle.guest_board.specs.declared.setup.Setup.{Setup}
use Rattle.plain_single.specs.SingleState.{SingleState, StandsFor, guest_with, input_refusal, may_take_key, may_accept, address_under, after_taking, disk_after, ReadsSector}
use Rattle.plain_single.specs.Behind.{devices_of}
use Rattle.plain_single.specs.Image.{IsSector, sector_at}
use Rattle.guest_lockstep.specs.Reach.{Own, bare, timed, steps, image, image_from, writes}
use Rattle.plain_single.specs.Reaching.{StandsAt}
use Rattle.plain_single.specs.Serial.{due_unless}
use Rattle.guest_lockstep.specs.declared.timed.Bare.{Bare}
use Rattle.guest_lockstep.specs.declared.timed.Bare.TheVariants.{Rx, Sent, Sector, Written}
use Rattle.guest_lockstep.specs.declared.timed.Timed.{Timed}
use Rattle.guest_lockstep.proofs.Moves.{inputs-take, runs-append}
use Rattle.plain_single.proofs.Moves.{owns_on, steps_take, output_take, writes_take, image_on}

-- ---- the same questions

no_port : (n : ℕ) → nat_lt (suc (suc n)) 2 ≡ false
no_port n = false_from_ne_true _ (λ e. let h : suc (suc n) < 2 = ltb-true (suc (suc n)) 2 e in omega (arith, h))

not_zero : (n : ℕ) → (suc (suc n) == 0) ≡ false
not_zero n = false_from_ne_true _ (λ e. let h : suc (suc n) ≡ 0 = eqb-true (suc (suc n)) 0 e in omega (arith, h))

not_one : (n : ℕ) → (suc (suc n) == 1) ≡ false
not_one n = false_from_ne_true _ (λ e. let h : suc (suc n) ≡ 1 = eqb-true (suc (suc n)) 1 e in omega (arith, h))

neither : (zeroth first x y : Bool) → zeroth ≡ false → first ≡ false → (if zeroth then x else first && y) ≡ false
neither zeroth first x y e f = rw (e, f) refl

pub same_keys : (a : SingleState) (o : Operations) (c : List ℕ) (port : ℕ)
    → guest.may_take_key (guest_with a o c) port ≡ may_take_key a.behind port
same_keys a o c zero = refl
same_keys a o c (suc zero) = refl
same_keys a o c (suc (suc n)) =
    and_left (nat_lt (suc (suc n)) 2) _ (no_port n)
    ∙ sym (neither (suc (suc n) == 0) (suc (suc n) == 1) _ _ (not_zero n) (not_one n))

pub same_accept : (a : SingleState) (port : ℕ) → is_due (devices_of a.behind) (done.Sent port) ≡ may_accept a.behind port
same_accept a zero = refl
same_accept a (suc zero) = refl
same_accept a (suc (suc n)) =
    and_left (nat_lt (suc (suc n)) 2) _ (no_port n)
    ∙ sym (neither (suc (suc n) == 0) (suc (suc n) == 1) _ _ (not_zero n) (not_one n))

is_taken : (b : Bool) → due_unless b ≡ None → b ≡ true
is_taken true e = refl
is_taken false e = absurd (cc)

-- ---- an input that is taken

-- a move of the guest that takes the input with what the disk has, and what stays unchanged
pub record IsTaken (M : Machine Guest) (moves : List Move) (last : Guest) (a : SingleState) (b : Bare)
    (disk : List (List ℕ)) : Type 0 where
  pub i : Input
  pub is : bare i ≡ b
  pub own : Own M moves last i
  pub next : Guest
  pub takes : M.take last i ≡ Some next
  pub stands : StandsFor (after_taking a b disk) next
  pub first : (after_taking a b disk).behind.first.output ≡ a.behind.first.output
  pub second : (after_taking a b disk).behind.second.output ≡ a.behind.second.output
  pub writes : (after_taking a b disk).behind.writes ≡ a.behind.writes
  pub image : (address : SectorAddress)
      → image_from (reverse a.behind.writes) address (sector_at a.disk address) (Take i ∷ []) ≡ disk_after a b address

where_true : (b : Bool) (u : Guest) → b ≡ true → (if b then Some u else None) ≡ Some u
where_true b u e = rw e refl

key_taken : (setup : Setup) (sectors : SectorAddress → List ℕ) (moves : List Move) (a : SingleState)
    (o : Operations) (c : List ℕ) (disk : List (List ℕ))
    (port byte : ℕ) → may_take_key a.behind port ≡ true
    → IsTaken (altair setup sectors) moves (guest_with a o c) a (Rx port byte) disk
key_taken setup sectors moves a o c disk zero byte e = record {
  i = input.Rx 0 byte;
  is = refl;
  own = tt;
  next = guest.after_rx (guest_with a o c) 0 byte;
  takes = where_true (guest.may_take_key (guest_with a o c) 0) _ (same_keys a o c 0 ∙ e);
  stands = refl;
  first = refl;
  second = refl;
  writes = refl;
  image = λ address. refl;
}
key_taken setup sectors moves a o c disk (suc zero) byte e = record {
  i = input.Rx 1 byte;
  is = refl;
  own = tt;
  next = guest.after_rx (guest_with a o c) 1 byte;
  takes = where_true (guest.may_take_key (guest_with a o c) 1) _ (same_keys a o c 1 ∙ e);
  stands = refl;
  first = refl;
  second = refl;
  writes = refl;
  image = λ address. refl;
}
key_taken setup sectors moves a o c disk (suc (suc n)) byte e =
    absurd (false≢true (sym (neither (suc (suc n) == 0) (suc (suc n) == 1) _ _ (not_zero n) (not_one n)) ∙ e))

accept_taken : (setup : Setup) (sectors : SectorAddress → List ℕ) (moves : List Move) (a : SingleState)
    (o : Operations) (c : List ℕ) (disk : List (List ℕ))
    (port : ℕ) → may_accept a.behind port ≡ true
    → IsTaken (altair setup sectors) moves (guest_with a o c) a (Sent port) disk
accept_taken setup sectors moves a o c disk zero e = record {
  i = input.Sent 0;
  is = refl;
  own = tt;
  next = guest.after_sent (guest_with a o c) 0;
  takes = where_true (is_due (devices_of a.behind) (done.Sent 0)) _ (same_accept a 0 ∙ e);
  stands = refl;
  first = refl;
  second = refl;
  writes = refl;
  image = λ address. refl;
}
accept_taken setup sectors moves a o c disk (suc zero) e = record {
  i = input.Sent 1;
  is = refl;
  own = tt;
  next = guest.after_sent (guest_with a o c) 1;
  takes = where_true (is_due (devices_of a.behind) (done.Sent 1)) _ (same_accept a 1 ∙ e);
  stands = refl;
  first = refl;
  second = refl;
  writes = refl;
  image = λ address. refl;
}
accept_taken setup sectors moves a o c disk (suc (suc n)) e =
    absurd (false≢true (sym (neither (suc (suc n) == 0) (suc (suc n) == 1) _ _ (not_zero n) (not_one n)) ∙ e))

sector_due : (selected due busy : Bool)
    → (if selected then (if not due then Some faults.NotDue else if busy then Some faults.SectorBusy else None) else Some faults.NotDue) ≡ None
    → (selected && (due && not busy)) ≡ true
sector_due true true false e = refl
sector_due true true true e = absurd (cc)
sector_due true false busy e = absurd (cc)
sector_due false due busy e = absurd (cc)

sector_taken : (setup : Setup) (sectors : SectorAddress → List ℕ) (moves : List Move) (a : SingleState)
    (o : Operations) (c : List ℕ) (disk : List (List ℕ))
    (drive sector : ℕ) → input_refusal a (Sector drive sector) ≡ None
    → sector_at a.disk (address_under a.behind.disk drive sector)
    ≡ image (altair setup sectors) moves (address_under a.behind.disk drive sector)
    → IsTaken (altair setup sectors) moves (guest_with a o c) a (Sector drive sector) disk
sector_taken setup sectors moves a o c disk drive sector e same =
    let g : Guest = guest_with a o c in
    let address : SectorAddress = address_under a.behind.disk drive sector in
    record {
      i = input.Sector drive sector (guest.last_completed g address) (sector_at a.disk address);
      is = refl;
      own = (refl, sym same);
      next = guest.after_sector g sector (sector_at a.disk address);
      takes = where_true (guest.may_take_sector g drive sector (sector_at a.disk address)) _
          (sector_due (completion.is_selected a.behind.disk drive) (completion.is_sector_due a.behind.disk sector)
          (completion.is_sector_busy a.behind.disk sector) e);
      stands = refl;
      first = refl;
      second = refl;
      writes = refl;
      image = λ address. refl;
    }

is_outstanding : (b : Bool) → (if b then None else Some faults.NotDue) ≡ None → b ≡ true
is_outstanding true e = refl
is_outstanding false e = absurd (cc)

written_taken : (setup : Setup) (sectors : SectorAddress → List ℕ) (moves : List Move) (a : SingleState)
    (o : Operations) (c : List ℕ) (disk : List (List ℕ))
    (number : ℕ) → input_refusal a (Written number) ≡ None
    → IsTaken (altair setup sectors) moves (guest_with a o c) a (Written number) disk
written_taken setup sectors moves a o c disk number e = record {
  i = input.Written number;
  is = refl;
  own = tt;
  next = guest.after_written (guest_with a o c) number;
  takes = where_true (completion.is_outstanding a.behind.disk number) _
      (is_outstanding (completion.is_outstanding a.behind.disk number) e);
  stands = refl;
  first = refl;
  second = refl;
  writes = refl;
  image = λ address. refl;
}

taken : (setup : Setup) (sectors : SectorAddress → List ℕ) (moves : List Move) (a : SingleState)
    (o : Operations) (c : List ℕ) (disk : List (List ℕ)) (b : Bare)
    → input_refusal a b ≡ None → ReadsSector a b
    → ((address : SectorAddress) → IsSector address → sector_at a.disk address ≡ image (altair setup sectors) moves address)
    → IsTaken (altair setup sectors) moves (guest_with a o c) a b disk
taken setup sectors moves a o c disk (Rx port byte) e reads same =
    key_taken setup sectors moves a o c disk port byte (is_taken (may_take_key a.behind port) e)
taken setup sectors moves a o c disk (Sent port) e reads same =
    accept_taken setup sectors moves a o c disk port (is_taken (may_accept a.behind port) e)
taken setup sectors moves a o c disk (Sector drive sector) e reads same =
    sector_taken setup sectors moves a o c disk drive sector e (same (address_under a.behind.disk drive sector) reads)
taken setup sectors moves a o c disk (Written number) e reads same =
    written_taken setup sectors moves a o c disk number e

-- ---- one more input

abbrev with_bare : Timed → Bare → Timed
with_bare t b = record { count = t.count; input = b }

same_count : (n m k : ℕ) → n ≡ m → k ≡ m → 0 + n ≡ k
same_count n m k e h = omega (arith, e, h)

pub takes_on : (setup : Setup) (sectors : SectorAddress → List ℕ) (list : List Timed) (a : SingleState) (t : Timed)
    (disk : List (List ℕ))
    → StandsAt (altair setup sectors) list a → input_refusal a t.input ≡ None → ReadsSector a t.input
    → t.count ≡ a.count
    → ((address : SectorAddress) → IsSector address → sector_at disk address ≡ disk_after a t.input address)
    → StandsAt (altair setup sectors) (list ++ t ∷ []) (after_taking a t.input disk)
takes_on setup sectors list a t disk x e reads at same =
    let M : Machine Guest = altair setup sectors in
    let s : Guest = x.reach.last in
    let y : IsTaken M x.moves s a t.input disk =
    subst (λ g. IsTaken M x.moves g a t.input disk) x.stands.guest
    (taken setup sectors x.moves a s.operations s.completed disk t.input e reads x.stands.disk) in
    let is_t : timed (0 + steps x.moves) y.i ≡ t =
    ap (λ n. timed n y.i) (same_count (steps x.moves) a.count t.count x.reach.count_is at)
    ∙ ap (λ b. with_bare t b) y.is in
    record {
      moves = x.moves ++ Take y.i ∷ [];
      reach = record {
        last = y.next;
        runs = runs-append M M.boot s y.next x.moves (Take y.i ∷ []) x.reach.runs (y.next, y.takes, refl);
        owns = owns_on M [] x.moves M.boot s x.moves (Take y.i ∷ []) refl x.reach.owns x.reach.runs (y.own, λ u h. tt);
        list_is = inputs-take 0 x.moves y.i ∙ ap (λ ts. ts ++ timed (0 + steps x.moves) y.i ∷ []) x.reach.list_is
            ∙ ap (λ one. list ++ one ∷ []) is_t;
        count_is = steps_take x.moves y.i ∙ x.reach.count_is;
      };
      stands = record {
        guest = y.stands;
        first = y.first ∙ x.stands.first ∙ sym (output_take 0 x.moves y.i);
        second = y.second ∙ x.stands.second ∙ sym (output_take 1 x.moves y.i);
        writes = y.writes ∙ x.stands.writes ∙ sym (writes_take x.moves y.i);
        disk = λ address is. same address is ∙ sym (y.image address)
            ∙ ap (λ bytes. image_from (reverse a.behind.writes) address bytes (Take y.i ∷ [])) (x.stands.disk address is)
            ∙ ap (λ ws. image_from (reverse ws) address (image M x.moves address) (Take y.i ∷ [])) x.stands.writes
            ∙ ap (λ ws. image_from ws address (image M x.moves address) (Take y.i ∷ [])) (sym (append-nil (reverse (writes x.moves))))
            ∙ sym (image_on [] address (sectors address) x.moves (Take y.i ∷ []));
      };
    }
