-- An input that the single machine refuses is not a move of the guest that it stands for, and so a run is refused.
use Rattle.std.proofs.Common.{◌≡◌, ℕ, suc, ◌+◌, ◌<◌, ◌≤◌, min, Bool, true, false, not, ◌==◌, ◌&&◌, List, [], ◌∷◌, ◌++◌, Option, None, Some, Result, Ok, Err, IfErr, IfOk, OnOk, refl, sym, ap, ◌∙◌, subst, ◌⊎◌, inl, inr, length, take, drop, arith}
use Rattle.std.specs.Prelude.{if◌then◌else◌, slice_index_or}
use Rattle.std.specs.Option.{option_map_or}
use Rattle.std.specs.Result.{IsErrAnd}
use Rattle.std.proofs.lemmas.Bool.{eqb-true, false≢true}
use Rattle.std.proofs.lemmas.List.{append-nil, take-append-drop}
use Rattle.std.proofs.Math.Seq.{drop-cons}
use Rattle.std.proofs.Math.Nat.{min-eq_left, min-eq_right}
use Rattle.disk_dcdd.specs.Completion as completion
use Rattle.disk_dcdd.specs.declared.address.SectorAddress.{SectorAddress}
use Rattle.i8080_words.specs.declared.refusal.Fault.{Fault}
use Rattle.i8080_words.specs.declared.refusal.Fault.TheVariants as faults
use Rattle.event_callbacks.specs.Completions.{is_due}
use Rattle.event_callbacks.specs.Operations.{Operations}
use Rattle.event_callbacks.specs.declared.devices.Done.TheVariants as done
use Rattle.guest_board.specs.Guest as guest
use Rattle.guest_parts.specs.Guest.{Guest}
use Rattle.guest_board.specs.Guest.{altair, take_from}
use Rattle.guest_lockstep.specs.Machine.{Machine}
use Rattle.guest_lockstep.specs.declared.input.Input.{Input}
use Rattle.guest_lockstep.specs.declared.input.Input.TheVariants as input
use Rattle.guest_board.specs.declared.setup.Setup.{Setup}
use Rattle.plain_single.specs.SingleState.{SingleState, guest_with, input_refusal, may_take_key, may_accept}
use Rattle.plain_single.specs.Behind.{devices_of}
use Rattle.guest_lockstep.specs.Reach.{bare}
use Rattle.plain_single.specs.Reaching.{StandsAt, IsRefused, MeetsRefused, Fails, FailsBefore, refusal_at}
use Rattle.plain_single.specs.Serial.{due_unless}
use Rattle.guest_lockstep.specs.declared.timed.Bare.{Bare}
use Rattle.guest_lockstep.specs.declared.timed.Bare.TheVariants.{Rx, Sent, Sector, Written}
use Rattle.guest_lockstep.specs.declared.timed.Timed.{Timed}
use Rattle.plain_single.proofs.Taking.{same_keys, same_accept}

-- ---- an input that is refused

not_due : (b : Bool) (f : Fault) → due_unless b ≡ Some f → (b ≡ false) × (f ≡ faults.NotDue)
not_due true f e = absurd (cc)
not_due false f e = (refl, cc)

where_false : (b : Bool) (u : Guest) → b ≡ false → (if b then Some u else None) ≡ None
where_false b u e = rw e refl

not_sector : (selected due busy : Bool) (f : Fault)
    → (if selected then (if not due then Some faults.NotDue else if busy then Some faults.SectorBusy else None) else Some faults.NotDue) ≡ Some f
    → (selected && (due && not busy)) ≡ false
not_sector true true false f e = absurd (cc)
not_sector true true true f e = refl
not_sector true false busy f e = refl
not_sector false due busy f e = refl

why_sector : (selected due busy on : Bool) (f : Fault) → (selected ≡ true → busy ≡ on)
    → (if selected then (if not due then Some faults.NotDue else if busy then Some faults.SectorBusy else None) else Some faults.NotDue) ≡ Some f
    → f ≡ (if (selected && due) && on then faults.SectorBusy else faults.NotDue)
why_sector true true false on f same e = absurd (cc)
why_sector true true true on f same e =
    subst (λ z. f ≡ (if z then faults.SectorBusy else faults.NotDue)) (same refl) (cc)
why_sector true false busy on f same e = (cc)
why_sector false due busy on f same e = (cc)

on_drive : (selected : Option ℕ) (drive : ℕ) (test : ℕ → Bool)
    → option_map_or (λ s. s == drive) selected false ≡ true → option_map_or test selected false ≡ test drive
on_drive None drive test e = absurd (false≢true e)
on_drive (Some s) drive test e = ap test (eqb-true s drive e)

not_written : (b : Bool) (f : Fault) → (if b then None else Some faults.NotDue) ≡ Some f
    → (b ≡ false) × (f ≡ faults.NotDue)
not_written true f e = absurd (cc)
not_written false f e = (refl, cc)

none_for : (a : SingleState) (o : Operations) (c : List ℕ) (i : Input) (f : Fault)
    → input_refusal a (bare i) ≡ Some f → take_from (guest_with a o c) i ≡ None
none_for a o c (input.Rx port byte) f e =
    where_false (guest.may_take_key (guest_with a o c) port) _
    (same_keys a o c port ∙ (not_due (may_take_key a.behind port) f e).0)
none_for a o c (input.Sent port) f e =
    where_false (is_due (devices_of a.behind) (done.Sent port)) _
    (same_accept a port ∙ (not_due (may_accept a.behind port) f e).0)
none_for a o c (input.Sector drive sector number bytes) f e =
    where_false (guest.may_take_sector (guest_with a o c) drive sector bytes) _
    (not_sector (completion.is_selected a.behind.disk drive) (completion.is_sector_due a.behind.disk sector)
    (completion.is_sector_busy a.behind.disk sector) f e)
none_for a o c (input.Written number) f e =
    where_false (completion.is_outstanding a.behind.disk number) _
    (not_written (completion.is_outstanding a.behind.disk number) f e).0

why_refused : (setup : Setup) (sectors : SectorAddress → List ℕ) (a : SingleState)
    (o : Operations) (c : List ℕ) (b : Bare) (f : Fault)
    → input_refusal a b ≡ Some f → f ≡ refusal_at (altair setup sectors) (guest_with a o c) b
why_refused setup sectors a o c (Rx port byte) f e = (not_due (may_take_key a.behind port) f e).1
why_refused setup sectors a o c (Sent port) f e = (not_due (may_accept a.behind port) f e).1
why_refused setup sectors a o c (Sector drive sector) f e =
    why_sector (completion.is_selected a.behind.disk drive) (completion.is_sector_due a.behind.disk sector)
    (completion.is_sector_busy a.behind.disk sector) (completion.is_busy_on a.behind.disk sector drive) f
    (λ h. on_drive a.behind.disk.selected drive (completion.is_busy_on a.behind.disk sector) h) e
why_refused setup sectors a o c (Written number) f e =
    (not_written (completion.is_outstanding a.behind.disk number) f e).1

refuses : (setup : Setup) (sectors : SectorAddress → List ℕ) (a : SingleState)
    (o : Operations) (c : List ℕ) (b : Bare) (f : Fault)
    → input_refusal a b ≡ Some f → IsRefused (altair setup sectors) (guest_with a o c) b f
refuses setup sectors a o c b f e = record {
  untaken = λ i is. none_for a o c i f (subst (λ x. input_refusal a x ≡ Some f) (sym is) e);
  why = why_refused setup sectors a o c b f e;
}

-- ---- so a run is refused

busy_or_not : (b : Bool) → ((if b then faults.SectorBusy else faults.NotDue) ≡ faults.SectorBusy)
    ⊎ ((if b then faults.SectorBusy else faults.NotDue) ≡ faults.NotDue)
busy_or_not true = inl refl
busy_or_not false = inr refl

two_faults : (M : Machine Guest) (s : Guest) (b : Bare)
    → (refusal_at M s b ≡ faults.SectorBusy) ⊎ (refusal_at M s b ≡ faults.NotDue)
two_faults M s (Rx port byte) = inr refl
two_faults M s (Sent port) = inr refl
two_faults M s (Sector drive sector) =
    busy_or_not (M.ready s (M.address s drive sector) && M.busy s (M.address s drive sector))
two_faults M s (Written number) = inr refl

meets : (M : Machine Guest) (list : List Timed) (count : ℕ) (f : Fault) → (f ≡ faults.SectorBusy) ⊎ (f ≡ faults.NotDue)
    → MeetsRefused M list count f → Fails M list count f
meets M list count f (inl e) x = subst (Fails M list count) (sym e) (subst (MeetsRefused M list count) e x)
meets M list count f (inr e) x = subst (Fails M list count) (sym e) (subst (MeetsRefused M list count) e x)

pub fails_by_input : (setup : Setup) (sectors : SectorAddress → List ℕ) (before after : List Timed) (a : SingleState) (t : Timed) (count : ℕ) (f : Fault)
    → StandsAt (altair setup sectors) before a → a.count ≡ t.count → t.count ≤ count → input_refusal a t.input ≡ Some f
    → Fails (altair setup sectors) (before ++ t ∷ after) count f
fails_by_input setup sectors before after a t count f x at due e =
    let M : Machine Guest = altair setup sectors in
    let s : Guest = x.reach.last in
    let r : IsRefused M s t.input f =
    subst (λ g. IsRefused M g t.input f) x.stands.guest (refuses setup sectors a s.operations s.completed t.input f e) in
    let two : (f ≡ faults.SectorBusy) ⊎ (f ≡ faults.NotDue) =
    subst (λ z. (z ≡ faults.SectorBusy) ⊎ (z ≡ faults.NotDue)) (sym r.why) (two_faults M s t.input) in
    meets M (before ++ t ∷ after) count f two (record {
      before = before;
      input = t;
      after = after;
      split = refl;
      due = due;
      moves = x.moves;
      reach = record { last = s; runs = x.reach.runs; owns = x.reach.owns; list_is = x.reach.list_is; count_is = x.reach.count_is ∙ at };
      refused = r;
    })

pub fails_by_rest : (setup : Setup) (sectors : SectorAddress → List ℕ) (before after : List Timed) (a : SingleState) (t : Timed) (count : ℕ)
    → StandsAt (altair setup sectors) before a → a.count ≡ count → count < t.count
    → Fails (altair setup sectors) (before ++ t ∷ after) count faults.Idle
fails_by_rest setup sectors before after a t count x at late = inr (record {
  before = before;
  input = t;
  after = after;
  split = refl;
  late = late;
  moves = x.moves;
  reach = record { last = x.reach.last; runs = x.reach.runs; owns = x.reach.owns; list_is = x.reach.list_is; count_is = x.reach.count_is ∙ at };
})

-- the trace ends short of the next input, or of the last count
pub fails_before : (M : Machine Guest) (before after : List Timed) (t : Timed) (count : ℕ) (f : Fault)
    → FailsBefore M before (min t.count count) count f → Fails M (before ++ t ∷ after) count f
fails_before M before after t count faults.OutOfMemory x = tt
fails_before M before after t count faults.Spent x =
    record { before = before; rest = t ∷ after; split = refl; ends = x }
fails_before M before after t count faults.LogFull x = absurd x
fails_before M before after t count faults.NotDue x = absurd x
fails_before M before after t count faults.WrongNumber x = absurd x
fails_before M before after t count faults.StaleRead x = absurd x
fails_before M before after t count faults.SectorBusy x = absurd x
fails_before M before after t count faults.WrongRole x = absurd x
fails_before M before after t count faults.WrongGeneration x = absurd x
fails_before M before after t count faults.Malformed x = absurd x
fails_before M before after t count faults.NotWhole x = absurd x
fails_before M before after t count faults.NotCovered x = absurd x
fails_before M before after t count faults.DeviceFault x = absurd x
fails_before M before after t count faults.Lost x = absurd x
fails_before M before after t count faults.Unknown x = absurd x
fails_before M before after t count faults.BadAck x = absurd x
fails_before M before after t count faults.Stalled x = absurd x
fails_before M before after t count faults.Idle x =
    inl (record { before = before; rest = t ∷ after; split = refl; ends = x })
fails_before M before after t count (faults.BadScript line) x = absurd x

pub fails_last : (M : Machine Guest) (list : List Timed) (count : ℕ) (f : Fault)
    → FailsBefore M list count count f → Fails M list count f
fails_last M list count faults.OutOfMemory x = tt
fails_last M list count faults.Spent x = record { before = list; rest = []; split = append-nil list; ends = x }
fails_last M list count faults.LogFull x = absurd x
fails_last M list count faults.NotDue x = absurd x
fails_last M list count faults.WrongNumber x = absurd x
fails_last M list count faults.StaleRead x = absurd x
fails_last M list count faults.SectorBusy x = absurd x
fails_last M list count faults.WrongRole x = absurd x
fails_last M list count faults.WrongGeneration x = absurd x
fails_last M list count faults.Malformed x = absurd x
fails_last M list count faults.NotWhole x = absurd x
fails_last M list count faults.NotCovered x = absurd x
fails_last M list count faults.DeviceFault x = absurd x
fails_last M list count faults.Lost x = absurd x
fails_last M list count faults.Unknown x = absurd x
fails_last M list count faults.BadAck x = absurd x
fails_last M list count faults.Stalled x = absurd x
fails_last M list count faults.Idle x = inl (record { before = list; rest = []; split = append-nil list; ends = x })
fails_last M list count (faults.BadScript line) x = absurd x

-- the value of a refusal that `?` hands on
pub handed_on : {T E : Type 0} (r : Result T E) (P Q : E → Type 0) → IsErrAnd r P → ((e : E) → P e → Q e) → IfErr r Q
handed_on (Ok x) P Q h k = tt
handed_on (Err e) P Q h k = k e h

-- the answer of a call that is refused or not, with what it leaves if it is not
pub taken_or_not : {P Q R S : Type 0} (r : Result (Unit {0}) Fault) (o : Option Fault)
    → r ≡ completion.answered o → OnOk r P → OnOk r Q → OnOk r R → (o ≡ None → P → Q → R → S) → IfOk r (λ _. S)
taken_or_not {P} {Q} {R} {S} r None e p q t k =
    subst (λ z. IfOk z (λ _. S)) (sym e)
    (k refl (subst (λ z. OnOk z P) e p) (subst (λ z. OnOk z Q) e q) (subst (λ z. OnOk z R) e t))
taken_or_not {P} {Q} {R} {S} r (Some f) e p q t k = subst (λ z. IfOk z (λ _. S)) (sym e) tt

pub not_taken : (r : Result (Unit {0}) Fault) (o : Option Fault) (S : Fault → Type 0)
    → r ≡ completion.answered o → ((f : Fault) → o ≡ Some f → S f) → IfErr r S
not_taken r None S e k = subst (λ z. IfErr z S) (sym e) tt
not_taken r (Some f) S e k = subst (λ z. IfErr z S) (sym e) (k f refl)

pub refused_as : {T E : Type 0} (r : Result T E) (P Q : E → Type 0) → IfErr r P → ((e : E) → P e → Q e) → IfErr r Q
refused_as (Ok x) P Q h k = tt
refused_as (Err e) P Q h k = k e h

-- the count that is reached on the way to an input
pub at_input : (a n t last : ℕ) → a ≤ t → a ≤ last → (a ≤ min t last → n ≡ min t last) → t ≤ last → n ≡ t
at_input a n t last h k e due = e (rw (min-eq_left due) h) ∙ min-eq_left due

pub at_last : (a n t last : ℕ) → a ≤ t → a ≤ last → (a ≤ min t last → n ≡ min t last) → last ≤ t → n ≡ last
at_last a n t last h k e late = e (rw (min-eq_right late) k) ∙ min-eq_right late

next_index : (i : ℕ) → i + 1 ≡ suc i
next_index i = omega arith

-- a list at one of its items
split_at : {A : Type 0} (xs : List A) (i : ℕ) (default : A) → i < length xs
    → take i xs ++ slice_index_or xs i default ∷ drop (i + 1) xs ≡ xs
split_at xs i default h =
    let item : slice_index_or xs i default ∷ drop (i + 1) xs ≡ drop i xs =
    ap (λ n. slice_index_or xs i default ∷ drop n xs) (next_index i) ∙ sym (drop-cons xs i default h) in
    ap (λ rest. take i xs ++ rest) item ∙ take-append-drop i xs

pub at_item : (M : Machine Guest) (list : List Timed) (i count : ℕ) (default : Timed) (f : Fault) → i < length list
    → Fails M (take i list ++ slice_index_or list i default ∷ drop (i + 1) list) count f → Fails M list count f
at_item M list i count default f h x = subst (λ l. Fails M l count f) (split_at list i default h) x
