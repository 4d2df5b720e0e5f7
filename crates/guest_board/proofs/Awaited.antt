-- What is outstanding is what the devices await. A byte that is sent and a write that is issued are added to it, a byte
-- that is accepted and a write that is done are removed from it, and no other change of the devices touches it.
use Rattle.std.proofs.Common.{◌≡◌, ◌≢◌, ℕ, zero, suc, ◌+◌, ◌-◌, ◌<◌, ◌≤◌, Bool, true, false, not, ◌==◌, ◌||◌, ◌&&◌, List, [], ◌∷◌, length, filter, None, is_some, refl, sym, ap, subst, ◌∙◌, ⊎_elim, arith}
use Rattle.std.specs.Prelude.{nat_lt, slice_index, slice_index_or, slice_set, IfSome, All}
use Rattle.std.specs.List.{list_any}
use Rattle.std.specs.FinMap as map
use Rattle.std.proofs.lemmas.Bool.Decides.{eqb_tells}
use Rattle.std.proofs.lemmas.List.{get_or-set_same, get_or-set_other, length-set}
use Rattle.std.proofs.lemmas.List.Elements.{All-append, All-cons, All-head, All-tail, All-filter}
use Rattle.std.proofs.lemmas.List.Folds.{list_any-append}
use Rattle.std.proofs.lemmas.Map.Views.{any-filter_same}
use Rattle.std.proofs.Math.Bool.{or-false, or-true}
use Rattle.serial_2sio.specs.Port as serial
use Rattle.disk_dcdd.specs.Drive as drives
use Rattle.guest_board.proofs.Words.{AreAwaited, Devices, IsHeld, Operation, Operations, PORTS, Place, SectorWrite, after_written, at_boot, id_of, is_on_its_way, is_outstanding, operation_at, place_of, port_of, with_disk, with_operation, with_port, without_operation}
use Rattle.event_callbacks.specs.declared.operations.OpId.TheVariants as id
use Rattle.event_callbacks.specs.declared.operations.Operation.TheVariants as operation
use Rattle.event_callbacks.proofs.OperationMap.{operation_at-empty, operation_at-with, operation_at-with_other, operation_at-without, operation_at-without_other}
use Rattle.guest_parts.proofs.Names.{no_operation, other_port, other_byte, other_write, no_write, no_byte, named-with, named-without}
use Rattle.guest_board.proofs.OnTheirWay.{none_on_its_way, newest_is_new, newest, but_the_newest, oldest_leaves, but_the_oldest}

-- ---- the same port with the same number of bytes on their way, the same controller with the same writes

same_unaccepted : (xs : List serial.Port) (p q : ℕ) (x : serial.Port)
    → x.unaccepted ≡ (slice_index_or xs p serial.at_boot).unaccepted
    → (slice_index_or (slice_set xs p x) q serial.at_boot).unaccepted ≡ (slice_index_or xs q serial.at_boot).unaccepted
same_unaccepted [] p q x e = refl
same_unaccepted (y ∷ ys) zero zero x e = e
same_unaccepted (y ∷ ys) zero (suc q) x e = refl
same_unaccepted (y ∷ ys) (suc p) zero x e = refl
same_unaccepted (y ∷ ys) (suc p) (suc q) x e = same_unaccepted ys p q x e

pub awaited-port : (d : Devices) (operations : Operations) (issued : List ℕ) (p : ℕ) (x : serial.Port)
    → AreAwaited d operations issued → x.unaccepted ≡ (port_of d p).unaccepted
    → AreAwaited (with_port d p x) operations issued
awaited-port d operations issued p x h e = record {
  ports = length-set d.ports p x ∙ h.ports;
  numbers = h.numbers;
  sent = λ q. subst (λ u. u ≤ slice_index issued q) (sym (same_unaccepted d.ports p q x e)) (h.sent q);
  bytes = λ q k. h.bytes q k
      ∙ ap (λ u. nat_lt q PORTS && is_on_its_way (slice_index issued q) u k) (sym (same_unaccepted d.ports p q x e));
  writes = h.writes;
  places = h.places;
  last = h.last;
  names = h.names;
}

-- the parts of a controller that say which writes are outstanding, and how many drives there are
pub record IsAlike (a b : drives.Drives) : Type 0 where
  pub outstanding : a.outstanding ≡ b.outstanding
  pub issued : a.issued ≡ b.issued
  pub attached : a.attached ≡ b.attached

pub awaited-disk : (d : Devices) (operations : Operations) (issued : List ℕ) (c : drives.Drives)
    → AreAwaited d operations issued → IsAlike c d.disk → AreAwaited (with_disk d c) operations issued
awaited-disk d operations issued c h alike = record {
  ports = h.ports;
  numbers = h.numbers;
  sent = h.sent;
  bytes = h.bytes;
  writes = λ n. h.writes n ∙ ap (λ (xs : List Place). list_any (λ (place : Place). place.number == n) xs) (sym alike.outstanding);
  places = subst (All (IsHeld operations)) (sym alike.outstanding) h.places;
  last = subst (λ n. All (λ (place : Place). place.number ≤ n) c.outstanding) (sym alike.issued)
      (subst (All (λ (place : Place). place.number ≤ d.disk.issued)) (sym alike.outstanding) h.last);
  names = h.names;
}

-- ---- what holds of each port, when one of them changes

at_port : (d : Devices) (p : ℕ) (x : serial.Port) (Q : ℕ → ℕ → Type 0) → p < length d.ports → Q p x.unaccepted
    → ((q : ℕ) → q ≢ p → Q q (port_of d q).unaccepted) → (q : ℕ) → Q q (port_of (with_port d p x) q).unaccepted
at_port d p x Q there itself others q =
    ⊎_elim
    (λ t. let e : q ≡ p = t.1 in
    subst (λ j. Q j (port_of (with_port d p x) j).unaccepted) (sym e)
    (subst (λ (y : serial.Port). Q p y.unaccepted) (sym (get_or-set_same d.ports p x serial.at_boot there)) itself))
    (λ t. let e : q ≢ p = t.1 in
    subst (λ (y : serial.Port). Q q y.unaccepted) (sym (get_or-set_other d.ports p q x serial.at_boot e)) (others q e))
    (eqb_tells q p)

at_number : (issued : List ℕ) (p n : ℕ) (Q : ℕ → ℕ → Type 0) → p < length issued → Q p n
    → ((q : ℕ) → q ≢ p → Q q (slice_index issued q)) → (q : ℕ) → Q q (slice_index (slice_set issued p n) q)
at_number issued p n Q there itself others q =
    ⊎_elim
    (λ t. let e : q ≡ p = t.1 in
    subst (λ j. Q j (slice_index (slice_set issued p n) j)) (sym e)
    (subst (Q p) (sym (get_or-set_same issued p n 0 there)) itself))
    (λ t. let e : q ≢ p = t.1 in subst (Q q) (sym (get_or-set_other issued p q n 0 e)) (others q e))
    (eqb_tells q p)

at_both : (d : Devices) (issued : List ℕ) (p n : ℕ) (x : serial.Port) (Q : ℕ → ℕ → ℕ → Type 0) → p < length d.ports
    → p < length issued → Q p n x.unaccepted
    → ((q : ℕ) → q ≢ p → Q q (slice_index issued q) (port_of d q).unaccepted)
    → (q : ℕ) → Q q (slice_index (slice_set issued p n) q) (port_of (with_port d p x) q).unaccepted
at_both d issued p n x Q there here itself others q =
    at_port d p x (λ j u. Q j (slice_index (slice_set issued p n) j) u) there
    (subst (λ i. Q p i x.unaccepted) (sym (get_or-set_same issued p n 0 here)) itself)
    (λ j e. subst (λ i. Q j i (port_of d j).unaccepted) (sym (get_or-set_other issued p j n 0 e)) (others j e))
    q

-- ---- a byte is sent

held-kept : (operations later : Operations) (place : Place)
    → operation_at later (id.Write place.number) ≡ operation_at operations (id.Write place.number)
    → IsHeld operations place → IsHeld later place
held-kept operations later place e h = record { write = h.write; held = e ∙ h.held; there = h.there }

pub byte_is_new : (d : Devices) (operations : Operations) (issued : List ℕ) (p : ℕ) → AreAwaited d operations issued
    → operation_at operations (id.Byte p (slice_index issued p + 1)) ≡ None
byte_is_new d operations issued p h =
    no_operation _ (h.bytes p (slice_index issued p + 1)
    ∙ ap (λ b. nat_lt p PORTS && b) (newest_is_new (slice_index issued p) (port_of d p).unaccepted)
    ∙ and_false (nat_lt p PORTS))
  where
    and_false : (b : Bool) → (b && false) ≡ false
    and_false true = refl
    and_false false = refl

pub awaited-sent : (d : Devices) (operations : Operations) (issued : List ℕ) (p byte : ℕ) (x : serial.Port)
    → nat_lt p PORTS ≡ true → p < PORTS → AreAwaited d operations issued → x.unaccepted ≡ (port_of d p).unaccepted + 1
    → AreAwaited (with_port d p x) (with_operation operations (operation.Byte p (slice_index issued p + 1) byte))
    (slice_set issued p (slice_index issued p + 1))
awaited-sent d operations issued p byte x lt l h e =
    let n : ℕ = slice_index issued p + 1 in
    let u : ℕ = (port_of d p).unaccepted in
    let op : Operation = operation.Byte p n byte in
    let later : Operations = with_operation operations op in
    let there : p < length d.ports = subst (λ k. p < k) (sym h.ports) l in
    let here : p < length issued = subst (λ k. p < k) (sym h.numbers) l in
    record {
      ports = length-set d.ports p x ∙ h.ports;
      numbers = length-set issued p n ∙ h.numbers;
      sent = at_both d issued p n x (λ q i v. v ≤ i) there here
          (let s : u ≤ slice_index issued p = h.sent p in subst (λ v. v ≤ n) (sym e) (omega (arith, s))) (λ q d. h.sent q);
      bytes = at_both d issued p n x
          (λ q i v. (k : ℕ) → is_some (operation_at later (id.Byte q k)) ≡ (nat_lt q PORTS && is_on_its_way i v k)) there here
          (λ k. subst (λ v. is_some (operation_at later (id.Byte p k)) ≡ (nat_lt p PORTS && is_on_its_way n v k)) (sym e)
          (at_sent k))
          (λ q differs k. ap is_some (operation_at-with_other operations op (id.Byte q k) (other_port q p k n differs)) ∙ h.bytes q k);
      writes = λ m. ap is_some (operation_at-with_other operations op (id.Write m) (no_byte p n m)) ∙ h.writes m;
      places = λ k place inside. held-kept operations later _
          (operation_at-with_other operations op (id.Write _) (no_byte p n _)) (h.places k place inside);
      last = h.last;
      names = named-with operations op h.names;
    }
  where
    at_sent : (k : ℕ) → is_some (operation_at (with_operation operations (operation.Byte p (slice_index issued p + 1) byte)) (id.Byte p k))
        ≡ (nat_lt p PORTS && is_on_its_way (slice_index issued p + 1) ((port_of d p).unaccepted + 1) k)
    at_sent k =
        ⊎_elim
        (λ t. let f : k ≡ slice_index issued p + 1 = t.1 in
        ap (λ j. is_some (operation_at (with_operation operations (operation.Byte p (slice_index issued p + 1) byte)) (id.Byte p j))) f
        ∙ ap is_some (operation_at-with operations (operation.Byte p (slice_index issued p + 1) byte))
        ∙ sym (ap (λ b. b && is_on_its_way (slice_index issued p + 1) ((port_of d p).unaccepted + 1) k) lt
        ∙ ap (is_on_its_way (slice_index issued p + 1) ((port_of d p).unaccepted + 1)) f
        ∙ newest (slice_index issued p) (port_of d p).unaccepted))
        (λ t. let f : k ≢ slice_index issued p + 1 = t.1 in
        ap is_some (operation_at-with_other operations (operation.Byte p (slice_index issued p + 1) byte) (id.Byte p k) (other_byte p k _ f))
        ∙ h.bytes p k
        ∙ ap (λ b. nat_lt p PORTS && b) (but_the_newest (slice_index issued p) (port_of d p).unaccepted k f))
        (eqb_tells k (slice_index issued p + 1))

-- ---- a byte is accepted

pub awaited-accepted : (d : Devices) (operations : Operations) (issued : List ℕ) (p : ℕ) (x : serial.Port)
    → p < PORTS → AreAwaited d operations issued → 1 ≤ (port_of d p).unaccepted
    → x.unaccepted ≡ (port_of d p).unaccepted - 1
    → AreAwaited (with_port d p x)
    (without_operation operations (id.Byte p (slice_index issued p + 1 - (port_of d p).unaccepted))) issued
awaited-accepted d operations issued p x l h some e =
    let u : ℕ = (port_of d p).unaccepted in
    let n : ℕ = slice_index issued p + 1 - u in
    let later : Operations = without_operation operations (id.Byte p n) in
    let there : p < length d.ports = subst (λ k. p < k) (sym h.ports) l in
    record {
      ports = length-set d.ports p x ∙ h.ports;
      numbers = h.numbers;
      sent = at_port d p x (λ q v. v ≤ slice_index issued q) there
          (let s : u ≤ slice_index issued p = h.sent p in subst (λ v. v ≤ slice_index issued p) (sym e) (omega (arith, s)))
          (λ q differs. h.sent q);
      bytes = at_port d p x
          (λ q v. (k : ℕ) → is_some (operation_at later (id.Byte q k)) ≡ (nat_lt q PORTS && is_on_its_way (slice_index issued q) v k)) there
          (λ k. subst (λ v. is_some (operation_at later (id.Byte p k)) ≡ (nat_lt p PORTS && is_on_its_way (slice_index issued p) v k))
          (sym e) (at_accepted k))
          (λ q differs k. ap is_some (operation_at-without_other operations (id.Byte p n) (id.Byte q k) (other_port q p k n differs)) ∙ h.bytes q k);
      writes = λ m. ap is_some (operation_at-without_other operations (id.Byte p n) (id.Write m) (no_byte p n m)) ∙ h.writes m;
      places = λ k place inside. held-kept operations later _
          (operation_at-without_other operations (id.Byte p n) (id.Write _) (no_byte p n _)) (h.places k place inside);
      last = h.last;
      names = named-without operations (id.Byte p n) h.names;
    }
  where
    and_false : (b : Bool) → false ≡ (b && false)
    and_false true = refl
    and_false false = refl

    at_accepted : (k : ℕ)
        → is_some (operation_at (without_operation operations (id.Byte p (slice_index issued p + 1 - (port_of d p).unaccepted))) (id.Byte p k))
        ≡ (nat_lt p PORTS && is_on_its_way (slice_index issued p) ((port_of d p).unaccepted - 1) k)
    at_accepted k =
        ⊎_elim
        (λ t. let f : k ≡ slice_index issued p + 1 - (port_of d p).unaccepted = t.1 in
        ap (λ j. is_some (operation_at (without_operation operations (id.Byte p (slice_index issued p + 1 - (port_of d p).unaccepted))) (id.Byte p j))) f
        ∙ ap is_some (operation_at-without operations (id.Byte p (slice_index issued p + 1 - (port_of d p).unaccepted)))
        ∙ and_false (nat_lt p PORTS)
        ∙ ap (λ b. nat_lt p PORTS && b) (sym (ap (is_on_its_way (slice_index issued p) ((port_of d p).unaccepted - 1)) f
        ∙ oldest_leaves (slice_index issued p) (port_of d p).unaccepted some (h.sent p))))
        (λ t. let f : k ≢ slice_index issued p + 1 - (port_of d p).unaccepted = t.1 in
        ap is_some (operation_at-without_other operations (id.Byte p (slice_index issued p + 1 - (port_of d p).unaccepted)) (id.Byte p k) (other_byte p k _ f))
        ∙ h.bytes p k
        ∙ ap (λ b. nat_lt p PORTS && b) (but_the_oldest (slice_index issued p) (port_of d p).unaccepted k some (h.sent p) f))
        (eqb_tells k (slice_index issued p + 1 - (port_of d p).unaccepted))

-- ---- a write is issued

pub none_past : (xs : List Place) (n m : ℕ) → All (λ (place : Place). place.number ≤ m) xs → m < n
    → list_any (λ (place : Place). place.number == n) xs ≡ false
none_past [] n m all past = refl
none_past (x ∷ xs) n m all past =
    let first : x.number ≤ m = All-head (λ (place : Place). place.number ≤ m) x xs all in
    ap (λ b. b || list_any (λ (place : Place). place.number == n) xs)
    (⊎_elim (λ t. let e : x.number ≡ n = t.1 in absurd (omega (arith, e, first, past))) (λ t. t.0) (eqb_tells x.number n))
    ∙ none_past xs n m (All-tail (λ (place : Place). place.number ≤ m) x xs all) past

pub write_is_new : (d : Devices) (operations : Operations) (issued : List ℕ) (n : ℕ) → AreAwaited d operations issued
    → d.disk.issued < n → operation_at operations (id.Write n) ≡ None
write_is_new d operations issued n h past =
    no_operation _ (h.writes n ∙ none_past d.disk.outstanding n d.disk.issued h.last past)

pub awaited-issued : (d : Devices) (operations : Operations) (issued : List ℕ) (w : SectorWrite)
    → AreAwaited d operations issued → w.number ≡ d.disk.issued + 1
    → AreAwaited (with_disk d (drives.after_issue d.disk w)) (with_operation operations (operation.Write w)) issued
awaited-issued d operations issued w h e =
    let op : Operation = operation.Write w in
    let later : Operations = with_operation operations op in
    let old : List Place = d.disk.outstanding in
    record {
      ports = h.ports;
      numbers = h.numbers;
      sent = h.sent;
      bytes = λ q k. ap is_some (operation_at-with_other operations op (id.Byte q k) (no_write q k _)) ∙ h.bytes q k;
      writes = λ n.
          ⊎_elim
          (λ t. let f : w.number ≡ n = t.1 in
          ap (λ j. is_some (operation_at later (id.Write j))) (sym f)
          ∙ ap is_some (operation_at-with operations op)
          ∙ sym (list_any-append (λ (place : Place). place.number == n) old (place_of w ∷ [])
          ∙ ap (λ b. list_any (λ (place : Place). place.number == n) old || (b || false)) t.0 ∙ or-true _))
          (λ t. let f : w.number ≢ n = t.1 in
          ap is_some (operation_at-with_other operations op (id.Write n) (other_write n w.number (λ g. f (sym g))))
          ∙ h.writes n
          ∙ sym (list_any-append (λ (place : Place). place.number == n) old (place_of w ∷ [])
          ∙ ap (λ b. list_any (λ (place : Place). place.number == n) old || (b || false)) t.0 ∙ or-false _))
          (eqb_tells w.number n);
      places = All-append (IsHeld later) old (place_of w ∷ [])
          (λ k place inside.
          let below : (slice_index_or old k place).number ≤ d.disk.issued = h.last k place inside in
          held-kept operations later (slice_index_or old k place)
          (operation_at-with_other operations op (id.Write (slice_index_or old k place).number)
          (other_write (slice_index_or old k place).number w.number (λ g. absurd (omega (arith, below, e, g)))))
          (h.places k place inside))
          (All-cons (IsHeld later) (place_of w) [] (record { write = w; held = operation_at-with operations op; there = refl })
          (λ k place inside. absurd (omega (arith, inside))));
      last = All-append (λ (place : Place). place.number ≤ w.number) old (place_of w ∷ [])
          (λ k place inside. let below : (slice_index_or old k place).number ≤ d.disk.issued = h.last k place inside in omega (arith, below, e))
          (All-cons (λ (place : Place). place.number ≤ w.number) (place_of w) [] (omega arith)
          (λ k place inside. absurd (omega (arith, inside))));
      names = named-with operations op h.names;
    }

-- ---- a write is done

places-done : (operations later : Operations) (n : ℕ) (xs : List Place) → All (IsHeld operations) xs
    → ((m : ℕ) → m ≢ n → operation_at later (id.Write m) ≡ operation_at operations (id.Write m))
    → All (IsHeld later) (filter (λ (place : Place). not (place.number == n)) xs)
places-done operations later n [] all same = λ k place inside. absurd (omega (arith, inside))
places-done operations later n (x ∷ xs) all same =
    let rest : All (IsHeld later) (filter (λ (place : Place). not (place.number == n)) xs) =
    places-done operations later n xs (All-tail (IsHeld operations) x xs all) same in
    ⊎_elim
    (λ t. rw t.0 rest)
    (λ t. let f : x.number ≢ n = t.1 in
    rw t.0 (All-cons (IsHeld later) x (filter (λ (place : Place). not (place.number == n)) xs)
    (held-kept operations later x (same x.number f) (All-head (IsHeld operations) x xs all)) rest))
    (eqb_tells x.number n)

pub any_gone : (xs : List Place) (n : ℕ)
    → list_any (λ (place : Place). place.number == n) (filter (λ (place : Place). not (place.number == n)) xs) ≡ false
any_gone xs n =
    any-filter_same (λ (place : Place). place.number == n) (λ (place : Place). not (place.number == n)) false
    (λ place e. ap not e) xs

any_kept : (xs : List Place) (n m : ℕ) → m ≢ n
    → list_any (λ (place : Place). place.number == m) (filter (λ (place : Place). not (place.number == n)) xs)
    ≡ list_any (λ (place : Place). place.number == m) xs
any_kept xs n m differs =
    any-filter_same (λ (place : Place). place.number == m) (λ (place : Place). not (place.number == n)) true
    (λ place e. ⊎_elim
    (λ t. ⊎_elim (λ u. absurd (differs (sym u.1 ∙ t.1)))
    (λ u. let clash : (place.number == m) ≡ false = u.0 in cc) (eqb_tells place.number m))
    (λ t. ap not t.0) (eqb_tells place.number n)) xs

pub awaited-written : (d : Devices) (operations : Operations) (issued : List ℕ) (n : ℕ) → AreAwaited d operations issued
    → AreAwaited (with_disk d (after_written d.disk n)) (without_operation operations (id.Write n)) issued
awaited-written d operations issued n h = record {
  ports = h.ports;
  numbers = h.numbers;
  sent = h.sent;
  bytes = λ q k. ap is_some (operation_at-without_other operations (id.Write n) (id.Byte q k) (no_write q k n)) ∙ h.bytes q k;
  writes = λ m.
      ⊎_elim
      (λ t. let f : m ≡ n = t.1 in
      ap (λ j. is_some (operation_at (without_operation operations (id.Write n)) (id.Write j))) f
      ∙ ap is_some (operation_at-without operations (id.Write n))
      ∙ sym (ap (is_outstanding (after_written d.disk n)) f ∙ any_gone d.disk.outstanding n))
      (λ t. let f : m ≢ n = t.1 in
      ap is_some (operation_at-without_other operations (id.Write n) (id.Write m) (other_write m n f))
      ∙ h.writes m ∙ sym (any_kept d.disk.outstanding n m f))
      (eqb_tells m n);
  places = places-done operations (without_operation operations (id.Write n)) n d.disk.outstanding h.places
      (λ m f. operation_at-without_other operations (id.Write n) (id.Write m) (other_write m n f));
  last = All-filter (λ (place : Place). not (place.number == n)) (λ (place : Place). place.number ≤ d.disk.issued) d.disk.outstanding h.last;
  names = named-without operations (id.Write n) h.names;
}

-- ---- at boot

boot_bytes : (p k : ℕ) → false ≡ (nat_lt p PORTS && is_on_its_way (slice_index (0 ∷ 0 ∷ []) p) (slice_index_or (serial.at_boot ∷ serial.at_boot ∷ []) p serial.at_boot).unaccepted k)
boot_bytes zero k = sym (none_on_its_way k)
boot_bytes (suc zero) k = sym (none_on_its_way k)
boot_bytes (suc (suc p)) k = sym (ap (λ b. nat_lt (suc (suc p)) PORTS && b) (none_on_its_way k) ∙ and_false (nat_lt (suc (suc p)) PORTS))
  where
    and_false : (b : Bool) → (b && false) ≡ false
    and_false true = refl
    and_false false = refl

boot_sent : (p : ℕ) → (slice_index_or (serial.at_boot ∷ serial.at_boot ∷ []) p serial.at_boot).unaccepted ≤ slice_index (0 ∷ 0 ∷ []) p
boot_sent zero = omega arith
boot_sent (suc zero) = omega arith
boot_sent (suc (suc p)) = omega arith

pub awaited-boot : (attached : ℕ) → AreAwaited (at_boot attached) map.empty (0 ∷ 0 ∷ [])
awaited-boot attached = record {
  ports = refl;
  numbers = refl;
  sent = boot_sent;
  bytes = λ p k. ap is_some (operation_at-empty (id.Byte p k)) ∙ boot_bytes p k;
  writes = λ n. ap is_some (operation_at-empty (id.Write n));
  places = λ k place inside. absurd (omega (arith, inside));
  last = λ k place inside. absurd (omega (arith, inside));
  names = λ name. subst (λ o. IfSome o (λ op. id_of op ≡ name)) (sym (operation_at-empty name)) tt;
}
