-- The writes of a trace after an input. An input completes at most one write, which is then the last completed one of
-- its sector; all that is known of the other writes stays. So it holds after every trace from boot.
use Rattle.std.proofs.Common.{◌≡◌, ℕ, ◌<◌, true, false, cond, List, [], ◌∷◌, ◌++◌, length, Option, Some, None, ◌⊎◌, inl, inr, refl, sym, ap, ◌∙◌, subst, arith}
use Rattle.std.specs.Prelude.{slice_set, ◌&&◌, not, ◌==◌}
use Rattle.std.specs.List.{filter}
use Rattle.std.specs.Option.{option_map_or}
use Rattle.std.proofs.lemmas.Bool.{cases_Bool, and_parts, not-true, both_ways, eqb-true, eq-eqb, ne_eqb}
use Rattle.std.proofs.lemmas.Bool.Decides.{eqb_tells}
use Rattle.std.proofs.lemmas.List.{length-set}
use Rattle.std.proofs.lemmas.Option.{cond_some}
use Rattle.disk_dcdd.proofs.Addresses.{same_address-is, same_address-refl}
use Rattle.altair_laws.proofs.Words.{Among, Guest, Input, IsIssued, Move, Operations, Place, Reaches, Rx, Sector, SectorAddress, SectorWrite, Sent, Setup, Take, Write, Written, address_of, after_rx, after_sector, after_sent, after_written, altair, image_from, index_of, is_outstanding, is_sector_busy, is_sector_due, is_selected, oldest_byte, operation_at, operation_at-without_other, operations, place_of, same_address, take_from, with_completed, without_operation}
use Rattle.event_callbacks.specs.declared.operations.OpId.TheVariants as id
use Rattle.guest_lockstep.specs.declared.timed.Bare.TheVariants as bare
use Rattle.altair_laws.proofs.Moves.{Tells, from_boot, operations-left}
use Rattle.altair_laws.proofs.Operations.{AreGiven, given-take, given-gone, without-cases}
use Rattle.altair_laws.proofs.Drives.{Stands}
use Rattle.altair_laws.proofs.Sectors.{stands-sector, stands-written}
use Rattle.altair_laws.proofs.Steps.{steps_from}
use Rattle.altair_laws.proofs.Images.{Apart, number_of, with_number, number-set, among-filter, filter-keeps, filter-holds, any-find, writes_in, writes-from, writes-to, image_after, image-take, bytes-are, done-left, done-last}
use Rattle.altair_laws.proofs.Writes.{writes-boot, Has, WasIssued, IsSettled, OwnIs, Writes, given, known-place, single, alike, operations_take, name_number, byte_name}
use Rattle.altair_laws.proofs.Issues.{same_operations, writes-step}

-- ---- a write is completed

abbrev IsSameOrNot : SectorAddress → SectorAddress → Type 0
IsSameOrNot a b = (same_address a b ≡ true) ⊎ (same_address a b ≡ false)

length-with_number : (completed : List ℕ) (w : SectorWrite) → length (with_number completed w) ≡ length completed
length-with_number completed w = go (index_of (address_of w))
  where
    go : (o : Option ℕ)
        → length (option_map_or (λ index. slice_set completed index w.number) o completed) ≡ length completed
    go None = refl
    go (Some index) = length-set completed index w.number

writes-completed : Apart → (start : SectorAddress → List ℕ) (moves : List Move) (g : Guest) (n : ℕ) (w : SectorWrite)
    → Writes start moves g → Has g.operations w → w.number ≡ n
    → Writes start (moves ++ Take (Written n) ∷ []) (after_written g n)
writes-completed apart start moves g n w d pends is_n = record {
  are_given = given-gone moves (Written n) g.operations (id.Write n) d.are_given;
  stands = stands-written g.devices.disk n d.stands;
  table = ap length completed_is ∙ length-with_number g.completed w ∙ d.table;
  known = λ v a. d.known v (back v a);
  once = λ x y a b e. d.once x y (back x a) (back y b) e;
  placed = λ v a. filter-keeps (λ p. not (p.number == n)) (place_of v) g.devices.disk.outstanding
      (d.placed v (rest v a)) (ap not (unequal v a));
  from = from_at;
  settled = λ v a. settled_at v (eqb_tells v.number n) (cases_Bool (same_address (address_of w) (address_of v)))
      (d.settled v (back v a)) (back v a);
  later = λ v a. later_at v a (cases_Bool (same_address (address_of w) (address_of v)));
  own = λ q. own_at q (cases_Bool (same_address (address_of w) q)) (d.own q);
}
  where
    now : List ℕ
    now = with_completed g.completed (operation_at g.operations (id.Write n))

    left : Operations
    left = without_operation g.operations (id.Write n)

    completed_is : now ≡ with_number g.completed w
    completed_is =
        ap (with_completed g.completed)
        (subst (λ m. operation_at g.operations (id.Write m) ≡ Some (Write w)) is_n pends)

    place : IsIssued g.devices.disk.attached g.devices.disk.issued (place_of w)
    place = known-place start moves g d w pends

    number_is : (q : SectorAddress) → number_of now q ≡ cond (same_address (address_of w) q) n (number_of g.completed q)
    number_is q =
        ap (λ xs. number_of xs q) completed_is
        ∙ number-set apart g.completed g.devices.disk.attached w d.table place.drive place.track place.sector q
        ∙ ap (λ m. cond (same_address (address_of w) q) m (number_of g.completed q)) is_n

    number_there : (q : SectorAddress) → same_address (address_of w) q ≡ true → number_of now q ≡ n
    number_there q k = number_is q ∙ ap (λ b. cond b n (number_of g.completed q)) k

    number_else : (q : SectorAddress) → same_address (address_of w) q ≡ false
        → number_of now q ≡ number_of g.completed q
    number_else q k = number_is q ∙ ap (λ b. cond b n (number_of g.completed q)) k

    back : (v : SectorWrite) → WasIssued v (moves ++ Take (Written n) ∷ []) → WasIssued v moves
    back v a = same_operations v (operations (moves ++ Take (Written n) ∷ [])) (operations moves)
        (operations_take moves (Written n)) a

    there : (v : SectorWrite) → WasIssued v moves → WasIssued v (moves ++ Take (Written n) ∷ [])
    there v a = operations-left (Write v) moves (Take (Written n) ∷ []) a

    rest : (v : SectorWrite) → Has left v → Has g.operations v
    rest v a = (without-cases g.operations (id.Write n) (id.Write v.number) (Write v) a).0

    unequal : (v : SectorWrite) → Has left v → (v.number == n) ≡ false
    unequal v a =
        ne_eqb v.number n
        (λ e. (without-cases g.operations (id.Write n) (id.Write v.number) (Write v) a).1 (ap (λ m. id.Write m) e))

    keep : (v : SectorWrite) → Has g.operations v → (v.number == n) ≡ false → Has left v
    keep v a f =
        operation_at-without_other g.operations (id.Write n) (id.Write v.number)
        (λ e. both_ways (v.number == n) f (eq-eqb v.number n (name_number v.number n e))) ∙ a

    only : (v : SectorWrite) → WasIssued v moves → v.number ≡ n → v ≡ w
    only v a e = d.once v w a (given start moves g d w pends) (e ∙ sym is_n)

    from_at : (x : Place) → Among x (filter (λ p. not (p.number == n)) g.devices.disk.outstanding)
        → (v : SectorWrite) × Has left v × (place_of v ≡ x)
    from_at x a =
        let r = d.from x (among-filter (λ p. not (p.number == n)) x g.devices.disk.outstanding a) in
        let t : not (r.0.number == n) ≡ true = ap (λ (p : Place). not (p.number == n)) r.2
        ∙ filter-holds (λ p. not (p.number == n)) x g.devices.disk.outstanding a in
        (r.0, keep r.0 r.1 (not-true (r.0.number == n) t), r.2)

    settled_at : (v : SectorWrite) → Tells v.number n
        → IsSameOrNot (address_of w) (address_of v)
        → IsSettled g.completed g.operations v → WasIssued v moves
        → IsSettled now left v
    settled_at v (inl t) k s a =
        let e = number_there (address_of v)
        (same_address-refl (address_of w) (address_of v) (ap address_of (sym (only v a t.1)))) in
        let z = t.1 in inl (omega arith)
    settled_at v (inr t) k (inr s) a = inr (keep v s t.0)
    settled_at v (inr t) (inl k) (inl s) a =
        let e = number_there (address_of v) k in
        let z = ap (number_of g.completed) (same_address-is (address_of w) (address_of v) k) in
        let l = d.later w pends in let i = is_n in inl (omega arith)
    settled_at v (inr t) (inr k) (inl s) a = let e = number_else (address_of v) k in inl (omega arith)

    later_at : (v : SectorWrite) → Has left v
        → IsSameOrNot (address_of w) (address_of v)
        → number_of now (address_of v) < v.number
    later_at v a (inl k) =
        let e : w ≡ v = single start moves g d w v pends (rest v a) (same_address-is (address_of w) (address_of v) k) in
        absurd (both_ways (v.number == n) (unequal v a) (eq-eqb v.number n (ap (λ (x : SectorWrite). x.number) (sym e)
        ∙ is_n)))
    later_at v a (inr k) = let e = number_else (address_of v) k in let l = d.later v (rest v a) in omega arith

    image_is : (q : SectorAddress)
        → image_from [] q (start q) (moves ++ Take (Written n) ∷ [])
        ≡ cond (same_address (address_of w) q) w.bytes (image_from [] q (start q) moves)
    image_is q =
        image-take [] q (start q) moves (Written n)
        ∙ bytes-are (writes_in [] moves) n q (image_from [] q (start q) moves) w
        (writes-to [] moves w (inr (given start moves g d w pends))) is_n
        (λ v a e. only v (in_operations v (writes-from [] moves v a)) e)
      where
        in_operations : (v : SectorWrite) → Among v [] ⊎ WasIssued v moves → WasIssued v moves
        in_operations v (inl a) = absurd a
        in_operations v (inr a) = a

    own_at : (q : SectorAddress) → IsSameOrNot (address_of w) q → OwnIs (start q) moves g.completed q
        → OwnIs (start q) (moves ++ Take (Written n) ∷ []) now q
    own_at q (inl k) h =
        inr (
          w,
          there w (given start moves g d w pends),
          same_address-is (address_of w) q k,
          is_n ∙ sym (number_there q k),
          sym (image_is q ∙ ap (λ c. cond c w.bytes (image_from [] q (start q) moves)) k),
          done-last (bare.Written w.number) moves (Written n) (ap (λ m. bare.Written m) is_n),
        )
    own_at q (inr k) (inl h) =
        inl (number_else q k ∙ h.0, image_is q ∙ ap (λ c. cond c w.bytes (image_from [] q (start q) moves)) k ∙ h.1)
    own_at q (inr k) (inr h) =
        inr (
          h.0,
          there h.0 h.1,
          h.2,
          h.3 ∙ sym (number_else q k),
          h.4 ∙ sym (image_is q ∙ ap (λ c. cond c w.bytes (image_from [] q (start q) moves)) k),
          done-left (bare.Written h.0.number) moves (Take (Written n) ∷ []) h.5,
        )

-- ---- inputs

-- an input that completes no write
writes-still : (start : SectorAddress → List ℕ) (moves : List Move) (g u : Guest) (i : Input) → Writes start moves g
    → AreGiven (moves ++ Take i ∷ []) u.operations
    → Stands u.devices.disk → u.devices.disk.attached ≡ g.devices.disk.attached
    → u.devices.disk.issued ≡ g.devices.disk.issued
    → u.devices.disk.outstanding ≡ g.devices.disk.outstanding → u.completed ≡ g.completed
    → ((w : SectorWrite) → Has g.operations w → Has u.operations w)
    → ((w : SectorWrite) → Has u.operations w → Has g.operations w)
    → ((q : SectorAddress)
    → image_after (writes_in [] moves) i q (image_from [] q (start q) moves) ≡ image_from [] q (start q) moves)
    → Writes start (moves ++ Take i ∷ []) u
writes-still start moves g u i d are_given stands attached_is issued outstanding completed has had e =
    alike start moves (moves ++ Take i ∷ []) g u d (record {
      are_given = are_given;
      stands = stands;
      attached_is = attached_is;
      issued = issued;
      outstanding = outstanding;
      completed = completed;
      there = λ w h. operations-left (Write w) moves (Take i ∷ []) h;
      back = λ w h. same_operations w _ (operations moves) (operations_take moves i) h;
      has = has;
      had = had;
      image = λ q. image-take [] q (start q) moves i ∙ e q;
      done = λ b h. done-left b moves (Take i ∷ []) h;
    })

pub writes-take : Apart → (start : SectorAddress → List ℕ) (moves : List Move) (g u : Guest) (i : Input)
    → Writes start moves g → take_from g i ≡ Some u → Writes start (moves ++ Take i ∷ []) u
writes-take apart start moves g u (Rx port byte) d h =
    subst (Writes start (moves ++ Take (Rx port byte) ∷ [])) (cond_some _ _ u h).1
    (writes-still start moves g (after_rx g port byte) (Rx port byte) d
    (given-take moves (Rx port byte) g.operations d.are_given) d.stands refl refl refl refl (λ w a. a) (λ w a. a)
    (λ q. refl))
writes-take apart start moves g u (Sent port) d h =
    subst (Writes start (moves ++ Take (Sent port) ∷ [])) (cond_some _ _ u h).1
    (writes-still start moves g (after_sent g port) (Sent port) d
    (given-gone moves (Sent port) g.operations
    (id.Byte port (oldest_byte g port)) d.are_given) d.stands refl refl refl refl
    (λ w a. operation_at-without_other g.operations (id.Byte port (oldest_byte g port)) (id.Write w.number)
    (λ e. byte_name w.number port (oldest_byte g port) e) ∙ a)
    (λ w a. (without-cases g.operations (id.Byte port (oldest_byte g port)) (id.Write w.number) (Write w) a).0)
    (λ q. refl))
writes-take apart start moves g u (Sector drive sector number bytes) d h =
    let c = g.devices.disk in
    let t = cond_some (is_selected c drive && (is_sector_due c sector && not (is_sector_busy c sector)))
    (after_sector g sector bytes) u h in
    let a = and_parts (is_selected c drive) (is_sector_due c sector && not (is_sector_busy c sector)) t.0 in
    let b = and_parts (is_sector_due c sector) (not (is_sector_busy c sector)) a.1 in
    subst (Writes start (moves ++ Take (Sector drive sector number bytes) ∷ [])) t.1
    (writes-still start moves g (after_sector g sector bytes) (Sector drive sector number bytes) d
    (given-take moves (Sector drive sector number bytes) g.operations d.are_given)
    (stands-sector c sector bytes b.0 (not-true (is_sector_busy c sector) b.1) d.stands) refl refl refl refl (λ w x. x)
    (λ w x. x) (λ q. refl))
writes-take apart start moves g u (Written number) d h =
    let c = g.devices.disk in
    let t = cond_some (is_outstanding c number) (after_written g number) u h in
    let f = any-find (λ (p : Place). p.number == number) c.outstanding t.0 in
    let r = d.from f.0 f.1 in
    subst (Writes start (moves ++ Take (Written number) ∷ [])) t.1
    (writes-completed apart start moves g number r.0 d r.1 (ap (λ (p : Place). p.number) r.2
    ∙ eqb-true f.0.number number f.2))

-- ---- every trace from boot

pub writes_after : Apart → (setup : Setup) (sectors : SectorAddress → List ℕ) (moves : List Move) (g : Guest)
    → Reaches (altair setup sectors) moves g → Writes sectors moves g
writes_after apart setup sectors =
    from_boot (altair setup sectors) (Writes sectors) (writes-boot setup sectors) (record {
      steps = λ moves g u gives d h. writes-step sectors moves g u gives d (steps_from g u gives h);
      takes = λ moves g u i d h. writes-take apart sectors moves g u i d h;
    })
