-- The devices of the first part: what is written is read again, and what is read is written just so.
use Rattle.std.proofs.Common.{◌≡◌, ℕ, zero, suc, ◌<◌, ◌≤◌, ◌^◌, Bool, true, false, not, cond, List, [], ◌∷◌, length, map, replicate, Option, Some, None, refl, sym, ap, ◌∙◌, arith}
use Rattle.std.specs.Prelude.{IfSome, ◌==◌, ◌&&◌, ◌||◌, is_none, slice_index}
use Rattle.std.specs.List.{zip}
use Rattle.std.proofs.lemmas.Bool.{eqb-true, ltb-true, and_parts}
use Rattle.serial_2sio.specs.Port as serial
use Rattle.serial_2sio.specs.declared.acia.Receiver.{Receiver}
use Rattle.serial_2sio.specs.declared.acia.Receiver.TheVariants.{Empty, Full, FullLost, Over}
use Rattle.clone_state.proofs.Words.{Again, Codec, CurrentImage, CurrentSector, Drive, PortImage, PortImage01, SectorWrite, are_zeros, both, bytes, code_of_receiver, current, current_of, drive_with, drives, has_byte, has_window, is_current, is_receiver, is_window, maybe, no_bytes, number, one, only, port, port_01, receiver, receiver_of, shown_current, times, truth, write}
use Rattle.clone_state.proofs.Codecs.{both_again, by_again, code_again, only_again, one_again, bytes_again, numbers_again, times_again}
use Rattle.clone_state.proofs.Spellings.{Spells, one_spells, bytes_spells, number_spells, both_spells, by_spells, only_spells, times_spells}
use Rattle.clone_state.proofs.Lists.{map_length, zip_length}
use Rattle.clone_state.proofs.Values.{Anything, truth_again, truth_spells, maybe_again, maybe_spells}

-- ---- a port

pub receiver_again : (r : Receiver) → Again receiver r
unfolding receiver
receiver_again r =
    code_again is_receiver code_of_receiver receiver_of back r
  where
    back : (r : Receiver) → (is_receiver (code_of_receiver r) ≡ true) × (receiver_of (code_of_receiver r) ≡ r)
    back Empty = (refl, refl)
    back Full = (refl, refl)
    back FullLost = (refl, refl)
    back Over = (refl, refl)

pub receiver_spells : Spells receiver Anything
unfolding receiver
receiver_spells =
    by_spells (only one is_receiver) code_of_receiver receiver_of (only_spells one is_receiver one_spells)
    (λ n h. back n (ltb-true n 4 h.1)) (λ n h. tt)
  where
    back : (n : ℕ) → n < 4 → code_of_receiver (receiver_of n) ≡ n
    back zero h = refl
    back (suc zero) h = refl
    back (suc (suc zero)) h = refl
    back (suc (suc (suc zero))) h = refl
    back (suc (suc (suc (suc n)))) h = absurd (omega (arith, h))

pub port_again : (p : PortImage) → length p.1 ≡ serial.window → has_window p ≡ true → Again port p
unfolding port
port_again p long h =
    only_again _ has_window p
    (by_again _ _ _ p
    (both_again one _ _ _ (one_again _) (both_again one _ _ _ (one_again _)
    (both_again receiver _ _ _ (receiver_again p.0.receiver)
    (both_again one (bytes serial.window) _ _ (one_again _) (bytes_again serial.window p.1 long)))))
    refl) h

pub port_spells : Spells port (λ p. (length p.1 ≡ serial.window) × (has_window p ≡ true))
unfolding port
port_spells =
    only_spells _ has_window
    (by_spells _ _ _
    (both_spells one _ one_spells (both_spells one _ one_spells (both_spells receiver _ receiver_spells
    (both_spells one (bytes serial.window) one_spells (bytes_spells serial.window)))))
    (λ r h. refl) (λ r h. h.1.1.1.1))

-- at most one byte of the port is unaccepted
abbrev pub HasOne : PortImage → Type 0
HasOne p = p.0.unaccepted ≤ 1

zeros_are : (n : ℕ) (xs : List ℕ) → length xs ≡ n → are_zeros xs ≡ true → xs ≡ replicate n 0
zeros_are zero [] e h = refl
zeros_are zero (x ∷ xs) e h = absurd (omega (arith, e))
zeros_are (suc n) [] e h = absurd (omega (arith, e))
zeros_are (suc n) (x ∷ xs) e h =
    let two = and_parts (x == 0) (are_zeros xs) h in
    ap (λ y. y ∷ xs) (eqb-true x 0 two.0) ∙ ap (λ ys. 0 ∷ ys) (zeros_are n xs (omega (arith, e)) two.1)

pub port_01_again : (p : PortImage) → length p.1 ≡ serial.window → has_window p ≡ true → HasOne p → Again port_01 p
unfolding port_01
port_01_again p long h few =
    by_again _ _ _ p
    (only_again _ has_byte _
    (both_again one _ _ _ (one_again _) (both_again one _ _ _ (one_again _)
    (both_again receiver _ _ _ (receiver_again p.0.receiver)
    (both_again truth one _ _ (truth_again (p.0.unaccepted == 0)) (one_again _)))))
    (tested p.0.unaccepted p.1 long h few))
    (ap (λ u. (record p.0 { unaccepted = u }, slice_index p.1 0 ∷ replicate 15 0)) (counted p.0.unaccepted few)
    ∙ ap (λ xs. (p.0, xs)) (one_byte p.0.unaccepted p.1 long h few))
  where
    tested : (u : ℕ) (xs : List ℕ) → length xs ≡ 16 → is_window u xs ≡ true → u ≤ 1
        → (not (u == 0) || slice_index xs 0 == 0) ≡ true
    tested u [] long h few = absurd (omega (arith, long))
    tested zero (x ∷ xs) long h few = (and_parts (x == 0) (are_zeros xs) h).0
    tested (suc zero) (x ∷ xs) long h few = refl
    tested (suc (suc u)) (x ∷ xs) long h few = absurd (omega (arith, few))

    counted : (u : ℕ) → u ≤ 1 → cond (u == 0) 0 1 ≡ u
    counted zero few = refl
    counted (suc zero) few = refl
    counted (suc (suc u)) few = absurd (omega (arith, few))

    one_byte : (u : ℕ) (xs : List ℕ) → length xs ≡ 16 → is_window u xs ≡ true → u ≤ 1
        → slice_index xs 0 ∷ replicate 15 0 ≡ xs
    one_byte u [] long h few = absurd (omega (arith, long))
    one_byte zero (x ∷ xs) long h few =
        ap (λ ys. x ∷ ys) (sym (zeros_are 15 xs (omega (arith, long)) (and_parts (x == 0) (are_zeros xs) h).1))
    one_byte (suc zero) (x ∷ xs) long h few = ap (λ ys. x ∷ ys) (sym (zeros_are 15 xs (omega (arith, long)) h))
    one_byte (suc (suc u)) (x ∷ xs) long h few = absurd (omega (arith, few))

pub port_01_spells : Spells port_01 (λ p. (length p.1 ≡ serial.window) × (has_window p ≡ true))
unfolding port_01
port_01_spells =
    by_spells _ _ _
    (only_spells _ has_byte (both_spells one _ one_spells (both_spells one _ one_spells
    (both_spells receiver _ receiver_spells (both_spells truth one truth_spells one_spells)))))
    (λ r h. back r.0 r.1.0 r.1.1.0 r.1.1.1.0 r.1.1.1.1) (λ r h. (refl, window r.1.1.1.0 r.1.1.1.1 h.1))
  where
    back : (control byte_in : ℕ) (r : Receiver) (tdre : Bool) (byte : ℕ)
        → ◌≡◌ {A = PortImage01} (control, (byte_in, (r, ((cond tdre 0 1) == 0, byte))))
        (control, (byte_in, (r, (tdre, byte))))
    back control byte_in r true byte = refl
    back control byte_in r false byte = refl

    window : (tdre : Bool) (byte : ℕ) → (not tdre || byte == 0) ≡ true
        → has_window (serial.port_with 0 0 Empty (cond tdre 0 1), byte ∷ replicate 15 0) ≡ true
    window true byte h = ap (λ b. b && true) h
    window false byte h = refl

-- ---- the controller

are_zeros_of : (n : ℕ) → are_zeros (replicate n 0) ≡ true
are_zeros_of zero = refl
are_zeros_of (suc n) = are_zeros_of n

pub no_bytes_length : length no_bytes ≡ 137
unfolding no_bytes
no_bytes_length = refl

no_bytes_zeros : are_zeros no_bytes ≡ true
unfolding no_bytes
no_bytes_zeros = are_zeros_of 137

no_bytes_are : (xs : List ℕ) → length xs ≡ 137 → are_zeros xs ≡ true → no_bytes ≡ xs
unfolding no_bytes
no_bytes_are xs long h = sym (zeros_are 137 xs long h)

-- a sector under the head with all its bytes
abbrev pub IsCurrent : Option CurrentSector → Type 0
IsCurrent o = IfSome o (λ s. (length s.bytes ≡ 137) × IfSome s.filled (λ n. n < 255))

pub current_again : (o : Option CurrentSector) → IsCurrent o → Again current o
unfolding current
current_again o h =
    by_again _ shown_current current_of o
    (only_again _ is_current (shown_current o) (shown o h) (canonical o)) (back o)
  where
    all : Codec CurrentImage
    all = both truth (both one (both truth (both one (both maybe (bytes 137)))))

    shown : (o : Option CurrentSector) → IsCurrent o → Again all (shown_current o)
    shown None h =
        both_again truth _ _ _ (truth_again _) (both_again one _ _ _ (one_again _) (both_again truth _ _ _ (truth_again _)
        (both_again one _ _ _ (one_again _) (both_again maybe (bytes 137) _ _ (maybe_again None tt)
        (bytes_again 137 no_bytes no_bytes_length)))))
    shown (Some s) h =
        both_again truth _ _ _ (truth_again _) (both_again one _ _ _ (one_again _) (both_again truth _ _ _ (truth_again _)
        (both_again one _ _ _ (one_again _) (both_again maybe (bytes 137) _ _ (maybe_again s.filled h.1)
        (bytes_again 137 s.bytes h.0)))))

    canonical : (o : Option CurrentSector) → is_current (shown_current o) ≡ true
    canonical None = no_bytes_zeros
    canonical (Some s) = refl

    back : (o : Option CurrentSector) → current_of (shown_current o) ≡ o
    back None = refl
    back (Some s) = refl

abbrev image_with : Bool → ℕ → Bool → ℕ → Option ℕ → List ℕ → CurrentImage
image_with present sector shown read filled xs = (present, (sector, (shown, (read, (filled, xs)))))

pub current_spells : Spells current Anything
unfolding current
current_spells =
    by_spells _ shown_current current_of
    (only_spells _ is_current (both_spells truth _ truth_spells (both_spells one _ one_spells
    (both_spells truth _ truth_spells (both_spells one _ one_spells
    (both_spells maybe (bytes 137) maybe_spells (bytes_spells 137)))))))
    (λ r h. back r.0 r.1.0 r.1.1.0 r.1.1.1.0 r.1.1.1.1.0 r.1.1.1.1.1 h.0.1.1.1.1.1 h.1) (λ r h. tt)
  where
    none_is : (o : Option ℕ) → is_none o ≡ true → o ≡ None
    none_is None e = refl
    none_is (Some n) e = absurd cc

    off : (b : Bool) → not b ≡ true → b ≡ false
    off true e = absurd cc
    off false e = refl

    same : (a c : ℕ) (b : Bool) (o : Option ℕ) (xs : List ℕ) → a ≡ 0 → b ≡ false → c ≡ 0 → o ≡ None → no_bytes ≡ xs
        → image_with false 0 false 0 None no_bytes ≡ image_with false a b c o xs
    same a c b o xs e1 e2 e3 e4 e5 =
        ap (λ x. image_with false x false 0 None no_bytes) (sym e1)
        ∙ ap (λ x. image_with false a x 0 None no_bytes) (sym e2)
        ∙ ap (λ x. image_with false a b x None no_bytes) (sym e3)
        ∙ ap (λ x. image_with false a b c x no_bytes) (sym e4)
        ∙ ap (λ x. image_with false a b c o x) e5

    back : (present : Bool) (sector : ℕ) (shown : Bool) (read : ℕ) (filled : Option ℕ) (xs : List ℕ)
        → length xs ≡ 137 → is_current (image_with present sector shown read filled xs) ≡ true
        → shown_current (current_of (image_with present sector shown read filled xs))
        ≡ image_with present sector shown read filled xs
    back true sector shown read filled xs long h = refl
    back false sector shown read filled xs long h =
        let a = and_parts (sector == 0 && not shown && read == 0 && is_none filled) (are_zeros xs) h in
        let b = and_parts (sector == 0 && not shown && read == 0) (is_none filled) a.0 in
        let c = and_parts (sector == 0 && not shown) (read == 0) b.0 in
        let d = and_parts (sector == 0) (not shown) c.0 in
        same sector read shown filled xs (eqb-true sector 0 d.0) (off shown d.1) (eqb-true read 0 c.1)
        (none_is filled b.1) (no_bytes_are xs long a.1)

pub drives_again : (ds : List Drive) → length ds ≡ 4 → Again drives ds
unfolding drives
drives_again ds four =
    by_again _ _ _ ds
    (both_again (times 4 one) (times 4 truth) _ _
    (times_again 4 one (map (λ (d : Drive). d.track) ds) (map_length (λ (d : Drive). d.track) ds ∙ four)
    (λ k x inside. one_again _))
    (times_again 4 truth (map (λ (d : Drive). d.loaded) ds) (map_length (λ (d : Drive). d.loaded) ds ∙ four)
    (λ k x inside. truth_again _)))
    (back ds)
  where
    back : (ds : List Drive)
        → map drive_with (zip (map (λ (d : Drive). d.track) ds) (map (λ (d : Drive). d.loaded) ds)) ≡ ds
    back [] = refl
    back (d ∷ ds) = ap (λ xs. d ∷ xs) (back ds)

abbrev two_lists : List ℕ → List Bool → List ℕ × List Bool
two_lists ts ls = (ts, ls)

pub drives_spells : Spells drives (λ ds. length ds ≡ 4)
unfolding drives
drives_spells =
    by_spells _ _ _ (both_spells (times 4 one) (times 4 truth) (times_spells 4 one one_spells)
    (times_spells 4 truth truth_spells))
    (λ r h. ap (λ ts. two_lists ts (map (λ (d : Drive). d.loaded) (map drive_with (zip r.0 r.1))))
    (tracks r.0 r.1 (h.0 ∙ sym h.1)) ∙ ap (two_lists r.0) (heads r.0 r.1 (h.0 ∙ sym h.1)))
    (λ r h. map_length drive_with (zip r.0 r.1) ∙ zip_length r.0 r.1 (h.0 ∙ sym h.1) ∙ h.0)
  where
    tracks : (ts : List ℕ) (ls : List Bool) → length ts ≡ length ls
        → map (λ (d : Drive). d.track) (map drive_with (zip ts ls)) ≡ ts
    tracks [] ls e = refl
    tracks (t ∷ ts) [] e = absurd (omega (arith, e))
    tracks (t ∷ ts) (l ∷ ls) e = ap (λ xs. t ∷ xs) (tracks ts ls (omega (arith, e)))

    heads : (ts : List ℕ) (ls : List Bool) → length ts ≡ length ls
        → map (λ (d : Drive). d.loaded) (map drive_with (zip ts ls)) ≡ ls
    heads [] [] e = refl
    heads [] (l ∷ ls) e = absurd (omega (arith, e))
    heads (t ∷ ts) [] e = absurd (omega (arith, e))
    heads (t ∷ ts) (l ∷ ls) e = ap (λ xs. l ∷ xs) (heads ts ls (omega (arith, e)))

-- a write with a number in its range and all its bytes
pub record IsWrite (w : SectorWrite) : Type 0 where
  pub number : w.number < 2 ^ 62
  pub bytes : length w.bytes ≡ 137

pub write_again : (w : SectorWrite) → IsWrite w → Again write w
unfolding write
write_again w h =
    by_again _ _ _ w
    (both_again number _ _ _ (numbers_again w.number h.number) (both_again one _ _ _ (one_again w.drive)
    (both_again one _ _ _ (one_again w.track) (both_again one (bytes 137) _ _ (one_again w.sector)
    (bytes_again 137 w.bytes h.bytes))))) refl

pub write_spells : Spells write IsWrite
unfolding write
write_spells =
    by_spells _ _ _
    (both_spells number _ number_spells (both_spells one _ one_spells (both_spells one _ one_spells
    (both_spells one (bytes 137) one_spells (bytes_spells 137)))))
    (λ r h. refl) (λ r h. record { number = h.0; bytes = h.1.1.1.1 })
