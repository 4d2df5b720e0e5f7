-- The frame that a body is read as, and no other, is the one whose body it is.
use Rattle.std.proofs.Common.{◌≡◌, ℕ, Bool, true, false, cond, eqb, ltb, List, [], ◌∷◌, length, Option, Some, None, refl, sym, ap, subst, ◌∙◌, arith}
use Rattle.std.specs.Prelude.{◌&&◌, IfErr, IfOk}
use Rattle.std.specs.Option.{ok_or, option_map}
use Rattle.std.proofs.lemmas.Bool.{eqb-true, ltb-true}
use Rattle.std.proofs.lemmas.Option.{same_Some, none-some}
use Rattle.i8080_words.specs.declared.refusal.Fault.TheVariants.{Malformed}
use Rattle.log_entry.specs.Numbers.{IsBytes}
use Rattle.log_entry.proofs.ReadingLaws.{IsBytes-rest, admitted}
use Rattle.host_frames.specs.Frames.{Said, Packet, Transfers, Tells, IsBodyOf, body_of, is_frame, is_notice, is_number, is_transfer, notice_body, said_by, transfer_body}
use Rattle.host_frames.specs.Reading.{either, frame_at, notice_at, packet_at, transfer_at}
use Rattle.host_frames.specs.Stream.{IsBody}
use Rattle.host_frames.specs.declared.frame.Frame.{Frame}
use Rattle.host_frames.specs.declared.frame.Notice.{Notice}
use Rattle.host_frames.specs.declared.frame.Notice.TheVariants.{Suspect, Won, Lost, Gone, Begin, Join, Report, Progress, Tick, Stop}
use Rattle.host_frames.specs.declared.frame.Transfer.{Transfer}
use Rattle.host_frames.specs.declared.frame.Transfer.TheVariants.{Byte, Key, Accepted, Write, Written, Failed, Get, Sector, Inspect, Inspected}
use Rattle.host_frames.proofs.FieldLaws.{first_true}
use Rattle.host_frames.proofs.KindLaws.{Has, no_notice, notice_again, notice_takes, read_notice, read_transfer, transfer_again, transfer_takes}

-- ---- what is read was written so

packet_takes : (xs : List ℕ) (f : Said) → packet_at xs ≡ Some f → IsBodyOf f (0x50 ∷ xs)
packet_takes [] f e = absurd (none-some f e)
packet_takes (host ∷ xs) f e =
    let test = admitted (ltb (length xs) 4091) (Packet host xs) f e in
    subst (λ (g : Said). IsBodyOf g (0x50 ∷ host ∷ xs)) test.1 (record { fits = test.0; same = refl })

either_takes : (tag : ℕ) (xs : List ℕ) (n : Option Notice) (t : Option Transfer) (f : Said)
    → ((x : Notice) → n ≡ Some x → Has is_notice notice_body tag xs x)
    → ((x : Transfer) → t ≡ Some x → Has is_transfer transfer_body tag xs x)
    → either n t ≡ Some f → IsBodyOf f (tag ∷ xs)
either_takes tag xs (Some x) t f h k e =
    subst (λ (g : Said). IsBodyOf g (tag ∷ xs)) (same_Some (Tells x) f e) (record { fits = (h x refl).0; same = (h x refl).1 })
either_takes tag xs None (Some x) f h k e =
    subst (λ (g : Said). IsBodyOf g (tag ∷ xs)) (same_Some (Transfers x) f e)
    (record { fits = (k x refl).0; same = (k x refl).1 })
either_takes tag xs None None f h k e = absurd (none-some f e)

pub frame_takes : (body : List ℕ) (f : Said) → IsBytes body → frame_at body ≡ Some f → IsBodyOf f body
unfolding frame_at
frame_takes [] f all e = absurd (none-some f e)
frame_takes (tag ∷ xs) f all e = cases (eqb tag 0x50) refl e
  where
    cases : (test : Bool) → eqb tag 0x50 ≡ test
        → cond test (packet_at xs) (either (notice_at tag xs) (transfer_at tag xs)) ≡ Some f → IsBodyOf f (tag ∷ xs)
    cases true is o = subst (λ k. IsBodyOf f (k ∷ xs)) (sym (eqb-true tag 0x50 is)) (packet_takes xs f o)
    cases false is o =
        let rest = IsBytes-rest tag xs all in
        either_takes tag xs (notice_at tag xs) (transfer_at tag xs) f (λ x h. notice_takes tag xs x rest h)
        (λ x h. transfer_takes tag xs x rest h) o

-- ---- what is written is read again

-- a body that has no packet's tag
abbrev read_others : List ℕ → Option Said
read_others bytes = either (read_notice bytes) (read_transfer bytes)

transfer_tagged : (t : Transfer) → frame_at (transfer_body t) ≡ read_others (transfer_body t)
unfolding frame_at
transfer_tagged (Byte p n b) = refl
transfer_tagged (Key p n b) = refl
transfer_tagged (Accepted p n) = refl
transfer_tagged (Write w) = refl
transfer_tagged (Written n) = refl
transfer_tagged (Failed n) = refl
transfer_tagged (Get a) = refl
transfer_tagged (Sector r) = refl
transfer_tagged (Inspect n p) = refl
transfer_tagged (Inspected m n bs) = refl

notice_tagged : (n : Notice) → frame_at (notice_body n) ≡ read_others (notice_body n)
unfolding frame_at
notice_tagged (Suspect g) = refl
notice_tagged (Won g) = refl
notice_tagged (Lost g) = refl
notice_tagged (Gone h) = refl
notice_tagged (Begin g h) = refl
notice_tagged (Join g h d c) = refl
notice_tagged (Report r) = refl
notice_tagged (Progress h m n) = refl
notice_tagged (Tick m n) = refl
notice_tagged Stop = refl

pub frame_again : (f : Said) → is_frame f ≡ true → frame_at (body_of f) ≡ Some f
unfolding frame_at
frame_again (Packet host xs) e = ap (λ b. cond b (Some (Packet host xs)) None) e
frame_again (Transfers t) e =
    transfer_tagged t ∙ ap (λ o. either o (read_transfer (transfer_body t))) (no_notice t)
    ∙ ap (either None) (transfer_again t e)
frame_again (Tells n) e =
    notice_tagged n ∙ ap (λ o. either o (read_transfer (notice_body n))) (notice_again n e)

-- ---- the clauses of `frame_of`

pub one_body : (f g : Said) (body : List ℕ) → IsBodyOf f body → IsBodyOf g body → f ≡ g
one_body f g body h k =
    same_Some f g (sym (frame_again f h.fits) ∙ ap frame_at (sym h.same ∙ k.same) ∙ frame_again g k.fits)

is_none : (body : List ℕ) → frame_at body ≡ None → (f : Said) → IsBodyOf f body → ⊥
is_none body e f h = none-some f (sym e ∙ ap frame_at h.same ∙ frame_again f h.fits)

pub found_clause : (body : List ℕ) (o : Option Frame) → IsBytes body → option_map said_by o ≡ frame_at body
    → IfOk (ok_or o Malformed) (λ f. IsBodyOf (said_by f) body)
found_clause body None all e = tt
found_clause body (Some f) all e = frame_takes body (said_by f) all (sym e)

pub none_clause : (body : List ℕ) (o : Option Frame) → option_map said_by o ≡ frame_at body
    → IfErr (ok_or o Malformed) (λ fault. (fault ≡ Malformed) × ((f : Said) → IsBodyOf f body → ⊥))
none_clause body None e = (refl, is_none body (sym e))
none_clause body (Some f) e = tt

-- ---- the sizes of bodies

pub body_within : (f : Said) → is_frame f ≡ true → IsBody (body_of f)
body_within (Packet host bytes) e =
    let few = ltb-true (length bytes) 4091 e in
    record { some = omega arith; most = omega (arith, few) }
body_within (Transfers (Byte p n b)) e = record { some = omega arith; most = omega arith }
body_within (Transfers (Key p n b)) e = record { some = omega arith; most = omega arith }
body_within (Transfers (Accepted p n)) e = record { some = omega arith; most = omega arith }
body_within (Transfers (Write w)) e =
    let whole = eqb-true (length w.bytes) 137 (first_true (eqb (length w.bytes) 137) (is_number w.number) e) in
    record { some = omega arith; most = omega (arith, whole) }
body_within (Transfers (Written n)) e = record { some = omega arith; most = omega arith }
body_within (Transfers (Failed n)) e = record { some = omega arith; most = omega arith }
body_within (Transfers (Get a)) e = record { some = omega arith; most = omega arith }
body_within (Transfers (Sector w)) e =
    let whole = eqb-true (length w.bytes) 137 (first_true (eqb (length w.bytes) 137) (is_number w.number) e) in
    record { some = omega arith; most = omega (arith, whole) }
body_within (Transfers (Inspect n p)) e = record { some = omega arith; most = omega arith }
body_within (Transfers (Inspected m n bs)) e =
    let whole = eqb-true (length bs) 526 (first_true (eqb (length bs) 526) (is_number m && is_number n) e) in
    record { some = omega arith; most = omega (arith, whole) }
body_within (Tells (Suspect g)) e = record { some = omega arith; most = omega arith }
body_within (Tells (Won g)) e = record { some = omega arith; most = omega arith }
body_within (Tells (Lost g)) e = record { some = omega arith; most = omega arith }
body_within (Tells (Gone h)) e = record { some = omega arith; most = omega arith }
body_within (Tells (Begin g h)) e = record { some = omega arith; most = omega arith }
body_within (Tells (Join g h d c)) e = record { some = omega arith; most = omega arith }
body_within (Tells (Report r)) e = record { some = omega arith; most = omega arith }
body_within (Tells (Progress h m n)) e = record { some = omega arith; most = omega arith }
body_within (Tells (Tick m n)) e = record { some = omega arith; most = omega arith }
body_within (Tells Stop) e = record { some = omega arith; most = omega arith }
