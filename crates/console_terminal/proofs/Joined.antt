-- What came and went in two pieces, one after the other.
use Rattle.std.proofs.Common.{ℕ, Bool, true, false, List, [], ◌∷◌, ◌++◌, ◌==◌, if◌then◌else◌, Option, Some, None, refl, ap, ◌∙◌, ◌≡◌}
use Rattle.console_terminal.specs.Lines.{HasGone, IsSameStart, after_push, found, gone_by, key_in, keys_in, shown_at, with_byte}
use Rattle.console_terminal.specs.declared.keyboard.Stroke.{Stroke}
use Rattle.console_terminal.specs.declared.keyboard.Stroke.TheVariants.{Key, End}
use Rattle.console_terminal.specs.declared.screen.Shown.{Shown}
use Rattle.rtrb.specs.Ring.{sent}
use Rattle.rtrb.specs.declared.producer.Producer.{Producer}

pub keys_in_both : (xs ys : List Stroke) → keys_in (xs ++ ys) ≡ keys_in xs ++ keys_in ys
keys_in_both [] ys = refl
keys_in_both (Key byte ∷ xs) ys = ap (λ l. byte ∷ l) (keys_in_both xs ys)
keys_in_both (End ∷ xs) ys = keys_in_both xs ys

keys_found : (stroke : Option Stroke) → keys_in (found stroke) ≡ found (key_in stroke)
keys_found None = refl
keys_found (Some (Key byte)) = refl
keys_found (Some End) = refl

-- the keys of what came on top
pub keys_on_top : (all xs : List Stroke) (stroke : Option Stroke) → all ≡ xs ++ found stroke →
    keys_in all ≡ keys_in xs ++ found (key_in stroke)
keys_on_top all xs stroke p =
    ap keys_in p ∙ keys_in_both xs (found stroke) ∙ ap (λ l. keys_in xs ++ l) (keys_found stroke)

shown_beside : (is_same fits : Bool) (first byte : ℕ) (all bytes : List ℕ) →
    all ≡ (if fits then bytes ++ byte ∷ [] else bytes) →
    (if is_same then first ∷ all else all)
    ≡ (if fits then (if is_same then first ∷ bytes else bytes) ++ byte ∷ [] else (if is_same then first ∷ bytes else bytes))
shown_beside true true first byte all bytes p = ap (λ l. first ∷ l) p
shown_beside true false first byte all bytes p = ap (λ l. first ∷ l) p
shown_beside false true first byte all bytes p = p
shown_beside false false first byte all bytes p = p

shown_with : (at port byte : ℕ) (xs : List Shown) →
    shown_at at (xs ++ record { port = port; byte = byte } ∷ []) ≡ with_byte at port byte (shown_at at xs)
shown_with at port byte [] = refl
shown_with at port byte (s ∷ xs) =
    shown_beside (s.port == at) (port == at) s.byte byte (shown_at at (xs ++ record { port = port; byte = byte } ∷ []))
    (shown_at at xs) (shown_with at port byte xs)

-- a screen that has shown bytes of a port has shown one more, if it is of that port
pub shows_on : {A P : Type 0} (old new : Option (Producer Shown A P)) (at port byte : ℕ) (bytes : List ℕ) →
    IsSameStart old new → gone_by new ≡ after_push old (record { port = port; byte = byte }) → HasGone old at bytes →
    HasGone new at (with_byte at port byte bytes)
shows_on None None at port byte bytes same gone shown = tt
shows_on (Some a) (Some b) at port byte bytes same gone shown =
    ap (shown_at at) gone ∙ shown_with at port byte (sent a) ∙ ap (with_byte at port byte) shown
shows_on None (Some b) at port byte bytes same gone shown = absurd same
shows_on (Some a) None at port byte bytes same gone shown = absurd same
