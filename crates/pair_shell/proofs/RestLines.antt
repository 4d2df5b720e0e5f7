-- The lines of `rest` and `why`, whichever they are.
use Rattle.std.proofs.Common.{◌≡◌, ℕ, List, [], ◌∷◌, ◌++◌, codes, ap, subst, sym}
use Rattle.std.specs.Prelude.{Result, Ok, Err, IfOk}
use Rattle.std.specs.Fmt.{decimal}
use Rattle.i8080_words.specs.Refusals.{number_of}
use Rattle.i8080_words.specs.declared.refusal.Fault.{Fault}
use Rattle.shell_language.proofs.Adding.{prints_one, prints_text}
use Rattle.shell_language.specs.Texts.{AddsLine, AddsRow, Prints, Row, Text, Words}
use Rattle.shell_language.specs.declared.printing.Printed.{Printed}
use Rattle.guest_lockstep.specs.Machine.{Machine}
use Rattle.pair_protocol.specs.World.{World}
use Rattle.pair_shell.specs.Resting.{HasLed, SaysWhere, events_text, rest_row}
use Rattle.pair_shell.specs.declared.resting.Rested.{Rested}
use Rattle.pair_shell.specs.declared.resting.Rested.TheVariants as rested

-- one line with a text
pub tells_text : (rows : List Row) (text : List ℕ) (old new : Printed) → rows ≡ Text text ∷ [] → AddsLine text old new →
    Prints rows old new
tells_text rows text old new is h = subst (λ r. Prints r old new) (sym is) (prints_text text old new h)

-- the last event was refused
pub tells_refused_rest : (where_to : Rested) (fault : Fault) (number made most : ℕ) (old new : Printed) →
    where_to ≡ rested.Refused fault → number ≡ number_of fault →
    AddsRow (Words (events_text made most (codes "refused " ++ (decimal number ++ codes ", "))) fault []) old new →
    Prints (rest_row where_to made most ∷ []) old new
tells_refused_rest where_to fault number made most old new is numbered h =
    prints_one (rest_row where_to made most) old new
    (subst (λ r. AddsRow r old new) (sym (ap (λ q. rest_row q made most) is))
    (subst (λ k. AddsRow (Words (events_text made most (codes "refused " ++ (decimal k ++ codes ", "))) fault []) old new)
    numbered h))

-- it is printed where events have led
pub says_where : {A E : Type 0} (r : Result A E) (Led : ℕ → Rested → Type 0) (where_to : Rested) (arrived made most : ℕ)
    (old new : Printed) → IfOk r (λ _. Prints (rest_row where_to made most ∷ []) old new) → Led arrived where_to →
    IfOk r (λ _. SaysWhere Led new)
says_where (Ok a) Led where_to arrived made most old new row led = record {
  rested = where_to;
  arrived = arrived;
  made = made;
  most = most;
  before = old;
  row = row;
  led = led;
}
says_where (Err e) Led where_to arrived made most old new row led = tt

-- the same hosts, and an image of as many parts
pub led_among : {S : Type 0} (M : Machine S) (w : World S) (a b p q arrived generation : ℕ) (where_to : Rested) → a ≡ b → p ≡ q →
    HasLed M w a p arrived generation where_to → HasLed M w b q arrived generation where_to
led_among M w a b p q arrived generation where_to hosts parts led =
    subst (λ h. HasLed M w h q arrived generation where_to) hosts
    (subst (λ k. HasLed M w a k arrived generation where_to) parts led)
