-- What lines of a script type, one after another.
use Rattle.std.proofs.Common.{ℕ, ◌≡◌, ◌≤◌, ◌<◌, ◌-◌, List, [], ◌∷◌, ◌++◌, Option, None, Some, append-nil, append_assoc, arith, length, refl, sym, ap, ◌∙◌}
use Rattle.std.proofs.Math.ListN.{get_or}
use Rattle.std.proofs.lemmas.List.{take_all}
use Rattle.std.specs.Prelude.{drop, take}
use Rattle.command_io.specs.Typed.{typed_by, typed_in, with_byte}
use Rattle.command_console.specs.Hearing.{HasPressed, LinesType, presses}
use Rattle.console_terminal.specs.Lines.{found, keys_in}
use Rattle.console_terminal.specs.declared.keyboard.Stroke.{Stroke}
use Rattle.rtrb.specs.Ring.{SameProducer, sent}
use Rattle.rtrb.specs.declared.AnyItems.{AnyItems}
use Rattle.rtrb.specs.declared.producer.Producer.{Producer}
use Rattle.script_language.specs.declared.line.Line.{Line}
use Rattle.std.specs.Global.{Global}

-- ---- rings

pub same_ring : {T A P : Type 0} (a : Producer T A P) → SameProducer a a
same_ring a = ((refl, refl, refl, refl), refl)

pub same_ring_on : {T A P : Type 0} (a b c : Producer T A P) → SameProducer a b → SameProducer b c → SameProducer a c
same_ring_on a b c p q =
    ((q.0.0 ∙ p.0.0, q.0.1 ∙ p.0.1, q.0.2 ∙ p.0.2, q.0.3 ∙ p.0.3), q.1 ∙ p.1)

-- ---- keys

pub presses_both : (xs ys : List ℕ) → presses (xs ++ ys) ≡ presses xs ++ presses ys
presses_both [] ys = refl
presses_both (x ∷ xs) ys = ap (λ l. Stroke.Key x ∷ l) (presses_both xs ys)

pub keys_in_presses : (xs : List ℕ) (ys : List Stroke) → keys_in (presses xs ++ ys) ≡ xs ++ keys_in ys
keys_in_presses [] ys = refl
keys_in_presses (x ∷ xs) ys = ap (λ l. x ∷ l) (keys_in_presses xs ys)

one_byte : (key : Option ℕ) (xs : List ℕ) → with_byte key xs ≡ found key ++ xs
one_byte None xs = refl
one_byte (Some x) xs = refl

-- what lines type, of the first and of the others
typed_more : (port : ℕ) (line : Line) (lines : List Line) →
    typed_in port (line ∷ lines) ≡ typed_in port (line ∷ []) ++ typed_in port lines
typed_more port line lines =
    one_byte (typed_by port line) (typed_in port lines)
    ∙ ap (λ l. l ++ typed_in port lines) (sym (one_byte (typed_by port line) [] ∙ append-nil (found (typed_by port line))))

abbrev Keys : Type 0
Keys = Producer Stroke Global AnyItems

pub types_none : (a b : Keys) → LinesType [] a b a b
types_none a b = record {
  first_is = sym (append-nil (sent a));
  second_is = sym (append-nil (sent b));
  same_first = same_ring a;
  same_second = same_ring b;
}

-- one line more
sent_more : (port : ℕ) (line : Line) (lines : List Line) (a m c : Keys) →
    sent m ≡ sent a ++ presses (typed_in port (line ∷ [])) → sent c ≡ sent m ++ presses (typed_in port lines) →
    sent c ≡ sent a ++ presses (typed_in port (line ∷ lines))
sent_more port line lines a m c p q =
    q ∙ ap (λ l. l ++ presses (typed_in port lines)) p
    ∙ append_assoc (sent a) (presses (typed_in port (line ∷ []))) (presses (typed_in port lines))
    ∙ ap (λ l. sent a ++ l) (sym (presses_both (typed_in port (line ∷ [])) (typed_in port lines)))
    ∙ ap (λ l. sent a ++ presses l) (sym (typed_more port line lines))

pub types_more : (line : Line) (lines : List Line) (a b a' b' c d : Keys) → LinesType (line ∷ []) a b a' b' →
    LinesType lines a' b' c d → LinesType (line ∷ lines) a b c d
types_more line lines a b a' b' c d p q = record {
  first_is = sent_more 0 line lines a a' c p.first_is q.first_is;
  second_is = sent_more 1 line lines b b' d p.second_is q.second_is;
  same_first = same_ring_on a a' c p.same_first q.same_first;
  same_second = same_ring_on b b' d p.same_second q.same_second;
}

pub line_types : (line : Line) (a b c d : Keys) →
    (sent c ≡ sent a ++ presses (found (typed_by 0 line))) × SameProducer a c →
    (sent d ≡ sent b ++ presses (found (typed_by 1 line))) × SameProducer b d → LinesType (line ∷ []) a b c d
line_types line a b c d p q = record {
  first_is = p.0 ∙ ap (λ l. sent a ++ presses l) (sym (one_byte (typed_by 0 line) [] ∙ append-nil (found (typed_by 0 line))));
  second_is = q.0 ∙ ap (λ l. sent b ++ presses l) (sym (one_byte (typed_by 1 line) [] ∙ append-nil (found (typed_by 1 line))));
  same_first = p.1;
  same_second = q.1;
}

-- ---- what is left of lines

pub first_and_others : (xs : List Line) (d : Line) → 1 ≤ length xs → get_or xs 0 d ∷ take (length xs - 1) (drop 1 xs) ≡ xs
first_and_others [] d low = absurd (omega (arith, low))
first_and_others (x ∷ xs) d low = ap (λ l. x ∷ l) (take_all (length (x ∷ xs) - 1) xs (omega arith))

pub none_left : (xs : List Line) → length xs < 1 → [] ≡ xs
none_left [] low = refl
none_left (x ∷ xs) low = absurd (omega (arith, low))
