-- Texts and lines that are printed one after another, or none at all.
use Rattle.std.proofs.Common.{◌≡◌, ℕ, List, Option, Some, None, ◌∷◌, ◌++◌, [], ap, refl, subst, sym, ◌∙◌, append_assoc, append-nil}
use Rattle.std.specs.Prelude.{IfSome, string_bytes}
use Rattle.shell_language.specs.Texts.{Adds, AddsLine, AddsRow, AddsShown, AddsSome, AddsWords, Prints, Row, Says, Text, Words, mark}
use Rattle.i8080_words.specs.declared.refusal.Fault.{Fault}
use Rattle.shell_language.specs.Refusals.{refusal_words}
use Rattle.shell_language.specs.declared.printing.Printed.{Printed}

-- nothing is printed
pub adds_none : (printed : Printed) → AddsSome printed printed
adds_none printed = ([], (sym (append-nil (string_bytes printed.text)), refl))

-- these bytes are, and then those
pub adds_then : (old mid new : Printed) (first more : List ℕ) → Adds first old mid → Adds more mid new → Adds (first ++ more) old new
adds_then old mid new first more p q = (
  q.0 ∙ ap (λ t. t ++ more) p.0 ∙ append_assoc (string_bytes old.text) first more,
  q.1 ∙ p.1,
)

-- more is printed
pub adds_more : (old mid new : Printed) → AddsSome old mid → AddsSome mid new → AddsSome old new
adds_more old mid new first more = (first.0 ++ more.0, adds_then old mid new first.0 more.0 first.1 more.1)

-- a line: its beginning, what is shown, and its end
pub adds_shown : (shown : Option (List ℕ)) (old begun mid new : Printed) → Adds (mark old.is_traced) old begun
    → IfSome shown (λ text. Adds text begun mid) → Adds (10 ∷ []) mid new → AddsShown shown old new
adds_shown None old begun mid new b t e = tt
adds_shown (Some text) old begun mid new b t e =
    adds_then old mid new (mark old.is_traced ++ text) (10 ∷ []) (adds_then old begun mid (mark old.is_traced) text b t) e

pub adds_line : (old begun mid new : Printed) → Adds (mark old.is_traced) old begun → AddsSome begun mid → Adds (10 ∷ []) mid new
    → AddsSome old new
adds_line old begun mid new b t e =
    adds_more old mid new (adds_more old begun mid (mark old.is_traced, b) t) (10 ∷ [], e)

-- the same with the words of a refusal between two texts
pub adds_words : (front : Option (List ℕ)) (fault : Fault) (back : Option (List ℕ)) (old begun mid later last new : Printed)
    → Adds (mark old.is_traced) old begun → IfSome front (λ text. Adds text begun mid) → Adds (refusal_words fault) mid later
    → IfSome back (λ text. Adds text later last) → Adds (10 ∷ []) last new → AddsWords front fault back old new
adds_words None fault back old begun mid later last new b f w a e = tt
adds_words (Some front) fault None old begun mid later last new b f w a e = tt
adds_words (Some front) fault (Some back) old begun mid later last new b f w a e = record {
  text = front ++ refusal_words fault ++ back;
  says = refl;
  added = adds_shown (Some (front ++ refusal_words fault ++ back)) old begun last new b
      (adds_then begun later last (front ++ refusal_words fault) back
      (adds_then begun mid later front (refusal_words fault) f w) a) e;
}

-- a line with a text
pub adds_text : (text : List ℕ) (old new : Printed) → AddsLine text old new → AddsRow (Text text) old new
adds_text text old new h = record { text = text; says = refl; added = h }

-- no line is printed
pub prints_none : (printed : Printed) → Prints [] printed printed
prints_none printed = (sym (append-nil (string_bytes printed.text)), refl)

-- one is
pub prints_one : (row : Row) (old new : Printed) → AddsRow row old new → Prints (row ∷ []) old new
prints_one row old new h = (new, (h, prints_none new))

-- one with a text is
pub prints_text : (text : List ℕ) (old new : Printed) → AddsLine text old new → Prints (Text text ∷ []) old new
prints_text text old new h = prints_one (Text text) old new (adds_text text old new h)

-- lines that are printed after nothing
row_from : (row : Row) (old mid new : Printed) → Adds [] old mid → AddsRow row mid new → AddsRow row old new
row_from row old mid new same h = record {
  text = h.text;
  says = h.says;
  added = subst (λ is_traced. Adds (mark is_traced ++ h.text ++ (10 ∷ [])) old new) same.1
      (adds_then old mid new [] (mark mid.is_traced ++ h.text ++ (10 ∷ [])) same h.added);
}

prints_from : (rows : List Row) (old mid new : Printed) → Adds [] old mid → Prints rows mid new → Prints rows old new
prints_from [] old mid new same h = adds_then old mid new [] [] same h
prints_from (row ∷ rows) old mid new same h = (h.0, (row_from row old mid h.0 same h.1.0, h.1.1))

-- these lines are printed, and then those
pub prints_then : (rows more : List Row) (old mid new : Printed) → Prints rows old mid → Prints more mid new
    → Prints (rows ++ more) old new
prints_then [] more old mid new h k = prints_from more old mid new h k
prints_then (row ∷ rows) more old mid new h k = (h.0, (h.1.0, prints_then rows more h.0 mid new h.1.1 k))

-- lines that are printed are some bytes
pub prints_some : (rows : List Row) (old new : Printed) → Prints rows old new → AddsSome old new
prints_some [] old new h = ([], h)
prints_some (row ∷ rows) old new h =
    adds_more old h.0 new (mark old.is_traced ++ h.1.0.text ++ (10 ∷ []), h.1.0.added) (prints_some rows h.0 new h.1.1)
