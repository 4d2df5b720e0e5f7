-- What was printed.
use Rattle.std.specs.Prelude.{◌≡◌, ℕ, Bool, true, false, List, [], ◌∷◌, ◌++◌, Option, IfSome, codes, string_bytes}
use Rattle.i8080_words.specs.declared.refusal.Fault.{Fault}
use Rattle.shell_language.specs.Refusals.{refusal_words}
use Rattle.shell_language.specs.declared.printing.Printed.{Printed}

-- these bytes were printed after the others
abbrev pub Adds : List ℕ → Printed → Printed → Type 0
Adds more old new = (string_bytes new.text ≡ string_bytes old.text ++ more) × (new.is_traced ≡ old.is_traced)

-- some bytes were
abbrev pub AddsSome : Printed → Printed → Type 0
AddsSome old new = (more : List ℕ) × Adds more old new

-- how a line begins: it is a comment if a script is printed
abbrev pub mark : Bool → List ℕ
mark true = codes "# "
mark false = []

-- a line of its own was printed, with this text; 10 ends it
abbrev pub AddsLine : List ℕ → Printed → Printed → Type 0
AddsLine text old new = Adds (mark old.is_traced ++ text ++ (10 ∷ [])) old new

-- the same with the text of what is shown, if that is known
abbrev pub AddsShown : Option (List ℕ) → Printed → Printed → Type 0
AddsShown shown old new = IfSome shown (λ text. AddsLine text old new)

-- What a line says: a text; or a text, the words of a refusal, and a text after those.
pub data Row : Type 0 where
  Text : List ℕ → Row
  Words : List ℕ → Fault → List ℕ → Row

abbrev pub Says : Row → List ℕ → Type 0
Says (Text all) text = text ≡ all
Says (Words front fault back) text = text ≡ front ++ refusal_words fault ++ back

-- a line that says this was printed
pub record AddsRow (row : Row) (old new : Printed) : Type 0 where
  pub text : List ℕ
  pub says : Says row text
  pub added : AddsLine text old new

-- so was one with the words of a refusal between two texts, if these are known
abbrev pub AddsWords : Option (List ℕ) → Fault → Option (List ℕ) → Printed → Printed → Type 0
AddsWords front fault back old new = IfSome front (λ f. IfSome back (λ b. AddsRow (Words f fault b) old new))

-- lines that say this were printed, one after another
abbrev pub Prints : List Row → Printed → Printed → Type 0
Prints [] old new = Adds [] old new
Prints (row ∷ rows) old new = (mid : Printed) × (AddsRow row old mid × Prints rows mid new)
