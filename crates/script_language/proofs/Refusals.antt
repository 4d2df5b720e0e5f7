-- A script is refused exactly if some line is bad, and by the first of them: the lower of the first line that is not
-- valid there and the first that says a sector that is astray.
use Rattle.std.proofs.Common.{◌≡◌, ℕ, ◌+◌, ◌-◌, ◌≤◌, inl, inr, List, [], ◌∷◌, length, Bool, true, false, Option, Some, None, refl, sym, subst, ◌∙◌, arith}
use Rattle.std.specs.Prelude.{nat_lt, nat_le, min}
use Rattle.std.proofs.lemmas.Bool.{leb-false, leb-true}
use Rattle.std.proofs.lemmas.Bool.Decides.{nat_tests}
use Rattle.std.proofs.lemmas.Option.{none-some, same_Some}
use Rattle.script_language.specs.Text.{lines_of, text_of}
use Rattle.script_language.specs.Booting.{Filled}
use Rattle.script_language.specs.Meaning.{Said, astray_among, first_astray, lower_of, nothing_said, read, said_in, script_of, script_unless}
use Rattle.script_language.specs.BadLines.{IsAstray, IsBad, IsNoLine, NamesFirstBad}
use Rattle.script_language.proofs.Kept.{Rising, rising_line}
use Rattle.script_language.proofs.FirstBad.{NoLineIn, NamesBy, named, names, next_said, read_no_more, read_nothing, read_on}

-- the first sector, astray or not
astray_here : (drives : ℕ) (sector : Filled) (sectors : List Filled) → nat_le drives sector.drive ≡ true
    → astray_among drives (sector ∷ sectors) ≡ Some sector.line
astray_here drives sector sectors e = rw e refl

astray_later : (drives : ℕ) (sector : Filled) (sectors : List Filled) → nat_le drives sector.drive ≡ false
    → astray_among drives (sector ∷ sectors) ≡ astray_among drives sectors
astray_later drives sector sectors e = rw e refl

-- if none is named, none is astray

none_astray-at : (drives : ℕ) (sector : Filled) (sectors : List Filled) (number : ℕ) (test : Bool) → nat_le drives sector.drive ≡ test
    → (astray_among drives sectors ≡ None → IsAstray drives number sectors → ⊥)
    → astray_among drives (sector ∷ sectors) ≡ None → IsAstray drives number (sector ∷ sectors) → ⊥
none_astray-at drives sector sectors number true t rest e h = none-some sector.line (sym e ∙ astray_here drives sector sectors t)
none_astray-at drives sector sectors number false t rest e (inl h) = let above = leb-false drives sector.drive t in omega (arith, above, h.1)
none_astray-at drives sector sectors number false t rest e (inr h) = rest (sym (astray_later drives sector sectors t) ∙ e) h

none_astray : (drives : ℕ) (sectors : List Filled) (number : ℕ) → astray_among drives sectors ≡ None → IsAstray drives number sectors → ⊥
none_astray drives [] number e h = h
none_astray drives (sector ∷ sectors) number e h =
    none_astray-at drives sector sectors number (nat_le drives sector.drive) refl (none_astray drives sectors number) e h

-- the one that is named is astray

named_astray-at : (drives : ℕ) (sector : Filled) (sectors : List Filled) (number : ℕ) (test : Bool) → nat_le drives sector.drive ≡ test
    → (astray_among drives sectors ≡ Some number → IsAstray drives number sectors)
    → astray_among drives (sector ∷ sectors) ≡ Some number → IsAstray drives number (sector ∷ sectors)
named_astray-at drives sector sectors number true t rest e =
    inl (same_Some sector.line number (sym (astray_here drives sector sectors t) ∙ e), leb-true drives sector.drive t)
named_astray-at drives sector sectors number false t rest e = inr (rest (sym (astray_later drives sector sectors t) ∙ e))

named_astray : (drives : ℕ) (sectors : List Filled) (number : ℕ) → astray_among drives sectors ≡ Some number → IsAstray drives number sectors
named_astray drives [] number e = cc
named_astray drives (sector ∷ sectors) number e =
    named_astray-at drives sector sectors number (nat_le drives sector.drive) refl (named_astray drives sectors number) e

-- the lines of sectors in order are not below the least
not_below : (drives least : ℕ) (sectors : List Filled) (bound number : ℕ) → Rising least sectors bound → IsAstray drives number sectors → least ≤ number
not_below drives least [] bound number rising h = absurd h
not_below drives least (sector ∷ sectors) bound number rising (inl h) = let low = rising.0 in let is = h.0 in omega (arith, low, is)
not_below drives least (sector ∷ sectors) bound number rising (inr h) =
    let low = rising.0 in
    let later = not_below drives (sector.line + 1) sectors bound number rising.1 h in
    omega (arith, low, later)

-- it is the first

first_is-at : (drives least : ℕ) (sector : Filled) (sectors : List Filled) (bound number other : ℕ) (test : Bool) → nat_le drives sector.drive ≡ test
    → Rising least (sector ∷ sectors) bound
    → (astray_among drives sectors ≡ Some number → IsAstray drives other sectors → number ≤ other)
    → astray_among drives (sector ∷ sectors) ≡ Some number → IsAstray drives other (sector ∷ sectors) → number ≤ other
first_is-at drives least sector sectors bound number other true t rising rest e (inl h) =
    let is = same_Some sector.line number (sym (astray_here drives sector sectors t) ∙ e) in
    let same = h.0 in
    omega (arith, is, same)
first_is-at drives least sector sectors bound number other true t rising rest e (inr h) =
    let is = same_Some sector.line number (sym (astray_here drives sector sectors t) ∙ e) in
    let later = not_below drives (sector.line + 1) sectors bound other rising.1 h in
    omega (arith, is, later)
first_is-at drives least sector sectors bound number other false t rising rest e (inl h) =
    let above = leb-false drives sector.drive t in absurd (omega (arith, above, h.1))
first_is-at drives least sector sectors bound number other false t rising rest e (inr h) =
    rest (sym (astray_later drives sector sectors t) ∙ e) h

first_is : (drives least : ℕ) (sectors : List Filled) (bound number other : ℕ) → Rising least sectors bound
    → astray_among drives sectors ≡ Some number → IsAstray drives other sectors → number ≤ other
first_is drives least [] bound number other rising e h = absurd h
first_is drives least (sector ∷ sectors) bound number other rising e h =
    first_is-at drives least sector sectors bound number other (nat_le drives sector.drive) refl rising
    (first_is drives (sector.line + 1) sectors bound number other rising.1) e h

-- what was read has its sectors in order
record IsOrdered (said : Said) : Type 0 where
  bound : ℕ
  rising : Rising 1 said.boot.sectors bound

ordered-at : (line : List ℕ) (lines : List (List ℕ)) (room number : ℕ) (said : Said) (test : Bool) → nat_lt room (length line) ≡ test
    → Rising 1 said.boot.sectors number
    → IsOrdered (read (room - length line) (number + 1) lines (next_said number line said))
    → IsOrdered (read room number (line ∷ lines) said)
ordered-at line lines room number said true e rising rest =
    subst IsOrdered (sym (read_no_more room number line lines said e)) (record { bound = number; rising = rising })
ordered-at line lines room number said false e rising rest = subst IsOrdered (sym (read_on room number line lines said e)) rest

ordered_next : (number : ℕ) (line : List ℕ) (said : Said) → Rising 1 said.boot.sectors number
    → Rising 1 (next_said number line said).boot.sectors (number + 1)
ordered_next number line said rising = rising_line number (text_of line) said rising

ordered : (lines : List (List ℕ)) (room number : ℕ) (said : Said) → Rising 1 said.boot.sectors number → IsOrdered (read room number lines said)
ordered [] room number said rising = subst IsOrdered (sym (read_nothing room number said)) (record { bound = number; rising = rising })
ordered (line ∷ lines) room number said rising =
    ordered-at line lines room number said (nat_lt room (length line)) refl rising
    (ordered lines (room - length line) (number + 1) (next_said number line said) (ordered_next number line said rising))

in_order : (text : List ℕ) → IsOrdered (said_in text)
in_order text = ordered (lines_of text) 1048576 1 nothing_said (omega arith)

-- the lines that are not valid there
no_line : (text : List ℕ) (number : ℕ) → (said_in text).bad ≡ Some number → IsNoLine text number
no_line text number e =
    let h : NoLineIn 1048576 1 nothing_said (lines_of text) number = named (lines_of text) 1048576 1 nothing_said number refl e in
    record { before = h.before; line = h.line; after = h.after; all = h.all; counted = h.counted; none = h.none }

by_then : (text : List ℕ) (number : ℕ) → IsNoLine text number → NamesBy (said_in text) number
by_then text number h =
    subst (λ (lines : List (List ℕ)). NamesBy (read 1048576 1 lines nothing_said) number) (sym h.all)
    (names h.before h.line h.after 1048576 1 nothing_said number refl h.counted h.none)

no_line_is_none : (text : List ℕ) (number : ℕ) → (said_in text).bad ≡ None → IsNoLine text number → ⊥
no_line_is_none text number e h =
    let named_by = by_then text number h in
    none-some named_by.line (sym e ∙ named_by.named)

no_line_first : (text : List ℕ) (number other : ℕ) → (said_in text).bad ≡ Some number → IsNoLine text other → number ≤ other
no_line_first text number other e h =
    let named_by = by_then text other h in
    let is = same_Some number named_by.line (sym e ∙ named_by.named) in
    let first = named_by.first in
    omega (arith, is, first)

astray_first : (text : List ℕ) (number other : ℕ) → first_astray (said_in text).boot ≡ Some number
    → IsAstray (said_in text).boot.drives other (said_in text).boot.sectors → number ≤ other
astray_first text number other e h =
    let order = in_order text in
    first_is (said_in text).boot.drives 1 (said_in text).boot.sectors order.bound number other order.rising e h

-- the lower of two
min_left : (a b : ℕ) → nat_le a b ≡ true → min a b ≡ a
min_left a b h = grind (arith, nat_tests)

min_right : (a b : ℕ) → nat_le a b ≡ false → min a b ≡ b
min_right a b h = grind (arith, nat_tests)

lower_is_bad : (text : List ℕ) (line sector : ℕ) (test : Bool) → nat_le line sector ≡ test → IsBad text line → IsBad text sector
    → IsBad text (min line sector)
lower_is_bad text line sector true e p q = subst (IsBad text) (sym (min_left line sector e)) p
lower_is_bad text line sector false e p q = subst (IsBad text) (sym (min_right line sector e)) q

lower_left : (line sector other : ℕ) → line ≤ other → min line sector ≤ other
lower_left line sector other h = grind (arith, nat_tests)

lower_right : (line sector other : ℕ) → sector ≤ other → min line sector ≤ other
lower_right line sector other h = grind (arith, nat_tests)

by_parts : (text : List ℕ) (bad astray : Option ℕ) → (said_in text).bad ≡ bad → first_astray (said_in text).boot ≡ astray
    → NamesFirstBad text (script_unless (lower_of bad astray) (said_in text))
by_parts text None None e a = λ number is_bad. elim is_bad [
  | inl h ↦ no_line_is_none text number e h
  | inr h ↦ none_astray (said_in text).boot.drives (said_in text).boot.sectors number a h
]
by_parts text (Some line) None e a = (
  inl (no_line text line e),
  λ other is_bad. elim is_bad [
    | inl h ↦ no_line_first text line other e h
    | inr h ↦ absurd (none_astray (said_in text).boot.drives (said_in text).boot.sectors other a h)
  ],
)
by_parts text None (Some sector) e a = (
  inr (named_astray (said_in text).boot.drives (said_in text).boot.sectors sector a),
  λ other is_bad. elim is_bad [
    | inl h ↦ absurd (no_line_is_none text other e h)
    | inr h ↦ astray_first text sector other a h
  ],
)
by_parts text (Some line) (Some sector) e a = (
  lower_is_bad text line sector (nat_le line sector) refl (inl (no_line text line e))
      (inr (named_astray (said_in text).boot.drives (said_in text).boot.sectors sector a)),
  λ other is_bad. elim is_bad [
    | inl h ↦ lower_left line sector other (no_line_first text line other e h)
    | inr h ↦ lower_right line sector other (astray_first text sector other a h)
  ],
)

pub first_bad_is_named : (text : List ℕ) → NamesFirstBad text (script_of text)
unfolding script_of
first_bad_is_named text = by_parts text (said_in text).bad (first_astray (said_in text).boot) refl refl
