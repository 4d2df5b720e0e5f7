-- What is wrong with a line, and how that is said.
use Rattle.std.specs.Prelude.{ℕ, ◌+◌, ◌-◌, ◌^◌, ◌==◌, ◌&&◌, ◌||◌, min, nat_lt, Bool, true, false, if◌then◌else◌, List, [], ◌∷◌, ◌++◌, length, slice_get, bytes_eq, Option, Some, None, is_some, option_map, codes}
use Rattle.std.specs.Fmt.{decimal}
use Rattle.pair_events.specs.Printed.{byte_text}
use Rattle.script_language.specs.Words.{between_of, decimal_of, hexadecimal_of, one, words_of}
use Rattle.shell_language.specs.Forms.{Shape, Word, Number, Within, Byte, Address, Exactly, Quoted, Record, Bytes, shape_of, shapes, word_of}
use Rattle.shell_language.specs.Shown.{address_text, shown_text}
use Rattle.shell_language.specs.declared.loading.RecordMistake.{RecordMistake}
use Rattle.shell_language.specs.declared.loading.RecordMistake.TheVariants as record_mistake
use Rattle.shell_language.specs.declared.mistake.Mistake.{Mistake}
use Rattle.shell_language.specs.declared.mistake.Mistake.TheVariants as mistake

-- ---- what is wrong

-- What is wrong with a line. Words and bytes are counted from 1.
pub data Flaw : Type 0 where
  TooLong : Flaw
  Unprintable : ℕ → ℕ → Flaw
  Blank : Flaw
  Unknown : List ℕ → Flaw
  Missing : ℕ → Shape → Word → Flaw
  Misfit : ℕ → List ℕ → Shape → Word → Flaw
  OneTooMany : ℕ → List ℕ → Shape → Flaw
  Surplus : ℕ → List ℕ → Shape → ℕ → Flaw
  NoText : Shape → Flaw
  NoRange : Shape → Flaw
  NoRecord : RecordMistake → Flaw
  Late : List ℕ → Flaw
  Detached : ℕ → ℕ → ℕ → Flaw

-- a mistake of the program
abbrev pub flaw_of : Mistake → Flaw
flaw_of mistake.TooLong = TooLong
flaw_of (mistake.Unprintable place byte) = Unprintable place byte
flaw_of mistake.Blank = Blank
flaw_of (mistake.Unknown word) = Unknown word.now
flaw_of (mistake.Missing place form kind) = Missing place (shape_of form.now) (word_of kind)
flaw_of (mistake.Wrong place word form kind) = Misfit place word.now (shape_of form.now) (word_of kind)
flaw_of (mistake.OneTooMany place word form) = OneTooMany place word.now (shape_of form.now)
flaw_of (mistake.Surplus place word form most) = Surplus place word.now (shape_of form.now) most
flaw_of (mistake.Text form) = NoText (shape_of form.now)
flaw_of (mistake.Range form) = NoRange (shape_of form.now)
flaw_of (mistake.Record why) = NoRecord why
flaw_of (mistake.Late line) = Late line.now
flaw_of (mistake.Detached drive track sector) = Detached drive track sector

-- the same with its place
abbrev pub at : ℕ × Mistake → ℕ × Flaw
at found = (found.0, flaw_of found.1)

abbrev pub placed : Option (ℕ × Mistake) → Option (ℕ × Flaw)
placed found = option_map at found

-- ---- which word of a line does not fit

-- the first of some words is of this kind
abbrev pub begins_with : ℕ → List ℕ → Bool
begins_with first [] = false
begins_with first (byte ∷ bytes) = byte == first

-- a word is of this kind; 34 is a quote, and 58 a colon
abbrev pub fits : Word → List ℕ → Bool
fits Number word = is_some (one decimal_of (words_of word))
fits (Within least greatest) word = is_some (one (between_of least greatest) (words_of word))
fits Byte word = is_some (one (hexadecimal_of 2) (words_of word))
fits Address word = is_some (one (hexadecimal_of 4) (words_of word))
fits (Exactly text) word = bytes_eq word text
fits Quoted word = begins_with 34 word
fits Record word = begins_with 58 word
fits (Bytes most) word = is_some (one (hexadecimal_of 2) (words_of word))

-- the place after another; no line has 2^64 words
abbrev pub after : ℕ → ℕ
after place = min (place + 1) (2 ^ 64 - 1)

-- a word that does not fit, with its place
abbrev pub Placed : Type 0
Placed = Option (ℕ × Flaw)

-- the first of some words that is no byte, or that is one too many: of so many bytes so many are left
abbrev pub wrong_byte : Shape → ℕ → ℕ → ℕ → List (List ℕ) → Placed
wrong_byte shape most left place [] = None
wrong_byte shape most left place (word ∷ words) =
    if left == 0 then Some (place, Surplus place word shape most)
    else (if fits Byte word then wrong_byte shape most (left - 1) (after place) words else Some (place, Misfit place word shape Byte))

-- the words after the last of a form: bytes may follow bytes, text is the affair of its quotes, and else there is none
abbrev pub too_many : Shape → ℕ → List (List ℕ) → Placed
too_many shape place [] = None
too_many shape place (word ∷ words) = Some (place, OneTooMany place word shape)

abbrev pub after_last : Shape → Option Word → ℕ → List (List ℕ) → Placed
after_last shape (Some (Bytes most)) place words = wrong_byte shape most (most - 1) place words
after_last shape (Some Quoted) place words = Some (place, NoText shape)
after_last shape other place words = too_many shape place words

abbrev pub last_word : Shape → Option Word
last_word shape = slice_get shape.words (length shape.words - 1)

-- the first word that does not fit these kinds
abbrev pub misfit_in : Shape → List Word → ℕ → List (List ℕ) → Placed
misfit_in shape [] place words = after_last shape (last_word shape) place words
misfit_in shape (kind ∷ kinds) place [] = Some (place, Missing place shape kind)
misfit_in shape (kind ∷ kinds) place (word ∷ words) =
    if fits kind word then misfit_in shape kinds (after place) words else Some (place, Misfit place word shape kind)

-- the same for a form, after its first word
abbrev pub misfit : List (List ℕ) → Shape → Placed
misfit words shape = misfit_in shape shape.words 2 words

-- a word is one too many
abbrev pub is_one_too_many : Flaw → Bool
is_one_too_many (OneTooMany place word shape) = true
is_one_too_many _ = false

-- a number from one to another is expected
abbrev pub is_range : Word → Bool
is_range (Within least greatest) = true
is_range _ = false

abbrev pub is_out_of_range : Flaw → Bool
is_out_of_range (Misfit place word shape kind) = is_range kind
is_out_of_range _ = false

-- that a word is one too many is not told if another form expects a number of its range there
abbrev pub gives_way : Flaw → Flaw → Bool
gives_way flaw other = is_one_too_many flaw && is_out_of_range other

-- of two mistakes the one at the later place is told
abbrev pub is_told : ℕ × Flaw → ℕ × Flaw → Bool
is_told found furthest = nat_lt furthest.0 found.0 || ((furthest.0 == found.0) && gives_way furthest.1 found.1)

-- if each word fits, the line is out of range
abbrev pub further : Shape → Placed → ℕ × Flaw → ℕ × Flaw
further shape (Some found) furthest = if is_told found furthest then found else furthest
further shape None furthest = if furthest.0 == 0 then (0, NoRange shape) else furthest

-- the forms with this first word, one after another
abbrev pub furthest_in : List Shape → List ℕ → List (List ℕ) → ℕ × Flaw → ℕ × Flaw
furthest_in [] first words furthest = furthest
furthest_in (shape ∷ shapes) first words furthest =
    furthest_in shapes first words (if bytes_eq shape.word first then further shape (misfit words shape) furthest else furthest)

-- what is wrong with a line of this first word and those after it, for these forms
abbrev pub flaw_among : List Shape → List ℕ → List (List ℕ) → Flaw
flaw_among shapes first words = (furthest_in shapes first words (0, Unknown first)).1

-- What is wrong with some words that are no line: nothing begins with the first of them, or a word does not fit the form that
-- they follow the furthest.
abbrev pub flaw_in : List (List ℕ) → Flaw
flaw_in [] = Blank
flaw_in (first ∷ words) = flaw_among shapes first words

-- ---- how it is said

-- what a word has to be
abbrev pub word_text : Word → List ℕ
word_text Number = codes "a number below 18446744073709551616"
word_text (Within least greatest) = codes "a number from " ++ (decimal least ++ (codes " to " ++ decimal greatest))
word_text Byte = codes "a byte of two hexadecimal digits"
word_text Address = codes "an address of four hexadecimal digits"
word_text (Exactly text) = codes "the word " ++ text
word_text Quoted = codes "text in double quotes"
word_text Record = codes "a record of Intel HEX"
word_text (Bytes most) = codes "a byte of two hexadecimal digits"

-- how a line of a form is written
abbrev pub usage_text : Shape → List ℕ
usage_text shape = codes "; the line is `" ++ (shape.usage ++ codes "`")

-- why a record of Intel HEX is none
abbrev pub record_text : RecordMistake → List ℕ
record_text record_mistake.Digits = codes "a record of Intel HEX is a colon and then pairs of hexadecimal digits: `:LLAAAATTDD..CC`"
record_text (record_mistake.Length said there) =
    codes "the record says that it has " ++ (decimal said ++ (codes " bytes of data, and has " ++ (decimal there ++ codes ": `:LLAAAATTDD..CC`")))
record_text (record_mistake.Sum wanted there) =
    codes "the record's sum is wrong: it ends with " ++ (byte_text there ++ (codes ", and " ++ (byte_text wanted ++ codes " is expected")))
record_text (record_mistake.Type kind) =
    codes "the record is of type " ++ (byte_text kind ++ codes ": a type from 00, data, to 05 is expected")
record_text (record_mistake.Size kind wanted) =
    codes "a record of type " ++ (byte_text kind ++ (codes " has " ++ (decimal wanted ++ codes " bytes of data")))
record_text (record_mistake.Extended kind) =
    codes "the record of type " ++ (byte_text kind ++ codes " puts what follows past FFFF: 0000 is expected, as memory has 64K")
record_text (record_mistake.Past address) = codes "the record's bytes from " ++ (address_text address ++ codes " on go past FFFF")

-- what is told of a line in which there is too much, or that is not what its words say
abbrev pub more_text : Flaw → List ℕ
more_text (OneTooMany place word shape) =
    codes "word " ++ (decimal place ++ (codes ", " ++ (shown_text word ++ (codes ", is one too many" ++ usage_text shape))))
more_text (Surplus place word shape most) =
    codes "word " ++ (decimal place ++ (codes ", " ++ (shown_text word ++ (codes ", is one too many: at most "
    ++ (decimal most ++ (codes " bytes are expected" ++ usage_text shape))))))
more_text (NoText shape) =
    codes "the text ends with a quote, and a backslash is followed by r, n, a quote or a backslash" ++ usage_text shape
more_text (NoRange shape) = codes "memory ends at FFFF, and a sector has 137 bytes" ++ usage_text shape
more_text (NoRecord why) = record_text why
more_text (Late line) =
    shown_text line ++ codes " is a line of the setup, and the pair has booted: it boots at the first event or query"
more_text (Detached drive track sector) =
    codes "sector " ++ (decimal drive ++ (codes " " ++ (decimal track ++ (codes " " ++ (decimal sector ++ codes " is on a drive that is not attached; `drives N` comes first")))))
more_text other = []

-- what is told of a line that is wrong
abbrev pub flaw_text : Flaw → List ℕ
flaw_text TooLong = codes "the line has more than " ++ (decimal 65536 ++ codes " bytes")
flaw_text (Unprintable place byte) =
    codes "byte " ++ (decimal place ++ (codes " of the line is " ++ (byte_text byte ++ codes ": a line is printable ASCII")))
flaw_text Blank = codes "the line has spaces alone; `help` lists the lines"
flaw_text (Unknown word) = shown_text word ++ codes " begins no line; `help` lists the lines"
flaw_text (Missing place shape kind) =
    codes "word " ++ (decimal place ++ (codes " is missing: " ++ (word_text kind ++ usage_text shape)))
flaw_text (Misfit place word shape kind) =
    codes "word " ++ (decimal place ++ (codes " is " ++ (shown_text word ++ (codes ": " ++ (word_text kind ++ (codes " is expected" ++ usage_text shape))))))
flaw_text other = more_text other
