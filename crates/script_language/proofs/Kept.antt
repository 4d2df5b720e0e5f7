-- A further line leaves the first bad line unchanged, and leaves the sectors unchanged or adds one, with its own
-- number. So the sectors are in the order of their lines.
use Rattle.std.proofs.Common.{◌≡◌, ℕ, ◌+◌, ◌≤◌, ◌⊎◌, inl, inr, List, [], ◌∷◌, ◌++◌, length, Bool, true, false, Option, Some, None, refl, sym, subst, arith}
use Rattle.std.specs.Prelude.{◌&&◌, ◌==◌, nat_lt, nat_le, if◌then◌else◌, bytes_eq, codes}
use Rattle.std.specs.Option.{option_map}
use Rattle.script_language.specs.declared.keyword.Keyword.{Keyword}
use Rattle.script_language.specs.declared.keyword.Keyword.TheVariants as keyword
use Rattle.script_language.specs.declared.line.Line.{Line}
use Rattle.script_language.specs.Words.{Reader, between_of, bytes_of, decimal_of, hexadecimal_of, whole, words_of, ◌>>=◌}
use Rattle.script_language.specs.Grammar.{bad, between, byte, bytes, is_setup, keyword_of, line_of, of_kind, says, the_word}
use Rattle.script_language.specs.Booting.{Boot, Change, Filled, boot_after, change_of, drives_are, fails_at, fitting, hosts_are, levels_are, memory_from, reads_are_shared, sector_is, sense_is}
use Rattle.script_language.specs.Meaning.{Said, unless_bad, with_boot, with_keyword, with_line, with_more, with_words}

-- sectors with at most one more, of this line
pub record IsAdded (old new : List Filled) (line : ℕ) : Type 0 where
  pub filled : Filled
  pub numbered : filled.line ≡ line
  pub all : new ≡ old ++ (filled ∷ [])

abbrev pub Adds : List Filled → List Filled → ℕ → Type 0
Adds old new line = (new ≡ old) ⊎ IsAdded old new line

-- what each change of a setup line does
abbrev Places : Change → Type 0
Places change = (line : ℕ) (boot : Boot) → Adds boot.sectors (change line boot).sectors line

-- what is read has this property
abbrev OnFound : {X : Type 0} → (X → Type 0) → Option (X × List (List ℕ)) → Type 0
OnFound P None = Unit {0}
OnFound P (Some value) = P value.0

abbrev Gives : {X : Type 0} → (X → Type 0) → Reader X → Type 0
Gives P read = (words : List (List ℕ)) → OnFound P (read words)

gives_of_kind-at : {X : Type 0} (P : X → Type 0) (next : ℕ → Reader X) → ((value : ℕ) → Gives P (next value))
    → (words : List (List ℕ)) (value : Option ℕ)
    → OnFound P (option_map (λ (x : ℕ). (x, words)) value >>= λ (first : ℕ × List (List ℕ)). next first.0 first.1)
gives_of_kind-at P next h words None = tt
gives_of_kind-at P next h words (Some value) = h value words

gives_of_kind : {X : Type 0} (P : X → Type 0) (kind : List ℕ → Option ℕ) (next : ℕ → Reader X)
    → ((value : ℕ) → Gives P (next value)) → Gives P (of_kind kind next)
gives_of_kind P kind next h [] = tt
gives_of_kind P kind next h (word ∷ words) = gives_of_kind-at P next h words (kind word)

gives_word-at : {X : Type 0} (P : X → Type 0) (next : Reader X) → Gives P next
    → (words : List (List ℕ)) (test : Bool) → OnFound P (if test then next words else None)
gives_word-at P next h words true = h words
gives_word-at P next h words false = tt

gives_word : {X : Type 0} (P : X → Type 0) (wanted : List ℕ) (next : Reader X) → Gives P next → Gives P (the_word wanted next)
gives_word P wanted next h [] = tt
gives_word P wanted next h (first ∷ words) = gives_word-at P next h words (bytes_eq first wanted)

gives_bytes-at : {X : Type 0} (P : X → Type 0) (next : List ℕ → Reader X) → ((all : List ℕ) → Gives P (next all))
    → (all : Option (List ℕ)) → OnFound P (all >>= λ (all : List ℕ). next all [])
gives_bytes-at P next h None = tt
gives_bytes-at P next h (Some all) = h all []

gives_bytes : {X : Type 0} (P : X → Type 0) (next : List ℕ → Reader X) → ((all : List ℕ) → Gives P (next all)) → Gives P (bytes next)
gives_bytes P next h words = gives_bytes-at P next h (bytes_of words)

gives_if : {X : Type 0} (P : X → Type 0) (test : Bool) (value : X) → P value → Gives P (if test then says value else bad)
gives_if P true value p words = p
gives_if P false value p words = tt

change_places : (word : Keyword) → Gives Places (change_of word)
change_places keyword.Memory =
    gives_of_kind Places (hexadecimal_of 4) (λ (start : ℕ). bytes (λ (all : List ℕ). fitting start all)) (λ start.
    gives_bytes Places (λ (all : List ℕ). fitting start all) (λ all.
    gives_if Places (nat_lt 0 (length all) && nat_le (start + length all) 65536) (memory_from start all) (λ line boot. inl refl)))
change_places keyword.Drives =
    gives_of_kind Places (between_of 1 4) (λ (count : ℕ). says (drives_are count)) (λ count words line boot. inl refl)
change_places keyword.Levels =
    gives_of_kind Places (between_of 0 7) (λ (a : ℕ). between 0 7 (λ (b : ℕ). between 0 7 (λ (c : ℕ). says (levels_are a b c)))) (λ a.
    gives_of_kind Places (between_of 0 7) (λ (b : ℕ). between 0 7 (λ (c : ℕ). says (levels_are a b c))) (λ b.
    gives_of_kind Places (between_of 0 7) (λ (c : ℕ). says (levels_are a b c)) (λ c words line boot. inl refl)))
change_places keyword.Sense =
    gives_of_kind Places (hexadecimal_of 2) (λ (switches : ℕ). says (sense_is switches)) (λ switches words line boot. inl refl)
change_places keyword.Hosts =
    gives_of_kind Places (between_of 2 64) (λ (count : ℕ). says (hosts_are count)) (λ count words line boot. inl refl)
change_places keyword.Reads =
    gives_word Places (codes "shared") (says reads_are_shared) (λ words line boot. inl refl)
change_places keyword.Sector =
    gives_of_kind Places (between_of 0 3) (λ (d : ℕ). between 0 76 (λ (t : ℕ). between 0 31 (λ (s : ℕ). byte (λ (b : ℕ). says (sector_is d t s b))))) (λ d.
    gives_of_kind Places (between_of 0 76) (λ (t : ℕ). between 0 31 (λ (s : ℕ). byte (λ (b : ℕ). says (sector_is d t s b)))) (λ t.
    gives_of_kind Places (between_of 0 31) (λ (s : ℕ). byte (λ (b : ℕ). says (sector_is d t s b))) (λ s.
    gives_of_kind Places (hexadecimal_of 2) (λ (b : ℕ). says (sector_is d t s b)) (λ b words line boot. inr (record {
      filled = record { line = line; drive = d; track = t; sector = s; byte = b };
      numbered = refl;
      all = refl;
    })))))
change_places keyword.Fail =
    gives_of_kind Places decimal_of (λ (access : ℕ). says (fails_at access)) (λ access words line boot. inl refl)
change_places other = λ words. tt

-- what a further line leaves
pub record Keeps (number : ℕ) (old new : Said) : Type 0 where
  pub bad : new.bad ≡ old.bad
  pub sectors : Adds old.boot.sectors new.boot.sectors number

abbrev pub KeepsIfAny : ℕ → Said → Option Said → Type 0
KeepsIfAny number said None = Unit {0}
KeepsIfAny number said (Some more) = Keeps number said more

nothing_changed : (number : ℕ) (said : Said) → Keeps number said said
nothing_changed number said = record { bad = refl; sectors = inl refl }

keeps_if : (number : ℕ) (said : Said) (test : Bool) (a b : Option Said) → KeepsIfAny number said a → KeepsIfAny number said b
    → KeepsIfAny number said (if test then a else b)
keeps_if number said true a b p q = p
keeps_if number said false a b p q = q

keeps_bind : (number : ℕ) (said : Said) (word : Option Keyword) (next : Keyword → Option Said)
    → ((k : Keyword) → KeepsIfAny number said (next k)) → KeepsIfAny number said (word >>= next)
keeps_bind number said None next h = tt
keeps_bind number said (Some k) next h = h k

boot_keeps-whole : (number : ℕ) (said : Said) (value : Change × List (List ℕ)) (test : Bool) → Places value.0
    → KeepsIfAny number said (with_boot said ((if test then Some value.0 else None) >>= λ (change : Change). Some (change number said.boot)))
boot_keeps-whole number said value true p = record { bad = refl; sectors = p number said.boot }
boot_keeps-whole number said value false p = tt

boot_keeps-at : (number : ℕ) (said : Said) (found : Option (Change × List (List ℕ))) → OnFound Places found
    → KeepsIfAny number said (with_boot said
    ((found >>= λ (value : Change × List (List ℕ)). if length value.1 == 0 then Some value.0 else None)
    >>= λ (change : Change). Some (change number said.boot)))
boot_keeps-at number said None p = tt
boot_keeps-at number said (Some value) p = boot_keeps-whole number said value (length value.1 == 0) p

boot_keeps : (word : Keyword) (number : ℕ) (words : List (List ℕ)) (said : Said)
    → KeepsIfAny number said (with_boot said (boot_after word number words said.boot))
boot_keeps word number words said = boot_keeps-at number said (change_of word words) (change_places word words)

more_keeps : (number : ℕ) (said : Said) (line : Option Line) → KeepsIfAny number said (with_more said line)
more_keeps number said None = tt
more_keeps number said (Some line) = record { bad = refl; sectors = inl refl }

keyword_keeps : (word : Keyword) (number : ℕ) (words : List (List ℕ)) (said : Said)
    → KeepsIfAny number said (with_keyword word number words said)
keyword_keeps word number words said =
    keeps_if number said (is_setup word)
    (if length said.lines == 0 then with_boot said (boot_after word number words said.boot) else None)
    (with_more said (whole (line_of word) words))
    (keeps_if number said (length said.lines == 0) (with_boot said (boot_after word number words said.boot)) None
    (boot_keeps word number words said) tt)
    (more_keeps number said (whole (line_of word) words))

words_keep : (number : ℕ) (words : List (List ℕ)) (said : Said) → KeepsIfAny number said (with_words number words said)
words_keep number [] said = tt
words_keep number (first ∷ words) said =
    keeps_bind number said (keyword_of first) (λ (word : Keyword). with_keyword word number words said) (λ word. keyword_keeps word number words said)

line_keeps : (number : ℕ) (text : List ℕ) (said : Said) → KeepsIfAny number said (with_line number text said)
line_keeps number [] said = nothing_changed number said
line_keeps number (byte ∷ text) said =
    keeps_if number said (byte == 35) (Some said) (with_words number (words_of (byte ∷ text)) said)
    (nothing_changed number said) (words_keep number (words_of (byte ∷ text)) said)

-- a line that is taken
pub taken_keeps : (number : ℕ) (text : List ℕ) (said more : Said) → with_line number text said ≡ Some more → Keeps number said more
taken_keeps number text said more e = subst (KeepsIfAny number said) e (line_keeps number text said)

-- the sectors are in the order of their lines, which are from the first number on and below the second
abbrev pub Rising : ℕ → List Filled → ℕ → Type 0
Rising least [] bound = least ≤ bound
Rising least (sector ∷ sectors) bound = (least ≤ sector.line) × Rising (sector.line + 1) sectors bound

rising_more : (least : ℕ) (sectors : List Filled) (bound : ℕ) → Rising least sectors bound → Rising least sectors (bound + 1)
rising_more least [] bound h = omega (arith, h)
rising_more least (sector ∷ sectors) bound h = (h.0, rising_more (sector.line + 1) sectors bound h.1)

rising_added : (least : ℕ) (sectors : List Filled) (bound : ℕ) (filled : Filled) → filled.line ≡ bound → Rising least sectors bound
    → Rising least (sectors ++ (filled ∷ [])) (bound + 1)
rising_added least [] bound filled e h = (omega (arith, e, h), omega (arith, e))
rising_added least (sector ∷ sectors) bound filled e h = (h.0, rising_added (sector.line + 1) sectors bound filled e h.1)

-- a further line, taken or not, keeps them so
rising_taken : (number : ℕ) (old new : List Filled) → Adds old new number → Rising 1 old number → Rising 1 new (number + 1)
rising_taken number old new (inl e) h = subst (λ (sectors : List Filled). Rising 1 sectors (number + 1)) (sym e) (rising_more 1 old number h)
rising_taken number old new (inr added) h =
    subst (λ (sectors : List Filled). Rising 1 sectors (number + 1)) (sym added.all) (rising_added 1 old number added.filled added.numbered h)

rising_unless : (number : ℕ) (said : Said) (more : Option Said) → KeepsIfAny number said more → Rising 1 said.boot.sectors number
    → Rising 1 (unless_bad number said more).boot.sectors (number + 1)
rising_unless number said None kept h = rising_more 1 said.boot.sectors number h
rising_unless number said (Some more) kept h = rising_taken number said.boot.sectors more.boot.sectors kept.sectors h

pub rising_line : (number : ℕ) (text : List ℕ) (said : Said) → Rising 1 said.boot.sectors number
    → Rising 1 (unless_bad number said (with_line number text said)).boot.sectors (number + 1)
rising_line number text said h = rising_unless number said (with_line number text said) (line_keeps number text said) h
