-- The lines are read one after another. A line that is not valid there stays the first bad one, and every line before
-- it was taken; so what was read names the first such line. The sectors are in the order of their lines, so the first
-- that is astray is the one with the lowest line.
use Rattle.std.proofs.Common.{◌≡◌, ℕ, ◌+◌, ◌-◌, ◌<◌, ◌≤◌, ◌⊎◌, inl, inr, List, [], ◌∷◌, ◌++◌, length, Bool, true, false, Option, Some, None, refl, sym, ap, subst, ◌∙◌, arith}
use Rattle.std.specs.Prelude.{nat_lt}
use Rattle.std.specs.Option.{option_or}
use Rattle.std.proofs.lemmas.Bool.{ltb-false, ltb-true}
use Rattle.std.proofs.lemmas.Option.{none-some, same_Some}
use Rattle.script_language.specs.Text.{text_of}
use Rattle.script_language.specs.Meaning.{Said, read, unless_bad, with_bad, with_line}
use Rattle.script_language.specs.BadLines.{bytes_in}
use Rattle.script_language.proofs.Kept.{taken_keeps}

-- the line of this number among these is not valid, if they are read from the first number on, in this much room, after
-- what was said
pub record NoLineIn (room number : ℕ) (said : Said) (lines : List (List ℕ)) (bad : ℕ) : Type 0 where
  pub before : List (List ℕ)
  pub line : List ℕ
  pub after : List (List ℕ)
  pub all : lines ≡ before ++ (line ∷ after)
  pub counted : bad ≡ number + length before
  pub none : (room < bytes_in before + length line) ⊎ (with_line bad (text_of line) (read room number before said) ≡ None)

-- how reading goes on after a line that fits
abbrev pub next_said : ℕ → List ℕ → Said → Said
next_said number line said = unless_bad number said (with_line number (text_of line) said)

pub read_on : (room number : ℕ) (line : List ℕ) (lines : List (List ℕ)) (said : Said) → nat_lt room (length line) ≡ false
    → read room number (line ∷ lines) said ≡ read (room - length line) (number + 1) lines (next_said number line said)
unfolding read
read_on room number line lines said e = rw e refl

pub read_no_more : (room number : ℕ) (line : List ℕ) (lines : List (List ℕ)) (said : Said) → nat_lt room (length line) ≡ true
    → read room number (line ∷ lines) said ≡ with_bad number said
unfolding read
read_no_more room number line lines said e = rw e refl

pub read_nothing : (room number : ℕ) (said : Said) → read room number [] said ≡ said
unfolding read
read_nothing room number said = refl

pub next_taken : (number : ℕ) (line : List ℕ) (said more : Said) → with_line number (text_of line) said ≡ Some more
    → next_said number line said ≡ more
next_taken number line said more e = ap (unless_bad number said) e

pub next_bad : (number : ℕ) (line : List ℕ) (said : Said) → with_line number (text_of line) said ≡ None
    → next_said number line said ≡ with_bad number said
next_bad number line said e = ap (unless_bad number said) e

bad_stays_in_next-at : (number : ℕ) (line : List ℕ) (said : Said) (k : ℕ) (more : Option Said)
    → with_line number (text_of line) said ≡ more → said.bad ≡ Some k → (next_said number line said).bad ≡ Some k
bad_stays_in_next-at number line said k None e h =
    ap (λ (s : Said). s.bad) (next_bad number line said e) ∙ ap (λ (bad : Option ℕ). option_or bad (Some number)) h
bad_stays_in_next-at number line said k (Some more) e h =
    ap (λ (s : Said). s.bad) (next_taken number line said more e) ∙ (taken_keeps number (text_of line) said more e).bad ∙ h

bad_stays_in_next : (number : ℕ) (line : List ℕ) (said : Said) (k : ℕ) → said.bad ≡ Some k → (next_said number line said).bad ≡ Some k
bad_stays_in_next number line said k h = bad_stays_in_next-at number line said k (with_line number (text_of line) said) refl h

bad_stays-at : (line : List ℕ) (lines : List (List ℕ)) (room number : ℕ) (said : Said) (k : ℕ) (test : Bool) → nat_lt room (length line) ≡ test
    → said.bad ≡ Some k
    → (read (room - length line) (number + 1) lines (next_said number line said)).bad ≡ Some k
    → (read room number (line ∷ lines) said).bad ≡ Some k
bad_stays-at line lines room number said k true e h rest =
    ap (λ (s : Said). s.bad) (read_no_more room number line lines said e) ∙ ap (λ (bad : Option ℕ). option_or bad (Some number)) h
bad_stays-at line lines room number said k false e h rest = ap (λ (s : Said). s.bad) (read_on room number line lines said e) ∙ rest

pub bad_stays : (lines : List (List ℕ)) (room number : ℕ) (said : Said) (k : ℕ) → said.bad ≡ Some k → (read room number lines said).bad ≡ Some k
bad_stays [] room number said k h = ap (λ (s : Said). s.bad) (read_nothing room number said) ∙ h
bad_stays (line ∷ lines) room number said k h =
    bad_stays-at line lines room number said k (nat_lt room (length line)) refl h
    (bad_stays lines (room - length line) (number + 1) (next_said number line said) k (bad_stays_in_next number line said k h))

-- a line after one that fits
after_one-none : (room number : ℕ) (said : Said) (line : List ℕ) (before : List (List ℕ)) (found : List ℕ) (bad : ℕ)
    → nat_lt room (length line) ≡ false
    → ((room - length line < bytes_in before + length found)
    ⊎ (with_line bad (text_of found) (read (room - length line) (number + 1) before (next_said number line said)) ≡ None))
    → (room < bytes_in (line ∷ before) + length found) ⊎ (with_line bad (text_of found) (read room number (line ∷ before) said) ≡ None)
after_one-none room number said line before found bad e (inl far) = inl (let fits = ltb-false room (length line) e in omega (arith, far, fits))
after_one-none room number said line before found bad e (inr none) =
    inr (subst (λ (s : Said). with_line bad (text_of found) s ≡ None) (sym (read_on room number line before said e)) none)

after_one : (room number : ℕ) (said : Said) (line : List ℕ) (lines : List (List ℕ)) (bad : ℕ) → nat_lt room (length line) ≡ false
    → NoLineIn (room - length line) (number + 1) (next_said number line said) lines bad → NoLineIn room number said (line ∷ lines) bad
after_one room number said line lines bad e h = record {
  before = line ∷ h.before;
  line = h.line;
  after = h.after;
  all = ap (λ (rest : List (List ℕ)). line ∷ rest) h.all;
  counted = let c = h.counted in omega (arith, c);
  none = after_one-none room number said line h.before h.line bad e h.none;
}

-- what was read names a line that is not valid
named-far : (room number : ℕ) (said : Said) (line : List ℕ) (lines : List (List ℕ)) (k : ℕ) → nat_lt room (length line) ≡ true
    → said.bad ≡ None → (read room number (line ∷ lines) said).bad ≡ Some k → NoLineIn room number said (line ∷ lines) k
named-far room number said line lines k e none h =
    let is : number ≡ k = same_Some number k (sym (ap (λ (bad : Option ℕ). option_or bad (Some number)) none)
    ∙ sym (ap (λ (s : Said). s.bad) (read_no_more room number line lines said e)) ∙ h) in
    let far : room < length line = ltb-true room (length line) e in
    record { before = []; line = line; after = lines; all = refl; counted = omega (arith, is); none = inl (omega (arith, far)) }

named-here : (room number : ℕ) (said : Said) (line : List ℕ) (lines : List (List ℕ)) (k : ℕ) → said.bad ≡ None
    → with_line number (text_of line) said ≡ None
    → (read (room - length line) (number + 1) lines (next_said number line said)).bad ≡ Some k → NoLineIn room number said (line ∷ lines) k
named-here room number said line lines k none e h =
    let bad : (next_said number line said).bad ≡ Some number
    = ap (λ (s : Said). s.bad) (next_bad number line said e) ∙ ap (λ (b : Option ℕ). option_or b (Some number)) none in
    let is : number ≡ k = same_Some number k
    (sym (bad_stays lines (room - length line) (number + 1) (next_said number line said) number bad) ∙ h) in
    record {
      before = [];
      line = line;
      after = lines;
      all = refl;
      counted = omega (arith, is);
      none = inr (subst (λ (n : ℕ). with_line n (text_of line) (read room number [] said) ≡ None) is
          (subst (λ (s : Said). with_line number (text_of line) s ≡ None) (sym (read_nothing room number said)) e));
    }

named-on : (room number : ℕ) (said : Said) (line : List ℕ) (lines : List (List ℕ)) (k : ℕ) (more : Option Said)
    → nat_lt room (length line) ≡ false → said.bad ≡ None → with_line number (text_of line) said ≡ more
    → ((next_said number line said).bad ≡ None → NoLineIn (room - length line) (number + 1) (next_said number line said) lines k)
    → (read (room - length line) (number + 1) lines (next_said number line said)).bad ≡ Some k → NoLineIn room number said (line ∷ lines) k
named-on room number said line lines k None fits none e rest h = named-here room number said line lines k none e h
named-on room number said line lines k (Some more) fits none e rest h =
    after_one room number said line lines k fits (rest
    (ap (λ (s : Said). s.bad) (next_taken number line said more e) ∙ (taken_keeps number (text_of line) said more e).bad ∙ none))

named-at : (room number : ℕ) (said : Said) (line : List ℕ) (lines : List (List ℕ)) (k : ℕ) (test : Bool) → nat_lt room (length line) ≡ test
    → said.bad ≡ None
    → ((next_said number line said).bad ≡ None → (read (room - length line) (number + 1) lines (next_said number line said)).bad ≡ Some k
    → NoLineIn (room - length line) (number + 1) (next_said number line said) lines k)
    → (read room number (line ∷ lines) said).bad ≡ Some k → NoLineIn room number said (line ∷ lines) k
named-at room number said line lines k true e none rest h = named-far room number said line lines k e none h
named-at room number said line lines k false e none rest h =
    let on : (read (room - length line) (number + 1) lines (next_said number line said)).bad ≡ Some k
    = sym (ap (λ (s : Said). s.bad) (read_on room number line lines said e)) ∙ h in
    named-on room number said line lines k (with_line number (text_of line) said) e none refl (λ b. rest b on) on

pub named : (lines : List (List ℕ)) (room number : ℕ) (said : Said) (k : ℕ) → said.bad ≡ None
    → (read room number lines said).bad ≡ Some k → NoLineIn room number said lines k
named [] room number said k none h =
    absurd (none-some k (sym none ∙ sym (ap (λ (s : Said). s.bad) (read_nothing room number said)) ∙ h))
named (line ∷ lines) room number said k none h =
    named-at room number said line lines k (nat_lt room (length line)) refl none
    (λ b on. named lines (room - length line) (number + 1) (next_said number line said) k b on) h

-- a line is named that is not after this one
pub record NamesBy (said : Said) (bad : ℕ) : Type 0 where
  pub line : ℕ
  pub named : said.bad ≡ Some line
  pub first : line ≤ bad

-- if a line is not valid, one that is not after it is named

names_far : (room number : ℕ) (said : Said) (line : List ℕ) (lines : List (List ℕ)) (bad : ℕ) → nat_lt room (length line) ≡ true
    → said.bad ≡ None → number ≤ bad → NamesBy (read room number (line ∷ lines) said) bad
names_far room number said line lines bad e none within = record {
  line = number;
  named = ap (λ (s : Said). s.bad) (read_no_more room number line lines said e) ∙ ap (λ (b : Option ℕ). option_or b (Some number)) none;
  first = within;
}

names_here : (room number : ℕ) (said : Said) (line : List ℕ) (lines : List (List ℕ)) (bad : ℕ) → nat_lt room (length line) ≡ false
    → said.bad ≡ None → with_line number (text_of line) said ≡ None → number ≤ bad → NamesBy (read room number (line ∷ lines) said) bad
names_here room number said line lines bad e none h within = record {
  line = number;
  named = ap (λ (s : Said). s.bad) (read_on room number line lines said e)
      ∙ bad_stays lines (room - length line) (number + 1) (next_said number line said) number
      (ap (λ (s : Said). s.bad) (next_bad number line said h) ∙ ap (λ (b : Option ℕ). option_or b (Some number)) none);
  first = within;
}

names_last : (room number : ℕ) (said : Said) (line : List ℕ) (after : List (List ℕ)) (bad : ℕ) (test : Bool) → nat_lt room (length line) ≡ test
    → said.bad ≡ None → bad ≡ number
    → ((room < length line) ⊎ (with_line bad (text_of line) said ≡ None))
    → NamesBy (read room number (line ∷ after) said) bad
names_last room number said line after bad true e none is h = names_far room number said line after bad e none (omega (arith, is))
names_last room number said line after bad false e none is (inl far) =
    let fits = ltb-false room (length line) e in absurd (omega (arith, far, fits))
names_last room number said line after bad false e none is (inr h) =
    names_here room number said line after bad e none (subst (λ (n : ℕ). with_line n (text_of line) said ≡ None) is h) (omega (arith, is))

names_on : (room number : ℕ) (said : Said) (line : List ℕ) (lines : List (List ℕ)) (bad : ℕ) (more : Option Said)
    → nat_lt room (length line) ≡ false → said.bad ≡ None → number ≤ bad → with_line number (text_of line) said ≡ more
    → ((next_said number line said).bad ≡ None → NamesBy (read (room - length line) (number + 1) lines (next_said number line said)) bad)
    → NamesBy (read room number (line ∷ lines) said) bad
names_on room number said line lines bad None fits none within e rest = names_here room number said line lines bad fits none e within
names_on room number said line lines bad (Some more) fits none within e rest =
    subst (λ (s : Said). NamesBy s bad) (sym (read_on room number line lines said fits)) (rest
    (ap (λ (s : Said). s.bad) (next_taken number line said more e) ∙ (taken_keeps number (text_of line) said more e).bad ∙ none))

before_one : (room number : ℕ) (said : Said) (line : List ℕ) (before : List (List ℕ)) (found : List ℕ) (bad : ℕ)
    → nat_lt room (length line) ≡ false
    → (room < bytes_in (line ∷ before) + length found) ⊎ (with_line bad (text_of found) (read room number (line ∷ before) said) ≡ None)
    → (room - length line < bytes_in before + length found)
    ⊎ (with_line bad (text_of found) (read (room - length line) (number + 1) before (next_said number line said)) ≡ None)
before_one room number said line before found bad e (inl far) = inl (let fits = ltb-false room (length line) e in omega (arith, far, fits))
before_one room number said line before found bad e (inr none) =
    inr (subst (λ (s : Said). with_line bad (text_of found) s ≡ None) (read_on room number line before said e) none)

names_at : (room number : ℕ) (said : Said) (line : List ℕ) (before : List (List ℕ)) (found : List ℕ) (after : List (List ℕ)) (bad : ℕ) (test : Bool)
    → nat_lt room (length line) ≡ test → said.bad ≡ None → number ≤ bad
    → ((room < bytes_in (line ∷ before) + length found) ⊎ (with_line bad (text_of found) (read room number (line ∷ before) said) ≡ None))
    → ((next_said number line said).bad ≡ None
    → ((room - length line < bytes_in before + length found)
    ⊎ (with_line bad (text_of found) (read (room - length line) (number + 1) before (next_said number line said)) ≡ None))
    → NamesBy (read (room - length line) (number + 1) (before ++ (found ∷ after)) (next_said number line said)) bad)
    → NamesBy (read room number (line ∷ (before ++ (found ∷ after))) said) bad
names_at room number said line before found after bad true e none within h rest =
    names_far room number said line (before ++ (found ∷ after)) bad e none within
names_at room number said line before found after bad false e none within h rest =
    names_on room number said line (before ++ (found ∷ after)) bad (with_line number (text_of line) said) e none within refl
    (λ b. rest b (before_one room number said line before found bad e h))

none_first : (room number : ℕ) (said : Said) (line : List ℕ) (bad : ℕ)
    → (room < 0 + length line) ⊎ (with_line bad (text_of line) (read room number [] said) ≡ None)
    → (room < length line) ⊎ (with_line bad (text_of line) said ≡ None)
none_first room number said line bad (inl far) = inl (omega (arith, far))
none_first room number said line bad (inr none) = inr (subst (λ (s : Said). with_line bad (text_of line) s ≡ None) (read_nothing room number said) none)

pub names : (before : List (List ℕ)) (line : List ℕ) (after : List (List ℕ)) (room number : ℕ) (said : Said) (bad : ℕ)
    → said.bad ≡ None → bad ≡ number + length before
    → ((room < bytes_in before + length line) ⊎ (with_line bad (text_of line) (read room number before said) ≡ None))
    → NamesBy (read room number (before ++ (line ∷ after)) said) bad
names [] line after room number said bad none counted h =
    names_last room number said line after bad (nat_lt room (length line)) refl none (omega (arith, counted)) (none_first room number said line bad h)
names (first ∷ before) line after room number said bad none counted h =
    names_at room number said first before line after bad (nat_lt room (length first)) refl none (omega (arith, counted)) h
    (λ b g. names before line after (room - length first) (number + 1) (next_said number first said) bad b (omega (arith, counted)) g)
