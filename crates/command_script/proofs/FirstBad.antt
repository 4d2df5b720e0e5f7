-- The first bad line of a text is the one for which the text is no script. Up to it nothing is bad, so what was said so far is
-- what reading the script has found. After it a bad line has a greater number, and so has a sector that is astray.
use Rattle.std.proofs.Common.{◌≡◌, ℕ, zero, suc, ◌+◌, ◌-◌, ◌<◌, ◌≤◌, ◌⊎◌, inl, inr, List, [], ◌∷◌, ◌++◌, length, Bool, true, false, Option, Some, None, Result, Ok, Err, refl, sym, ap, subst, ◌∙◌, arith, get_or, length-append}
use Rattle.std.specs.Prelude.{nat_lt, nat_le, min, slice_get, ◌&&◌, if◌then◌else◌}
use Rattle.std.specs.Option.{option_or}
use Rattle.std.proofs.Math.Seq.{get_or-append_seam}
use Rattle.std.proofs.lemmas.Bool.{eq-eqb, ne_eqb}
use Rattle.std.proofs.lemmas.Option.{slice_get-get_or, slice_get_within, get_or_from_slice_get}
use Rattle.command_script.specs.Linting.{Bad, bad_from, bad_lines, first_number, is_bad}
use Rattle.script_language.specs.Booting.{Boot, Filled}
use Rattle.script_language.specs.Meaning.{Said, astray_among, first_astray, is_astray, is_of_line, lower_of, nothing_said, read, said_in, script_of, script_unless, with_line}
use Rattle.script_language.specs.Text.{lines_of, text_of}
use Rattle.script_language.specs.declared.line.Line.{Line}
use Rattle.script_language.proofs.FirstBad.{NoLineIn, bad_stays, named, next_bad, next_said, next_taken, read_no_more, read_nothing, read_on}
use Rattle.script_language.proofs.Kept.{Adds, IsAdded, Rising, rising_line, taken_keeps}

-- ---- a number that is not below another

abbrev AtLeast : ℕ → Option ℕ → Type 0
AtLeast n None = Unit {0}
AtLeast n (Some k) = n ≤ k

later : (n : ℕ) (found : Option ℕ) → AtLeast (n + 1) found → AtLeast n found
later n None h = tt
later n (Some k) h = omega (arith, h)

min_first : (n k : ℕ) → n ≤ k → min n k ≡ n
min_first n k h = omega (arith, h)

min_second : (k n : ℕ) → n ≤ k → min k n ≡ n
min_second k n h = omega (arith, h)

lower_first : (n : ℕ) (other : Option ℕ) → AtLeast n other → lower_of (Some n) other ≡ Some n
lower_first n None h = refl
lower_first n (Some k) h = ap (λ (m : ℕ). Some m) (min_first n k h)

lower_second : (other : Option ℕ) (n : ℕ) → AtLeast n other → lower_of other (Some n) ≡ Some n
lower_second None n h = refl
lower_second (Some k) n h = ap (λ (m : ℕ). Some m) (min_second k n h)

-- ---- the first line that is not valid

bad_later-at : (lines : List (List ℕ)) (room number : ℕ) (said : Said) (bad : Option ℕ) → said.bad ≡ None
    → (read room number lines said).bad ≡ bad → AtLeast number bad
bad_later-at lines room number said None none e = tt
bad_later-at lines room number said (Some k) none e =
    let h : NoLineIn room number said lines k = named lines room number said k none e in
    let counted = h.counted in
    omega (arith, counted)

bad_later : (lines : List (List ℕ)) (room number : ℕ) (said : Said) → said.bad ≡ None → AtLeast number (read room number lines said).bad
bad_later lines room number said none = bad_later-at lines room number said (read room number lines said).bad none refl

-- ---- sectors that are astray

module _ (drives : ℕ) where
  among-at : (sector : Filled) (sectors : List Filled) (test : Bool) → nat_le drives sector.drive ≡ test
      → astray_among drives (sector ∷ sectors) ≡ (if test then Some sector.line else astray_among drives sectors)
  among-at sector sectors test e = ap (λ b. if b then Some sector.line else astray_among drives sectors) e

  -- one that is astray stays the first
  stays-at : (sector : Filled) (sectors more : List Filled) (k : ℕ) (test : Bool) → nat_le drives sector.drive ≡ test
      → (astray_among drives sectors ≡ Some k → astray_among drives (sectors ++ more) ≡ Some k)
      → astray_among drives (sector ∷ sectors) ≡ Some k → astray_among drives (sector ∷ (sectors ++ more)) ≡ Some k
  stays-at sector sectors more k true e rest h = among-at sector (sectors ++ more) true e ∙ sym (among-at sector sectors true e) ∙ h
  stays-at sector sectors more k false e rest h =
      among-at sector (sectors ++ more) false e ∙ rest (sym (among-at sector sectors false e) ∙ h)

  stays : (sectors more : List Filled) (k : ℕ) → astray_among drives sectors ≡ Some k → astray_among drives (sectors ++ more) ≡ Some k
  stays [] more k h = cc
  stays (sector ∷ sectors) more k h = stays-at sector sectors more k (nat_le drives sector.drive) refl (stays sectors more k) h

  -- if none is, the next may be
  next-at : (sector : Filled) (sectors more : List Filled) (test : Bool) → nat_le drives sector.drive ≡ test
      → (astray_among drives sectors ≡ None → astray_among drives (sectors ++ more) ≡ astray_among drives more)
      → astray_among drives (sector ∷ sectors) ≡ None → astray_among drives (sector ∷ (sectors ++ more)) ≡ astray_among drives more
  next-at sector sectors more true e rest h =
      let is : Some sector.line ≡ None = sym (among-at sector sectors true e) ∙ h in cc
  next-at sector sectors more false e rest h =
      among-at sector (sectors ++ more) false e ∙ rest (sym (among-at sector sectors false e) ∙ h)

  next : (sectors more : List Filled) → astray_among drives sectors ≡ None → astray_among drives (sectors ++ more) ≡ astray_among drives more
  next [] more h = refl
  next (sector ∷ sectors) more h = next-at sector sectors more (nat_le drives sector.drive) refl (next sectors more) h

  -- a line that adds a sector, or none
  stays_added : (old new : List Filled) (number k : ℕ) → Adds old new number → astray_among drives old ≡ Some k → astray_among drives new ≡ Some k
  stays_added old new number k (inl same) h = ap (astray_among drives) same ∙ h
  stays_added old new number k (inr added) h = ap (astray_among drives) added.all ∙ stays old (added.filled ∷ []) k h

  next_added-at : (filled : Filled) (number : ℕ) (test : Bool) → nat_le drives filled.drive ≡ test → filled.line ≡ number
      → (astray_among drives (filled ∷ []) ≡ None) ⊎ (astray_among drives (filled ∷ []) ≡ Some number)
  next_added-at filled number true e is = inr (among-at filled [] true e ∙ ap (λ (n : ℕ). Some n) is)
  next_added-at filled number false e is = inl (among-at filled [] false e)

  next_added : (old new : List Filled) (number : ℕ) → Adds old new number → astray_among drives old ≡ None
      → (astray_among drives new ≡ None) ⊎ (astray_among drives new ≡ Some number)
  next_added old new number (inl same) h = inl (ap (astray_among drives) same ∙ h)
  next_added old new number (inr added) h =
      let is : astray_among drives new ≡ astray_among drives (added.filled ∷ [])
      = ap (astray_among drives) added.all ∙ next old (added.filled ∷ []) h in
      elim (next_added-at added.filled number (nat_le drives added.filled.drive) refl added.numbered) [
        | inl e ↦ inl (is ∙ e)
        | inr e ↦ inr (is ∙ e)
      ]

  -- one more line is read
  adds_next-at : (number : ℕ) (line : List ℕ) (said : Said) (more : Option Said) → with_line number (text_of line) said ≡ more
      → Adds said.boot.sectors (next_said number line said).boot.sectors number
  adds_next-at number line said None e = inl (ap (λ (s : Said). s.boot.sectors) (next_bad number line said e))
  adds_next-at number line said (Some more) e =
      subst (λ (s : Said). Adds said.boot.sectors s.boot.sectors number) (sym (next_taken number line said more e))
      (taken_keeps number (text_of line) said more e).sectors

  adds_next : (number : ℕ) (line : List ℕ) (said : Said) → Adds said.boot.sectors (next_said number line said).boot.sectors number
  adds_next number line said = adds_next-at number line said (with_line number (text_of line) said) refl

  -- the first sector that is astray stays that
  astray_stays-at : (line : List ℕ) (lines : List (List ℕ)) (room number : ℕ) (said : Said) (k : ℕ) (test : Bool)
      → nat_lt room (length line) ≡ test → astray_among drives said.boot.sectors ≡ Some k
      → astray_among drives (read (room - length line) (number + 1) lines (next_said number line said)).boot.sectors ≡ Some k
      → astray_among drives (read room number (line ∷ lines) said).boot.sectors ≡ Some k
  astray_stays-at line lines room number said k true e h rest =
      ap (λ (s : Said). astray_among drives s.boot.sectors) (read_no_more room number line lines said e) ∙ h
  astray_stays-at line lines room number said k false e h rest =
      ap (λ (s : Said). astray_among drives s.boot.sectors) (read_on room number line lines said e) ∙ rest

  astray_stays : (lines : List (List ℕ)) (room number : ℕ) (said : Said) (k : ℕ) → astray_among drives said.boot.sectors ≡ Some k
      → astray_among drives (read room number lines said).boot.sectors ≡ Some k
  astray_stays [] room number said k h = ap (λ (s : Said). astray_among drives s.boot.sectors) (read_nothing room number said) ∙ h
  astray_stays (line ∷ lines) room number said k h =
      astray_stays-at line lines room number said k (nat_lt room (length line)) refl h
      (astray_stays lines (room - length line) (number + 1) (next_said number line said) k
      (stays_added said.boot.sectors (next_said number line said).boot.sectors number k (adds_next number line said) h))

  -- one that comes later has a line of its own
  is_later : (number : ℕ) (found : Option ℕ) (least : Option ℕ) → found ≡ least → AtLeast number least → AtLeast number found
  is_later number found least e h = subst (AtLeast number) (sym e) h

  astray_later-at : (line : List ℕ) (lines : List (List ℕ)) (room number : ℕ) (said : Said) (test : Bool)
      → nat_lt room (length line) ≡ test → astray_among drives said.boot.sectors ≡ None
      → AtLeast number (astray_among drives (read (room - length line) (number + 1) lines (next_said number line said)).boot.sectors)
      → AtLeast number (astray_among drives (read room number (line ∷ lines) said).boot.sectors)
  astray_later-at line lines room number said true e h rest =
      is_later number (astray_among drives (read room number (line ∷ lines) said).boot.sectors) None
      (ap (λ (s : Said). astray_among drives s.boot.sectors) (read_no_more room number line lines said e) ∙ h) tt
  astray_later-at line lines room number said false e h rest =
      is_later number (astray_among drives (read room number (line ∷ lines) said).boot.sectors)
      (astray_among drives (read (room - length line) (number + 1) lines (next_said number line said)).boot.sectors)
      (ap (λ (s : Said). astray_among drives s.boot.sectors) (read_on room number line lines said e)) rest

  astray_later-next : (lines : List (List ℕ)) (room number : ℕ) (next : Said)
      → (astray_among drives next.boot.sectors ≡ None → AtLeast (number + 1) (astray_among drives (read room (number + 1) lines next).boot.sectors))
      → (astray_among drives next.boot.sectors ≡ None) ⊎ (astray_among drives next.boot.sectors ≡ Some number)
      → AtLeast number (astray_among drives (read room (number + 1) lines next).boot.sectors)
  astray_later-next lines room number next rest (inl none) =
      later number (astray_among drives (read room (number + 1) lines next).boot.sectors) (rest none)
  astray_later-next lines room number next rest (inr here) =
      is_later number (astray_among drives (read room (number + 1) lines next).boot.sectors) (Some number) (astray_stays lines room (number + 1) next number here) (omega arith)

  astray_later : (lines : List (List ℕ)) (room number : ℕ) (said : Said) → astray_among drives said.boot.sectors ≡ None
      → AtLeast number (astray_among drives (read room number lines said).boot.sectors)
  astray_later [] room number said h =
      is_later number (astray_among drives (read room number [] said).boot.sectors) None
      (ap (λ (s : Said). astray_among drives s.boot.sectors) (read_nothing room number said) ∙ h) tt
  astray_later (line ∷ lines) room number said h =
      astray_later-at line lines room number said (nat_lt room (length line)) refl h
      (astray_later-next lines (room - length line) number (next_said number line said)
      (astray_later lines (room - length line) (number + 1) (next_said number line said))
      (next_added said.boot.sectors (next_said number line said).boot.sectors number (adds_next number line said) h))

  -- ---- whether the line that was taken last says a sector that is astray

  rising_within : (least : ℕ) (sectors : List Filled) (bound : ℕ) → Rising least sectors bound → least ≤ bound
  rising_within least [] bound h = h
  rising_within least (sector ∷ sectors) bound h =
      let low = h.0 in
      let rest = rising_within (sector.line + 1) sectors bound h.1 in
      omega (arith, low, rest)

  rising_below : (least : ℕ) (sectors : List Filled) (bound k : ℕ) (d : Filled) → Rising least sectors bound → k < length sectors
      → (get_or sectors k d).line < bound
  rising_below least [] bound k d h within = absurd (omega (arith, within))
  rising_below least (sector ∷ sectors) bound zero d h within =
      let rest = rising_within (sector.line + 1) sectors bound h.1 in
      let below : sector.line < bound = omega (arith, rest) in
      below
  rising_below least (sector ∷ sectors) bound (suc k) d h within =
      rising_below (sector.line + 1) sectors bound k d h.1 (omega (arith, within))

  not_of_line : (number : ℕ) (sector : Option Filled) → ((filled : Filled) → sector ≡ Some filled → filled.line < number)
      → is_of_line number drives sector ≡ false
  not_of_line number None below = refl
  not_of_line number (Some filled) below =
      let less = below filled refl in
      ap (λ b. b && nat_le drives filled.drive) (ne_eqb filled.line number (λ same. let lt = less in omega (arith, lt, same)))

  no_new : (number : ℕ) (sectors : List Filled) → Rising 1 sectors number → is_astray number drives sectors ≡ false
  no_new number sectors rising = not_of_line number (slice_get sectors (length sectors - 1)) (λ filled is.
      let within = slice_get_within sectors (length sectors - 1) filled is in
      let same = get_or_from_slice_get sectors (length sectors - 1) filled filled is in
      subst (λ (f : Filled). f.line < number) same (rising_below 1 sectors number (length sectors - 1) filled rising within))

  last_is : (sectors : List Filled) (filled : Filled)
      → slice_get (sectors ++ (filled ∷ [])) (length (sectors ++ (filled ∷ [])) - 1) ≡ Some filled
  last_is sectors filled =
      let long : length (sectors ++ (filled ∷ [])) ≡ length sectors + 1 = length-append sectors (filled ∷ []) in
      let place : length (sectors ++ (filled ∷ [])) - 1 ≡ length sectors = omega (arith, long) in
      ap (slice_get (sectors ++ (filled ∷ []))) place
      ∙ slice_get-get_or (sectors ++ (filled ∷ [])) (length sectors) filled (omega (arith, long))
      ∙ ap (λ (f : Filled). Some f) (get_or-append_seam sectors filled [] filled)

  added_is : (number : ℕ) (old new : List Filled) (added : IsAdded old new number)
      → is_astray number drives new ≡ nat_le drives added.filled.drive
  added_is number old new added =
      ap (λ (s : List Filled). is_astray number drives s) added.all
      ∙ ap (is_of_line number drives) (last_is old added.filled)
      ∙ ap (λ b. b && nat_le drives added.filled.drive) (eq-eqb added.filled.line number added.numbered)

  -- ---- the first bad line

  -- what reading names: the first line that is not valid, or the first that says a sector that is astray
  abbrev first_of : Said → Option ℕ
  first_of said = lower_of said.bad (astray_among drives said.boot.sectors)

  abbrev Finds : ℕ → ℕ → List (List ℕ) → Said → Type 0
  Finds room number lines said = first_number (bad_from drives room number lines said) ≡ first_of (read room number lines said)

  far : (room number : ℕ) (line : List ℕ) (lines : List (List ℕ)) (said : Said) → nat_lt room (length line) ≡ true → said.bad ≡ None
      → astray_among drives said.boot.sectors ≡ None → Finds room number (line ∷ lines) said
  unfolding bad_from
  far room number line lines said e none attached = rw e (sym
      (ap first_of (read_no_more room number line lines said e)
      ∙ ap (λ (b : Option ℕ). lower_of (option_or b (Some number)) (astray_among drives said.boot.sectors)) none
      ∙ ap (lower_of (Some number)) attached))

  -- a line that is bad is the first
  here : (room number : ℕ) (line : List ℕ) (lines : List (List ℕ)) (said : Said) → nat_lt room (length line) ≡ false
      → is_bad drives number (with_line number (text_of line) said) ≡ true
      → first_number (bad_from drives room number (line ∷ lines) said) ≡ Some number
  unfolding bad_from
  here room number line lines said e bad = rw e (rw bad refl)

  -- one that is not leaves the others
  on : (room number : ℕ) (line : List ℕ) (lines : List (List ℕ)) (said more : Said) → nat_lt room (length line) ≡ false
      → with_line number (text_of line) said ≡ Some more → is_astray number drives more.boot.sectors ≡ false
      → bad_from drives room number (line ∷ lines) said ≡ bad_from drives (room - length line) (number + 1) lines more
  unfolding bad_from
  on room number line lines said more e taken good = rw e (rw taken (rw good refl))

  bad_here : (room number : ℕ) (line : List ℕ) (lines : List (List ℕ)) (said : Said) → said.bad ≡ None
      → astray_among drives said.boot.sectors ≡ None → with_line number (text_of line) said ≡ None
      → first_of (read room (number + 1) lines (next_said number line said)) ≡ Some number
  bad_here room number line lines said none attached refused =
      let next = next_said number line said in
      let is : next.bad ≡ Some number = ap (λ (s : Said). s.bad) (next_bad number line said refused)
      ∙ ap (λ (b : Option ℕ). option_or b (Some number)) none in
      let sectors : astray_among drives next.boot.sectors ≡ None
      = ap (λ (s : Said). astray_among drives s.boot.sectors) (next_bad number line said refused) ∙ attached in
      ap (λ (b : Option ℕ). lower_of b (astray_among drives (read room (number + 1) lines next).boot.sectors))
      (bad_stays lines room (number + 1) next number is)
      ∙ lower_first number (astray_among drives (read room (number + 1) lines next).boot.sectors)
      (later number (astray_among drives (read room (number + 1) lines next).boot.sectors)
      (astray_later lines room (number + 1) next sectors))

  astray_here : (room number : ℕ) (lines : List (List ℕ)) (next : Said) → next.bad ≡ None
      → astray_among drives next.boot.sectors ≡ Some number → first_of (read room (number + 1) lines next) ≡ Some number
  astray_here room number lines next none here =
      ap (lower_of (read room (number + 1) lines next).bad) (astray_stays lines room (number + 1) next number here)
      ∙ lower_second (read room (number + 1) lines next).bad number (later number (read room (number + 1) lines next).bad (bad_later lines room (number + 1) next none))

  module _ (room number : ℕ) (line : List ℕ) (lines : List (List ℕ)) (said : Said) (fits : nat_lt room (length line) ≡ false)
      (none : said.bad ≡ None) (rising : Rising 1 said.boot.sectors number) (attached : astray_among drives said.boot.sectors ≡ None) where
    goes_on : first_of (read room number (line ∷ lines) said)
        ≡ first_of (read (room - length line) (number + 1) lines (next_said number line said))
    goes_on = ap first_of (read_on room number line lines said fits)

    module _ (more : Said) (taken : with_line number (text_of line) said ≡ Some more)
        (rest : more.bad ≡ None → Rising 1 more.boot.sectors (number + 1) → astray_among drives more.boot.sectors ≡ None
        → Finds (room - length line) (number + 1) lines more) where
      after : next_said number line said ≡ more
      after = next_taken number line said more taken

      still : more.bad ≡ None
      still = (taken_keeps number (text_of line) said more taken).bad ∙ none

      rises : Rising 1 more.boot.sectors (number + 1)
      rises = subst (λ (s : Said). Rising 1 s.boot.sectors (number + 1)) after (rising_line number (text_of line) said rising)

      good : is_astray number drives more.boot.sectors ≡ false → astray_among drives more.boot.sectors ≡ None
          → Finds room number (line ∷ lines) said
      good is attached' = ap first_number (on room number line lines said more fits taken is) ∙ rest still rises attached'
          ∙ ap (λ (s : Said). first_of (read (room - length line) (number + 1) lines s)) (sym after) ∙ sym goes_on

      astray : is_astray number drives more.boot.sectors ≡ true → astray_among drives more.boot.sectors ≡ Some number
          → Finds room number (line ∷ lines) said
      astray is there =
          here room number line lines said fits (ap (is_bad drives number) taken ∙ is)
          ∙ sym (astray_here (room - length line) number lines more still there)
          ∙ ap (λ (s : Said). first_of (read (room - length line) (number + 1) lines s)) (sym after) ∙ sym goes_on

      with_added : (added : IsAdded said.boot.sectors more.boot.sectors number) (test : Bool) → nat_le drives added.filled.drive ≡ test
          → Finds room number (line ∷ lines) said
      with_added added true e = astray (added_is number said.boot.sectors more.boot.sectors added ∙ e)
          (ap (astray_among drives) added.all ∙ next said.boot.sectors (added.filled ∷ []) attached
          ∙ among-at added.filled [] true e ∙ ap (λ (n : ℕ). Some n) added.numbered)
      with_added added false e = good (added_is number said.boot.sectors more.boot.sectors added ∙ e)
          (ap (astray_among drives) added.all ∙ next said.boot.sectors (added.filled ∷ []) attached
          ∙ among-at added.filled [] false e)

      by_sectors : Adds said.boot.sectors more.boot.sectors number → Finds room number (line ∷ lines) said
      by_sectors (inl same) =
          good (ap (is_astray number drives) same ∙ no_new number said.boot.sectors rising) (ap (astray_among drives) same ∙ attached)
      by_sectors (inr added) = with_added added (nat_le drives added.filled.drive) refl

    by_line : (more : Option Said) → with_line number (text_of line) said ≡ more
        → ((next : Said) → next.bad ≡ None → Rising 1 next.boot.sectors (number + 1) → astray_among drives next.boot.sectors ≡ None
        → Finds (room - length line) (number + 1) lines next)
        → Finds room number (line ∷ lines) said
    by_line None refused rest =
        here room number line lines said fits (ap (is_bad drives number) refused)
        ∙ sym (bad_here (room - length line) number line lines said none attached refused) ∙ sym goes_on
    by_line (Some more) taken rest = by_sectors more taken (rest more) (taken_keeps number (text_of line) said more taken).sectors

  by_room : (line : List ℕ) (lines : List (List ℕ)) (room number : ℕ) (said : Said) (test : Bool) → nat_lt room (length line) ≡ test
      → said.bad ≡ None → Rising 1 said.boot.sectors number → astray_among drives said.boot.sectors ≡ None
      → ((next : Said) → next.bad ≡ None → Rising 1 next.boot.sectors (number + 1) → astray_among drives next.boot.sectors ≡ None
      → Finds (room - length line) (number + 1) lines next)
      → Finds room number (line ∷ lines) said
  by_room line lines room number said true e none rising attached rest = far room number line lines said e none attached
  by_room line lines room number said false e none rising attached rest =
      by_line room number line lines said e none rising attached (with_line number (text_of line) said) refl rest

  no_line : (room number : ℕ) (said : Said) → said.bad ≡ None → astray_among drives said.boot.sectors ≡ None → Finds room number [] said
  unfolding bad_from
  no_line room number said none attached = sym (ap first_of (read_nothing room number said)
      ∙ ap (λ (b : Option ℕ). lower_of b (astray_among drives said.boot.sectors)) none ∙ ap (lower_of None) attached)

  finds : (lines : List (List ℕ)) (room number : ℕ) (said : Said) → said.bad ≡ None → Rising 1 said.boot.sectors number
      → astray_among drives said.boot.sectors ≡ None → Finds room number lines said
  finds [] room number said none rising attached = no_line room number said none attached
  finds (line ∷ lines) room number said none rising attached =
      by_room line lines room number said (nat_lt room (length line)) refl none rising attached
      (finds lines (room - length line) (number + 1))

-- ---- a script, or its first bad line

first_is : (text : List ℕ) → first_number (bad_lines text) ≡ lower_of (said_in text).bad (first_astray (said_in text).boot)
first_is text = finds (said_in text).boot.drives (lines_of text) 1048576 1 nothing_said refl (omega arith) refl

by_first : (text : List ℕ) (first : Option ℕ) (script : Result (Boot × List Line) ℕ)
    → lower_of (said_in text).bad (first_astray (said_in text).boot) ≡ first → script_of text ≡ script
    → script_unless first (said_in text) ≡ script
unfolding script_of
by_first text first script e is = ap (λ (f : Option ℕ). script_unless f (said_in text)) (sym e) ∙ is

refused-at : (text : List ℕ) (line : ℕ) (first : Option ℕ) → script_unless first (said_in text) ≡ Err line → first ≡ Some line
refused-at text line None e = cc
refused-at text line (Some k) e = cc

-- a text that is none: the first of its bad lines is named
pub refused : (text : List ℕ) (line : ℕ) → script_of text ≡ Err line → first_number (bad_lines text) ≡ Some line
refused text line is =
    first_is text ∙ refused-at text line (lower_of (said_in text).bad (first_astray (said_in text).boot))
    (by_first text (lower_of (said_in text).bad (first_astray (said_in text).boot)) (Err line) refl is)

taken-at : (text : List ℕ) (script : Boot × List Line) (first : Option ℕ) → script_unless first (said_in text) ≡ Ok script → first ≡ None
taken-at text script None e = refl
taken-at text script (Some k) e = cc

no_first : (bads : List Bad) → first_number bads ≡ None → bads ≡ []
no_first [] e = refl
no_first (bad ∷ bads) e = cc

-- one that is a script has none
pub taken : (text : List ℕ) (script : Boot × List Line) → script_of text ≡ Ok script → bad_lines text ≡ []
taken text script is = no_first (bad_lines text)
    (first_is text ∙ taken-at text script (lower_of (said_in text).bad (first_astray (said_in text).boot))
    (by_first text (lower_of (said_in text).bad (first_astray (said_in text).boot)) (Ok script) refl is))
