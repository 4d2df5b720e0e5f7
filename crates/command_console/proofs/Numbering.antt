-- A number for each place, by which its host is one of the fleet from the first: the one that the outside gives it at some time,
-- or one that it gives nobody.
use Rattle.std.proofs.Common.{ℕ, ◌≡◌, ◌+◌, ◌<◌, Bool, true, false, cond, Option, Some, None, refl, sym, ap, ◌∙◌, inl, inr, arith, ltb-true}
use Rattle.std.specs.Prelude.{nat_lt, slice_get}
use Rattle.std.proofs.lemmas.Option.{same_Some, slice_get_within}
use Rattle.guest_lockstep.specs.Machine.{Machine}
use Rattle.outside_switch.specs.Held.{Held}
use Rattle.outside_switch.proofs.Numbers.{numbers_count, stay_apart}
use Rattle.outside_switch.proofs.Running.{moved_more}
use Rattle.outside_switch.specs.Goes as goes
use Rattle.outside_switch.specs.Goes.{Goes}
use Rattle.outside_switch.specs.Lines.{AreApart, number_at, number_in}
use Rattle.outside_switch.specs.Meets.{Seen}
use Rattle.outside_switch.specs.declared.line.HostLine.{HostLine}
use Rattle.command_console.specs.Processes.{OutsideHasBooted}

abbrev pub number_or : ℕ → Option ℕ → ℕ
number_or other None = other
number_or other (Some n) = n

abbrev pub numbering : Seen → ℕ → ℕ
numbering seen place = number_or (seen.devices.hosts + place) (number_at seen.lines place)

-- the numbers that were given are those of hosts that are there
abbrev pub AreCounted : Seen → Type 0
AreCounted seen = (place n : ℕ) → number_at seen.lines place ≡ Some n → n < seen.devices.hosts

pub numbering_fits : (seen : Seen) (place n : ℕ) → number_at seen.lines place ≡ Some n → numbering seen place ≡ n
numbering_fits seen place n is = ap (number_or (seen.devices.hosts + place)) is

pub numbering_low : (seen : Seen) → AreCounted seen → (place places : ℕ) → place < places →
    numbering seen place < seen.devices.hosts + places
numbering_low seen counted place places low = go (number_at seen.lines place) refl
  where
    go : (o : Option ℕ) → number_at seen.lines place ≡ o → number_or (seen.devices.hosts + place) o < seen.devices.hosts + places
    go None e = omega (arith, low)
    go (Some n) e = let c = counted place n e in omega (arith, c)

pub numbering_apart : (seen : Seen) → AreCounted seen → AreApart seen.lines → (m n : ℕ) →
    numbering seen m ≡ numbering seen n → m ≡ n
numbering_apart seen counted apart m n = go (number_at seen.lines m) (number_at seen.lines n) refl refl
  where
    go : (a b : Option ℕ) → number_at seen.lines m ≡ a → number_at seen.lines n ≡ b →
        number_or (seen.devices.hosts + m) a ≡ number_or (seen.devices.hosts + n) b → m ≡ n
    go None None e f same = omega (arith, same)
    go None (Some k) e f same = let c = counted n k f in absurd (omega (arith, c, same))
    go (Some k) None e f same = let c = counted m k e in absurd (omega (arith, c, same))
    go (Some k) (Some l) e f same = apart m n k e (f ∙ ap Some (sym same))

-- ---- at boot, and later

module _ {S : Type 0} (M : Machine S) (drives places : ℕ) (o : Seen) (booted : OutsideHasBooted M drives places o) where
  -- the hosts of generation 1 have the numbers of their places
  known : (place n : ℕ) → number_at o.lines place ≡ Some n → (n ≡ place) × (n < 2)
  known place n has = go (slice_get o.lines place) refl
    where
      first : (b : Bool) → nat_lt place 2 ≡ b → cond b (Some place) None ≡ Some n → (n ≡ place) × (n < 2)
      first true e is =
          let same : place ≡ n = same_Some place n is in
          let low = ltb-true place 2 e in
          (sym same, omega (arith, same, low))
      first false e is = absurd (cc)

      go : (l : Option HostLine) → slice_get o.lines place ≡ l → (n ≡ place) × (n < 2)
      go None e = absurd (let none = sym (ap (λ l. number_in l) e) ∙ has in (cc))
      go (Some line) e =
          let low = slice_get_within o.lines place line e in
          let all = booted.lines in
          first (nat_lt place 2) refl (sym (booted.numbers place (omega (arith, low, all))) ∙ has)

  pub first_apart : AreApart o.lines
  first_apart m n number p q = sym (known m number p).0 ∙ (known n number q).0

  pub first_counted : AreCounted o
  first_counted place n has =
      let low = (known place n has).1 in
      let two = ap (λ (h : Held). h.hosts) booted.devices in
      omega (arith, low, two)

counted_later : (first last : Seen) → Goes first last → AreCounted first → AreCounted last
counted_later first last goes.Rests counted = counted
counted_later first last (goes.Next {mid = mid} new before move) counted = λ place n has.
    elim (numbers_count mid new move place n has) [
      | inl old ↦ (let c = counted_later first mid before counted place n old in
          let more = moved_more mid new move in
          omega (arith, c, more))
      | inr one ↦ one
    ]

-- so the numbers at the end serve for all places
pub record Serves (num : ℕ → ℕ) (last : Seen) (places : ℕ) : Type 0 where
  pub fits : (place n : ℕ) → number_at last.lines place ≡ Some n → num place ≡ n
  pub apart : (m n : ℕ) → num m ≡ num n → m ≡ n
  pub low : (place : ℕ) → place < places → num place < last.devices.hosts + places

pub numbers_serve : {S : Type 0} (M : Machine S) (drives places : ℕ) (first last : Seen) →
    OutsideHasBooted M drives places first → Goes first last → Serves (numbering last) last places
numbers_serve M drives places first last booted way =
    let counted = counted_later first last way (first_counted M drives places first booted) in
    record {
      fits = numbering_fits last;
      apart = numbering_apart last counted (stay_apart first last way (first_apart M drives places first booted));
      low = λ place within. numbering_low last counted place places within;
    }
