-- Places are added, each with its first number.
use Rattle.std.proofs.Common.{ℕ, zero, suc, ◌≡◌, ◌⊎◌, ◌<◌, false, Some, List, [], ◌∷◌, ◌++◌, length, arith, refl, sym, ap, ◌∙◌, subst, inl, inr}
use Rattle.command_console.specs.Places.{AddsPlaces, HasFirstNumbers, NoneIsCut}
use Rattle.outside_switch.specs.declared.session.Session.{Session}
use Rattle.outside_switch.specs.Goes.{Adds, first_number}
use Rattle.outside_switch.specs.Lines.{number_at}
use Rattle.outside_switch.specs.Meets.{Seen, seen}
use Rattle.outside_switch.specs.declared.line.HostLine.{HostLine}
use Rattle.rtrb.specs.declared.AnyItems.{AnyItems}
use Rattle.rtrb.specs.declared.producer.Producer.{Producer}
use Rattle.std.specs.Global.{Global, Vec}
use Rattle.std.specs.Prelude.{is_none, not}

-- the number of a place, with one line more
one_more : (xs : List HostLine) (line : HostLine) (place : ℕ) → place < length (xs ++ line ∷ []) →
    ((place < length xs) × (number_at (xs ++ line ∷ []) place ≡ number_at xs place))
    ⊎ ((place ≡ length xs) × (number_at (xs ++ line ∷ []) place ≡ line.number))
one_more [] line zero low = inr (refl, refl)
one_more [] line (suc place) low = absurd (omega (arith, low))
one_more (x ∷ xs) line zero low = inl (omega arith, refl)
one_more (x ∷ xs) line (suc place) low = elim (one_more xs line place (omega (arith, low))) [
  | inl old ↦ (let within = old.0 in inl (omega (arith, within), old.1))
  | inr new ↦ (let last = new.0 in inr (omega (arith, last), new.1))
]

-- no host is cut off, with one line more
one_open : (xs : List HostLine) (line : HostLine) → is_none line.to ≡ false → NoneIsCut xs → NoneIsCut (xs ++ line ∷ [])
one_open [] line to none zero low = ap not to
one_open [] line to none (suc place) low = absurd (omega (arith, low))
one_open (x ∷ xs) line to none zero low = none zero (omega arith)
one_open (x ∷ xs) line to none (suc place) low =
    one_open xs line to (λ n within. none (suc n) (omega (arith, within))) place (omega (arith, low))

open_more : (line : HostLine) (to : Producer (Vec ℕ) Global AnyItems) (a b : Seen) → line.to ≡ Some to → Adds line a b →
    NoneIsCut a.lines → NoneIsCut b.lines
open_more line to a b is adds none =
    subst (λ l. NoneIsCut l) (sym adds.lines) (one_open a.lines line (ap (λ o. is_none o) is) none)

numbers_more : (line : HostLine) (a b : Seen) → Adds line a b → HasFirstNumbers a.lines → HasFirstNumbers b.lines
numbers_more line a b adds first =
    subst (λ l. HasFirstNumbers l) (sym adds.lines) (λ place low. elim (one_more a.lines line place low) [
      | inl old ↦ old.1 ∙ first place old.0
      | inr new ↦ new.1 ∙ adds.number ∙ ap first_number (sym new.0)
    ])

module _ {D S : Type 0} where
  pub adds_none : (a : Session D S) → AddsPlaces a a
  adds_none a = record {
    devices = refl;
    numbers = λ first. first;
    none_cut = λ none. none;
    first_port = refl;
    second_port = refl;
    screen = refl;
    quits = refl;
    counts = refl;
  }

  pub adds_same : (a b c : Session D S) → AddsPlaces a b → seen c.switch ≡ seen b.switch → c.first ≡ b.first →
      c.second ≡ b.second → c.screen ≡ b.screen → c.quits ≡ b.quits → c.flood ≡ b.flood → AddsPlaces a c
  adds_same a b c p same first second screen quits counts = record {
    devices = ap (λ (s : Seen). s.devices) same ∙ p.devices;
    numbers = λ numbers. subst (λ (s : Seen). HasFirstNumbers s.lines) (sym same) (p.numbers numbers);
    none_cut = λ none. subst (λ (s : Seen). NoneIsCut s.lines) (sym same) (p.none_cut none);
    first_port = first ∙ p.first_port;
    second_port = second ∙ p.second_port;
    screen = screen ∙ p.screen;
    quits = quits ∙ p.quits;
    counts = counts ∙ p.counts;
  }

  pub adds_one : (a b c : Session D S) (line : HostLine) (to : Producer (Vec ℕ) Global AnyItems) → AddsPlaces a b →
      line.to ≡ Some to → Adds line (seen b.switch) (seen c.switch) → c.first ≡ b.first → c.second ≡ b.second → c.screen ≡ b.screen → c.quits ≡ b.quits → c.flood ≡ b.flood →
      AddsPlaces a c
  adds_one a b c line to p is adds first second screen quits counts = record {
    devices = adds.devices ∙ p.devices;
    numbers = λ numbers. numbers_more line (seen b.switch) (seen c.switch) adds (p.numbers numbers);
    none_cut = λ none. open_more line to (seen b.switch) (seen c.switch) is adds (p.none_cut none);
    first_port = first ∙ p.first_port;
    second_port = second ∙ p.second_port;
    screen = screen ∙ p.screen;
    quits = quits ∙ p.quits;
    counts = counts ∙ p.counts;
  }
