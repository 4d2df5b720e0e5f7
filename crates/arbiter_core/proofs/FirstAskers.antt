-- The first asker of two lists of askings is that of the first list, or else that of the second. So an asking after
-- others changes no winner that there is, and if the kept winners are the first askers they remain so: with the asking
-- kept if nobody had won, and without it if somebody had.
use Rattle.std.proofs.Common.{◌≡◌, ℕ, zero, suc, Bool, true, false, cond, eqb, List, [], ◌∷◌, ◌++◌, Option, Some, None, refl, sym, ap, subst, ◌∙◌, arith}
use Rattle.std.specs.Prelude.{◌≢◌, All, find, is_some}
use Rattle.std.specs.Option.{option_map, option_or}
use Rattle.std.proofs.lemmas.Bool.{ne_eqb, eq-eqb, eqb-true, eqb-false}
use Rattle.std.proofs.lemmas.List.Elements.{All-nil}
use Rattle.std.proofs.lemmas.List.Folds.{find-append}
use Rattle.arbiter_core.specs.declared.arbiter.Asking.{Asking}
use Rattle.arbiter_core.specs.Winners.{winner_of, AreWinners, GoesOn, FirstAskersWin}

-- this node asks for this generation
abbrev asks : ℕ → ℕ → Asking
asks g n = record { generation = g; node = n }

-- nobody asks for this generation
abbrev Nobody : List Asking → ℕ → Type 0
Nobody askings g = All (λ (asking : Asking). asking.generation ≢ g) askings

node_of-or : (o p : Option Asking)
    → option_map (λ (a : Asking). a.node) (option_or o p)
    ≡ option_or (option_map (λ (a : Asking). a.node) o) (option_map (λ (a : Asking). a.node) p)
node_of-or None p = refl
node_of-or (Some a) p = refl

or_none : (o : Option ℕ) → o ≡ option_or o None
or_none None = refl
or_none (Some n) = refl

winner_of-append : (xs ys : List Asking) (g : ℕ) → winner_of (xs ++ ys) g ≡ option_or (winner_of xs g) (winner_of ys g)
winner_of-append xs ys g =
    ap (option_map (λ (a : Asking). a.node)) (find-append (λ (a : Asking). eqb a.generation g) xs ys)
    ∙ node_of-or (find (λ (a : Asking). eqb a.generation g) xs) (find (λ (a : Asking). eqb a.generation g) ys)

-- whoever asks after the others is the winner if there was none
still_winners : (old askings last : List Asking) → AreWinners askings old
    → AreWinners (askings ++ last) (old ++ last)
still_winners old askings last winners g =
    winner_of-append old last g
    ∙ ap (λ o. option_or o (winner_of last g)) (winners g)
    ∙ sym (winner_of-append askings last g)

pub first_wins : (old : List Asking) (g n : ℕ) (new : List Asking)
    → new ≡ old ++ record { generation = g; node = n } ∷ []
    → GoesOn old g n new
first_wins old g n new is = record {
  so_far = λ askings winners.
      subst (AreWinners (askings ++ asks g n ∷ [])) (sym is) (still_winners old askings (asks g n ∷ []) winners);
}

-- an asking for a generation that has a winner is not kept
none_at : (here : Bool) (old : List Asking) (g n w k : ℕ) → eqb g k ≡ here → winner_of old g ≡ Some w
    → winner_of old k ≡ option_or (winner_of old k) (winner_of (asks g n ∷ []) k)
none_at true old g n w k e won =
    let at_k : winner_of old k ≡ Some w = subst (λ m. winner_of old m ≡ Some w) (eqb-true g k e) won in
    at_k ∙ sym (ap (λ o. option_or o (winner_of (asks g n ∷ []) k)) at_k)
none_at false old g n w k e won =
    or_none (winner_of old k)
    ∙ ap (λ b. option_or (winner_of old k) (option_map (λ (a : Asking). a.node) (cond b (Some (asks g n)) None)))
    (sym e)

goes_on_with : (old : List Asking) (g n w : ℕ) → winner_of old g ≡ Some w → GoesOn old g n old
goes_on_with old g n w won = record {
  so_far = λ askings winners k.
      none_at (eqb g k) old g n w k refl won
      ∙ sym (winner_of-append old (asks g n ∷ []) k)
      ∙ still_winners old askings (asks g n ∷ []) winners k;
}

with_winner : (o : Option ℕ) (old : List Asking) (g n : ℕ) → winner_of old g ≡ o → is_some o ≡ true → GoesOn old g n old
with_winner None old g n is some = absurd (cc)
with_winner (Some w) old g n is some = goes_on_with old g n w is

pub later_lose : (old : List Asking) (g n : ℕ) → is_some (winner_of old g) ≡ true → GoesOn old g n old
later_lose old g n some = with_winner (winner_of old g) old g n refl some

nobody_in_rest : (g : ℕ) (a : Asking) (rest : List Asking) → Nobody (a ∷ rest) g → Nobody rest g
nobody_in_rest g a rest nobody = λ k d inside. nobody (suc k) d (omega arith)

nobody_with : (g : ℕ) (a : Asking) (rest : List Asking) → a.generation ≢ g → Nobody rest g → Nobody (a ∷ rest) g
nobody_with g a rest differs nobody zero d inside = differs
nobody_with g a rest differs nobody (suc k) d inside = nobody k d (omega arith)

no_winner : (askings : List Asking) (g : ℕ) → Nobody askings g → winner_of askings g ≡ None
no_winner [] g nobody = refl
no_winner (a ∷ rest) g nobody =
    ap (λ b. option_map (λ (x : Asking). x.node) (cond b (Some a) (find (λ (x : Asking). eqb x.generation g) rest)))
    (ne_eqb a.generation g (nobody 0 a (omega arith)))
    ∙ no_winner rest g (nobody_in_rest g a rest nobody)

is_first : (g n : ℕ) (later : List Asking) → winner_of (asks g n ∷ later) g ≡ Some n
is_first g n later =
    ap (λ b. option_map (λ (x : Asking). x.node)
    (cond b (Some (asks g n)) (find (λ (x : Asking). eqb x.generation g) later)))
    (eq-eqb g g refl)

nobody_at : (here : Bool) (a : Asking) (rest : List Asking) (g : ℕ) → eqb a.generation g ≡ here
    → option_map (λ (x : Asking). x.node) (cond here (Some a) (find (λ (x : Asking). eqb x.generation g) rest)) ≡ None
    → (winner_of rest g ≡ None → Nobody rest g) → Nobody (a ∷ rest) g
nobody_at true a rest g e none later = absurd (cc)
nobody_at false a rest g e none later = nobody_with g a rest (eqb-false a.generation g e) (later none)

nobody_asked : (askings : List Asking) (g : ℕ) → winner_of askings g ≡ None → Nobody askings g
nobody_asked [] g none = All-nil (λ (x : Asking). x.generation ≢ g)
nobody_asked (a ∷ rest) g none = nobody_at (eqb a.generation g) a rest g refl none (nobody_asked rest g)

pub first_askers_win : (askings : List Asking) → FirstAskersWin askings
first_askers_win askings = record {
  first = λ g n later nobody.
      winner_of-append askings (asks g n ∷ later) g
      ∙ ap (λ o. option_or o (winner_of (asks g n ∷ later) g)) (no_winner askings g nobody)
      ∙ is_first g n later;
  for_good = λ g n later won.
      winner_of-append askings later g ∙ ap (λ o. option_or o (winner_of later g)) won;
  nobody = nobody_asked askings;
}
