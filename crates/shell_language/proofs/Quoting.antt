-- The characters of a text, one after another.
use Rattle.std.proofs.Common.{◌≡◌, ℕ, Bool, true, false, List, [], ◌∷◌, ◌++◌, Option, Some, None, refl, ap, sym, ◌∙◌, append_assoc, append-nil}
use Rattle.std.specs.Prelude.{IsSome, if◌then◌else◌, is_some, option_map}
use Rattle.shell_language.specs.Quoting.{with_first}

-- a first character makes no difference to whether there are others
pub first-some : (byte : ℕ) (others : Option (List ℕ)) → is_some (with_first byte others) ≡ is_some others
unfolding with_first
first-some byte None = refl
first-some byte (Some bytes) = refl

-- what is left at the end of a text
abbrev pub rest_of : Bool → Option (List ℕ)
rest_of is_end = if is_end then Some [] else None

pub end-some : (is_end : Bool) (rest : Option (List ℕ)) → rest ≡ rest_of is_end → is_some rest ≡ is_end
end-some true rest e = rw e refl
end-some false rest e = rw e refl

-- these characters, and then others
unfoldable pub with_front : List ℕ → Option (List ℕ) → Option (List ℕ)
with_front front others = option_map (λ (more : List ℕ). front ++ more) others

pub front-none : (others : Option (List ℕ)) → with_front [] others ≡ others
unfolding with_front
front-none None = refl
front-none (Some bytes) = refl

pub front-first : (front : List ℕ) (byte : ℕ) (others : Option (List ℕ))
    → with_front (front ++ byte ∷ []) others ≡ with_front front (with_first byte others)
unfolding with_front with_first
front-first front byte None = refl
front-first front byte (Some bytes) = ap Some (append_assoc front (byte ∷ []) bytes)

pub front-end : (front : List ℕ) (rest text : Option (List ℕ)) (is_end : Bool) → with_front front rest ≡ text
    → rest ≡ rest_of is_end → IsSome text → text ≡ Some front
unfolding with_front
front-end front rest text true whole ends some =
    sym whole ∙ ap (with_front front) ends ∙ ap Some (append-nil front)
front-end front rest None false whole ends some = absurd (cc)
front-end front rest (Some bytes) false whole ends some =
    let none : Some bytes ≡ None = sym whole ∙ ap (with_front front) ends in cc

pub ruleset quoting = (first-some, end-some, front-none, front-first, front-end)
