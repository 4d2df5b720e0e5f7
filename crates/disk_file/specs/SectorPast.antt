-- The contents that a file has had.
use Rattle.std.specs.Prelude.{◌≡◌, ◌⊎◌, ℕ, List, [], ◌∷◌, length, drop, Vec}
use mathlib.Core.Logic.{inl, inr}
use Rattle.std.specs.declared.alloc.Global.{Global}

-- one of them is this
abbrev pub HadBeen : List (Vec ℕ Global) → List ℕ → Type 0
HadBeen [] bytes = ⊥
HadBeen (v ∷ past) bytes = (bytes ≡ v.items) ⊎ HadBeen past bytes

none_left : (past : List (Vec ℕ Global)) (c : List ℕ) → HadBeen (drop (length past) past) c → ⊥
none_left [] c had = had
none_left (v ∷ past) c had = none_left past c had

-- since the last of them there is what is there now
pub only_bytes : (past : List (Vec ℕ Global)) (bytes c : List ℕ)
    → (c ≡ bytes) ⊎ HadBeen (drop (length past) past) c → c ≡ bytes
only_bytes past bytes c (inl now) = now
only_bytes past bytes c (inr had) = absurd (none_left past c had)
