-- The number of an event, in six characters at least.
use Rattle.std.proofs.Common.{◌≡◌, ◌∙◌, ℕ, ◌-◌, ◌^◌, List, ◌∷◌, ◌++◌, [], false, ap, length, append-nil, arith}
use Rattle.std.specs.Fmt.{char_count, decimal, format_spec, padded_integral}
use Rattle.std.specs.List.{repeat}
use Rattle.shell_picture.specs.Pictures.{number_text}

-- spaces before a text, and none after it
spaced : (n : ℕ) (text : List ℕ)
    → (((repeat n (32 ∷ []) ++ []) ++ []) ++ []) ++ (text ++ repeat (n - n) (32 ∷ [])) ≡ repeat n (32 ∷ []) ++ text
spaced n text =
    let before : List ℕ = repeat n (32 ∷ []) in
    let none : n - n ≡ 0 = omega arith in
    ap (λ (l : List ℕ). l ++ (text ++ repeat (n - n) (32 ∷ [])))
    (append-nil ((before ++ []) ++ []) ∙ append-nil (before ++ []) ∙ append-nil before)
    ∙ ap (λ (m : ℕ). before ++ (text ++ repeat m (32 ∷ []))) none
    ∙ ap (λ (l : List ℕ). before ++ l) (append-nil text)

pub in_six : (event : ℕ) → padded_integral (format_spec 32 3 0 6 (2 ^ 64 - 1)) false [] (decimal event) ≡ number_text event
unfolding padded_integral char_count lib.Utf8.encode
in_six event =
    let same : 6 - length (decimal event) - 0 - 0 ≡ 6 - length (decimal event) = omega arith in
    spaced (6 - length (decimal event) - 0 - 0) (decimal event)
    ∙ ap (λ (n : ℕ). repeat n (32 ∷ []) ++ decimal event) same
