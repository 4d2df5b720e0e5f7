-- The constant that definitions cite by its name in the code.
use Rattle.std.specs.Prelude.{◌≡◌, ◌-◌, ◌^◌}
use Rattle.i8080_words.specs.declared.limits.TheConstants.{GREATEST_NUMBER}

-- no number takes more than 62 bits
pub record Limits : Type 0 where
  pub greatest_number : GREATEST_NUMBER ≡ 2 ^ 62 - 1
