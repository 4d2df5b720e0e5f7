-- The constant that the definitions cite by its name in the code.
use Rattle.std.specs.Prelude.{◌≡◌, ◌+◌, ◌*◌}
use Rattle.output_rule.specs.declared.notes.TheConstants.{PLACES}

-- sixteen bytes of each of two ports and eight writes may have notes
pub record Limits : Type 0 where
  pub places : PLACES ≡ 2 * 16 + 8 + 1
