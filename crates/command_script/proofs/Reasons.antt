-- What is found among some forms is found among all.
use Rattle.std.proofs.Common.{◌≡◌, ℕ, ◌∙◌, List, Option, ap}
use Rattle.command_script.specs.Reasons.{usage_in}
use Rattle.shell_language.specs.Forms.{Shape, shapes}

pub usage_of_all : (among : List Shape) (word : List ℕ) (found : Option (List ℕ)) → among ≡ shapes → found ≡ usage_in among word
    → found ≡ usage_in shapes word
usage_of_all among word found is h = h ∙ ap (λ (s : List Shape). usage_in s word) is
