use Rattle.std.proofs.Common.{rules, ◌≡◌, ◌++◌, take, drop, List, ℕ, sym, ◌∙◌, ap}
use Rattle.std.proofs.lemmas.List.{take-append-drop, take_rest}
use Rattle.disk_file.proofs.session_opening.first_record.Goals as goal

pub returns-clause-bytes : goal.returns-clause-bytes
returns-clause-bytes c =
    let image = c.args.image.now in
    let front : c.copy_from_slice.new.self ≡ take 137 image = search rules in
    sym (take-append-drop 137 image) ∙ ap (λ (l : List ℕ). l ++ drop 137 image) (sym front) ∙ ap (λ (l : List ℕ). c.copy_from_slice.new.self ++ l) (sym (take_rest image 137))
