use Rattle.std.proofs.Common.{rules, ◌≡◌, ℕ, drop, length, min, ◌∙◌, ap}
use Rattle.std.proofs.lemmas.List.{take_rest, drop_min}
use Rattle.disk_file.proofs.opening.behind_image.Goals as goal

pub returns : goal.returns
returns c =
    let bytes = c.args.bytes.now in
    let least : c.min.result ≡ min 337568 (length bytes) = search rules in
    take_rest bytes c.min.result ∙ ap (λ (n : ℕ). drop n bytes) least ∙ drop_min 337568 bytes
