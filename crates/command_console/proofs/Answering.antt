-- What `save` answers, by what came of the image.
use Rattle.std.proofs.Common.{◌≡◌, ℕ, List, Result, Ok, Err}
use Rattle.std.specs.Prelude.{IfOk, string_bytes}
use Rattle.std.specs.Global.{Global, Vec}
use Rattle.std.specs.declared.string.String.{String}
use Rattle.command_console.specs.Frames.{IsAnswer, answer_of}
use Rattle.command_console.specs.Mirrors.{IsOfCopy}
use Rattle.i8080_words.specs.declared.refusal.Fault.{Fault}

pub is_answer : {E : Type 0} (result : Result (String Global) E) (image : Result (Vec ℕ) Fault) (mark path : List ℕ) (drive : ℕ)
    → IfOk image (λ i. IsOfCopy drive i.items)
    → IfOk result (λ text. string_bytes text ≡ answer_of mark drive image path)
    → IfOk result (λ text. IsAnswer mark drive path (string_bytes text))
is_answer (Ok text) image mark path drive had is = record { image = image; of_copy = had; is = is }
is_answer (Err e) image mark path drive had is = tt
