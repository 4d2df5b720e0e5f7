use Rattle.std.proofs.Common.{List, ◌++◌, ℕ, ap, ◌∙◌, take}
use Rattle.clone_state.specs.Codec.{number, spell_each}
use Rattle.clone_state.proofs.Payloads.{spell_next}
use Rattle.clone_state.proofs.spelling.write_numbers.Goals as goal

pub loop-number-preserved : goal.loop-number-preserved
unfolding number
loop-number-preserved c =
    let out : List ℕ = c.args.out.now.items in
    let i : ℕ = c.loop-number.number-index in
    c.in_ok-extend_from_slice.ensures.items
    ∙ ap (λ (xs : List ℕ). xs ++ c.spelled_number.result) c.loop-number.invariant
    ∙ ap (λ (xs : List ℕ). (out ++ spell_each number (take i c.args.numbers.now)) ++ xs) c.spelled_number.ensures
    ∙ spell_next number out c.args.numbers.now i 0 c.loop-number-test.true
