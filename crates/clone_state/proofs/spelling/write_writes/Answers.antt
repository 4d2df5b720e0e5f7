use Rattle.std.proofs.Common.{List, [], ◌++◌, ℕ, ap, ◌∙◌, take}
use Rattle.clone_state.specs.Codec.{spell_each}
use Rattle.clone_state.specs.FirstPart.{write}
use Rattle.clone_state.proofs.Payloads.{spell_next}
use Rattle.clone_state.proofs.spelling.write_writes.Goals as goal

pub loop-write-preserved : goal.loop-write-preserved
loop-write-preserved c =
    let out : List ℕ = c.args.out.now.items in
    let i : ℕ = c.loop-write.write-index in
    c.in_ok-extend_from_slice.ensures.items
    ∙ ap (λ (xs : List ℕ). xs ++ c.write_bytes.result) c.loop-write.invariant
    ∙ ap (λ (xs : List ℕ). (out ++ spell_each write (take i c.args.writes.now)) ++ xs) c.write_bytes.ensures
    ∙ spell_next write out c.args.writes.now i (record { number = 0; drive = 0; track = 0; sector = 0; bytes = [] }) c.loop-write-test.true
