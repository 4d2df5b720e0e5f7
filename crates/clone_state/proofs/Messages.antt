-- What is read as a part's message is written just so.
use Rattle.std.proofs.Common.{◌≡◌, ℕ, ◌<◌, ◌≤◌, ◌^◌, Bool, true, false, cond, eqb, ltb, List, [], ◌∷◌, ◌++◌, length, take, drop, Option, Some, None, refl, sym, ap, subst, ◌∙◌, arith}
use Rattle.std.specs.Int.{w32, from_be_bytes}
use Rattle.std.proofs.lemmas.Bool.{eqb-true, eqb-false, ltb-false}
use Rattle.std.proofs.lemmas.List.{length-take, take-append-drop}
use Rattle.std.proofs.lemmas.Nat.{be_bytes_4}
use Rattle.std.proofs.lemmas.Option.{same_Some, none-some}
use Rattle.byteorder.specs.Endian.{big_bytes}
use Rattle.clone_state.proofs.Words.{IsBytes, IsBytes-rest, IsMessage, PartMessage, admitted, after_tag, first_read, generation_from, is_payload, message_at, message_bytes, word}
use Rattle.log_entry.proofs.GenerationLaws.{generation_takes}
use Rattle.clone_state.proofs.PartsRead.{Read, after_generation, after_index}
use Rattle.clone_state.proofs.Values.{word_spells}

-- ---- the message

pub message_written : (drives : ℕ) (bytes : List ℕ) (m : PartMessage) → IsBytes bytes
    → message_at drives bytes ≡ Some m → IsMessage drives m × (bytes ≡ message_bytes m)
unfolding message_at
message_written drives [] m all e = absurd (none-some m e)
message_written drives (tag ∷ bytes) m all e =
    let test = passed (eqb tag 0x50) (after_tag drives bytes) e in
    let g = first_read (generation_from bytes) (after_generation drives) m test.1 in
    let taken = generation_takes bytes g.0 (IsBytes-rest tag bytes all) g.1 in
    let i = first_read (word.read g.0.1) (after_index drives g.0.0) m g.2 in
    let index = word_spells.written g.0.1 i.0 taken.are_bytes i.1 in
    let c = admitted (is_payload drives i.0.0 i.0.1) (record { generation = g.0.0; index = i.0.0; payload = i.0.1 }) m i.2 in
    let same = c.1 in (
      record {
        some = subst (λ (x : PartMessage). 0 < x.generation) same taken.above;
        few = subst (λ (x : PartMessage). x.generation < 2 ^ 32) same taken.below;
        payload = ap (λ (x : PartMessage). is_payload drives x.index x.payload) (sym same) ∙ c.0;
      },
      ap (λ t. t ∷ bytes) (eqb-true tag 0x50 test.0)
          ∙ ap (λ bs. 0x50 ∷ bs) (taken.parts ∙ ap (λ bs. big_bytes 4 g.0.0 ++ bs) index)
          ∙ ap message_bytes same,
    )
  where
    passed : (b : Bool) (o : Option PartMessage) → cond b o None ≡ Some m → (b ≡ true) × (o ≡ Some m)
    passed true o e = (refl, e)
    passed false o e = absurd (none-some m e)
