-- The index of a part that is read from a message has two bytes.
use Rattle.std.proofs.Common.{◌≡◌, ℕ, ◌<◌, ◌^◌, Bool, true, false, cond, eqb, List, [], ◌∷◌, Option, Some, None, subst}
use Rattle.std.proofs.lemmas.Option.{none-some}
use Rattle.clone_state.proofs.Words.{IsBytes, IsBytes-rest, PartMessage, admitted, after_tag, first_read, generation_from, is_payload, message_at, word}
use Rattle.clone_state.proofs.PartsRead.{after_generation, after_index}
use Rattle.clone_state.proofs.Values.{word_spells}
use Rattle.log_entry.proofs.GenerationLaws.{generation_takes}

pub index_small : (drives : ℕ) (bytes : List ℕ) (m : PartMessage) → IsBytes bytes → message_at drives bytes ≡ Some m
    → m.index < 2 ^ 16
unfolding message_at
index_small drives [] m all e = absurd (none-some m e)
index_small drives (tag ∷ bytes) m all e =
    let test = passed (eqb tag 0x50) (after_tag drives bytes) e in
    let g = first_read (generation_from bytes) (after_generation drives) m test in
    let taken = generation_takes bytes g.0 (IsBytes-rest tag bytes all) g.1 in
    let i = first_read (word.read g.0.1) (after_index drives g.0.0) m g.2 in
    let c = admitted (is_payload drives i.0.0 i.0.1) (record { generation = g.0.0; index = i.0.0; payload = i.0.1 }) m i.2 in
    subst (λ (x : PartMessage). x.index < 2 ^ 16) c.1 (word_spells.holds g.0.1 i.0 taken.are_bytes i.1)
  where
    passed : (b : Bool) (o : Option PartMessage) → cond b o None ≡ Some m → o ≡ Some m
    passed true o e = e
    passed false o e = absurd (none-some m e)
