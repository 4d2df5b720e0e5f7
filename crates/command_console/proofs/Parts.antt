-- No two parts of images are written in one way.
use Rattle.std.proofs.Common.{ℕ, ◌≡◌, List, ◌++◌, sym, ap, ◌∙◌}
use Rattle.byteorder.specs.Endian.{big_bytes}
use Rattle.clone_state.specs.Parts.{PartMessage, message_bytes}
use Rattle.clone_state.proofs.Values.{word_again}
use Rattle.clone_state.specs.FirstPart.{word}
use Rattle.host_frames.specs.Meaning.{IsPart}
use Rattle.log_entry.proofs.GenerationLaws.{generation_again}
use Rattle.log_entry.specs.Numbers.{generation_from}
use Rattle.std.proofs.lemmas.Option.{same_Some}

pub one_part : (m n : PartMessage) → IsPart m → IsPart n → message_bytes m ≡ message_bytes n → m ≡ n
one_part m n is also same =
    λ i. record { generation = generation i; index = index i; payload = payload i }
  where
    tail : big_bytes 4 m.generation ++ (word.spell m.index ++ m.payload)
        ≡ big_bytes 4 n.generation ++ (word.spell n.index ++ n.payload)
    tail = cc

    read : ◌≡◌ {A = ℕ × List ℕ} (m.generation, word.spell m.index ++ m.payload)
        (n.generation, word.spell n.index ++ n.payload)
    read = same_Some _ _ (sym (generation_again m.generation _ is.some is.generation) ∙ ap generation_from tail
        ∙ generation_again n.generation _ also.some also.generation)

    rest : ◌≡◌ {A = ℕ × List ℕ} (m.index, m.payload) (n.index, n.payload)
    rest = same_Some _ _ (sym ((word_again m.index).again m.payload) ∙ ap (λ (r : ℕ × List ℕ). word.read r.1) read
        ∙ (word_again n.index).again n.payload)

    generation : m.generation ≡ n.generation
    generation = ap (λ (r : ℕ × List ℕ). r.0) read

    index : m.index ≡ n.index
    index = ap (λ (r : ℕ × List ℕ). r.0) rest

    payload : m.payload ≡ n.payload
    payload = ap (λ (r : ℕ × List ℕ). r.1) rest
