-- What a crash leaves in each of the two steps of a write.
use Rattle.std.proofs.Common.{◌≡◌, ℕ, ◌+◌, ◌*◌, ◌<◌, List, [], ◌∷◌, ◌++◌, length, get_or, take, drop, sym, ◌∙◌, ap, subst, arith, append_assoc, length-append, take-append-drop}
use Rattle.std.proofs.lemmas.List.{append-nil, take_at, drop_at, drop_more, take_all, drop_all}
use Rattle.disk_file.specs.Device.{Holds, Torn}
use Rattle.disk_file.specs.Sectors.{Entry, applied, with_sector, contents, Resting, IsBeforeOrAfter}
use Rattle.disk_file.proofs.Blocks.{disk, closed_behind, gate_behind, longer, goes_on_behind, block as block_behind}

module _ (sectors end : ℕ) (file : List ℕ) (rests : Resting sectors end file) where
  abbrev front : List ℕ
  front = rests.front

  abbrev now : List ℕ
  now = disk sectors end front rests.blocks

  size : length front ≡ end
  size = rests.blocks.size

  pub length_file : length file ≡ end + 1
  length_file = omega (arith, ap length rests.split, length-append front (0 ∷ []), size)

  pub stands_for : contents sectors file ≡ now
  stands_for = ap (contents sectors) rests.split ∙ closed_behind sectors end front rests.blocks 0 [] (omega arith)

  -- the closed gate stands in each outcome of the first
  pub first : (n : ℕ) (c : List ℕ) → Torn (end + 1) n file c → contents sectors c ≡ contents sectors file
  first n c torn =
      let head : take (end + 1) c ≡ front ++ 0 ∷ [] = torn.before ∙ take_all (end + 1) file (omega (arith, length_file)) ∙ rests.split in
      let whole : c ≡ front ++ 0 ∷ drop (end + 1) c =
      sym (take-append-drop (end + 1) c) ∙ ap (λ (l : List ℕ). l ++ drop (end + 1) c) head ∙ append_assoc front (0 ∷ []) (drop (end + 1) c) in
      ap (contents sectors) whole ∙ closed_behind sectors end front rests.blocks 0 (drop (end + 1) c) (omega arith) ∙ sym stands_for

  module _ (low high : ℕ) (bytes : List ℕ) (sized : length bytes ≡ 137) (fits : low + high * 256 < sectors) where
    abbrev block : List ℕ
    block = low ∷ high ∷ bytes ++ 0 ∷ []

    length_block : length block ≡ 140
    length_block = omega (arith, sized, length-append bytes (0 ∷ []))

    abbrev staged : List ℕ
    staged = front ++ 0 ∷ (low ∷ high ∷ bytes ++ 0 ∷ [])

    pub written : (c : List ℕ) → Holds file (end + 1) block c → c ≡ staged
    written c holds =
        holds
        ∙ ap (λ (l : List ℕ). l ++ block ++ drop (end + 1 + length block) file) (take_all (end + 1) file (omega (arith, length_file)) ∙ rests.split)
        ∙ ap (λ (l : List ℕ). (front ++ 0 ∷ []) ++ block ++ l) (drop_all (end + 1 + length block) file (omega (arith, length_file)))
        ∙ append-nil ((front ++ 0 ∷ []) ++ block)
        ∙ append_assoc front (0 ∷ []) block

    split : staged ≡ (front ++ 0 ∷ []) ++ block
    split = sym (append_assoc front (0 ∷ []) block)

    back : drop (end + 1) staged ≡ block
    back = ap (λ (l : List ℕ). drop (end + 1) l) split ∙ drop_at (front ++ 0 ∷ []) block (end + 1) (omega (arith, size, length-append front (0 ∷ [])))

    pub length_staged : length staged ≡ end + 141
    length_staged = omega (arith, size, length_block, length-append front (0 ∷ block))

    -- the block stands whole in each outcome of the second
    pub second : (c : List ℕ) → Torn end 1 staged c → IsBeforeOrAfter sectors (contents sectors file) (low + high * 256) bytes c
    second c torn =
        let gate = get_or c end 0 in
        let rest : drop end c ≡ gate ∷ block =
        drop_more c end 0 (omega (arith, torn.no_shorter, length_staged)) ∙ ap (λ (l : List ℕ). gate ∷ l) (torn.after ∙ back) in
        let head : take end c ≡ front = torn.before ∙ take_at front (0 ∷ block) end size in
        let whole : c ≡ front ++ (gate ∷ block) = sym (take-append-drop end c) ∙ ap (λ (l : List ℕ). l ++ drop end c) head ∙ ap (λ (l : List ℕ). front ++ l) rest in
        subst (λ (b : List ℕ). IsBeforeOrAfter sectors b (low + high * 256) bytes c) (sym stands_for)
        (subst (IsBeforeOrAfter sectors now (low + high * 256) bytes) (sym whole) (gate_behind sectors end front rests.blocks low high bytes sized fits gate))

    after : (c : List ℕ) → Holds staged end (1 ∷ []) c → c ≡ (front ++ (1 ∷ low ∷ high ∷ bytes)) ++ 0 ∷ []
    after c holds =
        holds
        ∙ ap (λ (l : List ℕ). l ++ (1 ∷ []) ++ drop (end + 1) staged) (take_at front (0 ∷ block) end size)
        ∙ ap (λ (l : List ℕ). front ++ (1 ∷ []) ++ l) back
        ∙ append_assoc front (1 ∷ []) block
        ∙ sym (append_assoc front (1 ∷ low ∷ high ∷ bytes) (0 ∷ []))

    -- and then the file rests again
    pub rests_again : (c : List ℕ) → Holds staged end (1 ∷ []) c → Resting sectors (end + 140) c
    rests_again c holds = record {
      front = front ++ (1 ∷ low ∷ high ∷ bytes);
      split = after c holds;
      blocks = longer sectors end front rests.blocks low high bytes sized fits;
    }

    pub then_has : (c : List ℕ) → Holds staged end (1 ∷ []) c → contents sectors c ≡ with_sector (contents sectors file) (low + high * 256) bytes
    then_has c holds =
        let is : c ≡ front ++ (1 ∷ low ∷ high ∷ bytes ++ 0 ∷ []) = after c holds ∙ append_assoc front (1 ∷ low ∷ high ∷ bytes) (0 ∷ []) in
        ap (contents sectors) is
        ∙ goes_on_behind sectors end front rests.blocks (1 ∷ low ∷ high ∷ bytes ++ 0 ∷ [])
        ∙ ap (λ (es : List Entry). applied now es) (block_behind sectors low high bytes (0 ∷ []) sized fits)
        ∙ ap (λ (b : List ℕ). with_sector b (low + high * 256) bytes) (sym stands_for)
