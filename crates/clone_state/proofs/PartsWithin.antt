-- A part that is read has an index of the image: its payload is well-formed for that index.
use Rattle.std.proofs.Common.{◌≡◌, ℕ, ◌<◌, Bool, true, false, cond, eqb, ltb, List, [], ◌∷◌, Some, None, is_some, refl, subst, arith}
use Rattle.std.proofs.lemmas.Bool.{eqb-true, ltb-true}
use Rattle.std.proofs.lemmas.Option.{none-some, same_Some}
use Rattle.clone_state.proofs.Words.{IndexesAreWithin, PartMessage, after_tag, first_in, first_read, generation_from, is_page, is_payload, message_at, part_count, read_all, table, word}

-- no payload is well-formed for an index past the image
payload_within : (drives index : ℕ) (payload : List ℕ) → is_payload drives index payload ≡ true
    → index < part_count drives
unfolding is_payload
payload_within drives index payload is =
    go (eqb index 0) (ltb index 257) (ltb index (part_count drives)) refl refl refl is
  where
    go : (front page later : Bool) → eqb index 0 ≡ front → ltb index 257 ≡ page → ltb index (part_count drives) ≡ later
        → cond front (is_some (first_in drives payload))
        (cond page (is_page payload) (cond later (is_some (read_all table payload)) false)) ≡ true
        → index < part_count drives
    go true page later zero p l e = let none = eqb-true index 0 zero in omega (arith, none)
    go false true later zero p l e = let low = ltb-true index 257 p in omega (arith, low)
    go false false true zero p l e = ltb-true index (part_count drives) l
    go false false false zero p l e = absurd (cc)

checked_within : (drives : ℕ) (n m : PartMessage) (b : Bool) → is_payload drives n.index n.payload ≡ b
    → cond b (Some n) None ≡ Some m → m.index < part_count drives
checked_within drives n m true is e =
    subst (λ (k : PartMessage). k.index < part_count drives) (same_Some n m e)
    (payload_within drives n.index n.payload is)
checked_within drives n m false is e = absurd (none-some m e)

tag_within : (drives : ℕ) (bytes : List ℕ) (m : PartMessage) → after_tag drives bytes ≡ Some m
    → m.index < part_count drives
tag_within drives bytes m e =
    let g = first_read (generation_from bytes) _ m e in
    let i = first_read (word.read g.0.1) _ m g.2 in
    checked_within drives (record { generation = g.0.0; index = i.0.0; payload = i.0.1 }) m
    (is_payload drives i.0.0 i.0.1) refl i.2

by_tag : (drives : ℕ) (bytes : List ℕ) (m : PartMessage) (b : Bool)
    → cond b (after_tag drives bytes) None ≡ Some m → m.index < part_count drives
by_tag drives bytes m true e = tag_within drives bytes m e
by_tag drives bytes m false e = absurd (none-some m e)

pub parts_within : IndexesAreWithin
unfolding message_at
parts_within drives [] m e = absurd (none-some m e)
parts_within drives (tag ∷ bytes) m e = by_tag drives bytes m (eqb tag 0x50) e
