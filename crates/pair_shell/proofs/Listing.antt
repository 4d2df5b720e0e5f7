-- The names of what is outstanding, one after another.
use Rattle.std.proofs.Common.{◌≡◌, ℕ, ◌+◌, ◌<◌, true, false, cond, Some, None, List, [], ◌∷◌, ◌++◌, append-nil, append_assoc, length, map, map-id, take, get_or, sym, ap, ◌∙◌, arith}
use Rattle.std.specs.List.{flat_map, range_with_len}
use Rattle.std.specs.Prelude.{◌-◌, ◌^◌, is_some, min}
use Rattle.std.proofs.lemmas.List.{flat_map_more, map-append, take_more}
use Rattle.std.proofs.lemmas.List.FromFn.{map-range_with_len_more}
use Rattle.disk_dcdd.specs.declared.sector.Place.{Place}
use Rattle.event_callbacks.specs.declared.operations.OpId.{OpId}
use Rattle.event_callbacks.specs.declared.operations.OpId.TheVariants as id
use Rattle.guest_lockstep.specs.Machine.{Machine}
use Rattle.pair_shell.specs.Outstanding.{byte_out, bytes_from, bytes_out, bytes_to, write_at}

range_more : (n : ℕ) → range_with_len 0 (n + 1) ≡ range_with_len 0 n ++ n ∷ []
range_more n =
    sym (map-id (range_with_len 0 (n + 1))) ∙ map-range_with_len_more (λ m. m) 0 n n (omega arith)
    ∙ ap (λ l. l ++ n ∷ []) (map-id (range_with_len 0 n))

module _ {S : Type 0} (M : Machine S) (s : S) (port : ℕ) where
  -- one byte more, which is outstanding or not
  pub byte_more : (due place number : ℕ) (first before now more : List OpId) → number ≡ min (due + place) (2 ^ 64 - 1) →
      before ≡ first ++ bytes_to M s port due place → now ≡ before ++ more → byte_out M s port number ≡ more →
      now ≡ first ++ bytes_to M s port due (place + 1)
  byte_more due place number first before now more named was is out =
      let f : ℕ → List OpId = λ k. byte_out M s port (min (due + k) (2 ^ 64 - 1)) in
      is ∙ ap (λ l. before ++ l) (sym out ∙ ap (byte_out M s port) named) ∙ ap (λ l. l ++ f place) was
      ∙ flat_map_more f first (range_with_len 0 place) place ∙ ap (λ l. first ++ flat_map f l) (sym (range_more place))

  pub byte_found : (number : ℕ) → is_some (M.find s (id.Byte port number)) ≡ true →
      byte_out M s port number ≡ id.Byte port number ∷ []
  byte_found number is = ap (λ b. cond b (id.Byte port number ∷ []) []) is

  pub byte_missing : (number : ℕ) → is_some (M.find s (id.Byte port number)) ≡ false → byte_out M s port number ≡ []
  byte_missing number is = ap (λ b. cond b (id.Byte port number ∷ []) []) is

  -- the bytes of a port
  pub all_bytes : (due place : ℕ) (first now : List OpId) → Some due ≡ M.due_byte s port → place ≡ 16 →
      now ≡ first ++ bytes_to M s port due place → now ≡ first ++ bytes_out M s port
  all_bytes due place first now is all so =
      so ∙ ap (λ k. first ++ bytes_to M s port due k) all ∙ ap (λ o. first ++ bytes_from M s port o) is

  pub no_byte : (first : List OpId) → None ≡ M.due_byte s port → first ≡ first ++ bytes_out M s port
  no_byte first is = sym (append-nil first) ∙ ap (λ o. first ++ bytes_from M s port o) is

-- one write more
pub write_more : (first before now : List OpId) (places : List Place) (i : ℕ) (d place : Place) →
    now ≡ before ++ write_at place ∷ [] → place ≡ get_or places i d → i < length places →
    before ≡ first ++ map write_at (take i places) → now ≡ first ++ map write_at (take (i + 1) places)
write_more first before now places i d place more at within so_far =
    more ∙ ap (λ p. before ++ write_at p ∷ []) at ∙ ap (λ l. l ++ write_at (get_or places i d) ∷ []) so_far
    ∙ append_assoc first (map write_at (take i places)) (write_at (get_or places i d) ∷ [])
    ∙ ap (λ l. first ++ l) (sym (map-append write_at (take i places) (get_or places i d ∷ [])))
    ∙ ap (λ l. first ++ map write_at l) (sym (take_more places i d within))
