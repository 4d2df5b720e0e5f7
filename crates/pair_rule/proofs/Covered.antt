-- An operation that is outstanding and covered by its note was given by a step whose mark is acknowledged.
use Rattle.std.proofs.Common.{◌≡◌, ◌≢◌, ℕ, suc, ◌<◌, Bool, true, false, List, [], ◌∷◌, ◌++◌, length, sym, refl, ap, ◌∙◌, inl, inr, ◌⊎◌, arith, Option, Some, None, append-nil, append_assoc, ◌&&◌, nat_lt, nat_le, if◌then◌else◌}
use Rattle.pair_rule.proofs.Words.{Do, Entry, Input, IsAcknowledged, Lawful, Logged, Machine, Move, Note, OpId, Operation, Runs, Take, and_parts, covers, entries, entry_of, id_of, marks, note_of, notes_after, notes_from, same_name, same_some}
use Rattle.event_callbacks.proofs.Names.{name_cases, same_name-different, same_name-itself}
use Rattle.guest_lockstep.specs.Outstanding.{ComesAndGoes, completed_by}
use Rattle.pair_protocol.specs.Waiting.{waits_for}

-- ---- names

-- two names are one, or not
two_names : (i j : OpId) → (i ≡ j) ⊎ ((i ≢ j) × (same_name i j ≡ false))
two_names i j = elim (name_cases i j) [
  | inl same ↦ inl same
  | inr differ ↦ inr (differ, same_name-different i j differ)
]

-- ---- the last step that gave what is outstanding

-- the note of an operation that the moves gave, after this many entries
pub record Noted (log : List Entry) (count : ℕ) (moves : List Move) (o : Operation) (note : Option Note) : Type 0 where
  pub front : List Move
  pub rest : List Move
  pub given : moves ≡ front ++ Do (Some o) ∷ rest
  pub after : ℕ
  pub is : note ≡ Some (record { name = id_of o; index = length (log ++ entries Logged count front); after = after })

noted_later : (log log' : List Entry) (c c' : ℕ) (m : Move) (ms : List Move) (o : Operation) (note : Option Note)
    → ((front : List Move) → log' ++ entries Logged c' front ≡ log ++ entries Logged c (m ∷ front))
    → Noted log' c' ms o note → Noted log c (m ∷ ms) o note
noted_later log log' c c' m ms o note same n = record {
  front = m ∷ n.front;
  rest = n.rest;
  given = ap (λ l. m ∷ l) n.given;
  after = n.after;
  is = n.is ∙ ap (λ (l : List Entry). Some (record { name = id_of o; index = length l; after = n.after }))
      (same n.front);
}

module _ {S : Type 0} (M : Machine S) (operations : ComesAndGoes M) (o : Operation) where
  -- the note of an operation that is given after a log
  abbrev noted : Operation → List Entry → Note
  noted p log = record { name = id_of p; index = length log; after = waits_for p log }

  -- it was outstanding before, and its note stays; or the moves gave it
  abbrev Since : S → List Entry → ℕ → List Note → List Move → Type 0
  Since a log c ns ms = ((M.find a (id_of o) ≡ Some o) × (note_of (notes_from c log ns ms) (id_of o) ≡ note_of ns (id_of o))) ⊎
      Noted log c ms o (note_of (notes_from c log ns ms) (id_of o))

  stays : (a b : S) (i : Input) → M.take a i ≡ Some b → M.find b (id_of o) ≡ Some o → M.find a (id_of o) ≡ Some o
  stays a b i take found = go (completed_by M a i) refl
    where
      go : (done : Option OpId) → completed_by M a i ≡ done → M.find a (id_of o) ≡ Some o
      go None is = sym (operations.stays a b i take is (id_of o)) ∙ found
      go (Some n) is = let g = operations.goes a b i n take is in elim (two_names (id_of o) n) [
        | inl e ↦ (let none : None ≡ Some o = sym g.0 ∙ ap (M.find b) (sym e) ∙ found in absurd cc)
        | inr d ↦ sym (g.1 (id_of o) d.0) ∙ found
      ]

  by_step : (a b : S) (p : Operation) (log : List Entry) (c : ℕ) (ns : List Note) (ms : List Move) → M.step a ≡ Some (b, Some p)
      → Since b (log ++ marks (suc c) (Some p)) (suc c) (notes_after ns log (Some p)) ms → Since a log c ns (Do (Some p) ∷ ms)
  by_step a b p log c ns ms step (inr n) =
      inr (noted_later log (log ++ marks (suc c) (Some p)) c (suc c) (Do (Some p)) ms o _
      (λ front. append_assoc log (marks (suc c) (Some p)) (entries Logged (suc c) front)) n)
  by_step a b p log c ns ms step (inl h) = elim (two_names (id_of o) (id_of p)) [
    | inl e ↦ (let same : o ≡ p = same_some o p (M.find b (id_of p)) (ap (M.find b) (sym e) ∙ h.0)
        (operations.comes a b p step).0 in inr record {
          front = [];
          rest = ms;
          given = λ i. Do (Some (sym same i)) ∷ ms;
          after = waits_for p log;
          is = h.1 ∙ ap (λ (t : Bool). if t then Some (noted p log) else note_of ns (id_of o))
              (ap (λ n. same_name (id_of o) n) (sym e) ∙ same_name-itself (id_of o)) ∙
              (λ i. Some (record { name = sym e i; index = length (sym (append-nil log) i); after = waits_for p log }));
        })
    | inr d ↦ inl (
      sym ((operations.comes a b p step).1 (id_of o) d.0) ∙ h.0,
      h.1 ∙ ap
          (λ (t : Bool). if t then Some (noted p log) else note_of ns (id_of o)) d.1,
    )
  ]

  pub since : (a s : S) (log : List Entry) (c : ℕ) (ns : List Note) (ms : List Move) → Runs M a ms s → M.find s (id_of o) ≡ Some o
      → Since a log c ns ms
  since a s log c ns [] run found = inl (ap (λ t. M.find t (id_of o)) run ∙ found, refl)
  since a s log c ns (Do None ∷ ms) run found = elim (since run.0 s (log ++ []) (suc c) ns ms run.2 found) [
    | inl h ↦ inl (sym (operations.quiet a run.0 run.1 (id_of o)) ∙ h.0, h.1)
    | inr n ↦ inr (noted_later log (log ++ []) c (suc c) (Do None) ms o _
        (λ front. ap (λ l. l ++ entries Logged (suc c) front) (append-nil log)) n)
  ]
  since a s log c ns (Do (Some p) ∷ ms) run found =
      by_step a run.0 p log c ns ms run.1
      (since run.0 s (log ++ marks (suc c) (Some p)) (suc c) (notes_after ns log (Some p)) ms run.2 found)
  since a s log c ns (Take i ∷ ms) run found = elim
      (since run.0 s (log ++ entry_of Logged c i ∷ []) c ns ms run.2 found) [
        | inl h ↦ inl (stays a run.0 i run.1 h.0, h.1)
        | inr n ↦ inr (noted_later log (log ++ entry_of Logged c i ∷ []) c c (Take i) ms o _
            (λ front. append_assoc log (entry_of Logged c i ∷ []) (entries Logged c front)) n)
      ]

-- what the note covers is acknowledged
low_index : (seen index after : ℕ) → (nat_lt index seen && nat_le after 0) ≡ true → index < seen
low_index seen index after e = let h = (and_parts (nat_lt index seen) (nat_le after 0) e).0 in grind arith

pub is_acknowledged : {S : Type 0} (M : Machine S) → ComesAndGoes M → Lawful M
    → (moves : List Move) (s : S) (seen : ℕ) (o : Operation) → Runs M M.boot moves s → M.find s (id_of o) ≡ Some o
    → covers seen 0 (note_of (notes_from 0 [] [] moves) (id_of o)) ≡ true → IsAcknowledged moves seen o
is_acknowledged M operations laws moves s seen o run found covered =
    elim (since M operations o M.boot s [] 0 [] moves run found) [
      | inl h ↦ absurd (laws.given [] M.boot (id_of o) o refl h.0)
      | inr n ↦ record {
        front = n.front;
        rest = n.rest;
        given = n.given;
        marked = low_index seen (length (entries Logged 0 n.front)) n.after (ap (covers seen 0) (sym n.is) ∙ covered);
      }
    ]
