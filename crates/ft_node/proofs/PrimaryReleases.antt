-- What a primary may release. Its coverage has the index of each outstanding operation's mark, and how many entries must
-- be replayed; so the coverage's test is the protocol's.
use Rattle.std.specs.Option.{option_map}
use Rattle.std.proofs.Common.{◌≡◌, ℕ, false, not, Option, Some, None, is_none, [], ◌∷◌, refl, ap, ◌∙◌}
use Rattle.std.specs.Prelude.{◌&&◌}
use Rattle.ft_node.proofs.Words.{Covering, Covers, IsPrimary, Log, Machine, Node, NotCovered, NotDue, Note, OpId, Operation, Primary, Reads, Sending, covers, fault_if, first_of, is_noted_covered, is_role, note_of, release_refusal, waits_in}
use Rattle.output_rule.specs.Notes.{note_in}
use Rattle.output_rule.specs.declared.notes.Note as notes
use Rattle.ft_node.proofs.PrimaryRefusals.{primary_serves}

-- a note of the coverage and one of the protocol that wait for the same are covered alike
both_covered : (c : Covering) (acknowledged reported : ℕ) (mine : Option notes.Note) (note : Option Note)
    → c.acknowledged ≡ acknowledged → c.reported ≡ reported → c.all ≡ false
    → option_map (λ (n : notes.Note). (n.index, n.after)) mine ≡ waits_in note
    → covers acknowledged reported note ≡ is_noted_covered c mine
both_covered c acknowledged reported None None heard told waits same = refl
both_covered c acknowledged reported None (Some note) heard told waits same = absurd cc
both_covered c acknowledged reported (Some mine) None heard told waits same = absurd cc
both_covered c acknowledged reported (Some mine) (Some note) heard told waits same =
    let pair : ◌≡◌ {A = ℕ × ℕ} (mine.index, mine.after) (note.index, note.after) = cc in
    let index : mine.index ≡ note.index = ap (λ p. p.0) pair in
    let after : mine.after ≡ note.after = ap (λ p. p.1) pair in
    rw (heard, told, waits, index, after) refl

covers_is : {S : Type 0} (M : Machine S) (c : Covering) (x : Node S) (name : OpId) (o : Operation) → Covers M c x
    → M.find x.machine name ≡ Some o
    → covers x.covered x.reported (note_of x.notes name) ≡ is_noted_covered c (note_in c.notes name)
covers_is M c x name o known there =
    both_covered c x.covered x.reported (note_in c.notes name) (note_of x.notes name) known.acknowledged known.reported
    known.waits (known.noted name o there)

-- why a release is refused: nothing is outstanding under the name, or it is not covered
pub release_refused : {S : Type 0} {K : Option S → Type 0} {reads : Reads} (M : Machine S) (s : S) (l : Log) (sd : Sending) (c : Covering) (x : Node S)
    (name : OpId) → IsPrimary M K reads s l sd c x
    → release_refusal M name x
    ≡ first_of
    (fault_if (is_none (M.find s name)) NotDue ∷ fault_if (not (is_noted_covered c (note_in c.notes name))) NotCovered ∷ [])
release_refused M s l sd c x name p =
    ap (λ r. first_of (r ∷ fault_if (is_none (M.find x.machine name)) NotDue
    ∷ fault_if (is_role x.role Primary && not (covers x.covered x.reported (note_of x.notes name))) NotCovered ∷ []))
    (primary_serves x p.role p.up)
    ∙ ap (λ r. first_of (fault_if (is_none (M.find x.machine name)) NotDue
    ∷ fault_if (is_role r Primary && not (covers x.covered x.reported (note_of x.notes name))) NotCovered ∷ []))
    p.role
    ∙ go (M.find x.machine name) refl
    ∙ ap (λ m. first_of (fault_if (is_none (M.find m name)) NotDue
    ∷ fault_if (not (is_noted_covered c (note_in c.notes name))) NotCovered ∷ [])) p.machine
  where
    go : (o : Option Operation) → M.find x.machine name ≡ o
        → first_of (fault_if (is_none o) NotDue
        ∷ fault_if (not (covers x.covered x.reported (note_of x.notes name))) NotCovered ∷ [])
        ≡ first_of (fault_if (is_none o) NotDue
        ∷ fault_if (not (is_noted_covered c (note_in c.notes name))) NotCovered ∷ [])
    go None there = refl
    go (Some o) there =
        ap (λ b. first_of (fault_if (not b) NotCovered ∷ [])) (covers_is M c x name o p.covers there)
