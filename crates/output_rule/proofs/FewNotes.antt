-- Notes of different operations, each of which is one of these, are no more than these: their names differ, and each of
-- them is found among the names.
use Rattle.std.proofs.Common.{◌≡◌, ℕ, zero, suc, ◌<◌, ◌≤◌, true, false, ◌||◌, List, [], ◌∷◌, length, get_or, refl, ap, ◌∙◌, arith}
use Rattle.std.specs.Prelude.{All, AllPairs, Contains}
use Rattle.std.specs.List.{IsDistinct, AllByRecursion, list_any}
use Rattle.std.proofs.lemmas.List.Elements.{All-tail}
use Rattle.std.proofs.lemmas.Map.Keys.{IsDistinct-cons}
use Rattle.std.proofs.lemmas.Map.Made.{length-le_from_is_member}
use Rattle.event_callbacks.specs.declared.operations.OpId.{OpId}
use Rattle.event_callbacks.proofs.Names.{equal_from_same, same_name-itself}
use Rattle.output_rule.specs.Laws.{AreNotesOf}
use Rattle.output_rule.specs.Notes.{same_name, AreApart}
use Rattle.output_rule.specs.declared.notes.Note.{Note}
use Rattle.output_rule.proofs.Names.{same_name-IsEquivalence}

-- the names of the notes
abbrev names_of : List Note → List OpId
names_of [] = []
names_of (note ∷ notes) = note.id ∷ names_of notes

length-names_of : (notes : List Note) → length (names_of notes) ≡ length notes
length-names_of [] = refl
length-names_of (note ∷ notes) = ap suc (length-names_of notes)

AllPairs-tail : (note : Note) (notes : List Note) → AllPairs AreApart (note ∷ notes) → AllPairs AreApart notes
AllPairs-tail note notes apart i j d before within = apart (suc i) (suc j) d (omega arith) (omega arith)

-- the first note is apart from the others
first_apart : (note : Note) (notes : List Note) → AllPairs AreApart (note ∷ notes) → All (AreApart note) notes
first_apart note notes apart k d within = apart zero (suc k) d (omega arith) (omega arith)

differ_from : (id : OpId) (notes : List Note) → All (λ note. same_name id note.id ≡ false) notes
    → AllByRecursion (λ other. same_name id other ≡ false) (names_of notes)
differ_from id [] apart = tt
differ_from id (note ∷ notes) apart =
    let apart_from : Note → Type 0 = λ one. same_name id one.id ≡ false in
    (apart zero note (omega arith), differ_from id notes (All-tail apart_from note notes apart))

names_differ : (notes : List Note) → AllPairs AreApart notes → IsDistinct same_name (names_of notes)
unfolding IsDistinct
names_differ [] apart = tt
names_differ (note ∷ notes) apart =
    IsDistinct-cons same_name note.id (names_of notes) (differ_from note.id notes (first_apart note notes apart))
    (names_differ notes (AllPairs-tail note notes apart))

-- what a list contains is found in it
found : (names : List OpId) (id : OpId) (k : ℕ) → k < length names → get_or names k id ≡ id
    → list_any (same_name id) names ≡ true
found [] id k within is = let none : k < 0 = within in absurd (omega arith)
found (name ∷ names) id zero within is =
    let same : same_name id name ≡ true = ap (same_name id) is ∙ same_name-itself id in rw same refl
found (name ∷ names) id (suc k) within is =
    elim (same_name id name) as (λ b. (b || list_any (same_name id) names) ≡ true) [
      | true ↦ refl
      | false ↦ found names id k (omega arith) is
    ]

-- a name of a note is found among the operations' names
each_found : (names : List OpId) (notes : List Note) (id : OpId) → AreNotesOf names notes
    → list_any (same_name id) (names_of notes) ≡ true → list_any (same_name id) names ≡ true
each_found names [] id of_these is = cc
each_found names (note ∷ notes) id of_these is =
    elim (same_name id note.id)
    as (λ b. same_name id note.id ≡ b → (b || list_any (same_name id) (names_of notes)) ≡ true
    → list_any (same_name id) names ≡ true) [
      | true ↦ λ same any.
          let this = of_these zero note (omega arith) in
          let named = equal_from_same id note.id same in
          ap (λ i. list_any (same_name i) names) named ∙ found names note.id this.0 this.1 this.2
      | false ↦ λ differs any.
          let one_of : Note → Type 0 = λ one. Contains names one.id in
          each_found names notes id (All-tail one_of note notes of_these) any
    ] refl is

pub few_notes : (notes : List Note) (names : List OpId) → AllPairs AreApart notes → AreNotesOf names notes
    → length notes ≤ length names
few_notes notes names apart of_these =
    let as_many = length-names_of notes in
    let few =
    length-le_from_is_member same_name-IsEquivalence (names_of notes) names (names_differ notes apart)
    (λ id is. each_found names notes id of_these is)
    in
    omega arith
