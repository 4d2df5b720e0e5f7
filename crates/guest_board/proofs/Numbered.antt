-- An outstanding write has a number that a write can have: its place is in the controller's table, where the numbers are
-- from 1 to the last that was issued.
use Rattle.std.proofs.Common.{◌≡◌, ℕ, zero, ◌<◌, ◌≤◌, Bool, true, false, ◌==◌, ◌||◌, List, [], ◌∷◌, All, Result, OnOk, refl, sym, ◌∙◌, arith}
use Rattle.std.specs.Prelude.{is_some}
use Rattle.std.specs.List.{list_any}
use Rattle.std.proofs.lemmas.Bool.Decides.{nat_tests}
use Rattle.std.proofs.lemmas.List.Elements.{All-tail}
use Rattle.guest_board.proofs.Words.{AreAwaited, Devices, Fault, GREATEST_NUMBER, Operations, Place, answered, operation_at, unless_due}
use Rattle.disk_dcdd.specs.Controller.{IsDrives, IsIssued}
use Rattle.event_callbacks.specs.declared.operations.OpId.TheVariants as id

number_of_place : (places : List Place) (attached issued number : ℕ) → All (IsIssued attached issued) places
    → list_any (λ place. place.number == number) places ≡ true → (0 < number) × (number ≤ issued)
number_of_place [] attached issued number each found = cc
number_of_place (place ∷ places) attached issued number each found =
    elim (place.number == number)
    as (λ b. (place.number == number) ≡ b → (b || list_any (λ one. one.number == number) places) ≡ true
    → (0 < number) × (number ≤ issued)) [
      | true ↦ λ same any.
          let is : place.number ≡ number = grind (arith, nat_tests) in
          let here : IsIssued attached issued place = each zero place (omega arith) in
          let first = here.first in
          let last = here.last in
          (omega arith, omega arith)
      | false ↦ λ differs any.
          number_of_place places attached issued number (All-tail (IsIssued attached issued) place places each) any
    ] refl found

pub written-numbered : (d : Devices) (operations : Operations) (issued : List ℕ) (number : ℕ) (there : Bool)
    (answer : Result (Unit {0}) Fault) → AreAwaited d operations issued → IsDrives d.disk
    → there ≡ is_some (operation_at operations (id.Write number)) → answer ≡ answered (unless_due there)
    → OnOk answer ((0 < number) × (number ≤ GREATEST_NUMBER))
written-numbered d operations issued number false answer awaited stands is answers = rw answers tt
written-numbered d operations issued number true answer awaited stands is answers =
    let found = sym (awaited.writes number) ∙ sym is in
    let within =
    number_of_place d.disk.outstanding d.disk.attached d.disk.issued number stands.outstanding.each found in
    let first = within.0 in
    let last = within.1 in
    let limit = stands.issued in
    rw answers (omega arith, omega arith)
