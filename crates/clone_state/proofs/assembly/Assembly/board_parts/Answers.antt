-- Every part has arrived: the first part is read or not, the tables fit it or not, and there is memory for the board or not.
use Rattle.std.proofs.Common.{List, Option, Result, ℕ, ap, drop, subst, sym, ◌∙◌}
use Rattle.std.specs.List.{list_all}
use Rattle.std.specs.Prelude.{is_err}
use Rattle.i8080_words.specs.declared.refusal.Fault.{Fault}
use Rattle.clone_state.specs.Parts.{first_in}
use Rattle.clone_state.specs.Reading.{first_of}
use Rattle.clone_state.specs.Slots.{HasPages, fit_slots}
use Rattle.clone_state.proofs.Assembled.{has_pages, makes_guest, no_memory, stands_whole, unfit, unread}
use Rattle.clone_state.proofs.Made.{says}
use Rattle.clone_state.proofs.assembly.Assembly.board_parts.Goals as goal

pub returns-in_default-clause-refused : goal.returns-in_default-clause-refused
returns-in_default-clause-refused c =
    unread c.args.self.now c.self.inside.generation c.self.inside.drives c.self.inside.first c.self.inside.later
    c.self.view_is c.self.invariant c.whole.result c.whole.ensures
    (ap (λ (r : Result (Unit {0}) Fault). is_err r) c.in_ok-whole.was)
    (c.in_default.ensures.read ∙ ap (first_in c.self.inside.drives) c.deref.ensures.value)

pub returns-then-not-fit-clause-refused : goal.returns-then-not-fit-clause-refused
returns-then-not-fit-clause-refused c =
    unfit c.args.self.now c.self.inside.generation c.self.inside.drives c.self.inside.first c.self.inside.later
    c.self.view_is c.self.invariant c.whole.result c.whole.ensures
    (ap (λ (r : Result (Unit {0}) Fault). is_err r) c.in_ok-whole.was)
    (first_of c.in-Some.first)
    (c.in-Some.ensures.read ∙ ap (first_in c.self.inside.drives) c.deref.ensures.value)
    (c.if-not-fit.ensures
    ∙ ap (λ (ss : List (Option (List ℕ))). list_all (fit_slots c.in-Some.first.devices.disk) (drop 256 ss)) c.deref-2.ensures.value)

pub parts_of_board-requires : goal.parts_of_board-requires
parts_of_board-requires c =
    subst HasPages (sym c.deref-3.ensures.value)
    (has_pages c.args.self.now c.self.inside.generation c.self.inside.drives c.self.inside.first c.self.inside.later
    c.self.view_is c.self.invariant c.whole.result c.whole.ensures
    (ap (λ (r : Result (Unit {0}) Fault). is_err r) c.in_ok-whole.was))

pub returns-in_default-parts_of_board-clause-refused : goal.returns-in_default-parts_of_board-clause-refused
returns-in_default-parts_of_board-clause-refused c =
    no_memory c.args.self.now c.self.inside.generation c.self.inside.drives c.self.inside.first c.self.inside.later
    c.self.view_is c.self.invariant c.whole.result c.whole.ensures
    (ap (λ (r : Result (Unit {0}) Fault). is_err r) c.in_ok-whole.was)
    (first_of c.in-Some.first)
    (c.in-Some.ensures.read ∙ ap (first_in c.self.inside.drives) c.deref.ensures.value) c.in-Some.ensures.board
    (c.if-not-fit.ensures
    ∙ ap (λ (ss : List (Option (List ℕ))). list_all (fit_slots c.in-Some.first.devices.disk) (drop 256 ss)) c.deref-2.ensures.value)

pub returns-clause-guest : goal.returns-clause-guest
returns-clause-guest c =
    makes_guest c.args.self.now c.self.inside.generation c.self.inside.drives c.self.inside.first c.self.inside.later
    c.self.view_is c.self.invariant c.whole.result c.whole.ensures
    (ap (λ (r : Result (Unit {0}) Fault). is_err r) c.in_ok-whole.was)
    (first_of c.in-Some.first)
    (c.in-Some.ensures.read ∙ ap (first_in c.self.inside.drives) c.deref.ensures.value) c.in-Some.ensures.board
    (c.if-not-fit.ensures
    ∙ ap (λ (ss : List (Option (List ℕ))). list_all (fit_slots c.in-Some.first.devices.disk) (drop 256 ss)) c.deref-2.ensures.value)
    c.in-Ok.parts
    (c.in-Ok.ensures.ok ∙ ap (λ (ss : List (Option (List ℕ))). says (first_of c.in-Some.first) ss) c.deref-3.ensures.value)

pub returns-clause-stands : goal.returns-clause-stands
returns-clause-stands c =
    stands_whole c.args.self.now c.self.inside.generation c.self.inside.drives c.self.inside.first c.self.inside.later
    c.self.view_is c.self.invariant c.whole.result c.whole.ensures
    (ap (λ (r : Result (Unit {0}) Fault). is_err r) c.in_ok-whole.was)
    (first_of c.in-Some.first)
    (c.in-Some.ensures.read ∙ ap (first_in c.self.inside.drives) c.deref.ensures.value) c.in-Some.ensures.board
    (c.if-not-fit.ensures
    ∙ ap (λ (ss : List (Option (List ℕ))). list_all (fit_slots c.in-Some.first.devices.disk) (drop 256 ss)) c.deref-2.ensures.value)
    c.in-Ok.parts
    (c.in-Ok.ensures.ok ∙ ap (λ (ss : List (Option (List ℕ))). says (first_of c.in-Some.first) ss) c.deref-3.ensures.value)
