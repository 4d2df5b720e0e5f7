-- Events happen one after another: one more row after other rows makes rows again, by which what is settled grows, and
-- the world after them is shown and faithful, as that row says. So a loop over events keeps the run of those that have
-- happened.
use Rattle.ft_world.proofs.Words.{Applies, Copying, Course, Event, Fault, First, Guest, Happens, Machine, Nothing, Record, Reply, Row, Rows, Running, Shows, ShowsSome, World, always_faithful, answer_of, machine_of}
use Rattle.std.proofs.Common.{◌≡◌, ◌<◌, ◌+◌, ◌∷◌, ◌++◌, ◌∙◌, [], Err, List, Ok, ap, get_or, length, refl, subst, sym}
use Rattle.std.proofs.Common.{take, ℕ}
use Rattle.std.specs.Prelude.{IfOk, OnErr, Result, map}
use Rattle.std.proofs.lemmas.List.{length-append, map-append, take_more}
use Rattle.pair_protocol.specs.Reply as protocol
use Rattle.ft_world.specs.Applies.{Runs}
use Rattle.ft_world.proofs.Growing.{rows_grow}

-- one more row at the end
rows_then : {S : Type 0} (M : Machine S) (C : Copying S) (w mid new : World S) (events : List Event)
    (replies : List protocol.Reply) (e : Event) (r : protocol.Reply) → Rows M C w events replies mid →
    Row M C mid e r new → Rows M C w (events ++ e ∷ []) (replies ++ r ∷ []) new
rows_then M C w mid new events replies e r Nothing row = First row Nothing
rows_then M C w mid new events replies e r (First {mid = v} {events = es} {replies = rs} first rest) row =
    First first (rows_then M C v mid new es rs e r rest row)

-- no event has happened yet
pub runs_begin : {B H D S : Type 0} (state : B → S) (copied : B → Guest) (M : Machine S) (records : D → List Record) (v : Running B H D)
    (c : Course S) → Shows state copied M records v c → Runs state copied M records c [] [] v
runs_begin state copied M records v c h =
    let N = machine_of M c in
    record {
      after = c.world;
      rows = Nothing;
      each = refl;
      shows = h;
      faithful = always_faithful N c.copying h.machine.lawful h.machine.copies c.world h.reached;
      grows = rows_grow N c.copying h.machine.lawful h.machine.copies c.world c.world [] [] h.reached Nothing;
    }

-- one more event has happened
pub runs_then : {B H D S : Type 0} (state : B → S) (copied : B → Guest) (M : Machine S) (records : D → List Record)
    (start old new : Running B H D) (c : Course S) (events : List Event) (answers : List (Result Reply Fault))
    (e : Event) (answer : Result Reply Fault) → Shows state copied M records start c →
    Runs state copied M records c events answers old → Happens state copied M records old e answer new →
    Runs state copied M records c (events ++ e ∷ []) (answers ++ answer ∷ []) new
runs_then {S = S} state copied M records start old new c events answers e answer h so_far happens = record {
  after = a.after;
  rows = rows;
  each = length-append answers (answer ∷ []) ∙ ap (λ n. n + 1) so_far.each ∙ sym (length-append events (e ∷ []));
  shows = a.shows;
  faithful = a.faithful;
  grows = rows_grow N c.copying h.machine.lawful h.machine.copies c.world a.after (events ++ e ∷ []) (map answer_of (answers ++ answer ∷ []))
      h.reached rows;
}
  where
    N : Machine S
    N = machine_of M c

    a : Applies state copied M records (record c { world = so_far.after }) e answer new
    a = happens (record c { world = so_far.after }) so_far.shows

    rows : Rows N c.copying c.world (events ++ e ∷ []) (map answer_of (answers ++ answer ∷ [])) a.after
    rows = subst (λ rs. Rows N c.copying c.world (events ++ e ∷ []) rs a.after)
        (sym (map-append answer_of answers (answer ∷ [])))
        (rows_then N c.copying c.world so_far.after a.after events (map answer_of answers) e (answer_of answer) so_far.rows a.row)

-- the event at a place in a list has happened after those before it
pub runs_on : {B H D S : Type 0} (state : B → S) (copied : B → Guest) (M : Machine S) (records : D → List Record)
    (start old new : Running B H D) (c : Course S) (events : List Event) (k : ℕ) (d : Event)
    (answers after : List (Result Reply Fault)) (answer : Result Reply Fault) → Shows state copied M records start c →
    k < length events → after ≡ answers ++ answer ∷ [] → Runs state copied M records c (take k events) answers old →
    Happens state copied M records old (get_or events k d) answer new → Runs state copied M records c (take (k + 1) events) after new
runs_on state copied M records start old new c events k d answers after answer h low is so_far happens =
    subst (λ l. Runs state copied M records c (take (k + 1) events) l new) (sym is)
    (subst (λ l. Runs state copied M records c l (answers ++ answer ∷ []) new) (sym (take_more events k d low))
    (runs_then state copied M records start old new c (take k events) answers (get_or events k d) answer h so_far happens))

-- some world is shown after a run
pub runs_go_on : {B H D S A : Type 0} (state : B → S) (copied : B → Guest) (M : Machine S) (records : D → List Record)
    (old new : Running B H D) (events : List Event) (answers : A → List (Result Reply Fault))
    (result : Result A Fault) → ShowsSome state copied M records old →
    IfOk result (λ r. (c : Course S) → Shows state copied M records old c → Runs state copied M records c events (answers r) new) →
    OnErr result (new ≡ old) → ShowsSome state copied M records new
runs_go_on state copied M records old new events answers (Ok r) some runs same =
    let a = runs some.course some.shows in
    record { course = record some.course { world = a.after }; shows = a.shows }
runs_go_on state copied M records old new events answers (Err fault) some runs same =
    subst (ShowsSome state copied M records) (sym same) some
