-- A row is a sequence of actions: what passes the refusals meets what the actions ask for.
use Rattle.std.proofs.Common.{[], ◌∙◌, ◌∷◌, ◌≡◌, ◌≤◌, Bool, List, None, Option, Some, ap, arith, cond, eqb-true, false, inl, inr, length, not, refl, subst, suc, sym, true, zero, ℕ}
use Rattle.std.specs.Prelude.{◌&&◌, ◌==◌, is_none, slice_get}
use Rattle.std.proofs.lemmas.Bool.{not-false, or_parts}
use Rattle.disk_dcdd.proofs.Addresses.{same_address-is}
use Rattle.pair_protocol.proofs.Words.{Acknowledgement, Acts, Alone, AloneReleases, Backup, Change, Changes, Copying, Draining, Entry, GoesLive, ImagePart, Joining, LogEntry, Machine, Node, OpId, Operation, Primary, PrimaryReleases, Reads, Released, Role, SectorRead, Serving, Spare, Stays, Then, World, acts_as, covers, fetches, gets_part, halts, hears, holds, is_role, joins, keys_covered, note_of, replay_told, same_address, told_by, winner_in, with_message, with_node, with_told, with_winner}
use Rattle.guest_lockstep.specs.declared.reads.Reads.TheVariants.{Logged, Shared}
use Rattle.guest_lockstep.specs.declared.replay_end.ReplayEnd.{ReplayEnd}
use Rattle.guest_lockstep.specs.declared.replay_end.ReplayEnd.TheVariants.{End, Memory, Turns, Wait}
use Rattle.i8080_words.specs.declared.refusal.Fault.TheVariants.{Lost, NotCovered, NotDue, NotWhole, StaleRead, Unknown, WrongGeneration, WrongRole}
use Rattle.i8080_words.specs.declared.refusal.Fault.{Fault}
use Rattle.pair_protocol.specs.Change.{Begins, Joins, ReadsSector, Wins}
use Rattle.pair_protocol.specs.Effects.{Again, Comes, Completes, GotPart, Halted, Held, after_drain, next_read, replay_end, wanted, wanted_of}
use Rattle.pair_events.specs.declared.event.Event.{Event}
use Rattle.pair_events.specs.declared.event.Event.TheVariants.{Acknowledge, Arrive, BeginPair, DeliverAcknowledgement, DeliverLog, Drain, Fetch, Fetched, Get, GetReply, PartComes, Put, PutReply, Release, Replay, Send, SendPart, Step, Stop, Suspect, TakeKey, TellSent, Told, TypeByte}
use Rattle.pair_protocol.specs.Reply.{Reply}
use Rattle.pair_protocol.specs.Refusals.{acknowledge_refusal, ask_refusal, at_acknowledgement, at_fetched, at_host, at_log_entry, at_node, at_part, deliver_acknowledgement_refusal, deliver_log_refusal, drain_refusal, fault_if, fetched_refusal, first_of, generation_refusal, no_port, no_such, pair_refusal, part_comes_refusal, refusal, release_refusal, replay_refusal, role_refusal, send_part_refusal, send_refusal, serves, step_refusal, stop_refusal, suspect_refusal, told_refusal, unwanted}
use Rattle.pair_protocol.specs.Row.{Accepts, DeviceFails, Leaves, Refuses, Row, NeedsMemory}
use Rattle.pair_protocol.specs.Rows as row
use Rattle.pair_protocol.specs.Rows.{AtNode, BeginsPair, DeliversLog, Does, Drains, Steps, Suspects, TakesFetched}
use Rattle.pair_protocol.proofs.InputRows.{does_get_reply, does_put_reply, does_take_key, does_tell_sent}
use Rattle.pair_protocol.proofs.OneNode.{advance_changes, from_here, is-at-read, moving, on, replay_changes, with_same}
use Rattle.pair_protocol.proofs.Passed.{acts-in, and-false, changed, changes-append, first-passed, lost-no_spare, node-passed, not-stands, only-passed, passes-if, replaying, role_of, serving, unchanged}

-- ---- each event

pub step-serves : {S : Type 0} (M : Machine S) (turns : ℕ) (x : Node S) → step_refusal M turns x ≡ None → serves x ≡ None
step-serves M zero x h = h
step-serves M (suc turns) x h = (first-passed (serves x) _ h).0

pub does_step : {S : Type 0} (M : Machine S) (C : Copying S) (w : World S) (n turns : ℕ) (r : Reply) (new : World S) →
    refusal M C w (Step n turns) ≡ None → Steps M w n turns r new → Changes M C w new
does_step M C w n turns r new p d =
    let x = d.at.x in
    let q = node-passed (slice_get w.nodes n) x (step_refusal M turns) d.at.there p in
    let a = serving w n x d.at.there (step-serves M turns x q.1) in
    from_here M C w new n x d.at.y d.at.there d.at.after
    (advance_changes M C w n x a.0 d.at.there a.2 d.at.done.advances a.1.up a.1.role_is)

pub does_send : {S : Type 0} (M : Machine S) (C : Copying S) (w : World S) (n index : ℕ) (r : Reply) (new : World S) →
    refusal M C w (Send n index) ≡ None → row.Sends w n index r new → Changes M C w new
does_send M C w n index r new p d =
    let x = d.node.x in
    let q = (node-passed (slice_get w.nodes n) x (send_refusal index) d.node.there p).1 in
    let o = or_parts (not (acts_as x (Primary ∷ []))) _ (not-stands _ Unknown q) in
    let a = acts-in w n x Primary d.node.there (ap (λ b. fault_if b WrongRole) o.0) in
    changed M C w new _ d.says.after (Change.Sends n x index d.e a d.node.said)

held_changes : {S : Type 0} (M : Machine S) (C : Copying S) (w : World S) (m n : ℕ) (x y : Node S) (index : ℕ)
    (e : Entry) (next : Bool) (new : World S) → Acts w n x Backup →
    slice_get w.messages m ≡ Some (LogEntry x.generation index e) → Held index e next x y → new ≡ with_node w n y →
    Changes M C w new
held_changes M C w m n x y index e true new a message h after =
    changed M C w new (with_node w n (holds x e)) (after ∙ ap (with_node w n) h.1)
    (Change.Holds n x m e a (message ∙ ap (λ z. Some (LogEntry x.generation z e)) h.0))
held_changes M C w m n x y index e false new a message h after =
    unchanged M C w new (after ∙ ap (with_node w n) h.1 ∙ with_same w n x a.there)

pub does_deliver_log : {S : Type 0} (M : Machine S) (C : Copying S) (w : World S) (m n : ℕ) (r : Reply) (new : World S) →
    refusal M C w (DeliverLog m n) ≡ None → DeliversLog w m n r new → Changes M C w new
does_deliver_log M C w m n r new p d =
    let x = d.at.x in
    let k = subst (λ z. at_log_entry (slice_get w.nodes n) z ≡ None) d.message p in
    let q = (node-passed (slice_get w.nodes n) x (deliver_log_refusal d.generation) d.at.there k).1 in
    let f = first-passed (role_refusal (Backup ∷ []) x) _ q in
    let g : d.generation ≡ x.generation =
    eqb-true d.generation x.generation (passes-if _ WrongGeneration (only-passed _ f.1)) in
    held_changes M C w m n x d.at.y d.index d.e d.next new (acts-in w n x Backup d.at.there f.0)
    (d.message ∙ ap (λ z. Some (LogEntry z d.index d.e)) g) d.at.done d.at.after

-- no more is reported as replayed than is replayed
told-few : (reads : Reads) (replayed : ℕ) → told_by reads replayed ≤ replayed
told-few Logged replayed = omega arith
told-few Shared replayed = omega arith

pub does_acknowledge : {S : Type 0} (M : Machine S) (C : Copying S) (w : World S) (n : ℕ) (r : Reply) (new : World S) →
    refusal M C w (Acknowledge n) ≡ None → row.Acknowledges w n r new → Changes M C w new
does_acknowledge M C w n r new p d =
    let x = d.node.x in
    let q = (node-passed (slice_get w.nodes n) x acknowledge_refusal d.node.there p).1 in
    changed M C w new (with_message w (Acknowledgement x.generation (length x.held) (replay_told x)))
    (d.says.after ∙ ap (λ k. with_message w (Acknowledgement x.generation k d.replayed)) d.node.said.0
    ∙ ap (λ k. with_message w (Acknowledgement x.generation (length x.held) k)) d.node.said.1)
    (Change.Acknowledges n x (replay_told x) (acts-in w n x Backup d.node.there q) (told-few x.reads x.replayed))

pub does_deliver_acknowledgement : {S : Type 0} (M : Machine S) (C : Copying S) (w : World S) (m n : ℕ) (r : Reply) (new : World S) →
    refusal M C w (DeliverAcknowledgement m n) ≡ None → row.DeliversAcknowledgement w m n r new → Changes M C w new
does_deliver_acknowledgement M C w m n r new p d =
    let k = subst (λ z. at_acknowledgement (slice_get w.nodes n) z ≡ None) d.message p in
    let x = d.at.x in
    let q = (node-passed (slice_get w.nodes n) x (deliver_acknowledgement_refusal d.generation d.held) d.at.there k).1 in
    let f = first-passed (role_refusal (Primary ∷ []) x) _ q in
    let g : d.generation ≡ x.generation =
    eqb-true d.generation x.generation
    (passes-if _ WrongGeneration (first-passed (generation_refusal d.generation x) _ f.1).0) in
    changed M C w new (with_node w n (hears x d.held d.replayed)) (d.at.after ∙ ap (with_node w n) d.at.done.1)
    (Change.Hears n x m d.held d.replayed (acts-in w n x Primary d.at.there f.0)
    (d.message ∙ ap (λ z. Some (Acknowledgement z d.held d.replayed)) g))

pub does_replay : {S : Type 0} (M : Machine S) (C : Copying S) (w : World S) (n turns : ℕ) (r : Reply) (new : World S) →
    refusal M C w (Replay n turns) ≡ None → row.ReplaysHeld M w n turns r new → Changes M C w new
does_replay M C w n turns r new p d =
    let x = d.at.x in
    let q = (node-passed (slice_get w.nodes n) x replay_refusal d.at.there p).1 in
    let a = acts-in w n x Backup d.at.there q in
    from_here M C w new n x d.at.y d.at.there d.at.after
    (replay_changes M C w n x Backup d.at.there (inl refl) d.at.done.moves a.up a.role_is).0

pub releases : {S : Type 0} (M : Machine S) (C : Copying S) (w : World S) (n : ℕ) (x : Node S) (name : OpId)
    (o : Operation) (r : Role) → Serving r → Acts w n x r → M.find x.machine name ≡ Some o →
    (is_role x.role Primary && not (covers x.covered x.reported (note_of x.notes name))) ≡ false →
    Change M C w (with_message w (Released o))
releases M C w n x name o r (inl e) a h c =
    PrimaryReleases n x name o (record { there = a.there; up = a.up; role_is = a.role_is ∙ e }) h
    (not-false _ (and-false _ _ (ap (λ q. is_role q Primary) (a.role_is ∙ e)) c))
releases M C w n x name o r (inr e) a h c =
    AloneReleases n x name o (record { there = a.there; up = a.up; role_is = a.role_is ∙ e }) h

pub does_release : {S : Type 0} (M : Machine S) (C : Copying S) (w : World S) (n : ℕ) (name : OpId) (r : Reply)
    (new : World S) → refusal M C w (Release n name) ≡ None → row.Releases M w n name r new → Changes M C w new
does_release M C w n name r new p d =
    let k = only-passed _ (first-passed (no_such w name) _ p).1 in
    let x = d.node.x in
    let q = (node-passed (slice_get w.nodes n) x (release_refusal M name) d.node.there k).1 in
    let f = first-passed (serves x) _ q in
    let g = first-passed (fault_if (is_none (M.find x.machine name)) NotDue) _ f.1 in
    let a = serving w n x d.node.there f.0 in
    changed M C w new _ d.says.after
    (releases M C w n x name d.o a.0 a.2 a.1 d.node.said (not-stands _ NotCovered (only-passed _ g.1)))

pub does_told : {S : Type 0} (M : Machine S) (C : Copying S) (w : World S) (n port : ℕ) (r : Reply) (new : World S) →
    refusal M C w (Told n port) ≡ None → row.Tells M w n port r new → Changes M C w new
does_told M C w n port r new p d =
    let k = only-passed _ (first-passed (no_port w port) _ p).1 in
    let x = d.node.x in
    let q = (node-passed (slice_get w.nodes n) x told_refusal d.node.there k).1 in
    let a = serving w n x d.node.there q in
    changed M C w new (with_told w port (keys_covered M x port x.role)) (d.after ∙ ap (with_told w port) d.node.said)
    (Change.Tells n x port a.0 a.1 a.2)

halts_changes : {S : Type 0} (M : Machine S) (C : Copying S) (w new : World S) (n : ℕ) (at : AtNode w n Halted new) →
    (at.x.role ≡ Spare → ⊥) → Changes M C w new
halts_changes M C w new n at a_node = changed M C w new (with_node w n (halts at.x))
    (at.after ∙ ap (with_node w n) at.done) (Change.Stops n at.x at.there a_node)

pub does_stop : {S : Type 0} (M : Machine S) (C : Copying S) (w : World S) (n : ℕ) (r : Reply) (new : World S) →
    refusal M C w (Stop n) ≡ None → row.Stops w n r new → Changes M C w new
does_stop M C w n r new p d = halts_changes M C w new n d.at
    (node-passed (slice_get w.nodes n) d.at.x stop_refusal d.at.there p).0

pub suspect_wins : {S : Type 0} (M : Machine S) (C : Copying S) (w : World S) (n : ℕ) (x : Node S) →
    slice_get w.nodes n ≡ Some x → refusal M C w (Suspect n) ≡ None → winner_in w.winners x.generation ≡ None →
    Change M C w (with_winner w n x)
suspect_wins M C w n x there p none =
    let q = node-passed (slice_get w.nodes n) x (ask_refusal w n) there p in
    let f = (first-passed (suspect_refusal x) _ q.1).0 in
    let g = first-passed (fault_if (not x.running) WrongRole) _ f in
    let j = not-stands _ NotWhole (only-passed _ g.1) in
    let joining : x.role ≡ Joining →
    ⊥ = λ e. (let t : is_role x.role Joining ≡ true = ap (λ z. is_role z Joining) e in (cc)) in
    Wins n x x.role (record { there = there; up = passes-if _ WrongRole g.0; role_is = refl }) joining q.0 none

pub asks_no_spare : {S : Type 0} (M : Machine S) (C : Copying S) (w : World S) (n : ℕ) (x : Node S) →
    slice_get w.nodes n ≡ Some x → refusal M C w (Suspect n) ≡ None → x.role ≡ Spare → ⊥
asks_no_spare M C w n x there p = (node-passed (slice_get w.nodes n) x (ask_refusal w n) there p).0

pub does_suspect : {S : Type 0} (M : Machine S) (C : Copying S) (w : World S) (n : ℕ) (r : Reply) (new : World S) →
    refusal M C w (Suspect n) ≡ None → Suspects w n r new → Changes M C w new
does_suspect M C w n r new p d = elim d.after [
  | inl h ↦ changed M C w new _ h.1 (suspect_wins M C w n d.x d.there p h.0)
  | inr h ↦ unchanged M C w new h.1
]

-- the ending of moves after which nothing is left
pub at-end : {S : Type 0} (M : Machine S) (y : Node S) (turns made : ℕ) → replay_end M y turns made ≡ End →
    y.replayed ≡ length y.held
at-end M y turns made h = go (y.replayed == length y.held) (is_none (wanted M y)) (made == turns) refl h
  where
    go : (none waits all : Bool) → (y.replayed == length y.held) ≡ none →
        cond none End (cond waits (cond all Turns Memory) Wait) ≡ End → y.replayed ≡ length y.held
    go true waits all is h = eqb-true y.replayed (length y.held) is
    go false true true is h = (cc)
    go false true false is h = (cc)
    go false false all is h = (cc)

pub drained : {S : Type 0} (M : Machine S) (C : Copying S) (w : World S) (n : ℕ) (x y : Node S) →
    slice_get w.nodes n ≡ Some x → y.running ≡ true → y.role ≡ Draining → (why : ReplayEnd) →
    (why ≡ End → y.replayed ≡ length y.held) →
    Changes M C (with_node w n x) (with_node w n y) → Changes M C (with_node w n x) (with_node w n (after_drain y why))
drained M C w n x y h u e Turns t c = c
drained M C w n x y h u e Wait t c = c
drained M C w n x y h u e Memory t c = c
drained M C w n x y h u e End t c =
    changes-append M C (with_node w n x) (with_node w n y) (with_node w n (after_drain y End)) c
    (on M C w n y (after_drain y End) (after_drain y End)
    (GoesLive n y (moving w n x y Draining h u e) (t refl)) Stays)

pub does_drain : {S : Type 0} (M : Machine S) (C : Copying S) (w : World S) (n turns : ℕ) (r : Reply) (new : World S) →
    refusal M C w (Drain n turns) ≡ None → Drains M w n turns r new → Changes M C w new
does_drain M C w n turns r new p d =
    let x = d.at.x in
    let made = d.at.done in
    let q = (node-passed (slice_get w.nodes n) x drain_refusal d.at.there p).1 in
    let a = acts-in w n x Draining d.at.there q in
    let t = replay_changes M C w n x Draining d.at.there (inr refl) made.replayed.moves a.up a.role_is in
    from_here M C w new n x (after_drain made.z d.why) d.at.there (d.at.after ∙ ap (with_node w n) made.after)
    (drained M C w n x made.z d.at.there t.1 t.2 d.why
    (λ z. at-end M made.z turns d.made (sym made.replayed.ends ∙ z)) t.0)

pub does_begin_pair : {S : Type 0} (M : Machine S) (C : Copying S) (w : World S) (n host : ℕ) (r : Reply) (new : World S) →
    refusal M C w (BeginPair n host) ≡ None → BeginsPair M C w n host r new → Changes M C w new
does_begin_pair M C w n host r new p d =
    let k = subst (λ z. at_host z (slice_get w.nodes n) ≡ None) d.spare p in
    let q = (node-passed (slice_get w.nodes n) d.x (pair_refusal d.y) d.there k).1 in
    let f = first-passed (fault_if (not (is_role d.y.role Spare)) WrongRole) _ q in
    let g = first-passed (role_refusal (Alone ∷ []) d.x) _ (only-passed _ f.1) in
    changed M C w new _ d.after (Begins n host d.x d.y (acts-in w n d.x Alone d.there g.0) d.spare
    (role_of d.y.role Spare (passes-if _ WrongRole f.0)))

pub does_send_part : {S : Type 0} (M : Machine S) (C : Copying S) (w : World S) (n index : ℕ) (r : Reply)
    (new : World S) → refusal M C w (SendPart n index) ≡ None → row.SendsPart C w n index r new → Changes M C w new
does_send_part M C w n index r new p d =
    let x = d.node.x in
    let has = d.node.said in
    let q = (node-passed (slice_get w.nodes n) x (send_part_refusal C index) d.node.there p).1 in
    let o = or_parts (not (acts_as x (Primary ∷ []))) _ (not-stands _ Unknown q) in
    changed M C w new _ d.says.after
    (Change.SendsPart n x has.s index d.part
    (acts-in w n x Primary d.node.there (ap (λ b. fault_if b WrongRole) o.0)) has.image has.is_part)

pub does_part_comes : {S : Type 0} (M : Machine S) (C : Copying S) (w : World S) (m n : ℕ) (r : Reply) (new : World S) →
    refusal M C w (PartComes m n) ≡ None → row.GetsPart C w m n r new → Changes M C w new
does_part_comes {S} M C w m n r new p d = go d.at.done d.at.after
  where
    x : Node S
    x = d.at.x

    q : part_comes_refusal d.generation x ≡ None
    q = (node-passed (slice_get w.nodes n) x (part_comes_refusal d.generation) d.at.there
        (subst (λ z. at_part (slice_get w.nodes n) z ≡ None) d.message p)).1

    f : (role_refusal (Joining ∷ []) x ≡ None) × (first_of (generation_refusal d.generation x ∷ []) ≡ None)
    f = first-passed (role_refusal (Joining ∷ []) x) (generation_refusal d.generation x ∷ []) q

    a : Acts w n x Joining
    a = acts-in w n x Joining d.at.there f.0

    g : d.generation ≡ x.generation
    g = eqb-true d.generation x.generation (passes-if _ WrongGeneration (only-passed _ f.1))

    gets : Change M C w (with_node w n (gets_part x d.index d.part))
    gets = Change.GetsPart n x m d.index d.part a (d.message ∙ ap (λ z. Some (ImagePart z d.index d.part)) g)

    go : {r : Reply} {y : Node S} {new : World S} → GotPart C d.index d.part x r y → new ≡ with_node w n y →
        Changes M C w new
    go {new = new} (Again k) e = unchanged M C w new (e ∙ with_same w n x d.at.there)
    go {new = new} (Comes k v) e = changed M C w new _ e gets
    go {new = new} (Completes parts s k v made) e =
        let y = gets_part x d.index d.part in
        subst (λ z. Changes M C w z) (sym e)
        (Then gets (on M C w n y (joins y s) (joins y s)
        (Joins n y parts s (moving w n x y Joining d.at.there a.up a.role_is) v made) Stays))

-- the read that a node waits for
wants : (fetched : Option (List ℕ)) (read wanted : Option (ℕ × ℕ × ℕ)) (r : ℕ × ℕ × ℕ) →
    wanted_of fetched read ≡ wanted → wanted ≡ Some r → read ≡ Some r
wants None read wanted r is w = is ∙ w
wants (Some bytes) read wanted r is w = (cc)

pub does_fetched : {S : Type 0} (M : Machine S) (C : Copying S) (w : World S) (m n : ℕ) (r : Reply) (new : World S) →
    refusal M C w (Fetched m n) ≡ None → TakesFetched w m n r new → Changes M C w new
does_fetched {S} M C w m n r new p d = go (wanted M x) refl (only-passed _ f.1)
  where
    x : Node S
    x = d.at.x

    k : at_node (slice_get w.nodes n) (fetched_refusal M d.address d.number) ≡ None
    k = subst (λ z. at_fetched M (slice_get w.nodes n) z ≡ None) d.message p

    f : (role_refusal (Backup ∷ Draining ∷ []) x ≡ None)
        × (first_of (unwanted M x d.address d.number (wanted M x) ∷ []) ≡ None)
    f = first-passed (role_refusal (Backup ∷ Draining ∷ []) x) _
        (node-passed (slice_get w.nodes n) x (fetched_refusal M d.address d.number) d.at.there k).1

    go : (wants_is : Option (ℕ × ℕ × ℕ)) → wanted M x ≡ wants_is → unwanted M x d.address d.number wants_is ≡ None →
        Changes M C w new
    go None is u = (cc)
    go (Some read) is u =
        let g = first-passed (fault_if (not (same_address (M.address x.machine read.0 read.1) d.address)) NotDue) _ u in
        let at : M.address x.machine read.0 read.1 ≡ d.address =
        same_address-is (M.address x.machine read.0 read.1) d.address (passes-if _ NotDue g.0) in
        let same : read.2 ≡ d.number =
        eqb-true read.2 d.number (passes-if _ StaleRead (only-passed _ g.1)) in
        let here = is-at-read (M.count x.machine) read.0 read.1 read.2 (slice_get x.held x.replayed)
        (wants x.fetched (next_read M x) (wanted M x) read refl is) in
        let a = replaying w n x d.at.there f.0 in
        changed M C w new (with_node w n (fetches x d.bytes)) (d.at.after ∙ ap (with_node w n) d.at.done)
        (Change.Fetches n x a.0 m read.0 read.1 read.2 d.bytes a.1 a.2 here
        (d.message ∙ ap (λ z. Some (SectorRead z d.number d.bytes)) (sym at)
        ∙ ap (λ z. Some (SectorRead (M.address x.machine read.0 read.1) z d.bytes)) (sym same)))

-- what each event does is actions; one that has no clause here leaves the world as it was
pub does_changes : {S : Type 0} (M : Machine S) (C : Copying S) (w : World S) (e : Event) (r : Reply) (new : World S) →
    refusal M C w e ≡ None → Does M C w e r new → Changes M C w new
does_changes M C w (Step n turns) r new p d = does_step M C w n turns r new p d
does_changes M C w (TypeByte port byte) r new p d = changed M C w new _ d.after (Change.Types port byte)
does_changes M C w (TakeKey n port index) r new p d = does_take_key M C w n port index r new p d
does_changes M C w (Send n index) r new p d = does_send M C w n index r new p d
does_changes M C w (DeliverLog m n) r new p d = does_deliver_log M C w m n r new p d
does_changes M C w (Acknowledge n) r new p d = does_acknowledge M C w n r new p d
does_changes M C w (DeliverAcknowledgement m n) r new p d = does_deliver_acknowledgement M C w m n r new p d
does_changes M C w (Replay n turns) r new p d = does_replay M C w n turns r new p d
does_changes M C w (Release n name) r new p d = does_release M C w n name r new p d
does_changes M C w (Arrive m) r new p d =
    changed M C w new _ d.after (Change.Arrives m d.port d.number d.byte d.message)
does_changes M C w (TellSent n port k) r new p d = does_tell_sent M C w n port k r new p d
does_changes M C w (Told n port) r new p d = does_told M C w n port r new p d
does_changes M C w (Stop n) r new p d = does_stop M C w n r new p d
does_changes M C w (Suspect n) r new p d = does_suspect M C w n r new p d
does_changes M C w (Drain n turns) r new p d = does_drain M C w n turns r new p d
does_changes M C w (Put m) r new p d = changed M C w new _ d.after (Change.Puts m d.write d.message)
does_changes M C w (PutReply m n) r new p d = does_put_reply M C w m n r new p d
does_changes M C w (Get n sector) r new p d = changed M C w new _ d.after (ReadsSector d.address)
does_changes M C w (GetReply m n) r new p d = does_get_reply M C w m n r new p d
does_changes M C w (BeginPair n host) r new p d = does_begin_pair M C w n host r new p d
does_changes M C w (SendPart n index) r new p d = does_send_part M C w n index r new p d
does_changes M C w (PartComes m n) r new p d = does_part_comes M C w m n r new p d
does_changes M C w (Fetch n) r new p d = changed M C w new _ d.after (ReadsSector d.address)
does_changes M C w (Fetched m n) r new p d = does_fetched M C w m n r new p d
does_changes M C w e r new p d = unchanged M C w new d.after

pub leaves_changes : {S : Type 0} (M : Machine S) (C : Copying S) (w : World S) (e : Event) (fault : Fault)
    (new : World S) → refusal M C w e ≡ Some fault → Leaves w e fault new → Changes M C w new
leaves_changes M C w (Suspect n) Lost new p d =
    halts_changes M C w new n d (lost-no_spare (slice_get w.nodes n) d.x (ask_refusal w n) d.there p)
leaves_changes M C w e fault new p d = unchanged M C w new d

pub row_changes : {S : Type 0} (M : Machine S) (C : Copying S) (w new : World S) (e : Event) (r : Reply) →
    Row M C w e r new → Changes M C w new
row_changes M C w new e r (Accepts p d) = does_changes M C w e r new p d
row_changes M C w new e r (Refuses {fault = fault} p d) = leaves_changes M C w e fault new p d
row_changes M C w new e r (DeviceFails p d) = Stays
row_changes M C w new e r (NeedsMemory p d) = Stays
