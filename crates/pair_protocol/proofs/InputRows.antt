-- The rows by which a primary or alone node takes an input: what passes the refusals is what an input may be.
use Rattle.std.proofs.Common.{◌∙◌, ◌≡◌, ◌≤◌, None, Option, Some, ap, eqb-true, inl, inr, length, ltb-false, not, refl, subst, sym, true, ℕ}
use Rattle.std.specs.Prelude.{◌==◌, slice_get}
use Rattle.std.proofs.lemmas.Bool.{or_parts}
use Rattle.disk_dcdd.proofs.Addresses.{same_address-is}
use Rattle.pair_protocol.proofs.Words.{Acts, AloneTakes, Among, Change, Changes, Copying, Input, Machine, MayTake, Node, PrimaryTakes, Role, SectorRead, Serving, World, WriteDone, accepted, refusal_of, same_address, terminal, with_node}
use Rattle.guest_lockstep.specs.declared.input.Input.TheVariants as input
use Rattle.i8080_words.specs.declared.refusal.Fault.TheVariants.{NotDue, Unknown, WrongNumber}
use Rattle.pair_protocol.specs.Effects.{took}
use Rattle.pair_events.specs.declared.event.Event.TheVariants.{GetReply, PutReply, TakeKey, TellSent}
use Rattle.pair_protocol.specs.Reply.{Reply}
use Rattle.pair_protocol.specs.Refusals.{at_sector_read, at_write_done, fault_if, get_reply_refusal, is_number, not_accepted, not_typed, put_reply_refusal, refusal, serves, take_key_refusal, tell_sent_refusal}
use Rattle.pair_protocol.specs.Rows.{Takes, TakesGetReply, TakesKey, TakesPutReply}
use Rattle.pair_protocol.proofs.Passed.{changed, first-passed, node-passed, not-stands, only-passed, passes-if, serving}
use Rattle.pair_protocol.proofs.Traces.Lists.{among-get}

pub takes_once : {S : Type 0} (M : Machine S) (C : Copying S) (w : World S) (n : ℕ) (x : Node S) (r : Role) (s : S)
    (i : Input) → Serving r → Acts w n x r → MayTake M w x i → refusal_of M x.machine i ≡ None →
    M.take x.machine i ≡ Some s →
    Change M C w (with_node w n (took M x x.role s i))
takes_once M C w n x r s i (inl e) a m ok h =
    subst (λ q. Change M C w (with_node w n (took M x q s i))) (sym (a.role_is ∙ e))
    (PrimaryTakes n x s i (record { there = a.there; up = a.up; role_is = a.role_is ∙ e }) m ok h)
takes_once M C w n x r s i (inr e) a m ok h =
    subst (λ q. Change M C w (with_node w n (took M x q s i))) (sym (a.role_is ∙ e))
    (AloneTakes n x s i (record { there = a.there; up = a.up; role_is = a.role_is ∙ e }) m ok h)

pub takes : {S : Type 0} (M : Machine S) (C : Copying S) (w : World S) (n : ℕ) (i : Input) (r : Reply) (new : World S)
    (d : Takes M w n i r new) → serves d.at.x ≡ None → MayTake M w d.at.x i → refusal_of M d.at.x.machine i ≡ None →
    Changes M C w new
takes M C w n i r new d p may ok =
    let x = d.at.x in
    let t = d.at.done in
    let a = serving w n x d.at.there p in
    changed M C w new (with_node w n (took M x x.role t.s i)) (d.at.after ∙ ap (with_node w n) t.after)
    (takes_once M C w n x a.0 t.s i a.2 a.1 may ok t.takes)

pub does_take_key : {S : Type 0} (M : Machine S) (C : Copying S) (w : World S) (n port index : ℕ) (r : Reply) (new : World S) →
    refusal M C w (TakeKey n port index) ≡ None → TakesKey M w n port index r new → Changes M C w new
does_take_key M C w n port index r new p d =
    let x = d.input.at.x in
    let k = only-passed _ (first-passed (not_typed w port index) _ p).1 in
    let q = (node-passed (slice_get w.nodes n) x (take_key_refusal M port index) d.input.at.there k).1 in
    let f = first-passed (serves x) _ q in
    let g = first-passed (fault_if (not (index == M.keys x.machine port)) WrongNumber) _ f.1 in
    let e : index ≡ M.keys x.machine port = eqb-true index (M.keys x.machine port) (passes-if _ WrongNumber g.0) in
    takes M C w n (input.Rx port d.byte) r new d.input f.0
    (subst (λ z. slice_get (terminal w port).typed z ≡ Some d.byte) e d.typed) refl

pub number-is : (o : Option ℕ) (k : ℕ) → is_number o k ≡ true → o ≡ Some k
number-is None k h = (cc)
number-is (Some j) k h = ap Some (eqb-true j k h)

pub does_tell_sent : {S : Type 0} (M : Machine S) (C : Copying S) (w : World S) (n port k : ℕ) (r : Reply) (new : World S) →
    refusal M C w (TellSent n port k) ≡ None → Takes M w n (input.Sent port) r new → Changes M C w new
does_tell_sent M C w n port k r new p d =
    let f = first-passed (not_accepted w port k) _ p in
    let x = d.at.x in
    let q = (node-passed (slice_get w.nodes n) x (tell_sent_refusal M port k) d.at.there (only-passed _ f.1)).1 in
    let g = first-passed (serves x) _ q in
    let h = first-passed (refusal_of M x.machine (input.Sent port)) _ g.1 in
    let j = first-passed (fault_if (not (is_number (M.due_byte x.machine port) k)) WrongNumber) _ h.1 in
    let l : k ≤ length (accepted w port) =
    ltb-false (length (accepted w port)) k (or_parts (k == 0) _ (not-stands _ Unknown f.0)).1 in
    takes M C w n (input.Sent port) r new d g.0
    (k, number-is (M.due_byte x.machine port) k (passes-if _ WrongNumber j.0), l) h.0

pub does_put_reply : {S : Type 0} (M : Machine S) (C : Copying S) (w : World S) (m n : ℕ) (r : Reply) (new : World S) →
    refusal M C w (PutReply m n) ≡ None → TakesPutReply M w m n r new → Changes M C w new
does_put_reply M C w m n r new p d =
    let k = subst (λ z. at_write_done M (slice_get w.nodes n) z ≡ None) d.message p in
    let q = (node-passed (slice_get w.nodes n) d.input.at.x (put_reply_refusal M d.number) d.input.at.there k).1 in
    let f = first-passed (serves d.input.at.x) _ q in
    takes M C w n (input.Written d.number) r new d.input f.0
    (among-get w.messages m (WriteDone d.number) d.message)
    (first-passed (refusal_of M d.input.at.x.machine (input.Written d.number)) _ f.1).0

pub does_get_reply : {S : Type 0} (M : Machine S) (C : Copying S) (w : World S) (m n : ℕ) (r : Reply) (new : World S) →
    refusal M C w (GetReply m n) ≡ None → TakesGetReply M w m n r new → Changes M C w new
does_get_reply M C w m n r new p d =
    let x = d.input.at.x in
    let a = d.address in
    let k = subst (λ z. at_sector_read M (slice_get w.nodes n) z ≡ None) d.message p in
    let q = (node-passed (slice_get w.nodes n) x (get_reply_refusal M a d.number d.bytes) d.input.at.there k).1 in
    let f = first-passed (serves x) _ q in
    let g = first-passed (fault_if (not (same_address (M.address x.machine a.drive a.sector) a)) NotDue) _ f.1 in
    let e : M.address x.machine a.drive a.sector ≡ a =
    same_address-is (M.address x.machine a.drive a.sector) a (passes-if _ NotDue g.0) in
    let h = (first-passed (refusal_of M x.machine (input.Sector a.drive a.sector d.number d.bytes)) _ g.1).0 in
    takes M C w n (input.Sector a.drive a.sector d.number d.bytes) r new d.input f.0
    (subst (λ z. Among (SectorRead z d.number d.bytes) w.messages) (sym e)
    (among-get w.messages m (SectorRead a d.number d.bytes) d.message)) h
