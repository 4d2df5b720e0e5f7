-- Out of memory is answered only if no refusal applies and the event may need memory.
use Rattle.std.proofs.Common.{[], ◌∙◌, ◌∷◌, ◌≡◌, ◌≢◌, ◌⊎◌, Bool, List, None, Option, Some, ap, arith, cond, false, inl, inr, not, refl, subst, suc, sym, true, ℕ}
use Rattle.std.specs.Prelude.{◌<◌, ◌==◌, if◌then◌else◌, is_none, length, nat_lt, slice_get}
use Rattle.pair_protocol.proofs.Words.{Alone, Backup, Copying, Draining, Entry, Joining, LogEntry, Machine, Message, Node, Primary, Spare, World, acts_as, count_of, is_role, winner_in}
use Rattle.event_callbacks.specs.declared.operations.Operation.TheVariants.{Byte}
use Rattle.pair_protocol.specs.Node.{Role, gathered, gets_part}
use Rattle.pair_protocol.specs.World.{ImagePart, Released, accepted}
use Rattle.guest_lockstep.specs.declared.replay_end.ReplayEnd.{ReplayEnd}
use Rattle.guest_lockstep.specs.declared.replay_end.ReplayEnd.TheVariants as ended
use Rattle.i8080_words.specs.declared.refusal.Fault.TheVariants.{Lost, NotWhole, OutOfMemory, Unknown, WrongGeneration, WrongRole}
use Rattle.i8080_words.specs.declared.refusal.Fault.{Fault}
use Rattle.pair_protocol.specs.Effects.{AtEnd, AwaitsBytes, IsBehind, NoMemory, NoTurns, OneInput, OneMark, OneRead, OneStep, Replays, NeedsMoves, GotPart, Again, Comes, Completes, wanted}
use Rattle.pair_events.specs.declared.event.Event.{Event}
use Rattle.pair_events.specs.declared.event.Event.TheVariants.{Arrive, DeliverLog, Drain, PartComes, Replay, Step, Suspect}
use Rattle.pair_protocol.specs.Reply.{Accepted, Dropped, New, Old, Refused, Reply}
use Rattle.pair_protocol.specs.Refusals.{ask_refusal, at_log_entry, at_node, at_part, byte_refusal, deliver_log_refusal, fault_if, first_of, is_other, part_comes_refusal, refusal, role_refusal, step_refusal, suspect_refusal}
use Rattle.pair_protocol.specs.Row.{Accepts, DeviceFails, Refuses, NeedsMemory}
use Rattle.pair_protocol.specs.Rows.{Does, drain_reply, MayNeedMemory, OfNode}
use Rattle.pair_protocol.specs.Needing.{NeedsNone}
use Rattle.pair_protocol.proofs.Traces.Lists.{same_some}

-- ---- no refusal is out of memory

-- a refusal for another reason, or none
abbrev Other : Option Fault → Type 0
Other refusal = refusal ≢ Some OutOfMemory

other_if : (b : Bool) (fault : Fault) → fault ≢ OutOfMemory → Other (fault_if b fault)
other_if true fault other is = other (same_some fault OutOfMemory (Some fault) refl is)
other_if false fault other is = absurd (cc)

other_first : (o : Option Fault) (rest : List (Option Fault)) → Other o → Other (first_of rest)
    → Other (first_of (o ∷ rest))
other_first None rest here later is = later is
other_first (Some fault) rest here later is = here is

other_at : {S : Type 0} (o : Option (Node S)) (part : Node S → Option Fault) → ((x : Node S) → Other (part x))
    → Other (at_node o part)
other_at None part other is = absurd (cc)
other_at {S} (Some x) part other is = go (is_role x.role Spare) is
  where
    go : (b : Bool) → cond b (Some Unknown) (part x) ≡ Some OutOfMemory → ⊥
    go true is = (cc)
    go false is = other x is

none_other : Other None
none_other is = (cc)

role_other : (b : Bool) → Other (fault_if b WrongRole)
role_other b = other_if b WrongRole (λ is. (cc))

-- a role and a generation are asked for
member_other : {S : Type 0} (roles : List Role) (generation : ℕ) (x : Node S)
    → Other (first_of (role_refusal roles x ∷ fault_if (not (generation == x.generation)) WrongGeneration ∷ []))
member_other roles generation x =
    other_first (role_refusal roles x) (fault_if (not (generation == x.generation)) WrongGeneration ∷ [])
    (role_other (not (acts_as x roles)))
    (other_first (fault_if (not (generation == x.generation)) WrongGeneration) []
    (other_if (not (generation == x.generation)) WrongGeneration (λ is. (cc))) none_other)

log_message_other : {S : Type 0} (here : Option (Node S)) (q : Option Message) (generation index : ℕ) (e : Entry)
    → q ≡ Some (LogEntry generation index e) → Other (at_log_entry here q)
log_message_other here q generation index e is =
    subst (λ q. Other (at_log_entry here q)) (sym is)
    (other_at here (deliver_log_refusal generation) (λ x. member_other (Backup ∷ []) generation x))

ask_other : {S : Type 0} (w : World S) (n : ℕ) (x : Node S) → Other (ask_refusal w n x)
ask_other w n x =
    let lost = fault_if (is_other (winner_in w.winners x.generation) n) Lost in
    other_first (suspect_refusal x) (lost ∷ [])
    (other_first (fault_if (not x.running) WrongRole) (fault_if (is_role x.role Joining) NotWhole ∷ [])
    (role_other (not x.running))
    (other_first (fault_if (is_role x.role Joining) NotWhole) []
    (other_if (is_role x.role Joining) NotWhole (λ is. (cc))) none_other))
    (other_first lost [] (other_if (is_other (winner_in w.winners x.generation) n) Lost (λ is. (cc))) none_other)

-- ---- so only an event that may need memory is answered with out of memory

needs_none : {S : Type 0} (M : Machine S) (C : Copying S) (w : World S) (e : Event) → Other (refusal M C w e)
    → ((r : Reply) (new : World S) → Does M C w e r new → r ≢ Refused OutOfMemory) → (MayNeedMemory M w e → ⊥)
    → NeedsNone M C w e
needs_none M C w e other does needs new r (Accepts p d) is = does r new d is
needs_none M C w e other does needs new r (Refuses {fault = fault} p d) is =
    let same : fault ≡ OutOfMemory = cc in
    other (p ∙ ap (λ f. Some f) same)
needs_none M C w e other does needs new r (DeviceFails p d) is = (cc)
needs_none M C w e other does needs new r (NeedsMemory p d) is = needs d

drain_other : (made : ℕ) (why : ReplayEnd) → drain_reply made why ≢ Refused OutOfMemory
drain_other made ended.Turns is = (cc)
drain_other made ended.End is = (cc)
drain_other made ended.Wait is = (cc)
drain_other made ended.Memory is = (cc)

steps_none : {S : Type 0} (M : Machine S) (C : Copying S) (w : World S) (n : ℕ) → NeedsNone M C w (Step n 0)
steps_none M C w n =
    needs_none M C w (Step n 0)
    (other_at (slice_get w.nodes n) (step_refusal M 0) (λ x. role_other (not (acts_as x (Primary ∷ Alone ∷ [])))))
    (λ r new d is. (let ran = sym is ∙ d.reply in (cc))) (λ some. omega (arith, some))

replays_none : {S : Type 0} (M : Machine S) (C : Copying S) (w : World S) (n turns : ℕ)
    → (OfNode w n (NeedsMoves M turns) → ⊥) → NeedsNone M C w (Replay n turns)
replays_none M C w n turns needs =
    needs_none M C w (Replay n turns)
    (other_at (slice_get w.nodes n) (role_refusal (Backup ∷ [])) (λ x. role_other (not (acts_as x (Backup ∷ [])))))
    (λ r new d is. (let moved = sym is ∙ d.reply in (cc))) needs

drains_none : {S : Type 0} (M : Machine S) (C : Copying S) (w : World S) (n turns : ℕ)
    → (OfNode w n (NeedsMoves M turns) → ⊥) → NeedsNone M C w (Drain n turns)
drains_none M C w n turns needs =
    needs_none M C w (Drain n turns)
    (other_at (slice_get w.nodes n) (role_refusal (Draining ∷ [])) (λ x. role_other (not (acts_as x (Draining ∷ [])))))
    (λ r new d is. drain_other d.made _ (sym d.reply ∙ is)) needs

none_asked : {S : Type 0} (M : Machine S) (w : World S) (n : ℕ) → OfNode w n (NeedsMoves M 0) → ⊥
none_asked M w n h = let some = h.said.0 in omega (arith, some)

pub no_turns : {S : Type 0} (M : Machine S) (C : Copying S) (w : World S) (n : ℕ)
    → NeedsNone M C w (Step n 0) × NeedsNone M C w (Replay n 0) × NeedsNone M C w (Drain n 0)
no_turns M C w n =
    (steps_none M C w n, replays_none M C w n 0 (none_asked M w n), drains_none M C w n 0 (none_asked M w n))

not_first : {S : Type 0} (M : Machine S) (w : World S) (n turns : ℕ) (x : Node S) → slice_get w.nodes n ≡ Some x
    → (IsBehind M x → ⊥) → OfNode w n (NeedsMoves M turns) → ⊥
not_first M w n turns x there other h =
    other (subst (λ y. IsBehind M y) (same_some h.x x (slice_get w.nodes n) h.there there) h.said.1)

pub other_moves : {S : Type 0} (M : Machine S) (C : Copying S) (w : World S) (n turns : ℕ) (x : Node S)
    → slice_get w.nodes n ≡ Some x → (IsBehind M x → ⊥)
    → NeedsNone M C w (Replay n turns) × NeedsNone M C w (Drain n turns)
other_moves M C w n turns x there other = (
  replays_none M C w n turns (not_first M w n turns x there other),
  drains_none M C w n turns (not_first M w n turns x there other),
)

held_or_not : {S : Type 0} (M : Machine S) (C : Copying S) (w : World S) (m n : ℕ) (r : Reply) (new : World S)
    → Does M C w (DeliverLog m n) r new → r ≢ Refused OutOfMemory
held_or_not M C w m n r new d is = go d.next (sym d.reply ∙ is)
  where
    go : (next : Bool) → (if next then New else Old) ≢ Refused OutOfMemory
    go true is = (cc)
    go false is = (cc)

same_index : (q : Option Message) (g h i k : ℕ) (e d : Entry) → q ≡ Some (LogEntry g i e) → q ≡ Some (LogEntry h k d)
    → i ≡ k
same_index q g h i k e d is also = (cc)

pub other_entries : {S : Type 0} (M : Machine S) (C : Copying S) (w : World S) (m n generation index : ℕ) (e : Entry)
    (x : Node S) → slice_get w.messages m ≡ Some (LogEntry generation index e) → slice_get w.nodes n ≡ Some x
    → index ≢ length x.held → NeedsNone M C w (DeliverLog m n)
other_entries {S} M C w m n generation index e x message there other =
    needs_none M C w (DeliverLog m n)
    (log_message_other (slice_get w.nodes n) (slice_get w.messages m) generation index e message)
    (held_or_not M C w m n)
    (λ h. other (same_index (slice_get w.messages m) generation h.generation index h.index e h.e message h.message
    ∙ h.next.said ∙ ap (λ (y : Node S). length y.held) (same_some h.next.x x (slice_get w.nodes n) h.next.there there)))

reply_or_not : (taken : Bool) → (if taken then Accepted else Dropped) ≢ Refused OutOfMemory
reply_or_not true is = (cc)
reply_or_not false is = (cc)

same_byte : (q : Option Message) (p k b r l c : ℕ) → q ≡ Some (Released (Byte p k b)) → q ≡ Some (Released (Byte r l c))
    → (p ≡ r) × (k ≡ l)
same_byte q p k b r l c is also = ((cc), (cc))

pub other_bytes : {S : Type 0} (M : Machine S) (C : Copying S) (w : World S) (m port number byte : ℕ)
    → slice_get w.messages m ≡ Some (Released (Byte port number byte)) → number ≢ suc (length (accepted w port))
    → NeedsNone M C w (Arrive m)
other_bytes M C w m port number byte message other =
    needs_none M C w (Arrive m) (subst (λ q. Other (byte_refusal q)) (sym message) none_other)
    (λ r new d is. reply_or_not (nat_lt (length (accepted w d.port)) (length (accepted new d.port))) (sym d.reply ∙ is))
    (λ h. (let same = same_byte (slice_get w.messages m) port number byte h.port h.number h.byte message h.message in
    other (same.1 ∙ h.next ∙ ap (λ p. suc (length (accepted w p))) (sym same.0))))

part_message_other : {S : Type 0} (here : Option (Node S)) (q : Option Message) (generation index : ℕ) (part : List ℕ)
    → q ≡ Some (ImagePart generation index part) → Other (at_part here q)
part_message_other here q generation index part is =
    subst (λ q. Other (at_part here q)) (sym is)
    (other_at here (part_comes_refusal generation) (λ x. member_other (Joining ∷ []) generation x))

got_other : {S : Type 0} {C : Copying S} {index : ℕ} {part : List ℕ} {x y : Node S} {r : Reply}
    → GotPart C index part x r y → r ≢ Refused OutOfMemory
got_other (Again before) is = (cc)
got_other (Comes missing rest) is = (cc)
got_other (Completes parts s missing all made) is = (cc)

same_part : (q : Option Message) (g i h k : ℕ) (part other : List ℕ) → q ≡ Some (ImagePart g i part)
    → q ≡ Some (ImagePart h k other) → (i ≡ k) × (part ≡ other)
same_part q g i h k part other is also = ((cc), (cc))

pub other_parts : {S : Type 0} (M : Machine S) (C : Copying S) (w : World S) (m n generation index : ℕ) (part : List ℕ)
    (x : Node S) → slice_get w.messages m ≡ Some (ImagePart generation index part) → slice_get w.nodes n ≡ Some x
    → gathered (gets_part x index part).parts ≡ None → NeedsNone M C w (PartComes m n)
other_parts {S} M C w m n generation index part x message there lacks =
    needs_none M C w (PartComes m n)
    (part_message_other (slice_get w.nodes n) (slice_get w.messages m) generation index part message)
    (λ r new d is. got_other d.at.done is)
    (λ h. (let same = same_part (slice_get w.messages m) generation index h.generation h.index part h.part message h.message in
    let node : h.last.x ≡ x = same_some h.last.x x (slice_get w.nodes n) h.last.there there in
    let all = ap (λ (y : Node S). gathered (gets_part y h.index h.part).parts) (sym node)
    ∙ h.last.said.1 in
    let none = ap (λ k. gathered (gets_part x k h.part).parts) (sym same.0)
    ∙ ap (λ p. gathered (gets_part x index p).parts) (sym same.1) ∙ lacks in
    (cc)))

pub winners : {S : Type 0} (M : Machine S) (C : Copying S) (w : World S) (n : ℕ) (x : Node S)
    → slice_get w.nodes n ≡ Some x → winner_in w.winners x.generation ≡ Some n → NeedsNone M C w (Suspect n)
winners {S} M C w n x there won =
    needs_none M C w (Suspect n)
    (other_at (slice_get w.nodes n) (ask_refusal w n) (λ x. ask_other w n x))
    (λ r new d is. (let won = sym is ∙ d.reply in (cc)))
    (λ h. (let same : h.x ≡ x = same_some h.x x (slice_get w.nodes n) h.there there in
    let nobody = sym h.said ∙ ap (λ (y : Node S). winner_in w.winners y.generation) same ∙ won in (cc)))

-- ---- where moves end

-- one more is made of one more
one_more : {A B C : Type 0} (made turns : ℕ) → (made ≡ turns) ⊎ A ⊎ B ⊎ C → (suc made ≡ suc turns) ⊎ A ⊎ B ⊎ C
one_more made turns (inl all) = inl (ap suc all)
one_more made turns (inr rest) = inr rest

pub stops_at_steps : {S : Type 0} (M : Machine S) (x y : Node S) (turns made : ℕ) → Replays M x turns y made
    → (made ≡ turns) ⊎ (y.replayed ≡ length y.held)
    ⊎ ((e : Entry) × (slice_get y.held y.replayed ≡ Some e) × (M.count y.machine < count_of e))
    ⊎ (is_none (wanted M y) ≡ false)
stops_at_steps M x y turns made NoTurns = inl refl
stops_at_steps M x y turns made (AtEnd none) = inr (inl none)
stops_at_steps M x y turns made (AwaitsBytes wants) = inr (inr (inr wants))
stops_at_steps M x y turns made (NoMemory behind) = inr (inr (inl (behind.next, behind.held, behind.later)))
stops_at_steps M x y turns made (OneStep {turns = t} {made = k} e s gives next later goes rest) =
    one_more k t (stops_at_steps M _ y t k rest)
stops_at_steps M x y turns made (OneMark {turns = t} {made = k} e next here mark rest) =
    one_more k t (stops_at_steps M _ y t k rest)
stops_at_steps M x y turns made (OneInput {turns = t} {made = k} e i s next here input taken rest) =
    one_more k t (stops_at_steps M _ y t k rest)
stops_at_steps M x y turns made (OneRead {turns = t} {made = k} d n number bytes s next come taken rest) =
    one_more k t (stops_at_steps M _ y t k rest)
