-- An event that is carried out has one outcome, unless memory ends it.
use Rattle.std.proofs.Common.{◌≡◌, ◌≢◌, ℕ, inl, inr, Bool, true, false, Some, None, List, length, refl, sym, ap, subst, ◌∙◌}
use Rattle.std.specs.Prelude.{slice_get, ◌⊎◌}
use Rattle.disk_dcdd.specs.declared.address.SectorAddress.{SectorAddress}
use Rattle.event_callbacks.specs.declared.operations.OpId.{OpId}
use Rattle.event_callbacks.specs.declared.operations.Operation.TheVariants.{Byte, Write}
use Rattle.guest_lockstep.specs.declared.input.Input.{Input}
use Rattle.guest_lockstep.specs.declared.input.Input.TheVariants as input
use Rattle.guest_lockstep.specs.declared.replay_end.ReplayEnd.{ReplayEnd}
use Rattle.guest_lockstep.specs.declared.replay_end.ReplayEnd.TheVariants.{Memory}
use Rattle.guest_lockstep.specs.declared.running.StopReason.{StopReason}
use Rattle.guest_lockstep.specs.declared.running.StopReason.TheVariants as reason
use Rattle.i8080_words.specs.declared.refusal.Fault.{Fault}
use Rattle.i8080_words.specs.declared.refusal.Fault.TheVariants.{Lost, OutOfMemory}
use Rattle.pair_events.specs.declared.event.Event.{Event}
use Rattle.pair_events.specs.declared.event.Event.TheVariants as event
use Rattle.pair_protocol.proofs.Words.{Acknowledgement, Copying, Entry, ImagePart, IsCopying, Lawful, LogEntry, Machine, Message, Node, Reached, Released, SectorRead, Serving, World, WriteDone, fetches, gathered, gets_part, hears, joins, keys_covered, replay_told, terminal, winner_in, with_message, with_node}
use Rattle.pair_protocol.specs.Effects.{Again, Comes, Completes, Drained, GotPart, Halted, Heard, Held, Replayed, Stepped, Took, after_drain, replay_end, took, wanted}
use Rattle.pair_protocol.specs.Effects as effect
use Rattle.pair_protocol.specs.Refusals.{refusal, step_refusal}
use Rattle.pair_protocol.specs.Reply.{Moved, Ran, Refused, Reply}
use Rattle.pair_protocol.specs.Row.{Accepts, DeviceFails, Leaves, NeedsMemory, Refuses, Row}
use Rattle.pair_protocol.specs.Rows.{AtNode, Does, drain_reply}
use Rattle.pair_protocol.specs.Rows as row
use Rattle.pair_protocol.specs.World.{with_arrival, with_pair, with_put, with_read, with_told, with_winner}
use Rattle.pair_protocol.specs.NodeStands.{IsReached}
use Rattle.pair_protocol.proofs.Passed.{node-passed, serving}
use Rattle.pair_protocol.proofs.RowActions.{step-serves}
use Rattle.pair_protocol.proofs.Promises.NodeStands.{nodes_stand}
use Rattle.pair_protocol.proofs.Traces.Lists.{same_some}
use Rattle.pair_progress.specs.Leads.{Fails}
use Rattle.pair_progress.proofs.Acting.{nobody_and_one}
use Rattle.pair_progress.proofs.OneMove.{advances_once, replays_once}

-- ---- one node

module _ {S : Type 0} (w : World S) (n : ℕ) where
  -- an effect at a node that has one outcome
  at_once : (D E : Node S → Node S → Type 0) (new other : World S) → (a : AtNode w n D new) → AtNode w n E other →
      ((y z : Node S) → D a.x y → E a.x z → y ≡ z) → new ≡ other
  at_once D E new other a b once =
      let same : a.x ≡ b.x = same_some a.x b.x (slice_get w.nodes n) a.there b.there in
      a.after ∙ ap (with_node w n) (once a.y b.y a.done (subst (λ x. E x b.y) (sym same) b.done)) ∙ sym b.after

halts_once : {S : Type 0} (w : World S) (n : ℕ) (new other : World S) → AtNode w n Halted new → AtNode w n Halted other →
    new ≡ other
halts_once w n new other a b = at_once w n Halted Halted new other a b (λ y z d e. d ∙ sym e)

took_once : {S : Type 0} (M : Machine S) (i j : Input) (x y z : Node S) → i ≡ j → Took M i x y → Took M j x z → y ≡ z
took_once M i j x y z same a b =
    let s : a.s ≡ b.s = same_some a.s b.s (M.take x.machine i) a.takes (ap (M.take x.machine) same ∙ b.takes) in
    a.after ∙ ap (λ t. took M x x.role t i) s ∙ ap (took M x x.role b.s) same ∙ sym b.after

held_once : {S : Type 0} (index : ℕ) (e : Entry) (one other : Bool) (x y z : Node S) → Held index e one x y →
    Held index e other x z → y ≡ z
held_once index e true true x y z a b = a.1 ∙ sym b.1
held_once index e false false x y z a b = a.1 ∙ sym b.1
held_once index e true false x y z a b = absurd (b.0 a.0)
held_once index e false true x y z a b = absurd (a.0 b.0)

got_once : {S : Type 0} (C : Copying S) (index : ℕ) (part : List ℕ) (x y z : Node S) (r q : Reply) →
    GotPart C index part x r y → GotPart C index part x q z → y ≡ z
got_once C index part x y z _ _ (Again p) (Again q) = refl
got_once C index part x y z _ _ (Again p) (Comes q k) = absurd (let e = sym p ∙ q in (cc))
got_once C index part x y z _ _ (Again p) (Completes ps s q k m) = absurd (let e = sym p ∙ q in (cc))
got_once C index part x y z _ _ (Comes q k) (Again p) = absurd (let e = sym p ∙ q in (cc))
got_once C index part x y z _ _ (Comes p k) (Comes q l) = refl
got_once C index part x y z _ _ (Comes p k) (Completes ps s q l m) = absurd (let e = sym k ∙ l in (cc))
got_once C index part x y z _ _ (Completes ps s q k m) (Again p) = absurd (let e = sym p ∙ q in (cc))
got_once C index part x y z _ _ (Completes ps s q l m) (Comes p k) = absurd (let e = sym k ∙ l in (cc))
got_once C index part x y z _ _ (Completes ps s p k m) (Completes qs t q l o) =
    let all : ps ≡ qs = same_some ps qs (gathered (gets_part x index part).parts) k l in
    ap (joins (gets_part x index part)) (same_some s t (C.assemble ps) m (ap C.assemble all ∙ o))

replayed_once : {S : Type 0} (M : Machine S) (turns made more : ℕ) (why because : ReplayEnd) (x y z : Node S) →
    Replayed M turns made why x y → Replayed M turns more because x z → why ≢ Memory → because ≢ Memory →
    (y ≡ z) × (why ≡ because)
replayed_once M turns made more why because x y z a b one other =
    let e = replays_once M turns x y z made more a.moves b.moves (λ e. one (a.ends ∙ e)) (λ e. other (b.ends ∙ e)) in
    (e.0, a.ends ∙ ap (λ u. replay_end M u turns made) e.0 ∙ ap (replay_end M z turns) e.1 ∙ sym b.ends)

drained_once : {S : Type 0} (M : Machine S) (turns made more : ℕ) (why because : ReplayEnd) (x y z : Node S) →
    Drained M turns made why x y → Drained M turns more because x z → why ≢ Memory → because ≢ Memory → y ≡ z
drained_once M turns made more why because x y z a b one other =
    let e = replayed_once M turns made more why because x a.z b.z a.replayed b.replayed one other in
    a.after ∙ ap (λ u. after_drain u why) e.0 ∙ ap (after_drain b.z) e.1 ∙ sym b.after

-- ---- what the replies of moves tell

steps_whole : (r : Reply) (made count : ℕ) (why : StopReason) → r ≡ Ran made count why → (Fails r → ⊥) →
    why ≢ reason.Refused OutOfMemory
steps_whole r made count why is fine e = fine (subst Fails (sym (is ∙ ap (Ran made count) e)) tt)

moves_whole : (r : Reply) (made : ℕ) (why : ReplayEnd) → r ≡ Moved made why → (Fails r → ⊥) → why ≢ Memory
moves_whole r made why is fine e = fine (subst Fails (sym (is ∙ ap (Moved made) e)) tt)

drains_whole : (r : Reply) (made : ℕ) (why : ReplayEnd) → r ≡ drain_reply made why → (Fails r → ⊥) → why ≢ Memory
drains_whole r made why is fine e = fine (subst Fails (sym (is ∙ ap (drain_reply made) e)) tt)

-- ---- the rows

module _ {S : Type 0} (M : Machine S) (C : Copying S) (laws : Lawful M) (copies : IsCopying M C) (w : World S)
    (reached : Reached M C w) (new other : World S) (r q : Reply) where
  steps_once : (n turns : ℕ) → refusal M C w (event.Step n turns) ≡ None → row.Steps M w n turns r new →
      row.Steps M w n turns q other → (Fails r → ⊥) → (Fails q → ⊥) → new ≡ other
  steps_once n turns passes a b one two =
      at_once w n (Stepped M turns a.made a.count a.why) (Stepped M turns b.made b.count b.why) new other a.at b.at
      (λ y z d e. advances_once M laws a.at.x y z turns a.made b.made a.why b.why machine d.advances e.advances
      (steps_whole r a.made a.count a.why a.reply one) (steps_whole q b.made b.count b.why b.reply two))
    where
      machine : IsReached M a.at.x.machine
      machine =
          let k = node-passed (slice_get w.nodes n) a.at.x (step_refusal M turns) a.at.there passes in
          let s = serving w n a.at.x a.at.there (step-serves M turns a.at.x k.1) in
          (nodes_stand M C laws copies w reached n a.at.x a.at.there).machine
          (inl (subst Serving (sym s.1.role_is) s.2))

  takes_once : (n : ℕ) (i j : Input) → i ≡ j → row.Takes M w n i r new → row.Takes M w n j q other → new ≡ other
  takes_once n i j same a b =
      at_once w n (Took M i) (Took M j) new other a.at b.at (λ y z d e. took_once M i j a.at.x y z same d e)

  keys_once : (n port index : ℕ) → row.TakesKey M w n port index r new → row.TakesKey M w n port index q other →
      new ≡ other
  keys_once n port index a b =
      takes_once n (input.Rx port a.byte) (input.Rx port b.byte)
      (ap (input.Rx port) (same_some a.byte b.byte (slice_get (terminal w port).typed index) a.typed b.typed))
      a.input b.input

  sends_once : (n index : ℕ) → row.Sends w n index r new → row.Sends w n index q other → new ≡ other
  sends_once n index a b =
      let x : a.node.x ≡ b.node.x = same_some a.node.x b.node.x (slice_get w.nodes n) a.node.there b.node.there in
      let e : a.e ≡ b.e =
      same_some a.e b.e (slice_get a.node.x.log index) a.node.said
      (ap (λ (z : Node S). slice_get z.log index) x ∙ b.node.said) in
      a.says.after ∙ ap (λ (z : Node S). with_message w (LogEntry z.generation index a.e)) x
      ∙ ap (λ z. with_message w (LogEntry b.node.x.generation index z)) e ∙ sym b.says.after

  delivers_once : (m n : ℕ) → row.DeliversLog w m n r new → row.DeliversLog w m n q other → new ≡ other
  delivers_once m n a b =
      let same : ◌≡◌ {A = Message} (LogEntry a.generation a.index a.e) (LogEntry b.generation b.index b.e) =
      same_some (LogEntry a.generation a.index a.e) (LogEntry b.generation b.index b.e) (slice_get w.messages m)
      a.message b.message in
      let index : a.index ≡ b.index = (cc) in
      let entry : a.e ≡ b.e = (cc) in
      at_once w n (Held a.index a.e a.next) (Held b.index b.e b.next) new other a.at b.at
      (λ y z d e. held_once a.index a.e a.next b.next a.at.x y z d
      (subst (λ k. Held k a.e b.next a.at.x z) (sym index)
      (subst (λ k. Held b.index k b.next a.at.x z) (sym entry) e)))

  acknowledges_once : (n : ℕ) → row.Acknowledges w n r new → row.Acknowledges w n q other → new ≡ other
  acknowledges_once n a b =
      let x : a.node.x ≡ b.node.x = same_some a.node.x b.node.x (slice_get w.nodes n) a.node.there b.node.there in
      let h : a.held ≡ b.held = a.node.said.0 ∙ ap (λ (z : Node S). length z.held) x ∙ sym b.node.said.0 in
      let k : a.replayed ≡ b.replayed = a.node.said.1 ∙ ap (λ (z : Node S). replay_told z) x ∙ sym b.node.said.1 in
      a.says.after ∙ ap (λ (z : Node S). with_message w (Acknowledgement z.generation a.held a.replayed)) x
      ∙ ap (λ z. with_message w (Acknowledgement b.node.x.generation z a.replayed)) h
      ∙ ap (λ z. with_message w (Acknowledgement b.node.x.generation b.held z)) k ∙ sym b.says.after

  hears_once : (m n : ℕ) → row.DeliversAcknowledgement w m n r new → row.DeliversAcknowledgement w m n q other →
      new ≡ other
  hears_once m n a b =
      let same : ◌≡◌ {A = Message} (Acknowledgement a.generation a.held a.replayed)
      (Acknowledgement b.generation b.held b.replayed) =
      same_some (Acknowledgement a.generation a.held a.replayed) (Acknowledgement b.generation b.held b.replayed)
      (slice_get w.messages m) a.message b.message in
      let h : a.held ≡ b.held = (cc) in
      let k : a.replayed ≡ b.replayed = (cc) in
      at_once w n (Heard a.held a.replayed a.covered) (Heard b.held b.replayed b.covered) new other a.at b.at
      (λ y z d e. d.1 ∙ ap (λ j. hears a.at.x j a.replayed) h ∙ ap (hears a.at.x b.held) k ∙ sym e.1)

  replays_held_once : (n turns : ℕ) → row.ReplaysHeld M w n turns r new → row.ReplaysHeld M w n turns q other →
      (Fails r → ⊥) → (Fails q → ⊥) → new ≡ other
  replays_held_once n turns a b one two =
      at_once w n (Replayed M turns a.made a.why) (Replayed M turns b.made b.why) new other a.at b.at
      (λ y z d e. (replayed_once M turns a.made b.made a.why b.why a.at.x y z d e
      (moves_whole r a.made a.why a.reply one) (moves_whole q b.made b.why b.reply two)).0)

  drains_once : (n turns : ℕ) → row.Drains M w n turns r new → row.Drains M w n turns q other →
      (Fails r → ⊥) → (Fails q → ⊥) → new ≡ other
  drains_once n turns a b one two =
      at_once w n (Drained M turns a.made a.why) (Drained M turns b.made b.why) new other a.at b.at
      (λ y z d e. drained_once M turns a.made b.made a.why b.why a.at.x y z d e
      (drains_whole r a.made a.why a.reply one) (drains_whole q b.made b.why b.reply two))

  releases_once : (n : ℕ) (name : OpId) → row.Releases M w n name r new → row.Releases M w n name q other → new ≡ other
  releases_once n name a b =
      let x : a.node.x ≡ b.node.x = same_some a.node.x b.node.x (slice_get w.nodes n) a.node.there b.node.there in
      let o : a.o ≡ b.o =
      same_some a.o b.o (M.find a.node.x.machine name) a.node.said
      (ap (λ (z : Node S). M.find z.machine name) x ∙ b.node.said) in
      a.says.after ∙ ap (λ z. with_message w (Released z)) o ∙ sym b.says.after

  arrives_once : (m : ℕ) → row.Arrives w m r new → row.Arrives w m q other → new ≡ other
  arrives_once m a b =
      let same : ◌≡◌ {A = Message} (Released (Byte a.port a.number a.byte)) (Released (Byte b.port b.number b.byte)) =
      same_some (Released (Byte a.port a.number a.byte)) (Released (Byte b.port b.number b.byte)) (slice_get w.messages m)
      a.message b.message in
      let port : a.port ≡ b.port = (cc) in
      let number : a.number ≡ b.number = (cc) in
      let byte : a.byte ≡ b.byte = (cc) in
      a.after ∙ ap (λ z. with_arrival w z (record { number = a.number; byte = a.byte })) port
      ∙ ap (λ z. with_arrival w b.port (record { number = z; byte = a.byte })) number
      ∙ ap (λ z. with_arrival w b.port (record { number = b.number; byte = z })) byte ∙ sym b.after

  tells_once : (n port : ℕ) → row.Tells M w n port r new → row.Tells M w n port q other → new ≡ other
  tells_once n port a b =
      let x : a.node.x ≡ b.node.x = same_some a.node.x b.node.x (slice_get w.nodes n) a.node.there b.node.there in
      let k : a.keys ≡ b.keys =
      a.node.said ∙ ap (λ (z : Node S). keys_covered M z port z.role) x ∙ sym b.node.said in
      a.after ∙ ap (with_told w port) k ∙ sym b.after

  suspects_once : (n : ℕ) → row.Suspects w n r new → row.Suspects w n q other → new ≡ other
  suspects_once n a b = go a.after b.after
    where
      x : a.x ≡ b.x
      x = same_some a.x b.x (slice_get w.nodes n) a.there b.there

      winner : winner_in w.winners a.x.generation ≡ winner_in w.winners b.x.generation
      winner = ap (λ (z : Node S). winner_in w.winners z.generation) x

      go : ((winner_in w.winners a.x.generation ≡ None) × (new ≡ with_winner w n a.x))
          ⊎ ((winner_in w.winners a.x.generation ≡ Some n) × (new ≡ w)) →
          ((winner_in w.winners b.x.generation ≡ None) × (other ≡ with_winner w n b.x))
          ⊎ ((winner_in w.winners b.x.generation ≡ Some n) × (other ≡ w)) → new ≡ other
      go (inl c) (inl d) = c.1 ∙ ap (with_winner w n) x ∙ sym d.1
      go (inr c) (inr d) = c.1 ∙ sym d.1
      go (inl c) (inr d) = nobody_and_one (winner_in w.winners a.x.generation) n c.0 (winner ∙ d.0)
      go (inr c) (inl d) = nobody_and_one (winner_in w.winners b.x.generation) n d.0 (sym winner ∙ c.0)

  puts_once : (m : ℕ) → row.Puts w m r new → row.Puts w m q other → new ≡ other
  puts_once m a b =
      let same : ◌≡◌ {A = Message} (Released (Write a.write)) (Released (Write b.write)) =
      same_some (Released (Write a.write)) (Released (Write b.write)) (slice_get w.messages m) a.message b.message in
      let write : a.write ≡ b.write = (cc) in
      a.after ∙ ap (with_put w) write ∙ sym b.after

  put_replies_once : (m n : ℕ) → row.TakesPutReply M w m n r new → row.TakesPutReply M w m n q other → new ≡ other
  put_replies_once m n a b =
      let same : ◌≡◌ {A = Message} (WriteDone a.number) (WriteDone b.number) =
      same_some (WriteDone a.number) (WriteDone b.number) (slice_get w.messages m) a.message b.message in
      let number : a.number ≡ b.number = (cc) in
      takes_once n (input.Written a.number) (input.Written b.number) (ap (λ k. input.Written k) number) a.input b.input

  gets_once : (n sector : ℕ) → row.Gets M w n sector r new → row.Gets M w n sector q other → new ≡ other
  gets_once n sector a b =
      let x : a.node.x ≡ b.node.x = same_some a.node.x b.node.x (slice_get w.nodes n) a.node.there b.node.there in
      let drive : a.node.said.drive ≡ b.node.said.drive =
      same_some a.node.said.drive b.node.said.drive (M.selected a.node.x.machine) a.node.said.selected
      (ap (λ (z : Node S). M.selected z.machine) x ∙ b.node.said.selected) in
      let address : a.address ≡ b.address =
      a.node.said.address_is ∙ ap (λ (z : Node S). M.address z.machine a.node.said.drive sector) x
      ∙ ap (λ d. M.address b.node.x.machine d sector) drive ∙ sym b.node.said.address_is in
      a.after ∙ ap (with_read M w) address ∙ sym b.after

  get_replies_once : (m n : ℕ) → row.TakesGetReply M w m n r new → row.TakesGetReply M w m n q other → new ≡ other
  get_replies_once m n a b =
      let same : ◌≡◌ {A = Message} (SectorRead a.address a.number a.bytes) (SectorRead b.address b.number b.bytes) =
      same_some (SectorRead a.address a.number a.bytes) (SectorRead b.address b.number b.bytes) (slice_get w.messages m)
      a.message b.message in
      let address : a.address ≡ b.address = (cc) in
      let number : a.number ≡ b.number = (cc) in
      let bytes : a.bytes ≡ b.bytes = (cc) in
      takes_once n (input.Sector a.address.drive a.address.sector a.number a.bytes)
      (input.Sector b.address.drive b.address.sector b.number b.bytes)
      (ap (λ (z : SectorAddress). input.Sector z.drive z.sector a.number a.bytes) address
      ∙ ap (λ z. input.Sector b.address.drive b.address.sector z a.bytes) number
      ∙ ap (λ z. input.Sector b.address.drive b.address.sector b.number z) bytes) a.input b.input

  begins_once : (n host : ℕ) → row.BeginsPair M C w n host r new → row.BeginsPair M C w n host q other → new ≡ other
  begins_once n host a b =
      a.after ∙ ap (with_pair M C w n host) (same_some a.x b.x (slice_get w.nodes n) a.there b.there) ∙ sym b.after

  parts_once : (n index : ℕ) → row.SendsPart C w n index r new → row.SendsPart C w n index q other → new ≡ other
  parts_once n index a b =
      let x : a.node.x ≡ b.node.x = same_some a.node.x b.node.x (slice_get w.nodes n) a.node.there b.node.there in
      let s : a.node.said.s ≡ b.node.said.s =
      same_some a.node.said.s b.node.said.s a.node.x.image a.node.said.image
      (ap (λ (z : Node S). z.image) x ∙ b.node.said.image) in
      let part : a.part ≡ b.part =
      same_some a.part b.part (slice_get (C.parts a.node.said.s) index) a.node.said.is_part
      (ap (λ z. slice_get (C.parts z) index) s ∙ b.node.said.is_part) in
      a.says.after ∙ ap (λ (z : Node S). with_message w (ImagePart z.generation index a.part)) x
      ∙ ap (λ z. with_message w (ImagePart b.node.x.generation index z)) part ∙ sym b.says.after

  gets_part_once : (m n : ℕ) → row.GetsPart C w m n r new → row.GetsPart C w m n q other → new ≡ other
  gets_part_once m n a b =
      let same : ◌≡◌ {A = Message} (ImagePart a.generation a.index a.part) (ImagePart b.generation b.index b.part) =
      same_some (ImagePart a.generation a.index a.part) (ImagePart b.generation b.index b.part) (slice_get w.messages m)
      a.message b.message in
      let index : a.index ≡ b.index = (cc) in
      let part : a.part ≡ b.part = (cc) in
      at_once w n (λ x y. GotPart C a.index a.part x r y) (λ x y. GotPart C b.index b.part x q y) new other a.at b.at
      (λ y z d e. got_once C a.index a.part a.at.x y z r q d
      (subst (λ k. GotPart C k a.part a.at.x q z) (sym index)
      (subst (λ k. GotPart C b.index k a.at.x q z) (sym part) e)))

  fetches_once : (n : ℕ) → row.Fetches M w n r new → row.Fetches M w n q other → new ≡ other
  fetches_once n a b =
      let x : a.node.x ≡ b.node.x = same_some a.node.x b.node.x (slice_get w.nodes n) a.node.there b.node.there in
      let read : ◌≡◌ {A = ℕ × ℕ × ℕ} (a.node.said.drive, a.node.said.sector, a.node.said.number)
      (b.node.said.drive, b.node.said.sector, b.node.said.number) =
      same_some (a.node.said.drive, a.node.said.sector, a.node.said.number)
      (b.node.said.drive, b.node.said.sector, b.node.said.number) (wanted M a.node.x) a.node.said.read
      (ap (wanted M) x ∙ b.node.said.read) in
      let address : a.address ≡ b.address =
      a.node.said.address_is
      ∙ ap (λ (z : Node S). M.address z.machine a.node.said.drive a.node.said.sector) x
      ∙ ap (λ (z : ℕ × ℕ × ℕ). M.address b.node.x.machine z.0 z.1) read ∙ sym b.node.said.address_is in
      a.after ∙ ap (with_read M w) address ∙ sym b.after

  fetched_once : (m n : ℕ) → row.TakesFetched w m n r new → row.TakesFetched w m n q other → new ≡ other
  fetched_once m n a b =
      let same : ◌≡◌ {A = Message} (SectorRead a.address a.number a.bytes) (SectorRead b.address b.number b.bytes) =
      same_some (SectorRead a.address a.number a.bytes) (SectorRead b.address b.number b.bytes) (slice_get w.messages m)
      a.message b.message in
      let bytes : a.bytes ≡ b.bytes = (cc) in
      at_once w n (effect.Fetched a.bytes) (effect.Fetched b.bytes) new other a.at b.at
      (λ y z d e. d ∙ ap (fetches a.at.x) bytes ∙ sym e)

  done_once : (e : Event) → refusal M C w e ≡ None → Does M C w e r new → Does M C w e q other → (Fails r → ⊥) →
      (Fails q → ⊥) → new ≡ other
  done_once (event.Step n turns) p a b one two = steps_once n turns p a b one two
  done_once (event.TypeByte port byte) p a b one two = a.after ∙ sym b.after
  done_once (event.TakeKey n port index) p a b one two = keys_once n port index a b
  done_once (event.Send n index) p a b one two = sends_once n index a b
  done_once (event.DeliverLog m n) p a b one two = delivers_once m n a b
  done_once (event.Acknowledge n) p a b one two = acknowledges_once n a b
  done_once (event.DeliverAcknowledgement m n) p a b one two = hears_once m n a b
  done_once (event.Replay n turns) p a b one two = replays_held_once n turns a b one two
  done_once (event.Release n name) p a b one two = releases_once n name a b
  done_once (event.Arrive m) p a b one two = arrives_once m a b
  done_once (event.TellSent n port number) p a b one two = takes_once n (input.Sent port) (input.Sent port) refl a b
  done_once (event.Told n port) p a b one two = tells_once n port a b
  done_once (event.Stop n) p a b one two = halts_once w n new other a.at b.at
  done_once (event.Suspect n) p a b one two = suspects_once n a b
  done_once (event.Drain n turns) p a b one two = drains_once n turns a b one two
  done_once (event.Put m) p a b one two = puts_once m a b
  done_once (event.PutReply m n) p a b one two = put_replies_once m n a b
  done_once (event.Get n sector) p a b one two = gets_once n sector a b
  done_once (event.GetReply m n) p a b one two = get_replies_once m n a b
  done_once (event.BeginPair n host) p a b one two = begins_once n host a b
  done_once (event.SendPart n index) p a b one two = parts_once n index a b
  done_once (event.PartComes m n) p a b one two = gets_part_once m n a b
  done_once (event.Freshen n pages) p a b one two = a.after ∙ sym b.after
  done_once (event.Fetch n) p a b one two = fetches_once n a b
  done_once (event.Fetched m n) p a b one two = fetched_once m n a b

-- a refused event leaves one world
leaves_once : {S : Type 0} (w new other : World S) (e : Event) (fault also : Fault) → fault ≡ also →
    Leaves w e fault new → Leaves w e also other → new ≡ other
leaves_once {S} w new other e fault also same a b = go e also (subst (λ f. Leaves w e f new) same a) b
  where
    go : (e : Event) (fault : Fault) → Leaves w e fault new → Leaves w e fault other → new ≡ other
    go (event.Suspect n) Lost a b = halts_once w n new other a b
    go e fault a b = a ∙ sym b

module _ {S : Type 0} (M : Machine S) (C : Copying S) (laws : Lawful M) (copies : IsCopying M C) (w : World S)
    (reached : Reached M C w) where
  pub one_outcome : (new other : World S) (r q : Reply) (e : Event) → Row M C w e r new → Row M C w e q other →
      (Fails r → ⊥) → (Fails q → ⊥) → new ≡ other
  one_outcome new other r q e (Accepts p a) (Accepts k b) one two =
      done_once M C laws copies w reached new other r q e p a b one two
  one_outcome new other _ _ e (Refuses {fault = fault} p a) (Refuses {fault = also} k b) one two =
      leaves_once w new other e fault also (same_some fault also (refusal M C w e) p k) a b
  one_outcome new other r _ e (Accepts p a) (Refuses k b) one two = absurd (cc)
  one_outcome new other _ q e (Refuses p a) (Accepts k b) one two = absurd (cc)
  one_outcome _ other _ q e (DeviceFails p disk) b one two = absurd (one tt)
  one_outcome _ other _ q e (NeedsMemory p may) b one two = absurd (one tt)
  one_outcome new _ r _ e a (DeviceFails p disk) one two = absurd (two tt)
  one_outcome new _ r _ e a (NeedsMemory p may) one two = absurd (two tt)
