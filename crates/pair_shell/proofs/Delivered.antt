-- No rule refuses what a node was just sent by another one, or by the disk that it asked for a sector.
use Rattle.std.proofs.Common.{◌≡◌, ℕ, ◌≤◌, inl, inr, false, not, is_none, Option, Some, None, List, [], ◌∷◌, ◌++◌, length, length-append, refl, sym, subst, ap, ◌∙◌, arith, eq-eqb}
use Rattle.std.specs.Prelude.{slice_get, nat_lt, ◌==◌}
use Rattle.disk_dcdd.specs.declared.address.SectorAddress.{SectorAddress}
use Rattle.disk_dcdd.proofs.Addresses.{same_address-refl}
use Rattle.guest_lockstep.specs.Machine.{Machine}
use Rattle.i8080_words.specs.declared.refusal.Fault.TheVariants.{BadAck, NotDue, StaleRead, WrongGeneration}
use Rattle.pair_events.specs.declared.event.Event.{Event}
use Rattle.pair_events.specs.declared.event.Event.TheVariants.{Acknowledge, DeliverAcknowledgement, DeliverLog, Fetch, Fetched, PartComes, Send, SendPart}
use Rattle.pair_protocol.specs.Change.{Reached}
use Rattle.pair_protocol.specs.Copying.{Copying, IsCopying}
use Rattle.pair_protocol.specs.Lawful.{Lawful}
use Rattle.pair_protocol.specs.Effects.{Wants, next_read}
use Rattle.pair_protocol.specs.Effects.{wanted as wanted_by}
use Rattle.pair_protocol.specs.Node.{Node, Role, Primary, Backup, Joining, Draining, Spare, is_role}
use Rattle.pair_protocol.specs.ReadsKept.{StillReplays}
use Rattle.pair_protocol.specs.Refusals.{at_acknowledgement, at_fetched, at_log_entry, at_part, deliver_acknowledgement_refusal, deliver_log_refusal, fault_if, fetch_refusal, fetched_refusal, first_of, generation_refusal, part_comes_refusal, refusal, role_refusal, unwanted}
use Rattle.pair_protocol.specs.Reply.{MessageIs}
use Rattle.pair_protocol.specs.Rows.{Does, Fetches, Says}
use Rattle.pair_protocol.specs.Settled.{highest}
use Rattle.pair_protocol.specs.World as protocol
use Rattle.pair_protocol.specs.World.{Acknowledgement, ImagePart, LogEntry, SectorRead, World, sector_record, winner_in}
use Rattle.pair_protocol.proofs.Words.{Acts, Entry, Replaying, same_address}
use Rattle.pair_protocol.proofs.Invariant.{Inv}
use Rattle.pair_protocol.proofs.Invariant.Acting.{ActingBackup, IsBackupRole, acting_backup}
use Rattle.pair_protocol.proofs.OneNode.{is-at-read}
use Rattle.pair_protocol.proofs.Passed.{first-passed, node-passed, replaying}
use Rattle.pair_protocol.proofs.Promises.Faithful.{reached}
use Rattle.pair_protocol.proofs.Traces.Lists.{among-get, get-at, same_some}
use Rattle.pair_progress.specs.CatchingUp.{IsPair}
use Rattle.pair_progress.proofs.Acting.{record_kept}
use Rattle.pair_progress.proofs.CatchingUp.{front}
use Rattle.pair_progress.proofs.Completing.{not_less}
use Rattle.pair_progress.proofs.Fetching.{wants}
use Rattle.pair_progress.proofs.Passing.{acts_first, acts_later, at_here, in_role, not_spare, passed}
use Rattle.ft_world.specs.Shows.{Agree}
use Rattle.ft_world.specs.Words.{IsMessage}
use Rattle.ft_world.specs.declared.message.Message.{Message}
use Rattle.ft_world.specs.declared.message.Message.TheVariants as message
use Rattle.pair_shell.specs.Arriving.{ArrivesAs, HasJustSent, IsForNode, MayReceive}
use Rattle.pair_shell.specs.Serves.{IsJoined, IsOfALaw, MayCome, Serves}
use Rattle.pair_shell.specs.declared.serving.ServingNodes.{ServingNodes}
use Rattle.pair_shell.specs.declared.serving.ServingNodes.TheVariants as serving

-- ---- what was sent

abbrev IsFromNode : Event → Type 0
IsFromNode (Send n index) = Unit {0}
IsFromNode (Acknowledge n) = Unit {0}
IsFromNode (SendPart n index) = Unit {0}
IsFromNode e = ⊥

-- an entry, an acknowledgement, or a part of an image of this generation
abbrev IsOfGeneration : ℕ → Option protocol.Message → Type 0
IsOfGeneration generation (Some (LogEntry its index e)) = its ≡ generation
IsOfGeneration generation (Some (Acknowledgement its held replayed)) = its ≡ generation
IsOfGeneration generation (Some (ImagePart its index part)) = its ≡ generation
IsOfGeneration generation found = ⊥

module _ {S : Type 0} (before : World S) (generation : ℕ) (n : ℕ) (x : Node S) (there : slice_get before.nodes n ≡ Some x) where
  at : (m : ℕ) → n ≡ m → slice_get before.nodes m ≡ Some x
  at m same = subst (λ k. slice_get before.nodes k ≡ Some x) same there

  same_generation : (m : ℕ) (y : Node S) → n ≡ m → slice_get before.nodes m ≡ Some y → y.generation ≡ generation →
      x.generation ≡ generation
  same_generation m y same is its =
      ap (λ (z : Node S). z.generation) (same_some x y (slice_get before.nodes m) (at m same) is) ∙ its

  entry_generation : (who : ServingNodes) (index : ℕ) → Serves before generation who → MayCome who (Send n index) →
      x.generation ≡ generation
  entry_generation (serving.Pair a b) index p comes = same_generation a p.x comes p.primary p.primary_generation
  entry_generation who index p comes = absurd comes

  ack_generation : (who : ServingNodes) → Serves before generation who → MayCome who (Acknowledge n) →
      x.generation ≡ generation
  ack_generation (serving.Pair a b) p comes = same_generation b p.y comes p.backup p.backup_generation
  ack_generation who p comes = absurd comes

  part_generation : (who : ServingNodes) (index : ℕ) → Serves before generation who → MayCome who (SendPart n index) →
      x.generation ≡ generation
  part_generation (serving.Joining a host) index j comes =
      same_generation a j.primary.acts.x comes j.primary.acts.there j.primary.acts.generation_is
  part_generation who index p comes = absurd comes

  fetch_generation : (who : ServingNodes) → Serves before generation who → MayCome who (Fetch n) → x.generation ≡ generation
  fetch_generation (serving.Pair a b) p comes = same_generation b p.y comes p.backup p.backup_generation
  fetch_generation (serving.Primary a) p comes = same_generation a p.acts.x comes p.acts.there p.acts.generation_is
  fetch_generation (serving.Backup a) p comes = same_generation a p.acts.x comes p.acts.there p.acts.generation_is
  fetch_generation (serving.Draining a) p comes = same_generation a p.acts.x comes p.acts.there p.acts.generation_is
  fetch_generation who p comes = absurd comes

-- it is the last message
said : {S : Type 0} (before w : World S) (m : ℕ) (message : protocol.Message) → Says before message (MessageIs m) w →
    (slice_get w.messages m ≡ Some message) × (highest w.nodes ≡ highest before.nodes)
said {S} before w m message says =
    let reply = says.reply in
    let number : m ≡ length before.messages = (cc) in (
      ap (λ (v : World S). slice_get v.messages m) says.after
          ∙ ap (slice_get (before.messages ++ message ∷ [])) number ∙ get-at before.messages [] message,
      ap (λ (v : World S). highest v.nodes) says.after,
    )

is_of : (message : protocol.Message) (generation top : ℕ) (o : Option protocol.Message) → o ≡ Some message →
    top ≡ generation → IsOfGeneration generation (Some message) → IsOfGeneration top o
is_of message generation top o is same its =
    subst (λ k. IsOfGeneration k o) (sym same) (subst (IsOfGeneration generation) (sym is) its)

-- what another node has sent
sent_of : {S : Type 0} (M : Machine S) (C : Copying S) (before w : World S) (m : ℕ) (e : Event) → IsFromNode e →
    IsOfALaw before (highest before.nodes) e → Does M C before e (MessageIs m) w →
    IsOfGeneration (highest w.nodes) (slice_get w.messages m)
sent_of M C before w m (Send n index) for law does =
    let message = LogEntry does.node.x.generation index does.e in
    let s = said before w m message does.says in
    is_of message (highest before.nodes) (highest w.nodes) (slice_get w.messages m) s.0 s.1
    (entry_generation before (highest before.nodes) n does.node.x does.node.there law.who index law.serves law.comes)
sent_of M C before w m (Acknowledge n) for law does =
    let message = Acknowledgement does.node.x.generation does.held does.replayed in
    let s = said before w m message does.says in
    is_of message (highest before.nodes) (highest w.nodes) (slice_get w.messages m) s.0 s.1
    (ack_generation before (highest before.nodes) n does.node.x does.node.there law.who law.serves law.comes)
sent_of M C before w m (SendPart n index) for law does =
    let message = ImagePart does.node.x.generation index does.part in
    let s = said before w m message does.says in
    is_of message (highest before.nodes) (highest w.nodes) (slice_get w.messages m) s.0 s.1
    (part_generation before (highest before.nodes) n does.node.x does.node.there law.who index law.serves law.comes)
sent_of M C before w m e for law does = absurd for

module _ {S : Type 0} (M : Machine S) (C : Copying S) (laws : Lawful M) (copies : IsCopying M C) (w : World S)
    (r : Reached M C w) (generation : ℕ) where
  -- ---- what the node's part refuses

  entry_comes : (n m : ℕ) (p : IsPair w n m generation) (k index : ℕ) (e : Entry) →
      slice_get w.messages k ≡ Some (LogEntry generation index e) → refusal M C w (DeliverLog k m) ≡ None
  entry_comes n m p k index e at =
      ap (λ z. at_log_entry (slice_get w.nodes m) z) at
      ∙ at_here (slice_get w.nodes m) p.y (deliver_log_refusal generation) p.backup
      (not_spare p.y.role Backup p.backup_role refl)
      (passed (role_refusal (Backup ∷ []) p.y) (generation_refusal generation p.y ∷ [])
      (in_role p.y (Backup ∷ []) (acts_first p.y Backup [] p.backup_up p.backup_role refl))
      (ap (λ b. first_of (fault_if (not b) WrongGeneration ∷ []))
      (eq-eqb generation p.y.generation (sym p.backup_generation))))

  part_comes : (n host : ℕ) (j : IsJoined w n host generation) (k index : ℕ) (part : List ℕ) →
      slice_get w.messages k ≡ Some (ImagePart generation index part) → refusal M C w (PartComes k host) ≡ None
  part_comes n host j k index part at =
      ap (λ z. at_part (slice_get w.nodes host) z) at
      ∙ at_here (slice_get w.nodes host) j.joining.x (part_comes_refusal generation) j.joining.there
      (not_spare j.joining.x.role Joining j.joining.role_is refl)
      (passed (role_refusal (Joining ∷ []) j.joining.x) (generation_refusal generation j.joining.x ∷ [])
      (in_role j.joining.x (Joining ∷ []) (acts_first j.joining.x Joining [] j.joining.up j.joining.role_is refl))
      (ap (λ b. first_of (fault_if (not b) WrongGeneration ∷ []))
      (eq-eqb generation j.joining.x.generation (sym j.joining.generation_is))))

  -- no more is acknowledged than is logged
  few_acknowledged : (n m : ℕ) (p : IsPair w n m generation) (k held replayed : ℕ) →
      slice_get w.messages k ≡ Some (Acknowledgement generation held replayed) → held ≤ length p.x.log
  few_acknowledged n m p k held replayed at =
      let i : Inv M C w = reached M C laws copies w r in
      let few : held ≤ length (i.each generation).line.held =
      ((i.each generation).says.acks held replayed
      (among-get w.messages k (Acknowledgement generation held replayed) at)).0 in
      let all : p.y.held ≡ (i.each generation).line.held =
      subst (λ g. p.y.held ≡ (i.each g).line.held) p.backup_generation
      (acting_backup M C w i m p.y Backup
      (record { there = p.backup; up = p.backup_up; role_is = p.backup_role }) tt).held in
      let begins = front M C laws copies n m generation w r p in
      let same = ap length all in
      let long = ap length begins.1 in
      let sum = length-append p.y.held begins.0 in
      omega (arith, few, same, long, sum)

  acknowledgement_comes : (n m : ℕ) (p : IsPair w n m generation) (k held replayed : ℕ) →
      slice_get w.messages k ≡ Some (Acknowledgement generation held replayed) →
      refusal M C w (DeliverAcknowledgement k n) ≡ None
  acknowledgement_comes n m p k held replayed at =
      ap (λ z. at_acknowledgement (slice_get w.nodes n) z) at
      ∙ at_here (slice_get w.nodes n) p.x (deliver_acknowledgement_refusal generation held) p.primary
      (not_spare p.x.role Primary p.primary_role refl)
      (passed (role_refusal (Primary ∷ []) p.x)
      (generation_refusal generation p.x ∷ fault_if (nat_lt (length p.x.log) held) BadAck ∷ [])
      (in_role p.x (Primary ∷ []) (acts_first p.x Primary [] p.primary_up p.primary_role refl))
      (passed (generation_refusal generation p.x) (fault_if (nat_lt (length p.x.log) held) BadAck ∷ [])
      (ap (λ b. fault_if (not b) WrongGeneration) (eq-eqb generation p.x.generation (sym p.primary_generation)))
      (ap (λ b. first_of (fault_if b BadAck ∷ []))
      (not_less (length p.x.log) held (few_acknowledged n m p k held replayed at)))))

  -- ---- at the node that it is for

  entry_by : (who : ServingNodes) → Serves w generation who → (k a m index : ℕ) (e : Entry) → MayCome who (DeliverLog k a) →
      k ≡ m → slice_get w.messages m ≡ Some (LogEntry generation index e) → refusal M C w (DeliverLog k a) ≡ None
  entry_by (serving.Pair n b) p k a m index e comes is at =
      ap (λ j. refusal M C w (DeliverLog j a)) is ∙ ap (λ j. refusal M C w (DeliverLog m j)) comes
      ∙ entry_comes n b p m index e at
  entry_by who p k a m index e comes is at = absurd comes

  acknowledgement_by : (who : ServingNodes) → Serves w generation who → (k a m held replayed : ℕ) →
      MayCome who (DeliverAcknowledgement k a) → k ≡ m →
      slice_get w.messages m ≡ Some (Acknowledgement generation held replayed) →
      refusal M C w (DeliverAcknowledgement k a) ≡ None
  acknowledgement_by (serving.Pair n b) p k a m held replayed comes is at =
      ap (λ j. refusal M C w (DeliverAcknowledgement j a)) is
      ∙ ap (λ j. refusal M C w (DeliverAcknowledgement m j)) comes ∙ acknowledgement_comes n b p m held replayed at
  acknowledgement_by who p k a m held replayed comes is at = absurd comes

  part_by : (who : ServingNodes) → Serves w generation who → (k a m index : ℕ) (part : List ℕ) →
      MayCome who (PartComes k a) → k ≡ m → slice_get w.messages m ≡ Some (ImagePart generation index part) →
      refusal M C w (PartComes k a) ≡ None
  part_by (serving.Joining n host) join k a m index part comes is at =
      ap (λ j. refusal M C w (PartComes j a)) is ∙ ap (λ j. refusal M C w (PartComes m j)) comes
      ∙ part_comes n host join m index part at
  part_by who p k a m index part comes is at = absurd comes

  -- ---- as the message that the running world shows

  module _ (who : ServingNodes) (serves : Serves w generation who) (m : ℕ) where
    log_arrives : (found : Message) (e : Event) (its index : ℕ) (entry : Entry) → MayCome who e → ArrivesAs found m e →
        slice_get w.messages m ≡ Some (LogEntry its index entry) → IsMessage found (LogEntry its index entry) →
        its ≡ generation → refusal M C w e ≡ None
    log_arrives (message.Log bytes) (DeliverLog k a) its index entry comes is at there same =
        entry_by who serves k a m index entry comes is (at ∙ ap (λ g. Some (LogEntry g index entry)) same)
    log_arrives (message.Log bytes) e its index entry comes is at there same = absurd is
    log_arrives found e its index entry comes is at there same = absurd there

    ack_arrives : (found : Message) (e : Event) (its held replayed : ℕ) → MayCome who e → ArrivesAs found m e →
        slice_get w.messages m ≡ Some (Acknowledgement its held replayed) →
        IsMessage found (Acknowledgement its held replayed) → its ≡ generation → refusal M C w e ≡ None
    ack_arrives (message.Ack bytes) (DeliverAcknowledgement k a) its held replayed comes is at there same =
        acknowledgement_by who serves k a m held replayed comes is
        (at ∙ ap (λ g. Some (Acknowledgement g held replayed)) same)
    ack_arrives (message.Ack bytes) e its held replayed comes is at there same = absurd is
    ack_arrives found e its held replayed comes is at there same = absurd there

    part_arrives : (found : Message) (e : Event) (its index : ℕ) (part : List ℕ) → MayCome who e → ArrivesAs found m e →
        slice_get w.messages m ≡ Some (ImagePart its index part) → IsMessage found (ImagePart its index part) →
        its ≡ generation → refusal M C w e ≡ None
    part_arrives (message.Part bytes) (PartComes k a) its index part comes is at there same =
        part_by who serves k a m index part comes is (at ∙ ap (λ g. Some (ImagePart g index part)) same)
    part_arrives (message.Part bytes) e its index part comes is at there same = absurd is
    part_arrives found e its index part comes is at there same = absurd there

    arrives_at : (found : Message) (e : Event) (o : Option protocol.Message) → MayCome who e → ArrivesAs found m e →
        slice_get w.messages m ≡ o → Agree IsMessage (Some found) o → IsOfGeneration generation o →
        refusal M C w e ≡ None
    arrives_at found e (Some (LogEntry its index entry)) comes is at there same =
        log_arrives found e its index entry comes is at there same
    arrives_at found e (Some (Acknowledgement its held replayed)) comes is at there same =
        ack_arrives found e its held replayed comes is at there same
    arrives_at found e (Some (ImagePart its index part)) comes is at there same =
        part_arrives found e its index part comes is at there same
    arrives_at found e o comes is at there same = absurd same

-- ---- the sector that a node has asked for

backs_up : (r : Role) → Replaying r → IsBackupRole r
backs_up r which = elim which [
  | inl z ↦ subst IsBackupRole (sym z) tt
  | inr z ↦ subst IsBackupRole (sym z) tt
]

module _ {S : Type 0} (M : Machine S) (C : Copying S) (laws : Lawful M) (copies : IsCopying M C) (w : World S)
    (r : Reached M C w) where
  -- a node of the highest generation that repeats what it holds
  record Repeats (n : ℕ) : Type 0 where
    y : Node S
    role : Role
    acts : Acts w n y role
    which : Replaying role
    still : StillReplays w n y

  repeats : (who : ServingNodes) → Serves w (highest w.nodes) who → MayReceive who → (k a : ℕ) → MayCome who (Fetched k a) →
      Repeats a
  repeats (serving.Draining n) s receives k a comes = subst Repeats (sym comes) (record {
    y = s.acts.x;
    role = Draining;
    acts = record { there = s.acts.there; up = s.acts.up; role_is = s.acts.role_is };
    which = inr refl;
    still = record { there = s.acts.there; highest_is = s.acts.generation_is; who = inr s.acts.role_is };
  })
  repeats (serving.Pair n b) p receives k a comes = subst Repeats (sym comes) (record {
    y = p.y;
    role = Backup;
    acts = record { there = p.backup; up = p.backup_up; role_is = p.backup_role };
    which = inl refl;
    still = record {
      there = p.backup;
      highest_is = p.backup_generation;
      who = inl (p.backup_role, ap (winner_in w.winners) p.backup_generation ∙ p.undecided);
    };
  })
  repeats (serving.Primary n) s receives k a comes = absurd receives
  repeats (serving.Backup n) s receives k a comes = absurd receives
  repeats who s receives k a comes = absurd comes

  -- there is one such node
  only_one : (n m : ℕ) (x y : Node S) (p q : Role) → Acts w n x p → Acts w m y q → Replaying p → Replaying q →
      x.generation ≡ y.generation → n ≡ m
  only_one n m x y p q acts_n acts_m which_n which_m same =
      let i : Inv M C w = reached M C laws copies w r in
      let a : ActingBackup M C w i n x = acting_backup M C w i n x p acts_n (backs_up p which_n) in
      let b : ActingBackup M C w i m y = acting_backup M C w i m y q acts_m (backs_up q which_m) in
      a.spot ∙ ap (λ g. (i.each g).line.backup) same ∙ sym b.spot

  -- the answer to what it waits for
  sector_comes : (n k number : ℕ) (bytes : List ℕ) (address : SectorAddress) (here : Repeats n) → Wants M address here.y →
      number ≡ (sector_record M w.puts address).number →
      slice_get w.messages k ≡ Some (SectorRead address number bytes) → refusal M C w (Fetched k n) ≡ None
  sector_comes n k number bytes address here wanted named at =
      let y = here.y in
      let its = wants y.fetched (next_read M y) (wanted.drive, wanted.sector, wanted.number) wanted.read in
      let next = is-at-read (M.count y.machine) wanted.drive wanted.sector wanted.number (slice_get y.held y.replayed) its.0 in
      let kept : (sector_record M w.puts (M.address y.machine wanted.drive wanted.sector)).number ≡ wanted.number =
      record_kept M C laws w (reached M C laws copies w r) n y here.role here.acts here.which here.still wanted.drive
      wanted.sector wanted.number next in
      let same : number ≡ wanted.number =
      named ∙ ap (λ q. (sector_record M w.puts q).number) wanted.address_is ∙ kept in
      let real : is_role y.role Spare ≡ false =
      elim here.which [
        | inl z ↦ not_spare y.role Backup (here.acts.role_is ∙ z) refl
        | inr z ↦ not_spare y.role Draining (here.acts.role_is ∙ z) refl
      ] in
      let replays : role_refusal (Backup ∷ Draining ∷ []) y ≡ None =
      in_role y (Backup ∷ Draining ∷ []) (elim here.which [
        | inl z ↦ acts_first y Backup (Draining ∷ []) here.acts.up (here.acts.role_is ∙ z) refl
        | inr z ↦ acts_later y Backup (Draining ∷ []) (acts_first y Draining [] here.acts.up (here.acts.role_is ∙ z) refl)
      ]) in
      ap (λ z. at_fetched M (slice_get w.nodes n) z) at
      ∙ at_here (slice_get w.nodes n) y (fetched_refusal M address number) here.acts.there real
      (passed (role_refusal (Backup ∷ Draining ∷ []) y) (unwanted M y address number (wanted_by M y) ∷ []) replays
      (ap (λ o. first_of (o ∷ []))
      (ap (unwanted M y address number) wanted.read
      ∙ passed (fault_if (not (same_address (M.address y.machine wanted.drive wanted.sector) address)) NotDue)
      (fault_if (not (wanted.number == number)) StaleRead ∷ [])
      (ap (λ b. fault_if (not b) NotDue)
      (same_address-refl (M.address y.machine wanted.drive wanted.sector) address (sym wanted.address_is)))
      (ap (λ b. first_of (fault_if (not b) StaleRead ∷ [])) (eq-eqb wanted.number number (sym same))))))

  module _ (before : World S) (m n : ℕ) (law : IsOfALaw before (highest before.nodes) (Fetch n))
      (allowed : refusal M C before (Fetch n) ≡ None) (does : Fetches M before n (MessageIs m) w) where
    abbrev x : Node S
    x = does.node.x

    nodes_same : before.nodes ≡ w.nodes
    nodes_same = ap (λ (v : World S). v.nodes) (sym does.after)

    asker : (q : Role) × Acts before n x q × Replaying q
    asker = replaying before n x does.node.there
        (first-passed (role_refusal (Backup ∷ Draining ∷ []) x) (fault_if (is_none (wanted_by M x)) NotDue ∷ [])
        (node-passed (slice_get before.nodes n) x (fetch_refusal M) does.node.there allowed).1).0

    acts_now : Acts w n x asker.0
    acts_now = record {
      there = ap (λ l. slice_get l n) (sym nodes_same) ∙ does.node.there;
      up = asker.1.up;
      role_is = asker.1.role_is;
    }

    its_generation : x.generation ≡ highest w.nodes
    its_generation =
        fetch_generation before (highest before.nodes) n x does.node.there law.who law.serves law.comes
        ∙ ap highest nodes_same

    answer : slice_get w.messages m ≡ Some (SectorRead does.address (sector_record M before.puts does.address).number
        (sector_record M before.puts does.address).bytes)
    answer = (said before w m (SectorRead does.address (sector_record M before.puts does.address).number
        (sector_record M before.puts does.address).bytes) (record { reply = does.reply; after = does.after })).0

    -- it arrives at that node
    fetched_by : (who : ServingNodes) → Serves w (highest w.nodes) who → MayReceive who → (k a : ℕ) →
        MayCome who (Fetched k a) → k ≡ m → refusal M C w (Fetched k a) ≡ None
    fetched_by who serves receives k a comes is =
        let here = repeats who serves receives k a comes in
        let spot : n ≡ a =
        only_one n a x here.y asker.0 here.role acts_now here.acts asker.2 here.which
        (its_generation ∙ sym here.still.highest_is) in
        let same : x ≡ here.y =
        same_some x here.y (slice_get w.nodes a) (subst (λ j. slice_get w.nodes j ≡ Some x) spot acts_now.there)
        here.acts.there in
        ap (λ j. refusal M C w (Fetched j a)) is
        ∙ sector_comes a m (sector_record M before.puts does.address).number (sector_record M before.puts does.address).bytes
        does.address here (subst (Wants M does.address) same does.node.said)
        (ap (λ (v : World S). (sector_record M v.puts does.address).number) (sym does.after)) answer

    read_arrives : (found : Message) (e : Event) (o : Option protocol.Message) → (who : ServingNodes) →
        Serves w (highest w.nodes) who → MayReceive who → MayCome who e → ArrivesAs found m e →
        o ≡ Some (SectorRead does.address (sector_record M before.puts does.address).number
        (sector_record M before.puts does.address).bytes) → Agree IsMessage (Some found) o → refusal M C w e ≡ None
    read_arrives (message.Sector read) (Fetched k a) o who serves receives comes is at there =
        fetched_by who serves receives k a comes is
    read_arrives (message.Sector read) e o who serves receives comes is at there = absurd is
    read_arrives found e o who serves receives comes is at there =
        absurd (subst (Agree IsMessage (Some found)) at there)

-- what was just sent arrives
pub delivered : {S : Type 0} (M : Machine S) (C : Copying S) → Lawful M → IsCopying M C → (w : World S) → Reached M C w →
    (who : ServingNodes) → Serves w (highest w.nodes) who → MayReceive who → (m : ℕ) (found : Message) (e : Event) →
    MayCome who e → ArrivesAs found m e → Agree IsMessage (Some found) (slice_get w.messages m) →
    HasJustSent M C w m → refusal M C w e ≡ None
delivered {S} M C laws copies w r who serves receives m found e comes is there sent =
    go sent.e sent.for_node sent.of_a_law sent.passed sent.does
  where
    from_node : (d : Event) → IsFromNode d → IsOfALaw sent.before (highest sent.before.nodes) d →
        Does M C sent.before d (MessageIs m) w → refusal M C w e ≡ None
    from_node d for law does =
        arrives_at M C laws copies w r (highest w.nodes) who serves m found e (slice_get w.messages m) comes is refl there
        (sent_of M C sent.before w m d for law does)

    go : (d : Event) → IsForNode d → IsOfALaw sent.before (highest sent.before.nodes) d →
        refusal M C sent.before d ≡ None → Does M C sent.before d (MessageIs m) w → refusal M C w e ≡ None
    go (Send n index) for law allowed does = from_node (Send n index) tt law does
    go (Acknowledge n) for law allowed does = from_node (Acknowledge n) tt law does
    go (SendPart n index) for law allowed does = from_node (SendPart n index) tt law does
    go (Fetch n) for law allowed does =
        read_arrives M C laws copies w r sent.before m n law allowed does found e (slice_get w.messages m) who serves receives
        comes is (answer M C laws copies w r sent.before m n law allowed does) there
    go d for law allowed does = absurd for
