-- In every world of a run a host that joins lacks a part: the event that brings the last one makes it the backup.
use Rattle.std.proofs.Common.{◌≡◌, ℕ, zero, suc, ◌<◌, inl, inr, Bool, true, false, Option, Some, None, List, refl, sym, ap, subst, ◌∙◌}
use Rattle.std.specs.Prelude.{slice_set}
use Rattle.event_callbacks.specs.declared.operations.Operation.{Operation}
use Rattle.guest_lockstep.specs.declared.input.Input.{Input}
use Rattle.guest_lockstep.specs.declared.input.Input.TheVariants as input
use Rattle.guest_lockstep.specs.declared.reads.Reads.{Reads}
use Rattle.guest_lockstep.specs.declared.replay_end.ReplayEnd.{ReplayEnd}
use Rattle.guest_lockstep.specs.declared.replay_end.ReplayEnd.TheVariants as ended
use Rattle.guest_lockstep.specs.declared.running.StopReason.{StopReason}
use Rattle.i8080_words.specs.declared.refusal.Fault.{Fault}
use Rattle.i8080_words.specs.declared.refusal.Fault.TheVariants.{Lost}
use Rattle.log_entry.specs.declared.entry.Entry.{Entry}
use Rattle.pair_events.specs.declared.event.Event.{Event}
use Rattle.pair_events.specs.declared.event.Event.TheVariants as event
use Rattle.pair_protocol.proofs.Words.{Alone, Backup, Copying, Draining, Joining, Machine, Node, Primary, Role, Spare, World, begun, first_node, gathered, joiner, opening, spare, wins, with_host, with_node, won_role}
use Rattle.pair_protocol.specs.Effects as effect
use Rattle.pair_protocol.specs.Effects.{Advances, Again, AtEnd, AwaitsBytes, Comes, Completes, Drained, Ends, Gives, Goes, GotPart, Halted, Heard, Held, NoMemory, NoTurns, NoneLeft, OneInput, OneMark, OneRead, OneStep, Replayed, Replays, Short, Stepped, Took, Waits, after_drain, stepped, took}
use Rattle.pair_protocol.specs.Reply.{Reply}
use Rattle.pair_protocol.specs.Row.{Accepts, DeviceFails, First, HostComes, Leaves, NeedsMemory, Nothing, Refuses, Row, Run}
use Rattle.pair_protocol.specs.Rows.{AtNode, BeginsPair, Does, Suspects, Takes}
use Rattle.pair_protocol.proofs.Traces.Lists.{get-last, get_set_cases, same_some}
use Rattle.pair_progress.specs.Renewal.{JoinersLack}
use Rattle.pair_progress.proofs.Renewing.{none_yet}

-- a node that joins lacks a part
abbrev Lacks : {S : Type 0} → Node S → Type 0
Lacks x = x.role ≡ Joining → gathered x.parts ≡ None

-- the same of a node with its role and its parts
keeps : {S : Type 0} (x y : Node S) → (y.role ≡ x.role) × (y.parts ≡ x.parts) → Lacks x → Lacks y
keeps x y same lacks role = ap gathered same.1 ∙ lacks (sym same.0 ∙ role)

stepped_keeps : {S : Type 0} (M : Machine S) (x : Node S) (r : Role) (s : S) (gives : Option Operation) →
    ((stepped M x r s gives).role ≡ x.role) × ((stepped M x r s gives).parts ≡ x.parts)
stepped_keeps M x Primary s gives = (refl, refl)
stepped_keeps M x Alone s gives = (refl, refl)
stepped_keeps M x Backup s gives = (refl, refl)
stepped_keeps M x Joining s gives = (refl, refl)
stepped_keeps M x Draining s gives = (refl, refl)
stepped_keeps M x Spare s gives = (refl, refl)

took_keeps : {S : Type 0} (M : Machine S) (x : Node S) (r : Role) (s : S) (i : Input) →
    ((took M x r s i).role ≡ x.role) × ((took M x r s i).parts ≡ x.parts)
took_keeps M x Primary s i = (refl, refl)
took_keeps M x Alone s i = (refl, refl)
took_keeps M x Backup s i = (refl, refl)
took_keeps M x Joining s i = (refl, refl)
took_keeps M x Draining s i = (refl, refl)
took_keeps M x Spare s i = (refl, refl)

advances_keep : {S : Type 0} (M : Machine S) {x y : Node S} {turns made : ℕ} {why : StopReason} →
    Advances M x turns y made why → (y.role ≡ x.role) × (y.parts ≡ x.parts)
advances_keep M NoneLeft = (refl, refl)
advances_keep M (Ends spent) = (refl, refl)
advances_keep M (Waits spent none) = (refl, refl)
advances_keep M (Short spent some) = (refl, refl)
advances_keep M (Gives {x = x} s o made) = stepped_keeps M x x.role s (Some o)
advances_keep M (Goes {x = x} s made rest) =
    let a = stepped_keeps M x x.role s None in
    let b = advances_keep M rest in
    (b.0 ∙ a.0, b.1 ∙ a.1)

replays_keep : {S : Type 0} (M : Machine S) {x y : Node S} {turns made : ℕ} → Replays M x turns y made →
    (y.role ≡ x.role) × (y.parts ≡ x.parts)
replays_keep M NoTurns = (refl, refl)
replays_keep M (AtEnd all) = (refl, refl)
replays_keep M (AwaitsBytes waits) = (refl, refl)
replays_keep M (NoMemory behind) = (refl, refl)
replays_keep M (OneStep e s gives at later made rest) = replays_keep M rest
replays_keep M (OneMark e at here mark rest) = replays_keep M rest
replays_keep M (OneInput e i s at here is takes rest) = replays_keep M rest
replays_keep M (OneRead d s n bytes t at come takes rest) = replays_keep M rest

held_keeps : {S : Type 0} (index : ℕ) (e : Entry) (next : Bool) (x y : Node S) → Held index e next x y →
    (y.role ≡ x.role) × (y.parts ≡ x.parts)
held_keeps {S} index e true x y h = (ap (λ (z : Node S). z.role) h.1, ap (λ (z : Node S). z.parts) h.1)
held_keeps {S} index e false x y h = (ap (λ (z : Node S). z.role) h.1, ap (λ (z : Node S). z.parts) h.1)

drained_lacks : {S : Type 0} (y : Node S) (why : ReplayEnd) → Lacks y → Lacks (after_drain y why)
drained_lacks y ended.Turns lacks = lacks
drained_lacks y ended.End lacks = λ role. absurd (cc)
drained_lacks y ended.Wait lacks = lacks
drained_lacks y ended.Memory lacks = lacks

got_lacks : {S : Type 0} (C : Copying S) (index : ℕ) (part : List ℕ) (x y : Node S) (r : Reply) →
    GotPart C index part x r y → Lacks x → Lacks y
got_lacks C index part x y _ (Again there) lacks = lacks
got_lacks C index part x y _ (Comes none more) lacks = λ role. more
got_lacks C index part x y _ (Completes parts s none all made) lacks = λ role. absurd (cc)

won_lacks : {S : Type 0} (x : Node S) (r : Role) → won_role r ≡ Joining → r ≡ Joining
won_lacks x Joining is = refl
won_lacks x Primary is = absurd (cc)
won_lacks x Backup is = absurd (cc)
won_lacks x Draining is = absurd (cc)
won_lacks x Alone is = absurd (cc)
won_lacks x Spare is = absurd (cc)

module _ {S : Type 0} (M : Machine S) (C : Copying S) (some : 0 < C.part_count) where
  abbrev AllLack : World S → Type 0
  AllLack w = JoinersLack M C w

  -- one node becomes another
  set : (w new : World S) (n : ℕ) (y : Node S) → new ≡ with_node w n y → AllLack w → Lacks y → AllLack new
  set w new n y is all lacks =
      subst AllLack (sym is) (λ m z at. elim (get_set_cases w.nodes n m y z at) [
        | inl e ↦ subst Lacks (sym e.1) lacks
        | inr old ↦ all m z old
      ])

  at_node_lacks : (w new : World S) (n : ℕ) (D : Node S → Node S → Type 0) (at : AtNode w n D new) →
      (D at.x at.y → Lacks at.x → Lacks at.y) → AllLack w → AllLack new
  at_node_lacks w new n D at so all = set w new n at.y at.after all (so at.done (all n at.x at.there))

  halts_lacks : (w new : World S) (n : ℕ) → AtNode w n Halted new → AllLack w → AllLack new
  halts_lacks w new n at all = at_node_lacks w new n Halted at (λ d lacks. subst Lacks (sym d) lacks) all

  takes_lack : (w new : World S) (n : ℕ) (i : Input) (r : Reply) → Takes M w n i r new → AllLack w → AllLack new
  takes_lack w new n i r d all =
      at_node_lacks w new n (Took M i) d.at
      (λ t. keeps d.at.x d.at.y
      (let k = took_keeps M d.at.x d.at.x.role t.s i in
      (ap (λ (z : Node S). z.role) t.after ∙ k.0, ap (λ (z : Node S). z.parts) t.after ∙ k.1))) all

  wins_lacks : (w new : World S) (n : ℕ) (r : Reply) → Suspects w n r new → AllLack w → AllLack new
  wins_lacks w new n r d all = elim d.after [
    | inl k ↦ subst AllLack (sym k.1) (λ m z at. elim (get_set_cases w.nodes n m (wins d.x) z at) [
      | inl e ↦ subst Lacks (sym e.1) (λ role. all n d.x d.there (won_lacks d.x d.x.role role))
      | inr old ↦ all m z old
    ])
    | inr k ↦ subst AllLack (sym k.1) all
  ]

  begins_lack : (w new : World S) (n host : ℕ) (r : Reply) → BeginsPair M C w n host r new → AllLack w → AllLack new
  begins_lack w new n host r d all =
      subst AllLack (sym d.after)
      (λ m z at. elim (get_set_cases (slice_set w.nodes n (begun M d.x)) host m (joiner M C d.x) z at) [
        | inl e ↦ subst Lacks (sym e.1) (λ role. none_yet C.part_count some)
        | inr old ↦ elim (get_set_cases w.nodes n m (begun M d.x) z old) [
          | inl e ↦ subst Lacks (sym e.1) (λ role. absurd (cc))
          | inr older ↦ all m z older
        ]
      ])

  done_lacks : (w new : World S) (e : Event) (r : Reply) → Does M C w e r new → AllLack w → AllLack new
  done_lacks w new (event.Step n turns) r d all =
      at_node_lacks w new n (Stepped M turns d.made d.count d.why) d.at
      (λ s. keeps d.at.x d.at.y (advances_keep M s.advances)) all
  done_lacks w new (event.TakeKey n port index) r d all = takes_lack w new n (input.Rx port d.byte) r d.input all
  done_lacks w new (event.DeliverLog m n) r d all =
      at_node_lacks w new n (Held d.index d.e d.next) d.at
      (λ h. keeps d.at.x d.at.y (held_keeps d.index d.e d.next d.at.x d.at.y h)) all
  done_lacks w new (event.DeliverAcknowledgement m n) r d all =
      at_node_lacks w new n (Heard d.held d.replayed d.covered) d.at (λ h lacks. subst Lacks (sym h.1) lacks) all
  done_lacks w new (event.Replay n turns) r d all =
      at_node_lacks w new n (Replayed M turns d.made d.why) d.at
      (λ k. keeps d.at.x d.at.y (replays_keep M k.moves)) all
  done_lacks w new (event.TellSent n port number) r d all = takes_lack w new n (input.Sent port) r d all
  done_lacks w new (event.Stop n) r d all = halts_lacks w new n d.at all
  done_lacks w new (event.Suspect n) r d all = wins_lacks w new n r d all
  done_lacks w new (event.Drain n turns) r d all =
      at_node_lacks w new n (Drained M turns d.made d.why) d.at
      (λ k lacks. subst Lacks (sym k.after)
      (drained_lacks k.z d.why (keeps d.at.x k.z (replays_keep M k.replayed.moves) lacks))) all
  done_lacks w new (event.PutReply m n) r d all = takes_lack w new n (input.Written d.number) r d.input all
  done_lacks w new (event.GetReply m n) r d all =
      takes_lack w new n (input.Sector d.address.drive d.address.sector d.number d.bytes) r d.input all
  done_lacks w new (event.BeginPair n host) r d all = begins_lack w new n host r d all
  done_lacks w new (event.PartComes m n) r d all =
      at_node_lacks w new n (λ x y. GotPart C d.index d.part x r y) d.at
      (λ g. got_lacks C d.index d.part d.at.x d.at.y r g) all
  done_lacks w new (event.Fetched m n) r d all =
      at_node_lacks w new n (effect.Fetched d.bytes) d.at (λ f lacks. subst Lacks (sym f) lacks) all
  done_lacks w new (event.TypeByte port byte) r d all = subst AllLack (sym d.after) all
  done_lacks w new (event.Send n index) r d all = subst AllLack (sym d.says.after) all
  done_lacks w new (event.Acknowledge n) r d all = subst AllLack (sym d.says.after) all
  done_lacks w new (event.Release n name) r d all = subst AllLack (sym d.says.after) all
  done_lacks w new (event.Arrive m) r d all = subst AllLack (sym d.after) all
  done_lacks w new (event.Told n port) r d all = subst AllLack (sym d.after) all
  done_lacks w new (event.Put m) r d all = subst AllLack (sym d.after) all
  done_lacks w new (event.Get n sector) r d all = subst AllLack (sym d.after) all
  done_lacks w new (event.SendPart n index) r d all = subst AllLack (sym d.says.after) all
  done_lacks w new (event.Freshen n pages) r d all = subst AllLack (sym d.after) all
  done_lacks w new (event.Fetch n) r d all = subst AllLack (sym d.after) all

  leaves_lack : (w new : World S) (e : Event) (fault : Fault) → Leaves w e fault new → AllLack w → AllLack new
  leaves_lack w new (event.Suspect n) Lost at all = halts_lacks w new n at all
  leaves_lack w new e fault same all = subst AllLack (sym same) all

  row_lacks : (w new : World S) (e : Event) (r : Reply) → Row M C w e r new → AllLack w → AllLack new
  row_lacks w new e r (Accepts p d) all = done_lacks w new e r d all
  row_lacks w new e _ (Refuses {fault = fault} p left) all = leaves_lack w new e fault left all
  row_lacks w _ e _ (DeviceFails p disk) all = all
  row_lacks w _ e _ (NeedsMemory p may) all = all

  run_lacks : (w new : World S) (events : List Event) (replies : List Reply) → Run M C w events replies new →
      AllLack w → AllLack new
  run_lacks w _ _ _ Nothing all = all
  run_lacks w new _ _ (First {mid = v} {e = e} {events = es} {r = r} {replies = rs} one rest) all =
      run_lacks v new es rs rest (row_lacks w v e r one all)
  run_lacks w new events replies (HostComes rest) all =
      run_lacks (with_host M w) new events replies rest
      (λ m z at. elim (get-last w.nodes (spare M) z m at) [
        | inl old ↦ all m z old
        | inr e ↦ subst Lacks (sym e) (λ role. absurd (cc))
      ])

  none_joins : (reads : Reads) → AllLack (opening M reads)
  none_joins reads zero x at role =
      let k : Primary ≡ Joining = ap (λ (z : Node S). z.role)
      (same_some (first_node M reads Primary) x (Some (first_node M reads Primary)) refl at) ∙ role in
      absurd (cc)
  none_joins reads (suc zero) x at role =
      let k : Backup ≡ Joining = ap (λ (z : Node S). z.role)
      (same_some (first_node M reads Backup) x (Some (first_node M reads Backup)) refl at) ∙ role in
      absurd (cc)
  none_joins reads (suc (suc n)) x at role = absurd (cc)

  pub joiners_lack : (reads : Reads) (events : List Event) (replies : List Reply) (w : World S) →
      Run M C (opening M reads) events replies w → AllLack w
  joiners_lack reads events replies w run = run_lacks (opening M reads) w events replies run (none_joins reads)
