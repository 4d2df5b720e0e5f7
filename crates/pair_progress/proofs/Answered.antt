-- An event that is carried out is not answered with a refusal.
use Rattle.std.proofs.Common.{◌≢◌, ℕ, Bool, true, false, if◌then◌else◌, List, [], ◌∷◌, length, sym, ◌∙◌}
use Rattle.std.specs.Prelude.{nat_lt}
use Rattle.guest_lockstep.specs.declared.replay_end.ReplayEnd.{ReplayEnd}
use Rattle.guest_lockstep.specs.declared.replay_end.ReplayEnd.TheVariants as ended
use Rattle.i8080_words.specs.declared.refusal.Fault.{Fault}
use Rattle.pair_events.specs.declared.event.Event.{Event}
use Rattle.pair_events.specs.declared.event.Event.TheVariants.{Step, TypeByte, TakeKey, Send, DeliverLog, Acknowledge, DeliverAcknowledgement, Replay, Release, Arrive, TellSent, Told, Stop, Suspect, Drain, Put, PutReply, Get, GetReply, BeginPair, SendPart, PartComes, Freshen, Fetch, Fetched}
use Rattle.pair_protocol.proofs.Words.{Copying, Machine, Node, World, accepted}
use Rattle.pair_protocol.specs.Effects.{Again, Comes, Completes, GotPart}
use Rattle.pair_protocol.specs.Reply.{Accepted, Dropped, New, Old, Refused, Reply}
use Rattle.pair_protocol.specs.Row.{Accepts, Run}
use Rattle.pair_protocol.specs.Rows.{Does, drain_reply}
use Rattle.pair_progress.specs.Leads.{CarriedOut, First, NoneFails, NoneRefuses, Nothing}

new_or_old : (next : Bool) (fault : Fault) → (if next then New else Old) ≢ Refused fault
new_or_old true fault is = (cc)
new_or_old false fault is = (cc)

accepted_or_not : (taken : Bool) (fault : Fault) → (if taken then Accepted else Dropped) ≢ Refused fault
accepted_or_not true fault is = (cc)
accepted_or_not false fault is = (cc)

moved_or_live : (made : ℕ) (why : ReplayEnd) (fault : Fault) → drain_reply made why ≢ Refused fault
moved_or_live made ended.Turns fault is = (cc)
moved_or_live made ended.End fault is = (cc)
moved_or_live made ended.Wait fault is = (cc)
moved_or_live made ended.Memory fault is = (cc)

got : {S : Type 0} {C : Copying S} {index : ℕ} {part : List ℕ} {x y : Node S} {r : Reply} (fault : Fault) →
    GotPart C index part x r y → r ≢ Refused fault
got fault (Again before) is = (cc)
got fault (Comes missing rest) is = (cc)
got fault (Completes parts s missing all made) is = (cc)

pub no_refusal : {S : Type 0} (M : Machine S) (C : Copying S) (w new : World S) (e : Event) (r : Reply) →
    Does M C w e r new → (fault : Fault) → r ≢ Refused fault
no_refusal M C w new (Step n turns) r d fault is = let k = sym is ∙ d.reply in (cc)
no_refusal M C w new (TypeByte port byte) r d fault is = let k = sym is ∙ d.reply in (cc)
no_refusal M C w new (TakeKey n port index) r d fault is = let k = sym is ∙ d.input.reply in (cc)
no_refusal M C w new (Send n index) r d fault is = let k = sym is ∙ d.says.reply in (cc)
no_refusal M C w new (DeliverLog m n) r d fault is = new_or_old d.next fault (sym d.reply ∙ is)
no_refusal M C w new (Acknowledge n) r d fault is = let k = sym is ∙ d.says.reply in (cc)
no_refusal M C w new (DeliverAcknowledgement m n) r d fault is = let k = sym is ∙ d.reply in (cc)
no_refusal M C w new (Replay n turns) r d fault is = let k = sym is ∙ d.reply in (cc)
no_refusal M C w new (Release n name) r d fault is = let k = sym is ∙ d.says.reply in (cc)
no_refusal M C w new (Arrive m) r d fault is =
    accepted_or_not (nat_lt (length (accepted w d.port)) (length (accepted new d.port))) fault (sym d.reply ∙ is)
no_refusal M C w new (TellSent n port number) r d fault is = let k = sym is ∙ d.reply in (cc)
no_refusal M C w new (Told n port) r d fault is = let k = sym is ∙ d.reply in (cc)
no_refusal M C w new (Stop n) r d fault is = let k = sym is ∙ d.reply in (cc)
no_refusal M C w new (Suspect n) r d fault is = let k = sym is ∙ d.reply in (cc)
no_refusal M C w new (Drain n turns) r d fault is = moved_or_live d.made d.why fault (sym d.reply ∙ is)
no_refusal M C w new (Put m) r d fault is = let k = sym is ∙ d.reply in (cc)
no_refusal M C w new (PutReply m n) r d fault is = let k = sym is ∙ d.input.reply in (cc)
no_refusal M C w new (Get n sector) r d fault is = let k = sym is ∙ d.reply in (cc)
no_refusal M C w new (GetReply m n) r d fault is = let k = sym is ∙ d.input.reply in (cc)
no_refusal M C w new (BeginPair n host) r d fault is = let k = sym is ∙ d.reply in (cc)
no_refusal M C w new (SendPart n index) r d fault is = let k = sym is ∙ d.says.reply in (cc)
no_refusal M C w new (PartComes m n) r d fault is = got fault d.at.done is
no_refusal M C w new (Freshen n pages) r d fault is = let k = sym is ∙ d.reply in (cc)
no_refusal M C w new (Fetch n) r d fault is = let k = sym is ∙ d.reply in (cc)
no_refusal M C w new (Fetched m n) r d fault is = let k = sym is ∙ d.reply in (cc)

pub carried_runs : {S : Type 0} (M : Machine S) (C : Copying S) (w new : World S) (events : List Event) →
    CarriedOut M C w events new →
    (replies : List Reply) × Run M C w events replies new × NoneRefuses replies × NoneFails replies
carried_runs M C w new events Nothing = ([], Run.Nothing, tt, tt)
carried_runs M C w new _ (First {mid = v} {e = e} {events = es} r fine p d rest) =
    let k = carried_runs M C v new es rest in
    (r ∷ k.0, Run.First (Accepts p d) k.1, (no_refusal M C w v e r d, k.2), (fine, k.3))
