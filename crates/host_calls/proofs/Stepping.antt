-- A call that gives a value was not refused, so it is a step of the host.
use Rattle.std.proofs.Common.{◌<◌, ◌∙◌, ◌≡◌, List, None, Ok, Option, Some, ap, cond, false, refl, subst, ℕ}
use Rattle.std.specs.Prelude.{length, unwrap_or}
use Rattle.i8080_words.specs.declared.refusal.Fault.TheVariants.{Unknown}
use Rattle.arbiter_core.specs.Winners.{winner_of}
use Rattle.arbiter_core.specs.declared.arbiter.Asking.{Asking}
use Rattle.arbiter_core.specs.declared.arbiter.Won.{Won}
use Rattle.guest_lockstep.specs.Machine.{Machine}
use Rattle.guest_lockstep.specs.declared.input.Input.TheVariants as input
use Rattle.guest_lockstep.specs.declared.reads.Reads.{Reads}
use Rattle.guest_lockstep.specs.declared.reads.Reads.TheVariants.{Logged, Shared}
use Rattle.i8080_words.specs.declared.refusal.Fault.{Fault}
use Rattle.log_channel.specs.declared.packet.Packet.TheVariants.{Ack}
use Rattle.pair_protocol.specs.Copying.{Copying}
use Rattle.pair_protocol.specs.Effects as effect
use Rattle.pair_protocol.specs.Node.{Node, Primary, Backup, Role, Spare, begun, first_node, is_role, told_by, wins}
use Rattle.pair_protocol.specs.Refusals as refusals
use Rattle.pair_protocol.specs.World.{Acknowledgement, ImagePart, LogEntry}
use Rattle.pair_protocol.proofs.Passed.{first-passed}
use Rattle.ft_node.specs.Calls as calls
use Rattle.ft_node.specs.Calls.{Ask, Call, Makes, Never, SuspectsOf, Unless, last_refusal, part_refusal, part_reply, reported_by}
use Rattle.host_law.specs.Host as host
use Rattle.guest_lockstep.specs.declared.timed.Timed.{Timed}
use Rattle.host_law.specs.Host.{HostStep, Passes, recruit}
use Rattle.ft_node.specs.declared.ran.Drained.{Drained}
use Rattle.ft_node.specs.declared.ran.Ran.{Ran}
use Rattle.replayer.specs.declared.replayer.Replayed.{Replayed}
use Rattle.ft_node.specs.Checked as checked
use Rattle.host_law.specs.Frame.{quiet}
use Rattle.host_calls.specs.Calls.{AreSteps}
use Rattle.host_calls.specs.Made.{Made}

-- a call, or a question, that gave a value
pub made : {A S : Type 0} (o : Option Fault) (needs : Node S → Type 0) (does : A → Node S → Node S → Type 0) (x : Node S) (v : A)
    (Is : Node S → Type 0) → Call o needs does x (Ok v) Is → (o ≡ None) × Makes x (does v) Is
made None needs does x v Is c = (refl, c)
made (Some fault) needs does x v Is c = (let k = c.0 in absurd (cc))

pub said : {A S : Type 0} (o : Option Fault) (needs : Node S → Type 0) (says : A → Node S → Type 0) (x : Node S) (v : A) →
    Ask o needs says x (Ok v) → (o ≡ None) × says v x
said None needs says x v c = (refl, c)
said (Some fault) needs says x v c = (let k = c.0 in absurd (cc))

not-refused : {A : Type 0} (o : Option Fault) (v : A) (stays does : Type 0) → Unless {A = A} o (Ok v) stays does →
    (o ≡ None) × does
not-refused None v stays does c = (refl, c)
not-refused (Some fault) v stays does c = (let k = c.0 in absurd (cc))

is-none : (r : Role) → (r ≡ Spare → ⊥) → is_role r Spare ≡ false
is-none Spare other = absurd (other refl)
is-none r other = refl

-- a first asking is won by whoever asks
won : {S : Type 0} (o : Option ℕ) (old : List Asking) (n : ℕ) (x : Node S) (v : Won) (new : List Asking)
    (Is : Node S → Type 0) → o ≡ None → SuspectsOf o old n x (Ok v) new Is → Is (wins x)
won None old n x v new Is e c = c.1
won (Some winner) old n x v new Is e c = absurd (cc)

reported : (reads : Reads) (replayed : ℕ) → unwrap_or (reported_by reads replayed) 0 ≡ told_by reads replayed
reported Logged replayed = refl
reported Shared replayed = refl

module _ {S : Type 0} (M : Machine S) (C : Copying S) (me : ℕ) (x : Node S) (other : x.role ≡ Spare → ⊥)
    (Is : Node S → Type 0) where
  pub passes : (part : Node S → Option Fault) → part x ≡ None → Passes x part
  passes part e = ap (λ b. cond b (Some Unknown) (part x)) (is-none x.role other) ∙ e

  -- the rows of steps and of moves
  stepped : (turns : ℕ) (ran : Ran) → calls.Steps M turns x (Ok ran) Is → Made M C me x quiet Is
  stepped turns ran c =
      let m = made (refusals.step_refusal M turns x) (λ x. 0 < turns) (calls.SteppedBy M turns) x ran Is c in record {
        y = m.1.y;
        step = host.Steps turns ran.steps ran.count ran.why m.1.y (passes (refusals.step_refusal M turns) m.0) m.1.done;
        is = m.1.after;
      }

  steps : (turns : ℕ) (ran : Ran) → checked.Steps M turns x (Ok ran) Is → Made M C me x quiet Is
  steps turns ran (checked.StepsAll c) = stepped turns ran c
  steps turns ran (checked.StepsNone n) = let e = n.refused in absurd (cc)

-- moves by entries are a step of as many turns as fit
module _ {S : Type 0} (M : Machine S) (C : Copying S) (me : ℕ) (x : Node S) (other : x.role ≡ Spare → ⊥) where
  replayed : (turns : ℕ) (r : Replayed) (Is : Node S → Type 0) → calls.Replays M turns x (Ok r) Is → Made M C me x quiet Is
  replayed turns r Is c =
      let m = made (refusals.replay_refusal x) (effect.NeedsMoves M turns) (calls.ReplayedBy M turns) x r Is c in record {
        y = m.1.y;
        step = host.Replays turns r.moves r.why m.1.y (passes M C me x other Is refusals.replay_refusal m.0) m.1.done;
        is = m.1.after;
      }

  replays : (turns : ℕ) (r : Replayed) (Is : Node S → Type 0) → checked.Replays M turns x (Ok r) Is → Made M C me x quiet Is
  replays turns r Is (checked.AllFit c) =
      let m = replayed turns r (λ y. Is y × (r.moves < turns → checked.Diverges M y → ⊥)) c in
      record { y = m.y; step = m.step; is = m.is.0 }
  replays turns r Is (checked.SomeFit q e some lt c) =
      let m = replayed q.moves r (λ y. Is y × checked.Diverges M y) c in
      record { y = m.y; step = m.step; is = m.is.0 }
  replays turns r Is (checked.NoneFits n) = let e = n.refused in absurd (cc)

  drained : (turns : ℕ) (d : Drained) (Is : Node S → Type 0) → calls.Drains M turns x (Ok d) Is → Made M C me x quiet Is
  drained turns d Is c =
      let m = made (refusals.drain_refusal x) (effect.NeedsMoves M turns) (calls.DrainedBy M turns) x d Is c in record {
        y = m.1.y;
        step = host.Drains turns d.moves d.why m.1.y (passes M C me x other Is refusals.drain_refusal m.0) m.1.done;
        is = m.1.after;
      }

  drains : (turns : ℕ) (d : Drained) (Is : Node S → Type 0) → checked.Drains M turns x (Ok d) Is → Made M C me x quiet Is
  drains turns d Is (checked.AllFit c) =
      let m = drained turns d (λ y. Is y × (d.moves < turns → checked.Diverges M y → ⊥)) c in
      record { y = m.y; step = m.step; is = m.is.0 }
  drains turns d Is (checked.SomeFit q e some lt c) =
      let m = drained q.moves d (λ y. Is y × checked.Diverges M y) c in
      record { y = m.y; step = m.step; is = m.is.0 }
  drains turns d Is (checked.NoneFits n) = let e = n.refused in absurd (cc)

-- ---- each call

module _ {S : Type 0} (M : Machine S) (C : Copying S) (me : ℕ) (x : Node S) (other : x.role ≡ Spare → ⊥)
    (Is : Node S → Type 0) where
  allowed : (part : Node S → Option Fault) → part x ≡ None → Passes x part
  allowed part e = passes M C me x other Is part e

  pub are-steps : AreSteps M C me x Is
  are-steps = record {
    step = steps M C me x other Is;
    replay = λ turns r c. replays M C me x other turns r Is c;
    drain = λ turns d c. drains M C me x other turns d Is c;
    freshen = λ left c. (let m = made (refusals.freshen_refusal x) calls.Ever (λ left x y. y ≡ x) x left Is c in record {
      y = x;
      step = host.Freshens (allowed refusals.freshen_refusal m.0);
      is = subst Is m.1.done m.1.after;
    });
    stop = λ c. (let m = made (refusals.stop_refusal x) Never (λ done. effect.Halted) x tt Is c in record {
      y = m.1.y;
      step = host.Stops m.1.y (allowed refusals.stop_refusal m.0) m.1.done;
      is = m.1.after;
    });
    key = λ port index byte c. (let m = made (refusals.take_key_refusal M port index x) Never
        (λ done. effect.Took M (input.Rx port byte)) x tt Is c in record {
          y = m.1.y;
          step = host.TakesKey port index byte m.1.y (allowed (refusals.take_key_refusal M port index) m.0) m.1.done;
          is = m.1.after;
        });
    sent = λ port number count low few c. (let m = made (refusals.tell_sent_refusal M port number x) Never
        (λ done. effect.Took M (input.Sent port)) x tt Is c in record {
          y = m.1.y;
          step = host.TakesAcceptance port number count m.1.y (allowed (refusals.tell_sent_refusal M port number) m.0) low few
              m.1.done;
          is = m.1.after;
        });
    done = λ number c. (let m = made (refusals.put_reply_refusal M number x) Never
        (λ done. effect.Took M (input.Written number)) x tt Is c in record {
          y = m.1.y;
          step = host.TakesDone number m.1.y (allowed (refusals.put_reply_refusal M number) m.0) m.1.done;
          is = m.1.after;
        });
    under = λ address number bytes c. (let m = made (refusals.get_reply_refusal M address number bytes x) Never
        (λ done. effect.Took M (input.Sector address.drive address.sector number bytes)) x tt Is c in record {
          y = m.1.y;
          step = host.TakesSector address number bytes m.1.y (allowed (refusals.get_reply_refusal M address number bytes) m.0)
              m.1.done;
          is = m.1.after;
        });
    fetched = λ address number bytes c. (let m = made (refusals.fetched_refusal M address number x) Never
        (λ done. effect.Fetched bytes) x tt Is c in record {
          y = m.1.y;
          step = host.TakesRead address number bytes m.1.y (allowed (refusals.fetched_refusal M address number) m.0) m.1.done;
          is = m.1.after;
        });
    on_log = λ generation index e next c. (let m = made (refusals.deliver_log_refusal generation x) (calls.NeedsRoom index)
        (effect.Held index e) x next Is c in record {
          y = m.1.y;
          step = host.TakesEntry generation index e next m.1.y (allowed (refusals.deliver_log_refusal generation) m.0) m.1.done;
          is = m.1.after;
        });
    on_ack = λ generation held reports covered c. (let m = made (refusals.deliver_acknowledgement_refusal generation held x) Never
        (effect.Heard held (unwrap_or reports 0)) x covered Is c in record {
          y = m.1.y;
          step = host.TakesAcknowledgement generation held (unwrap_or reports 0) covered m.1.y
              (allowed (refusals.deliver_acknowledgement_refusal generation held) m.0) m.1.done;
          is = m.1.after;
        });
    packet = λ index bytes c. (let m = said (refusals.send_refusal index x) calls.Ever (λ bytes x. calls.SendsEntry index x bytes) x bytes c in record {
      message = LogEntry x.generation index m.1.e;
      spelled = m.1.spelled;
      step = host.SendsEntry index m.1.e (allowed (refusals.send_refusal index) m.0) m.1.entry;
    });
    ack = λ bytes c. (let m = said (refusals.acknowledge_refusal x) calls.Ever
        (λ bytes x. calls.IsSpelled (Ack x.generation (length x.held) (reported_by x.reads x.replayed)) bytes) x bytes c in record {
          message = Acknowledgement x.generation (length x.held) (told_by x.reads x.replayed);
          spelled = (reported_by x.reads x.replayed, m.1, reported x.reads x.replayed);
          step = host.Acknowledges (length x.held) (told_by x.reads x.replayed) (allowed refusals.acknowledge_refusal m.0) (refl, refl);
        });
    release = λ name o port c. (let m = said (refusals.release_refusal M name x) Never (effect.HasOutstanding M name) x o c in
        host.Releases name o port (allowed (refusals.release_refusal M name) m.0) m.1);
    told = λ port keys low c. (let m = said (refusals.told_refusal x) Never (effect.HasCovered M port) x keys c in
        host.Tells port keys low (allowed refusals.told_refusal m.0) m.1);
    place = λ sector address c. (let m = said (refusals.get_refusal M x) Never (effect.IsUnder M sector) x address c in
        host.AsksUnder sector address (allowed (refusals.get_refusal M) m.0) m.1);
    wanted = λ address c. (let m = said (refusals.fetch_refusal M x) Never (effect.Wants M) x address c in
        host.AsksWanted address (allowed (refusals.fetch_refusal M) m.0) m.1);
    wins = λ old new v role none c. (let m = not-refused (refusals.suspect_refusal x) v (Is x × (new ≡ old))
        (SuspectsOf (winner_of old x.generation) old me x (Ok v) new Is) c in record {
          y = wins x;
          step = host.Wins (allowed refusals.suspect_refusal m.0) role;
          is = won (winner_of old x.generation) old me x v new Is none m.1;
        });
    loses = λ c. (let m = made (refusals.stop_refusal x) Never (λ done. effect.Halted) x tt Is c in record {
      y = m.1.y;
      step = host.Loses m.1.y (allowed refusals.stop_refusal m.0) m.1.done;
      is = m.1.after;
    });
    begin = λ generation c. (let m = made (refusals.begin_pair_refusal x) calls.Ever (calls.Begun M) x generation Is c in record {
      y = begun M x;
      step = host.BeginsPair (allowed refusals.begin_pair_refusal m.0);
      is = subst Is m.1.done.1 m.1.after;
    });
    send_part = λ index bytes c. (let m = said (refusals.send_part_refusal C index x) calls.Ever (λ bytes x. calls.SpellsPart C index x bytes) x bytes c in
        record {
          message = ImagePart x.generation index m.1.part;
          spelled = m.1.spelled;
          step = host.SendsPart index m.1.part (allowed (refusals.send_part_refusal C index) m.0) m.1.has;
        });
    part = λ p came c. (let m = made (part_refusal C p x) (calls.IsLast p)
        (λ part x y. effect.GotPart C p.index p.payload x (part_reply part) y) x came Is c in record {
          y = m.1.y;
          step = host.TakesPart p.generation p.index p.payload (part_reply came) m.1.y
              (allowed (refusals.part_comes_refusal p.generation)
              (first-passed (refusals.part_comes_refusal p.generation x) _ m.0).0) m.1.done;
          is = m.1.after;
        });
  }

-- ---- how nodes begin

pub begins-primary : {S : Type 0} (M : Machine S) (reads : Reads) →
    calls.Begins M Primary 1 reads M.boot (first_node M reads Primary)
begins-primary M reads = record {
  role_is = refl;
  up = refl;
  generation_is = refl;
  reads_are = refl;
  machine = refl;
  no_log = refl;
  covered = refl;
  reported = refl;
  notes = refl;
  no_held = refl;
  replayed = refl;
  no_fetched = refl;
  no_copy = refl;
  no_image = refl;
}

pub begins-backup : {S : Type 0} (M : Machine S) (reads : Reads) →
    calls.Begins M Backup 1 reads M.boot (first_node M reads Backup)
begins-backup M reads = record {
  role_is = refl;
  up = refl;
  generation_is = refl;
  reads_are = refl;
  machine = refl;
  no_log = refl;
  covered = refl;
  reported = refl;
  notes = refl;
  no_held = refl;
  replayed = refl;
  no_fetched = refl;
  no_copy = refl;
  no_image = refl;
}

pub joins : {S : Type 0} (M : Machine S) (C : Copying S) (generation count : ℕ) (reads : Reads) (list : List Timed) →
    calls.Joins C generation count reads (recruit M C generation count reads list)
joins M C generation count reads list = record {
  role_is = refl;
  up = refl;
  generation_is = refl;
  reads_are = refl;
  start_is = refl;
  no_parts = refl;
  no_held = refl;
  replayed = refl;
  no_fetched = refl;
}
