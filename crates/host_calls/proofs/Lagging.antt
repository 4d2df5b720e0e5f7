-- A node of the law that lags. It does what the host's does, and makes the steps that the host's machine has made already
-- in front of the first move by an entry, or once it is alone.
use Rattle.std.proofs.Common.{◌≤◌, ◌∙◌, ◌≡◌, ◌⊎◌, Bool, List, None, Option, Some, [], ◌∷◌, ap, arith, cond, false, inl, inr, length, not, refl, subst, suc, sym, true, zero, ℕ}
use Rattle.std.proofs.lemmas.Bool.{eqb-true}
use Rattle.std.specs.Prelude.{is_none, slice_get, ◌&&◌, ◌==◌, ◌||◌}
use Rattle.event_callbacks.specs.Operations.{id_of}
use Rattle.event_callbacks.specs.declared.operations.Operation.{Operation}
use Rattle.disk_dcdd.specs.declared.address.SectorAddress.{SectorAddress}
use Rattle.ft_node.proofs.PrimaryRefusals.{by_machine}
use Rattle.ft_node.specs.Ahead.{RanAhead}
use Rattle.guest_lockstep.specs.Lockstep as lockstep
use Rattle.guest_lockstep.specs.Machine.{Machine}
use Rattle.guest_lockstep.specs.Recorded.{Counts}
use Rattle.guest_lockstep.specs.Running as running
use Rattle.guest_lockstep.specs.Running.{Quiet, RunsOn}
use Rattle.guest_lockstep.specs.declared.replay_end.ReplayEnd.TheVariants as end
use Rattle.guest_lockstep.specs.declared.running.StopReason.TheVariants as reason
use Rattle.guest_lockstep.specs.declared.running.Stopped.{Stopped}
use Rattle.i8080_words.specs.declared.refusal.Fault.{Fault}
use Rattle.i8080_words.specs.declared.refusal.Fault.TheVariants.{NotDue, Unknown, WrongRole}
use Rattle.log_entry.specs.Entries.{count_of, read_at, read_of, wanted_of}
use Rattle.log_entry.specs.declared.entry.Entry.{Entry}
use Rattle.pair_protocol.specs.Copying.{Copying}
use Rattle.pair_protocol.specs.Effects as effect
use Rattle.pair_protocol.specs.Effects.{Advances, Replays, Stepped, after_drain, next_read, replay_end, wanted}
use Rattle.pair_protocol.specs.Lawful.{Among}
use Rattle.pair_protocol.specs.Node.{Alone, Backup, Draining, Joining, Node, Primary, Role, Spare, acts_as, goes_live, halts, holds, is_role, plainly_steps, wins, won_role}
use Rattle.pair_protocol.specs.Refusals as refusals
use Rattle.pair_protocol.specs.Refusals.{fault_if, first_of, role_refusal}
use Rattle.pair_protocol.specs.World.{LogEntry}
use Rattle.pair_protocol.proofs.Passed.{first-passed, node-passed, not-stands, only-passed, passes-if, role_of}
use Rattle.host_law.specs.Frame.{Act, Carries, quiet, taking}
use Rattle.host_law.specs.Host as host
use Rattle.host_law.specs.Host.{HostStep, Passes}
use Rattle.host_law.specs.Ran.{HostRan}
use Rattle.host_law.proofs.Running.{ran-more, ran-nothing}
use Rattle.host_calls.specs.Follows as follows
use Rattle.host_calls.specs.Follows.{Follows, Lags, StepsTo, StepsToo}
use Rattle.host_calls.proofs.Runs.{ran-both}

-- ---- roles

acts : {S : Type 0} (x : Node S) (roles : List Role) → acts_as x roles ≡ true → (x.running ≡ true) × Among x.role roles
acts x [] h = absurd (cc)
acts x (r ∷ rs) h = go x.running (is_role x.role r) refl refl (λ k. acts x rs k) h
  where
    go : (u v : Bool) → x.running ≡ u → is_role x.role r ≡ v →
        (acts_as x rs ≡ true → (x.running ≡ true) × Among x.role rs) → ((u && v) || acts_as x rs) ≡ true →
        (x.running ≡ true) × Among x.role (r ∷ rs)
    go true true up is rest k = (up, inl (role_of x.role r is))
    go true false up is rest k = let a = rest k in (a.0, inr a.1)
    go false v up is rest k = let a = rest k in (a.0, inr a.1)

-- a call that is not refused has a node that is up, in one of its roles
passed : {S : Type 0} (x : Node S) (roles : List Role) (rest : List (Option Fault)) →
    first_of (role_refusal roles x ∷ rest) ≡ None → (x.running ≡ true) × Among x.role roles
passed x roles rest h =
    acts x roles (passes-if (acts_as x roles) WrongRole (first-passed (role_refusal roles x) rest h).0)

part-passed : {S : Type 0} (x : Node S) (part : Node S → Option Fault) → Passes x part → part x ≡ None
part-passed x part p = (node-passed (Some x) x part refl p).1

-- a node that lags is in none of these roles
abbrev pub Repeats : Role → Type 0
Repeats r = (r ≡ Backup) ⊎ (r ≡ Draining)

no-primary : Repeats Primary → ⊥
no-primary (inl b) = absurd (cc)
no-primary (inr d) = absurd (cc)

pub no-alone : Repeats Alone → ⊥
no-alone (inl b) = absurd (cc)
no-alone (inr d) = absurd (cc)

no-joining : Repeats Joining → ⊥
no-joining (inl b) = absurd (cc)
no-joining (inr d) = absurd (cc)

no-spare : Repeats Spare → ⊥
no-spare (inl b) = absurd (cc)
no-spare (inr d) = absurd (cc)

not-one : (r q : Role) → Repeats r → (Repeats q → ⊥) → Among r (q ∷ []) → ⊥
not-one r q repeats other (inl e) = other (subst Repeats e repeats)
not-one r q repeats other (inr none) = none

not-serving : (r : Role) → Repeats r → Among r (Primary ∷ Alone ∷ []) → ⊥
not-serving r repeats (inl e) = no-primary (subst Repeats e repeats)
not-serving r repeats (inr rest) = not-one r Alone repeats no-alone rest

-- whoever sends entries or parts is a primary
sends : {S : Type 0} (x : Node S) (b : Bool) (fault : Fault) → fault_if (not (acts_as x (Primary ∷ [])) || b) fault ≡ None →
    Among x.role (Primary ∷ [])
sends x b fault h = (acts x (Primary ∷ []) (by-or (acts_as x (Primary ∷ [])) b (not-stands _ fault h))).1
  where
    by-or : (a b : Bool) → (not a || b) ≡ false → a ≡ true
    by-or true b e = refl
    by-or false b e = absurd (cc)

-- ---- entries

-- a read that a node has reached is of its next entry, at its count
read-there : (come : Option (List ℕ)) (count : ℕ) (next : Option Entry) →
    is_none (wanted_of come (read_at count next)) ≡ false → (e : Entry) × (next ≡ Some e) × (count ≡ count_of e)
read-there (Some bytes) count next h = absurd (cc)
read-there None count None h = absurd (cc)
read-there None count (Some e) h = by-count (count == count_of e) refl h
  where
    by-count : (b : Bool) → (count == count_of e) ≡ b → is_none (cond b (read_of e) None) ≡ false →
        (d : Entry) × (Some e ≡ Some d) × (count ≡ count_of d)
    by-count true same h = (e, refl, eqb-true count (count_of e) same)
    by-count false same h = absurd (cc)

-- the same if its bytes have come
reached : (count : ℕ) (next : Option Entry) (read : ℕ × ℕ × ℕ) → read_at count next ≡ Some read →
    (e : Entry) × (next ≡ Some e) × (count ≡ count_of e)
reached count next read is = read-there None count next (ap is_none is)

-- with an entry left not all are replayed
none-past : {A : Type 0} (xs : List A) → slice_get xs (length xs) ≡ None
none-past [] = refl
none-past (x ∷ xs) = none-past xs

not-all : {A : Type 0} (xs : List A) (k : ℕ) (e : A) → slice_get xs k ≡ Some e → (k == length xs) ≡ false
not-all xs k e there = go (k == length xs) refl
  where
    go : (all : Bool) → (k == length xs) ≡ all → (k == length xs) ≡ false
    go true is =
        let past = none-past xs in
        let same = ap (slice_get xs) (eqb-true k (length xs) is) in
        absurd (cc)
    go false is = is

-- ---- what a drain leaves

abbrev live_if : {S : Type 0} → Bool → Node S → Node S
live_if all z = cond all (goes_live z) z

drained : {S : Type 0} (M : Machine S) (z : Node S) (turns made : ℕ) →
    after_drain z (replay_end M z turns made) ≡ live_if (z.replayed == length z.held) z
drained M z turns made = go (z.replayed == length z.held) (is_none (wanted M z)) (made == turns)
  where
    go : (all none same : Bool) →
        after_drain z (cond all end.End (cond none (cond same end.Turns end.Memory) end.Wait)) ≡ live_if all z
    go true none same = refl
    go false true true = refl
    go false true false = refl
    go false false same = refl

-- ---- steps in front of moves

module _ {S : Type 0} (M : Machine S) where
  -- moves, at least one if any was asked for
  record Caught (x z : Node S) : Type 0 where
    pub turns : ℕ
    pub made : ℕ
    pub moves : Replays M x turns z made
    pub some : (1 ≤ made) ⊎ (turns ≡ 0)

  -- up to the next entry
  caught : (x z : Node S) (s t : S) (e : Entry) → StepsTo M s t → slice_get x.held x.replayed ≡ Some e →
      M.count t ≤ count_of e → Caught (plainly_steps x t) z → Caught (plainly_steps x s) z
  caught x z s t e follows.Rests there below c = c
  caught x z s _ e (follows.Steps {t = t} {u = u} gives a allowed step counted) there below c =
      caught x z s t e a there (omega (arith, counted, below)) (record {
        turns = suc c.turns;
        made = suc c.made;
        moves = effect.OneStep e u gives there (omega (arith, counted, below)) step c.moves;
        some = inl (omega arith);
      })

  -- moves of a node that is ahead: none, or the law's with those steps in front of them
  data Way (x y z : Node S) : Type 0 where
    NoneMade : z ≡ y → Way x y z
    SomeMade : Caught x z → Way x y z

  way : (x : Node S) (s : S) (z : Node S) (turns made : ℕ) → StepsTo M x.machine s →
      Replays M (plainly_steps x s) turns z made → Way x (plainly_steps x s) z
  way x s z turns made ahead effect.NoTurns = NoneMade refl
  way x s z turns made ahead (effect.AtEnd a) = NoneMade refl
  way x s z turns made ahead (effect.AwaitsBytes a) = NoneMade refl
  way x s z turns made ahead (effect.NoMemory a) = NoneMade refl
  way x s z turns made ahead (effect.OneStep {turns = fewer} {made = less} e t gives there later step more) =
      SomeMade (caught x z x.machine s e ahead there (omega (arith, later)) (record {
        turns = suc fewer;
        made = suc less;
        moves = effect.OneStep e t gives there later step more;
        some = inl (omega arith);
      }))
  way x s z turns made ahead (effect.OneMark {turns = fewer} {made = less} e there here bare more) =
      SomeMade (caught x z x.machine s e ahead there (omega (arith, here)) (record {
        turns = suc fewer;
        made = suc less;
        moves = effect.OneMark e there here bare more;
        some = inl (omega arith);
      }))
  way x s z turns made ahead (effect.OneInput {turns = fewer} {made = less} e i t there here is take more) =
      SomeMade (caught x z x.machine s e ahead there (omega (arith, here)) (record {
        turns = suc fewer;
        made = suc less;
        moves = effect.OneInput e i t there here is take more;
        some = inl (omega arith);
      }))
  way x s z turns made ahead (effect.OneRead {turns = fewer} {made = less} drive sector number bytes t next are take more) =
      let e = reached (M.count s) (slice_get x.held x.replayed) (drive, sector, number) next in
      let here = e.2 in
      SomeMade (caught x z x.machine s e.0 ahead e.1 (omega (arith, here)) (record {
        turns = suc fewer;
        made = suc less;
        moves = effect.OneRead drive sector number bytes t next are take more;
        some = inl (omega arith);
      }))

-- ---- runs of the law's host

module _ {S : Type 0} (M : Machine S) (C : Copying S) (me : ℕ) where
  replays : (x z : Node S) → Passes x refusals.replay_refusal → Caught M x z → HostRan M C me x [] [] z
  replays x z p c = ran-more M C me x [] [] x z quiet (ran-nothing M C me x)
      (host.Replays c.turns c.made (replay_end M z c.turns c.made) z p
      (record { moves = c.moves; some = some c.some; ends = refl }))
    where
      some : (1 ≤ c.made) ⊎ (c.turns ≡ 0) → effect.MovesSome M x c.turns c.made
      some (inl made) = inl made
      some (inr none) = inr (inl none)

  drains : (x z : Node S) → Passes x refusals.drain_refusal → Caught M x z →
      HostRan M C me x [] [] (live_if (z.replayed == length z.held) z)
  drains x z p c = subst (HostRan M C me x [] []) (drained M z c.turns c.made)
      (ran-more M C me x [] [] x (after_drain z (replay_end M z c.turns c.made)) quiet (ran-nothing M C me x)
      (host.Drains c.turns c.made (replay_end M z c.turns c.made) (after_drain z (replay_end M z c.turns c.made)) p
      (record { z = z; replayed = record { moves = c.moves; some = some c.some; ends = refl }; after = refl })))
    where
      some : (1 ≤ c.made) ⊎ (c.turns ≡ 0) → effect.MovesSome M x c.turns c.made
      some (inl made) = inl made
      some (inr none) = inr (inl none)

  -- up to the count of the next entry
  catches-up : (x : Node S) (s : S) (e : Entry) → x.running ≡ true → Repeats x.role → StepsTo M x.machine s →
      slice_get x.held x.replayed ≡ Some e → M.count s ≤ count_of e → HostRan M C me x [] [] (plainly_steps x s)
  catches-up x s e up repeats ahead there below = by-role repeats
    where
      c : Caught M x (plainly_steps x s)
      c = caught M x (plainly_steps x s) x.machine s e ahead there below
          (record { turns = 0; made = 0; moves = effect.NoTurns; some = inr refl })

      by-role : Repeats x.role → HostRan M C me x [] [] (plainly_steps x s)
      by-role (inl backup) = replays x (plainly_steps x s) (rw backup (rw up refl)) c
      by-role (inr draining) =
          subst (λ all. HostRan M C me x [] [] (live_if all (plainly_steps x s)))
          (not-all x.held x.replayed e there) (drains x (plainly_steps x s) (rw draining (rw up refl)) c)

  -- once it is alone
  alone-passes : (x : Node S) (s : S) → x.running ≡ true → lockstep.step_refusal M s ≡ None →
      Passes (plainly_steps (goes_live x) s) (refusals.step_refusal M 1)
  alone-passes x s up allowed = rw up (by_machine (M.is_spent s) (is_none (M.step s)) ∙ allowed)

  one-alone : (x : Node S) (s t : S) (gives : Option Operation) → x.running ≡ true → lockstep.step_refusal M s ≡ None →
      M.step s ≡ Some (t, gives) → HostStep M C me (plainly_steps (goes_live x) s) quiet (plainly_steps (goes_live x) t)
  one-alone x s t None up allowed step =
      host.Steps 1 1 (M.count t) reason.Turns (plainly_steps (goes_live x) t) (alone-passes x s up allowed)
      (record { advances = effect.Goes t step effect.NoneLeft; some = inr (omega arith); counted = refl })
  one-alone x s t (Some o) up allowed step =
      host.Steps 1 1 (M.count t) (reason.Operation (id_of o)) (plainly_steps (goes_live x) t) (alone-passes x s up allowed)
      (record { advances = effect.Gives t o step; some = inr (omega arith); counted = refl })

  steps-alone : (x : Node S) (s t : S) → x.running ≡ true → StepsTo M s t →
      HostRan M C me (plainly_steps (goes_live x) s) [] [] (plainly_steps (goes_live x) t)
  steps-alone x s t up follows.Rests = ran-nothing M C me (plainly_steps (goes_live x) s)
  steps-alone x s _ up (follows.Steps {t = t} {u = u} gives a allowed step counted) =
      ran-more M C me (plainly_steps (goes_live x) s) [] [] (plainly_steps (goes_live x) t)
      (plainly_steps (goes_live x) u) quiet (steps-alone x s t up a) (one-alone x t u gives up allowed step)

  -- ---- each step

  -- the law's node makes the step too, and still lags
  lags-on : (x y z : Node S) (s : S) (act : Act) → Repeats y.role → StepsTo M y.machine s → HostStep M C me x act y →
      z ≡ plainly_steps y s → StepsToo M C me x act z
  lags-on x y z s act repeats ahead step is = record {
    next = y;
    ran = ran-more M C me x [] [] x y act (ran-nothing M C me x) step;
    follows = follows.IsAhead z (record { role = repeats; s = s; ahead = ahead; is = is });
  }

  -- it makes none
  waits : (x z : Node S) (s : S) → Repeats x.role → StepsTo M x.machine s → z ≡ plainly_steps x s → StepsToo M C me x quiet z
  waits x z s repeats ahead is = record {
    next = x;
    ran = ran-nothing M C me x;
    follows = follows.IsAhead z (record { role = repeats; s = s; ahead = ahead; is = is });
  }

  -- it lags no longer
  level : (x y z : Node S) → HostRan M C me x [] [] y → z ≡ y → StepsToo M C me x quiet z
  level x y z ran is = record { next = y; ran = ran; follows = subst (λ n. Follows M y n) (sym is) follows.Same }

  replays-too : (x z : Node S) (s : S) → Repeats x.role → StepsTo M x.machine s → Passes x refusals.replay_refusal →
      Way M x (plainly_steps x s) z → StepsToo M C me x quiet z
  replays-too x z s repeats ahead p (NoneMade is) = waits x z s repeats ahead is
  replays-too x z s repeats ahead p (SomeMade c) = level x z z (replays x z p c) refl

  drains-too : (x v z : Node S) (s : S) → Repeats x.role → StepsTo M x.machine s → Passes x refusals.drain_refusal →
      Way M x (plainly_steps x s) v → z ≡ live_if (v.replayed == length v.held) v → StepsToo M C me x quiet z
  drains-too x v z s repeats ahead p (SomeMade c) is =
      level x (live_if (v.replayed == length v.held) v) z (drains x v p c) is
  drains-too x v z s repeats ahead p (NoneMade same) is =
      by-all (x.replayed == length x.held) refl
      (subst (λ (n : Node S). z ≡ live_if (n.replayed == length n.held) n) same is)
    where
      up : x.running ≡ true
      up = (passed x (Draining ∷ []) [] (ap (λ o. first_of (o ∷ [])) (part-passed x refusals.drain_refusal p))).0

      goes : (x.replayed == length x.held) ≡ true → HostRan M C me x [] [] (goes_live x)
      goes all = subst (λ b. HostRan M C me x [] [] (live_if b x)) all
          (drains x x p (record { turns = 0; made = 0; moves = effect.NoTurns; some = inr refl }))

      by-all : (all : Bool) → (x.replayed == length x.held) ≡ all →
          z ≡ live_if (x.replayed == length x.held) (plainly_steps x s) → StepsToo M C me x quiet z
      by-all true all e =
          level x (plainly_steps (goes_live x) s) z
          (ran-both M C me x (goes_live x) (plainly_steps (goes_live x) s) [] [] [] [] (goes all)
          (steps-alone x x.machine s up ahead))
          (e ∙ ap (λ b. live_if b (plainly_steps x s)) all)
      by-all false all e = waits x z s repeats ahead (e ∙ ap (λ b. live_if b (plainly_steps x s)) all)

  -- it has come to the count of a read
  reads-too : (x z : Node S) (s : S) (act : Act) (rest : List (Option Fault)) → Repeats x.role → StepsTo M x.machine s →
      first_of (role_refusal (Backup ∷ Draining ∷ []) x ∷ rest) ≡ None → is_none (wanted M (plainly_steps x s)) ≡ false →
      HostStep M C me (plainly_steps x s) act z → StepsToo M C me x act z
  reads-too x z s act rest repeats ahead p some step =
      let e = read-there x.fetched (M.count s) (slice_get x.held x.replayed) some in
      let here = e.2 in
      let up = (passed x (Backup ∷ Draining ∷ []) rest p).0 in
      let to = catches-up x s e.0 up repeats ahead e.1 (omega (arith, here)) in
      record { next = z; ran = ran-more M C me x [] [] (plainly_steps x s) z act to step; follows = follows.Same }

  -- nobody who repeats entries makes these
  none-serves : (x : Node S) (rest : List (Option Fault)) → Repeats x.role → first_of (refusals.serves x ∷ rest) ≡ None → ⊥
  none-serves x rest repeats h = not-serving x.role repeats (passed x (Primary ∷ Alone ∷ []) rest h).1

  none-steps : (x : Node S) (turns : ℕ) → Repeats x.role → refusals.step_refusal M turns x ≡ None → ⊥
  none-steps x zero repeats h = none-serves x [] repeats (ap (λ o. first_of (o ∷ [])) h)
  none-steps x (suc turns) repeats h = none-serves x _ repeats h

  none-is : (x : Node S) (q : Role) (rest : List (Option Fault)) → Repeats x.role → (Repeats q → ⊥) →
      first_of (role_refusal (q ∷ []) x ∷ rest) ≡ None → ⊥
  none-is x q rest repeats other h = not-one x.role q repeats other (passed x (q ∷ []) rest h).1

  wanted-some : (address : SectorAddress) (number : ℕ) (x : Node S) (read : Option (ℕ × ℕ × ℕ)) →
      first_of (refusals.unwanted M x address number read ∷ []) ≡ None → is_none read ≡ false
  wanted-some address number x None h = absurd (cc)
  wanted-some address number x (Some read) h = refl

  holds-too : (x z : Node S) (s : S) (generation index : ℕ) (e : Entry) (next : Bool) → Repeats x.role →
      StepsTo M x.machine s → Passes x (refusals.deliver_log_refusal generation) →
      effect.Held index e next (plainly_steps x s) z →
      StepsToo M C me x (taking (Carries (LogEntry generation index e))) z
  holds-too x z s generation index e true repeats ahead p q =
      lags-on x (holds x e) z s _ repeats ahead (host.TakesEntry generation index e true (holds x e) p (q.0, refl)) q.1
  holds-too x z s generation index e false repeats ahead p q =
      lags-on x x z s _ repeats ahead (host.TakesEntry generation index e false x p (q.0, refl)) q.1

  wins-still : (x : Node S) → Repeats x.role → Repeats (won_role x.role)
  wins-still x (inl backup) = inr (ap won_role backup)
  wins-still x (inr draining) = inr (ap won_role draining)

  pub steps-lag : (x z : Node S) (s : S) (act : Act) → Repeats x.role → StepsTo M x.machine s →
      HostStep M C me (plainly_steps x s) act z → StepsToo M C me x act z
  steps-lag x z s act repeats ahead (host.Steps turns made count why u p q) =
      absurd (none-steps (plainly_steps x s) turns repeats (part-passed (plainly_steps x s) (refusals.step_refusal M turns) p))
  steps-lag x z s act repeats ahead (host.Replays turns made why u p q) =
      replays-too x z s repeats ahead p (way M x s z turns made ahead q.moves)
  steps-lag x z s act repeats ahead (host.Drains turns made why u p q) =
      drains-too x q.z z s repeats ahead p (way M x s q.z turns made ahead q.replayed.moves)
      (q.after ∙ ap (after_drain q.z) q.replayed.ends ∙ drained M q.z turns made)
  steps-lag x z s act repeats ahead (host.Freshens p) =
      absurd (none-is (plainly_steps x s) Alone [] repeats no-alone
      (ap (λ o. first_of (o ∷ [])) (part-passed (plainly_steps x s) refusals.freshen_refusal p)))
  steps-lag x z s act repeats ahead (host.Stops u p q) =
      lags-on x (halts x) z s quiet repeats ahead (host.Stops (halts x) p refl) q
  steps-lag x z s act repeats ahead (host.TakesKey port index byte u p q) =
      absurd (none-serves (plainly_steps x s) _ repeats
      (part-passed (plainly_steps x s) (refusals.take_key_refusal M port index) p))
  steps-lag x z s act repeats ahead (host.TakesAcceptance port number count u p a b q) =
      absurd (none-serves (plainly_steps x s) _ repeats
      (part-passed (plainly_steps x s) (refusals.tell_sent_refusal M port number) p))
  steps-lag x z s act repeats ahead (host.TakesDone number u p q) =
      absurd (none-serves (plainly_steps x s) _ repeats
      (part-passed (plainly_steps x s) (refusals.put_reply_refusal M number) p))
  steps-lag x z s act repeats ahead (host.TakesSector address number bytes u p q) =
      absurd (none-serves (plainly_steps x s) _ repeats
      (part-passed (plainly_steps x s) (refusals.get_reply_refusal M address number bytes) p))
  steps-lag x z s act repeats ahead (host.TakesRead address number bytes u p q) =
      let y = plainly_steps x s in
      let h = part-passed y (refusals.fetched_refusal M address number) p in
      reads-too x z s act _ repeats ahead h
      (wanted-some address number y (wanted M y) (first-passed (role_refusal (Backup ∷ Draining ∷ []) y) _ h).1)
      (host.TakesRead address number bytes u p q)
  steps-lag x z s act repeats ahead (host.AsksUnder sector address p q) =
      absurd (none-serves (plainly_steps x s) _ repeats (part-passed (plainly_steps x s) (refusals.get_refusal M) p))
  steps-lag x z s act repeats ahead (host.AsksWanted address p q) =
      let y = plainly_steps x s in
      let h = part-passed y (refusals.fetch_refusal M) p in
      reads-too x z s act _ repeats ahead h
      (not-stands (is_none (wanted M y)) NotDue
      (only-passed (fault_if (is_none (wanted M y)) NotDue)
      (first-passed (role_refusal (Backup ∷ Draining ∷ []) y) _ h).1))
      (host.AsksWanted address p q)
  steps-lag x z s act repeats ahead (host.SendsEntry index e p q) =
      let y = plainly_steps x s in
      absurd (not-one y.role Primary repeats no-primary
      (sends y _ Unknown (part-passed y (refusals.send_refusal index) p)))
  steps-lag x z s act repeats ahead (host.TakesEntry generation index e next u p q) =
      holds-too x z s generation index e next repeats ahead p q
  steps-lag x z s act repeats ahead (host.Acknowledges held replayed p q) =
      lags-on x x z s _ repeats ahead (host.Acknowledges held replayed p q) refl
  steps-lag x z s act repeats ahead (host.TakesAcknowledgement generation held replayed covered u p q) =
      absurd (none-is (plainly_steps x s) Primary _ repeats no-primary
      (part-passed (plainly_steps x s) (refusals.deliver_acknowledgement_refusal generation held) p))
  steps-lag x z s act repeats ahead (host.Releases name o port p q) =
      absurd (none-serves (plainly_steps x s) _ repeats (part-passed (plainly_steps x s) (refusals.release_refusal M name) p))
  steps-lag x z s act repeats ahead (host.Tells port keys within p q) =
      absurd (none-serves (plainly_steps x s) [] repeats
      (ap (λ o. first_of (o ∷ [])) (part-passed (plainly_steps x s) refusals.told_refusal p)))
  steps-lag x z s act repeats ahead (host.Asks p) =
      lags-on x x z s _ repeats ahead (host.Asks p) refl
  steps-lag x z s act repeats ahead (host.Wins p role) =
      lags-on x (wins x) z s _ (wins-still x repeats) ahead (host.Wins p role) refl
  steps-lag x z s act repeats ahead (host.Loses u p q) =
      lags-on x (halts x) z s _ repeats ahead (host.Loses (halts x) p refl) q
  steps-lag x z s act repeats ahead (host.BeginsPair p) =
      absurd (none-is (plainly_steps x s) Alone _ repeats no-alone
      (part-passed (plainly_steps x s) refusals.begin_pair_refusal p))
  steps-lag x z s act repeats ahead (host.Joins count reads list spare) = absurd (no-spare (subst Repeats spare repeats))
  steps-lag x z s act repeats ahead (host.SendsPart index part p q) =
      let y = plainly_steps x s in
      absurd (not-one y.role Primary repeats no-primary
      (sends y _ Unknown (part-passed y (refusals.send_part_refusal C index) p)))
  steps-lag x z s act repeats ahead (host.TakesPart generation index part r u p q) =
      absurd (none-is (plainly_steps x s) Joining _ repeats no-joining
      (part-passed (plainly_steps x s) (refusals.part_comes_refusal generation) p))
  steps-lag x z s act repeats ahead (host.Drops frame) = lags-on x x z s _ repeats ahead (host.Drops frame) refl
  steps-lag x z s act repeats ahead (host.Strays a alone stray) = absurd (no-alone (subst Repeats alone repeats))

-- ---- running ahead

quietly : {S : Type 0} (M : Machine S) → Counts M → (s t u : S) (n : ℕ) → StepsTo M s t → Quiet M t n u → StepsTo M s u
quietly M counts s t u n a running.Begin = a
quietly M counts s t u n a (running.More {n = m} {t = v} q allowed step) =
    follows.Steps None (quietly M counts s t v m a q) allowed step (counts.by_step v u None step)

runs : {S : Type 0} (M : Machine S) → Counts M → (s t u : S) (turns : ℕ) (stopped : Stopped) → StepsTo M s t →
    RunsOn M t turns stopped u → StepsTo M s u
runs M counts s t u turns stopped a (running.AllTurns q) = quietly M counts s t u turns a q
runs M counts s t u turns stopped a (running.Gives {n = n} {t = v} {given = o} fewer q allowed step) =
    follows.Steps (Some o) (quietly M counts s t v n a q) allowed step (counts.by_step v u (Some o) step)
runs M counts s t u turns stopped a (running.IsRefused {n = n} fewer q) = quietly M counts s t u n a q

-- a backup's machine runs by itself
pub runs-ahead : {S : Type 0} (M : Machine S) → Counts M → (x y z : Node S) (turns : ℕ) (stopped : Stopped) → Follows M x y →
    role_refusal (Backup ∷ []) y ≡ None → RanAhead M turns stopped y z → Follows M x z
runs-ahead M counts x y z turns stopped follows.Same p r =
    let a = passed x (Backup ∷ []) [] (ap (λ o. first_of (o ∷ [])) p) in
    follows.IsAhead z (record {
      role = inl (is-one a.1);
      s = r.s;
      ahead = runs M counts x.machine x.machine r.s turns stopped follows.Rests r.runs;
      is = r.after;
    })
  where
    is-one : {r : Role} → Among r (Backup ∷ []) → r ≡ Backup
    is-one (inl e) = e
    is-one (inr none) = absurd none
runs-ahead M counts x y z turns stopped (follows.IsAhead u l) p r =
    follows.IsAhead z (record {
      role = l.role;
      s = r.s;
      ahead = runs M counts x.machine l.s r.s turns stopped l.ahead
          (subst (λ (n : Node _). RunsOn M n.machine turns stopped r.s) l.is r.runs);
      is = r.after ∙ ap (λ (n : Node _). plainly_steps n r.s) l.is;
    })
runs-ahead M counts x y z turns stopped (follows.IsStray u alone stray) p r = follows.IsStray z alone stray
