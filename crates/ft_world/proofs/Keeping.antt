-- What moves of a node keep: its role, its generation, and the lists and the count that it began with. So what it
-- settles changes only with its machine and its own inputs.
use Rattle.std.proofs.Common.{◌≡◌, ◌∙◌, [], ◌∷◌, ◌++◌, ℕ, Bool, List, true, false, None, Option, Some, ap, inl, inr, refl, subst, sym}
use Rattle.ft_world.proofs.Words.{Advances, Alone, AtEnd, AwaitsBytes, Backup, Drained, Draining, Ends, Entry, Fetched, Goes, Halted, Heard, Held, Input, Joining, Machine, NoMemory, NoTurns, Node, NoneLeft, OneInput, OneMark, OneRead, OneStep, Operation, Primary, Replays, Role, Serving, Short, Spare, Took, Waits, World, acts-in, after_drain, count_in, inputs_of, is_backup, last_count, list_of, passes_input, passes_mark, passes_read, plainly_steps, role_refusal, serves, serving, stepped, took}
use Rattle.guest_lockstep.specs.declared.replay_end.ReplayEnd.{ReplayEnd}
use Rattle.guest_lockstep.specs.declared.replay_end.ReplayEnd.TheVariants.{Turns, End, Wait, Memory}
use Rattle.guest_lockstep.specs.declared.running.StopReason.{StopReason}
use Rattle.pair_protocol.specs.Effects.{Gives}

-- a node that keeps its role, its generation, and the lists and the count that it began with
pub record Kept {S : Type 0} (x y : Node S) : Type 0 where
  pub role : y.role ≡ x.role
  pub generation : y.generation ≡ x.generation
  pub list : y.list ≡ x.list
  pub copy : y.copy ≡ x.copy
  pub start : y.start ≡ x.start
  pub held : y.held ≡ x.held

pub kept_here : {S : Type 0} (x : Node S) → Kept x x
kept_here x = record { role = refl; generation = refl; list = refl; copy = refl; start = refl; held = refl }

pub kept_then : {S : Type 0} (x y z : Node S) → Kept x y → Kept y z → Kept x z
kept_then x y z a b = record {
  role = b.role ∙ a.role;
  generation = b.generation ∙ a.generation;
  list = b.list ∙ a.list;
  copy = b.copy ∙ a.copy;
  start = b.start ∙ a.start;
  held = b.held ∙ a.held;
}

pub stepped_keeps : {S : Type 0} (M : Machine S) (x : Node S) (q : Role) (s : S) (o : Option Operation)
    → Kept x (stepped M x q s o)
stepped_keeps M x Primary s o =
    record { role = refl; generation = refl; list = refl; copy = refl; start = refl; held = refl }
stepped_keeps M x Alone s o =
    record { role = refl; generation = refl; list = refl; copy = refl; start = refl; held = refl }
stepped_keeps M x Backup s o = kept_here x
stepped_keeps M x Joining s o = kept_here x
stepped_keeps M x Draining s o = kept_here x
stepped_keeps M x Spare s o = kept_here x

pub advances_keep : {S : Type 0} (M : Machine S) {x y : Node S} {k made : ℕ} {why : StopReason} → Advances M x k y made why
    → Kept x y
advances_keep M (NoneLeft {x = x}) = kept_here x
advances_keep M (Ends {x = x} q) = kept_here x
advances_keep M (Waits {x = x} p q) = kept_here x
advances_keep M (Short {x = x} unspent goes) = kept_here x
advances_keep M (Gives {x = x} s o q) = stepped_keeps M x x.role s (Some o)
advances_keep M (Goes {x = x} {y = y} s q rest) =
    kept_then x (stepped M x x.role s None) y (stepped_keeps M x x.role s None) (advances_keep M rest)

pub replays_keep : {S : Type 0} (M : Machine S) {x y : Node S} {k made : ℕ} → Replays M x k y made → Kept x y
replays_keep M (NoTurns {x = x}) = kept_here x
replays_keep M (AtEnd {x = x} q) = kept_here x
replays_keep M (AwaitsBytes {x = x} waits) = kept_here x
replays_keep M (NoMemory {x = x} behind) = kept_here x
replays_keep M (OneStep {x = x} {y = y} e s gives g c q rest) =
    kept_then x (plainly_steps x s) y
    (record { role = refl; generation = refl; list = refl; copy = refl; start = refl; held = refl })
    (replays_keep M rest)
replays_keep M (OneMark {x = x} {y = y} e g c q rest) =
    kept_then x (passes_mark x) y
    (record { role = refl; generation = refl; list = refl; copy = refl; start = refl; held = refl })
    (replays_keep M rest)
replays_keep M (OneInput {x = x} {y = y} e i s g c q v rest) =
    kept_then x (passes_input x s) y
    (record { role = refl; generation = refl; list = refl; copy = refl; start = refl; held = refl })
    (replays_keep M rest)
replays_keep M (OneRead {x = x} {y = y} drive sector number bytes s g come v rest) =
    kept_then x (passes_read x s) y
    (record { role = refl; generation = refl; list = refl; copy = refl; start = refl; held = refl })
    (replays_keep M rest)

pub fetched_kept : {S : Type 0} (x y : Node S) (bytes : List ℕ) → Fetched bytes x y → Kept x y
fetched_kept x y bytes h = subst (Kept x) (sym h)
    (record { role = refl; generation = refl; list = refl; copy = refl; start = refl; held = refl })

pub heard_kept : {S : Type 0} (x y : Node S) (held replayed covered : ℕ) → Heard held replayed covered x y → Kept x y
heard_kept x y held replayed covered h = subst (Kept x) (sym h.1)
    (record { role = refl; generation = refl; list = refl; copy = refl; start = refl; held = refl })

pub halted_kept : {S : Type 0} (x y : Node S) → Halted x y → Kept x y
halted_kept x y h = subst (Kept x) (sym h)
    (record { role = refl; generation = refl; list = refl; copy = refl; start = refl; held = refl })

-- ---- its generation and its role

-- a node keeps its generation, and is a backup exactly if it was one before
pub record Stays {S : Type 0} (x y : Node S) : Type 0 where
  pub generation : y.generation ≡ x.generation
  pub backup : is_backup y.role ≡ is_backup x.role

pub kept_stays : {S : Type 0} {x y : Node S} → Kept x y → Stays x y
kept_stays k = record { generation = k.generation; backup = ap is_backup k.role }

pub took_stays : {S : Type 0} {M : Machine S} {i : Input} {x y : Node S} → Took M i x y → Stays x y
took_stays {M = M} {i = i} {x = x} t = subst (Stays x) (sym t.after) (go x.role)
  where
    go : (q : Role) → Stays x (took M x q t.s i)
    go Primary = record { generation = refl; backup = refl }
    go Alone = record { generation = refl; backup = refl }
    go Backup = record { generation = refl; backup = refl }
    go Joining = record { generation = refl; backup = refl }
    go Draining = record { generation = refl; backup = refl }
    go Spare = record { generation = refl; backup = refl }

pub held_stays : {S : Type 0} (index : ℕ) (e : Entry) (next : Bool) (x y : Node S) → Held index e next x y → Stays x y
held_stays index e true x y h = subst (Stays x) (sym h.1) (record { generation = refl; backup = refl })
held_stays index e false x y h = subst (Stays x) (sym h.1) (record { generation = refl; backup = refl })

pub drained_generation : {S : Type 0} {M : Machine S} {turns made : ℕ} {why : ReplayEnd} {x y : Node S}
    → Drained M turns made why x y → y.generation ≡ x.generation
drained_generation {S} {M = M} {why = why} d =
    ap (λ (z : Node S). z.generation) d.after ∙ go why ∙ (replays_keep M d.replayed.moves).generation
  where
    go : (why : ReplayEnd) → (after_drain d.z why).generation ≡ d.z.generation
    go Turns = refl
    go End = refl
    go Wait = refl
    go Memory = refl

-- a drained node is alone, and was no backup before
pub drained_stays : {S : Type 0} {M : Machine S} {turns made : ℕ} {why : ReplayEnd} {x y : Node S} → x.role ≡ Draining
    → Drained M turns made why x y → Stays x y
drained_stays {S} {M = M} {why = why} role d = record {
  generation = drained_generation d;
  backup = ap (λ (z : Node S). is_backup z.role) d.after ∙ go why ∙ sym (ap is_backup role);
}
  where
    still : is_backup d.z.role ≡ false
    still = ap is_backup ((replays_keep M d.replayed.moves).role ∙ role)

    go : (why : ReplayEnd) → is_backup (after_drain d.z why).role ≡ false
    go Turns = still
    go End = refl
    go Wait = still
    go Memory = still

-- ---- what it settles

pub held_inputs : {S : Type 0} (x y : Node S) → Kept x y → y.copy ++ inputs_of y.held ≡ x.copy ++ inputs_of x.held
held_inputs x y k = ap (λ c. c ++ inputs_of y.held) k.copy ∙ ap (λ h. x.copy ++ inputs_of h) k.held

pub held_count : {S : Type 0} (x y : Node S) → Kept x y → last_count y.start y.held ≡ last_count x.start x.held
held_count x y k = ap (λ c. last_count c y.held) k.start ∙ ap (λ h. last_count x.start h) k.held

pub same_list : {S : Type 0} (x y : Node S) (q : Role) → Kept x y → list_of y q ≡ list_of x q
same_list x y Primary k = k.list
same_list x y Alone k = k.list
same_list x y Backup k = held_inputs x y k
same_list x y Draining k = held_inputs x y k
same_list x y Joining k = held_inputs x y k
same_list x y Spare k = refl

pub same_count : {S : Type 0} (M : Machine S) (x y : Node S) (q : Role) → Kept x y → y.machine ≡ x.machine
    → count_in M y q ≡ count_in M x q
same_count M x y Primary k e = ap M.count e
same_count M x y Alone k e = ap M.count e
same_count M x y Backup k e = held_count x y k
same_count M x y Draining k e = held_count x y k
same_count M x y Joining k e = held_count x y k
same_count M x y Spare k e = refl

-- ---- the role of a node that does not refuse a call

abbrev only : {S : Type 0} → Node S → World S
only x = record { nodes = x ∷ []; messages = []; terminals = []; winners = []; puts = [] }

pub serving_role : {S : Type 0} (x : Node S) → serves x ≡ None → Serving x.role
serving_role x h = let a = serving (only x) 0 x refl h in subst (λ q. Serving q) (sym a.1.role_is) a.2

pub acting_role : {S : Type 0} (x : Node S) (q : Role) → role_refusal (q ∷ []) x ≡ None → x.role ≡ q
acting_role x q h = (acts-in (only x) 0 x q refl h).role_is

pub machine_count : {S : Type 0} (M : Machine S) (x : Node S) → Serving x.role
    → count_in M x x.role ≡ M.count x.machine
machine_count M x (inl e) = ap (count_in M x) e
machine_count M x (inr e) = ap (count_in M x) e

pub own_inputs : {S : Type 0} (x : Node S) → Serving x.role → list_of x x.role ≡ x.list
own_inputs x (inl e) = ap (list_of x) e
own_inputs x (inr e) = ap (list_of x) e
