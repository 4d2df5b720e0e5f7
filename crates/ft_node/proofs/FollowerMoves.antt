-- How a follower moves. A replayer makes its moves one after another over the entries that are held, while the protocol
-- counts from the first entry and knows only how many were replayed; those held are the ones after them. So the moves
-- of a replayer come before whatever ends them.
use Rattle.std.proofs.Common.{◌≡◌, ℕ, zero, suc, ◌+◌, ◌-◌, ◌≤◌, inl, inr, Bool, true, false, cond, Option, Some, None, List, [], ◌∷◌, length, drop, Result, Ok, Err, refl, sym, ap, subst, ◌∙◌, arith, length-drop}
use Rattle.std.specs.Prelude.{is_none, slice_get, ◌==◌}
use Rattle.std.proofs.lemmas.Bool.{eq-eqb, eqb-true}
use Rattle.ft_node.proofs.Words.{AtEnd, AwaitsBytes, Backup, Entry, Fault, IsBehind, IsFollower, Machine, MovesSome, NeedsMoves, NoMemory, NoTurns, Node, OneInput, OneMark, OneRead, OneStep, Reads, Receiving, Replays, Role, is_role}
use Rattle.guest_lockstep.specs.declared.replay_end.ReplayEnd.{ReplayEnd}
use Rattle.guest_lockstep.specs.declared.replay_end.ReplayEnd.TheVariants.{Turns, End, Wait, Memory}
use Rattle.log_entry.specs.declared.entry.Entry.TheVariants as entry
use Rattle.log_entry.specs.Entries.{read_at, wanted_of}
use Rattle.pair_protocol.specs.Refusals as refusals
use Rattle.pair_protocol.specs.Effects as effect
use Rattle.replayer.specs.Replaying as replaying
use Rattle.replayer.specs.declared.replayer.Replayed.{Replayed}
use Rattle.ft_node.specs.Calls as calls

-- a follower with this machine, which has replayed this many entries, and with these bytes for its next one
abbrev pub at : {S : Type 0} → Node S → S → ℕ → Option (List ℕ) → Node S
at x s k come = record x { machine = s; replayed = k; fetched = come }

-- ---- what is left

first_left : {A : Type 0} (xs ys : List A) (y : A) (k : ℕ) → drop k xs ≡ y ∷ ys
    → (slice_get xs k ≡ Some y) × (drop (suc k) xs ≡ ys) × (suc k ≤ length xs)
first_left [] ys y zero e = absurd cc
first_left [] ys y (suc k) e = absurd cc
first_left (x ∷ xs) ys y zero e = (cc, cc, omega arith)
first_left (x ∷ xs) ys y (suc k) e = let h = first_left xs ys y k e in (h.0, h.1, omega (arith, h.2))

nothing_left : {A : Type 0} (xs : List A) (k : ℕ) → k ≤ length xs → drop k xs ≡ [] → k ≡ length xs
nothing_left xs k within e =
    let none : length (drop k xs) ≡ 0 = ap length e in
    let some : length (drop k xs) ≡ length xs - k = length-drop k xs in
    omega arith

-- what is first among those left is the next one
pub next_left : {A : Type 0} (xs : List A) (k : ℕ) → slice_get (drop k xs) 0 ≡ slice_get xs k
next_left [] zero = refl
next_left [] (suc k) = refl
next_left (x ∷ xs) zero = refl
next_left (x ∷ xs) (suc k) = next_left xs k

-- nothing is left exactly when all are replayed
none_left : {A : Type 0} (xs left : List A) (now : ℕ) → drop now xs ≡ left → now ≤ length xs
    → (length left == 0) ≡ (now == length xs)
none_left xs left now e within = go (length left == 0) (now == length xs) refl refl
  where
    many : length left ≡ length xs - now
    many = ap length (sym e) ∙ length-drop now xs

    go : (none all : Bool) → (length left == 0) ≡ none → (now == length xs) ≡ all → none ≡ all
    go true true is is_all = refl
    go false false is is_all = refl
    go true false is is_all =
        let zero_left : length left ≡ 0 = eqb-true (length left) 0 is in
        let m = many in
        let at_all : now ≡ length xs = omega arith in
        let yes = eq-eqb now (length xs) at_all in
        absurd cc
    go false true is is_all =
        let at_all : now ≡ length xs = eqb-true now (length xs) is_all in
        let m = many in
        let zero_left : length left ≡ 0 = omega arith in
        let yes = eq-eqb (length left) 0 zero_left in
        absurd cc

-- ---- reads

-- the read that a replayer waits for is the one that its node waits for
pub wanted_is : {S : Type 0} (M : Machine S) (x : Node S) (t : S) (now : ℕ) (left : List Entry)
    (come : Option (List ℕ)) → drop now x.held ≡ left
    → replaying.wanted M t left come ≡ effect.wanted M (at x t now come)
wanted_is M x t now left come e =
    ap (λ next. wanted_of come (read_at (M.count t) next)) (ap (λ es. slice_get es 0) (sym e) ∙ next_left x.held now)

read_now : (now count drive sector number : ℕ) (next : Option Entry) → next ≡ Some (entry.Read count drive sector number)
    → now ≡ count → read_at now next ≡ Some (drive, sector, number)
read_now now count drive sector number next is here =
    ap (read_at now) is ∙ ap (λ b. cond b (Some (drive, sector, number)) None) (eq-eqb now count here)

-- ---- moves, before others

counted : {S : Type 0} (M : Machine S) (x y : Node S) (turns more made less : ℕ) → turns ≡ more → made ≡ less
    → Replays M x turns y made → Replays M x more y less
counted M x y turns more made less same_turns same_made r =
    subst (λ turns. Replays M x turns y less) same_turns (subst (λ made. Replays M x turns y made) same_made r)

-- this many moves lead to this machine, with these entries and bytes left, and others may follow
record Reached {S : Type 0} (M : Machine S) (x : Node S) (s : S) (k : ℕ) (come : Option (List ℕ)) (n : ℕ) (t : S)
    (left : List Entry) (still : Option (List ℕ)) : Type 0 where
  now : ℕ
  left_are : drop now x.held ≡ left
  within : now ≤ length x.held
  before : (turns made : ℕ) (y : Node S) → Replays M (at x t now still) turns y made
      → Replays M (at x s k come) (n + turns) y (n + made)

moved : {S : Type 0} (M : Machine S) (x : Node S) (s v t : S) (k n : ℕ) (come there still : Option (List ℕ))
    (now left : List Entry) → Reached M x s k come n v now there → replaying.Moves M v now there t left still
    → Reached M x s k come (suc n) t left still
moved M x s v t k n come there still now left r (replaying.Steps {gives = gives} {e = e} {es = es} held_are later made) =
    let first = first_left x.held es e r.now (r.left_are ∙ held_are) in
    record {
      now = r.now;
      left_are = r.left_are;
      within = r.within;
      before = λ turns made' y h.
          counted M (at x s k come) y (n + suc turns) (suc n + turns) (n + suc made') (suc n + made') (omega arith)
          (omega arith) (r.before (suc turns) (suc made') y (OneStep e t gives first.0 later made h));
    }
moved M x s v t k n come there still now left r (replaying.Passes {e = e} held_are here bare) =
    let first = first_left x.held left e r.now (r.left_are ∙ held_are) in
    record {
      now = suc r.now;
      left_are = first.1;
      within = first.2;
      before = λ turns made' y h.
          counted M (at x s k come) y (n + suc turns) (suc n + turns) (n + suc made') (suc n + made') (omega arith)
          (omega arith) (r.before (suc turns) (suc made') y (OneMark e first.0 here bare h));
    }
moved M x s v t k n come there still now left r (replaying.TakesInput {e = e} {input = input} held_are here has accepts) =
    let first = first_left x.held left e r.now (r.left_are ∙ held_are) in
    record {
      now = suc r.now;
      left_are = first.1;
      within = first.2;
      before = λ turns made' y h.
          counted M (at x s k come) y (n + suc turns) (suc n + turns) (n + suc made') (suc n + made') (omega arith)
          (omega arith) (r.before (suc turns) (suc made') y (OneInput e input t first.0 here has accepts.taken h));
    }
moved M x s v t k n come there still now left r
    (replaying.ReadsSector {count = count} {drive = drive} {sector = sector} {number = number} {bytes = bytes} held_are here
    are accepts) =
    let first = first_left x.held left (entry.Read count drive sector number) r.now (r.left_are ∙ held_are) in
    let next = read_now (M.count v) count drive sector number (slice_get x.held r.now) first.0 here in
    record {
      now = suc r.now;
      left_are = first.1;
      within = first.2;
      before = λ turns made' y h.
          counted M (at x s k come) y (n + suc turns) (suc n + turns) (n + suc made') (suc n + made') (omega arith)
          (omega arith)
          (r.before (suc turns) (suc made') y (OneRead drive sector number bytes t next are accepts.taken h));
    }

reached : {S : Type 0} (M : Machine S) (x : Node S) (s : S) (k : ℕ) (come : Option (List ℕ)) (held : List Entry)
    (n : ℕ) (t : S) (left : List Entry) (still : Option (List ℕ)) → drop k x.held ≡ held → k ≤ length x.held
    → replaying.Replays M s held come n t left still → Reached M x s k come n t left still
reached M x s k come held n t left still e within replaying.NoMoves = record {
  now = k;
  left_are = e;
  within = within;
  before = λ turns made y h.
      counted M (at x s k come) y turns (0 + turns) made (0 + made) (omega arith) (omega arith) h;
}
reached M x s k come held n t left still e within (replaying.Then {n = m} {t = v} {now = now} {come = there} before one) =
    moved M x s v t k m come there still now left (reached M x s k come held m v now there e within before) one

-- ---- the ends

-- it is behind if the replayer is
behind : {S : Type 0} (M : Machine S) (x : Node S) (s : S) (left : List Entry) → x.machine ≡ s
    → drop x.replayed x.held ≡ left → replaying.IsBehind M s left → IsBehind M x
behind M x s left same e b = record {
  next = b.first;
  held = (first_left x.held b.rest b.first x.replayed (e ∙ b.held_are)).0;
  later = rw same b.later;
}

ended : {S : Type 0} (M : Machine S) (x : Node S) (t : S) (turns n now : ℕ) (left : List Entry)
    (still : Option (List ℕ)) → drop now x.held ≡ left → now ≤ length x.held
    → replaying.Ends M turns n t left still
    → (rest : ℕ) × (n + rest ≡ turns) × Replays M (at x t now still) rest (at x t now still) 0
ended M x t turns n now left still e within replaying.AllTurns = (0, omega arith, NoTurns)
ended M x t turns n now left still e within (replaying.AtEnd lt) =
    (suc (turns - suc n), omega arith, AtEnd (nothing_left x.held now within e))
ended M x t turns n now left still e within (replaying.Waits lt waits) = (
  suc (turns - suc n),
  omega arith,
  AwaitsBytes (ap (λ w. is_none w) (sym (wanted_is M x t now left still e)) ∙ waits),
)
ended M x t turns n now left still e within (replaying.NeedsMemory some lt late) =
    (suc (turns - suc n), omega arith, NoMemory (behind M (at x t now still) t left refl e late))

none_made : {S : Type 0} (M : Machine S) (s : S) (held : List Entry) (come : Option (List ℕ)) (n : ℕ) (t : S)
    (left : List Entry) (still : Option (List ℕ)) → n ≡ 0 → replaying.Replays M s held come n t left still
    → (t ≡ s) × (left ≡ held) × (still ≡ come)
none_made M s held come n t left still e replaying.NoMoves = (refl, refl, refl)
none_made M s held come n t left still e (replaying.Then before one) = absurd (omega arith)

-- a follower's own read, if its machine and its bytes are these
still_waits : {S : Type 0} (M : Machine S) (x : Node S) (s t : S) (left : List Entry) (come still : Option (List ℕ))
    → x.machine ≡ s → x.fetched ≡ come
    → (t ≡ s) × (left ≡ drop x.replayed x.held) × (still ≡ come)
    → is_none (replaying.wanted M t left still) ≡ false → is_none (effect.wanted M x) ≡ false
still_waits M x s t left come still machine bytes same waits =
    ap (λ w. is_none w)
    (sym (wanted_is M x x.machine x.replayed left x.fetched (sym same.1))
    ∙ ap (λ s. replaying.wanted M s left x.fetched) (machine ∙ sym same.0)
    ∙ ap (replaying.wanted M t left) (bytes ∙ sym same.2))
    ∙ waits

moves_some : {S : Type 0} (M : Machine S) (x : Node S) (s t : S) (turns n : ℕ) (left : List Entry)
    (come still : Option (List ℕ)) → x.machine ≡ s → x.fetched ≡ come → x.replayed ≤ length x.held
    → (n ≡ 0 → (t ≡ s) × (left ≡ drop x.replayed x.held) × (still ≡ come))
    → replaying.Ends M turns n t left still → MovesSome M x turns n
moves_some M x s t turns n left come still machine bytes within same (replaying.NeedsMemory some lt behind) = inl some
moves_some M x s t zero n left come still machine bytes within same replaying.AllTurns = inr (inl refl)
moves_some M x s t (suc turns) n left come still machine bytes within same replaying.AllTurns = inl (omega arith)
moves_some M x s t turns zero left come still machine bytes within same (replaying.AtEnd lt) =
    inr (inr (inl (nothing_left x.held x.replayed within (sym (same refl).1))))
moves_some M x s t turns (suc n) left come still machine bytes within same (replaying.AtEnd lt) = inl (omega arith)
moves_some M x s t turns zero left come still machine bytes within same (replaying.Waits lt waits) =
    inr (inr (inr (still_waits M x s t left come still machine bytes (same refl) waits)))
moves_some M x s t turns (suc n) left come still machine bytes within same (replaying.Waits lt waits) =
    inl (omega arith)

-- why a replayer made no more moves is why its node made no more
same_end : {S : Type 0} (M : Machine S) (x : Node S) (t : S) (now : ℕ) (left : List Entry) (still : Option (List ℕ))
    (turns made : ℕ) → drop now x.held ≡ left → now ≤ length x.held
    → replaying.replay_end M t left still turns made ≡ effect.replay_end M (at x t now still) turns made
same_end M x t now left still turns made e within =
    ap (λ b. cond b End (replay_end_of (is_none (replaying.wanted M t left still)))) (none_left x.held left now e within)
    ∙ ap (λ w. cond (now == length x.held) End (replay_end_of (is_none w))) (wanted_is M x t now left still e)
  where
    replay_end_of : Bool → ReplayEnd
    replay_end_of none = cond none (cond (made == turns) Turns Memory) Wait

-- ---- what the call says

follows : {S : Type 0} (role : Role) (reads : Reads) (x : Node S) (s t : S) (come still : Option (List ℕ))
    (r new : Receiving) (now : ℕ) → IsFollower role reads s come r x → new ≡ record r { entries = new.entries }
    → drop now x.held ≡ new.entries → now ≤ length x.held → IsFollower role reads t still new (at x t now still)
follows role reads x s t come still r new now f held left within = record {
  role_is = f.role_is;
  up = f.up;
  generation = f.generation ∙ sym (ap (λ (r : Receiving). r.generation) held);
  reads_are = f.reads_are;
  machine = refl;
  come = refl;
  held = f.held ∙ sym (ap (λ (r : Receiving). r.held) held);
  left = sym left;
  within = within;
}

stays : {S : Type 0} (role : Role) (reads : Reads) (x : Node S) (s t : S) (come still : Option (List ℕ))
    (r new : Receiving) → IsFollower role reads s come r x → new ≡ record r { entries = new.entries } → t ≡ s
    → new.entries ≡ r.entries → still ≡ come → IsFollower role reads t still new x
stays role reads x s t come still r new f held same_state same_left same_bytes = record {
  role_is = f.role_is;
  up = f.up;
  generation = f.generation ∙ sym (ap (λ (r : Receiving). r.generation) held);
  reads_are = f.reads_are;
  machine = f.machine ∙ sym same_state;
  come = f.come ∙ sym same_bytes;
  held = f.held ∙ sym (ap (λ (r : Receiving). r.held) held);
  left = same_left ∙ f.left;
  within = f.within;
}

pub repeats : {S : Type 0} (M : Machine S) (role : Role) (reads : Reads) (x : Node S) (s t : S)
    (come still : Option (List ℕ)) (r new : Receiving) (turns : ℕ) (result : Result Replayed Fault)
    → IsFollower role reads s come r x → new ≡ record r { entries = new.entries }
    → replaying.Answers M s r.entries come turns result t new.entries still
    → calls.Gives result (NeedsMoves M turns x × IsFollower role reads t still new x)
    (λ q. calls.Makes x (calls.ReplayedBy M turns q) (IsFollower role reads t still new))
repeats M role reads x s t come still r new turns (Err fault) f held a = (
  a.0,
  (
    (a.1, behind M x s r.entries f.machine (sym f.left) a.2),
    stays role reads x s t come still r new f held a.3 a.4 a.5,
  ),
)
repeats M role reads x s t come still r new turns (Ok q) f held a =
    let so_far =
    reached M x s x.replayed come r.entries q.moves t new.entries still (sym f.left) f.within a.replays in
    let now = so_far.now in
    let end = ended M x t turns q.moves now new.entries still so_far.left_are so_far.within a.ends in
    let moves : Replays M (at x s x.replayed come) turns (at x t now still) q.moves =
    counted M (at x s x.replayed come) (at x t now still) (q.moves + end.0) turns (q.moves + 0) q.moves end.1
    (omega arith) (so_far.before end.0 0 (at x t now still) end.2) in
    record {
      y = at x t now still;
      done = record {
        moves =
            subst (λ s. Replays M (at x s x.replayed x.fetched) turns (at x t now still) q.moves) (sym f.machine)
            (subst (λ come. Replays M (at x s x.replayed come) turns (at x t now still) q.moves) (sym f.come) moves);
        some =
            moves_some M x s t turns q.moves new.entries come still f.machine f.come f.within
            (λ none.
            let same = none_made M s r.entries come q.moves t new.entries still none a.replays in
            (same.0, same.1 ∙ f.left, same.2)) a.ends;
        ends = a.why ∙ same_end M x t now new.entries still turns q.moves so_far.left_are so_far.within;
      };
      after = follows role reads x s t come still r new now f held so_far.left_are so_far.within;
    }

-- nothing refuses a node in the only role allowed
pub in_role : {S : Type 0} (role : Role) (reads : Reads) (x : Node S) (s : S) (come : Option (List ℕ)) (r : Receiving)
    → IsFollower role reads s come r x → is_role role role ≡ true → refusals.role_refusal (role ∷ []) x ≡ None
in_role role reads x s come r f same = rw (f.role_is, f.up, same) refl

pub backup_replays : {S : Type 0} (M : Machine S) (reads : Reads) (x : Node S) (s t : S)
    (come still : Option (List ℕ)) (r new : Receiving) (turns : ℕ) (result : Result Replayed Fault)
    → IsFollower Backup reads s come r x → new ≡ record r { entries = new.entries }
    → replaying.Answers M s r.entries come turns result t new.entries still
    → calls.Replays M turns x result (IsFollower Backup reads t still new)
backup_replays M reads x s t come still r new turns result f held a =
    subst (λ refusal. calls.Unless {A = Replayed} refusal result (IsFollower Backup reads t still new x)
    (calls.Gives result (NeedsMoves M turns x × IsFollower Backup reads t still new x)
    (λ q. calls.Makes x (calls.ReplayedBy M turns q) (IsFollower Backup reads t still new))))
    (sym (in_role Backup reads x s come r f refl))
    (repeats M Backup reads x s t come still r new turns result f held a)
