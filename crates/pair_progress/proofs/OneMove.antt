-- The moves of one node are determined, unless memory ends them: its steps, and what it makes from the entries that it holds.
use Rattle.std.proofs.Common.{◌≡◌, ◌≢◌, ℕ, zero, suc, ◌<◌, ◌⊎◌, inl, inr, Bool, true, false, Option, Some, None, is_none, List, [], ◌∷◌, length, refl, sym, ap, subst, ◌∙◌, arith, eqb-true}
use Rattle.std.specs.Prelude.{slice_get, ◌==◌, if◌then◌else◌}
use Rattle.std.proofs.Math.Dec.{eqb-suc-suc, eqb-zero-suc}
use Rattle.std.proofs.lemmas.Option.{slice_get_within}
use Rattle.guest_lockstep.specs.declared.input.Input.{Input}
use Rattle.guest_lockstep.specs.declared.input.Input.TheVariants as input
use Rattle.guest_lockstep.specs.declared.replay_end.ReplayEnd.{ReplayEnd}
use Rattle.guest_lockstep.specs.declared.replay_end.ReplayEnd.TheVariants.{End, Memory, Turns, Wait}
use Rattle.guest_lockstep.specs.declared.running.StopReason.{StopReason}
use Rattle.guest_lockstep.specs.declared.running.StopReason.TheVariants as reason
use Rattle.i8080_words.specs.declared.refusal.Fault.TheVariants.{OutOfMemory}
use Rattle.log_entry.specs.declared.entry.Entry.TheVariants as entry
use Rattle.pair_protocol.specs.NodeStands.{IsReached}
use Rattle.pair_protocol.proofs.Words.{Alone, Backup, Do, Draining, Entry, Joining, Lawful, Machine, Mark, Node, Operation, Primary, Role, Spare, bare_of, count_of, input_of, passes_input, passes_mark, passes_read, plainly_steps}
use Rattle.pair_protocol.specs.Effects.{Advances, AtEnd, AwaitsBytes, Ends, Gives, Goes, IsBehind, NoMemory, NoTurns, NoneLeft, OneInput, OneMark, OneRead, OneStep, Replays, Short, Waits, next_read, replay_end, stepped, wanted}
use Rattle.pair_protocol.proofs.OneNode.{is-at-read}
use Rattle.pair_protocol.proofs.Traces.Lists.{same_some}
use Rattle.pair_protocol.proofs.Traces.Moves.{runs-append}
use Rattle.pair_progress.proofs.Fetching.{some_of, wants}

-- ---- steps

module _ {S : Type 0} (M : Machine S) (laws : Lawful M) where
  -- a spent machine makes no step
  spent_stays : (s t : S) (gives : Option Operation) → IsReached M s → M.is_spent s ≡ true → M.step s ≡ Some (t, gives) → ⊥
  spent_stays s t gives at spent made =
      let none : M.step s ≡ None = laws.spent at.0 s at.1 spent in
      (cc)

  stepped_reached : (x : Node S) (r : Role) (t : S) (gives : Option Operation) → IsReached M x.machine →
      M.step x.machine ≡ Some (t, gives) → IsReached M (stepped M x r t gives).machine
  stepped_reached x Primary t gives at made =
      (_, runs-append M M.boot x.machine t at.0 (Do gives ∷ []) at.1 (t, made, refl))
  stepped_reached x Alone t gives at made =
      (_, runs-append M M.boot x.machine t at.0 (Do gives ∷ []) at.1 (t, made, refl))
  stepped_reached x Backup t gives at made = at
  stepped_reached x Joining t gives at made = at
  stepped_reached x Draining t gives at made = at
  stepped_reached x Spare t gives at made = at

  pub advances_once : (x y z : Node S) (turns made more : ℕ) (why because : StopReason) → IsReached M x.machine →
      Advances M x turns y made why → Advances M x turns z more because → why ≢ reason.Refused OutOfMemory →
      because ≢ reason.Refused OutOfMemory → y ≡ z
  advances_once x y z _ _ _ _ _ at NoneLeft NoneLeft one other = refl
  advances_once x y z _ _ _ _ _ at (Short p q) b one other = absurd (one refl)
  advances_once x y z _ _ _ _ _ at a (Short p q) one other = absurd (other refl)
  advances_once x y z _ _ _ _ _ at (Ends p) (Gives s o q) one other = absurd (spent_stays x.machine s (Some o) at p q)
  advances_once x y z _ _ _ _ _ at (Ends p) (Goes s q rest) one other = absurd (spent_stays x.machine s None at p q)
  advances_once x y z _ _ _ _ _ at (Gives s o q) (Ends p) one other = absurd (spent_stays x.machine s (Some o) at p q)
  advances_once x y z _ _ _ _ _ at (Goes s q rest) (Ends p) one other = absurd (spent_stays x.machine s None at p q)
  advances_once x y z _ _ _ _ _ at (Ends p) b one other = refl
  advances_once x y z _ _ _ _ _ at (Waits p q) (Ends k) one other = refl
  advances_once x y z _ _ _ _ _ at (Waits p q) (Waits k l) one other = refl
  advances_once x y z _ _ _ _ _ at (Waits p q) (Gives s o k) one other = absurd (cc)
  advances_once x y z _ _ _ _ _ at (Waits p q) (Goes s k rest) one other = absurd (cc)
  advances_once x y z _ _ _ _ _ at (Gives s o k) (Waits p q) one other = absurd (cc)
  advances_once x y z _ _ _ _ _ at (Goes s k rest) (Waits p q) one other = absurd (cc)
  advances_once x y z _ _ _ _ _ at (Gives s o p) (Gives t u q) one other =
      ap (λ (k : S × Option Operation). stepped M x x.role k.0 k.1)
      (same_some (s, Some o) (t, Some u) (M.step x.machine) p q)
  advances_once x y z _ _ _ _ _ at (Gives s o p) (Goes t q rest) one other =
      absurd (let e = ap (λ (k : S × Option Operation). k.1) (same_some (s, Some o) (t, None) (M.step x.machine) p q) in (cc))
  advances_once x y z _ _ _ _ _ at (Goes t q rest) (Gives s o p) one other =
      absurd (let e = ap (λ (k : S × Option Operation). k.1) (same_some (s, Some o) (t, None) (M.step x.machine) p q) in (cc))
  advances_once x y z _ _ _ _ _ at (Goes {turns = turns} {made = made} {why = why} s p rest)
      (Goes {made = more} {why = because} t q others) one other =
      let e : s ≡ t = ap (λ (k : S × Option Operation). k.0) (same_some (s, None) (t, None) (M.step x.machine) p q) in
      advances_once (stepped M x x.role s None) y z turns made more why because (stepped_reached x x.role s None at p) rest
      (subst (λ k. Advances M (stepped M x x.role k None) turns z more because) (sym e) others) one other

-- ---- moves from the entries that a node holds

-- a mark carries no input
mark_takes : (e : Entry) (i : Input) → bare_of e ≡ None → input_of e ≡ Some i → ⊥
mark_takes (Mark c) i b h = (cc)
mark_takes (entry.Rx c p k) i b h = (cc)
mark_takes (entry.Sent c p) i b h = (cc)
mark_takes (entry.Sector c d s n k) i b h = (cc)
mark_takes (entry.Written c n) i b h = (cc)
mark_takes (entry.Read c d s n) i b h = (cc)

module _ {S : Type 0} (M : Machine S) where
  -- one move
  data OneMove (x : Node S) : Node S → Type 0 where
    Steps : (e : Entry) (s : S) (gives : Option Operation) → slice_get x.held x.replayed ≡ Some e →
        M.count x.machine < count_of e → M.step x.machine ≡ Some (s, gives) → OneMove x (plainly_steps x s)
    Marks : (e : Entry) → slice_get x.held x.replayed ≡ Some e → M.count x.machine ≡ count_of e → bare_of e ≡ None →
        OneMove x (passes_mark x)
    Inputs : (e : Entry) (i : Input) (s : S) → slice_get x.held x.replayed ≡ Some e → M.count x.machine ≡ count_of e →
        input_of e ≡ Some i → M.take x.machine i ≡ Some s → OneMove x (passes_input x s)
    Reads : (d s n : ℕ) (bytes : List ℕ) (t : S) →
        slice_get x.held x.replayed ≡ Some (entry.Read (M.count x.machine) d s n) → x.fetched ≡ Some bytes →
        M.take x.machine (input.Sector d s n bytes) ≡ Some t → OneMove x (passes_read x t)

  -- it makes none: nothing is left, or bytes have not arrived
  abbrev IsDone : Node S → Type 0
  IsDone x = (x.replayed ≡ length x.held) ⊎ (is_none (wanted M x) ≡ false)

  same_entry : (x : Node S) (e f : Entry) → slice_get x.held x.replayed ≡ Some e → slice_get x.held x.replayed ≡ Some f → e ≡ f
  same_entry x e f a b = same_some e f (slice_get x.held x.replayed) a b

  not_yet : (x : Node S) (e f : Entry) → slice_get x.held x.replayed ≡ Some e → M.count x.machine < count_of e →
      slice_get x.held x.replayed ≡ Some f → M.count x.machine ≡ count_of f → ⊥
  not_yet x e f a later b here = let c = ap count_of (same_entry x e f a b) in omega (arith, later, here, c)

  not_input : (x : Node S) (e f : Entry) (i : Input) → slice_get x.held x.replayed ≡ Some e → bare_of e ≡ None →
      slice_get x.held x.replayed ≡ Some f → input_of f ≡ Some i → ⊥
  not_input x e f i a none b has = mark_takes e i none (ap input_of (same_entry x e f a b) ∙ has)

  not_read : (x : Node S) (e : Entry) (d s n : ℕ) → slice_get x.held x.replayed ≡ Some e → bare_of e ≡ None →
      slice_get x.held x.replayed ≡ Some (entry.Read (M.count x.machine) d s n) → ⊥
  not_read x e d s n a none b =
      let k = ap bare_of (same_entry x e (entry.Read (M.count x.machine) d s n) a b) in
      (cc)

  not_carried : (x : Node S) (e : Entry) (i : Input) (d s n : ℕ) → slice_get x.held x.replayed ≡ Some e →
      input_of e ≡ Some i → slice_get x.held x.replayed ≡ Some (entry.Read (M.count x.machine) d s n) → ⊥
  not_carried x e i d s n a has b =
      let k = ap input_of (same_entry x e (entry.Read (M.count x.machine) d s n) a b) in
      (cc)

  one_move : (x y z : Node S) → OneMove x y → OneMove x z → y ≡ z
  one_move x _ _ (Steps e s o a c h) (Steps f t u b k g) =
      ap (plainly_steps x) (ap (λ (k : S × Option Operation). k.0) (same_some (s, o) (t, u) (M.step x.machine) h g))
  one_move x _ _ (Steps e s o a c h) (Marks f b k g) = absurd (not_yet x e f a c b k)
  one_move x _ _ (Steps e s o a c h) (Inputs f i t b k g l) = absurd (not_yet x e f a c b k)
  one_move x _ _ (Steps e s o a c h) (Reads d k n bytes t b g l) =
      absurd (not_yet x e (entry.Read (M.count x.machine) d k n) a c b refl)
  one_move x _ _ (Marks f b k g) (Steps e s o a c h) = absurd (not_yet x e f a c b k)
  one_move x _ _ (Marks e a c h) (Marks f b k g) = refl
  one_move x _ _ (Marks e a c h) (Inputs f i t b k g l) = absurd (not_input x e f i a h b g)
  one_move x _ _ (Marks e a c h) (Reads d k n bytes t b g l) = absurd (not_read x e d k n a h b)
  one_move x _ _ (Inputs f i t b k g l) (Steps e s o a c h) = absurd (not_yet x e f a c b k)
  one_move x _ _ (Inputs f i t b k g l) (Marks e a c h) = absurd (not_input x e f i a h b g)
  one_move x _ _ (Inputs e i s a c h l) (Inputs f j t b k g m) =
      let same : i ≡ j = same_some i j (input_of e) h (ap input_of (same_entry x e f a b) ∙ g) in
      ap (passes_input x) (same_some s t (M.take x.machine i) l (ap (M.take x.machine) same ∙ m))
  one_move x _ _ (Inputs e i s a c h l) (Reads d k n bytes t b g m) = absurd (not_carried x e i d k n a h b)
  one_move x _ _ (Reads d k n bytes t b g l) (Steps e s o a c h) =
      absurd (not_yet x e (entry.Read (M.count x.machine) d k n) a c b refl)
  one_move x _ _ (Reads d k n bytes t b g l) (Marks e a c h) = absurd (not_read x e d k n a h b)
  one_move x _ _ (Reads d k n bytes t b g m) (Inputs e i s a c h l) = absurd (not_carried x e i d k n a h b)
  one_move x _ _ (Reads d k n bytes s a c h) (Reads e l m others t b g i) =
      let same : ◌≡◌ {A = Entry} (entry.Read (M.count x.machine) d k n) (entry.Read (M.count x.machine) e l m) =
      same_entry x (entry.Read (M.count x.machine) d k n) (entry.Read (M.count x.machine) e l m) a b in
      let drive : d ≡ e = (cc) in
      let sector : k ≡ l = (cc) in
      let number : n ≡ m = (cc) in
      let came : bytes ≡ others = same_some bytes others x.fetched c g in
      ap (passes_read x) (same_some s t (M.take x.machine (input.Sector d k n bytes)) h
      (ap (λ z. M.take x.machine (input.Sector z k n bytes)) drive
      ∙ ap (λ z. M.take x.machine (input.Sector e z n bytes)) sector
      ∙ ap (λ z. M.take x.machine (input.Sector e l z bytes)) number
      ∙ ap (λ z. M.take x.machine (input.Sector e l m z)) came ∙ i))

  -- a node that is done makes no move
  left_some : (x : Node S) (e : Entry) → slice_get x.held x.replayed ≡ Some e → x.replayed ≡ length x.held → ⊥
  left_some x e got all = let l = slice_get_within x.held x.replayed e got in omega (arith, l, all)

  done_moves : (x y : Node S) → IsDone x → OneMove x y → ⊥
  done_moves x _ (inl all) (Steps e s o a c h) = left_some x e a all
  done_moves x _ (inl all) (Marks e a c h) = left_some x e a all
  done_moves x _ (inl all) (Inputs e i s a c h l) = left_some x e a all
  done_moves x _ (inl all) (Reads d k n bytes t b g l) = left_some x (entry.Read (M.count x.machine) d k n) b all
  done_moves x y (inr waits) move = go y move
    where
      r : (r : ℕ × ℕ × ℕ) × (wanted M x ≡ Some r)
      r = some_of (wanted M x) waits

      read : (next_read M x ≡ Some r.0) × (x.fetched ≡ None)
      read = wants x.fetched (next_read M x) r.0 r.1

      at : slice_get x.held x.replayed ≡ Some (entry.Read (M.count x.machine) r.0.0 r.0.1 r.0.2)
      at = is-at-read (M.count x.machine) r.0.0 r.0.1 r.0.2 (slice_get x.held x.replayed) read.0

      go : (y : Node S) → OneMove x y → ⊥
      go _ (Steps e s o a c h) = not_yet x e (entry.Read (M.count x.machine) r.0.0 r.0.1 r.0.2) a c at refl
      go _ (Marks e a c h) = not_read x e r.0.0 r.0.1 r.0.2 a h at
      go _ (Inputs e i s a c h l) = not_carried x e i r.0.0 r.0.1 r.0.2 a h at
      go _ (Reads d k n bytes t b g l) = let none = read.1 in (cc)

  -- the first of some moves
  data First (x y : Node S) (turns made : ℕ) : Type 0 where
    Done : IsDone x → x ≡ y → made ≡ 0 → First x y turns made
    Runs_out : IsBehind M x → x ≡ y → made ≡ 0 → First x y turns made
    Moves : (z : Node S) (k : ℕ) → OneMove x z → Replays M z turns y k → made ≡ suc k → First x y turns made

  first : (x y : Node S) (turns made : ℕ) → Replays M x (suc turns) y made → First x y turns made
  first x y turns _ (AtEnd all) = Done (inl all) refl refl
  first x y turns _ (AwaitsBytes waits) = Done (inr waits) refl refl
  first x y turns _ (NoMemory behind) = Runs_out behind refl refl
  first x y turns _ (OneStep {made = k} e s gives a c h rest) = Moves (plainly_steps x s) k (Steps e s gives a c h) rest refl
  first x y turns _ (OneMark {made = k} e a c h rest) = Moves (passes_mark x) k (Marks e a c h) rest refl
  first x y turns _ (OneInput {made = k} e i s a c h l rest) = Moves (passes_input x s) k (Inputs e i s a c h l) rest refl
  first x y turns _ (OneRead {made = k} d s n bytes t a c h rest) =
      Moves (passes_read x t) k
      (Reads d s n bytes t (is-at-read (M.count x.machine) d s n (slice_get x.held x.replayed) a) c h) rest refl

  -- why moves ended, by whether nothing is left, no bytes are waited for, and all moves were made
  abbrev ends : Bool → Bool → Bool → ReplayEnd
  ends all none all_made = if all then End else if none then (if all_made then Turns else Memory) else Wait

  -- memory did not end them
  abbrev pub IsWhole : ℕ → Node S → ℕ → Type 0
  IsWhole turns y made = replay_end M y turns made ≢ Memory

  -- where a step would be next, memory did
  behind_out : (x : Node S) (turns : ℕ) → IsBehind M x → replay_end M x (suc turns) 0 ≡ Memory
  behind_out x turns b =
      ap (λ all_made. ends (x.replayed == length x.held) (is_none (wanted M x)) all_made) (eqb-zero-suc turns)
      ∙ go (x.replayed == length x.held) refl (is_none (wanted M x)) refl
    where
      go : (all : Bool) → (x.replayed == length x.held) ≡ all → (none : Bool) → is_none (wanted M x) ≡ none →
          ends all none false ≡ Memory
      go true e none f = absurd (left_some x b.next b.held (eqb-true x.replayed (length x.held) e))
      go false e true f = refl
      go false e false f = absurd (done_moves_behind f)
        where
          done_moves_behind : is_none (wanted M x) ≡ false → ⊥
          done_moves_behind waits =
              let r = some_of (wanted M x) waits in
              let read = wants x.fetched (next_read M x) r.0 r.1 in
              not_yet x b.next (entry.Read (M.count x.machine) r.0.0 r.0.1 r.0.2) b.held b.later
              (is-at-read (M.count x.machine) r.0.0 r.0.1 r.0.2 (slice_get x.held x.replayed) read.0) refl

  pub replays_once : (turns : ℕ) (x y z : Node S) (made more : ℕ) → Replays M x turns y made → Replays M x turns z more →
      IsWhole turns y made → IsWhole turns z more → (y ≡ z) × (made ≡ more)
  replays_once zero x y z _ _ NoTurns NoTurns one other = (refl, refl)
  replays_once (suc turns) x y z made more a b one other =
      both (first x y turns made a) (first x z turns more b)
      (λ u k l rest others. replays_once turns u y z k l rest others)
    where
      runs_out : {X : Type 0} (v : Node S) (k : ℕ) → IsBehind M x → x ≡ v → k ≡ 0 → IsWhole (suc turns) v k → X
      runs_out v k behind same none whole =
          absurd (whole (ap (λ u. replay_end M u (suc turns) k) (sym same) ∙ ap (replay_end M x (suc turns)) none
          ∙ behind_out x turns behind))

      -- one move fewer was asked for, and made
      fewer : (v : Node S) (k n : ℕ) → n ≡ suc k → IsWhole (suc turns) v n → IsWhole turns v k
      fewer v k n is whole e =
          whole (ap (replay_end M v (suc turns)) is
          ∙ ap (ends (v.replayed == length v.held) (is_none (wanted M v))) (eqb-suc-suc k turns) ∙ e)

      both : First x y turns made → First x z turns more → ((u : Node S) (k l : ℕ) → Replays M u turns y k →
          Replays M u turns z l → IsWhole turns y k → IsWhole turns z l → (y ≡ z) × (k ≡ l)) → (y ≡ z) × (made ≡ more)
      both (Runs_out behind same none) q rest = runs_out y made behind same none one
      both p (Runs_out behind same none) rest = runs_out z more behind same none other
      both (Done d same none) (Done e also zero_too) rest = (sym same ∙ also, none ∙ sym zero_too)
      both (Done d same none) (Moves v k move q is) rest = absurd (done_moves x v d move)
      both (Moves v k move q is) (Done d same none) rest = absurd (done_moves x v d move)
      both (Moves u k move p is) (Moves v l other_move q also) rest =
          let e = rest u k l p (subst (λ t. Replays M t turns z l) (sym (one_move x u v move other_move)) q)
          (fewer y k made is one) (fewer z l more also other) in
          (e.0, is ∙ ap (λ n. suc n) e.1 ∙ sym also)
