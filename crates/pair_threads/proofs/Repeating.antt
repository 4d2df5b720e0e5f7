-- The guest of a backup's worker: entries that arrive leave what it has repeated as it was; steps towards an entry keep it,
-- and the entry's own move adds the entry.
use Rattle.std.proofs.Common.{◌≡◌, ◌⊎◌, inl, inr, ℕ, suc, ◌+◌, ◌<◌, ◌≤◌, Option, Some, None, Ok, Err, List, [], ◌∷◌, ◌++◌, length, take, refl, sym, ap, subst, ◌∙◌, arith, length-append}
use Rattle.std.specs.Prelude.{IsSome, is_some, slice_get}
use Rattle.std.proofs.Math.Seq.{take-length, take-suc}
use Rattle.std.proofs.lemmas.List.{take-append-le}
use Rattle.std.proofs.lemmas.Option.{get_or_from_slice_get, slice_get_within}
use Rattle.pair_threads.proofs.Words.{BackupWorker, Counts, Entry, FollowsFor, GoesOn, HasAsked, IsAt, IsStuck, Machine, OutOfMemory, Repeats, Seat, StepsUnless, last_count, last_count-append, step_refusal}
use Rattle.i8080_words.specs.declared.refusal.Fault.{Fault}
use Rattle.replayer.specs.Following.{Follows, Ran, Reaches}
use Rattle.replayer.specs.declared.following.Followed.{Followed}
use Rattle.replayer.specs.declared.following.Followed.TheVariants.{Differs, Stepped}
use Rattle.replayer.proofs.FollowedEntries.{following_is_recording}
use Rattle.pair_threads.specs.declared.plan.Briefing.{Briefing}
use Rattle.pair_threads.specs.declared.repeater.Repeater.{Repeater}

pub at_first : {S : Type 0} (M : Machine S) (boot : S) → Repeats M boot [] 0 boot
at_first M boot = record { ran = record { moves = []; runs = refl; entries_are = refl }; at = λ all. refl }

-- the entries repeated after one more
one_more : (list : List Entry) (replayed : ℕ) (e : Entry) → slice_get list replayed ≡ Some e
    → take (replayed + 1) list ≡ take replayed list ++ e ∷ []
one_more list replayed e is =
    let next : replayed + 1 ≡ suc replayed = omega arith in
    ap (λ n. take n list) next ∙ take-suc list replayed e (slice_get_within list replayed e is)
    ∙ ap (λ z. take replayed list ++ z ∷ []) (get_or_from_slice_get list replayed e e is)

module _ {S : Type 0} (M : Machine S) (boot s : S) (list : List Entry) (replayed : ℕ) (r : Repeats M boot list replayed s) where
  -- one more entry comes
  pub kept : (e : Entry) → replayed ≤ length list → Repeats M boot (list ++ e ∷ []) replayed s
  kept e within = record {
    ran = subst (λ l. Ran M boot l s) (sym (take-append-le replayed list (e ∷ []) within)) r.ran;
    at = λ all. absurd (let a = length-append list (e ∷ []) in let b = within in omega (arith, all, a, b));
  }

  module _ (counts : Counts M) where
    pub steps_on : (n turns : ℕ) (e : Entry) (t : S) → replayed < length list → Follows M s e turns (Ok (Stepped n)) t
        → Repeats M boot list replayed t
    steps_on n turns e t within follows = record {
      ran = (following_is_recording M counts boot s (take replayed list) r.ran).quietly n t follows.3;
      at = λ all. absurd (let b = within in omega (arith, all, b));
    }

    pub reaches : (e : Entry) (t : S) → slice_get list replayed ≡ Some e → Reaches M s e t
        → Repeats M boot list (replayed + 1) t
    reaches e t is there =
        let made = (following_is_recording M counts boot s (take replayed list) r.ran).reaches e t there in
        let more = one_more list replayed e is in record {
          ran = subst (λ l. Ran M boot l t) (sym more) made.0;
          at = λ all. made.1 ∙ sym (last_count-append (M.count boot) (take replayed list) e)
              ∙ ap (last_count (M.count boot)) (sym more ∙ ap (λ n. take n list) all ∙ take-length list);
        }

-- the next entry is followed
pub follows_on : {B S : Type 0} (state : B → S) (M : Machine S) (steps : ℕ) (old new : Repeater B) (e : Entry)
    (followed : Followed) → slice_get old.list.items old.replayed ≡ Some e
    → Follows M (state old.board) e steps (Ok followed) (state new.board) → FollowsFor state M steps old new
follows_on state M steps old new e followed is follows = inr (e, is, (followed, follows))

-- an entry from which the guest strays can never be reached
pub strayed_there : {B S : Type 0} (state : B → S) (M : Machine S) (r : Repeater B) (e : Entry) (turns : ℕ) (t : S)
    → slice_get r.list.items r.replayed ≡ Some e
    → Follows M (state r.board) e turns (Ok Differs) t → IsStuck state M r
strayed_there state M r e turns t is follows = inl (e, is, follows.1)

-- a guest that is refused a step is out of memory, or stuck
pub refused_there : {B S : Type 0} (state : B → S) (M : Machine S) (r : Repeater B) (e : Entry) (turns : ℕ) (fault : Fault) (t : S)
    → Follows M (state r.board) e turns (Err fault) t → (fault ≡ OutOfMemory) ⊎ IsStuck state M r
refused_there state M r e turns fault t follows = go (step_refusal M (state r.board)) refl follows.2
  where
    go : (o : Option Fault) → step_refusal M (state r.board) ≡ o
        → StepsUnless M (state r.board) o (Err fault) (state r.board) → (fault ≡ OutOfMemory) ⊎ IsStuck state M r
    go None is unless = inl unless.0
    go (Some other) is unless = inr (inr (ap is_some is))

-- ---- a worker with such a guest

-- it has come from the first worker by way of another
module _ {B S : Type 0} (state : B → S) (M : Machine S) (first old new : BackupWorker B) (same : new.plan ≡ old.plan)
    (came : (old.plan ≡ first.plan) × HasAsked old.plan.contests_at old.seat.core.known.backup.winner
    × GoesOn state M first.guest old.guest) where
  pub comes_on : HasAsked new.plan.contests_at new.seat.core.known.backup.winner → GoesOn state M old.guest new.guest
      → (new.plan ≡ first.plan) × HasAsked new.plan.contests_at new.seat.core.known.backup.winner
      × GoesOn state M first.guest new.guest
  comes_on asked goes = (same ∙ came.0, asked, λ boot at. goes boot (came.2 boot at))

  -- its seat is as it was
  pub still_asked : new.seat ≡ old.seat → HasAsked new.plan.contests_at new.seat.core.known.backup.winner
  still_asked seat =
      subst (λ (p : Briefing). HasAsked p.contests_at new.seat.core.known.backup.winner) (sym same)
      (subst (λ (s : Seat). HasAsked old.plan.contests_at s.core.known.backup.winner) (sym seat) came.1)

  -- it asks at its turn
  pub asks_now : (number : ℕ) → old.plan.contests_at ≡ Some number
      → HasAsked new.plan.contests_at new.seat.core.known.backup.winner
  asks_now number at = inr (subst IsSome (sym (ap (λ (p : Briefing). p.contests_at) same ∙ at)) refl)

-- a guest that is as it was goes on
pub goes_same : {B S : Type 0} (state : B → S) (M : Machine S) (old new : Repeater B) → new ≡ old → GoesOn state M old new
goes_same state M old new same boot at = subst (λ r. IsAt state M boot r) (sym same) at
