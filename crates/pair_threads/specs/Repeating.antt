-- How far the guest of a backup's worker is.
use Rattle.std.specs.Prelude.{◌≡◌, ◌⊎◌, ℕ, ◌-◌, ◌==◌, ◌&&◌, not, nat_lt, Bool, false, List, length, take, slice_get, Option, Some, None, IsSome, Ok}
use Rattle.guest_lockstep.specs.Lockstep.{step_refusal}
use Rattle.guest_lockstep.specs.Machine.{Machine}
use Rattle.log_entry.specs.Entries.{count_of, last_count}
use Rattle.log_entry.specs.declared.entry.Entry.{Entry}
use Rattle.pair_threads.specs.declared.repeater.Repeater.{Repeater}
use Rattle.replayer.specs.Following.{Follows, Ran, Reaches}
use Rattle.replayer.specs.declared.following.Followed.{Followed}

-- from its boot the guest has made a recorded run with the first entries of a list, and if these are all, it is at the last
pub record Repeats {S : Type 0} (M : Machine S) (boot : S) (list : List Entry) (replayed : ℕ) (s : S) : Type 0 where
  pub ran : Ran M boot (take replayed list) s
  pub at : replayed ≡ length list → M.count s ≡ last_count (M.count boot) list

-- it is so with the entries that a repeater says it has repeated
abbrev pub IsAt : {B S : Type 0} → (B → S) → Machine S → S → Repeater B → Type 0
IsAt state M boot r = Repeats M boot r.list.items r.replayed (state r.board)

-- and it stays so
abbrev pub GoesOn : {B S : Type 0} → (B → S) → Machine S → Repeater B → Repeater B → Type 0
GoesOn {B} {S} state M old new = (boot : S) → IsAt state M boot old → IsAt state M boot new

-- it has repeated its whole list
abbrev pub has_all : {B : Type 0} → Repeater B → Bool
has_all r = r.replayed == length r.list.items

-- its guest has more than ten million steps to make up to the last entry of its list, and has not repeated all of them
abbrev pub is_far_from : Option Entry → ℕ → Bool
is_far_from None count = false
is_far_from (Some e) count = nat_lt 10_000_000 (count_of e - count)

abbrev pub is_far_behind : {B S : Type 0} → (B → S) → Machine S → Repeater B → Bool
is_far_behind state M r =
    not (has_all r) && is_far_from (slice_get r.list.items (length r.list.items - 1)) (M.count (state r.board))

-- it follows its next entry, with as many steps as it may make; without one it stays as it was
abbrev pub FollowsFor : {B S : Type 0} → (B → S) → Machine S → ℕ → Repeater B → Repeater B → Type 0
FollowsFor state M steps old new =
    (new ≡ old) ⊎ ((e : Entry) × (slice_get old.list.items old.replayed ≡ Some e)
    × ((followed : Followed) × Follows M (state old.board) e steps (Ok followed) (state new.board)))

-- it can never reach its next entry, or its guest refuses a step
abbrev pub IsStuck : {B S : Type 0} → (B → S) → Machine S → Repeater B → Type 0
IsStuck {B} {S} state M r =
    ((e : Entry) × (slice_get r.list.items r.replayed ≡ Some e) × ((u : S) → Reaches M (state r.board) e u → ⊥))
    ⊎ IsSome (step_refusal M (state r.board))
