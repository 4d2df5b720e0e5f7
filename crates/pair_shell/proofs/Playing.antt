-- A tape grows by an event and its answer, as the run that it says. Nothing but events lengthens it: a line that only
-- reads leaves the world over the records as it was.
use Rattle.guest_parts.specs.Guest.{Guest}
use Rattle.std.proofs.Common.{◌≡◌, ◌∙◌, ℕ, ◌+◌, ◌≤◌, ◌∷◌, ◌++◌, [], Bool, true, false, List, Option, Some, None, ap, arith, length, refl, subst, sym}
use Rattle.std.specs.Prelude.{◌&&◌, Result, nat_lt, not}
use Rattle.std.specs.Option.{option_map_or}
use Rattle.std.proofs.lemmas.Bool.Decides.{nat_tests}
use Rattle.std.proofs.lemmas.List.{length-append, map-append}
use Rattle.guest_lockstep.specs.Machine.{Machine}
use Rattle.i8080_words.specs.declared.refusal.Fault.{Fault}
use Rattle.pair_events.specs.declared.event.Event.{Event}
use Rattle.pair_events.specs.declared.reply.Reply.{Reply}
use Rattle.ft_world.specs.Applies.{Happens, Runs, Shows}
use Rattle.ft_world.specs.Running.{Running}
use Rattle.ft_world.proofs.Running.{runs_begin, runs_then}
use Rattle.shared_disk.specs.Failing.{Disk, records_in}
use Rattle.altair_pair.specs.Disks.{over_records}
use Rattle.altair_pair.proofs.Disks.{records_show, shows_records}
use Rattle.pair_shell.specs.Playing.{Lengthens, Plays, answers_of, events_of, pauses}
use Rattle.pair_shell.specs.Sessions.{LinePlays}
use Rattle.shell_language.specs.Tapes.{played}
use Rattle.shell_language.specs.declared.tape.Played.{Played}
use Rattle.shell_picture.specs.Rounds.{may_pause}
use Rattle.shell_picture.specs.declared.day.Day.{Day}

-- an empty tape: the world over the records is as it was
pub plays_nothing : {B H S : Type 0} (state : B → S) (copied : B → Guest) (M : Machine S) (old new : Running B H Disk)
    (tape : List Played) → tape ≡ [] → over_records new ≡ over_records old → Plays state copied M old tape new
plays_nothing state copied M old new tape none same =
    subst (λ t. Plays state copied M old t new) (sym none)
    (λ c shows. runs_begin state copied M (λ records. records) (over_records new) c
    (subst (λ v. Shows state copied M (λ records. records) v c) (sym same) shows))

-- an event that happened over the disk has happened over its records
over_happens : {B H S : Type 0} (state : B → S) (copied : B → Guest) (M : Machine S) (mid new : Running B H Disk) (e : Event)
    (answer : Result Reply Fault) → Happens state copied M records_in mid e answer new
    → Happens state copied M (λ records. records) (over_records mid) e answer (over_records new)
over_happens state copied M mid new e answer happens c shows =
    let a = happens c (records_show state copied M mid c shows) in
    record {
      after = a.after;
      row = a.row;
      shows = shows_records state copied M new (record c { world = a.after }) a.shows;
      faithful = a.faithful;
      grows = a.grows;
    }

-- one more event, with its answer
plays_then : {B H S : Type 0} (state : B → S) (copied : B → Guest) (M : Machine S) (old mid new : Running B H Disk)
    (tape : List Played) (one : Played) → Plays state copied M old tape mid → Happens state copied M records_in mid one.event one.answer new
    → Plays state copied M old (tape ++ one ∷ []) new
plays_then state copied M old mid new tape one before happens c shows =
    subst (λ events. Runs state copied M (λ records. records) c events (answers_of (tape ++ one ∷ [])) (over_records new))
    (sym (map-append (λ (p : Played). p.event) tape (one ∷ [])))
    (subst (λ answers. Runs state copied M (λ records. records) c (events_of tape ++ one.event ∷ []) answers (over_records new))
    (sym (map-append (λ (p : Played). p.answer) tape (one ∷ [])))
    (runs_then state copied M (λ records. records) (over_records old) (over_records mid) (over_records new) c (events_of tape)
    (answers_of tape) one.event one.answer shows (before c shows)
    (over_happens state copied M mid new one.event one.answer happens)))

-- the same for the tape as it is kept
pub lengthens : {B H S : Type 0} (state : B → S) (copied : B → Guest) (M : Machine S) (old new : Running B H Disk)
    (tape longer : List Played) (happened : Event) (answer : Result Reply Fault) → longer ≡ tape ++ played happened answer ∷ []
    → Happens state copied M records_in old happened answer new → Lengthens state copied M old new tape longer
lengthens state copied M old new tape longer happened answer is happens before plays =
    subst (λ t. Plays state copied M before t new) (sym is)
    (plays_then state copied M before old new tape (played happened answer) plays happens)

-- a tape that stays as it was
pub lengthens_not : {B H S : Type 0} (state : B → S) (copied : B → Guest) (M : Machine S) (old : Running B H Disk)
    (tape kept : List Played) → kept ≡ tape → Lengthens state copied M old old tape kept
lengthens_not state copied M old tape kept same before plays =
    subst (λ t. Plays state copied M before t old) (sym same) plays

-- a pair that had booted, and one that has not
module _ {B H S : Type 0} (state : B → S) (copied : B → Guest) (M : Machine S) (Boots : Running B H Disk → Type 0) where
  pub line_plays : (old new : Running B H Disk) (tape : List Played) (before after : Option (Running B H Disk))
      → before ≡ Some old → after ≡ Some new → Plays state copied M old tape new
      → LinePlays state copied M Boots before tape after
  line_plays old new tape before after was is plays =
      subst (λ o. LinePlays state copied M Boots o tape after) (sym was)
      (subst (λ n. LinePlays state copied M Boots (Some old) tape n) (sym is) plays)

  pub line_boots : (booted new : Running B H Disk) (tape : List Played) (before after : Option (Running B H Disk))
      → before ≡ None → after ≡ Some new → Boots booted → Plays state copied M booted tape new
      → LinePlays state copied M Boots before tape after
  line_boots booted new tape before after was is boots plays =
      subst (λ o. LinePlays state copied M Boots o tape after) (sym was)
      (subst (λ n. LinePlays state copied M Boots None tape n) (sym is) (booted, (boots, plays)))

  line_nothing : (before : Option (Running B H Disk)) → LinePlays state copied M Boots before [] before
  line_nothing None = refl
  line_nothing (Some old) = plays_nothing state copied M old old [] refl refl

  -- a line that makes nothing happen
  pub line_plays_nothing : (before after : Option (Running B H Disk)) (tape : List Played) → tape ≡ []
      → after ≡ before → LinePlays state copied M Boots before tape after
  line_plays_nothing before after tape none same =
      subst (λ t. LinePlays state copied M Boots before t after) (sym none)
      (subst (λ n. LinePlays state copied M Boots before [] n) (sym same) (line_nothing before))

-- so many events have happened since, and the tape has them
pub record PlaysSo {B H S : Type 0} (state : B → S) (copied : B → Guest) (M : Machine S) (old : Running B H Disk) (made : ℕ)
    (tape : List Played) (new : Running B H Disk) : Type 0 where
  pub plays : Plays state copied M old tape new
  pub many : length tape ≡ made

-- one more
pub plays_more : {B H S : Type 0} (state : B → S) (copied : B → Guest) (M : Machine S) (old mid new : Running B H Disk)
    (made : ℕ) (tape longer : List Played) (one : Played) → PlaysSo state copied M old made tape mid → longer ≡ tape ++ one ∷ []
    → Lengthens state copied M mid new tape longer → PlaysSo state copied M old (made + 1) longer new
plays_more state copied M old mid new made tape longer one h is lengthens = record {
  plays = lengthens old h.plays;
  many = ap length is ∙ length-append tape (one ∷ []) ∙ ap (λ n. n + 1) h.many;
}

-- a day that pauses has a million events
pub many_enough : (is : Bool) (tape : List Played) (happened : Event) (day : Option Day)
    → is ≡ pauses (length tape) happened day → is ≡ true → 1000000 ≤ length tape
many_enough is tape happened day so told = at_least (nat_lt (length tape) 1000000) refl (sym so ∙ told)
  where
    at_least : (low : Bool) → nat_lt (length tape) 1000000 ≡ low
        → not low && option_map_or (may_pause happened) day false ≡ true → 1000000 ≤ length tape
    at_least true e h = absurd (cc)
    at_least false e h = grind (arith, nat_tests)
