-- What a running session has answered, whatever world its pair showed before.
use Rattle.std.specs.Prelude.{ℕ, Bool, List, [], ◌∷◌, Option, Some, None, IfSome, Result, MatchResult, map}
use Rattle.std.specs.List.{concat}
use Rattle.std.specs.Io.KnownBytes.{Appends}
use Rattle.ft_world.specs.Applies.{Shows}
use Rattle.ft_world.specs.Running.{Running}
use Rattle.ft_world.specs.Standing.{Course}
use Rattle.guest_board.specs.Inputs.{some_altair}
use Rattle.guest_parts.specs.Guest.{Guest}
use Rattle.shared_disk.specs.Failing.{Disk, records_in}
use Rattle.shell_language.specs.declared.opening.SessionSetup.{SessionSetup}
use Rattle.command_io.specs.declared.failure.Failure.{Failure}
use Rattle.pair_shell.specs.Answering.{AreAnswers, HaveAnswers, Sitting}
use Rattle.pair_shell.specs.Lines.{heard, without_cr}
use Rattle.pair_shell.specs.Hearing.{AnswersTo, Writes}

-- what of a session its answers are about
pub record Desk (B H : Type 0) : Type 0 where
  pub opening : SessionSetup
  pub world : Option (Running B H Disk)
  pub is_traced : Bool

abbrev pub desk : {B H : Type 0} → SessionSetup → Option (Running B H Disk) → Bool → Desk B H
desk opening world is_traced = record { opening = opening; world = world; is_traced = is_traced }

-- its pair shows this world, or has not booted
abbrev pub PairShows : {B H : Type 0} → (B → Guest) → Option (Running B H Disk) → Option (Course Guest) → Type 0
PairShows guest (Some world) (Some pair) = Shows guest guest some_altair records_in world pair
PairShows guest None None = Unit {0}
PairShows guest _ _ = ⊥

-- it is this session, with its pair as the protocol has it
abbrev pub sitting : {B H : Type 0} → Desk B H → Option (Course Guest) → Sitting
sitting d pair = record { opening = d.opening; pair = pair; is_traced = d.is_traced }

-- these lines were answered from here on, and the answers were written, in order
pub record HasAnswered {B H : Type 0} (guest : B → Guest) (first : Sitting) (lines : List (List ℕ)) (old new : Option (List ℕ))
    (d : Desk B H) : Type 0 where
  pub answers : List (List ℕ)
  pub pair : Option (Course Guest)
  pub shows : PairShows guest d.world pair
  pub answered : AreAnswers first (map without_cr lines) answers (sitting d pair)
  pub written : Appends old new (concat answers)

-- the same, whatever world was shown
abbrev pub AnswersEach : {B H : Type 0} → (B → Guest) → Desk B H → List (List ℕ) → Option (List ℕ) → Option (List ℕ) → Desk B H
    → Type 0
AnswersEach guest before lines old new after = (pair : Option (Course Guest)) → PairShows guest before.world pair
    → HasAnswered guest (sitting before pair) lines old new after

-- whatever was answered to a line so far, this was its answer, with what was written since
abbrev pub AnswersFurther : {B H : Type 0} → (B → Guest) → List ℕ → Desk B H → Option (List ℕ) → Option (List ℕ) → Desk B H → Type 0
AnswersFurther {B = B} {H = H} guest line here old new after = (first : Desk B H) (before : Option (List ℕ))
    → AnswersEach guest first (line ∷ []) before old here → AnswersEach guest first (line ∷ []) before new after

-- a session over an input that ended like this, from here on; nothing is claimed of the lines if it is not known what a reader has
abbrev pub AnswersAll : {B H : Type 0} → (B → Guest) → Desk B H → List (List ℕ) → Option (List ℕ) → Option (List ℕ) → Type 0
AnswersAll guest before lines old new =
    (pair : Option (Course Guest)) → PairShows guest before.world pair → HaveAnswers (sitting before pair) lines old new

pub record HearsAllFrom {B H : Type 0} (guest : B → Guest) (before : Desk B H) (input old new : Option (List ℕ)) : Type 0 where
  pub written : Writes old new
  pub heard : IfSome input (λ bytes. AnswersAll guest before (heard bytes) old new)

abbrev pub HearsFrom : {B H : Type 0} → (B → Guest) → Desk B H → Option (List ℕ) → Result (Unit {0}) Failure → Option (List ℕ)
    → Option (List ℕ) → Type 0
HearsFrom guest before input result old new =
    MatchResult result (λ _. HearsAllFrom guest before input old new) (λ failure. AnswersTo failure old new)
