-- Room for the note of an operation. It is looked at before a run, which gives at most one; a machine of which few
-- operations are outstanding always has it.
use Rattle.std.proofs.Common.{◌≡◌, ℕ, ◌<◌, not, [], length, Option, Some, None, Result, Ok, refl, sym, subst, arith}
use Rattle.std.proofs.lemmas.List.Filters.{length-filter_both}
use Rattle.ft_node.proofs.Words.{AdvancesSome, AdvancesUnless, AreFew, Covering, Covers, Fault, HasPlace, IsCovering, IsFrugal, Log, Machine, Node, Stopped}
use Rattle.guest_lockstep.specs.declared.running.StopReason.{StopReason}
use Rattle.guest_lockstep.specs.declared.running.StopReason.TheVariants as reason
use Rattle.log_buffer.specs.Logs.{Logging}
use Rattle.output_rule.specs.Notes.{same_name}
use Rattle.output_rule.specs.declared.notes.Note.{Note}
use Rattle.output_rule.specs.declared.notes.TheConstants.{PLACES}
use Rattle.output_rule.proofs.FewNotes.{few_notes}
use Rattle.ft_node.specs.Calls as calls
use Rattle.ft_node.specs.Checked as checked
use Rattle.ft_node.specs.declared.ran.Ran.{Ran}
use Rattle.ft_node.proofs.PrimaryNotes.{few_outstanding}

-- ---- a run that was made

pub made_some : {S L : Type 0} (M : Machine S) (K : Logging L) (s t : S) (l new : L) (turns : ℕ) (a : Stopped) (r : Option Fault)
    → AdvancesUnless M K s l turns r (Ok a) t new → (r ≡ None) × AdvancesSome M K s l turns (Ok a) t new
made_some M K s t l new turns a None made = (refl, made)
made_some M K s t l new turns a (Some fault) made = let no = made.0 in absurd (cc)

-- ---- the room is looked at before the run

-- an operation that was given takes at most one more place
pub place_if_room : (c : Covering) (why : StopReason) → length c.notes < PLACES → HasPlace c why
place_if_room c reason.Turns room = tt
place_if_room c (reason.Operation name) room =
    let both =
    length-filter_both (λ (note : Note). same_name note.id name) (λ (note : Note). not (same_name note.id name))
    (λ note. refl) c.notes in
    omega arith
place_if_room c (reason.Refused fault) room = tt

-- there is room if few operations are outstanding
pub lacks_room : {S : Type 0} (M : Machine S) (x : Node S) (c : Covering) → Covers M c x → IsCovering c
    → (length c.notes < PLACES → ⊥) → IsFrugal M x.machine → ⊥
lacks_room M x c covers stands none frugal =
    let few : AreFew M x.machine = frugal [] x.machine refl in
    let notes = few_notes c.notes few.names stands.apart (few_outstanding M x.machine c few covers.outstanding) in
    let limit = few.few in
    none (omega arith)

-- and then nothing else refuses the steps
pub all_steps : {S : Type 0} {M : Machine S} {s : S} {turns : ℕ} {x : Node S} {result : Result Ran Fault}
    {Is : Node S → Type 0} → x.machine ≡ s → IsFrugal M s → checked.Steps M turns x result Is
    → calls.Steps M turns x result Is
all_steps same frugal (checked.StepsAll steps) = steps
all_steps {S} {M} same frugal (checked.StepsNone lacks) = absurd (lacks.not_frugal (subst (IsFrugal M) (sym same) frugal))
