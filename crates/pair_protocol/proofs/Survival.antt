-- Nothing refuses a whole node of an undecided generation that asks the arbiter, so its row says that it has won.
use Rattle.std.proofs.Common.{[], ◌∙◌, ◌∷◌, ◌≡◌, ◌⊎◌, None, Some, ap, cond, inl, inr, not, refl, sym, ℕ}
use Rattle.std.proofs.lemmas.Bool.{false_from_ne_true}
use Rattle.pair_protocol.proofs.Words.{Copying, Joining, Machine, Node, Spare, World, is_role, winner_in}
use Rattle.i8080_words.specs.declared.refusal.Fault.TheVariants.{Lost, NotWhole, OutOfMemory, Unknown, WrongRole}
use Rattle.pair_events.specs.declared.event.Event.TheVariants.{Suspect}
use Rattle.pair_protocol.specs.Reply.{Refused, Reply, Won}
use Rattle.pair_protocol.specs.Refusals.{ask_refusal, at_node, fault_if, first_of, is_other, refusal}
use Rattle.pair_protocol.specs.Row.{Accepts, DeviceFails, Refuses, Row, NeedsMemory}
use Rattle.pair_protocol.specs.Survival.{MayWin}
use Rattle.pair_protocol.proofs.Passed.{role_of}

pub nothing_refuses : {S : Type 0} (M : Machine S) (C : Copying S) (w : World S) (n : ℕ) (x : Node S) → MayWin w n x →
    refusal M C w (Suspect n) ≡ None
nothing_refuses M C w n x m =
    ap (λ z. at_node z (ask_refusal w n)) m.there
    ∙ ap (λ b. cond b (Some Unknown) (ask_refusal w n x))
    (false_from_ne_true (is_role x.role Spare) (λ t. m.a_node (role_of x.role Spare t)))
    ∙ ap (λ b. first_of (first_of (fault_if (not b) WrongRole ∷ fault_if (is_role x.role Joining) NotWhole ∷ []) ∷
    fault_if (is_other (winner_in w.winners x.generation) n) Lost ∷ [])) m.up
    ∙ ap (λ b. first_of (first_of (fault_if b NotWhole ∷ []) ∷ fault_if
    (is_other (winner_in w.winners x.generation) n) Lost ∷ []))
    (false_from_ne_true (is_role x.role Joining) (λ t. m.whole (role_of x.role Joining t)))
    ∙ ap (λ o. first_of (fault_if (is_other o n) Lost ∷ [])) m.undecided

pub wins : {S : Type 0} (M : Machine S) (C : Copying S) (w new : World S) (n : ℕ) (x : Node S) (r : Reply) →
    MayWin w n x → Row M C w (Suspect n) r new → (r ≡ Won) ⊎ (r ≡ Refused OutOfMemory)
wins M C w new n x r m (Accepts p d) = inl d.reply
wins M C w new n x r m (Refuses {fault = fault} p d) = let e = sym (nothing_refuses M C w n x m) ∙ p in (cc)
wins M C w new n x r m (DeviceFails p d) = (cc)
wins M C w new n x r m (NeedsMemory p d) = inr refl
