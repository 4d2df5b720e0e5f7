-- How an alone node makes steps: as its recorder advances, whose log refuses nothing.
use Rattle.std.proofs.Common.{◌≡◌, ℕ, zero, suc, ◌<◌, Option, Some, None, is_none, Ok, Err, refl, sym, ap, subst, ◌∙◌}
use Rattle.ft_node.proofs.Words.{AdvancesUnless, Fault, IsAlone, Machine, Node, Operation, Reads, Stopped, advance_refusal, stepped}
use Rattle.log_buffer.specs.Logs.{keeps_nothing}
use Rattle.pair_protocol.specs.Refusals as refusals
use Rattle.ft_node.specs.Calls as calls
use Rattle.ft_node.specs.declared.ran.Ran.{Ran}
use Rattle.ft_node.proofs.PrimaryPlaces.{made_some}
use Rattle.ft_node.proofs.PrimarySteps.{not_made}
use Rattle.ft_node.proofs.ServingSteps.{steps_to}
use Rattle.ft_node.proofs.PrimaryRefusals.{by_machine}

alone_steps : {S : Type 0} {reads : Reads} (M : Machine S) (s t : S) (generation : ℕ) (x : Node S) (given : Option Operation)
    → IsAlone reads s generation x → IsAlone reads t generation (stepped M x x.role t given)
alone_steps {S} {reads} M s t generation x given a =
    subst (λ role. IsAlone reads t generation (stepped M x role t given)) (sym a.role)
    (record { role = a.role; up = a.up; generation_is = a.generation_is; reads_are = a.reads_are; machine = refl })

module _ {S L : Type 0} {reads : Reads} (M : Machine S) (x : Node S) (s t : S) (l new : L) (generation turns : ℕ)
    (a : IsAlone reads s generation x) where
  -- what refuses the call is what refuses the advance
  refused : (turns : ℕ) → refusals.step_refusal M turns x ≡ advance_refusal M (keeps_nothing {L = L}) s l turns
  refused zero = rw (a.role, a.up) refl
  refused (suc turns) = rw (a.role, a.up, a.machine) (by_machine (M.is_spent s) (is_none (M.step s)))

  pub made : (count : ℕ) (r : Stopped)
      → AdvancesUnless M (keeps_nothing {L = L}) s l turns (advance_refusal M (keeps_nothing {L = L}) s l turns) (Ok r) t new
      → count ≡ M.count t
      → calls.Steps M turns x (Ok (record { steps = r.steps; count = count; why = r.reason })) (IsAlone reads t generation)
  made count r answer counted =
      let ran : Ran = record { steps = r.steps; count = count; why = r.reason } in
      let some = made_some M (keeps_nothing {L = L}) s t l new turns r (advance_refusal M (keeps_nothing {L = L}) s l turns) answer in
      let to = steps_to M (λ s x. IsAlone reads s generation x) (λ why s x. IsAlone reads s generation x) (λ s x a. a.machine)
      (λ s t x a moved. alone_steps M s t generation x None a) (λ s t x o a moved. alone_steps M s t generation x (Some o) a)
      (λ s x a. a) (λ s x fault a. a) s t x turns r a some.1.0.runs in
      subst (λ r. calls.Unless {A = Ran} r (Ok ran) (IsAlone reads t generation x)
      (calls.Makes x (calls.SteppedBy M turns ran) (IsAlone reads t generation)))
      (sym (refused turns ∙ some.0))
      (record {
        y = to.y;
        done = record { advances = to.advances; some = some.1.1; counted = counted ∙ ap M.count (sym to.after.machine) };
        after = to.after;
      })

  pub none_made : (fault : Fault)
      → AdvancesUnless M (keeps_nothing {L = L}) s l turns (advance_refusal M (keeps_nothing {L = L}) s l turns) (Err fault) t new
      → calls.Steps M turns x (Err fault) (IsAlone reads t generation)
  none_made fault made =
      subst (λ r. calls.Unless {A = Ran} r (Err fault) (IsAlone reads t generation x)
      (calls.Gives (Err fault) ((0 < turns) × IsAlone reads t generation x)
      (λ ran. calls.Makes x (calls.SteppedBy M turns ran) (IsAlone reads t generation))))
      (sym (refused turns))
      (not_made M (keeps_nothing {L = L}) s t l new turns fault (advance_refusal M (keeps_nothing {L = L}) s l turns)
      (IsAlone reads t generation x)
      (λ ran. calls.Makes x (calls.SteppedBy M turns ran) (IsAlone reads t generation)) made
      (λ same logged. subst (λ s. IsAlone reads s generation x) (sym same) a))
