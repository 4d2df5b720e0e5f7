-- A station takes an input: the input is appended to its inputs, at the count of its machine.
use Rattle.ft_world.proofs.Words.{Alone, Backup, Call, Copying, Draining, Ever, Fault, Input, IsNode, IsStation, Joining, Machine, Makes, MayAccept, Node, OutOfMemory, Primary, Role, Serving, Spare, Station, Took, board_of, timed, took}
use Rattle.std.proofs.Common.{◌≡◌, ℕ, ◌∙◌, [], ◌∷◌, ◌++◌, Some, None, Result, Ok, Err, ap, inl, inr, refl, subst, sym}
use Rattle.std.specs.Result.{IsErrAnd}
use Rattle.guest_lockstep.specs.Recorded.{Counts}
use Rattle.ft_node.specs.declared.node.Node as code
use Rattle.ft_node.specs.declared.node.Node.TheVariants as node
use Rattle.ft_world.proofs.Keeping.{machine_count, own_inputs}

-- a node that has taken an input
record TakesInput {S : Type 0} (M : Machine S) (i : Input) (x y : Node S) : Type 0 where
  pub role : y.role ≡ x.role
  pub list : y.list ≡ x.list ++ timed (M.count x.machine) i ∷ []
  pub count : M.count y.machine ≡ M.count x.machine

takes : {S : Type 0} (M : Machine S) (i : Input) (x : Node S) (s : S) → Counts M → M.take x.machine i ≡ Some s
    → (q : Role) → Serving q → TakesInput M i x (took M x q s i)
takes M i x s counts e Primary v =
    record { role = refl; list = refl; count = counts.by_input x.machine s i e }
takes M i x s counts e Alone v = record { role = refl; list = refl; count = counts.by_input x.machine s i e }
takes M i x s counts e Backup (inl v) = (cc)
takes M i x s counts e Backup (inr v) = (cc)
takes M i x s counts e Joining (inl v) = (cc)
takes M i x s counts e Joining (inr v) = (cc)
takes M i x s counts e Draining (inl v) = (cc)
takes M i x s counts e Draining (inr v) = (cc)
takes M i x s counts e Spare (inl v) = (cc)
takes M i x s counts e Spare (inr v) = (cc)

took_station : {B H S : Type 0} (state : B → S) (M : Machine S) (C : Copying S) (drives : ℕ) (i : Input) (h new : Station B H) (x y : Node S)
    → Serving x.role → TakesInput M i x y → IsStation state M C drives h x → IsNode state M C drives new.node y
    → new.inputs ≡ h.inputs ++ timed h.count i ∷ [] → new.count ≡ h.count → IsStation state M C drives new y
took_station state M C drives i h new x y serve t is now e c =
    let later : Serving y.role = subst (λ q. Serving q) (sym t.role) serve in
    let count : h.count ≡ M.count x.machine = is.count ∙ machine_count M x serve in
    record {
      node = now;
      inputs = e ∙ ap (λ ts. ts ++ timed h.count i ∷ []) (is.inputs ∙ own_inputs x serve)
          ∙ ap (λ n. x.list ++ timed n i ∷ []) count ∙ sym t.list ∙ sym (own_inputs y later);
      count = c ∙ count ∙ sym t.count ∙ sym (machine_count M y later);
      a_node = λ s. is.a_node (sym t.role ∙ s);
    }

-- a node that may accept an input serves
serves_in : {B H S : Type 0} (state : B → S) (M : Machine S) (C : Copying S) (drives : ℕ) (node : code.Node B H) (b : B) (x : Node S)
    → board_of node ≡ Some b → IsNode state M C drives node x → Serving x.role
serves_in state M C drives (node.Primary p) b x is shown = inl shown.role
serves_in state M C drives (node.Alone a) b x is shown = inr shown.role
serves_in state M C drives (node.Backup f) b x is shown = absurd cc
serves_in state M C drives (node.Joining j) b x is shown = absurd cc
serves_in state M C drives (node.Draining d) b x is shown = absurd cc
serves_in state M C drives (node.Halted h) b x is shown = absurd cc

pub accepts : {B H S : Type 0} (state : B → S) (M : Machine S) (C : Copying S) (drives : ℕ) (i : Input) (h new : Station B H) (x : Node S) → Counts M
    → MayAccept state M h.node i → IsStation state M C drives h x → Makes x (Took M i) (IsNode state M C drives new.node)
    → new.inputs ≡ h.inputs ++ timed h.count i ∷ [] → new.count ≡ h.count → Makes x (Took M i) (IsStation state M C drives new)
accepts state M C drives i h new x counts may is made e c =
    let role = serves_in state M C drives h.node may.board x may.takes is.node in
    let t = made.done in
    record {
      y = made.y;
      done = t;
      after =
          took_station state M C drives i h new x made.y role
          (subst (TakesInput M i x) (sym t.after) (takes M i x t.s counts t.takes x.role role)) is made.after e c;
    }

-- there is no room for an input
pub no_room : {S : Type 0} (does : Unit {0} → Node S → Node S → Type 0) (x : Node S) (result : Result (Unit {0}) Fault)
    (Is : Node S → Type 0) (fault : Fault) → IsErrAnd result (λ k. k ≡ fault) → fault ≡ OutOfMemory → Is x
    → Call None Ever does x result Is
no_room does x (Ok done) Is fault is memory stays = absurd is
no_room does x (Err k) Is fault is memory stays = (is ∙ memory, (tt, stays))
