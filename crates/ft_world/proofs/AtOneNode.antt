-- An event at one node: its row follows from what it does at that node, since every other node stays, the node keeps its
-- generation, and it is a backup afterwards exactly if it was one before.
use Rattle.ft_world.proofs.Words.{Accepts, Applies, AreHosts, AtNode, Course, Does, Event, Fault, Gives, Guest, Host, Leaves, Machine, MayNeedMemory, NeedsMemory, Never, Node, OfNode, OutOfMemory, Record, Refuses, Reply, Row, Running, Shows, Unless, World, at_node, first_of, machine_of, node-passed, refusal, reply_of, with_node}
use Rattle.std.proofs.Common.{◌≡◌, ◌∷◌, ◌∙◌, [], Err, List, None, Ok, Some, ap, inl, inr, refl, subst, sym, ℕ}
use Rattle.std.specs.Prelude.{Option, slice_get, ◌⊎◌}
use Rattle.pair_protocol.specs.Reply.{Refused}
use Rattle.ft_world.proofs.AtHosts.{AsksNode, AtHost, Becomes}
use Rattle.ft_world.proofs.Applying.{applies, refuses, unchanged, needs_memory}
use Rattle.ft_world.proofs.AtNodes.{with_hosts, with_one_host}
use Rattle.ft_world.proofs.Keeping.{Stays}

-- what a call returned, or why it was refused
pub call_done : {A : Type 0} (o : Option Fault) (value : A) (stays W : Type 0) (does : A → Type 0) →
    Unless o (Ok value) stays (Gives (Ok value) W does) → (o ≡ None) × does value
call_done None value stays W does d = (refl, d)
call_done (Some f) value stays W does (e, s) = absurd (cc)

pub call_refused : (A : Type 0) (o : Option Fault) (fault : Fault) (stays W : Type 0) (does : A → Type 0) →
    Unless {A = A} o (Err fault) stays (Gives {A = A} (Err fault) W does) →
    ((o ≡ Some fault) × stays) ⊎ ((o ≡ None) × (fault ≡ OutOfMemory) × W)
call_refused A None fault stays W does (e, s) = inr (refl, e, s)
call_refused A (Some f) fault stays W does (e, s) = inl (let k : f ≡ fault = (cc) in ap Some k, s)

-- what is done to the node may be said of a machine that begins elsewhere
pub elsewhere : {S : Type 0} {w new : World S} {n : ℕ} {does also : Node S → Node S → Type 0} →
    ((x y : Node S) → does x y → also x y) → AtNode w n does new → AtNode w n also new
elsewhere also at =
    record { x = at.x; there = at.there; y = at.y; done = also at.x at.y at.done; after = at.after }

pub elsewhere_of : {S : Type 0} {w : World S} {n : ℕ} {says also : Node S → Type 0} →
    ((x : Node S) → says x → also x) → OfNode w n says → OfNode w n also
elsewhere_of also at = record { x = at.x; there = at.there; said = also at.x at.said }

-- ---- an event that changes a node

module _ {B H D S : Type 0} {state : B → S} {copied : B → Guest} {M : Machine S} {records : D → List Record} {old : Running B H D}
    {c : Course S} (h : Shows state copied M records old c) where
  pub node_applies : {A : Type 0} (e : Event) (r : Reply) {n : ℕ} {part : Node S → Option Fault}
      {needs : Node S → Type 0} {does : A → Node S → Node S → Type 0} {value : A} (hosts : List (Host B H)) →
      refusal (machine_of M c) c.copying c.world e ≡ at_node (slice_get c.world.nodes n) part →
      ((x y : Node S) → part x ≡ None → does value x y → Stays x y) →
      ((new : World S) → AtNode c.world n (does value) new →
      Does (machine_of M c) c.copying c.world e (reply_of r) new) →
      AtHost state M c.copying h.drives c.world n part needs does (Ok value) hosts →
      Applies state copied M records c e (Ok r) (record old { hosts = hosts })
  node_applies e r {n} {part} {needs} {does} {value} hosts free stays row a =
      let k = call_done (at_node (slice_get c.world.nodes n) part) value (AreHosts state M c.copying h.drives hosts c.world.nodes)
      (OfNode c.world n needs × AreHosts state M c.copying h.drives hosts c.world.nodes) (λ v. Becomes state M c.copying h.drives c.world.nodes n hosts (does v)) a.answer in
      let x = k.1.x in
      let y = k.1.y in
      let same = stays x y (node-passed (slice_get c.world.nodes n) x part k.1.there k.0).1 k.1.done in
      applies state copied M records old c e (Ok r) (with_node c.world n y) (record old { hosts = hosts }) h
      (Accepts (free ∙ k.0)
      (row (with_node c.world n y) (record { x = x; there = k.1.there; y = y; done = k.1.done; after = refl })))
      (with_one_host state M records h.drives old c hosts n x y h.parts k.1.there same.generation same.backup k.1.after)

  -- it is refused as the node refuses it, or is out of memory
  pub node_refused : {A : Type 0} (e : Event) {n : ℕ} {part : Node S → Option Fault} {needs : Node S → Type 0}
      {does : A → Node S → Node S → Type 0} (fault : Fault) (hosts : List (Host B H)) →
      refusal (machine_of M c) c.copying c.world e ≡ at_node (slice_get c.world.nodes n) part →
      (OfNode c.world n needs → MayNeedMemory (machine_of M c) c.world e) →
      Leaves c.world e fault c.world →
      AtHost state M c.copying h.drives c.world n part needs does (Err fault) hosts →
      Applies state copied M records c e (Err fault) (record old { hosts = hosts })
  node_refused {A} e {n} {part} {needs} {does} fault hosts free takes leaves a =
      elim (call_refused A (at_node (slice_get c.world.nodes n) part) fault (AreHosts state M c.copying h.drives hosts c.world.nodes)
      (OfNode c.world n needs × AreHosts state M c.copying h.drives hosts c.world.nodes)
      (λ v. Becomes state M c.copying h.drives c.world.nodes n hosts (does v)) a.answer) [
        | inl k ↦ unchanged state copied M records old (record old { hosts = hosts }) c e fault h
            (with_hosts state M records h.drives old c hosts h.parts k.1) (Refuses (free ∙ k.0) leaves)
        | inr k ↦ unchanged state copied M records old (record old { hosts = hosts }) c e fault h
            (with_hosts state M records h.drives old c hosts h.parts k.2.1)
            (subst (λ f. Row (machine_of M c) c.copying c.world e (Refused f) c.world)
            (sym k.1) (NeedsMemory (free ∙ k.0) (takes k.2.0)))
      ]

  -- ---- an event that asks a node

  pub asks_refused : {A : Type 0} (e : Event) {n : ℕ} {part : Node S → Option Fault} {needs : Node S → Type 0}
      {says : A → Node S → Type 0} (fault : Fault) →
      refusal (machine_of M c) c.copying c.world e ≡ at_node (slice_get c.world.nodes n) part →
      (OfNode c.world n needs → MayNeedMemory (machine_of M c) c.world e) →
      Leaves c.world e fault c.world → AsksNode c.world n part needs says (Err fault) →
      Applies state copied M records c e (Err fault) old
  asks_refused {A} e {n} {part} {needs} {says} fault free takes leaves a =
      elim (call_refused A (at_node (slice_get c.world.nodes n) part) fault (Unit {0}) (OfNode c.world n needs)
      (λ v. OfNode c.world n (says v)) a.answer) [
        | inl k ↦ refuses state copied M records old old c e fault h refl (free ∙ k.0) leaves
        | inr k ↦ needs_memory state copied M records old old c e fault h refl (free ∙ k.0) (takes k.2) k.1
      ]

pub node_asked : {A S : Type 0} (w : World S) (n : ℕ) (part : Node S → Option Fault) {needs : Node S → Type 0}
    {says : A → Node S → Type 0} (value : A) → AsksNode w n part needs says (Ok value) →
    (at_node (slice_get w.nodes n) part ≡ None) × OfNode w n (says value)
node_asked w n part {needs} {says} value a =
    call_done (at_node (slice_get w.nodes n) part) value (Unit {0}) (OfNode w n needs) (λ v. OfNode w n (says v))
    a.answer

-- it needs no memory, so it is refused as the node refuses it
pub node_asked_not : {A S : Type 0} (w : World S) (n : ℕ) (part : Node S → Option Fault)
    {says : A → Node S → Type 0} (fault : Fault) → AsksNode w n part Never says (Err fault) →
    at_node (slice_get w.nodes n) part ≡ Some fault
node_asked_not {A} w n part {says} fault a =
    elim (call_refused A (at_node (slice_get w.nodes n) part) fault (Unit {0}) (OfNode w n Never)
    (λ v. OfNode w n (says v)) a.answer) [
      | inl k ↦ k.0
      | inr k ↦ absurd k.2.said
    ]

-- ---- the order of refusals

-- the world's part refuses nothing, so what is left is the node's part
pub second_of : (first second : Option Fault) → first ≡ None → first_of (first ∷ second ∷ []) ≡ second
second_of first second none = ap (λ o. first_of (o ∷ second ∷ [])) none ∙ only second
  where
    only : (second : Option Fault) → first_of (None ∷ second ∷ []) ≡ second
    only None = refl
    only (Some fault) = refl

pub first_stands : (first second : Option Fault) (fault : Fault) → first ≡ Some fault →
    first_of (first ∷ second ∷ []) ≡ Some fault
first_stands first second fault is = ap (λ o. first_of (o ∷ second ∷ [])) is
