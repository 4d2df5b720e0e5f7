-- A node begins the next generation with the copy of its machine, and another one is given the parts: their stations keep
-- the inputs and the count by which they settle.
use Rattle.ft_world.proofs.Words.{Again, Alone, Call, Comes, Completes, Copying, Fault, GotPart, IsNode, IsOpening, IsStation, Joining, Machine, Node, Opening, Opens, Station, begun, count_in, first-passed, gets_part, list_of}
use Rattle.std.proofs.Common.{◌≡◌, ◌∙◌, ◌∷◌, [], ℕ, List, None, Ok, Option, Result, Some, ap, refl, subst, sym}
use Rattle.clone_state.specs.Parts.{PartMessage}
use Rattle.pair_protocol.specs.Reply as event
use Rattle.pair_protocol.specs.Refusals as refusals
use Rattle.ft_node.specs.Calls as calls
use Rattle.ft_node.specs.declared.node.Node as code
use Rattle.ft_node.specs.declared.ran.NextGeneration.{NextGeneration}
use Rattle.ft_node.specs.declared.ran.PartCame.{PartCame}
use Rattle.ft_world.proofs.Answering.{Retells, retold, unless}
use Rattle.ft_world.proofs.AtOneNode.{call_done}
use Rattle.ft_world.proofs.Keeping.{Kept, acting_role, same_count}
use Rattle.ft_world.proofs.Stations.{stays_on, unmoved}

-- ---- a node begins

pub alone_role : {S : Type 0} (x : Node S) → refusals.begin_pair_refusal x ≡ None → x.role ≡ Alone
alone_role x free = acting_role x Alone (first-passed (refusals.role_refusal (Alone ∷ []) x) _ free).0

pub may_begin : {S : Type 0} (drives : ℕ) (x : Node S) (next : NextGeneration) → calls.MayBegin drives x (Ok next)
    → (refusals.begin_pair_refusal x ≡ None) × calls.IsNext drives next x
may_begin drives x next may =
    call_done (refusals.begin_pair_refusal x) next (Unit {0}) (calls.Never x) (λ v. calls.IsNext drives v x) may

module _ {B H S : Type 0} (state : B → S) (M : Machine S) (C : Copying S) (drives : ℕ) where
  begun_station : (h : Station B H) (node : code.Node B H) (x : Node S) → x.role ≡ Alone → IsStation state M C drives h x
      → IsNode state M C drives node (begun M x) → IsStation state M C drives (record h { node = node }) (begun M x)
  begun_station h node x alone is now = record {
    node = now;
    inputs = is.inputs ∙ ap (list_of x) alone;
    count = is.count ∙ ap (count_in M x) alone;
    a_node = λ s. (cc);
  }

  pub begins_on : (h : Station B H) (node : code.Node B H) (opening : Opening) (next : NextGeneration) (generation : ℕ)
      (x : Node S) → IsStation state M C drives h x → calls.MayBegin drives x (Ok next)
      → calls.BeginsPair M x (Ok generation) (IsNode state M C drives node)
      → IsOpening next h.inputs h.count opening
      → Call (refusals.begin_pair_refusal x) calls.Ever (λ opening. Opens M drives opening h.inputs h.count) x (Ok opening)
      (IsStation state M C drives (record h { node = node }))
  begins_on h node opening next generation x is may begins given =
      let m = may_begin drives x next may in
      let b = call_done (refusals.begin_pair_refusal x) generation (IsNode state M C drives node x)
      (calls.Ever x × IsNode state M C drives node x) (λ v. calls.Makes x (calls.Begun M v) (IsNode state M C drives node))
      begins in
      let now : IsNode state M C drives node (begun M x) = subst (IsNode state M C drives node) b.1.done.1 b.1.after in
      subst
      (λ o. Call o calls.Ever (λ opening. Opens M drives opening h.inputs h.count) x (Ok opening)
      (IsStation state M C drives (record h { node = node })))
      (sym m.0)
      (record {
        y = begun M x;
        done = record {
          generation = given.generation ∙ m.1.generation;
          drives_are = given.drives_are ∙ m.1.drives_are;
          reads_are = given.reads_are ∙ m.1.reads_are;
          same_inputs = given.same_inputs;
          same_count = given.same_count;
          after = refl;
        };
        after = begun_station h node x (alone_role x m.0) is now;
      })

-- ---- a part comes

joining_role : {S : Type 0} (C : Copying S) (m : PartMessage) (x : Node S) → calls.part_refusal C m x ≡ None
    → x.role ≡ Joining
joining_role C m x free =
    let comes = (first-passed (refusals.part_comes_refusal m.generation x) _ free).0 in
    acting_role x Joining (first-passed (refusals.role_refusal (Joining ∷ []) x) _ comes).0

module _ {B H S : Type 0} (state : B → S) (M : Machine S) (C : Copying S) (drives : ℕ) (h : Station B H)
    (node : code.Node B H) where
  -- whatever a part is to a joining node, the station's inputs and count stay
  got_station : (index : ℕ) (part : List ℕ) {r : event.Reply} {x y : Node S} → GotPart C index part x r y
      → x.role ≡ Joining → IsStation state M C drives h x → IsNode state M C drives node y
      → IsStation state M C drives (record h { node = node }) y
  got_station index part {x = x} (Again before) role is now = stays_on state M C drives h node x x is (kept_now x) refl now
    where
      kept_now : (x : Node S) → Kept x x
      kept_now x = record { role = refl; generation = refl; list = refl; copy = refl; start = refl; held = refl }
  got_station index part {x = x} (Comes missing rest) role is now =
      stays_on state M C drives h node x (gets_part x index part) is kept
      (same_count M x (gets_part x index part) x.role kept refl) now
    where
      kept : Kept x (gets_part x index part)
      kept = record { role = refl; generation = refl; list = refl; copy = refl; start = refl; held = refl }
  got_station index part {x = x} (Completes parts s missing all made) role is now = record {
    node = now;
    inputs = is.inputs ∙ ap (list_of x) role;
    count = is.count ∙ ap (count_in M x) role;
    a_node = λ e. (cc);
  }

  pub gets_on : (o : Option PartMessage) (r : Result PartCame Fault) (x : Node S) → IsStation state M C drives h x
      → calls.GetsPart C o x r (IsNode state M C drives node)
      → calls.GetsPart C o x r (IsStation state M C drives (record h { node = node }))
  gets_on None r x is d =
      unless _ r (IsNode state M C drives node x) (IsStation state M C drives (record h { node = node }) x) ⊥ ⊥
      (unmoved state M C drives h node x is) (λ no. no) d
  gets_on (Some m) r x is d =
      let t : Retells {A = PartCame} {S = S} (calls.part_refusal C m x) (calls.IsLast m) (calls.IsLast m)
      (λ v x y. GotPart C m.index m.payload x (calls.part_reply v) y) x (IsNode state M C drives node)
      (IsStation state M C drives (record h { node = node })) =
      record {
        stays = unmoved state M C drives h node x is;
        needing = λ last. last;
        becomes = λ v y free got now. got_station m.index m.payload {r = calls.part_reply v} {x = x} {y = y} got
            (joining_role C m x free) is now;
      } in
      retold r t d
