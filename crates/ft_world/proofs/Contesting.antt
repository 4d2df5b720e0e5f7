-- A node asks the arbiter. If the node itself does not refuse, the world's answer is the arbiter's: the first node to
-- ask for a generation has won it, a winner that asks again changes nothing, and any other node has lost, and is
-- halted.
use Rattle.ft_world.proofs.Words.{Accepts, Applies, AreHosts, Asking, Course, Fault, Guest, Host, Joining, Leaves, Lost, Machine, NeedsMemory, Node, NotWhole, Record, Refuses, Row, Running, Shows, Spare, SuspectsOf, Unknown, Unless, Won, World, WrongRole, after_asking, ask_refusal, at_node, fault_if, first_of, halts, is_other, is_role, machine_of, refusal, same_some, set_get, suspect_refusal, winner_in, winner_of, with_node, with_winner}
use Rattle.std.proofs.Common.{◌≡◌, [], ◌∷◌, ◌∙◌, ◌⊎◌, Bool, Err, List, None, Ok, Some, ap, eq-eqb, false, inl, inr, ne_eqb, not, refl, subst, sym, true, ℕ}
use Rattle.std.specs.Prelude.{if◌then◌else◌, Option, slice_get, slice_set}
use Rattle.pair_protocol.specs.Reply as protocol
use Rattle.ft_world.proofs.AtHosts.{Asked, AsksHost}
use Rattle.pair_events.specs.declared.event.Event.TheVariants as event
use Rattle.pair_events.specs.declared.reply.Reply.TheVariants as reply
use Rattle.ft_world.proofs.AtOneNode.{second_of}
use Rattle.ft_world.proofs.AtNodes.{with_hosts, with_one_host}
use Rattle.ft_world.proofs.Applying.{applies, unchanged}
use Rattle.ft_world.proofs.Winning.{with_one_winner}

-- ---- the refusals

-- as the node refuses it, before the arbiter is asked
abbrev own : Bool → Bool → Bool → Option Fault
own spare down joining =
    if spare then Some Unknown else first_of (fault_if down WrongRole ∷ fault_if joining NotWhole ∷ [])

-- the arbiter's answer comes after that
abbrev both : Bool → Bool → Bool → Option Fault → Option Fault
both spare down joining lost =
    if spare then Some Unknown
    else first_of (first_of (fault_if down WrongRole ∷ fault_if joining NotWhole ∷ []) ∷ lost ∷ [])

own_first : (spare down joining : Bool) (lost : Option Fault) (fault : Fault) → own spare down joining ≡ Some fault →
    both spare down joining lost ≡ Some fault
own_first true down joining lost fault e = e
own_first false true joining lost fault e = e
own_first false false true lost fault e = e
own_first false false false lost fault e = absurd (cc)

own_passed : (spare down joining : Bool) (lost : Option Fault) → own spare down joining ≡ None →
    both spare down joining lost ≡ lost
own_passed true down joining lost e = absurd (cc)
own_passed false true joining lost e = absurd (cc)
own_passed false false true lost e = absurd (cc)
own_passed false false false lost e = second_of None lost refl

-- so the world stays
own_leaves : {S : Type 0} (w : World S) (n : ℕ) (spare down joining : Bool) (fault : Fault) →
    own spare down joining ≡ Some fault → Leaves w (event.Suspect n) fault w
own_leaves w n true down joining fault e =
    subst (λ f. Leaves w (event.Suspect n) f w) (same_some Unknown fault (Some Unknown) refl e) refl
own_leaves w n false true joining fault e =
    subst (λ f. Leaves w (event.Suspect n) f w) (same_some WrongRole fault (Some WrongRole) refl e) refl
own_leaves w n false false true fault e =
    subst (λ f. Leaves w (event.Suspect n) f w) (same_some NotWhole fault (Some NotWhole) refl e) refl
own_leaves w n false false false fault e = absurd (cc)

refused_first : {S : Type 0} (w : World S) (n : ℕ) (here : Option (Node S)) (fault : Fault) →
    at_node here suspect_refusal ≡ Some fault →
    (at_node here (ask_refusal w n) ≡ Some fault) × Leaves w (event.Suspect n) fault w
refused_first w n None fault e =
    (e, subst (λ f. Leaves w (event.Suspect n) f w) (same_some Unknown fault (Some Unknown) refl e) refl)
refused_first w n (Some x) fault e = (
  own_first (is_role x.role Spare) (not x.running) (is_role x.role Joining)
      (fault_if (is_other (winner_in w.winners x.generation) n) Lost) fault e,
  own_leaves w n (is_role x.role Spare) (not x.running) (is_role x.role Joining) fault e,
)

-- past the node's own refusal, what is left is whether the other node has asked first
left : {S : Type 0} (w : World S) (n : ℕ) (here : Option (Node S)) (x : Node S) → here ≡ Some x →
    at_node here suspect_refusal ≡ None →
    at_node here (ask_refusal w n) ≡ fault_if (is_other (winner_in w.winners x.generation) n) Lost
left w n None x at e = absurd (cc)
left {S} w n (Some y) x at e =
    own_passed (is_role y.role Spare) (not y.running) (is_role y.role Joining)
    (fault_if (is_other (winner_in w.winners y.generation) n) Lost) e
    ∙ ap (λ (z : Node S). fault_if (is_other (winner_in w.winners z.generation) n) Lost)
    (same_some y x (Some y) refl at)

-- ---- the node asks

-- it is refused, and nothing changes
stays : {B H D S : Type 0} (state : B → S) (copied : B → Guest) (M : Machine S) (records : D → List Record) (old : Running B H D)
    (c : Course S) (n : ℕ) (fault : Fault) (hosts : List (Host B H)) (askings : List Asking) →
    (h : Shows state copied M records old c) → AreHosts state M c.copying h.drives hosts c.world.nodes → askings ≡ old.askings →
    Row (machine_of M c) c.copying c.world (event.Suspect n) (protocol.Refused fault) c.world →
    Applies state copied M records c (event.Suspect n) (Err fault) (record old { hosts = hosts; askings = askings })
stays state copied M records old c n fault hosts askings h are same row =
    subst (λ l. Applies state copied M records c (event.Suspect n) (Err fault) (record old { hosts = hosts; askings = l }))
    (sym same)
    (unchanged state copied M records old (record old { hosts = hosts }) c (event.Suspect n) fault h
    (with_hosts state M records h.drives old c hosts h.parts are) row)

-- its own number is not another's
not_other : (winner n : ℕ) → winner ≡ n → fault_if (is_other (Some winner) n) Lost ≡ None
not_other winner n e = ap (λ b. fault_if (not b) Lost) (eq-eqb winner n e)

is_another : (winner n : ℕ) → (winner ≡ n → ⊥) → fault_if (is_other (Some winner) n) Lost ≡ Some Lost
is_another winner n e = ap (λ b. fault_if (not b) Lost) (ne_eqb winner n e)

-- it has won, or had won before
wins_it : {B H D S : Type 0} (state : B → S) (copied : B → Guest) (M : Machine S) (records : D → List Record) (old : Running B H D)
    (c : Course S) (n : ℕ) (won : Won) (hosts : List (Host B H)) (askings : List Asking) (x : Node S)
    (winner : Option ℕ) → (h : Shows state copied M records old c) → slice_get c.world.nodes n ≡ Some x →
    winner_of old.askings x.generation ≡ winner →
    refusal (machine_of M c) c.copying c.world (event.Suspect n) ≡ fault_if (is_other winner n) Lost →
    SuspectsOf winner old.askings n x (Ok won) askings (λ y. AreHosts state M c.copying h.drives hosts (slice_set c.world.nodes n y)) →
    Applies state copied M records c (event.Suspect n) (Ok reply.Won) (record old { hosts = hosts; askings = askings })
wins_it state copied M records old c n won hosts askings x None h there is free (asked, are) =
    subst (λ l. Applies state copied M records c (event.Suspect n) (Ok reply.Won) (record old { hosts = hosts; askings = l }))
    (sym asked)
    (applies state copied M records old c (event.Suspect n) (Ok reply.Won) (with_winner c.world n x)
    (record old { hosts = hosts; askings = after_asking old.askings x.generation n }) h
    (Accepts free
    (record {
      x = x;
      there = there;
      reply = refl;
      after = inl (sym (h.parts.winners x.generation) ∙ is, refl);
    }))
    (with_one_winner state M records h.drives old c hosts n x h.parts there is are))
wins_it state copied M records old c n won hosts askings x (Some winner) h there is free (own, same, are) =
    subst (λ l. Applies state copied M records c (event.Suspect n) (Ok reply.Won) (record old { hosts = hosts; askings = l }))
    (sym same)
    (applies state copied M records old c (event.Suspect n) (Ok reply.Won) c.world (record old { hosts = hosts }) h
    (Accepts (free ∙ not_other winner n own)
    (record {
      x = x;
      there = there;
      reply = refl;
      after = inr (sym (h.parts.winners x.generation) ∙ is ∙ ap Some own, refl);
    }))
    (with_hosts state M records h.drives old c hosts h.parts
    (subst (AreHosts state M c.copying h.drives hosts) (set_get c.world.nodes n x there) are)))

-- it is out of memory, or it has lost and is halted
loses_it : {B H D S : Type 0} (state : B → S) (copied : B → Guest) (M : Machine S) (records : D → List Record) (old : Running B H D)
    (c : Course S) (n : ℕ) (fault : Fault) (hosts : List (Host B H)) (askings : List Asking) (x : Node S)
    (winner : Option ℕ) → (h : Shows state copied M records old c) → slice_get c.world.nodes n ≡ Some x →
    winner_of old.askings x.generation ≡ winner →
    refusal (machine_of M c) c.copying c.world (event.Suspect n) ≡ fault_if (is_other winner n) Lost →
    SuspectsOf winner old.askings n x (Err fault) askings (λ y. AreHosts state M c.copying h.drives hosts (slice_set c.world.nodes n y)) →
    Applies state copied M records c (event.Suspect n) (Err fault) (record old { hosts = hosts; askings = askings })
loses_it state copied M records old c n fault hosts askings x None h there is free (needs, same, are) =
    stays state copied M records old c n fault hosts askings h
    (subst (AreHosts state M c.copying h.drives hosts) (set_get c.world.nodes n x there) are) same
    (subst (λ f. Row (machine_of M c) c.copying c.world (event.Suspect n) (protocol.Refused f) c.world) (sym needs)
    (NeedsMemory free
    (record { x = x; there = there; said = sym (h.parts.winners x.generation) ∙ is })))
loses_it state copied M records old c n fault hosts askings x (Some winner) h there is free (other, lost, same, are) =
    subst
    (λ l. Applies state copied M records c (event.Suspect n) (Err fault) (record old { hosts = hosts; askings = l }))
    (sym same)
    (subst
    (λ f. Applies state copied M records c (event.Suspect n) (Err f) (record old { hosts = hosts })) (sym lost)
    (applies state copied M records old c (event.Suspect n) (Err Lost) (with_node c.world n (halts x))
    (record old { hosts = hosts }) h
    (Refuses (free ∙ is_another winner n other) (record { x = x; there = there; y = halts x; done = refl; after = refl }))
    (with_one_host state M records h.drives old c hosts n x (halts x) h.parts there refl refl are)))

-- past the node's own refusal
not_refused : {A : Type 0} (o : Option Fault) (value : A) (kept does : Type 0) →
    Unless {A = A} o (Ok value) kept does → (o ≡ None) × does
not_refused None value kept does d = (refl, d)
not_refused (Some f) value kept does d = let k = d.0 in absurd (cc)

refused_or : (A : Type 0) (o : Option Fault) (fault : Fault) (kept does : Type 0) →
    Unless {A = A} o (Err fault) kept does → ((o ≡ Some fault) × kept) ⊎ ((o ≡ None) × does)
refused_or A None fault kept does d = inr (refl, d)
refused_or A (Some f) fault kept does d = let k = d.0 in inl (let e : f ≡ fault = (cc) in ap Some e, d.1)

-- whether the other node has asked first is the same here and in the world
asked_first : {S : Type 0} (w : World S) (n : ℕ) (x : Node S) (winner : Option ℕ) →
    winner ≡ winner_in w.winners x.generation →
    fault_if (is_other (winner_in w.winners x.generation) n) Lost ≡ fault_if (is_other winner n) Lost
asked_first w n x winner e = ap (λ o. fault_if (is_other o n) Lost) (sym e)

pub suspects_applies : {B H D S : Type 0} (state : B → S) (copied : B → Guest) (M : Machine S) (records : D → List Record)
    (old : Running B H D) (c : Course S) (n : ℕ) (won : Won) (hosts : List (Host B H)) (askings : List Asking) →
    (h : Shows state copied M records old c) → AsksHost state M c.copying h.drives c.world.nodes n old.askings (Ok won) hosts askings →
    Applies state copied M records c (event.Suspect n) (Ok reply.Won) (record old { hosts = hosts; askings = askings })
suspects_applies state copied M records old c n won hosts askings h a =
    let here = slice_get c.world.nodes n in
    let k = not_refused (at_node here suspect_refusal) won
    (AreHosts state M c.copying h.drives hosts c.world.nodes × (askings ≡ old.askings))
    (Asked state M c.copying h.drives c.world.nodes n old.askings (Ok won) hosts askings) a in
    let x = k.1.x in
    let winner = winner_of old.askings x.generation in
    wins_it state copied M records old c n won hosts askings x winner h k.1.there refl
    (left c.world n here x k.1.there k.0 ∙ asked_first c.world n x winner (h.parts.winners x.generation)) k.1.answer

pub suspects_refused : {B H D S : Type 0} (state : B → S) (copied : B → Guest) (M : Machine S) (records : D → List Record)
    (old : Running B H D) (c : Course S) (n : ℕ) (fault : Fault) (hosts : List (Host B H)) (askings : List Asking) →
    (h : Shows state copied M records old c) → AsksHost state M c.copying h.drives c.world.nodes n old.askings (Err fault) hosts askings →
    Applies state copied M records c (event.Suspect n) (Err fault) (record old { hosts = hosts; askings = askings })
suspects_refused state copied M records old c n fault hosts askings h a =
    let here = slice_get c.world.nodes n in
    elim (refused_or Won (at_node here suspect_refusal) fault
    (AreHosts state M c.copying h.drives hosts c.world.nodes × (askings ≡ old.askings))
    (Asked state M c.copying h.drives c.world.nodes n old.askings (Err fault) hosts askings) a) [
      | inl p ↦ (let r = refused_first c.world n here fault p.0 in
          stays state copied M records old c n fault hosts askings h p.1.0 p.1.1 (Refuses r.0 r.1))
      | inr p ↦ loses_it state copied M records old c n fault hosts askings p.1.x
          (winner_of old.askings p.1.x.generation) h p.1.there refl
          (left c.world n here p.1.x p.1.there p.0
          ∙ asked_first c.world n p.1.x (winner_of old.askings p.1.x.generation) (h.parts.winners p.1.x.generation))
          p.1.answer
    ]
