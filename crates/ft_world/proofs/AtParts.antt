-- A part of an image is sent, and arrives at a joining node. A part that was sent is of a machine that was run from boot, so
-- it is read again from its message, and the parts that arrived fit one machine: nothing refuses the last one as malformed.
use Rattle.ft_world.proofs.Words.{After, Again, Agree, Applies, Call, Comes, Completes, Copying, Course, Ever, Fault, GetsPart, GotPart, Guest, Host, IsLast, IsMessage, Joining, Machine, Malformed, Message, Node, Reached, Record, Reply, Running, Says, Shows, SpellsPart, Unknown, WrongGeneration, acts-in, among-get, at_part, fault_if, first-passed, first_of, gathered, generation_refusal, get_set, gets_part, is_backup, machine_of, only-passed, part_comes_refusal, part_of, part_refusal, passes-if, reply_of, role_refusal, same_some, send_part_refusal, with_node}
use Rattle.std.proofs.Common.{◌≡◌, ◌∙◌, [], ◌∷◌, ℕ, ◌<◌, ◌^◌, Err, List, None, Ok, Option, Result, Some, ap, eqb-true, false, is_some, refl, subst, sym, true}
use Rattle.std.specs.Global.{Vec}
use Rattle.std.specs.Option.{option_and_then}
use Rattle.std.specs.Prelude.{is_none, slice_get, slice_index_or, ◌==◌}
use Rattle.clone_state.specs.Image.{part_bytes}
use Rattle.clone_state.specs.Parts.{PartMessage, guest_in, message_at}
use Rattle.clone_state.proofs.PartsRead.{parts_read}
use Rattle.pair_protocol.specs.Reply as protocol
use Rattle.pair_protocol.specs.World as world
use Rattle.pair_protocol.proofs.Promises.Joining.{joining_is_given, parts_are_of_machines}
use Rattle.ft_node.specs.Calls as calls
use Rattle.ft_node.specs.declared.ran.PartCame.{PartCame}
use Rattle.pair_events.specs.declared.event.Event.TheVariants as event
use Rattle.ft_world.specs.declared.message.Message.TheVariants as message
use Rattle.ft_world.proofs.Applying.{refuses}
use Rattle.ft_world.proofs.AtHosts.{AsksNode, AtHost}
use Rattle.ft_world.proofs.AtOneNode.{asks_refused, elsewhere, node_applies, node_asked, node_refused}
use Rattle.ft_world.proofs.Keeping.{Stays, acting_role}
use Rattle.ft_world.proofs.Sending.{says_applies}

-- ---- a primary sends a part of its image

-- the bytes spell the part of an index
abbrev pub SpellsIt : {S : Type 0} → Copying S → ℕ → Vec ℕ → Node S → Type 0
SpellsIt C index bytes x = SpellsPart C index x bytes

module _ {B H D S : Type 0} (state : B → S) (copied : B → Guest) (M : Machine S) (records : D → List Record)
    (old : Running B H D) (c : Course S) (n index : ℕ) (h : Shows state copied M records old c) where
  pub sends_part_refused : (fault : Fault)
      → AsksNode c.world n (send_part_refusal c.copying index) Ever (SpellsIt c.copying index) (Err fault)
      → Applies state copied M records c (event.SendPart n index) (Err fault) old
  sends_part_refused fault a = asks_refused h (event.SendPart n index) fault refl (λ s. tt) refl a

  pub sends_part_applies : (bytes : Vec ℕ) (answer : Result Reply Fault) (ms : List Message)
      → AsksNode c.world n (send_part_refusal c.copying index) Ever (SpellsIt c.copying index) (Ok bytes)
      → Says old.messages (message.Part bytes) answer ms
      → Applies state copied M records c (event.SendPart n index) answer (record old { messages = ms })
  sends_part_applies bytes answer ms a said =
      let k = node_asked c.world n (send_part_refusal c.copying index) bytes a in
      let x = k.1.x in
      let s = k.1.said in
      says_applies state copied M records old c (event.SendPart n index) (message.Part bytes)
      (world.ImagePart x.generation index s.part) answer ms h (s.spelled, s.first, s.within) k.0 tt
      (record {
        part = s.part;
        node = record { x = x; there = k.1.there; said = s.has };
        says = record { reply = refl; after = refl };
      })
      said

-- ---- a message brings a part

-- the message is a part, which these bytes spell
pub record BringsPart (q : Option world.Message) (bytes : List ℕ) : Type 0 where
  pub generation : ℕ
  pub index : ℕ
  pub part : List ℕ
  pub message : q ≡ Some (world.ImagePart generation index part)
  pub spelled : bytes ≡ part_bytes generation index part
  pub first : 0 < generation
  pub within : generation < 2 ^ 32

pub brings_part : (o : Option Message) (q : Option world.Message) (bytes : List ℕ) → Agree IsMessage o q →
    option_and_then part_of o ≡ Some bytes → BringsPart q bytes
brings_part (Some (message.Part b)) (Some (world.ImagePart g i p)) bytes a e = record {
  generation = g;
  index = i;
  part = p;
  message = refl;
  spelled = same_some bytes b.items (Some bytes) refl (sym e) ∙ a.0;
  first = a.1;
  within = a.2;
}
brings_part (Some (message.Part b)) q bytes a e = absurd a
brings_part (Some (message.Log b)) q bytes a e = (cc)
brings_part (Some (message.Ack b)) q bytes a e = (cc)
brings_part (Some (message.Byte p n b)) q bytes a e = (cc)
brings_part (Some (message.Write write)) q bytes a e = (cc)
brings_part (Some (message.Written n)) q bytes a e = (cc)
brings_part (Some (message.Sector r)) q bytes a e = (cc)
brings_part None q bytes a e = (cc)

no_part : {S : Type 0} (o : Option Message) (q : Option world.Message) (here : Option (Node S)) → Agree IsMessage o q →
    option_and_then part_of o ≡ None → at_part here q ≡ Some Unknown
no_part None None here a e = refl
no_part None (Some y) here a e = absurd a
no_part (Some (message.Part b)) q here a e = (cc)
no_part (Some (message.Log b)) (Some (world.LogEntry g i x)) here a e = refl
no_part (Some (message.Log b)) q here a e = absurd a
no_part (Some (message.Ack b)) (Some (world.Acknowledgement g h r)) here a e = refl
no_part (Some (message.Ack b)) q here a e = absurd a
no_part (Some (message.Byte p n b)) (Some (world.Released x)) here a e = refl
no_part (Some (message.Byte p n b)) q here a e = absurd a
no_part (Some (message.Write write)) (Some (world.Released x)) here a e = refl
no_part (Some (message.Write write)) q here a e = absurd a
no_part (Some (message.Written n)) (Some (world.WriteDone d)) here a e = refl
no_part (Some (message.Written n)) q here a e = absurd a
no_part (Some (message.Sector r)) (Some (world.SectorRead ad n bs)) here a e = refl
no_part (Some (message.Sector r)) q here a e = absurd a

pub part_unknown : {B H D S : Type 0} (state : B → S) (copied : B → Guest) (M : Machine S) (records : D → List Record)
    (old : Running B H D) (c : Course S) (m n : ℕ) → option_and_then part_of (slice_get old.messages m) ≡ None →
    Shows state copied M records old c → Applies state copied M records c (event.PartComes m n) (Err Unknown) old
part_unknown state copied M records old c m n brings h =
    refuses state copied M records old old c (event.PartComes m n) Unknown h refl
    (no_part (slice_get old.messages m) (slice_get c.world.messages m) (slice_get c.world.nodes n)
    (h.parts.messages.each m) brings) refl

-- ---- what the part is to the node

-- a node that joins may be the backup then, and nothing else about it changes
got_stays : {S : Type 0} {C : Copying S} {index : ℕ} {part : List ℕ} {r : protocol.Reply} {x y : Node S}
    → x.role ≡ Joining → GotPart C index part x r y → Stays x y
got_stays role (Again before) = record { generation = refl; backup = refl }
got_stays role (Comes missing rest) = record { generation = refl; backup = refl }
got_stays role (Completes parts s missing all made) =
    record { generation = refl; backup = sym (ap is_backup role) }

module _ {B H D S : Type 0} (state : B → S) (copied : B → Guest) (M : Machine S) (records : D → List Record)
    (old : Running B H D) (c : Course S) (h : Shows state copied M records old c) (m : ℕ) (bytes : List ℕ)
    (b : BringsPart (slice_get c.world.messages m) bytes) where
  abbrev N : Machine S
  N = machine_of M c

  -- the part, as it is read
  abbrev said : PartMessage
  said = record { generation = b.generation; index = b.index; payload = b.part }

  -- it is read again
  read_again : message_at h.drives bytes ≡ Some said
  read_again =
      let p = parts_are_of_machines N c.copying h.machine.lawful h.machine.copies c.world h.reached b.generation b.index
      b.part (among-get c.world.messages m _ b.message) in
      let made : c.copying.assemble (c.copying.parts p.machine) ≡ Some p.machine =
      h.machine.makes p.moves p.machine p.reached p.owns in
      let fits : is_some (guest_in h.drives (c.copying.parts p.machine)) ≡ true =
      sym (h.copies_as.fits (c.copying.parts p.machine)) ∙ ap is_some made in
      ap (message_at h.drives) b.spelled
      ∙ parts_read h.drives b.generation b.index (c.copying.parts p.machine) b.part fits b.first b.within p.is_part

  module _ (n : ℕ) (x : Node S) (there : slice_get c.world.nodes n ≡ Some x) where
    -- the parts that came, with this one, make a machine if they are all
    fit : part_comes_refusal b.generation x ≡ None → (parts : List (List ℕ))
        → gathered (gets_part x b.index b.part).parts ≡ Some parts → is_none (c.copying.assemble parts) ≡ false
    fit free parts all =
        let role = first-passed (role_refusal (Joining ∷ []) x) (generation_refusal b.generation x ∷ []) free in
        let acts = acts-in c.world n x Joining there role.0 in
        let same : b.generation ≡ x.generation =
        eqb-true b.generation x.generation
        (passes-if (b.generation == x.generation) WrongGeneration
        (only-passed (generation_refusal b.generation x) role.1)) in
        let y = gets_part x b.index b.part in
        let after = with_node c.world n y in
        let reached : Reached N c.copying after =
        After h.reached (GetsPart n x m b.index b.part acts
        (b.message ∙ ap (λ g. Some (world.ImagePart g b.index b.part)) same)) in
        let given = joining_is_given N c.copying h.machine.lawful h.machine.copies h.machine.makes after reached n y
        (get_set c.world.nodes n x y there) acts.role_is in
        ap is_none (given.all parts all)

    unfit_not : part_comes_refusal b.generation x ≡ None → (o : Option (List (List ℕ)))
        → gathered (gets_part x b.index b.part).parts ≡ o → calls.unfit c.copying o ≡ None
    unfit_not free None e = refl
    unfit_not free (Some parts) e = ap (λ b. fault_if b Malformed) (fit free parts e)

    last_passes : part_comes_refusal b.generation x ≡ None → (o : Option (List ℕ))
        → calls.last_refusal c.copying said x o ≡ None
    last_passes free None = unfit_not free (calls.parts_with said x) refl
    last_passes free (Some before) = refl

    -- so only the row's refusals are left
    same_refusal : part_refusal c.copying said x ≡ part_comes_refusal b.generation x
    same_refusal = go (part_comes_refusal b.generation x) refl
      where
        last : Option Fault
        last = calls.last_refusal c.copying said x (slice_index_or x.parts b.index None)

        go : (o : Option Fault) → part_comes_refusal b.generation x ≡ o → first_of (o ∷ last ∷ []) ≡ o
        go (Some fault) e = refl
        go None e = ap (λ l. first_of (l ∷ [])) (last_passes e (slice_index_or x.parts b.index None))

    pub as_row : (r : Result PartCame Fault) (Is : Node S → Type 0)
        → calls.GetsPart c.copying (message_at h.drives bytes) x r Is
        → Call (part_comes_refusal b.generation x) (IsLast said)
        (λ came x y. GotPart c.copying b.index b.part x (calls.part_reply came) y) x r Is
    as_row r Is d =
        subst
        (λ o. Call o (IsLast said) (λ came x y. GotPart c.copying b.index b.part x (calls.part_reply came) y) x r Is)
        same_refusal
        (subst (λ o. calls.GetsPart c.copying o x r Is) read_again d)

  -- a call at the node of a number
  abbrev pub AtIt : ℕ → Result PartCame Fault → List (Host B H) → Type 0
  AtIt n r hosts = AtHost state M c.copying h.drives c.world n (part_comes_refusal b.generation) (IsLast said)
      (λ came x y. GotPart c.copying b.index b.part x (calls.part_reply came) y) r hosts

  pub part_refused : (n : ℕ) (fault : Fault) (hosts : List (Host B H)) → AtIt n (Err fault) hosts
      → Applies state copied M records c (event.PartComes m n) (Err fault) (record old { hosts = hosts })
  part_refused n fault hosts at =
      node_refused h (event.PartComes m n) fault hosts (ap (λ q. at_part (slice_get c.world.nodes n) q) b.message)
      (λ last. record { generation = b.generation; index = b.index; part = b.part; message = b.message; last = last })
      refl at

  pub part_applies : (n : ℕ) (came : PartCame) (r : Reply) (hosts : List (Host B H)) → reply_of r ≡ calls.part_reply came
      → AtIt n (Ok came) hosts
      → Applies state copied M records c (event.PartComes m n) (Ok r) (record old { hosts = hosts })
  part_applies n came r hosts same at =
      node_applies h (event.PartComes m n) r hosts (ap (λ q. at_part (slice_get c.world.nodes n) q) b.message)
      (λ x y free got. got_stays
      (acting_role x Joining (first-passed (role_refusal (Joining ∷ []) x) (generation_refusal b.generation x ∷ []) free).0)
      got)
      (λ new at. record {
        generation = b.generation;
        index = b.index;
        part = b.part;
        message = b.message;
        at = elsewhere (λ x y got. subst (λ r. GotPart c.copying b.index b.part x r y) (sym same) got) at;
      })
      at
