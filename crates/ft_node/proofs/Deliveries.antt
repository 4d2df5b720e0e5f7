-- A packet of the log arrives at a node, or at what contains one: what is done with its entry is what the event does.
use Rattle.std.proofs.Common.{◌≡◌, ℕ, Bool, true, false, Option, Some, None, length, Result, Ok, Err, refl, sym, ap, subst, ◌∙◌}
use Rattle.std.specs.Prelude.{◌==◌, if◌then◌else◌}
use Rattle.std.proofs.lemmas.Bool.{eq-eqb, eqb-true}
use Rattle.ft_node.proofs.Words.{Call, DeliversLog, Entry, Expects, Fault, Held, Makes, Node, Unless, deliver_log_refusal, holds}
use Rattle.log_channel.specs.declared.packet.Packet.{Packet}
use Rattle.log_channel.specs.declared.packet.Packet.TheVariants.{Log, Ack}

not_refused : (o : Option Fault) (next : Option Entry) (D : Type 0)
    → Unless {A = Option Entry} o (Ok next) (Unit {0}) D → (o ≡ None) × D
not_refused None next D d = (refl, d)
not_refused (Some fault) next D d = let e = d.0 in (cc)

module _ {S : Type 0} (needs : ℕ → Node S → Type 0) (x : Node S) (Is : Node S → Type 0) where
  -- nothing refuses a packet from which an entry is expected, or none
  pub comes : (p : Option Packet) (next : Option Entry) (r : Result Bool Fault) → Expects p x (Ok next)
      → ((index : ℕ) (e : Entry) → next ≡ (if index == length x.held then Some e else None)
      → Call None (needs index) (Held index e) x r Is) → DeliversLog needs p x r Is
  comes None next r expected does = absurd (not_refused _ next ⊥ expected).1
  comes (Some (Ack generation held replayed)) next r expected does = absurd (not_refused _ next ⊥ expected).1
  comes (Some (Log generation index e)) next r expected does =
      let o = not_refused (deliver_log_refusal generation x) next (next ≡ (if index == length x.held then Some e else None))
      expected in
      subst (λ o. Call o (needs index) (Held index e) x r Is) (sym o.0) (does index e o.1)

  which : (index : ℕ) (next e : Entry) (b : Bool) → (index == length x.held) ≡ b
      → Some next ≡ (if b then Some e else None) → (index ≡ length x.held) × (next ≡ e)
  which index next e true is found = (eqb-true index (length x.held) is, (cc))
  which index next e false is found = (cc)

  -- the entry is the next one, and is held
  pub held : (p : Option Packet) (next : Entry) → Expects p x (Ok (Some next)) → Makes x (λ x y. y ≡ holds x next) Is
      → DeliversLog needs p x (Ok true) Is
  held p next expected made = comes p (Some next) (Ok true) expected (λ index e found.
      (let is = which index next e (index == length x.held) refl found in
      record { y = made.y; done = (is.0, made.done ∙ ap (holds x) is.1); after = made.after }))

  not_next : (index : ℕ) (e : Entry) (b : Bool) → (index == length x.held) ≡ b
      → None ≡ (if b then Some e else None) → index ≡ length x.held → ⊥
  not_next index e true is none same = (cc)
  not_next index e false is none same = let t = eq-eqb index (length x.held) same in (cc)

  -- it is a repeat, or past a gap
  pub passed_by : (p : Option Packet) → Expects p x (Ok None) → Is x → DeliversLog needs p x (Ok false) Is
  passed_by p expected is = comes p None (Ok false) expected (λ index e none.
      (record { y = x; done = (not_next index e (index == length x.held) refl none, refl); after = is }))

  -- the packet is refused
  pub refused : (p : Option Packet) (fault : Fault) → Expects p x (Err fault) → Is x → DeliversLog needs p x (Err fault) Is
  refused p fault expected is = go p expected
    where
      by : (o : Option Fault) (D E : Type 0) → (D → ⊥) → Unless {A = Option Entry} o (Err fault) (Unit {0}) D
          → Unless {A = Bool} o (Err fault) (Is x) E
      by None D E none d = absurd (none d)
      by (Some first) D E none d = let e = d.0 in ((cc), is)

      go : (p : Option Packet) → Expects p x (Err fault) → DeliversLog needs p x (Err fault) Is
      go None d = by _ ⊥ ⊥ (λ no. no) d
      go (Some (Ack generation held replayed)) d = by _ ⊥ ⊥ (λ no. no) d
      go (Some (Log generation index e)) d = by (deliver_log_refusal generation x) _ _ (λ no. no.1) d
