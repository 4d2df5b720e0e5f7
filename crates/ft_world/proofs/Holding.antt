-- A station holds the next entry of the log: the input of the entry is appended to its inputs, and it settles up to the
-- count of the entry.
use Rattle.ft_world.proofs.Words.{Backup, Copying, Entry, IsNode, IsStation, Machine, Makes, MayHold, Node, Station, count_in, holds, inputs_of, inputs_of-append, last_count-append, list_of, timed_in, timed_of}
use Rattle.std.proofs.Common.{◌≡◌, ◌∙◌, [], ◌∷◌, ◌++◌, append-nil, append_assoc, ℕ, ap, refl, subst, sym}
use Rattle.log_entry.specs.Entries.{count_of}
use Rattle.ft_node.specs.declared.node.Node as code
use Rattle.ft_node.specs.declared.node.Node.TheVariants as node

held_station : {B H S : Type 0} (state : B → S) (M : Machine S) (C : Copying S) (drives : ℕ) (h new : Station B H) (e : Entry) (x : Node S)
    → x.role ≡ Backup → IsStation state M C drives h x → IsNode state M C drives new.node (holds x e)
    → new.inputs ≡ h.inputs ++ timed_in (timed_of e) → new.count ≡ count_of e
    → IsStation state M C drives new (holds x e)
held_station state M C drives h new e x role is now same c = record {
  node = now;
  inputs = same ∙ ap (λ ts. ts ++ timed_in (timed_of e)) (is.inputs ∙ ap (list_of x) role)
      ∙ append_assoc x.copy (inputs_of x.held) (timed_in (timed_of e))
      ∙ ap (λ ts. x.copy ++ (inputs_of x.held ++ ts)) (sym (append-nil (timed_in (timed_of e))))
      ∙ ap (λ ts. x.copy ++ ts) (sym (inputs_of-append x.held (e ∷ []))) ∙ sym (ap (list_of (holds x e)) role);
  count = c ∙ sym (last_count-append x.start x.held e) ∙ sym (ap (count_in M (holds x e)) role);
  a_node = is.a_node;
}

-- a node that may hold an entry is a backup
backs_up : {B H S : Type 0} (state : B → S) (M : Machine S) (C : Copying S) (drives : ℕ) (node : code.Node B H) (e : Entry) (x : Node S)
    → MayHold node e → IsNode state M C drives node x → x.role ≡ Backup
backs_up state M C drives (node.Backup b) e x may is = is.role_is
backs_up state M C drives (node.Primary p) e x may is = absurd may
backs_up state M C drives (node.Joining j) e x may is = absurd may
backs_up state M C drives (node.Draining d) e x may is = absurd may
backs_up state M C drives (node.Alone a) e x may is = absurd may
backs_up state M C drives (node.Halted h) e x may is = absurd may

pub holds_on : {B H S : Type 0} (state : B → S) (M : Machine S) (C : Copying S) (drives : ℕ) (h new : Station B H) (e : Entry) (x : Node S)
    → MayHold h.node e → IsStation state M C drives h x → Makes x (λ x y. y ≡ holds x e) (IsNode state M C drives new.node)
    → new.inputs ≡ h.inputs ++ timed_in (timed_of e) → new.count ≡ count_of e
    → Makes x (λ x y. y ≡ holds x e) (IsStation state M C drives new)
holds_on state M C drives h new e x may is made same c = record {
  y = holds x e;
  done = refl;
  after =
      held_station state M C drives h new e x (backs_up state M C drives h.node e x may is.node) is
      (subst (IsNode state M C drives new.node) made.done made.after) same c;
}
