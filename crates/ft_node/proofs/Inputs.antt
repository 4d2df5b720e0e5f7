-- Inputs of a node that takes them, in whatever role. It has a guest, and a log or none; the protocol's list of refusals
-- is what these two answer.
use Rattle.std.proofs.Common.{◌≡◌, ℕ, not, ◌==◌, Option, Some, None, List, [], ◌∷◌, Result, refl, sym, ap, subst, ◌∙◌}
use Rattle.disk_dcdd.specs.Address.{same_address}
use Rattle.ft_node.proofs.Words.{Alone, Copying, Fault, IsAlone, IsNode, Machine, Makes, Node, NotDue, Reads, Took, WrongNumber, answered, board_of, fault_if, first_of, get_reply_refusal, is_number, keys_spent, log_full, log_spent, put_reply_refusal, refusal_of, serves, take_key_refusal, tell_sent_refusal, took}
use Rattle.disk_dcdd.specs.declared.address.SectorAddress.{SectorAddress}
use Rattle.guest_lockstep.specs.declared.input.Input.{Input}
use Rattle.guest_lockstep.specs.declared.input.Input.TheVariants as input
use Rattle.pair_protocol.specs.Lawful.{top}
use Rattle.ft_node.specs.Due as due
use Rattle.ft_node.specs.Due.{refused_by}
use Rattle.ft_node.specs.declared.node.Node as code
use Rattle.ft_node.specs.declared.node.Node.TheVariants as node
use Rattle.ft_node.proofs.PrimaryRefusals.{primary_serves}

-- ---- lists of refusals

without : (r : Option Fault) (rest : List (Option Fault)) → r ≡ None → first_of (r ∷ rest) ≡ first_of rest
without r rest none = ap (λ r. first_of (r ∷ rest)) none

after : (r : Option Fault) (front back : List (Option Fault)) → first_of front ≡ first_of back
    → first_of (r ∷ front) ≡ first_of (r ∷ back)
after None front back same = same
after (Some fault) front back same = refl

-- two refusals as one
both : (a b : Option Fault) (rest : List (Option Fault))
    → first_of (a ∷ b ∷ rest) ≡ first_of (first_of (a ∷ b ∷ []) ∷ rest)
both None None rest = refl
both None (Some fault) rest = refl
both (Some fault) b rest = refl

-- ---- why an input is refused

-- what is answered by one list is answered by the other
pub answers : (result : Result (Unit {0}) Fault) (own here : Option Fault) → own ≡ here → result ≡ answered here
    → result ≡ answered own
answers result own here same answer = answer ∙ ap answered (sym same)

-- a node that takes input, with the state of its guest, and what its log answers to one more entry
pub record TakesInput {S : Type 0} (s : S) (room : Result (Unit {0}) Fault) (x : Node S) : Type 0 where
  pub acts : serves x ≡ None
  pub machine : x.machine ≡ s
  pub log : first_of (log_full x ∷ log_spent x ∷ []) ≡ refused_by room

module _ {S : Type 0} (M : Machine S) (s : S) (room : Result (Unit {0}) Fault) (x : Node S) (i : TakesInput s room x) where
  log_first : (rest : List (Option Fault))
      → first_of (log_full x ∷ log_spent x ∷ rest) ≡ first_of (refused_by room ∷ rest)
  log_first rest = both (log_full x) (log_spent x) rest ∙ ap (λ r. first_of (r ∷ rest)) i.log

  pub key : (port index : ℕ) → take_key_refusal M port index x ≡ due.key_refusal M s room port index
  unfolding top
  key port index =
      without (serves x) _ i.acts
      ∙ after (fault_if (not (index == M.keys x.machine port)) WrongNumber) _ _ (log_first (keys_spent M port x ∷ []))
      ∙ ap (λ s. due.key_refusal M s room port index) i.machine

  pub sent : (port number : ℕ) → tell_sent_refusal M port number x ≡ due.sent_refusal M s room port number
  sent port number =
      without (serves x) _ i.acts
      ∙ after (refusal_of M x.machine (input.Sent port)) _ _
      (after (fault_if (not (is_number (M.due_byte x.machine port) number)) WrongNumber) _ _ (log_first []))
      ∙ ap (λ s. due.sent_refusal M s room port number) i.machine

  pub done : (number : ℕ) → put_reply_refusal M number x ≡ due.done_refusal M s room number
  done number =
      without (serves x) _ i.acts ∙ after (refusal_of M x.machine (input.Written number)) _ _ (log_first [])
      ∙ ap (λ s. due.done_refusal M s room number) i.machine

  pub under : (address : SectorAddress) (number : ℕ) (bytes : List ℕ)
      → get_reply_refusal M address number bytes x ≡ due.under_refusal M s room address number bytes
  under address number bytes =
      without (serves x) _ i.acts
      ∙ after (fault_if (not (same_address (M.address x.machine address.drive address.sector) address)) NotDue) _ _
      (after (refusal_of M x.machine (input.Sector address.drive address.sector number bytes)) _ _ (log_first []))
      ∙ ap (λ s. due.under_refusal M s room address number bytes) i.machine

-- ---- which nodes take input

module _ {B S : Type 0} {H : Type 0} (state : B → S) (M : Machine S) (C : Copying S) (drives : ℕ) where
  pub takes_input : (node : code.Node B H) (x : Node S) (b : B) (room : Result (Unit {0}) Fault) → IsNode state M C drives node x
      → board_of node ≡ Some b
      → (serves x ≡ None → first_of (log_full x ∷ log_spent x ∷ []) ≡ refused_by room) → TakesInput (state b) room x
  takes_input (node.Primary p) x b room is has log =
      let acts = primary_serves x is.role is.up in
      let same : p.recorder.board ≡ b = cc in
      record { acts = acts; machine = is.machine ∙ ap state same; log = log acts }
  takes_input (node.Alone a) x b room is has log =
      let acts : serves x ≡ None = rw (is.role, is.up) refl in
      let same : a.recorder.board ≡ b = cc in
      record { acts = acts; machine = is.machine ∙ ap state same; log = log acts }
  takes_input (node.Backup r) x b room is has log = absurd cc
  takes_input (node.Joining j) x b room is has log = absurd cc
  takes_input (node.Draining d) x b room is has log = absurd cc
  takes_input (node.Halted h) x b room is has log = absurd cc

-- what an alone node takes
pub alone_accepts : {S : Type 0} (M : Machine S) (reads : Reads) (i : Input) (x : Node S) (s t : S) (generation : ℕ)
    → IsAlone reads s generation x → M.take s i ≡ Some t → Makes x (Took M i) (IsAlone reads t generation)
alone_accepts M reads i x s t generation a taken = record {
  y = took M x x.role t i;
  done = record { s = t; takes = ap (λ s. M.take s i) a.machine ∙ taken; after = refl };
  after =
      let alone : IsAlone reads t generation (took M x Alone t i) =
      record { role = a.role; up = a.up; generation_is = a.generation_is; reads_are = a.reads_are; machine = refl } in
      subst (λ role. IsAlone reads t generation (took M x role t i)) (sym a.role) alone;
}
