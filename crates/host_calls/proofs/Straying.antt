-- Whatever the host's node does, the law's does too: a node that strays makes any step and stays. And some list has as many
-- keys at each port as a machine has taken.
use Rattle.std.proofs.Common.{◌++◌, ◌∙◌, ◌≡◌, ◌⊎◌, List, Some, [], ◌∷◌, ap, arith, inl, inr, length, refl, subst, suc, sym, zero, ℕ}
use Rattle.std.specs.Prelude.{slice_get}
use Rattle.guest_lockstep.specs.Machine.{Machine}
use Rattle.guest_lockstep.specs.Reach.{keys}
use Rattle.guest_lockstep.specs.declared.timed.Bare.TheVariants.{Rx}
use Rattle.guest_lockstep.specs.declared.timed.Timed.{Timed}
use Rattle.pair_protocol.specs.Copying.{Copying, IsCopying}
use Rattle.pair_protocol.specs.Lawful.{Lawful}
use Rattle.pair_protocol.specs.Node.{Alone, Node}
use Rattle.pair_protocol.specs.World.{World}
use Rattle.pair_protocol.proofs.Traces.Lists.{same_or_not}
use Rattle.ft_node.specs.AnyNode.{IsNode}
use Rattle.ft_node.specs.Roles.{node_count}
use Rattle.ft_node.specs.declared.node.Node as code
use Rattle.ft_node.specs.declared.node.Node.TheVariants as node
use Rattle.host_law.specs.Fleet.{Fleet}
use Rattle.host_law.specs.Frame.{Act, Frame}
use Rattle.host_law.specs.Host as host
use Rattle.host_law.specs.Host.{HasTakenKeys, HostStep}
use Rattle.host_law.specs.Shows.{Shows}
use Rattle.host_law.proofs.Keeping.{has-taken-keys}
use Rattle.host_law.proofs.Running.{ran-more, ran-nothing}
use Rattle.host_calls.specs.Follows.{Follows, HasList, IsAhead, IsStray, Lags, RanTo, Same, StepsToo}
use Rattle.host_calls.proofs.Lagging.{Repeats, no-alone, steps-lag}
use Rattle.host_calls.proofs.Runs.{ran-both}

-- ---- steps and runs

-- the law's node makes one step
one : {S : Type 0} (M : Machine S) (C : Copying S) (me : ℕ) (x y z : Node S) (act : Act) → HostStep M C me x act y →
    Follows M y z → StepsToo M C me x act z
one M C me x y z act step follows =
    record { next = y; ran = ran-more M C me x [] [] x y act (ran-nothing M C me x) step; follows = follows }

pub steps-follow : {S : Type 0} (M : Machine S) (C : Copying S) (me : ℕ) (x y z : Node S) (act : Act) → Follows M x y →
    HostStep M C me y act z → StepsToo M C me x act z
steps-follow M C me x y z act Same step = one M C me x z z act step Same
steps-follow M C me x y z act (IsAhead u lags) step =
    steps-lag M C me x z lags.s act lags.role lags.ahead (subst (λ n. HostStep M C me n act z) lags.is step)
steps-follow M C me x y z act (IsStray u alone stray) step =
    one M C me x x z act (host.Strays act alone stray) (IsStray z alone stray)

pub ran-to-more : {S : Type 0} (M : Machine S) (C : Copying S) (me : ℕ) (x : Node S) (read written : List Frame)
    (y z : Node S) (act : Act) → RanTo M C me x read written y → HostStep M C me y act z →
    RanTo M C me x (read ++ act.takes) (written ++ act.sends) z
ran-to-more M C me x read written y z act r step =
    let also = steps-follow M C me r.last y z act r.follows step in record {
      last = also.next;
      ran = ran-both M C me x r.last also.next read written act.takes act.sends r.ran also.ran;
      follows = also.follows;
    }

pub ran-to-nothing : {S : Type 0} (M : Machine S) (C : Copying S) (me : ℕ) (x : Node S) → RanTo M C me x [] [] x
ran-to-nothing M C me x = record { last = x; ran = ran-nothing M C me x; follows = Same }

pub is-the-laws : {S : Type 0} (M : Machine S) (C : Copying S) → Lawful M → IsCopying M C → (f : Fleet S) (w : World S) →
    Shows M C f w → (n : ℕ) (x y : Node S) → slice_get f.hosts n ≡ Some x → Follows M x y → (y ≡ x) ⊎ Lags M x y
is-the-laws M C laws copies f w h n x y there Same = inl refl
is-the-laws M C laws copies f w h n x y there (IsAhead u lags) = inr lags
is-the-laws M C laws copies f w h n x y there (IsStray u alone stray) =
    absurd (stray (has-taken-keys M C laws copies f w h n x there alone))

-- ---- keys

-- inputs that are this many keys at the first port, and this many at the second
abbrev key-at : ℕ → Timed
key-at port = record { count = 0; input = Rx port 0 }

abbrev typed : ℕ → ℕ → List Timed
typed zero zero = []
typed zero (suc second) = key-at 1 ∷ typed zero second
typed (suc first) second = key-at 0 ∷ typed first second

at-first : (first second : ℕ) → length (keys 0 (typed first second)) ≡ first
at-first zero zero = refl
at-first zero (suc second) = at-first zero second
at-first (suc first) second = ap suc (at-first first second)

at-second : (first second : ℕ) → length (keys 1 (typed first second)) ≡ second
at-second zero zero = refl
at-second zero (suc second) = ap suc (at-second zero second)
at-second (suc first) second = at-second first second

module _ {S : Type 0} (M : Machine S) where
  at-both : (x : Node S) → M.keys x.machine 0 ≡ length (keys 0 x.list) → M.keys x.machine 1 ≡ length (keys 1 x.list) →
      HasTakenKeys M x
  at-both x first second zero within = first
  at-both x first second (suc zero) within = second
  at-both x first second (suc (suc port)) within = absurd (omega arith)

  has-or-not : (x : Node S) → HasTakenKeys M x ⊎ (HasTakenKeys M x → ⊥)
  has-or-not x = elim (same_or_not (M.keys x.machine 0) (length (keys 0 x.list))) [
    | inl first ↦ elim (same_or_not (M.keys x.machine 1) (length (keys 1 x.list))) [
      | inl second ↦ inl (at-both x first second)
      | inr other ↦ inr (λ has. other (has 1 (omega arith)))
    ]
    | inr other ↦ inr (λ has. other (has 0 (omega arith)))
  ]

  -- if the law's node has strayed, any list will do
  any-list : (x y : Node S) → x.role ≡ Alone → (HasTakenKeys M x → ⊥) → HasList M x y
  any-list x y alone stray = record {
    list = list;
    taken = at-both (record y { list = list }) (sym (at-first first second)) (sym (at-second first second));
    follows = IsStray (record y { list = list }) alone stray;
  }
    where
      first : ℕ
      first = M.keys y.machine 0

      second : ℕ
      second = M.keys y.machine 1

      list : List Timed
      list = typed first second

  pub has-list : (x y : Node S) → Follows M x y → y.role ≡ Alone → HasList M x y
  has-list x y Same alone = elim (has-or-not x) [
    | inl has ↦ record { list = x.list; taken = has; follows = Same }
    | inr stray ↦ any-list x x alone stray
  ]
  has-list x y (IsAhead u lags) alone =
      absurd (no-alone (subst Repeats (sym (ap (λ (n : Node S). n.role) lags.is) ∙ alone) lags.role))
  has-list x y (IsStray u strays stray) alone = any-list x y strays stray

-- ---- no node of the code that is alone says what its list is

pub no-list : {B H S : Type 0} (state : B → S) (M : Machine S) (C : Copying S) (drives : ℕ) (it : code.Node B H)
    (y : Node S) (list : List Timed) → y.role ≡ Alone → IsNode state M C drives it y →
    IsNode state M C drives it (record y { list = list })
no-list state M C drives (node.Primary p) y list alone is = absurd (let e = sym is.role ∙ alone in (cc))
no-list state M C drives (node.Backup b) y list alone is = absurd (let e = sym is.role_is ∙ alone in (cc))
no-list state M C drives (node.Joining j) y list alone is = absurd (let e = sym is.role ∙ alone in (cc))
no-list state M C drives (node.Draining d) y list alone is = absurd (let e = sym is.role_is ∙ alone in (cc))
no-list state M C drives (node.Alone a) y list alone is = record {
  role = is.role;
  up = is.up;
  generation_is = is.generation_is;
  reads_are = is.reads_are;
  machine = is.machine;
}
no-list state M C drives (node.Halted h) y list alone is = record {
  down = is.down;
  generation_is = is.generation_is;
  count_is =
      ap (node_count M (record y { list = list })) alone ∙ sym (ap (node_count M y) alone) ∙ is.count_is;
}
