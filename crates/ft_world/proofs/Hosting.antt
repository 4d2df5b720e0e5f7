-- A spare host is added: it has generation 0 and no role, so it is neither of the highest generation nor its backup.
use Rattle.ft_world.proofs.Words.{After, Course, Guest, HostComes, IsHost, IsOnlyBackup, Machine, Node, Record, Running, Shows, ShowsSome, Then, changes_grow, highest, is_backup, machine_of, same_some, spare, with_host}
use Rattle.std.proofs.Common.{◌≡◌, [], ◌∷◌, ◌++◌, ◌∙◌, Err, List, Ok, Some, ap, false, inl, inr, refl, subst, suc, sym, true, zero, ℕ}
use Rattle.std.specs.Prelude.{max, OnErr, OnOk, Result, slice_get, ◌⊎◌}
use Rattle.pair_protocol.specs.Change.{Stays}
use Rattle.pair_protocol.specs.Grows.{Grows}
use Rattle.ft_world.specs.declared.host.Host.TheVariants as host
use Rattle.ft_world.proofs.Agreeing.{agree-push}

highest_push : {S : Type 0} (nodes : List (Node S)) (x : Node S) → x.generation ≡ 0 →
    highest (nodes ++ x ∷ []) ≡ highest nodes
highest_push [] x e = ap (λ g. max g 0) e
highest_push (z ∷ nodes) x e = ap (λ g. max z.generation g) (highest_push nodes x e)

push_cases : {A : Type 0} (xs : List A) (k : ℕ) (y z : A) → slice_get (xs ++ y ∷ []) k ≡ Some z →
    (slice_get xs k ≡ Some z) ⊎ (z ≡ y)
push_cases [] zero y z e = inr (sym (same_some y z (Some y) refl e))
push_cases [] (suc k) y z e = inl e
push_cases (x ∷ xs) zero y z e = inl e
push_cases (x ∷ xs) (suc k) y z e = push_cases xs k y z e

backup_push : {S : Type 0} (nodes : List (Node S)) (x : Node S) (generation backup : ℕ) →
    is_backup x.role ≡ false → IsOnlyBackup nodes generation backup →
    IsOnlyBackup (nodes ++ x ∷ []) generation backup
backup_push {S} nodes x generation backup none only k z here is role = elim (push_cases nodes k x z here) [
  | inl q ↦ only k z q is role
  | inr same ↦ absurd
      (let e : is_backup x.role ≡ true = ap (λ (u : Node S). is_backup u.role) (sym same) ∙ role in (cc))
]

pub host_comes : {B H D S : Type 0} (state : B → S) (copied : B → Guest) (M : Machine S) (records : D → List Record) (old : Running B H D)
    (c : Course S) (resources : H) → (h : Shows state copied M records old c) →
    Shows state copied M records (record old { hosts = old.hosts ++ host.Spare resources ∷ [] })
    (record c { world = with_host (machine_of M c) c.world })
host_comes state copied M records old c resources h = record {
  drives = h.drives;
  machine = h.machine;
  copies_as = h.copies_as;
  reached = After h.reached HostComes;
  parts = record {
    hosts = agree-push (IsHost state M c.copying h.drives) old.hosts c.world.nodes (host.Spare resources) (spare (machine_of M c)) refl
        h.parts.hosts;
    messages = h.parts.messages;
    terminals = h.parts.terminals;
    winners = h.parts.winners;
    disk = h.parts.disk;
    generation = h.parts.generation ∙ sym (highest_push c.world.nodes (spare (machine_of M c)) refl);
    backup = backup_push c.world.nodes (spare (machine_of M c)) old.generation old.backup refl h.parts.backup;
  };
}

pub host_grows : {B H D S : Type 0} (state : B → S) (copied : B → Guest) (M : Machine S) (records : D → List Record)
    (old : Running B H D) (c : Course S) → Shows state copied M records old c →
    Grows (machine_of M c) c.world (with_host (machine_of M c) c.world)
host_grows state copied M records old c h =
    let N = machine_of M c in
    changes_grow N c.copying h.machine.lawful h.machine.copies c.world (with_host N c.world) h.reached
    (Then HostComes Stays)

pub hosts_go_on : {B H D S E : Type 0} (state : B → S) (copied : B → Guest) (M : Machine S) (records : D → List Record)
    (old new : Running B H D) (answer : Result ℕ E) → ShowsSome state copied M records old →
    OnOk answer
    ((c : Course S) → Shows state copied M records old c →
    Shows state copied M records new (record c { world = with_host (machine_of M c) c.world })) →
    OnErr answer (new ≡ old) → ShowsSome state copied M records new
hosts_go_on state copied M records old new (Ok n) some shows same = record {
  course = record some.course { world = with_host (machine_of M some.course) some.course.world };
  shows = shows some.course some.shows;
}
hosts_go_on state copied M records old new (Err e) some shows same = subst (ShowsSome state copied M records) (sym same) some
