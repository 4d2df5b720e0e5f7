-- An event that leaves the disk as it was, and that changes nothing if it is refused.
use Rattle.ft_world.proofs.Words.{Event, Fault, Guest, Happens, HasApplied, Machine, PagesAfter, Record, Reply, Running, SparesAfter, Stays, TellsStale, before_failures, failures_told}
use Rattle.std.proofs.Common.{◌≡◌, ℕ, Bool, Err, List, Ok, Option, Result, ap, ◌∙◌, sym}
use Rattle.std.specs.Prelude.{IfErr, OnErr}

-- what holds of a refusal holds whatever its reason is
pub refused_so : {A : Type 0} (r : Result A Fault) (T : Type 0) → OnErr r T → IfErr r (λ fault. T)
refused_so (Ok value) T so = tt
refused_so (Err fault) T so = so

-- the event has happened, and the disk has told of no failure
pub with_the_disk : {B H D S : Type 0} {state : B → S} {copied : B → Guest} {M : Machine S} {records : D → List Record}
    {may_fail : D → Option ℕ} {writes : S → ℕ → Bool} {stale : B → ℕ → Bool} {old new : Running B H D} {e : Event}
    {answer : Result Reply Fault} → Happens state copied M records old e answer new → new.disk ≡ old.disk
    → failures_told e answer ≡ 0 → IfErr answer (λ fault. Stays records e fault old new)
    → SparesAfter e answer old.hosts new.hosts → TellsStale stale e answer old.hosts new.hosts
    → PagesAfter state M writes stale e answer old.hosts new.hosts
    → HasApplied state copied M records may_fail writes stale old e answer new
with_the_disk {may_fail = may_fail} {writes} {stale} {old} {new} row disk none unchanged spares told pages = record {
  row = row;
  counted = sym (ap may_fail disk) ∙ ap (λ n. before_failures n (may_fail new.disk)) (sym none);
  unchanged = unchanged;
  spares = spares;
  told_stale = told;
  pages = pages;
}
