-- A live host makes a step if its guest does, takes the next key that was typed, and reads a sector that is due.
use Rattle.std.proofs.Common.{◌≡◌, ℕ, ◌<◌, inr, false, true, not, Option, Some, None, is_none, [], refl, sym, ap, subst, ◌∙◌, arith, eq-eqb}
use Rattle.std.specs.Prelude.{slice_get, slice_set, ◌==◌, nat_le}
use Rattle.event_callbacks.specs.Operations.{id_of}
use Rattle.guest_lockstep.specs.declared.input.Input.TheVariants.{Rx}
use Rattle.guest_lockstep.specs.declared.running.StopReason.{StopReason}
use Rattle.guest_lockstep.specs.declared.running.StopReason.TheVariants as reason
use Rattle.i8080_words.specs.declared.refusal.Fault.TheVariants.{Idle, Spent, WrongNumber}
use Rattle.pair_protocol.proofs.Words.{Alone, Copying, IsCopying, Lawful, Machine, Node, World, Operation, alone_takes, plainly_steps, terminal}
use Rattle.pair_protocol.specs.Effects.{Advances, Gives, Goes, NoneLeft, stepped, took}
use Rattle.pair_protocol.specs.Lawful.{top}
use Rattle.pair_protocol.specs.Refusals.{fault_if, keys_spent, log_full, log_spent, serves, step_refusal, take_key_refusal}
use Rattle.pair_protocol.proofs.Keeps.Alone.{AloneAt, alone}
use Rattle.pair_protocol.proofs.Promises.Faithful.{reached}
use Rattle.pair_protocol.proofs.Traces.Lists.{get_set}
use Rattle.pair_progress.specs.Completion.{Responds}
use Rattle.pair_progress.specs.Takeover.{IsLive}
use Rattle.pair_progress.proofs.Completing.{live_not_full, live_not_spent, live_serves, not_up_to}
use Rattle.pair_progress.proofs.Passing.{not_if, passed}
use Rattle.host_law.specs.Host.{Passes}
use Rattle.host_law.specs.Host as host
use Rattle.host_law.specs.Outside as outside
use Rattle.host_law.proofs.Following.{node-there}
use Rattle.host_law.proofs.Words.{Fleet, Key, Shows}
use Rattle.host_progress.specs.Exchanges.{HostsReach}
use Rattle.host_progress.specs.Laws.{HasKey, HasStepped, Only}
use Rattle.host_progress.proofs.Answering.{by_itself, is_told}
use Rattle.host_progress.proofs.Exchanging.{is_there}
use Rattle.host_progress.proofs.Fetching.{passes_at}
use Rattle.host_progress.proofs.Resting.{there_in}
use Rattle.host_progress.proofs.Showing.{alone_real}

module _ {S : Type 0} (M : Machine S) (C : Copying S) (laws : Lawful M) (copies : IsCopying M C) (responds : Responds M)
    (f : Fleet S) (w : World S) (h : Shows M C f w) (n generation : ℕ) (live : IsLive w n generation) where
  abbrev x : Node S
  x = live.x

  pub there : slice_get f.hosts n ≡ Some live.x
  there = there_in M C laws copies responds n generation f w h live

  at : AloneAt M C w (reached M C laws copies w h.reached) live.x
  at = alone M C w (reached M C laws copies w h.reached) n live.x
      (record { there = live.there; up = live.up; role_is = live.alone })

  -- it is live afterwards
  abbrev pub live_as : (y : Node S) → y.running ≡ true → y.role ≡ Alone → y.generation ≡ generation → (l : Fleet S) (v : World S) →
      Shows M C l v → l.hosts ≡ slice_set f.hosts n y → IsLive v n generation
  live_as y up role g l v shown hosts = record {
    x = y;
    there = node-there M C l v shown n y (ap (λ xs. slice_get xs n) hosts ∙ get_set f.hosts n live.x y there)
        (alone_real y role);
    up = up;
    alone = role;
    generation_is = g;
  }

  -- ---- a key

  module _ (port byte : ℕ) (two : port < 2) (room : M.keys live.x.machine port < top)
      (typed : slice_get (terminal w port).typed (M.keys live.x.machine port) ≡ Some byte) where
    may_take : Passes live.x (take_key_refusal M port (M.keys live.x.machine port))
    may_take = passes_at live.x Alone (take_key_refusal M port (M.keys live.x.machine port)) live.alone refl
        (passed (serves live.x) _ (live_serves M live.x live.up live.alone)
        (passed (fault_if (not (M.keys live.x.machine port == M.keys live.x.machine port)) WrongNumber) _
        (ap (λ b. fault_if (not b) WrongNumber) (eq-eqb (M.keys live.x.machine port) (M.keys live.x.machine port) refl))
        (passed (log_full live.x) _ (live_not_full M live.x live.up live.alone)
        (passed (log_spent live.x) _ (live_not_spent M live.x live.up live.alone)
        (passed (keys_spent M port live.x) []
        (not_if (nat_le top (M.keys live.x.machine port)) Spent (not_up_to top (M.keys live.x.machine port) room)) refl)))))

    pub takes_key : HostsReach M C f (Only n) 2 (λ new. HasKey M new n generation live.x.machine port byte)
    takes_key =
        let t = responds.takes_key (reached M C laws copies w h.reached).trace live.x.machine port byte at.runs two room in
        let y = alone_takes M live.x t.0 (Rx port byte) in
        is_told M C laws copies (Only n) (λ new. HasKey M new n generation live.x.machine port byte) f w h n live.x there refl
        0 (Key port (M.keys live.x.machine port) byte)
        (outside.SendsKey port (M.keys live.x.machine port) byte
        (ap (λ l. slice_get l (M.keys live.x.machine port)) (h.terminals.each port).typed ∙ typed))
        y
        (host.TakesKey port (M.keys live.x.machine port) byte y may_take
        (record { s = t.0; takes = t.1; after = ap (λ q. took M live.x q t.0 (Rx port byte)) (sym live.alone) }))
        (λ l v shown hosts o. is_there M C (Only n) (λ new. HasKey M new n generation live.x.machine port byte) l v 0 shown
        (record { live = live_as y live.up live.alone live.generation_is l v shown hosts; taken = t.1 }))

  -- ---- a step

  module _ (t : S) (gives : Option Operation) (able : M.is_spent live.x.machine ≡ false)
      (steps : M.step live.x.machine ≡ Some (t, gives)) where
    may_step : Passes live.x (step_refusal M 1)
    may_step = passes_at live.x Alone (step_refusal M 1) live.alone refl
        (passed (serves live.x) _ (live_serves M live.x live.up live.alone)
        (passed (log_full live.x) _ (live_not_full M live.x live.up live.alone)
        (passed (log_spent live.x) _ (live_not_spent M live.x live.up live.alone)
        (passed (fault_if (M.is_spent live.x.machine) Spent) _ (ap (λ b. fault_if b Spent) able)
        (passed (fault_if (is_none (M.step live.x.machine)) Idle) [] (ap (λ o. fault_if (is_none o) Idle) steps) refl)))))

    advances : (g : Option Operation) → M.step live.x.machine ≡ Some (t, g) →
        (why : StopReason) × Advances M live.x 1 (stepped M live.x live.x.role t g) 1 why
    advances None is = (reason.Turns, Goes t is NoneLeft)
    advances (Some o) is = (reason.Operation (id_of o), Gives t o is)

    pub makes_step : HostsReach M C f (Only n) 1 (λ new. HasStepped M new n generation live.x.machine)
    makes_step =
        let a = advances gives steps in
        let y = plainly_steps live.x t in
        let same : ◌≡◌ {A = Node S} (stepped M live.x live.x.role t gives) (plainly_steps live.x t) =
        ap (λ q. stepped M live.x q t gives) live.alone in
        by_itself M C laws copies (Only n) (λ new. HasStepped M new n generation live.x.machine) f w h n live.x there refl 0 y
        (host.Steps 1 1 (M.count t) a.0 y may_step
        (record { advances = subst (λ z. Advances M live.x 1 z 1 a.0) same a.1; some = inr (omega arith); counted = refl }))
        (λ l v shown hosts o. is_there M C (Only n) (λ new. HasStepped M new n generation live.x.machine) l v 0 shown
        (record { live = live_as y live.up live.alone live.generation_is l v shown hosts; gives = gives; made = steps }))
