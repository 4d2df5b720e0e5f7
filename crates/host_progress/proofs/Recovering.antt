-- First a host goes live, and then it completes.
use Rattle.std.proofs.Common.{ℕ, ◌+◌, List, [], ◌∷◌, ◌++◌, length-append, arith}
use Rattle.pair_protocol.proofs.Words.{Copying, IsCopying, Lawful, Machine, Node, World}
use Rattle.pair_progress.specs.Completion.{IsAtRest, Responds}
use Rattle.pair_progress.specs.Takeover.{IsLive}
use Rattle.host_law.proofs.Words.{Deed, Fleet, Shows}
use Rattle.host_progress.specs.Exchanges.{AreOf, ByHost, ByOutside, Ends, Exchanged, HostsReach, Streams, none_sent, with_sent}
use Rattle.host_progress.specs.Laws.{HostMayServe, Only, takeover_steps}
use Rattle.host_progress.proofs.Exchanging.{from_none}
use Rattle.host_progress.proofs.Resting.{completes_soon}
use Rattle.host_progress.proofs.TakingOver.{takes_over}

module _ {S : Type 0} (M : Machine S) (C : Copying S) where
  followed_by : (f mid last : Fleet S) (up down : Streams) (deeds more : List Deed) → Exchanged M C f up down deeds mid →
      Exchanged M C mid none_sent none_sent more last → Exchanged M C f up down (deeds ++ more) last
  followed_by f mid last up down deeds more Ends rest =
      from_none M C f last up down more rest
  followed_by f mid last up down _ more (ByHost {mid = next} {deeds = deeds} n act step came later) rest =
      ByHost n act step came (followed_by next mid last (with_sent n act.sends up) down deeds more later rest)
  followed_by f mid last up down _ more (ByOutside {mid = next} {deeds = deeds} from to act step came later) rest =
      ByOutside from to act step came (followed_by next mid last up (with_sent to act.sends down) deeds more later rest)

  are_of : (Who : ℕ → Type 0) (deeds more : List Deed) → AreOf Who deeds → AreOf Who more → AreOf Who (deeds ++ more)
  are_of Who [] more a b = b
  are_of Who (deed ∷ deeds) more a b = (a.0, are_of Who deeds more a.1 b)

  -- some steps, and then others
  pub joined : (f : Fleet S) (Who : ℕ → Type 0) (most more : ℕ) (End Later : World S → Type 0) →
      HostsReach M C f Who most End →
      ((l : Fleet S) (v : World S) → Shows M C l v → End v → HostsReach M C l Who more Later) →
      HostsReach M C f Who (most + more) Later
  joined f Who most more End Later a next =
      let b = next a.last a.new a.shows a.end in
      record {
        deeds = a.deeds ++ b.deeds;
        last = b.last;
        done = followed_by f a.last b.last none_sent none_sent a.deeds b.deeds a.done b.done;
        who = are_of Who a.deeds b.deeds a.who b.who;
        few = (let x = a.few in let y = b.few in let e = length-append a.deeds b.deeds in omega (arith, x, y, e));
        new = b.new;
        shows = b.shows;
        end = b.end;
      }

pub recovers : {S : Type 0} (M : Machine S) (C : Copying S) → Lawful M → IsCopying M C → Responds M → (f : Fleet S)
    (w : World S) → Shows M C f w → (n : ℕ) (x : Node S) → HostMayServe f n x →
    HostsReach M C f (Only n) (takeover_steps x x.role + 160) (λ new. IsAtRest M new n x.generation)
recovers M C laws copies responds f w h n x may =
    joined M C f (Only n) (takeover_steps x x.role) 160 (λ new. IsLive new n x.generation)
    (λ new. IsAtRest M new n x.generation) (takes_over M C laws copies f w h n x may)
    (λ l v shown live. completes_soon M C laws copies responds l v shown n x.generation live)
