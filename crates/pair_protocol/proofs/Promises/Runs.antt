-- What a world that actions reach promises, and how one event may change it.
use Rattle.std.proofs.Common.{◌≡◌, List, ap, length, refl, suc}
use Rattle.pair_protocol.proofs.Words.{After, AtBoot, Changes, Copying, Faithful, IsCopying, Lawful, Machine, Reached, Reads, Stays, Then, World, opening, with_host}
use Rattle.pair_protocol.specs.Change.{HostComes}
use Rattle.pair_events.specs.declared.event.Event.{Event}
use Rattle.pair_protocol.specs.Reply.{Reply}
use Rattle.pair_protocol.specs.Row.{First, Nothing, Run}
use Rattle.pair_protocol.proofs.Invariant.{Inv, Next}
use Rattle.pair_protocol.proofs.Keeps.All.{keep}
use Rattle.pair_protocol.proofs.Keeps.Fetched.{AreFetched, fetched-keeps}
use Rattle.pair_protocol.proofs.Promises.Faithful.{faithful, reached}
use Rattle.pair_protocol.proofs.RowActions.{row_changes}
use Rattle.pair_protocol.proofs.Traces.Lists.{prefix-refl, prefix-trans}

module _ {S : Type 0} (M : Machine S) (C : Copying S) where
  pub keep_all : Lawful M → IsCopying M C → (w new : World S) (i : Inv M C w) → AreFetched M w → Changes M C w new →
      Next M C i.trace new
  keep_all laws copies w new i f Stays = record { inv = i; grows = prefix-refl i.trace }
  keep_all laws copies w new i f (Then {mid = v} c cs) =
      let a = keep M C laws copies w v i f c in
      let b = keep_all laws copies v new a.inv (fetched-keeps M C w v f c) cs in
      record { inv = b.inv; grows = prefix-trans i.trace a.inv.trace b.inv.trace a.grows b.grows }

  pub always_faithful : Lawful M → IsCopying M C → (w : World S) → Reached M C w → Faithful M w
  always_faithful laws copies w r = faithful M C laws w (reached M C laws copies w r)

  pub changes_reach : (w new : World S) → Reached M C w → Changes M C w new → Reached M C new
  changes_reach w new r Stays = r
  changes_reach w new r (Then {mid = v} c cs) = changes_reach v new (After r c) cs

run_from : {S : Type 0} (M : Machine S) (C : Copying S) (old new : World S) (events : List Event)
    (replies : List Reply) → Reached M C old → Run M C old events replies new → Reached M C new
run_from M C old new events replies h Nothing = h
run_from M C old new events replies h (First {mid = v} {e = e} {events = es} {r = r} {replies = rs} row rest) =
    run_from M C v new es rs (changes_reach M C old v h (row_changes M C old v e r row)) rest
run_from M C old new events replies h (Run.HostComes rest) =
    run_from M C (with_host M old) new events replies (After h HostComes) rest

pub run_reaches : {S : Type 0} (M : Machine S) (C : Copying S) (reads : Reads) (events : List Event) (replies : List Reply)
    (w : World S) → Run M C (opening M reads) events replies w → Reached M C w
run_reaches M C reads events replies w run = run_from M C (opening M reads) w events replies (AtBoot reads) run

pub run_replies : {S : Type 0} (M : Machine S) (C : Copying S) (old new : World S) (events : List Event)
    (replies : List Reply) → Run M C old events replies new → length replies ≡ length events
run_replies M C old new events replies Nothing = refl
run_replies M C old new events replies (First {mid = v} {events = es} {replies = rs} row rest) =
    ap suc (run_replies M C v new es rs rest)
run_replies M C old new events replies (Run.HostComes rest) = run_replies M C (with_host M old) new events replies rest
