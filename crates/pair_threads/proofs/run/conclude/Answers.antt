-- What the workers are taken apart into, and who goes on alone.
use Rattle.std.proofs.Common.{ap, sym, ◌∙◌, not, subst, Vec, Global, ℕ, arith}
use Rattle.std.proofs.lemmas.Bool.{false≢true}
use Rattle.std.specs.Option.{is_some}
use Rattle.log_entry.specs.declared.entry.Entry.{Entry}
use Rattle.pair_rule.specs.Seats.{Seat}
use Rattle.guest_lockstep.specs.Machine.{booted_from}
use Rattle.pair_threads.specs.Ending.{KeepsSectors}
use Rattle.pair_threads.specs.Left.{LeavesBy}
use Rattle.pair_threads.specs.Shown.{IsOfRun}
use Rattle.shared_disk.specs.Records.{bytes_in}
use Rattle.pair_threads.proofs.Ending.{all_came, ends, ends_so, left, settled_so}
use Rattle.pair_threads.proofs.Shown.{all_so, of_run}
use Rattle.pair_threads.proofs.run.conclude.Goals as goal
use Rattle.pair_threads.proofs.run.conclude.Goals.{else-contested-via-then-contested+else-is_none, else-contested-via-else-contested}

pub returns-clause-ends : goal.returns-clause-ends
returns-clause-ends g c = λ boot first lawful leads at store.
    let p = c.args.primary in
    let b = c.args.backup in
    let parts = c.take_apart-parts.ensures in
    let parts_typed0 = c.take_apart-parts.result.typed0.items in
    let parts_typed1 = c.take_apart-parts.result.typed1.items in
    let closed = c.close-closed.result in
    let settled = settled_so _ p.seat.core.known.primary _ b.seat.core.known.backup _
    c.args.terminal.seat.core.known.terminal _ c.args.disk.seat.core.known.disk closed.tail closed.held closed.winner
    (ap (λ (x : Seat). x.core.known.primary) parts.seats.0) (ap (λ (x : Seat). x.core.known.backup) parts.seats.1)
    (ap (λ (x : Seat). x.core.known.terminal) parts.seats.2) (ap (λ (x : Seat). x.core.known.disk) parts.seats.3)
    c.close-closed.ensures in
    let goes = c.winner_of-winner.result in
    ends_so _ parts_typed0 parts_typed1 p.port0.typed.items p.port1.typed.items goes closed.held _ _ _ _ _ _ _ _ _ _ _ _
    (sym (ap (λ (v : Vec ℕ Global). v.items) parts.typed.0)) (sym (ap (λ (v : Vec ℕ Global). v.items) parts.typed.1))
    (ap (λ (v : Vec Entry Global). v.items) parts.lists.0) (ap (λ (v : Vec Entry Global). v.items) parts.lists.1)
    parts.screens (ap g.D.SectorStore.records parts.disk) (ap g.B.Lockstep.state parts.boards.0)
    (ap g.B.Lockstep.state parts.boards.1)
    (ends g.B.Lockstep.state g.B.Lockstep.machine g.met.B.Lockstep.counts g.met.B.Lockstep.operations boot first lawful p b
    c.args.terminal.seat.core.known.terminal c.args.disk.seat.core.known.disk closed.tail closed.held closed.winner settled
    (g.D.SectorStore.records c.args.disk.disk) leads at store c.args.contested c.requires.rests c.requires.repeated
    goes c.winner_of-winner.ensures
    (λ none. elim c.else-contested.branch [
      | else-contested-via-then-contested+else-is_none w ↦
          absurd (false≢true (sym (ap is_some none) ∙ w.is_none.ensures ∙ ap not w.if-is_none.false))
      | else-contested-via-else-contested w ↦ w.if-contested.false
    ]))

pub returns-clause-left : goal.returns-clause-left
returns-clause-left g c = λ boot first lawful leads at store.
    let p = c.args.primary in
    let b = c.args.backup in
    let parts = c.take_apart-parts.ensures in
    let parts_typed0 = c.take_apart-parts.result.typed0.items in
    let parts_typed1 = c.take_apart-parts.result.typed1.items in
    let closed = c.close-closed.result in
    let settled = settled_so _ p.seat.core.known.primary _ b.seat.core.known.backup _
    c.args.terminal.seat.core.known.terminal _ c.args.disk.seat.core.known.disk closed.tail closed.held closed.winner
    (ap (λ (x : Seat). x.core.known.primary) parts.seats.0) (ap (λ (x : Seat). x.core.known.backup) parts.seats.1)
    (ap (λ (x : Seat). x.core.known.terminal) parts.seats.2) (ap (λ (x : Seat). x.core.known.disk) parts.seats.3)
    c.close-closed.ensures in
    let goes = c.winner_of-winner.result in
    all_so (λ a b l r n k x y. LeavesBy (booted_from g.B.Lockstep.machine boot (bytes_in first)) a b goes l r
    c.take_apart-parts.result.waiting n k x y)
    parts_typed0 parts_typed1 p.port0.typed.items p.port1.typed.items _ _ _ _ _ _ _ _ _ _ _ _
    (sym (ap (λ (v : Vec ℕ Global). v.items) parts.typed.0)) (sym (ap (λ (v : Vec ℕ Global). v.items) parts.typed.1))
    (ap (λ (v : Vec Entry Global). v.items) parts.lists.0) (ap (λ (v : Vec Entry Global). v.items) parts.lists.1)
    parts.screens (ap g.D.SectorStore.records parts.disk) (ap g.B.Lockstep.state parts.boards.0)
    (ap g.B.Lockstep.state parts.boards.1)
    (left g.B.Lockstep.state g.B.Lockstep.machine g.met.B.Lockstep.counts g.met.B.Lockstep.operations boot first lawful p b
    c.args.terminal.seat.core.known.terminal c.args.disk.seat.core.known.disk closed.tail closed.held closed.winner settled
    (g.D.SectorStore.records c.args.disk.disk) leads at store c.args.contested c.requires.rests c.requires.repeated
    goes c.winner_of-winner.ensures
    (λ none. elim c.else-contested.branch [
      | else-contested-via-then-contested+else-is_none w ↦
          absurd (false≢true (sym (ap is_some none) ∙ w.is_none.ensures ∙ ap not w.if-is_none.false))
      | else-contested-via-else-contested w ↦ w.if-contested.false
    ]) c.take_apart-parts.result.waiting parts.waiting)

pub returns-clause-ran : goal.returns-clause-ran
returns-clause-ran g c = λ boot first lawful leads kept at store.
    let p = c.args.primary in
    let b = c.args.backup in
    let parts = c.take_apart-parts.ensures in
    let parts_typed0 = c.take_apart-parts.result.typed0.items in
    let parts_typed1 = c.take_apart-parts.result.typed1.items in
    let closed = c.close-closed.result in
    let settled = settled_so _ p.seat.core.known.primary _ b.seat.core.known.backup _
    c.args.terminal.seat.core.known.terminal _ c.args.disk.seat.core.known.disk closed.tail closed.held closed.winner
    (ap (λ (x : Seat). x.core.known.primary) parts.seats.0) (ap (λ (x : Seat). x.core.known.backup) parts.seats.1)
    (ap (λ (x : Seat). x.core.known.terminal) parts.seats.2) (ap (λ (x : Seat). x.core.known.disk) parts.seats.3)
    c.close-closed.ensures in
    let goes = c.winner_of-winner.result in
    all_so (λ a b l r n k x y. IsOfRun (booted_from g.B.Lockstep.machine boot (bytes_in first)) a b goes l r closed.held
    c.take_apart-parts.result.waiting n k x y)
    parts_typed0 parts_typed1 p.port0.typed.items p.port1.typed.items _ _ _ _ _ _ _ _ _ _ _ _
    (sym (ap (λ (v : Vec ℕ Global). v.items) parts.typed.0)) (sym (ap (λ (v : Vec ℕ Global). v.items) parts.typed.1))
    (ap (λ (v : Vec Entry Global). v.items) parts.lists.0) (ap (λ (v : Vec Entry Global). v.items) parts.lists.1)
    parts.screens (ap g.D.SectorStore.records parts.disk) (ap g.B.Lockstep.state parts.boards.0)
    (ap g.B.Lockstep.state parts.boards.1)
    (of_run g.B.Lockstep.state g.B.Lockstep.machine boot first lawful p b c.args.terminal.seat.core.known.terminal
    c.args.disk.seat.core.known.disk closed.tail closed.held closed.winner settled (g.D.SectorStore.records c.args.disk.disk)
    leads kept at store goes c.winner_of-winner.ensures
    (λ none. all_came p (c.requires.rests (elim c.else-contested.branch [
      | else-contested-via-then-contested+else-is_none w ↦
          absurd (false≢true (sym (ap is_some none) ∙ w.is_none.ensures ∙ ap not w.if-is_none.false))
      | else-contested-via-else-contested w ↦ w.if-contested.false
    ])).asks_nothing)
    (let few = c.args.disk.requests in omega (arith, few)) c.take_apart-parts.result.waiting parts.waiting)

pub returns-clause-there : goal.returns-clause-there
returns-clause-there g c = λ first there.
    subst (KeepsSectors first) (sym (ap g.D.SectorStore.records c.take_apart-parts.ensures.disk)) there
