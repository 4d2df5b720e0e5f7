-- The disk's worker begins with what was booted; and the workers' ends are of what was given to them.
use Rattle.std.proofs.Common.{ap, sym, subst, ◌∙◌, Vec, Global, ℕ}
use Rattle.std.proofs.lemmas.Result.{on_ok_weaker}
use Rattle.pair_rule.specs.Seats.{Seat}
use Rattle.pair_threads.specs.declared.plan.Briefing.{Briefing}
use Rattle.pair_threads.specs.declared.port_inputs.PortInputs.{PortInputs}
use Rattle.pair_rule.specs.declared.view.Core.{Core}
use Rattle.pair_threads.specs.Repeating.{IsAt}
use Rattle.pair_threads.specs.Stores.{IsStore}
use Rattle.shared_disk.specs.Records.{IsUnwritten, bytes_in}
use Rattle.pair_threads.specs.Ending.{KeepsSectors}
use Rattle.pair_threads.proofs.Serving.{first_disk}
use Rattle.pair_threads.proofs.run.run_generation.Goals as goal

pub work-served-requires-clause-disk : goal.work-served-requires-clause-disk
work-served-requires-clause-disk g c κs within =
    let made = c.new-7.ensures in
    let opened = c.in_ok-fabric.ensures in
    let store = first_disk (g.D.SectorStore.records c.new-7.result.disk) c.new-7.result.seat.core.known.disk
    (ap (λ (x : Seat). x.core.known.disk.puts) made.seat ∙ ap (λ (x : Core). x.known.disk.puts) opened.disk)
    (ap (λ (x : Seat). x.core.known.disk.given) made.seat ∙ ap (λ (x : Core). x.known.disk.given) opened.disk)
    (subst IsUnwritten (sym (ap g.D.SectorStore.records made.disk)) c.requires.unwritten) in (
      ap (λ (x : Seat). x.table) made.seat ∙ opened.one.4,
      (bytes_in (g.D.SectorStore.records c.new-7.result.disk), store),
      (λ boots same. same, λ address there. there),
    )

pub returns-clause-ends : goal.returns-clause-ends
returns-clause-ends g c =
    let served = c.work-served in
    let state = g.B.Lockstep.state in
    let records = g.D.SectorStore.records in
    let made = c.new-7.ensures in
    let opened = c.in_ok-fabric.ensures in
    let store = first_disk (records c.new-7.result.disk) c.new-7.result.seat.core.known.disk
    (ap (λ (x : Seat). x.core.known.disk.puts) made.seat ∙ ap (λ (x : Core). x.known.disk.puts) opened.disk)
    (ap (λ (x : Seat). x.core.known.disk.given) made.seat ∙ ap (λ (x : Core). x.known.disk.given) opened.disk)
    (subst IsUnwritten (sym (ap records made.disk)) c.requires.unwritten) in
    c.finish.ensures.ends (state c.args.workers.primary) (records c.args.workers.disk) c.requires.lawful
    (on_ok_weaker served.result.primary.1 (λ end. end.0.4 (state c.args.workers.primary) c.new-3.ensures.leads)
    served.ensures.primary.1)
    (on_ok_weaker served.result.backup.1
    (λ end. end.0.2 (state c.args.workers.primary)
    (subst (λ b. IsAt state g.B.Lockstep.machine b c.new-5.result.guest) c.requires.alike c.new-5.ensures.at))
    served.ensures.backup.1)
    (on_ok_weaker served.result.disk.1
    (λ end. subst (λ r. IsStore (bytes_in r) (records served.result.disk.0.disk) served.result.disk.0.seat.core.known.disk)
    (ap records c.new-7.ensures.disk) (end.0.0 (bytes_in (records c.new-7.result.disk)) store)) served.ensures.disk.1)

pub returns-clause-left : goal.returns-clause-left
returns-clause-left g c =
    let served = c.work-served in
    let state = g.B.Lockstep.state in
    let records = g.D.SectorStore.records in
    let made = c.new-7.ensures in
    let opened = c.in_ok-fabric.ensures in
    let store = first_disk (records c.new-7.result.disk) c.new-7.result.seat.core.known.disk
    (ap (λ (x : Seat). x.core.known.disk.puts) made.seat ∙ ap (λ (x : Core). x.known.disk.puts) opened.disk)
    (ap (λ (x : Seat). x.core.known.disk.given) made.seat ∙ ap (λ (x : Core). x.known.disk.given) opened.disk)
    (subst IsUnwritten (sym (ap records made.disk)) c.requires.unwritten) in
    c.finish.ensures.left (state c.args.workers.primary) (records c.args.workers.disk) c.requires.lawful
    (on_ok_weaker served.result.primary.1 (λ end. end.0.4 (state c.args.workers.primary) c.new-3.ensures.leads)
    served.ensures.primary.1)
    (on_ok_weaker served.result.backup.1
    (λ end. end.0.2 (state c.args.workers.primary)
    (subst (λ b. IsAt state g.B.Lockstep.machine b c.new-5.result.guest) c.requires.alike c.new-5.ensures.at))
    served.ensures.backup.1)
    (on_ok_weaker served.result.disk.1
    (λ end. subst (λ r. IsStore (bytes_in r) (records served.result.disk.0.disk) served.result.disk.0.seat.core.known.disk)
    (ap records c.new-7.ensures.disk) (end.0.0 (bytes_in (records c.new-7.result.disk)) store)) served.ensures.disk.1)

pub returns-clause-typed : goal.returns-clause-typed
returns-clause-typed g c =
    let served = c.work-served in
    c.finish.ensures.typed c.args.workers.typed0.items c.args.workers.typed1.items
    (on_ok_weaker served.result.primary.1 (λ end. (
      ap (λ (v : Vec ℕ Global). v.items)
          (end.0.1 ∙ ap (λ (p : PortInputs). p.typed) c.new-3.ensures.plan.1 ∙ c.new.ensures.0),
      ap (λ (v : Vec ℕ Global). v.items)
          (end.0.2 ∙ ap (λ (p : PortInputs). p.typed) c.new-3.ensures.plan.2 ∙ c.new-2.ensures.0),
    )) served.ensures.primary.1)

pub returns-clause-decided : goal.returns-clause-decided
returns-clause-decided g c =
    let served = c.work-served in
    c.finish.ensures.decided c.args.workers.primary_contests c.args.workers.backup_contests
    (on_ok_weaker served.result.primary.1 (λ end. ap (λ (p : Briefing). p.contests_at) (end.0.0 ∙ c.new-3.ensures.plan.0)
    ∙ c.new-lead.ensures.asks.0) served.ensures.primary.1)
    (on_ok_weaker served.result.backup.1 (λ end. ap (λ (p : Briefing). p.contests_at) (end.0.0 ∙ c.new-5.ensures.plan.0)
    ∙ c.new-follow.ensures.asks.0) served.ensures.backup.1)

pub returns-clause-ran : goal.returns-clause-ran
returns-clause-ran g c =
    let served = c.work-served in
    let state = g.B.Lockstep.state in
    let records = g.D.SectorStore.records in
    let made = c.new-7.ensures in
    let opened = c.in_ok-fabric.ensures in
    let store = first_disk (records c.new-7.result.disk) c.new-7.result.seat.core.known.disk
    (ap (λ (x : Seat). x.core.known.disk.puts) made.seat ∙ ap (λ (x : Core). x.known.disk.puts) opened.disk)
    (ap (λ (x : Seat). x.core.known.disk.given) made.seat ∙ ap (λ (x : Core). x.known.disk.given) opened.disk)
    (subst IsUnwritten (sym (ap records made.disk)) c.requires.unwritten) in
    c.finish.ensures.ran (state c.args.workers.primary) (records c.args.workers.disk) c.requires.lawful
    (on_ok_weaker served.result.primary.1 (λ end. end.0.4 (state c.args.workers.primary) c.new-3.ensures.leads)
    served.ensures.primary.1)
    (on_ok_weaker served.result.primary.1
    (λ end. end.0.5 (state c.args.workers.primary) c.new-3.ensures.leads c.new-3.ensures.keeps) served.ensures.primary.1)
    (on_ok_weaker served.result.backup.1
    (λ end. end.0.2 (state c.args.workers.primary)
    (subst (λ b. IsAt state g.B.Lockstep.machine b c.new-5.result.guest) c.requires.alike c.new-5.ensures.at))
    served.ensures.backup.1)
    (on_ok_weaker served.result.disk.1
    (λ end. subst (λ r. IsStore (bytes_in r) (records served.result.disk.0.disk) served.result.disk.0.seat.core.known.disk)
    (ap records c.new-7.ensures.disk) (end.0.0 (bytes_in (records c.new-7.result.disk)) store)) served.ensures.disk.1)

pub returns-clause-there : goal.returns-clause-there
returns-clause-there g c =
    let served = c.work-served in
    let records = g.D.SectorStore.records in
    c.finish.ensures.there (records c.args.workers.disk)
    (on_ok_weaker served.result.disk.1 (λ end. subst (λ r. KeepsSectors r (records served.result.disk.0.disk))
    (ap records c.new-7.ensures.disk) end.0.1) served.ensures.disk.1)
