-- Each of these bodies was made of the notice itself.
use Rattle.std.proofs.Common.{◌≡◌, List, ◌++◌, ℕ, sym, ap, subst, ◌∙◌}
use Rattle.std.specs.Prelude.{OnOk}
use Rattle.host_frames.specs.Frames.{notice_body}
use Rattle.host_frames.proofs.notices.write_notice.Goals as goal

pub returns-in-Join-clause-ok : goal.returns-in-Join-clause-ok
returns-in-Join-clause-ok c =
    subst
    (λ (body : List ℕ). OnOk c.append-in-Join.result (c.append-in-Join.new.out.items ≡ c.args.out.now.items ++ body))
    (c.join_body.ensures ∙ ap notice_body (sym c.in-Join.is)) c.append-in-Join.ensures.ok

pub returns-in-Report-clause-ok : goal.returns-in-Report-clause-ok
returns-in-Report-clause-ok c =
    subst
    (λ (body : List ℕ). OnOk c.append-in-Report.result (c.append-in-Report.new.out.items ≡ c.args.out.now.items ++ body))
    (c.report_body.ensures ∙ ap notice_body (sym c.in-Report.is)) c.append-in-Report.ensures.ok

pub returns-in-Progress-clause-ok : goal.returns-in-Progress-clause-ok
returns-in-Progress-clause-ok c =
    subst
    (λ (body : List ℕ). OnOk c.append-in-Progress.result
    (c.append-in-Progress.new.out.items ≡ c.args.out.now.items ++ body))
    (c.progress_body.ensures ∙ ap notice_body (sym c.in-Progress.is)) c.append-in-Progress.ensures.ok

pub returns-in-Tick-clause-ok : goal.returns-in-Tick-clause-ok
returns-in-Tick-clause-ok c =
    subst
    (λ (body : List ℕ). OnOk c.append-in-Tick.result (c.append-in-Tick.new.out.items ≡ c.args.out.now.items ++ body))
    (c.tick_body.ensures ∙ ap notice_body (sym c.in-Tick.is)) c.append-in-Tick.ensures.ok
