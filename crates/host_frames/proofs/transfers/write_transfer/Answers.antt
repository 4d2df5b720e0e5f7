-- The body of what a machine has was made of the transfer itself.
use Rattle.std.proofs.Common.{◌≡◌, List, ◌++◌, ℕ, sym, ap, subst, ◌∙◌}
use Rattle.std.specs.Prelude.{OnOk}
use Rattle.host_frames.specs.Frames.{transfer_body}
use Rattle.host_frames.proofs.transfers.write_transfer.Goals as goal

pub returns-in-Inspected-clause-ok : goal.returns-in-Inspected-clause-ok
returns-in-Inspected-clause-ok c =
    subst
    (λ (body : List ℕ). OnOk c.append-in-Inspected.result
    (c.append-in-Inspected.new.out.items ≡ c.args.out.now.items ++ body))
    (c.inspected_body.ensures ∙ ap transfer_body (sym c.in-Inspected.is)) c.append-in-Inspected.ensures.ok
