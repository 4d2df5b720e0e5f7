-- What is read is the body's frame; if nothing is read, no frame has this body.
use Rattle.std.proofs.Common.{arith}
use Rattle.host_frames.proofs.BodyLaws.{found_clause, none_clause}
use Rattle.host_frames.proofs.reading.frame_of.Goals as goal

pub returns-clause-found : goal.returns-clause-found
returns-clause-found c =
    rw c.ok_or.ensures.value
    (found_clause c.args.body.now c.read_body.result (λ i. omega (arith, c.type_inv.body i)) c.read_body.ensures)

pub returns-clause-none : goal.returns-clause-none
returns-clause-none c = rw c.ok_or.ensures.value (none_clause c.args.body.now c.read_body.result c.read_body.ensures)
