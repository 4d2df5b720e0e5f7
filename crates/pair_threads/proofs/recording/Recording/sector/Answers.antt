-- The sector is taken, as the disk answered it, at the address that it was read at.
use Rattle.std.proofs.Common.{sym, ◌∙◌, refl}
use Rattle.pair_threads.proofs.Telling.{hears_read}
use Rattle.pair_threads.proofs.recording.Recording.sector.Goals as goal

pub returns-clause-onward : goal.returns-clause-onward
returns-clause-onward g c = λ done.
    hears_read g.B.Lockstep.state g.B.Lockstep.machine c.args.self.now c.offer.new.self c.args.read.now
    (sym c.sector_under-under.ensures ∙ c.if-not-is_at.ensures.0 refl) (c.offer.ensures.onward done)
