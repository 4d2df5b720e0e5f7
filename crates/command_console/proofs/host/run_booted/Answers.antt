-- The host boots with empty rings, its loop leaves it at them, and then the threads at their other ends are joined.
use Rattle.std.proofs.Common.{ap, ◌∙◌}
use Rattle.command_console.proofs.HostStreams.{heard_so, reads_still, said_so, writes_still}
use Rattle.command_console.proofs.host.run_booted.Goals as goal
use Rattle.host_frames.specs.StreamReading.{contents_of}

pub end_writing-said-requires-after_bounds : goal.end_writing-said-requires-after_bounds
end_writing-said-requires-after_bounds g c κs within =
    writes_still g.B.Lockstep.state g.B.Lockstep.machine g.B.Copies.copied c.in_ok-host.host c.serve-host.result.0
    c.in_ok-mail.mail c.into_mail-mail.result c.in_ok-bodies.bodies c.into_rings-bodies.result.0
    c.in_ok-frames.frames c.into_rings-bodies.result.1 c.in_ok-host.ensures.mail c.in_ok-mail.ensures.rings
    c.serve-host.ensures.goes c.into_mail-mail.ensures c.into_rings-bodies.ensures.rings c.args.streams.1
    c.in_ok-frames.writing.promise.writer.value c.in_ok-frames.ensures.writes

pub heard_of-heard-requires-after_bounds : goal.heard_of-heard-requires-after_bounds
heard_of-heard-requires-after_bounds g c κs within =
    reads_still g.B.Lockstep.state g.B.Lockstep.machine g.B.Copies.copied c.in_ok-host.host c.serve-host.result.0
    c.in_ok-mail.mail c.into_mail-mail.result c.in_ok-bodies.bodies c.into_rings-bodies.result.0
    c.in_ok-frames.frames c.into_rings-bodies.result.1 c.in_ok-host.ensures.mail c.in_ok-mail.ensures.rings
    c.serve-host.ensures.goes c.into_mail-mail.ensures c.into_rings-bodies.ensures.rings c.args.streams.0
    c.in_ok-bodies.reading.promise.reader.value c.in_ok-bodies.ensures.reads

pub returns : goal.returns
returns g c = record {
  first = c.in_ok-host.host;
  last = c.serve-host.result.0;
  boots = c.in_ok-host.ensures.boots;
  drives_are = c.in_ok-host.ensures.drives;
  none_came = ap (λ m. m.came) c.in_ok-host.ensures.mail ∙ c.in_ok-mail.ensures.came ∙ ap contents_of c.in_ok-bodies.ensures.none;
  none_gone = ap (λ m. m.gone) c.in_ok-host.ensures.mail ∙ c.in_ok-mail.ensures.gone
      ∙ ap contents_of c.in_ok-frames.ensures.none;
  went = c.serve-host.ensures.goes;
  why = c.serve-host.ensures.why;
  waited = c.heard_of-heard.ensures.waits;
  heard = heard_so g.I.Read.remaining _ c.args.streams.0 _ _ _ c.in_ok-bodies.ensures.reads.source_is
      (c.into_rings-bodies.ensures.came ∙ ap (λ m. m.came) c.into_mail-mail.ensures) c.heard_of-heard.ensures.heard;
  said = said_so g.O.Write.contents _ c.args.streams.1 _ _ _ c.in_ok-frames.ensures.writes.sink_is
      (c.into_rings-bodies.ensures.gone ∙ ap (λ m. m.gone) c.into_mail-mail.ensures) c.end_writing-said.ensures;
}
