-- The host that was taken out is put back in its place, as a node that joins.
use Rattle.std.proofs.Common.{◌∙◌, ap}
use Rattle.std.specs.List.{insert}
use Rattle.std.proofs.lemmas.Option.{slice_get_within}
use Rattle.ft_world.proofs.SpareHosts.{put_in_place}
use Rattle.ft_world.proofs.hosts.join.Goals as goal

pub returns : goal.returns
returns g c = record {
  joined = c.joined-joined.result;
  is = c.joined-joined.ensures;
  put = c.in-Ok.ensures.items
      ∙ ap (λ hosts. insert hosts c.args.host c.joined-joined.result) c.remove.ensures.items
      ∙ put_in_place c.args.hosts.now.items c.args.host c.joined-joined.result
      (slice_get_within c.args.hosts.now.items c.args.host _ c.requires.1);
}
