-- The station is lent out of the list: whatever it has become is in its place afterwards.
use Rattle.std.proofs.Common.{length, refl}
use Rattle.std.proofs.lemmas.Option.{slice_get_past, slice_get_read}
use Rattle.ft_world.proofs.Lending.{absent_past, absent_there, found_there, not_lent, put_back}
use Rattle.ft_world.proofs.hosts.station_mut.Goals as goal

pub returns-in-Some : goal.returns-in-Some
returns-in-Some g c =
    let hosts = c.args.hosts.now.items in
    let here = c.in-Some.host.now in
    let there = slice_get_read hosts (length hosts) c.args.node here refl c.in-Some.ensures.item.3.0
    c.in-Some.ensures.value in
    let found = c.station_mut.ensures.found in (
      (
        refl,
        (λ station ok. put_back hosts c.args.node here there c.station_mut.result station ok found),
        not_lent hosts c.args.node here there c.station_mut.result,
      ),
      record {
        lends = tt;
        found = found_there hosts c.args.node here there c.station_mut.result found;
        absent = absent_there hosts c.args.node here there c.station_mut.result c.station_mut.ensures.absent;
      },
    )

pub returns-in-None : goal.returns-in-None
returns-in-None g c = (
  (refl, (λ station ok. absurd (cc)), refl),
  record {
    lends = tt;
    found = tt;
    absent = (
      refl,
      absent_past c.args.hosts.now.items c.args.node
          (slice_get_past c.args.hosts.now.items c.args.node c.in-None.ensures.item.3),
    );
  },
)
