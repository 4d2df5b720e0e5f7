-- The laws of any lawful machine, for the Altair.
use Rattle.altair_laws.specs.Copies.{image_copy}
use Rattle.altair_laws.specs.Hosts.{begins}
use Rattle.altair_laws.proofs.ImageParts.{some_parts}
use Rattle.guest_board.specs.Guest.{altair}
use Rattle.pair_progress.specs.Always.{AsksNothing, AsksParts, AsksResponse, AsksSectors}
use Rattle.pair_protocol.specs.World.{opening}
use Rattle.host_law.specs.Fleet.{with_spares}
use Rattle.host_law.proofs.Interleaving.{runs-faithful}
use Rattle.host_progress.specs.Laws.{HostsCatchUp, HostsComplete, HostsCompleteSoon, HostsGetParts, HostsGoOn, HostsRead, HostsRecover, HostsRenew, HostsSettle, HostsTakeKeys, HostsTakeOver}
use Rattle.host_progress.proofs.CatchingUp.{pairs_catch_up}
use Rattle.host_progress.proofs.Going.{makes_step, takes_key}
use Rattle.host_progress.proofs.Joining.{hosts_join}
use Rattle.host_progress.proofs.OfAltairs.{of_altairs, shown_last}
use Rattle.host_progress.proofs.Reading.{sector_comes}
use Rattle.host_progress.proofs.Recovering.{recovers}
use Rattle.host_progress.proofs.Renewing.{hosts_renew}
use Rattle.host_progress.proofs.Resting.{completes_all, completes_soon}
use Rattle.host_progress.proofs.Settling.{pairs_settle}
use Rattle.host_progress.proofs.TakingOver.{takes_over}
use Rattle.host_progress.proofs.altairs.altair_hosts_are_never_stuck.Goals as goal

pub returns-clause-shown : goal.returns-clause-shown
returns-clause-shown c setup sectors is spares deeds last happened =
    let M = altair setup sectors in
    let r = runs-faithful M (image_copy setup.drives) (c.altairs_are_lawful.ensures setup sectors)
    (c.the_image_copies.ensures setup sectors is).0 setup.reads spares deeds last happened in (
      r.new,
      shown_last M (image_copy setup.drives) (begins setup sectors spares) last
          (with_spares M spares (opening M setup.reads)) r.new deeds r.course,
    )

pub returns-clause-takes_over : goal.returns-clause-takes_over
returns-clause-takes_over c =
    of_altairs AsksNothing HostsTakeOver (λ M C laws copies asks. takes_over M C laws copies) c.altairs_are_lawful.ensures
    c.the_image_copies.ensures (λ setup sectors is. tt)

pub returns-clause-completes : goal.returns-clause-completes
returns-clause-completes c =
    of_altairs AsksResponse HostsComplete completes_all c.altairs_are_lawful.ensures c.the_image_copies.ensures
    (λ setup sectors is. c.altairs_respond.ensures.responds setup sectors)

pub returns-clause-soon : goal.returns-clause-soon
returns-clause-soon c =
    of_altairs AsksResponse HostsCompleteSoon completes_soon c.altairs_are_lawful.ensures c.the_image_copies.ensures
    (λ setup sectors is. c.altairs_respond.ensures.responds setup sectors)

pub returns-clause-recovers : goal.returns-clause-recovers
returns-clause-recovers c =
    of_altairs AsksResponse HostsRecover recovers c.altairs_are_lawful.ensures c.the_image_copies.ensures
    (λ setup sectors is. c.altairs_respond.ensures.responds setup sectors)

pub returns-clause-catch_up : goal.returns-clause-catch_up
returns-clause-catch_up c =
    of_altairs AsksNothing HostsCatchUp (λ M C laws copies asks. pairs_catch_up M C laws copies)
    c.altairs_are_lawful.ensures c.the_image_copies.ensures (λ setup sectors is. tt)

pub returns-clause-settle : goal.returns-clause-settle
returns-clause-settle c =
    of_altairs AsksResponse HostsSettle pairs_settle c.altairs_are_lawful.ensures c.the_image_copies.ensures
    (λ setup sectors is. c.altairs_respond.ensures.responds setup sectors)

pub returns-clause-join : goal.returns-clause-join
returns-clause-join c =
    of_altairs AsksParts HostsGetParts
    (λ M C laws copies asks f w h n m generation p heard. hosts_join M C laws copies asks.0 f w h n m generation p heard)
    c.altairs_are_lawful.ensures c.the_image_copies.ensures
    (λ setup sectors is. ((c.the_image_copies.ensures setup sectors is).1, some_parts setup.drives))

pub returns-clause-renew : goal.returns-clause-renew
returns-clause-renew c =
    of_altairs AsksParts HostsRenew hosts_renew c.altairs_are_lawful.ensures c.the_image_copies.ensures
    (λ setup sectors is. ((c.the_image_copies.ensures setup sectors is).1, some_parts setup.drives))

pub returns-clause-go_on : goal.returns-clause-go_on
returns-clause-go_on c =
    of_altairs AsksResponse HostsGoOn
    (λ M C laws copies responds f w h n generation live t gives able steps.
    makes_step M C laws copies responds f w h n generation live t gives able steps)
    c.altairs_are_lawful.ensures c.the_image_copies.ensures
    (λ setup sectors is. c.altairs_respond.ensures.responds setup sectors)

pub returns-clause-keys : goal.returns-clause-keys
returns-clause-keys c =
    of_altairs AsksResponse HostsTakeKeys
    (λ M C laws copies responds f w h n generation live port byte two room typed.
    takes_key M C laws copies responds f w h n generation live port byte two room typed)
    c.altairs_are_lawful.ensures c.the_image_copies.ensures
    (λ setup sectors is. c.altairs_respond.ensures.responds setup sectors)

pub returns-clause-read : goal.returns-clause-read
returns-clause-read c =
    of_altairs AsksSectors HostsRead
    (λ M C laws copies asks f w h n generation rest drive sector due.
    sector_comes M C laws copies asks.0 asks.1 f w h n generation rest drive sector due)
    c.altairs_are_lawful.ensures c.the_image_copies.ensures
    (λ setup sectors is. (c.altairs_respond.ensures.responds setup sectors, c.altairs_respond.ensures.reads setup sectors))
