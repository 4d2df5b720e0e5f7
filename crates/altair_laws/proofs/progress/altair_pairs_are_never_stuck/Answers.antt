-- The laws of any lawful machine, for the Altair.
use Rattle.altair_laws.specs.Copies.{image_copy}
use Rattle.guest_board.specs.Guest.{altair}
use Rattle.pair_progress.specs.Always.{AsksNothing, AsksParts, AsksResponse, AsksSectors}
use Rattle.pair_progress.specs.CatchingUp.{CatchesUp}
use Rattle.pair_progress.specs.Completion.{Completes, CompletesSoon}
use Rattle.pair_progress.specs.Following.{IsFollowed}
use Rattle.pair_progress.specs.Going.{CaughtUpGoesOn, ServesOn}
use Rattle.pair_progress.specs.Reading.{SectorsCome}
use Rattle.pair_progress.specs.Recovery.{Recovers}
use Rattle.pair_progress.specs.Renewal.{HostsJoin, Renews}
use Rattle.pair_progress.specs.Settling.{PairsSettle}
use Rattle.pair_progress.specs.Takeover.{TakesOver}
use Rattle.pair_progress.proofs.CatchingUp.{pairs_catch_up}
use Rattle.pair_progress.proofs.Following.{is_followed}
use Rattle.pair_progress.proofs.Going.{caught_up_goes_on, serves_on}
use Rattle.pair_progress.proofs.Joining.{hosts_join}
use Rattle.pair_progress.proofs.Lacking.{joiners_lack}
use Rattle.pair_progress.proofs.Reading.{sectors_come}
use Rattle.pair_progress.proofs.Recovering.{recovers}
use Rattle.pair_progress.proofs.Renewing.{renews}
use Rattle.pair_progress.proofs.Resting.{completes_all, completes_soon}
use Rattle.pair_progress.proofs.Settling.{pairs_settle}
use Rattle.pair_progress.proofs.Takeover.{takes_over}
use Rattle.altair_laws.proofs.Always.{of_altairs}
use Rattle.altair_laws.proofs.ImageParts.{some_parts}
use Rattle.altair_laws.proofs.progress.altair_pairs_are_never_stuck.Goals as goal

pub returns-clause-takes_over : goal.returns-clause-takes_over
returns-clause-takes_over c =
    of_altairs AsksNothing TakesOver (λ M C laws copies asks. takes_over M C laws copies) c.altairs_are_lawful.ensures
    c.the_image_copies.ensures (λ setup sectors is. tt)

pub returns-clause-serves : goal.returns-clause-serves
returns-clause-serves c =
    of_altairs AsksResponse ServesOn serves_on c.altairs_are_lawful.ensures c.the_image_copies.ensures
    (λ setup sectors is. c.altairs_respond.ensures.responds setup sectors)

pub returns-clause-recovers : goal.returns-clause-recovers
returns-clause-recovers c =
    of_altairs AsksResponse Recovers recovers c.altairs_are_lawful.ensures c.the_image_copies.ensures
    (λ setup sectors is. c.altairs_respond.ensures.responds setup sectors)

pub returns-clause-completes : goal.returns-clause-completes
returns-clause-completes c =
    of_altairs AsksResponse Completes completes_all c.altairs_are_lawful.ensures c.the_image_copies.ensures
    (λ setup sectors is. c.altairs_respond.ensures.responds setup sectors)

pub returns-clause-soon : goal.returns-clause-soon
returns-clause-soon c =
    of_altairs AsksResponse CompletesSoon completes_soon c.altairs_are_lawful.ensures c.the_image_copies.ensures
    (λ setup sectors is. c.altairs_respond.ensures.responds setup sectors)

pub returns-clause-catch_up : goal.returns-clause-catch_up
returns-clause-catch_up c =
    of_altairs AsksNothing CatchesUp (λ M C laws copies asks. pairs_catch_up M C laws copies)
    c.altairs_are_lawful.ensures c.the_image_copies.ensures (λ setup sectors is. tt)

pub returns-clause-go_on : goal.returns-clause-go_on
returns-clause-go_on c =
    of_altairs AsksResponse CaughtUpGoesOn caught_up_goes_on c.altairs_are_lawful.ensures c.the_image_copies.ensures
    (λ setup sectors is. c.altairs_respond.ensures.responds setup sectors)

pub returns-clause-settle : goal.returns-clause-settle
returns-clause-settle c =
    of_altairs AsksResponse PairsSettle pairs_settle c.altairs_are_lawful.ensures c.the_image_copies.ensures
    (λ setup sectors is. c.altairs_respond.ensures.responds setup sectors)

pub returns-clause-renew : goal.returns-clause-renew
returns-clause-renew c =
    of_altairs AsksParts Renews renews c.altairs_are_lawful.ensures c.the_image_copies.ensures
    (λ setup sectors is. ((c.the_image_copies.ensures setup sectors is).1, some_parts setup.drives))

pub returns-clause-join : goal.returns-clause-join
returns-clause-join c =
    of_altairs AsksParts HostsJoin
    (λ M C laws copies asks w r n host generation. hosts_join M C laws copies asks.0 n host generation w r)
    c.altairs_are_lawful.ensures c.the_image_copies.ensures
    (λ setup sectors is. ((c.the_image_copies.ensures setup sectors is).1, some_parts setup.drives))

pub returns-clause-lack : goal.returns-clause-lack
returns-clause-lack c setup sectors is events replies w run =
    joiners_lack (altair setup sectors) (image_copy setup.drives) (some_parts setup.drives) setup.reads events replies w run

pub returns-clause-followed : goal.returns-clause-followed
returns-clause-followed c =
    of_altairs AsksNothing IsFollowed (λ M C laws copies asks. is_followed M C laws copies) c.altairs_are_lawful.ensures
    c.the_image_copies.ensures (λ setup sectors is. tt)

pub returns-clause-read : goal.returns-clause-read
returns-clause-read c =
    of_altairs AsksSectors SectorsCome (λ M C laws copies asks. sectors_come M C laws copies asks.0 asks.1)
    c.altairs_are_lawful.ensures c.the_image_copies.ensures
    (λ setup sectors is. (c.altairs_respond.ensures.responds setup sectors, c.altairs_respond.ensures.reads setup sectors))
