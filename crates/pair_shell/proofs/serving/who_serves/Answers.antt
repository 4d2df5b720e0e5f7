-- The winner serves, or the nodes of a generation that nobody has won, and nobody else.
use Rattle.ft_world.specs.Standing.{machine_of}
use Rattle.pair_protocol.proofs.Promises.Faithful.{reached}
use Rattle.pair_shell.proofs.Others.{undecided_are_all, winner_is_all}
use Rattle.pair_shell.proofs.Servers.{undecided_serve, winner_serves}
use Rattle.pair_shell.proofs.serving.who_serves.Goals as goal

pub returns-in-Some-clause-serves : goal.returns-in-Some-clause-serves
returns-in-Some-clause-serves g c = λ course h.
    winner_serves course.world c.generation-generation.result (c.generation-generation.ensures course h) c.won.result c.in-Some.node
    c.role_of.result (c.role_of.ensures course h) c.won.ensures

pub returns-in-Some-clause-all : goal.returns-in-Some-clause-all
returns-in-Some-clause-all g c = λ course h.
    let M = machine_of g.B.Lockstep.machine course in
    winner_is_all M course.copying course.world
    (reached M course.copying h.machine.lawful h.machine.copies course.world h.reached) c.args.hosts
    c.generation-generation.result (c.generation-generation.ensures course h) c.won.result c.in-Some.node c.role_of.result
    (c.in-Some.ensures course h) (c.role_of.ensures course h) c.won.ensures

pub returns-in-None-clause-serves : goal.returns-in-None-clause-serves
returns-in-None-clause-serves g c = λ course h.
    undecided_serve course.world c.generation-generation.result (c.generation-generation.ensures course h) c.undecided.result
    (c.in-None.ensures course h) c.find.result c.find-in-None.result c.find-in-None-2.result (c.find.ensures.some course h)
    (c.find-in-None.ensures.some course h) (c.find-in-None-2.ensures.some course h) c.undecided.ensures

pub returns-in-None-clause-all : goal.returns-in-None-clause-all
returns-in-None-clause-all g c = λ course h.
    let M = machine_of g.B.Lockstep.machine course in
    undecided_are_all M course.copying course.world
    (reached M course.copying h.machine.lawful h.machine.copies course.world h.reached) c.args.hosts
    c.generation-generation.result (c.generation-generation.ensures course h) c.undecided.result (c.in-None.ensures course h)
    c.find.result c.find-in-None.result c.find-in-None-2.result (c.find.ensures.some course h)
    (c.find-in-None.ensures.some course h) (λ none. c.find.ensures.none none course h)
    (λ none. c.find-in-None.ensures.none none course h) (λ none. c.find-in-None-2.ensures.none none course h) c.undecided.ensures
