-- It was heard, and the keyboards are compared.
use Rattle.std.proofs.Common.{subst}
use Rattle.std.specs.Prelude.{IfSome}
use Rattle.command_console.specs.Hearing.{HasHeard}
use Rattle.command_console.proofs.session.await_keys.Goals as goal

pub returns : goal.returns
returns g c = record {
  new = c.join-heard.result.0;
  heard = subst (λ o. IfSome o (λ e. HasHeard g.S.KeySource.left g.I.Interpreter.given e c.args.hearing.promise.0.value
      c.join-heard.result.0)) c.in-Some.is c.join-heard.ensures;
  came0 = c.compare_keys.ensures;
  came1 = c.compare_keys-2.ensures;
}
