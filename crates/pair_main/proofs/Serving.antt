-- What the words ask for was run as a process of a pair.
use Rattle.std.proofs.Common.{◌≡◌, ℕ, List, Option, Some, None, Result, Ok, Err, refl, subst, sym}
use Rattle.std.specs.Prelude.{IfSome, String}
use Rattle.std.specs.declared.alloc.Global.{Global}
use Rattle.std.specs.declared.borrow.CowStr.{CowStr}
use Rattle.command_console.specs.Console.{HasServed}
use Rattle.command_console.specs.declared.console.Streams.{Streams}
use Rattle.command_io.specs.Statuses.{EndsIn}
use Rattle.command_io.specs.declared.failure.Failure.{Failure}
use Rattle.command_console.specs.Endings.{console_status}
use Rattle.outside_switch.specs.declared.session.HostsEnd.{HostsEnd}
use Rattle.command_line.specs.Orders.{IsAsked}
use Rattle.command_line.specs.declared.console_order.ConsoleOrder.{ConsoleOrder}
use Rattle.command_line.specs.declared.host_order.HostOrder.{HostOrder}
use Rattle.command_line.specs.declared.options.Request.{Request}
use Rattle.command_line.specs.declared.options.Request.TheVariants as request
use Rattle.pair_main.specs.Processes.{IsProcess, IsRunAs, Sits}

module _ {R W N Z : Type 0} (remaining : R → Option (List ℕ)) (contents : W → Option (List ℕ)) (notes : N → Option (List ℕ))
    (streams : Streams R W N) where
  -- a console that has served, and one that has failed
  pub served : (order : ConsoleOrder) (end : HostsEnd) (ending : ℕ × CowStr Z)
      → HasServed remaining contents notes order streams end → ending.0 ≡ console_status end
      → Sits remaining contents notes order streams ending
  served order end ending has is = record { result = Ok end; served = has; ends = is }

  pub failed : (order : ConsoleOrder) (failure : Failure) (ending : ℕ × CowStr Z) → EndsIn failure ending
      → Sits remaining contents notes order streams ending
  failed order failure ending ends = record { result = Err failure; served = tt; ends = ends }

  -- a request that is one for a console, for a host, or to take a disk up
  pub as_console : (asked : Request) (order : ConsoleOrder) (ending : ℕ × CowStr Z) → asked ≡ request.Console order
      → Sits remaining contents notes order streams ending → IsRunAs remaining contents notes asked streams ending
  as_console asked order ending is sits = subst (λ r. IsRunAs remaining contents notes r streams ending) (sym is) sits

  pub as_host : (asked : Request) (order : HostOrder) (ending : ℕ × CowStr Z) → asked ≡ request.Host order
      → IsRunAs remaining contents notes asked streams ending
  as_host asked order ending is = subst (λ r. IsRunAs remaining contents notes r streams ending) (sym is) tt

  pub as_recovery : (asked : Request) (path : String Global) (ending : ℕ × CowStr Z) → asked ≡ request.Recover path
      → IsRunAs remaining contents notes asked streams ending
  as_recovery asked path ending is = subst (λ r. IsRunAs remaining contents notes r streams ending) (sym is) tt

  -- it was that of the words
  pub by_words : (words : List (List ℕ)) (asked : Request) (result : Option (ℕ × CowStr Z)) → IsAsked words asked
      → IfSome result (IsRunAs remaining contents notes asked streams) → IfSome result (IsProcess remaining contents notes words streams)
  by_words words asked None by run = tt
  by_words words asked (Some ending) by run = record { asked = asked; by_words = by; run = run }
