-- A run of the program as a process of a pair: what its words ask for, what it has served, and how it ends.
use Rattle.std.specs.Prelude.{◌≡◌, ℕ, List, Option, Result, Ok, Err, IfOk}
use Rattle.std.specs.declared.borrow.CowStr.{CowStr}
use Rattle.command_console.specs.Console.{HasServed}
use Rattle.command_console.specs.declared.console.Streams.{Streams}
use Rattle.command_io.specs.Statuses.{EndsIn}
use Rattle.command_io.specs.declared.failure.Failure.{Failure}
use Rattle.command_console.specs.Endings.{console_status}
use Rattle.outside_switch.specs.declared.session.HostsEnd.{HostsEnd}
use Rattle.command_line.specs.Orders.{IsAsked}
use Rattle.command_line.specs.declared.console_order.ConsoleOrder.{ConsoleOrder}
use Rattle.command_line.specs.declared.options.Request.{Request}
use Rattle.command_line.specs.declared.options.Request.TheVariants as request

-- the status of a console's end, or of its failure
abbrev pub EndsWith : {Z : Type 0} → Result HostsEnd Failure → ℕ × CowStr Z → Type 0
EndsWith (Ok end) ending = ending.0 ≡ console_status end
EndsWith (Err failure) ending = EndsIn failure ending

module _ {R W N : Type 0} (remaining : R → Option (List ℕ)) (contents : W → Option (List ℕ)) (notes : N → Option (List ℕ)) where
  -- a console has served as it was ordered, unless it has failed, and ends so
  pub record Sits {Z : Type 0} (order : ConsoleOrder) (streams : Streams R W N) (ending : ℕ × CowStr Z) : Type 0 where
    pub result : Result HostsEnd Failure
    pub served : IfOk result (HasServed remaining contents notes order streams)
    pub ends : EndsWith result ending

  -- a console is obeyed, and so is a host, and a disk is taken up, of which nothing is said here; no other request is one of a process
  abbrev pub IsRunAs : {Z : Type 0} → Request → Streams R W N → ℕ × CowStr Z → Type 0
  IsRunAs (request.Console order) streams ending = Sits order streams ending
  IsRunAs (request.Host order) streams ending = Unit {0}
  IsRunAs (request.Recover path) streams ending = Unit {0}
  IsRunAs other streams ending = ⊥

  -- the words ask for a process of a pair, and it has run and ends so
  pub record IsProcess {Z : Type 0} (words : List (List ℕ)) (streams : Streams R W N) (ending : ℕ × CowStr Z) : Type 0 where
    pub asked : Request
    pub by_words : IsAsked words asked
    pub run : IsRunAs asked streams ending
