-- The loop of a host ends for the same reason on a way that began earlier.
use Rattle.std.specs.Prelude.{IfErr, Option, Result, Ok, Err}
use Rattle.guest_lockstep.specs.Machine.{Machine}
use Rattle.guest_parts.specs.Guest.{Guest}
use Rattle.host_node.proofs.Going.{and_then}
use Rattle.host_node.specs.Ends.{HasNoMachine, IsEnd, IsRefusal}
use Rattle.host_node.specs.Goes as goes
use Rattle.host_node.specs.Goes.{Goes}
use Rattle.host_node.specs.Looks.{HasRole}
use Rattle.host_node.specs.declared.host.HostNode.{HostNode}
use Rattle.host_node.specs.declared.pace.End.{End}
use Rattle.host_node.specs.declared.pace.End.TheVariants as of_end
use Rattle.pair_events.specs.declared.reply.Role.{Role}

module _ {B S : Type 0} {H : Type 0} (state : B → S) (M : Machine S) (copied : B → Guest) where
  pub ends_since : (a b c : HostNode B H) (end : End) → Goes state M copied a b → IsEnd state M copied end b c
      → IsEnd state M copied end a c
  ends_since a b c of_end.Stopped way is = is
  ends_since a b c of_end.Closed way is = is
  ends_since a b c of_end.Lost way is = is
  ends_since a b c of_end.Diverged way is = record {
    at = is.at;
    before = and_then state M copied a b is.at way is.before;
    given = is.given;
    has = is.has;
    is = is.is;
    after = is.after;
  }
  ends_since a b c of_end.Orphaned way is = is
  ends_since a b c of_end.OutOfMemory way is = is

  -- the same of a call that says why it ends
  pub errs_since : {A : Type 0} (a b c : HostNode B H) (r : Result A End) → Goes state M copied a b
      → IfErr r (λ end. IsEnd state M copied end b c) → IfErr r (λ end. IsEnd state M copied end a c)
  errs_since a b c (Ok value) way is = tt
  errs_since a b c (Err end) way is = ends_since a b c end way is

  -- it was to be given a machine, and has none
  pub orphaned : (a b : HostNode B H) (role : Option Role) → HasRole state M b.node role → HasNoMachine role
      → IsEnd state M copied of_end.Orphaned a b
  orphaned a b role has none = (role, has, none)

  -- the node refused what it does in its role
  pub refused : (a b : HostNode B H) (role : Option Role) (end : End) → HasRole state M a.node role → Goes state M copied a b
      → IsRefusal role end → IsEnd state M copied end a b
  refused a b role of_end.Stopped has way is = absurd is
  refused a b role of_end.Closed has way is = absurd is
  refused a b role of_end.Lost has way is = absurd is
  refused a b role of_end.Diverged has way is = record {
    at = a;
    before = goes.Rests;
    given = role;
    has = has;
    is = is;
    after = way;
  }
  refused a b role of_end.Orphaned has way is = absurd is
  refused a b role of_end.OutOfMemory has way is = is
