-- What a host boots with, and what it does from then on.
use Rattle.std.specs.Prelude.{◌≡◌, ℕ, [], List, IfSome, IsSome, Option}
use Rattle.command_console.specs.declared.booting.Booted.{Booted}
use Rattle.command_console.specs.declared.booting.Booted.TheVariants as booted
use Rattle.command_console.specs.declared.host.Served.{Served}
use Rattle.host_frames.specs.Threads.{HasHeard, IsWritten}
use Rattle.ft_node.specs.AnyNode.{IsNode}
use Rattle.ft_node.specs.Calls.{Begins}
use Rattle.ft_node.specs.declared.node.Node as code
use Rattle.guest_lockstep.specs.Machine.{Machine}
use Rattle.guest_lockstep.specs.declared.reads.Reads.TheVariants.{Shared}
use Rattle.guest_parts.specs.Guest.{Guest}
use Rattle.host_node.specs.Ends.{IsEnd}
use Rattle.host_node.specs.Goes.{Goes}
use Rattle.host_node.specs.declared.host.HostNode.{HostNode}
use Rattle.host_node.specs.declared.host.Hosted.TheVariants as hosted
use Rattle.host_node.specs.declared.pace.End.TheVariants as of_end
use Rattle.pair_protocol.specs.Copying.{Copying}
use Rattle.pair_protocol.specs.Node.{Node, Role, Primary, Backup}

-- the host of this number has a node of generation 1 in this role, whose machine has this state
pub record HasNode {B S : Type 0} {H : Type 0} (state : B → S) (M : Machine S) (number : ℕ) (role : Role) (s : S)
    (host : HostNode B H) : Type 0 where
  pub numbered : host.number ≡ number
  pub node : code.Node B H
  pub has : host.node ≡ hosted.Node node
  pub begins : (C : Copying S) (drives : ℕ) (x : Node S) → Begins M role 1 Shared s x → IsNode state M C drives node x

-- host 0 is the primary and host 1 its backup, each with its machine; any other one has closures alone
abbrev pub Boots : {B S : Type 0} {H : Type 0} → (B → S) → Machine S → Booted B H → HostNode B H → Type 0
Boots state M (booted.Primary board) host = HasNode state M 0 Primary (state board) host
Boots state M (booted.Backup board) host = HasNode state M 1 Backup (state board) host
Boots state M (booted.Spare callbacks) host = host.node ≡ hosted.Spare callbacks

-- Such a host, to which nothing had come and from which nothing had gone, went on to its last state: its node made a run of
-- the law's host, which takes only what came, and what went from it spells what that run sends. Its loop ended for this reason.
-- If it is because the stream to it has ended, that is handed back, and what came are the bodies of its frames, but for those
-- that it says are left. What went from it was written to the other stream, and nothing else, unless that says why not.
pub record HasServed {B S : Type 0} {H I O : Type 0} (state : B → S) (M : Machine S) (copied : B → Guest)
    (left : I → Option (List ℕ)) (contents : O → Option (List ℕ)) (drives : ℕ) (with : Booted B H) (streams : I × O)
    (served : Served I O) : Type 0 where
  pub first : HostNode B H
  pub last : HostNode B H
  pub boots : Boots state M with first
  pub drives_are : first.drives ≡ drives
  pub none_came : first.mail.came ≡ []
  pub none_gone : first.mail.gone ≡ []
  pub went : Goes state M copied first last
  pub why : IsEnd state M copied served.end first last
  pub waited : served.end ≡ of_end.Closed → IsSome served.heard
  pub heard : IfSome served.heard (HasHeard left streams.0 last.mail.came)
  pub said : IsWritten contents streams.1 last.mail.gone served.said
