-- Why the loop of a host ends: what came says so, or what the host has then.
use Rattle.std.specs.Prelude.{◌≡◌, Option, Some, None, []}
use Rattle.guest_lockstep.specs.Machine.{Machine}
use Rattle.guest_parts.specs.Guest.{Guest}
use Rattle.host_frames.specs.Frames.{Tells}
use Rattle.host_frames.specs.declared.frame.Notice.TheVariants as notice
use Rattle.host_node.specs.Goes.{Goes}
use Rattle.host_node.specs.Looks.{HasRole}
use Rattle.host_node.specs.Mail.{IsFrom}
use Rattle.host_node.specs.declared.host.HostNode.{HostNode}
use Rattle.host_node.specs.declared.pace.End.{End}
use Rattle.host_node.specs.declared.pace.End.TheVariants as of_end
use Rattle.pair_events.specs.declared.reply.Role.{Role}
use Rattle.pair_events.specs.declared.reply.Role.TheVariants as role

-- these nodes repeat what a peer has sent
abbrev pub Repeats : Option Role → Type 0
Repeats (Some role.Backup) = Unit {0}
Repeats (Some role.Draining) = Unit {0}
Repeats _ = ⊥

-- a host with this role has no machine yet: it joins, or is a spare
abbrev pub HasNoMachine : Option Role → Type 0
HasNoMachine None = Unit {0}
HasNoMachine (Some role.Joining) = Unit {0}
HasNoMachine _ = ⊥

-- how a node of this role ends its loop if it refuses: its peer has sent what does not fit, or memory is out
abbrev pub IsRefusal : Option Role → End → Type 0
IsRefusal given of_end.Diverged = Repeats given
IsRefusal given of_end.OutOfMemory = Unit {0}
IsRefusal given _ = ⊥

module _ {B S : Type 0} {H : Type 0} (state : B → S) (M : Machine S) (copied : B → Guest) where
  -- on its way from one state to a later one the host had such a node
  pub record Passed (Is : Option Role → Type 0) (first last : HostNode B H) : Type 0 where
    pub at : HostNode B H
    pub before : Goes state M copied first at
    pub given : Option Role
    pub has : HasRole state M at.node given
    pub is : Is given
    pub after : Goes state M copied at last

  -- nothing is said of want of memory
  abbrev pub IsEnd : End → (first last : HostNode B H) → Type 0
  IsEnd of_end.Stopped first last = IsFrom last.mail.came (Tells notice.Stop)
  IsEnd of_end.Closed first last = last.mail.waits ≡ []
  IsEnd of_end.Lost first last = HasRole state M last.node (Some role.Halted)
  IsEnd of_end.Diverged first last = Passed Repeats first last
  IsEnd of_end.Orphaned first last = (given : Option Role) × HasRole state M last.node given × HasNoMachine given
  IsEnd of_end.OutOfMemory first last = Unit {0}
