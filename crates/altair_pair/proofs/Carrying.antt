-- What a message carries is what the protocol's message does that it stands for.
use Rattle.std.proofs.Common.{◌≡◌, ℕ, List, Option, Some, None, ap, ap₂, refl, subst, sym}
use Rattle.std.specs.Prelude.{option_map, slice_get}
use Rattle.ft_world.specs.Shows.{Agree, IsStatusAt}
use Rattle.ft_world.specs.Standing.{Course}
use Rattle.ft_world.specs.Words.{IsMessage}
use Rattle.ft_world.specs.declared.hosts.NodeStatus.{NodeStatus}
use Rattle.ft_world.specs.declared.message.Message.{Message}
use Rattle.ft_world.specs.declared.message.Message.TheVariants as message
use Rattle.guest_lockstep.specs.Machine.{Machine}
use Rattle.log_entry.specs.Entries.{bare_of, count_of}
use Rattle.altair_pair.specs.Telling.{Carries, LooksAt, cargo_of, look_of, packet_cargo, released_cargo}
use Rattle.pair_protocol.specs.World as protocol
use Rattle.sequence_diagram.specs.declared.moment.Cargo.{Cargo}
use Rattle.sequence_diagram.specs.declared.moment.Cargo.TheVariants as cargo

-- a message carries something, and that is what the protocol's carries
carried : (found : Message) (sent : protocol.Message) → IsMessage found sent → (c : Cargo) × (cargo_of found ≡ Some c) × Carries sent c
carried (message.Log bytes) (protocol.LogEntry generation index entry) is =
    (cargo.Entry index (count_of entry) (bare_of entry), ap (option_map packet_cargo) is, refl)
carried (message.Log bytes) sent is = absurd is
carried (message.Ack bytes) (protocol.Acknowledgement generation held replayed) (reports, is, zero) =
    (cargo.Acknowledgement held reports, ap (option_map packet_cargo) is, (reports, refl, zero))
carried (message.Ack bytes) sent is = absurd is
carried (message.Part bytes) (protocol.ImagePart generation index part) is = (cargo.Part, refl, refl)
carried (message.Part bytes) sent is = absurd is
carried (message.Byte port number byte) (protocol.Released o) is = (cargo.Byte port number byte, refl, ap released_cargo (sym is))
carried (message.Byte port number byte) sent is = absurd is
carried (message.Write write) (protocol.Released o) is = (_, refl, ap released_cargo (sym is))
carried (message.Write write) sent is = absurd is
carried (message.Written number) (protocol.WriteDone done) is = (_, refl, ap (λ n. cargo.Written n) (sym is))
carried (message.Written number) sent is = absurd is
carried (message.Sector r) (protocol.SectorRead address number bytes) (there, numbered, same, drive, sector) =
    (_, refl, ap₂ (λ n a. cargo.Sector n a) (sym numbered) (sym there))
carried (message.Sector r) sent is = absurd is

-- there is such a message, or none
module _ (messages : List protocol.Message) (number : ℕ) where
  pub carries : (found : Message) → Agree IsMessage (Some found) (slice_get messages number)
      → Agree Carries (slice_get messages number) (cargo_of found)
  carries found there = agreed (slice_get messages number) there
    where
      told : (sent : protocol.Message) (some : Option Cargo) → (c : Cargo) × (some ≡ Some c) × Carries sent c → Agree Carries (Some sent) some
      told sent some (c, is, carries) = subst (λ o. Agree Carries (Some sent) o) (sym is) carries

      agreed : (sent : Option protocol.Message) → Agree IsMessage (Some found) sent → Agree Carries sent (cargo_of found)
      agreed None there = absurd there
      agreed (Some sent) there = told sent (cargo_of found) (carried found sent there)

  pub carries_none : Agree IsMessage None (slice_get messages number) → Agree Carries (slice_get messages number) None
  carries_none there = agreed (slice_get messages number) there
    where
      agreed : (sent : Option protocol.Message) → Agree IsMessage None sent → Agree Carries sent None
      agreed None there = tt
      agreed (Some sent) there = absurd there

-- what a node shows, if there is one of that number
pub looks : {S : Type 0} (M : Machine S) (c : Course S) (node : ℕ) (status : Option NodeStatus)
    → IsStatusAt M (slice_get c.world.nodes node) status → LooksAt M c node (option_map (look_of node) status)
looks M c node status there = record { status = status; is_there = there; is = refl }
