-- Memory and the levels stay as long as they were at boot.
use Rattle.std.proofs.Common.{◌≡◌, ℕ, List, [], ◌∷◌, length, Option, Some, refl, ap, subst, ◌∙◌}
use Rattle.std.specs.Prelude.{is_none}
use Rattle.std.proofs.lemmas.List.{length-set}
use Rattle.std.proofs.lemmas.Option.{cond_some}
use Rattle.i8080_words.specs.Effects as effects
use Rattle.i8080_words.specs.Effects.{Access, after_accesses}
use Rattle.serial_2sio.specs.Port as serial
use Rattle.disk_dcdd.specs.declared.address.SectorAddress.{SectorAddress}
use Rattle.event_callbacks.specs.declared.operations.Operation.{Operation}
use Rattle.guest_parts.specs.Guest.{Guest}
use Rattle.guest_board.specs.Guest.{altair, wired, wired_after, step_of, step_from, take_from, after_rx, after_sent, after_sector, after_written}
use Rattle.guest_lockstep.specs.Machine.{Move}
use Rattle.guest_board.specs.Ports.{Wired, after_access, after_out, device_at}
use Rattle.guest_lockstep.specs.declared.input.Input.{Input}
use Rattle.guest_lockstep.specs.declared.input.Input.TheVariants.{Rx, Sent, Sector, Written}
use Rattle.guest_board.specs.declared.setup.Setup.{Setup}
use Rattle.guest_board.proofs.Outputs.{cond_memory, out_memory}
use Rattle.pair_protocol.specs.Lawful.{Reaches}
use Rattle.altair_laws.proofs.Moves.{from_boot}
use Rattle.altair_laws.proofs.AfterMoves.{is_next}

-- ---- memory

access_memory : (x : Access) (w : Wired) → length (after_access x w).memory ≡ length w.memory
access_memory (effects.Write address byte) w = length-set w.memory address byte
access_memory (effects.Input number) w = refl
access_memory (effects.Output number byte) w =
    ap length (cond_memory (is_none w.given) (after_out w (device_at number) byte) w
    (out_memory w number byte))

accesses_memory : (xs : List Access) (w : Wired)
    → length (after_accesses after_access xs w).memory ≡ length w.memory
accesses_memory [] w = refl
accesses_memory (x ∷ xs) w = accesses_memory xs (after_access x w) ∙ access_memory x w

step_memory : (g : Guest) → length (wired_after g).memory ≡ length g.memory
unfolding wired_after
step_memory g = accesses_memory (step_of g).accesses (wired g)

-- what stays as it was at boot
pub record Stays (setup : Setup) (g : Guest) : Type 0 where
  pub memory : length g.memory ≡ length setup.memory.items
  pub levels : g.levels ≡ setup.levels

stays-step : (setup : Setup) (g u : Guest) (gives : Option Operation) → Stays setup g → step_from g ≡ Some (u, gives)
    → Stays setup u
stays-step setup g u gives h e =
    subst (Stays setup) (is_next g u gives e).after (record { memory = step_memory g ∙ h.memory; levels = h.levels })

stays-take : (setup : Setup) (g u : Guest) (i : Input) → Stays setup g → take_from g i ≡ Some u → Stays setup u
stays-take setup g u (Rx port byte) h e =
    subst (Stays setup) (cond_some _ (after_rx g port byte) u e).1 (record { memory = h.memory; levels = h.levels })
stays-take setup g u (Sent port) h e =
    subst (Stays setup) (cond_some _ (after_sent g port) u e).1 (record { memory = h.memory; levels = h.levels })
stays-take setup g u (Sector drive sector number bytes) h e =
    subst (Stays setup) (cond_some _ (after_sector g sector bytes) u e).1
    (record { memory = h.memory; levels = h.levels })
stays-take setup g u (Written number) h e =
    subst (Stays setup) (cond_some _ (after_written g number) u e).1 (record { memory = h.memory; levels = h.levels })

pub stays : (setup : Setup) (sectors : SectorAddress → List ℕ) (moves : List Move) (g : Guest)
    → Reaches (altair setup sectors) moves g → Stays setup g
stays setup sectors moves g r =
    from_boot (altair setup sectors) (λ moves g. Stays setup g) (record { memory = refl; levels = refl }) (record {
      steps = λ moves s u gives h e. stays-step setup s u gives h e;
      takes = λ moves s u i h e. stays-take setup s u i h e;
    }) moves g r
