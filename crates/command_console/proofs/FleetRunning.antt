-- Whatever the processes do is what a fleet does.
use Rattle.std.proofs.Common.{ℕ, zero, suc, ◌≡◌, ◌+◌, ◌≤◌, Some, List, [], ◌∷◌, ◌++◌, append-nil, length, arith, refl, sym, ap, ◌∙◌, subst, inl, inr}
use Rattle.std.specs.Prelude.{slice_get, slice_set}
use Rattle.clone_state.specs.Copies.{CopiesAs}
use Rattle.guest_lockstep.specs.Machine.{Machine}
use Rattle.guest_lockstep.specs.declared.reads.Reads.TheVariants.{Shared}
use Rattle.guest_parts.specs.Guest.{Guest}
use Rattle.host_law.specs.Fleet.{Fleet, booted}
use Rattle.host_node.specs.Goes as host
use Rattle.host_node.specs.declared.host.HostNode.{HostNode}
use Rattle.outside_switch.proofs.Running.{moved_more}
use Rattle.outside_switch.specs.Goes as outside
use Rattle.outside_switch.specs.Passing.{Passed, shown_at, typed_at}
use Rattle.pair_protocol.proofs.Traces.Lists.{get_set, get_set_other, same_or_not, same_some}
use Rattle.pair_protocol.specs.Copying.{Copying}
use Rattle.pair_protocol.specs.World.{Terminal, accepted_after, no_terminal, opening, terminal_in}
use Rattle.command_console.proofs.FleetBooting.{boot_stands, spares_many}
use Rattle.command_console.proofs.Moving.{fits_before, outside_moved}
use Rattle.command_console.proofs.Numbering.{Serves, numbering, numbers_serve}
use Rattle.command_console.proofs.Standing.{Fits, Stands, host_moved}
use Rattle.command_console.specs.Laws.{AreFleet}
use Rattle.command_console.specs.Processes.{HaveBooted, Processes}
use Rattle.command_console.specs.Runs as runs
use Rattle.command_console.specs.Runs.{HostWent, Runs, Turns, passed_by_turn, passed_on}

-- at first nothing was shown and typed
nothing_at : (port : ℕ) → terminal_in (no_terminal ∷ no_terminal ∷ []) port ≡ no_terminal
nothing_at zero = refl
nothing_at (suc zero) = refl
nothing_at (suc (suc port)) = refl

module _ {B S : Type 0} {H : Type 0} (state : B → S) (M : Machine S) (copied : B → Guest) where
  -- ---- each process by itself

  host_went : (place : ℕ) (h : HostNode B H) (mid new : Processes B H) → HostWent state M copied place h mid →
      Turns state M copied mid new → HostWent state M copied place h new
  host_went place h mid new w (runs.OutsideMoves seen move delivered) = record { new = w.new; there = w.there; went = w.went }
  host_went place h mid new w (runs.HostMoves other k next at move delivered) = elim (same_or_not place other) [
    | inl same ↦ (let mine : w.new ≡ k =
        same_some w.new k (slice_get mid.hosts other) (ap (slice_get mid.hosts) (sym same) ∙ w.there) at in
        record {
          new = next;
          there = ap (slice_get (slice_set mid.hosts other next)) same ∙ get_set mid.hosts other k next at;
          went = host.Next next w.went (subst (λ g. host.Moves state M copied g next) (sym mine) move);
        })
    | inr differs ↦ record {
      new = w.new;
      there = get_set_other mid.hosts other place next differs ∙ w.there;
      went = w.went;
    }
  ]

  pub hosts_went : (first last : Processes B H) → Runs state M copied first last → (place : ℕ) (h : HostNode B H) →
      slice_get first.hosts place ≡ Some h → HostWent state M copied place h last
  hosts_went first last runs.Rests place h at = record { new = h; there = at; went = host.Rests }
  hosts_went first last (runs.Next {mid = mid} new before turn) place h at =
      host_went place h mid new (hosts_went first mid before place h at) turn

  pub outside_went : (first last : Processes B H) (way : Runs state M copied first last) →
      outside.GoesWith (passed_on way) first.outside last.outside
  outside_went first last runs.Rests = record { way = outside.Rests; passes = refl }
  outside_went first last (runs.Next {mid = mid} new before turn) =
      one mid new (passed_on before) (outside_went first mid before) turn
    where
      one : (mid new : Processes B H) (passed : List Passed) → outside.GoesWith passed first.outside mid.outside →
          (turn : Turns state M copied mid new) → outside.GoesWith (passed ++ passed_by_turn turn) first.outside new.outside
      one mid new passed g (runs.HostMoves place h next at move delivered) =
          subst (λ l. outside.GoesWith l first.outside mid.outside) (sym (append-nil passed)) g
      one mid new passed g (runs.OutsideMoves seen move delivered) =
          record { way = outside.Next seen g.way move; passes = ap (λ l. l ++ outside.passed_by move) g.passes }

  -- ---- all of them

  module _ (C : Copying S) (drives : ℕ) (copies : CopiesAs state copied drives C.parts C.part_count C.assemble)
      (num : ℕ → ℕ) (apart : (m n : ℕ) → num m ≡ num n → m ≡ n) (begun : Fleet S) (count : ℕ) where
    abbrev StandsSo : List Passed → Processes B H → Type 0
    StandsSo passed p = Stands drives num state M copied C begun count passed p

    -- a turn, if the outside has given only these numbers by then, and counts no more hosts
    turned : (mid new : Processes B H) (passed : List Passed) (turn : Turns state M copied mid new) →
        Fits drives num new.outside.lines → new.outside.devices.hosts ≤ count →
        (Fits drives num mid.outside.lines → mid.outside.devices.hosts ≤ count → StandsSo passed mid) →
        StandsSo (passed ++ passed_by_turn turn) new
    turned mid new passed (runs.HostMoves place h next at move delivered) fits few before =
        subst (λ l. StandsSo l new) (sym (append-nil passed))
        (host_moved drives num state M copied C copies apart begun count passed mid place h next (before fits few) at move delivered)
    turned mid new passed (runs.OutsideMoves seen move delivered) fits few before =
        let more = moved_more mid.outside seen move in
        outside_moved drives num state M copied C begun count passed mid
        (before (fits_before drives num mid.outside seen move fits) (omega (arith, more, few))) seen move delivered fits few

    -- they fitted before, too
    pub fitted : (first last : Processes B H) → Runs state M copied first last → Fits drives num last.outside.lines →
        Fits drives num first.outside.lines
    fitted first last runs.Rests fits = fits
    fitted first last (runs.Next {mid = mid} new before turn) fits = fitted first mid before (one mid new turn fits)
      where
        one : (mid new : Processes B H) → Turns state M copied mid new → Fits drives num new.outside.lines →
            Fits drives num mid.outside.lines
        one mid new (runs.HostMoves place h next at move delivered) fits = fits
        one mid new (runs.OutsideMoves seen move delivered) fits = fits_before drives num mid.outside seen move fits

    stand : (first last : Processes B H) (way : Runs state M copied first last) → Fits drives num last.outside.lines →
        last.outside.devices.hosts ≤ count → StandsSo [] first → StandsSo (passed_on way) last
    stand first last runs.Rests fits few boot = boot
    stand first last (runs.Next {mid = mid} new before turn) fits few boot =
        turned mid new (passed_on before) turn fits few (λ fits_mid few_mid. stand first mid before fits_mid few_mid boot)

  -- so they are a fleet, with as many spare hosts as they need
  pub are_fleet : (C : Copying S) (drives : ℕ) → CopiesAs state copied drives C.parts C.part_count C.assemble →
      (first last : Processes B H) → HaveBooted state M C drives first → (way : Runs state M copied first last) →
      AreFleet state M C drives (passed_on way) last
  are_fleet C drives copies first last begun way = record {
    spares = spares;
    deeds = s.deeds;
    fleet = s.fleet;
    happened = s.happened;
    devices = s.shows;
    shown = λ port. (s.passes port).0
        ∙ ap (λ (t : Terminal). accepted_after 0 t.arrivals ++ shown_at port (passed_on way)) (nothing_at port);
    typed = λ port. (s.passes port).1 ∙ ap (λ (t : Terminal). t.typed ++ typed_at port (passed_on way)) (nothing_at port);
    host_at = num;
    numbered = serves.fits;
    apart = serves.apart;
    hosts = λ place h at. (let t = s.hosts place h at in record { x = t.x; there = t.there; is = t.is });
  }
    where
      num : ℕ → ℕ
      num = numbering last.outside

      serves : Serves num last.outside (length first.hosts)
      serves = numbers_serve M drives (length first.hosts) first.outside last.outside begun.outside
          (outside_went first last way).way

      spares : ℕ
      spares = last.outside.devices.hosts + length first.hosts

      count : ℕ
      count = length (booted M Shared spares).hosts

      many : last.outside.devices.hosts ≤ count
      many = let all = spares_many M spares (opening M Shared) in omega (arith, all)

      s : Stands drives num state M copied C (booted M Shared spares) count (passed_on way) last
      s = stand C drives copies num serves.apart (booted M Shared spares) count first last way serves.fits many
          (boot_stands state M copied C drives spares num first begun
          (fitted C drives copies num serves.apart (booted M Shared spares) count first last way serves.fits) serves.apart
          (λ place within. (let low = serves.low place within in omega (arith, low))))
