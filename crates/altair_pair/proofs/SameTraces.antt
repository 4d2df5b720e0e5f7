-- An Altair reads only sectors of its own drives. So two disks that begin alike on those have the same traces.
use Rattle.std.proofs.Common.{◌≡◌, ℕ, ◌≤◌, suc, arith, List, [], ◌∷◌, ◌++◌, Option, Some, ap, refl, subst, sym, ◌∙◌}
use Rattle.std.specs.Prelude.{is_none, nat_lt, not, ◌&&◌}
use Rattle.std.proofs.lemmas.Bool.{and_parts, ltb-true}
use Rattle.std.proofs.lemmas.Option.{cond_some}
use Rattle.disk_dcdd.specs.Completion.{is_head_loaded, is_sector_busy, is_sector_due, is_selected}
use Rattle.disk_dcdd.specs.declared.address.SectorAddress.{SectorAddress}
use Rattle.disk_dcdd.specs.declared.sector.TheConstants.{SECTORS}
use Rattle.event_callbacks.specs.declared.operations.Operation.{Operation}
use Rattle.guest_parts.specs.Guest.{Guest}
use Rattle.guest_board.specs.Guest.{address_under, after_sector, altair, guest_at_boot, step_from, take_from}
use Rattle.guest_lockstep.specs.Machine.{Do, Move, Runs, Take}
use Rattle.guest_lockstep.specs.declared.input.Input.{Input}
use Rattle.guest_lockstep.specs.declared.input.Input.TheVariants as input
use Rattle.guest_board.specs.declared.setup.Setup.{Setup}
use Rattle.guest_lockstep.specs.Reach.{Own, Owns, Reach, image, image_from, inputs}
use Rattle.guest_lockstep.specs.declared.timed.Timed.{Timed}
use Rattle.altair_laws.proofs.Drives.{selected_is}
use Rattle.pair_protocol.specs.OnDisk.{StaysOnDisk}
use Rattle.pair_protocol.specs.Lawful.{Reaches}
use Rattle.pair_protocol.proofs.Traces.Lists.{same_some}
use Rattle.pair_protocol.proofs.Traces.Moves.{runs-append}
use Rattle.plain_single.specs.Reaching.{NeverFall}
use Rattle.altair_pair.specs.Alike.{BeginAlike}

module _ (setup : Setup) (one other : SectorAddress → List ℕ) where
  runs_alike : (moves : List Move) (s t : Guest) → Runs (altair setup one) s moves t → Runs (altair setup other) s moves t
  runs_alike [] s t r = r
  runs_alike (Do gives ∷ moves) s t r = (r.0, r.1, runs_alike moves r.0 t r.2)
  runs_alike (Take i ∷ moves) s t r = (r.0, r.1, runs_alike moves r.0 t r.2)

  pub image_alike : (address : SectorAddress) → one address ≡ other address → (moves : List Move)
      → image (altair setup one) moves address ≡ image (altair setup other) moves address
  image_alike address same moves = ap (λ bytes. image_from [] address bytes moves) same

  module _ (begin : BeginAlike setup.drives one other) (stays : StaysOnDisk (altair setup one) setup.drives) where
    own_alike : (before : List Move) (s u : Guest) (i : Input) → Reaches (altair setup one) before s
        → take_from s i ≡ Some u → Own (altair setup one) before s i → Own (altair setup other) before s i
    own_alike before s u (input.Rx port byte) r h o = tt
    own_alike before s u (input.Sent port) r h o = tt
    own_alike before s u (input.Written number) r h o = tt
    own_alike before s u (input.Sector drive sector number bytes) r h o =
        let c = s.devices.disk in
        let t = cond_some (is_selected c drive && (is_sector_due c sector && not (is_sector_busy c sector)))
        (after_sector s sector bytes) u h in
        let a = and_parts (is_selected c drive) (is_sector_due c sector && not (is_sector_busy c sector)) t.0 in
        let b = and_parts (is_sector_due c sector) (not (is_sector_busy c sector)) a.1 in
        let d = and_parts (is_head_loaded c && is_none c.current) (nat_lt sector SECTORS) b.0 in
        let on = stays.reads before s drive sector r (selected_is c drive a.0) (ltb-true sector SECTORS d.1) in
        (o.0, sym (image_alike (address_under s drive sector) (begin (address_under s drive sector) on) before) ∙ o.1)

    owns_alike : (before moves : List Move) (s t : Guest) → Reaches (altair setup one) before s
        → Runs (altair setup one) s moves t → Owns (altair setup one) before s moves
        → Owns (altair setup other) before s moves
    owns_alike before [] s t reach r o = tt
    owns_alike before (Do gives ∷ moves) s t reach r o = λ u h.
        let same : r.0 ≡ u = ap (λ (z : Guest × Option Operation). z.0)
        (same_some (r.0, gives) (u, gives) (step_from s) r.1 h) in
        owns_alike (before ++ Do gives ∷ []) moves u t
        (runs-append (altair setup one) (guest_at_boot setup) s u before (Do gives ∷ []) reach (u, h, refl))
        (subst (λ v. Runs (altair setup one) v moves t) same r.2) (o u h)
    owns_alike before (Take i ∷ moves) s t reach r o = (
      own_alike before s r.0 i reach r.1 o.0,
      λ u h.
          let same : r.0 ≡ u = same_some r.0 u (take_from s i) r.1 h in
          owns_alike (before ++ Take i ∷ []) moves u t
          (runs-append (altair setup one) (guest_at_boot setup) s u before (Take i ∷ []) reach (u, h, refl))
          (subst (λ v. Runs (altair setup one) v moves t) same r.2) (o.1 u h),
    )

    pub reach_alike : (list : List Timed) (count : ℕ) (moves : List Move) → Reach (altair setup one) list count moves
        → Reach (altair setup other) list count moves
    reach_alike list count moves r = record {
      last = r.last;
      runs = runs_alike moves (guest_at_boot setup) r.last r.runs;
      owns = owns_alike [] moves (guest_at_boot setup) r.last refl r.runs r.owns;
      list_is = r.list_is;
      count_is = r.count_is;
    }

-- the counts of the inputs of moves never fall
pub inputs_never_fall : (from count : ℕ) (moves : List Move) → from ≤ count → NeverFall from (inputs count moves)
inputs_never_fall from count [] few = tt
inputs_never_fall from count (Do gives ∷ moves) few = inputs_never_fall from (suc count) moves (omega arith)
inputs_never_fall from count (Take i ∷ moves) few = (few, inputs_never_fall count count moves (omega arith))
