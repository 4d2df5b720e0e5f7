-- What holds of a fleet holds of the processes that are it.
use Rattle.std.proofs.Common.{ℕ, ◌≡◌, ◌⊎◌, Some, List, refl, sym, ap, ◌∙◌, subst, inl, inr}
use Rattle.std.specs.Prelude.{slice_get}
use Rattle.altair_laws.specs.Copies.{image_copy}
use Rattle.clone_state.specs.Copies.{CopiesAs}
use Rattle.ft_node.specs.declared.node.Node as code
use Rattle.ft_node.specs.declared.node.Node.TheVariants as node
use Rattle.guest_lockstep.specs.Machine.{Machine}
use Rattle.guest_lockstep.specs.Reach.{keys, output}
use Rattle.guest_lockstep.specs.declared.reads.Reads.TheVariants.{Shared}
use Rattle.guest_parts.specs.Guest.{Guest}
use Rattle.host_calls.proofs.Straying.{is-the-laws}
use Rattle.host_calls.specs.Follows.{Lags}
use Rattle.host_law.proofs.Interleaving.{runs-faithful, runs-kept}
use Rattle.host_law.specs.Fleet.{Deed, Fleet, booted, with_spares}
use Rattle.host_law.specs.Kept.{IsKept}
use Rattle.host_law.specs.Laws as law
use Rattle.host_law.specs.Laws.{Course, IsCourse}
use Rattle.host_law.specs.Shows.{Shows}
use Rattle.host_node.specs.Hosts.{HasNode}
use Rattle.host_node.specs.declared.host.HostNode.{HostNode}
use Rattle.host_node.specs.declared.host.Hosted.TheVariants as hosted
use Rattle.pair_protocol.specs.Copying.{Copying, IsCopying}
use Rattle.outside_switch.specs.Passing.{Passed}
use Rattle.pair_protocol.specs.Faithful.{IsAllBut, IsPrefix}
use Rattle.pair_protocol.specs.Lawful.{Lawful}
use Rattle.pair_protocol.specs.Node.{Node, Alone, Backup, Draining}
use Rattle.pair_protocol.specs.World.{World, opening}
use Rattle.command_console.proofs.FleetRunning.{are_fleet}
use Rattle.command_console.specs.Laws.{AreFleet, AreKept, HasAlone, IsNodeOf}
use Rattle.command_console.specs.Processes.{HaveBooted, Processes}
use Rattle.command_console.specs.Runs.{Runs, passed_on}

-- the last fleet shows the last world
shown_last : {S : Type 0} (M : Machine S) (C : Copying S) (f last : Fleet S) (w new : World S) (deeds : List Deed) →
    Course M C f w deeds last new → Shows M C last new
shown_last M C f last w new deeds (law.Ends shows faithful) = shows
shown_last M C f last w new deeds (law.Goes {mid = mid} {v = v} {deeds = more} shows faithful step follows grows rest) =
    shown_last M C mid last v new more rest

-- a node that is alone has not run ahead
alone_too : {S : Type 0} (M : Machine S) (x y : Node S) → (y ≡ x) ⊎ Lags M x y → y.role ≡ Alone → x.role ≡ Alone
alone_too M x y (inl same) alone = ap (λ (z : Node _). z.role) (sym same) ∙ alone
alone_too M x y (inr lags) alone =
    let same : y.role ≡ x.role = ap (λ (z : Node _). z.role) lags.is in
    elim lags.role [
      | inl backup ↦ absurd (cc)
      | inr draining ↦ absurd (cc)
    ]

module _ {B S : Type 0} {H : Type 0} (state : B → S) (M : Machine S) (C : Copying S) (drives : ℕ) (laws : Lawful M)
    (copying : IsCopying M C) (passed : List Passed) (p : Processes B H) (are : AreFleet state M C drives passed p) where
  course : IsCourse M C (booted M Shared are.spares) (with_spares M are.spares (opening M Shared)) are.deeds are.fleet
  course = runs-faithful M C laws copying Shared are.spares are.deeds are.fleet are.happened

  kept : IsKept M are.fleet
  kept = runs-kept M C laws copying Shared are.spares are.deeds are.fleet are.happened

  -- no host of a fleet strays
  node_of : (place : ℕ) (h : HostNode B H) (n : code.Node B H) → slice_get p.hosts place ≡ Some h → h.node ≡ hosted.Node n →
      IsNodeOf state M C drives (are.host_at place) are.fleet n
  node_of place h n at has =
      let t = are.hosts place h at in
      let s = (subst (λ k. HasNode state M C drives h.number (are.host_at place) k t.x) has t.is).1 in
      record {
        x = t.x;
        y = s.y;
        there = t.there;
        is = s.is;
        same = is-the-laws M C laws copying are.fleet course.new
            (shown_last M C _ are.fleet _ course.new are.deeds course.course) (are.host_at place) t.x s.y t.there s.follows;
      }

  live : (m n : ℕ) → HasAlone p m → HasAlone p n → m ≡ n
  live m n a b =
      let x = node_of m a.host (node.Alone a.found) a.there a.has in
      let y = node_of n b.host (node.Alone b.found) b.there b.has in
      are.apart m n
      (kept.kept.one_live (are.host_at m) (are.host_at n) x.x y.x x.there y.there
      (alone_too M x.x x.y x.same x.is.role) (alone_too M y.x y.y y.same y.is.role))

  all_kept : AreKept state M C drives passed p
  all_kept = record {
    are = are;
    kept = kept;
    shown = λ port. subst (λ l. IsAllBut M.window_size l (output port kept.trace)) (are.shown port) (kept.kept.output port);
    typed = λ port. subst (λ l. IsPrefix (keys port kept.list) l) (are.typed port) (kept.kept.typed port);
    nodes = node_of;
    one_live = live;
  }

pub are_kept : {B S : Type 0} {H : Type 0} (state : B → S) (M : Machine S) (copied : B → Guest) (C : Copying S) (drives : ℕ) →
    Lawful M → IsCopying M C → CopiesAs state copied drives C.parts C.part_count C.assemble → (first last : Processes B H) →
    HaveBooted state M C drives first → (way : Runs state M copied first last) → AreKept state M C drives (passed_on way) last
are_kept state M copied C drives laws copying copies first last booted way =
    all_kept state M C drives laws copying (passed_on way) last (are_fleet state M copied C drives copies first last booted way)

-- the image of an Altair is its copy
pub copied_so : {B : Type 0} (guest : B → Guest) (drives : ℕ) →
    CopiesAs guest guest drives (image_copy drives).parts (image_copy drives).part_count (image_copy drives).assemble
unfolding image_copy
copied_so guest drives = record { same = λ g. refl; counted = refl; made = λ payloads g is. is; fits = λ payloads. refl }
