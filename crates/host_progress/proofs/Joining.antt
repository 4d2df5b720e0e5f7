-- A host that has heard that it joins is sent the parts that it lacks, by the outside, and is the backup with the last.
use Rattle.std.proofs.Common.{◌≡◌, ℕ, zero, suc, ◌*◌, ◌<◌, inl, inr, true, not, Option, Some, None, is_none, List, [], ◌∷◌, length, refl, sym, ap, ◌∙◌, arith, eq-eqb}
use Rattle.std.specs.Prelude.{slice_get, slice_set, ◌||◌}
use Rattle.std.proofs.lemmas.Option.{slice_get_cases, slice_get_within}
use Rattle.i8080_words.specs.declared.refusal.Fault.TheVariants.{Unknown, WrongGeneration}
use Rattle.pair_events.specs.declared.event.Event.TheVariants.{SendPart}
use Rattle.pair_protocol.proofs.Words.{After, Copying, GetsPart, ImagePart, IsCopying, Joining, Lawful, Machine, Makes, Node, Primary, Reached, World, acts_as, gathered, gets_part, joins, with_message, with_node}
use Rattle.pair_protocol.specs.Effects.{Comes, Completes, GotPart}
use Rattle.pair_protocol.specs.Joining.{IsGiven}
use Rattle.pair_protocol.specs.Refusals.{at_node, fault_if, first_of, generation_refusal, has_part, part_comes_refusal, role_refusal, send_part_refusal}
use Rattle.pair_protocol.specs.Reply.{MessageIs, New, Reply, Whole}
use Rattle.pair_protocol.proofs.Invariant.{Inv}
use Rattle.pair_protocol.proofs.Invariant.Acting.{ActingBackup, ActingPrimary, acting_backup, acting_primary, line_at}
use Rattle.pair_protocol.proofs.Keeps.BackupChanges.{joining-gathered}
use Rattle.pair_protocol.proofs.Promises.Faithful.{reached}
use Rattle.pair_protocol.proofs.Promises.Joining.{joining_is_given}
use Rattle.pair_protocol.proofs.Traces.Lists.{get-at, get_set, get_set_other, same_some}
use Rattle.pair_progress.specs.CatchingUp.{IsPair}
use Rattle.pair_progress.specs.Renewal.{HasBegun, missing}
use Rattle.pair_progress.proofs.Fetching.{some_of}
use Rattle.pair_progress.proofs.Imaged.{imaged}
use Rattle.pair_progress.proofs.Leading.{one_reaches}
use Rattle.pair_progress.proofs.Passing.{acts_first, in_role, not_if, passed}
use Rattle.pair_progress.proofs.Slots.{one_fewer, open_place, some_missing}
use Rattle.host_law.specs.Host.{Passes}
use Rattle.host_law.specs.Host as host
use Rattle.host_law.specs.Outside as outside
use Rattle.host_law.proofs.Following.{node-there}
use Rattle.host_law.proofs.Words.{Carries, Fleet, Shows}
use Rattle.host_progress.specs.Exchanges.{HostsReach}
use Rattle.host_progress.specs.Laws.{Either}
use Rattle.host_progress.proofs.Answering.{in_three}
use Rattle.host_progress.proofs.CatchingUp.{shown_pair}
use Rattle.host_progress.proofs.Exchanging.{at_most, is_there}
use Rattle.host_progress.proofs.Fetching.{passes_at}
use Rattle.host_progress.proofs.Showing.{host_there, joining_real, primary_joins, primary_real}

-- a host has heard that it joins, and lacks some part
pub record HaveBegun {S : Type 0} (n m generation : ℕ) (f : Fleet S) (x y : Node S) : Type 0 where
  pub primary : slice_get f.hosts n ≡ Some x
  pub joining : slice_get f.hosts m ≡ Some y
  pub primary_up : x.running ≡ true
  pub joining_up : y.running ≡ true
  pub primary_role : x.role ≡ Primary
  pub joining_role : y.role ≡ Joining
  pub primary_generation : x.generation ≡ generation
  pub joining_generation : y.generation ≡ generation
  pub lacks_some : gathered y.parts ≡ None

module _ {S : Type 0} (M : Machine S) (C : Copying S) (laws : Lawful M) (copies : IsCopying M C) (makes : Makes M C)
    (n m generation : ℕ) (Who : ℕ → Type 0) (who_n : Who n) (who_m : Who m) where
  abbrev Fills : Fleet S → ℕ → Type 0
  Fills f most = HostsReach M C f Who most (λ new. IsPair new n m generation)

  -- a part that the host lacks, of the image that its primary has
  record Lacked (x y : Node S) : Type 0 where
    pub s : S
    pub image : x.image ≡ Some s
    pub index : ℕ
    pub place : slice_get y.parts index ≡ Some None
    pub part : List ℕ
    pub is_part : slice_get (C.parts s) index ≡ Some part

  module _ (f : Fleet S) (w : World S) (h : Shows M C f w) (x y : Node S) (p : HaveBegun n m generation f x y) where
    px : slice_get w.nodes n ≡ Some x
    px = node-there M C f w h n x p.primary (primary_real x p.primary_role)

    py : slice_get w.nodes m ≡ Some y
    py = node-there M C f w h m y p.joining (joining_real y p.joining_role)

    lacked : Lacked x y
    lacked = elim (slice_get_cases (C.parts has.0) gap.0).1 [
      | inl g ↦ record {
        s = has.0;
        image = has.1;
        index = gap.0;
        place = gap.1;
        part = g.0;
        is_part = g.2;
      }
      | inr g ↦ absurd (let a = g.0 in let b = inside in let c = sent in let d = long in omega (arith, a, b, c, d))
    ]
      where
        inv : Inv M C w
        inv = reached M C laws copies w h.reached

        leads : ActingPrimary M C w inv n x
        leads = acting_primary M C w inv n x (record { there = px; up = p.primary_up; role_is = p.primary_role })

        follows : ActingBackup M C w inv m y
        follows = acting_backup M C w inv m y Joining
            (record { there = py; up = p.joining_up; role_is = p.joining_role }) tt

        has : (s : S) × (x.image ≡ Some s)
        has = some_of x.image
            ((imaged M C laws copies w h.reached).image n m x y px py p.primary_role p.joining_role
            (p.primary_generation ∙ sym p.joining_generation))

        gap : (k : ℕ) × (slice_get y.parts k ≡ Some None)
        gap = open_place y.parts p.lacks_some

        -- both have as many parts as an image
        sent : length (C.parts has.0) ≡ C.part_count
        sent = ap (λ s. length (C.parts s)) (leads.is_primary.image has.0 has.1)
            ∙ copies.counted (line_at inv x).base (line_at inv x).mid (inv.each x.generation).sound.based

        long : length y.parts ≡ C.part_count
        long = (joining-gathered M C (line_at inv y) y p.joining_role follows.is_backup.state).1.long
            ∙ copies.counted (line_at inv y).base (line_at inv y).mid (inv.each y.generation).sound.based

        inside : gap.0 < length y.parts
        inside = slice_get_within y.parts gap.0 None gap.1

    apart : n ≡ m → ⊥
    apart same =
        let e : x ≡ y = same_some x y (slice_get f.hosts n) p.primary (ap (slice_get f.hosts) same ∙ p.joining) in
        primary_joins x p.primary_role (ap (λ (z : Node S). z.role) e ∙ p.joining_role)

    same_generation : x.generation ≡ y.generation
    same_generation = p.primary_generation ∙ sym p.joining_generation

    module _ (l : Lacked x y) where
      -- it is sent
      free : send_part_refusal C l.index x ≡ None
      free =
          not_if (not (acts_as x (Primary ∷ [])) || not (has_part C x.image l.index)) Unknown
          (ap (λ b. not b || not (has_part C x.image l.index)) (acts_first x Primary [] p.primary_up p.primary_role refl)
          ∙ ap (λ o. not (has_part C o l.index)) l.image
          ∙ ap (λ o. not (not (is_none o))) l.is_part)

      may_send : Passes x (send_part_refusal C l.index)
      may_send = passes_at x Primary (send_part_refusal C l.index) p.primary_role refl free

      may_come : Passes y (part_comes_refusal x.generation)
      may_come = passes_at y Joining (part_comes_refusal x.generation) p.joining_role refl
          (passed (role_refusal (Joining ∷ []) y) (generation_refusal x.generation y ∷ [])
          (in_role y (Joining ∷ []) (acts_first y Joining [] p.joining_up p.joining_role refl))
          (ap (λ b. first_of (fault_if (not b) WrongGeneration ∷ [])) (eq-eqb x.generation y.generation same_generation)))

      abbrev after : Node S
      after = gets_part y l.index l.part

      -- what its parts make, if this was the last one: by a world in which it has come
      abbrev sent : World S
      sent = with_message w (ImagePart x.generation l.index l.part)

      sent_reached : Reached M C sent
      sent_reached = one_reaches M C w sent (SendPart n l.index) (MessageIs (length w.messages)) h.reached
          (ap (λ o. at_node o (send_part_refusal C l.index)) px ∙ may_send)
          (record {
            part = l.part;
            node = record { x = x; there = px; said = record { s = l.s; image = l.image; is_part = l.is_part } };
            says = record { reply = refl; after = refl };
          })

      abbrev came : World S
      came = with_node sent m after

      came_reached : Reached M C came
      came_reached = After sent_reached (GetsPart m y (length w.messages) l.index l.part
          (record { there = py; up = p.joining_up; role_is = p.joining_role })
          (get-at w.messages [] (ImagePart x.generation l.index l.part)
          ∙ ap (λ g. Some (ImagePart g l.index l.part)) same_generation))

      given : IsGiven M C came after
      given = joining_is_given M C laws copies makes came came_reached m after (get_set w.nodes m y after py) p.joining_role

      arrives : (most : ℕ) (r : Reply) (z : Node S) → GotPart C l.index l.part y r z →
          ((t : Fleet S) (v : World S) → Shows M C t v → t.hosts ≡ slice_set f.hosts m z → Fills t most) →
          Fills f (suc (suc (suc most)))
      arrives most r z got rest =
          in_three M C laws copies Who (λ new. IsPair new n m generation) f w h n x p.primary who_n most
          (Carries (ImagePart x.generation l.index l.part))
          (host.SendsPart l.index l.part may_send (record { s = l.s; image = l.image; is_part = l.is_part }))
          (Carries (ImagePart x.generation l.index l.part)) f.outside (outside.Passes _) m y z p.joining who_m
          (host.TakesPart x.generation l.index l.part r z may_come got)
          (λ t v shown hosts o. rest t v shown hosts)

      primary_stays : (t : Fleet S) (z : Node S) → t.hosts ≡ slice_set f.hosts m z → slice_get t.hosts n ≡ Some x
      primary_stays t z hosts = ap (λ xs. slice_get xs n) hosts ∙ get_set_other f.hosts m n z apart ∙ p.primary

      joins_now : (t : Fleet S) (z : Node S) → t.hosts ≡ slice_set f.hosts m z → slice_get t.hosts m ≡ Some z
      joins_now t z hosts = ap (λ xs. slice_get xs m) hosts ∙ get_set f.hosts m y z p.joining

      -- it is not the last one
      comes : (most : ℕ) → gathered after.parts ≡ None →
          ((t : Fleet S) (v : World S) → Shows M C t v → HaveBegun n m generation t x after → Fills t most) →
          Fills f (suc (suc (suc most)))
      comes most more rest = arrives most New after (Comes l.place more)
          (λ t v shown hosts. rest t v shown (record {
            primary = primary_stays t after hosts;
            joining = joins_now t after hosts;
            primary_up = p.primary_up;
            joining_up = p.joining_up;
            primary_role = p.primary_role;
            joining_role = p.joining_role;
            primary_generation = p.primary_generation;
            joining_generation = p.joining_generation;
            lacks_some = more;
          }))

      -- it is the last one
      last_comes : (parts : List (List ℕ)) → gathered after.parts ≡ Some parts → Fills f (suc (suc (suc 0)))
      last_comes parts all =
          let z = joins after given.machine in
          arrives 0 Whole z (Completes parts given.machine l.place all (given.all parts all))
          (λ t v shown hosts. is_there M C Who (λ new. IsPair new n m generation) t v 0 shown
          (shown_pair M C laws copies n m generation t v shown x z (record {
            primary = primary_stays t z hosts;
            backup = joins_now t z hosts;
            primary_up = p.primary_up;
            backup_up = p.joining_up;
            primary_role = p.primary_role;
            backup_role = refl;
            primary_generation = p.primary_generation;
            backup_generation = p.joining_generation;
          })))

  -- part by part
  pub fills : (k : ℕ) (f : Fleet S) (w : World S) → Shows M C f w → (x y : Node S) → HaveBegun n m generation f x y →
      missing y.parts ≡ k → Fills f (3 * k)
  fills zero f w h x y p none = absurd (some_missing y.parts p.lacks_some none)
  fills (suc k) f w h x y p is = go (lacked f w h x y p) (fills k)
    where
      go : Lacked x y →
          ((t : Fleet S) (v : World S) → Shows M C t v → (a b : Node S) → HaveBegun n m generation t a b →
          missing b.parts ≡ k → Fills t (3 * k)) → Fills f (3 * suc k)
      go l others = by_case (gathered (gets_part y l.index l.part).parts) refl
        where
          by_case : (o : Option (List (List ℕ))) → gathered (gets_part y l.index l.part).parts ≡ o → Fills f (3 * suc k)
          by_case None more = at_most M C Who (λ new. IsPair new n m generation) f (suc (suc (suc (3 * k)))) (3 * suc k)
              (omega arith)
              (comes f w h x y p l (3 * k) more
              (λ t v shown new. others t v shown x (gets_part y l.index l.part) new
              (let e = one_fewer y.parts l.index l.part l.place in omega (arith, e, is))))
          by_case (Some parts) all = at_most M C Who (λ new. IsPair new n m generation) f (suc (suc (suc 0))) (3 * suc k)
              (omega arith) (last_comes f w h x y p l parts all)

pub hosts_join : {S : Type 0} (M : Machine S) (C : Copying S) → Lawful M → IsCopying M C → Makes M C → (f : Fleet S)
    (w : World S) → Shows M C f w → (n m generation : ℕ) (p : HasBegun w n m generation) → slice_get f.hosts m ≡ Some p.y →
    HostsReach M C f (Either n m) (3 * missing p.y.parts) (λ new. IsPair new n m generation)
hosts_join M C laws copies makes f w h n m generation p heard =
    fills M C laws copies makes n m generation (Either n m) (inl refl) (inr refl)
    (missing p.y.parts) f w h p.x p.y
    (record {
      primary = host_there M C f w h n p.x p.primary (primary_joins p.x p.primary_role);
      joining = heard;
      primary_up = p.primary_up;
      joining_up = p.joining_up;
      primary_role = p.primary_role;
      joining_role = p.joining_role;
      primary_generation = p.primary_generation;
      joining_generation = p.joining_generation;
      lacks_some = p.lacks_some;
    }) refl
