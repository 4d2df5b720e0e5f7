-- A host that joins is sent the parts that it lacks, one by one, and is the backup with the last.
use Rattle.std.proofs.Common.{◌≡◌, ℕ, zero, suc, ◌*◌, ◌<◌, inl, inr, not, Option, Some, None, is_none, List, [], ◌∷◌, length, refl, sym, ap, ◌∙◌, arith, eq-eqb}
use Rattle.std.specs.Prelude.{slice_get, ◌||◌}
use Rattle.std.proofs.lemmas.Option.{slice_get_cases, slice_get_within}
use Rattle.i8080_words.specs.declared.refusal.Fault.TheVariants.{Unknown, WrongGeneration}
use Rattle.pair_events.specs.declared.event.Event.TheVariants.{PartComes, SendPart}
use Rattle.pair_protocol.proofs.Words.{After, Copying, GetsPart, ImagePart, IsCopying, Joining, Lawful, Machine, Makes, Node, Primary, Reached, World, acts_as, gathered, gets_part, joins, with_message, with_node}
use Rattle.pair_protocol.specs.Effects.{Comes, Completes}
use Rattle.pair_protocol.specs.Joining.{IsGiven}
use Rattle.pair_protocol.specs.Refusals.{at_part, fault_if, first_of, generation_refusal, has_part, part_comes_refusal, refusal, role_refusal, send_part_refusal}
use Rattle.pair_protocol.specs.Reply.{MessageIs, New, Reply, Whole}
use Rattle.pair_protocol.specs.Rows as row
use Rattle.pair_protocol.proofs.Invariant.{Inv}
use Rattle.pair_protocol.proofs.Invariant.Acting.{ActingBackup, ActingPrimary, acting_backup, acting_primary, line_at}
use Rattle.pair_protocol.proofs.Keeps.BackupChanges.{joining-gathered}
use Rattle.pair_protocol.proofs.Promises.Faithful.{reached}
use Rattle.pair_protocol.proofs.Promises.Joining.{joining_is_given}
use Rattle.pair_protocol.proofs.Traces.Lists.{get-at, get_set, get_set_other, same_some}
use Rattle.pair_progress.specs.CatchingUp.{IsPair}
use Rattle.pair_progress.specs.Leads.{Fails, Leads}
use Rattle.pair_progress.specs.Renewal.{HasBegun, IsOfParts, missing}
use Rattle.pair_progress.proofs.Fetching.{some_of}
use Rattle.pair_progress.proofs.Imaged.{imaged}
use Rattle.pair_progress.proofs.Leading.{and_then, at_most, is_there, one_reaches}
use Rattle.pair_progress.proofs.Passing.{acts_first, at_here, in_role, not_if, not_spare, passed}
use Rattle.pair_progress.proofs.Slots.{one_fewer, open_place, some_missing}

module _ {S : Type 0} (M : Machine S) (C : Copying S) (laws : Lawful M) (copies : IsCopying M C) (makes : Makes M C)
    (n host generation : ℕ) where
  -- so many events make a whole pair
  abbrev Fills : World S → ℕ → Type 0
  Fills w most = Leads M C w (IsOfParts n host) most (λ new. IsPair new n host generation)

  -- a part that the host lacks, of the image that its primary has
  record Lacked (w : World S) (p : HasBegun w n host generation) : Type 0 where
    pub s : S
    pub image : p.x.image ≡ Some s
    pub index : ℕ
    pub place : slice_get p.y.parts index ≡ Some None
    pub part : List ℕ
    pub is_part : slice_get (C.parts s) index ≡ Some part

  lacked : (w : World S) → Reached M C w → (p : HasBegun w n host generation) → Lacked w p
  lacked w r p = elim (slice_get_cases (C.parts has.0) gap.0).1 [
    | inl g ↦ record {
      s = has.0;
      image = has.1;
      index = gap.0;
      place = gap.1;
      part = g.0;
      is_part = g.2;
    }
    | inr g ↦ absurd (let a = g.0 in let b = inside in let c = sent in let d = long in omega (arith, a, b, c, d))
  ]
    where
      i : Inv M C w
      i = reached M C laws copies w r

      leads : ActingPrimary M C w i n p.x
      leads = acting_primary M C w i n p.x (record { there = p.primary; up = p.primary_up; role_is = p.primary_role })

      follows : ActingBackup M C w i host p.y
      follows =
          acting_backup M C w i host p.y Joining (record { there = p.joining; up = p.joining_up; role_is = p.joining_role }) tt

      has : (s : S) × (p.x.image ≡ Some s)
      has = some_of p.x.image
          ((imaged M C laws copies w r).image n host p.x p.y p.primary p.joining p.primary_role p.joining_role
          (p.primary_generation ∙ sym p.joining_generation))

      gap : (k : ℕ) × (slice_get p.y.parts k ≡ Some None)
      gap = open_place p.y.parts p.lacks_some

      -- both have as many parts as an image
      sent : length (C.parts has.0) ≡ C.part_count
      sent = ap (λ s. length (C.parts s)) (leads.is_primary.image has.0 has.1)
          ∙ copies.counted (line_at i p.x).base (line_at i p.x).mid (i.each p.x.generation).sound.based

      long : length p.y.parts ≡ C.part_count
      long = (joining-gathered M C (line_at i p.y) p.y p.joining_role follows.is_backup.state).1.long
          ∙ copies.counted (line_at i p.y).base (line_at i p.y).mid (i.each p.y.generation).sound.based

      inside : gap.0 < length p.y.parts
      inside = slice_get_within p.y.parts gap.0 None gap.1

  module _ (w : World S) (r : Reached M C w) (p : HasBegun w n host generation) (l : Lacked w p) where
    apart : n ≡ host → ⊥
    apart same =
        let e : p.x ≡ p.y =
        same_some p.x p.y (slice_get w.nodes n) p.primary (ap (slice_get w.nodes) same ∙ p.joining) in
        let r : Primary ≡ Joining = sym p.primary_role ∙ ap (λ (z : Node S). z.role) e ∙ p.joining_role in
        (cc)

    same_generation : p.x.generation ≡ p.y.generation
    same_generation = p.primary_generation ∙ sym p.joining_generation

    -- it is sent
    abbrev sent : World S
    sent = with_message w (ImagePart p.x.generation l.index l.part)

    may_send : refusal M C w (SendPart n l.index) ≡ None
    may_send = at_here (slice_get w.nodes n) p.x (send_part_refusal C l.index) p.primary
        (not_spare p.x.role Primary p.primary_role refl)
        (not_if (not (acts_as p.x (Primary ∷ [])) || not (has_part C p.x.image l.index)) Unknown
        (ap (λ b. not b || not (has_part C p.x.image l.index)) (acts_first p.x Primary [] p.primary_up p.primary_role refl)
        ∙ ap (λ o. not (has_part C o l.index)) l.image
        ∙ ap (λ o. not (not (is_none o))) l.is_part))

    sends : row.SendsPart C w n l.index (MessageIs (length w.messages)) sent
    sends = record {
      part = l.part;
      node = record { x = p.x; there = p.primary; said = record { s = l.s; image = l.image; is_part = l.is_part } };
      says = record { reply = refl; after = refl };
    }

    reached_sent : Reached M C sent
    reached_sent = one_reaches M C w sent (SendPart n l.index) (MessageIs (length w.messages)) r may_send sends

    message : slice_get sent.messages (length w.messages) ≡ Some (ImagePart p.x.generation l.index l.part)
    message = get-at w.messages [] (ImagePart p.x.generation l.index l.part)

    may_come : refusal M C sent (PartComes (length w.messages) host) ≡ None
    may_come = ap (λ z. at_part (slice_get w.nodes host) z) message
        ∙ at_here (slice_get w.nodes host) p.y (part_comes_refusal p.x.generation) p.joining
        (not_spare p.y.role Joining p.joining_role refl)
        (passed (role_refusal (Joining ∷ []) p.y) (generation_refusal p.x.generation p.y ∷ [])
        (in_role p.y (Joining ∷ []) (acts_first p.y Joining [] p.joining_up p.joining_role refl))
        (ap (λ b. first_of (fault_if (not b) WrongGeneration ∷ []))
        (eq-eqb p.x.generation p.y.generation same_generation)))

    -- it arrives
    abbrev after : Node S
    after = gets_part p.y l.index l.part

    abbrev came : World S
    came = with_node sent host after

    reached_came : Reached M C came
    reached_came = After reached_sent (GetsPart host p.y (length w.messages) l.index l.part
        (record { there = p.joining; up = p.joining_up; role_is = p.joining_role })
        (message ∙ ap (λ g. Some (ImagePart g l.index l.part)) same_generation))

    joining_after : slice_get came.nodes host ≡ Some after
    joining_after = get_set w.nodes host p.y after p.joining

    -- the part arrives, with a reply
    abbrev GetsIt : World S → Type 0
    GetsIt new = (r : Reply) × (Fails r → ⊥) × row.GetsPart C sent (length w.messages) host r new

    both : (most : ℕ) (new : World S) → GetsIt new → Fills new most → Fills w (suc (suc most))
    both most new got rest =
        and_then M C w (IsOfParts n host) (suc most) (λ new. IsPair new n host generation) sent (SendPart n l.index)
        (MessageIs (length w.messages)) (λ f. f) refl may_send sends
        (and_then M C sent (IsOfParts n host) most (λ new. IsPair new n host generation) new
        (PartComes (length w.messages) host) got.0 got.1 refl may_come got.2 rest)

    -- it is not the last one
    comes : gathered after.parts ≡ None → GetsIt came
    comes more = (
      New,
      (λ f. f),
      record {
        generation = p.x.generation;
        index = l.index;
        part = l.part;
        message = message;
        at = record { x = p.y; there = p.joining; y = after; done = Comes l.place more; after = refl };
      },
    )

    abbrev goes_on : gathered after.parts ≡ None → HasBegun came n host generation
    goes_on more = record {
      x = p.x;
      y = after;
      primary = get_set_other w.nodes host n after apart ∙ p.primary;
      joining = joining_after;
      primary_up = p.primary_up;
      joining_up = p.joining_up;
      primary_role = p.primary_role;
      joining_role = p.joining_role;
      primary_generation = p.primary_generation;
      joining_generation = p.joining_generation;
      undecided = p.undecided;
      lacks_some = more;
    }

    -- it is the last one
    last_comes : (parts : List (List ℕ)) → gathered after.parts ≡ Some parts → Fills w 2
    last_comes parts all = both 0 whole (
      Whole,
      (λ f. f),
      record {
        generation = p.x.generation;
        index = l.index;
        part = l.part;
        message = message;
        at = record {
          x = p.y;
          there = p.joining;
          y = joins after given.machine;
          done = Completes parts given.machine l.place all (given.all parts all);
          after = refl;
        };
      },
    ) (is_there M C whole (IsOfParts n host) 0 (λ new. IsPair new n host generation) (record {
      x = p.x;
      y = joins after given.machine;
      primary = get_set_other w.nodes host n (joins after given.machine) apart ∙ p.primary;
      backup = get_set w.nodes host p.y (joins after given.machine) p.joining;
      primary_up = p.primary_up;
      backup_up = p.joining_up;
      primary_role = p.primary_role;
      backup_role = refl;
      primary_generation = p.primary_generation;
      backup_generation = p.joining_generation;
      undecided = p.undecided;
    }))
      where
        given : IsGiven M C came after
        given = joining_is_given M C laws copies makes came reached_came host after joining_after p.joining_role

        whole : World S
        whole = with_node sent host (joins after given.machine)

  -- one part comes, and then the others
  one_part : (m : ℕ) (w : World S) (r : Reached M C w) (p : HasBegun w n host generation) (l : Lacked w p) →
      missing p.y.parts ≡ suc m →
      (gathered (after w r p l).parts ≡ None → missing (after w r p l).parts ≡ m → Fills w (2 * suc m)) →
      Fills w (2 * suc m)
  one_part m w r p l is others = go (gathered (after w r p l).parts) refl
    where
      go : (o : Option (List (List ℕ))) → gathered (after w r p l).parts ≡ o → Fills w (2 * suc m)
      go None more = others more (let f = one_fewer p.y.parts l.index l.part l.place in omega (arith, f, is))
      go (Some parts) all = at_most M C w (IsOfParts n host) 2 (λ new. IsPair new n host generation) (2 * suc m)
          (omega arith) (last_comes w r p l parts all)

  fills : (m : ℕ) (w : World S) → Reached M C w → (p : HasBegun w n host generation) → missing p.y.parts ≡ suc m →
      Fills w (2 * suc m)
  fills zero w r p is =
      let l = lacked w r p in
      one_part zero w r p l is (λ more none. absurd (some_missing (after w r p l).parts more none))
  fills (suc m) w r p is =
      let l = lacked w r p in
      one_part (suc m) w r p l is
      (λ more few. at_most M C w (IsOfParts n host) (suc (suc (2 * suc m))) (λ new. IsPair new n host generation)
      (2 * suc (suc m)) (omega arith)
      (both w r p l (2 * suc m) (came w r p l) (comes w r p l more)
      (fills m (came w r p l) (reached_came w r p l) (goes_on w r p l more) few)))

  pub hosts_join : (w : World S) → Reached M C w → (p : HasBegun w n host generation) → Fills w (2 * missing p.y.parts)
  hosts_join w r p = go (missing p.y.parts) refl
    where
      go : (m : ℕ) → missing p.y.parts ≡ m → Fills w (2 * m)
      go zero none = absurd (some_missing p.y.parts p.lacks_some none)
      go (suc m) is = fills m w r p is
