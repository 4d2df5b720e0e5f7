-- A part arrives at a joining node: a repeat, a new one, or the last one that was missing. With the last one the parts
-- make the guest, and the node is the backup; if they make none, the part is taken back.
use Rattle.std.proofs.Common.{◌≡◌, ℕ, ◌<◌, Bool, true, false, cond, not, ◌==◌, Option, Some, None, is_none, is_some, List, [], ◌∷◌, length, Result, Ok, Err, refl, sym, ap, subst, ◌∙◌, arith}
use Rattle.std.specs.Prelude.{slice_get, slice_index_or, slice_set}
use Rattle.std.proofs.lemmas.List.{length-set}
use Rattle.std.proofs.lemmas.Option.{same_Some}
use Rattle.clone_state.specs.Assembly as table
use Rattle.ft_node.proofs.Words.{Again, Backup, Call, Comes, Completes, Copying, Fault, Gathering, GetsPart, GotPart, IsFollower, IsJoining, IsLast, Joining, Malformed, Node, OutOfMemory, PartMessage, Slots, Unless, WrongGeneration, answer_to, fault_if, first_of, gathered, generation_refusal, gets_part, is_missing, is_whole, joins, last_refusal, part_comes_refusal, part_refusal, parts_with, refused_as, part_reply, role_refusal, unfit, with_part}
use Rattle.ft_node.specs.Joined.{Joined}
use Rattle.ft_node.specs.declared.ran.PartCame.{PartCame}
use Rattle.ft_node.specs.declared.ran.PartCame.TheVariants as reply
use Rattle.ft_node.proofs.Gatherings.{IsPart, came, free_slot, gathered_alike, is_free, is_taken, taken_slot, with_it}

-- ---- a joining node

module _ {S : Type 0} (C : Copying S) (drives : ℕ) (j : Joined) (x : Node S) (is : IsJoining C drives j x) where
  in_role : role_refusal (Joining ∷ []) x ≡ None
  in_role = rw (is.role, is.up) refl

  own_generation : (m : PartMessage) (b : Bool) → (m.generation == j.gathering.generation) ≡ b
      → part_comes_refusal m.generation x ≡ fault_if (not b) WrongGeneration
  own_generation m b e =
      ap (λ r. first_of (r ∷ generation_refusal m.generation x ∷ [])) in_role
      ∙ ap (λ g. first_of (fault_if (not (m.generation == g)) WrongGeneration ∷ [])) is.generation_is
      ∙ ap (λ b. first_of (fault_if (not b) WrongGeneration ∷ [])) e
      ∙ one b
    where
      one : (b : Bool) → first_of (fault_if (not b) WrongGeneration ∷ []) ≡ fault_if (not b) WrongGeneration
      one true = refl
      one false = refl

  module _ (Is : Node S → Type 0) where
    -- the bytes spell no part, or one of another generation
    pub refused : (o : Option PartMessage) (fault : Fault) → Err fault ≡ answer_to j.gathering o → Is x
        → GetsPart C o x (Err fault) Is
    refused None fault answer stays =
        let e : fault ≡ Malformed = (cc) in
        subst (λ r. Unless {A = PartCame} (first_of (r ∷ Some Malformed ∷ [])) (Err fault) (Is x) ⊥) (sym in_role)
        (ap Err e, stays)
    refused (Some m) fault answer stays = go (m.generation == j.gathering.generation) refl answer
      where
        go : (b : Bool) → (m.generation == j.gathering.generation) ≡ b
            → Err fault ≡ cond b (Ok (is_missing j.gathering m.index)) (Err WrongGeneration)
            → GetsPart C (Some m) x (Err fault) Is
        go true own answer = absurd (cc)
        go false own answer =
            let e : fault ≡ WrongGeneration = (cc) in
            subst (λ r. Call {A = PartCame} (first_of (r ∷ last_refusal C m x (slice_index_or x.parts m.index None) ∷ []))
            (IsLast m) (λ part x y. GotPart C m.index m.payload x (part_reply part) y) x (Err fault) Is)
            (sym (own_generation m false own)) (ap Err e, stays)

    -- what is refused of a part of its generation, by what its slot has
    slot_refuses : (o : Option PartMessage) (free : Bool) (p : IsPart j.gathering o free) (slot : Option (List ℕ))
        → slice_index_or j.gathering.slots p.m.index None ≡ slot
        → part_refusal C p.m x ≡ last_refusal C p.m x slot
    slot_refuses o free p slot e =
        ap (λ r. first_of (r ∷ last_refusal C p.m x (slice_index_or x.parts p.m.index None) ∷ []))
        (own_generation p.m true p.own)
        ∙ ap (λ (parts : Slots). first_of (last_refusal C p.m x (slice_index_or parts p.m.index None) ∷ []))
        is.parts_are
        ∙ ap (λ slot. first_of (last_refusal C p.m x slot ∷ [])) e
        ∙ one (last_refusal C p.m x slot)
      where
        one : (r : Option Fault) → first_of (r ∷ []) ≡ r
        one None = refl
        one (Some fault) = refl

    -- the call, of a part that is read
    calls_it : (o : Option PartMessage) (free : Bool) (p : IsPart j.gathering o free) (slot : Option (List ℕ))
        (result : Result PartCame Fault) → slice_index_or j.gathering.slots p.m.index None ≡ slot
        → Call (last_refusal C p.m x slot) (IsLast p.m)
        (λ part x y. GotPart C p.m.index p.m.payload x (part_reply part) y) x result Is
        → GetsPart C o x result Is
    calls_it o free p slot result e does =
        subst (λ o. GetsPart C o x result Is) (sym p.read)
        (subst (λ r. Call r (IsLast p.m) (λ part x y. GotPart C p.m.index p.m.payload x (part_reply part) y) x result Is)
        (sym (slot_refuses o free p slot e)) does)

    pub repeated : (o : Option PartMessage) → Ok false ≡ answer_to j.gathering o → Is x
        → GetsPart C o x (Ok reply.Old) Is
    repeated o answer stays =
        let p = came j.gathering o false answer in
        let before = is_taken _ p.slot in
        calls_it o false p (Some before.0) (Ok reply.Old) before.1
        (record {
          y = x;
          done =
              Again
              (ap (λ (parts : Slots). slice_get parts p.m.index) is.parts_are
              ∙ taken_slot j.gathering.slots p.m.index before.0 before.1);
          after = stays;
        })

    -- the node with one more part
    with_one : (o : Option PartMessage) (p : IsPart j.gathering o true) → p.m.index < C.part_count
        → (slice_get x.parts p.m.index ≡ Some None)
        × (parts_with p.m x ≡ table.gathered (with_part j.gathering o).slots)
    with_one o p within =
        let many = is.many in (
          ap (λ (parts : Slots). slice_get parts p.m.index) is.parts_are
              ∙ free_slot j.gathering.slots p.m.index (omega (arith, many, within)) (is_free _ p.slot),
          ap (λ (parts : Slots). gathered (slice_set parts p.m.index (Some p.m.payload))) is.parts_are
              ∙ sym (gathered_alike (slice_set j.gathering.slots p.m.index (Some p.m.payload)))
              ∙ ap (λ (g : Gathering). table.gathered g.slots) (sym (with_it j.gathering o true p)),
        )

    -- a new part, after which others are missing
    pub one_more : (o : Option PartMessage) → Ok true ≡ answer_to j.gathering o
        → ((m : PartMessage) → o ≡ Some m → m.index < C.part_count)
        → is_whole (with_part j.gathering o) ≡ false
        → ((m : PartMessage) → o ≡ Some m → Is (gets_part x m.index m.payload))
        → GetsPart C o x (Ok reply.New) Is
    one_more o answer within missing after =
        let p = came j.gathering o true answer in
        let one = with_one o p (within p.m p.read) in
        let none : parts_with p.m x ≡ None = one.1 ∙ none_there _ missing in
        calls_it o true p None (Ok reply.New) (is_free _ p.slot)
        (subst (λ r. Call r (IsLast p.m) (λ part x y. GotPart C p.m.index p.m.payload x (part_reply part) y) x
        (Ok reply.New) Is) (sym (ap (unfit C) none))
        (record {
          y = gets_part x p.m.index p.m.payload;
          done = Comes one.0 none;
          after = after p.m p.read;
        }))
      where
        none_there : (o : Option (List (List ℕ))) → is_some o ≡ false → o ≡ None
        none_there None e = refl
        none_there (Some parts) e = absurd (cc)

    -- the last part, with which the guest is made
    pub last : (o : Option PartMessage) (parts : List (List ℕ)) (s : S) → Ok true ≡ answer_to j.gathering o
        → ((m : PartMessage) → o ≡ Some m → m.index < C.part_count)
        → table.gathered (with_part j.gathering o).slots ≡ Some parts → C.assemble parts ≡ Some s
        → ((m : PartMessage) → o ≡ Some m → Is (joins (gets_part x m.index m.payload) s))
        → GetsPart C o x (Ok reply.Whole) Is
    last o parts s answer within all made after =
        let p = came j.gathering o true answer in
        let one = with_one o p (within p.m p.read) in
        let fits : unfit C (parts_with p.m x) ≡ None =
        ap (unfit C) (one.1 ∙ all) ∙ ap (λ (o : Option S). fault_if (is_none o) Malformed) made in
        calls_it o true p None (Ok reply.Whole) (is_free _ p.slot)
        (subst (λ r. Call r (IsLast p.m) (λ part x y. GotPart C p.m.index p.m.payload x (part_reply part) y) x
        (Ok reply.Whole) Is) (sym fits)
        (record {
          y = joins (gets_part x p.m.index p.m.payload) s;
          done = Completes parts s one.0 (one.1 ∙ all) made;
          after = after p.m p.read;
        }))

    -- or with which none is made
    pub not_made : (o : Option PartMessage) (parts : List (List ℕ)) (fit : List (List ℕ) → Bool) (fault : Fault)
        → Ok true ≡ answer_to j.gathering o → ((m : PartMessage) → o ≡ Some m → m.index < C.part_count)
        → table.gathered (with_part j.gathering o).slots ≡ Some parts → is_some (C.assemble parts) ≡ fit parts
        → fault ≡ refused_as fit (Some parts) → Is x → GetsPart C o x (Err fault) Is
    not_made o parts fit fault answer within all fits is_fault stays =
        let p = came j.gathering o true answer in
        let one = with_one o p (within p.m p.read) in
        calls_it o true p None (Err fault) (is_free _ p.slot)
        (subst (λ r. Call {A = PartCame} r (IsLast p.m)
        (λ part x y. GotPart C p.m.index p.m.payload x (part_reply part) y) x (Err fault) Is)
        (sym (ap (unfit C) (one.1 ∙ all)))
        (by p.m (C.assemble parts) (fit parts) fits is_fault (parts, one.1 ∙ all)))
      where
        by : (m : PartMessage) (made : Option S) (b : Bool) → is_some made ≡ b → fault ≡ cond b OutOfMemory Malformed
            → IsLast m x
            → Call {A = PartCame} (fault_if (is_none made) Malformed) (IsLast m)
            (λ part x y. GotPart C m.index m.payload x (part_reply part) y) x (Err fault) Is
        by m None true e f lasts = absurd (cc)
        by m None false e f lasts = (ap Err f, stays)
        by m (Some s) true e f lasts = (f, (lasts, stays))
        by m (Some s) false e f lasts = absurd (cc)

  -- with one more part it is still joining
  pub joins_on : (m : PartMessage) (o : Option PartMessage) → o ≡ Some m
      → Ok true ≡ answer_to j.gathering o
      → IsJoining C drives (record j { gathering = with_part j.gathering o }) (gets_part x m.index m.payload)
  joins_on m o read answer =
      let p = came j.gathering o true answer in
      let same : p.m ≡ m = same_Some p.m m (sym p.read ∙ read) in
      subst (λ (h : Gathering). IsJoining C drives (record j { gathering = h }) (gets_part x m.index m.payload))
      (sym (with_it j.gathering o true p))
      (subst (λ (n : PartMessage). IsJoining C drives
      (record j { gathering = record j.gathering { slots = slice_set j.gathering.slots n.index (Some n.payload) } })
      (gets_part x m.index m.payload)) (sym same)
      (record {
        role = is.role;
        up = is.up;
        generation_is = is.generation_is;
        reads_are = is.reads_are;
        drives_are = is.drives_are;
        parts_are = ap (λ (parts : Slots). slice_set parts m.index (Some m.payload)) is.parts_are;
        many = length-set j.gathering.slots m.index (Some m.payload) ∙ is.many;
        start = is.start;
        no_held = is.no_held;
        none_replayed = is.none_replayed;
        none_come = is.none_come;
      }))

  -- with the last part it is a backup that holds nothing
  pub is_backup : (m : PartMessage) (s : S) → IsFollower Backup j.reads s None
      (record { generation = j.gathering.generation; held = 0; entries = [] }) (joins (gets_part x m.index m.payload) s)
  is_backup m s = record {
    role_is = refl;
    up = is.up;
    generation = is.generation_is;
    reads_are = is.reads_are;
    machine = refl;
    come = is.none_come;
    held = ap length is.no_held;
    left = sym (rw (is.no_held, is.none_replayed) refl);
    within = let none = is.none_replayed in omega (arith, none);
  }
