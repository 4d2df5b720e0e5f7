-- The bytes of a part arrive at a joining node. What the code answers and leaves is said in words of the part that they
-- spell, and then each lemma of `PartsThatCome` gives the call's answer: a refusal, a repeat, a new part, or the last
-- one. With the last one the guest is made, or the part is taken back.
use Rattle.std.proofs.Common.{◌≡◌, ℕ, ◌<◌, Bool, true, false, Option, Some, None, is_some, List, [], Result, Ok, Err, refl, sym, ap, subst, ◌∙◌}
use Rattle.std.specs.Prelude.{OnErr}
use Rattle.clone_state.specs.Assembly as table
use Rattle.ft_node.proofs.Words.{Backup, Becomes, CopiesAs, Copying, Fault, Gathering, GetsPart, IsFollower, IsJoining, IsNode, Machine, Node, PartMessage, Reads, Receiving, after_forgetting, after_part, alone_board, answer_to, gets_part, guest_in, is_whole, joins, machine_in, message_at, part_answer, refused_as, with_part, without_part}
use Rattle.clone_state.specs.Laws.{IndexesAreWithin}
use Rattle.guest_parts.specs.Guest.{Guest}
use Rattle.log_entry.specs.Numbers.{◌>>=◌}
use Rattle.ft_node.specs.Joined.{Joined}
use Rattle.ft_node.specs.declared.node.Node as code
use Rattle.ft_node.specs.declared.node.Node.TheVariants as node
use Rattle.ft_node.specs.declared.ran.PartCame.{PartCame}
use Rattle.ft_node.specs.declared.ran.PartCame.TheVariants as reply
use Rattle.ft_node.proofs.Gatherings as gatherings
use Rattle.ft_node.proofs.Gatherings.{drives_stay, generation_stays}
use Rattle.ft_node.proofs.PartsThatCome as parts

-- ---- all parts

all_there : (o : Option (List (List ℕ))) → is_some o ≡ true → (payloads : List (List ℕ)) × (o ≡ Some payloads)
all_there None e = absurd cc
all_there (Some payloads) e = (payloads, refl)

made_of : (drives : ℕ) (o : Option (List (List ℕ))) (guest : Guest) → (o >>= guest_in drives) ≡ Some guest
    → (payloads : List (List ℕ)) × (o ≡ Some payloads) × (guest_in drives payloads ≡ Some guest)
made_of drives None guest e = absurd cc
made_of drives (Some payloads) guest e = (payloads, refl, e)

-- ---- the bytes of a part come to a joining node

module _ (drives : ℕ) (j : Joined) (of_drives : j.gathering.drives ≡ drives) (bytes : List ℕ) where
  -- what is answered, and what is left, in words of the part that the bytes spell
  pub answered : (result : Result Bool Fault) → result ≡ part_answer j.gathering bytes
      → result ≡ answer_to j.gathering (message_at drives bytes)
  unfolding part_answer
  answered result e = e ∙ ap (λ d. answer_to j.gathering (message_at d bytes)) of_drives

  pub left : after_part j.gathering bytes ≡ with_part j.gathering (message_at drives bytes)
  unfolding after_part
  left = ap (λ d. with_part j.gathering (message_at d bytes)) of_drives

  taken_from : (g : Gathering) → g.drives ≡ drives
      → after_forgetting g bytes ≡ without_part g (message_at drives bytes)
  unfolding after_forgetting
  taken_from g e = ap (λ d. without_part g (message_at d bytes)) e

  -- a new part that is taken back leaves the node's parts as they were
  pub taken_back : Ok true ≡ part_answer j.gathering bytes
      → after_forgetting (after_part j.gathering bytes) bytes ≡ j.gathering
  taken_back new =
      let o = message_at drives bytes in
      ap (λ (g : Gathering). after_forgetting g bytes) left
      ∙ taken_from (with_part j.gathering o) (drives_stay j.gathering o ∙ of_drives)
      ∙ gatherings.taken_back_stays j.gathering o (answered (Ok true) new)

-- a refused part leaves a node as it was
pub refused_stays : {B H : Type 0} (j k : Joined) (bytes : List ℕ) (fault : Fault)
    → k ≡ record j { gathering = after_part j.gathering bytes } → Err fault ≡ part_answer j.gathering bytes
    → ◌≡◌ {A = code.Node B H} (node.Joining k) (node.Joining j)
refused_stays j k bytes fault same refused =
    let drives = j.gathering.drives in
    let answer = answered drives j refl bytes (Err fault) refused in
    let stays : k ≡ j =
    same
    ∙ ap (λ (g : Gathering). record j { gathering = g })
    (left drives j refl bytes ∙ gatherings.refused_stays j.gathering (message_at drives bytes) fault answer) in
    ap (λ (j : Joined). node.Joining j) stays

-- and so does one that is taken back
pub unchanged : {B H : Type 0} (copied : B → Guest) (j k : Joined) (bytes : List ℕ)
    → k ≡ record j { gathering = after_part j.gathering bytes } → Ok true ≡ part_answer j.gathering bytes
    → (r : Result PartCame Fault) (n : code.Node B H) → Becomes copied bytes k r n → OnErr r (n ≡ node.Joining j)
unchanged copied j k bytes same new (Ok part) n becomes = tt
unchanged copied j k bytes same new (Err fault) (node.Joining l) becomes =
    let back : l ≡ j =
    becomes.0 ∙ ap (λ (k : Joined). record k { gathering = after_forgetting k.gathering bytes }) same
    ∙ ap (λ (g : Gathering). record j { gathering = g }) (taken_back j.gathering.drives j refl bytes new) in
    ap (λ (l : Joined). node.Joining l) back
unchanged copied j k bytes same new (Err fault) (node.Primary p) becomes = absurd becomes
unchanged copied j k bytes same new (Err fault) (node.Backup b) becomes = absurd becomes
unchanged copied j k bytes same new (Err fault) (node.Draining d) becomes = absurd becomes
unchanged copied j k bytes same new (Err fault) (node.Alone a) becomes = absurd becomes
unchanged copied j k bytes same new (Err fault) (node.Halted h) becomes = absurd becomes

-- ---- the node of the protocol

-- an index that is read is one of the image
pub in_image : {B S : Type 0} (state : B → S) (copied : B → Guest) (drives : ℕ) (C : Copying S)
    → CopiesAs state copied drives C.parts C.part_count C.assemble → IndexesAreWithin → (bytes : List ℕ)
    → (m : PartMessage) → message_at drives bytes ≡ Some m → m.index < C.part_count
in_image state copied drives C copies law bytes m read =
    subst (λ n. m.index < n) (sym copies.counted) (law drives bytes m read)

-- the end of the channel of a backup that holds nothing
abbrev nothing_held : ℕ → Receiving
nothing_held generation = record { generation = generation; held = 0; entries = [] }

module _ {S : Type 0} (C : Copying S) (drives : ℕ) (j : Joined) (x : Node S) (is : IsJoining C drives j x)
    (bytes : List ℕ) (k : Joined) (same : k ≡ record j { gathering = after_part j.gathering bytes }) where
  -- the node that the code's node is after the part
  abbrev Later : Node S → Type 0
  Later x = IsJoining C drives k x

  is_left : k ≡ record j { gathering = with_part j.gathering (message_at drives bytes) }
  is_left = same ∙ ap (λ (g : Gathering). record j { gathering = g }) (left drives j is.drives_are bytes)

  as_it_was : with_part j.gathering (message_at drives bytes) ≡ j.gathering → Later x
  as_it_was stays =
      subst (λ (k : Joined). IsJoining C drives k x)
      (sym (is_left ∙ ap (λ (g : Gathering). record j { gathering = g }) stays)) is

  pub is_refused : (fault : Fault) → Err fault ≡ part_answer j.gathering bytes
      → GetsPart C (message_at drives bytes) x (Err fault) Later
  is_refused fault refused =
      let answer = answered drives j is.drives_are bytes (Err fault) refused in
      parts.refused C drives j x is Later (message_at drives bytes) fault answer
      (as_it_was (gatherings.refused_stays j.gathering (message_at drives bytes) fault answer))

  pub comes_again : Ok false ≡ part_answer j.gathering bytes
      → GetsPart C (message_at drives bytes) x (Ok reply.Old) Later
  comes_again old =
      let answer = answered drives j is.drives_are bytes (Ok false) old in
      parts.repeated C drives j x is Later (message_at drives bytes) answer
      (as_it_was (gatherings.repeat_stays j.gathering (message_at drives bytes) answer))

  pub comes_new : Ok true ≡ part_answer j.gathering bytes → is_whole k.gathering ≡ false
      → ((m : PartMessage) → message_at drives bytes ≡ Some m → m.index < C.part_count)
      → GetsPart C (message_at drives bytes) x (Ok reply.New) Later
  comes_new new missing within =
      let o = message_at drives bytes in
      let answer = answered drives j is.drives_are bytes (Ok true) new in
      parts.one_more C drives j x is Later o answer within
      (subst (λ (k : Joined). is_whole k.gathering ≡ false) is_left missing)
      (λ m read. subst (λ (k : Joined). IsJoining C drives k (gets_part x m.index m.payload)) (sym is_left)
      (parts.joins_on C drives j x is m o read answer))

module _ {B S : Type 0} (state : B → S) (copied : B → Guest) (C : Copying S) (drives : ℕ)
    (copies : CopiesAs state copied drives C.parts C.part_count C.assemble) (law : IndexesAreWithin) (j : Joined)
    (x : Node S) (is : IsJoining C drives j x) (bytes : List ℕ) (new : Ok true ≡ part_answer j.gathering bytes) where
  -- the assembly with the part
  abbrev more : Gathering
  more = after_part j.gathering bytes

  -- the guest that is made is the one that the protocol's node is given
  is_made : (b : B) (r : Receiving) (come : Option (List ℕ)) (reads : Reads) → come ≡ None → reads ≡ j.reads → machine_in more ≡ Some (copied b) → r ≡ nothing_held more.generation
      → GetsPart C (message_at drives bytes) x (Ok reply.Whole) (IsFollower Backup reads (state b) come r)
  is_made b r come reads none same_reads made receives =
      let o = message_at drives bytes in
      let here = left drives j is.drives_are bytes in
      let g = with_part j.gathering o in
      let all =
      made_of g.drives (table.gathered g.slots) (copied b)
      (subst (λ (g : Gathering). machine_in g ≡ Some (copied b)) here made) in
      let assembled : C.assemble all.0 ≡ Some (state b) =
      copies.made all.0 b
      (subst (λ d. guest_in d all.0 ≡ Some (copied b)) (drives_stay j.gathering o ∙ is.drives_are) all.2) in
      let begins : r ≡ nothing_held j.gathering.generation =
      receives
      ∙ ap nothing_held (ap (λ (g : Gathering). g.generation) here ∙ generation_stays j.gathering o) in
      parts.last C drives j x is (IsFollower Backup reads (state b) come r) o all.0 (state b)
      (answered drives j is.drives_are bytes (Ok true) new) (in_image state copied drives C copies law bytes) all.1
      assembled
      (λ m read. rw (none, same_reads)
      (subst (λ (r : Receiving). IsFollower Backup j.reads (state b) None r (joins (gets_part x m.index m.payload) (state b)))
      (sym begins) (parts.is_backup C drives j x is m (state b))))

  -- and if none is made, the protocol refuses the part, or there is no memory
  not_made : (fault : Fault) (Is : Node S → Type 0) → is_whole more ≡ true
      → fault ≡ refused_as (λ payloads. is_some (guest_in more.drives payloads)) (table.gathered more.slots) → Is x
      → GetsPart C (message_at drives bytes) x (Err fault) Is
  not_made fault Is full is_fault stays =
      let o = message_at drives bytes in
      let here = left drives j is.drives_are bytes in
      let g = with_part j.gathering o in
      let fit : ℕ → List (List ℕ) → Bool = λ d payloads. is_some (guest_in d payloads) in
      let all = all_there (table.gathered g.slots) (subst (λ (g : Gathering). is_whole g ≡ true) here full) in
      parts.not_made C drives j x is Is o all.0 (fit drives) fault
      (answered drives j is.drives_are bytes (Ok true) new) (in_image state copied drives C copies law bytes) all.1
      (copies.fits all.0)
      (is_fault ∙ ap (λ (g : Gathering). refused_as (fit g.drives) (table.gathered g.slots)) here
      ∙ ap (λ d. refused_as (fit d) (table.gathered g.slots)) (drives_stay j.gathering o ∙ is.drives_are)
      ∙ ap (refused_as (fit drives)) all.1)
      stays

  module _ {H : Type 0} (M : Machine S) where
    pub comes_last : (k : Joined) → k ≡ record j { gathering = more } → is_whole k.gathering ≡ true
        → (r : Result PartCame Fault) (n : code.Node B H) → Becomes copied bytes k r n
        → GetsPart C (message_at drives bytes) x r (IsNode state M C drives n)
    comes_last k same full (Ok part) (node.Backup b) becomes =
        let made = subst (λ (k : Joined). machine_in k.gathering ≡ Some (copied b.replayer.board)) same becomes.1 in
        let receives =
        subst (λ (k : Joined). b.receiver ≡ nothing_held k.gathering.generation) same becomes.2 in
        let reads : b.reads ≡ j.reads = becomes.4 ∙ ap (λ (k : Joined). k.reads) same in
        subst (λ part. GetsPart C (message_at drives bytes) x (Ok part)
        (IsFollower Backup b.reads (state b.replayer.board) b.replayer.fetched b.receiver))
        (sym becomes.0) (is_made b.replayer.board b.receiver b.replayer.fetched b.reads becomes.3 reads made receives)
    comes_last k same full (Err fault) (node.Joining l) becomes =
        let back : l ≡ j =
        becomes.0 ∙ ap (λ (k : Joined). record k { gathering = after_forgetting k.gathering bytes }) same
        ∙ ap (λ (g : Gathering). record j { gathering = g }) (taken_back drives j is.drives_are bytes new) in
        not_made fault (λ x. IsJoining C drives l x) (subst (λ (k : Joined). is_whole k.gathering ≡ true) same full)
        (subst (λ (k : Joined). fault ≡ refused_as (λ payloads. is_some (guest_in k.gathering.drives payloads))
        (table.gathered k.gathering.slots)) same becomes.1)
        (subst (λ (l : Joined). IsJoining C drives l x) (sym back) is)
    comes_last k same full (Ok part) (node.Primary p) becomes = absurd becomes
    comes_last k same full (Ok part) (node.Joining l) becomes = absurd becomes
    comes_last k same full (Ok part) (node.Draining d) becomes = absurd becomes
    comes_last k same full (Ok part) (node.Alone a) becomes = absurd becomes
    comes_last k same full (Ok part) (node.Halted h) becomes = absurd becomes
    comes_last k same full (Err fault) (node.Primary p) becomes = absurd becomes
    comes_last k same full (Err fault) (node.Backup b) becomes = absurd becomes
    comes_last k same full (Err fault) (node.Draining d) becomes = absurd becomes
    comes_last k same full (Err fault) (node.Alone a) becomes = absurd becomes
    comes_last k same full (Err fault) (node.Halted h) becomes = absurd becomes

-- ---- it is not alone

pub becomes_none : {B H : Type 0} (copied : B → Guest) (bytes : List ℕ) (j : Joined) (r : Result PartCame Fault)
    (node : code.Node B H) → Becomes copied bytes j r node → alone_board node ≡ None
becomes_none copied bytes j (Ok part) (node.Backup b) is = refl
becomes_none copied bytes j (Err fault) (node.Joining k) is = refl
becomes_none copied bytes j r node is = absurd is
