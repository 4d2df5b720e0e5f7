-- What holds while the processes run: the fleet that they are so far, with a host of it at each place; what a host has said was
-- sent, and what was pushed to a host brings what was sent.
use Rattle.std.proofs.Common.{ℕ, ◌≡◌, Bool, true, false, cond, Option, Some, None, List, [], ◌∷◌, ◌++◌, append_assoc, refl, sym, ap, ◌∙◌, subst, inl, inr, eqb-true}
use Rattle.std.specs.Prelude.{◌==◌, slice_get, slice_set}
use Rattle.std.specs.List.{AllByRecursion}
use Rattle.clone_state.specs.Copies.{CopiesAs}
use Rattle.host_frames.specs.StreamReading.{contents_of}
use Rattle.guest_lockstep.specs.Machine.{Machine}
use Rattle.guest_parts.specs.Guest.{Guest}
use Rattle.host_frames.proofs.BodyLaws.{one_body}
use Rattle.host_frames.specs.Frames.{IsBodyOf, IsSpelling, Said, Tells, body_of, framed}
use Rattle.host_frames.specs.Meaning.{IsTold, Means, Speaks}
use Rattle.host_frames.specs.declared.frame.Notice.TheVariants.{Join}
use Rattle.host_law.specs.Fleet.{Deed, Fleet, Happened}
use Rattle.host_law.specs.Frame.{Act, Came, Frame, sent}
use Rattle.host_node.specs.Goes as host
use Rattle.host_node.specs.Goes.{AllBring, RunsTo, Says}
use Rattle.host_node.specs.Hosts.{IsHosted, IsNumber}
use Rattle.host_node.specs.declared.host.HostNode.{HostNode}
use Rattle.outside_switch.specs.Held.{Held}
use Rattle.outside_switch.specs.Shown.{Shows}
use Rattle.outside_switch.specs.Calls.{Called}
use Rattle.outside_switch.specs.Lines.{Pushed, number_at, pushed_to}
use Rattle.outside_switch.specs.Passing.{Passed}
use Rattle.outside_switch.specs.Runs.{HasPassed}
use Rattle.outside_switch.specs.Says as says
use Rattle.outside_switch.specs.Says.{IsHost, IsPassed, IsRight, Saying}
use Rattle.outside_switch.specs.declared.line.HostLine.{HostLine}
use Rattle.pair_protocol.proofs.Traces.Lists.{among-right, among-split, get_set, get_set_other, same_or_not, same_some}
use Rattle.pair_protocol.specs.Copying.{Copying}
use Rattle.pair_protocol.specs.Lawful.{Among}
use Rattle.pair_protocol.specs.Node.{Node}
use Rattle.command_console.proofs.Fleets.{after_host, came_first, came_later, came_rest, host_deeds, host_happened, then_happened}
use Rattle.command_console.proofs.Speaking.{answer_told, never_join, passed_told, told_later}
use Rattle.command_console.specs.Processes.{Delivered, Processes}

-- ---- one spelling

-- a body that spells a frame is that of one frame
pub one_spelling : (f g : Said) (body bytes : List ℕ) → IsBodyOf f body → IsSpelling g bytes → bytes ≡ framed body → f ≡ g
one_spelling f g body bytes is spells same =
    let whole : framed body ≡ framed (body_of g) = sym same ∙ spells.same in
    let e : body ≡ body_of g = cc in
    one_body f g body is (record { fits = spells.fits; same = e })

-- two spellings
pub same_spelling : (f g : Said) (bytes : List ℕ) → IsSpelling f bytes → IsSpelling g bytes → f ≡ g
same_spelling f g bytes p q =
    one_spelling f g (body_of f) bytes (record { fits = p.fits; same = refl }) q p.same

-- a body that was delivered to a place is that of a frame that was pushed to it
abbrev IsPushed : ℕ → List ℕ → List Pushed → Type 0
IsPushed place bytes pushed = (p : Pushed) × Among p pushed × (p.place ≡ place) × (bytes ≡ p.bytes.items)

pushed_there : (place : ℕ) (pushed : List Pushed) (bytes : List ℕ) → Among bytes (contents_of (pushed_to place pushed)) →
    IsPushed place bytes pushed
pushed_there place [] bytes among = absurd among
pushed_there place (p ∷ pushed) bytes among =
    go (p.place == place) refl (λ rest. pushed_there place pushed bytes rest) among
  where
    later : IsPushed place bytes pushed → IsPushed place bytes (p ∷ pushed)
    later r = (r.0, inr r.1, r.2, r.3)

    go : (b : Bool) → (p.place == place) ≡ b → (Among bytes (contents_of (pushed_to place pushed)) → IsPushed place bytes pushed) →
        Among bytes (contents_of (cond b (p.bytes ∷ pushed_to place pushed) (pushed_to place pushed))) →
        IsPushed place bytes (p ∷ pushed)
    go true e more (inl same) = (p, inl refl, eqb-true p.place place e, same)
    go true e more (inr rest) = later (more rest)
    go false e more rest = later (more rest)

module _ (drives : ℕ) where
  -- a frame that the host of a number has said, all of whose meanings were sent
  pub record WasSaid (n : ℕ) (frames : List Frame) (bytes : List ℕ) : Type 0 where
    pub said : Said
    pub means : List Frame
    pub spells : IsSpelling said bytes
    pub speaks : Speaks drives n said means
    pub sent : Came means frames

  abbrev pub AllSaid : ℕ → List Frame → List (List ℕ) → Type 0
  AllSaid n frames gone = (bytes : List ℕ) → Among bytes gone → WasSaid n frames bytes

  said_later : (n : ℕ) (frames more : List Frame) (bytes : List ℕ) → WasSaid n frames bytes → WasSaid n (frames ++ more) bytes
  said_later n frames more bytes w = record {
    said = w.said;
    means = w.means;
    spells = w.spells;
    speaks = w.speaks;
    sent = came_later w.means frames more w.sent;
  }

  says_all : (n : ℕ) (gone : List (List ℕ)) (means frames : List Frame) → Says drives n gone means → Came means frames →
      AllSaid n frames gone
  says_all n gone means frames host.Nothing came bytes among = absurd among
  says_all n gone means frames (host.Then {rest = rest} {more = more} b said one spells speaks says) came bytes (inl same) =
      record {
        said = said;
        means = one;
        spells = subst (λ l. IsSpelling said l) (sym same) spells;
        speaks = speaks;
        sent = came_first one more frames came;
      }
  says_all n gone means frames (host.Then {rest = rest} {more = more} b said one spells speaks says) came bytes (inr among) =
      says_all n rest more frames says (came_rest one more frames came) bytes among

came_self : (xs before : List Frame) → Came xs (before ++ xs)
came_self [] before = tt
came_self (x ∷ xs) before = (
  among-right x before (x ∷ xs) (inl refl),
  subst (λ l. Came xs l) (append_assoc before (x ∷ []) xs) (came_self xs (before ++ x ∷ [])),
)

module _ (drives : ℕ) (num : ℕ → ℕ) where
  -- a frame that was pushed to a place brings what it means to the host there, and only a host of its generation is told to join
  pub record WasPushed (frames : List Frame) (p : Pushed) : Type 0 where
    pub said : Said
    pub spells : IsSpelling said p.bytes.items
    pub told : IsTold drives (num p.place) said frames
    pub asked : (generation place of count : ℕ) → said ≡ Tells (Join generation place of count) → num p.place ≡ generation

  pub pushed_later : (frames more : List Frame) (p : Pushed) → WasPushed frames p → WasPushed (frames ++ more) p
  pushed_later frames more p w = record {
    said = w.said;
    spells = w.spells;
    told = told_later drives (num p.place) w.said frames more w.told;
    asked = w.asked;
  }

  -- the numbers that the outside has given are these
  abbrev pub Fits : List HostLine → Type 0
  Fits lines = (place n : ℕ) → number_at lines place ≡ Some n → num place ≡ n

  pub is_host : (lines : List HostLine) → Fits lines → (place : ℕ) → IsHost (number_at lines place) (num place)
  is_host lines fits place = go (number_at lines place) refl
    where
      go : (o : Option ℕ) → number_at lines place ≡ o → IsHost o (num place)
      go None e = tt
      go (Some n) e = fits place n e

  -- what was heard was told
  abbrev pub HeardTold : Option Saying → List Frame → Type 0
  HeardTold None frames = Unit {0}
  HeardTold (Some heard) frames = IsTold drives (num heard.place) heard.said frames

  asked_by : (from to : ℕ) (number : Option ℕ) (heard said : Said) (generation place of count : ℕ) →
      IsPassed from to number heard said → said ≡ Tells (Join generation place of count) → number ≡ Some generation
  asked_by from to number heard said generation place of count (says.OfPacket bytes) is = absurd (cc)
  asked_by from to number heard said generation place of count (says.OfProgress entries made) is = absurd (cc)
  asked_by from to number heard said generation place of count (says.OfJoin g d c has) is =
      let same : g ≡ generation = cc in
      has ∙ ap (λ k. Some k) same

  -- ---- what the outside pushes, after calls of the devices

  module _ (lines : List HostLine) (fits : Fits lines) (a b : Held) (read written frames : List Frame)
      (called : Called a read written b) where
    answered : (p : Pushed) (said : Said) → IsSpelling said p.bytes.items → says.IsAnswer lines written p said →
        WasPushed (frames ++ written) p
    answered p said spells answer =
        let n = num p.place in
        let means : (of : ℕ) (frame : Frame) → Means of n said frame → Among frame written =
        λ of frame m. answer of n frame (is_host lines fits p.place) m in
        record {
          said = said;
          spells = spells;
          told = answer_told a b read written called n said means drives frames;
          asked = λ generation place of count is.
              absurd (never_join a b read written called n said means generation place of count is);
        }

    right : (heard : Option Saying) (p : Pushed) → HeardTold heard frames → IsRight lines heard written p →
        WasPushed (frames ++ written) p
    right None p told r = answered p r.said r.spelled r.from
    right (Some heard) p told r = elim r.from [
      | inl passed ↦ record {
        said = r.said;
        spells = r.spelled;
        told = told_later drives (num p.place) r.said frames written
            (passed_told drives (num heard.place) (num p.place) heard.place p.place (number_at lines p.place) heard.said r.said
            frames passed told);
        asked = λ generation place of count is.
            fits p.place generation
            (asked_by heard.place p.place (number_at lines p.place) heard.said r.said generation place of count passed is);
      }
      | inr answer ↦ answered p r.said r.spelled answer
    ]

    pub all_right : (heard : Option Saying) (ps : List Pushed) → HeardTold heard frames →
        AllByRecursion (IsRight lines heard written) ps → (p : Pushed) → Among p ps → WasPushed (frames ++ written) p
    all_right heard [] told rights p among = absurd among
    all_right heard (q ∷ ps) told rights p (inl same) =
        subst (λ r. WasPushed (frames ++ written) r) (sym same) (right heard q told rights.0)
    all_right heard (q ∷ ps) told rights p (inr among) = all_right heard ps told rights.1 p among

  -- ---- what comes to a host

  -- what came to a host was told it
  brought : (frames : List Frame) (pushed : List Pushed) (place : ℕ) (came : List (List ℕ)) →
      ((x : Pushed) → Among x pushed → WasPushed frames x) → Delivered came (contents_of (pushed_to place pushed)) →
      AllBring drives (num place) came frames
  brought frames pushed place came was delivered body among = λ said is.
      let r = pushed_there place pushed (framed body) (delivered body among) in
      let w = was r.0 r.1 in
      let same = one_spelling said w.said body r.0.bytes.items is w.spells (sym r.3) in
      subst (λ s. IsTold drives (num place) s frames) (sym same)
      (subst (λ k. IsTold drives (num k) w.said frames) r.2 w.told)

  -- a spare that joins has its number
  joins_as : (frames : List Frame) (pushed : List Pushed) (place : ℕ) (came : List (List ℕ)) (number : ℕ) →
      ((x : Pushed) → Among x pushed → WasPushed frames x) → Delivered came (contents_of (pushed_to place pushed)) →
      host.IsAsked came number → number ≡ num place
  joins_as frames pushed place came number was delivered a =
      let r = pushed_there place pushed (framed a.from.body) (delivered a.from.body a.from.among) in
      let w = was r.0 r.1 in
      let same = one_spelling (Tells (Join number a.place a.drives a.count)) w.said a.from.body r.0.bytes.items a.from.says
      w.spells (sym r.3) in
      sym (w.asked number a.place a.drives a.count (sym same)) ∙ ap num r.2

  -- ---- the processes

  module _ {B S : Type 0} {H : Type 0} (state : B → S) (M : Machine S) (copied : B → Guest) (C : Copying S) where
    -- a host is one of the fleet
    pub record HostStands (f : Fleet S) (n : ℕ) (h : HostNode B H) : Type 0 where
      pub x : Node S
      pub there : slice_get f.hosts n ≡ Some x
      pub is : IsHosted state M C drives n h x
      pub drives_are : h.drives ≡ drives
      pub number : IsNumber n h
      pub said : AllSaid drives n f.sent h.mail.gone

    -- all are a fleet that counts so many hosts, and this passed so far
    pub record Stands (first : Fleet S) (count : ℕ) (passed : List Passed) (p : Processes B H) : Type 0 where
      pub deeds : List Deed
      pub fleet : Fleet S
      pub happened : Happened M C first deeds fleet
      pub shows : Shows M drives p.outside.devices fleet.outside
      pub counts : fleet.outside.hosts ≡ count
      pub passes : HasPassed passed first.outside fleet.outside
      pub hosts : (place : ℕ) (h : HostNode B H) → slice_get p.hosts place ≡ Some h → HostStands fleet (num place) h
      pub pushed : (x : Pushed) → Among x p.pushed → WasPushed fleet.sent x

    -- a host is still one after another process moved
    pub host_later : (f g : Fleet S) (n : ℕ) (h : HostNode B H) (more : List Frame) → g.sent ≡ f.sent ++ more →
        slice_get g.hosts n ≡ slice_get f.hosts n → HostStands f n h → HostStands g n h
    host_later f g n h more grown same s = record {
      x = s.x;
      there = same ∙ s.there;
      is = s.is;
      drives_are = s.drives_are;
      number = s.number;
      said = λ bytes among. subst (λ l. WasSaid drives n l bytes) (sym grown)
          (said_later drives n f.sent more bytes (s.said bytes among));
    }

    module _ (copies : CopiesAs state copied drives C.parts C.part_count C.assemble)
        (apart : (m n : ℕ) → num m ≡ num n → m ≡ n) where
      pub host_moved : (first : Fleet S) (count : ℕ) (passed : List Passed) (p : Processes B H) (place : ℕ) (h new : HostNode B H) →
          Stands first count passed p → slice_get p.hosts place ≡ Some h → host.Moves state M copied h new →
          Delivered new.mail.came (contents_of (pushed_to place p.pushed)) →
          Stands first count passed (record p { hosts = slice_set p.hosts place new })
      host_moved first count passed p place h new st at move delivered = record {
        deeds = st.deeds ++ host_deeds n acts;
        fleet = g;
        happened = then_happened M C first f g st.deeds (host_deeds n acts) st.happened
            (host_happened M C f n s.x to.y acts s.there to.ran.run to.ran.came);
        shows = st.shows;
        counts = st.counts;
        passes = st.passes;
        hosts = λ other k there. elim (same_or_not other place) [
          | inl same ↦
              subst (λ i. HostStands g i k) (ap num (sym same))
              (subst (λ k. HostStands g n k)
              (same_some new k (slice_get (slice_set p.hosts place new) place) (get_set p.hosts place h new at)
              (ap (slice_get (slice_set p.hosts place new)) (sym same) ∙ there)) mine)
          | inr differs ↦
              host_later f g (num other) k (sent acts) refl
              (get_set_other f.hosts n (num other) to.y (λ e. differs (apart other place e)))
              (st.hosts other k (sym (get_set_other p.hosts place other new differs) ∙ there))
        ];
        pushed = λ x among. pushed_later f.sent (sent acts) x (st.pushed x among);
      }
        where
          n : ℕ
          n = num place

          f : Fleet S
          f = st.fleet

          s : HostStands f n h
          s = st.hosts place h at

          numbered : IsNumber n new
          numbered = λ joined. elim (move.joins joined) [
            | inl old ↦ (move.stays old).1 ∙ s.number old
            | inr asked ↦ joins_as f.sent p.pushed place new.mail.came new.number st.pushed delivered asked
          ]

          to : RunsTo state M C drives n s.x f.sent move.said new
          to = subst (λ d. RunsTo state M C d n s.x f.sent move.said new) s.drives_are
              (move.runs C n (subst (λ d. CopiesAs state copied d C.parts C.part_count C.assemble) (sym s.drives_are) copies)
              numbered s.x (subst (λ d. IsHosted state M C d n h s.x) (sym s.drives_are) s.is) f.sent
              (subst (λ d. AllBring d n new.mail.came f.sent) (sym s.drives_are)
              (brought f.sent p.pushed place new.mail.came st.pushed delivered)))

          acts : List Act
          acts = to.ran.acts

          g : Fleet S
          g = after_host M C f n to.y acts

          mine : HostStands g n new
          mine = record {
            x = to.y;
            there = get_set f.hosts n s.x to.y s.there;
            is = to.is;
            drives_are = move.drives ∙ s.drives_are;
            number = numbered;
            said = λ bytes among.
                elim (among-split bytes h.mail.gone move.said (subst (λ l. Among bytes l) move.gone among)) [
                  | inl old ↦ said_later drives n f.sent (sent acts) bytes (s.said bytes old)
                  | inr one ↦ says_all drives n move.said (sent acts) (f.sent ++ sent acts) to.ran.says
                      (came_self (sent acts) f.sent) bytes one
                ];
          }
