-- From what one process says to what another one is told: a frame that a host sent brings what it means, wherever the outside
-- passes it on, and an answer brings what the devices sent.
use Rattle.std.proofs.Common.{ℕ, zero, suc, ◌≡◌, ◌<◌, ◌⊎◌, Bool, true, false, cond, List, [], ◌∷◌, ◌++◌, length, Some, None, refl, sym, ap, ◌∙◌, subst, inl, inr, arith}
use Rattle.std.specs.Prelude.{◌==◌, ◌&&◌, slice_get, slice_index, Option}
use Rattle.std.proofs.lemmas.Bool.{and_parts, eqb-true}
use Rattle.std.proofs.lemmas.Option.{same_Some}
use Rattle.clone_state.specs.Parts.{PartMessage, message_bytes}
use Rattle.guest_lockstep.specs.declared.reads.Reads.TheVariants.{Shared}
use Rattle.host_frames.specs.Frames.{Said, Packet, Transfers, Tells, are_measures, are_numbers, is_frame, is_number, is_standing}
use Rattle.host_frames.specs.Meaning as meaning
use Rattle.host_frames.specs.Meaning.{IsTold, Means, Speaks, covered_at, is_report}
use Rattle.host_frames.specs.declared.frame.Notice.TheVariants.{Gone, Join, Progress, Report, Stop, Tick}
use Rattle.host_frames.specs.declared.frame.Report as host
use Rattle.host_frames.specs.declared.frame.Transfer.TheVariants.{Failed, Inspect, Inspected}
use Rattle.host_law.specs.Frame as law
use Rattle.host_law.specs.Frame.{Act, Came}
use Rattle.outside_switch.specs.Held.{Held}
use Rattle.std.specs.List.{AllByRecursion}
use Rattle.log_channel.proofs.PacketLaws.{one_meaning}
use Rattle.log_channel.specs.Packet.{IsPacket, packet_bytes}
use Rattle.log_channel.specs.declared.packet.Packet as channel
use Rattle.log_channel.specs.declared.packet.Packet.TheVariants.{Log, Ack}
use Rattle.outside_switch.proofs.Meanings.{IsCarried, Only, carried, only}
use Rattle.outside_switch.specs.Calls as calls
use Rattle.outside_switch.specs.Calls.{Call, Called}
use Rattle.outside_switch.specs.Says as says
use Rattle.outside_switch.specs.Says.{IsPassed}
use Rattle.pair_protocol.proofs.Traces.Lists.{among-left, among-right, among-split}
use Rattle.pair_protocol.specs.Lawful.{Among}
use Rattle.pair_protocol.specs.World as message
use Rattle.command_console.proofs.Fleets.{came_first, came_rest}
use Rattle.command_console.proofs.Parts.{one_part}

-- ---- packets: the tag tells a part of an image from a packet of the log

-- a packet of the log begins with none of the tags of the packets of images
not_image : (p : channel.Packet) (tag : ℕ) (rest : List ℕ) → packet_bytes p ≡ tag ∷ rest
    → (tag ≡ 0x4A) ⊎ ((tag ≡ 0x50) ⊎ (tag ≡ 0x45)) → ⊥
not_image (Log generation index e) tag rest is t =
    let first : 0x4C ≡ tag = cc in
    elim t [
      | inl a ↦ omega (arith, first, a)
      | inr b ↦ elim b [
        | inl c ↦ omega (arith, first, c)
        | inr d ↦ omega (arith, first, d)
      ]
    ]
not_image (Ack generation held None) tag rest is t =
    let first : 0x41 ≡ tag = cc in
    elim t [
      | inl a ↦ omega (arith, first, a)
      | inr b ↦ elim b [
        | inl c ↦ omega (arith, first, c)
        | inr d ↦ omega (arith, first, d)
      ]
    ]
not_image (Ack generation held (Some replayed)) tag rest is t =
    let first : 0x42 ≡ tag = cc in
    elim t [
      | inl a ↦ omega (arith, first, a)
      | inr b ↦ elim b [
        | inl c ↦ omega (arith, first, c)
        | inr d ↦ omega (arith, first, d)
      ]
    ]

not_nothing : (p : channel.Packet) → packet_bytes p ≡ [] → ⊥
not_nothing (Log generation index e) is = absurd (cc)
not_nothing (Ack generation held None) is = absurd (cc)
not_nothing (Ack generation held (Some replayed)) is = absurd (cc)

-- bytes carry one thing
one_carried : (bytes : List ℕ) (f g : law.Frame) → IsCarried bytes f → IsCarried bytes g → f ≡ g
one_carried bytes f g (inl p) (inl q) =
    p.3 ∙ ap carried (one_meaning p.0 q.0 p.1 q.1 (sym p.2 ∙ q.2)) ∙ sym q.3
one_carried bytes f g (inl p) (inr q) = absurd (not_image p.0 0x50 _ (sym p.2 ∙ q.2) (inr (inl refl)))
one_carried bytes f g (inr p) (inl q) = absurd (not_image q.0 0x50 _ (sym q.2 ∙ p.2) (inr (inl refl)))
one_carried bytes f g (inr p) (inr q) =
    p.3 ∙ ap (λ (m : PartMessage). law.Carries (message.ImagePart m.generation m.index m.payload))
    (one_part p.0 q.0 p.1 q.1 (sym p.2 ∙ q.2)) ∙ sym q.3

-- the packets that mean nothing carry nothing
no_beat : (frame : law.Frame) → IsCarried [] frame → ⊥
no_beat frame (inl p) = not_nothing p.0 (sym p.2)
no_beat frame (inr q) = absurd (let e = q.2 in (cc))

no_parts : (rest : List ℕ) (frame : law.Frame) → IsCarried (0x4A ∷ rest) frame → ⊥
no_parts rest frame (inl p) = not_image p.0 0x4A rest (sym p.2) (inl refl)
no_parts rest frame (inr q) = absurd (let e = q.2 in let first : ◌≡◌ {A = ℕ} 0x4A 0x50 = cc in omega (arith, first))

no_early : (part : List ℕ) (frame : law.Frame) → IsCarried (0x45 ∷ part) frame → ⊥
no_early part frame (inl p) = not_image p.0 0x45 part (sym p.2) (inr (inr refl))
no_early part frame (inr q) = absurd (let e = q.2 in let first : ◌≡◌ {A = ℕ} 0x45 0x50 = cc in omega (arith, first))

-- ---- what means one thing

abbrev is_join : Said → Bool
is_join (Tells (Join generation place of count)) = true
is_join said = false

only_one : (drives node : ℕ) (said : Said) (f g : law.Frame) → is_report said ≡ false → is_join said ≡ false →
    Only drives node said f → Only drives node said g → f ≡ g
only_one drives node (Packet place bytes) f g r j p q = one_carried bytes f g p q
only_one drives node (Transfers (Failed number)) f g r j p q = absurd p
only_one drives node (Transfers (Inspect number page)) f g r j p q = absurd p
only_one drives node (Transfers (Inspected number count bytes)) f g r j p q = absurd p
only_one drives node (Tells (Gone place)) f g r j p q = absurd p
only_one drives node (Tells (Join generation place of count)) f g r j p q = absurd (cc)
only_one drives node (Tells (Report report)) f g r j p q = absurd (cc)
only_one drives node (Tells (Progress place entries count)) f g r j p q = absurd p
only_one drives node (Tells (Tick m n)) f g r j p q = absurd p
only_one drives node (Tells Stop) f g r j p q = absurd p
only_one drives node said f g r j p q = p ∙ sym q

-- it was sent, so whoever is told it is told what was sent
one_told : (drives node : ℕ) (said : Said) (frame : law.Frame) (sent : List law.Frame) → is_report said ≡ false →
    Means drives node said frame → Among frame sent → IsTold drives node said sent
one_told drives node (Tells (Join generation place of count)) frame sent r means among =
    let o = only drives node (Tells (Join generation place of count)) frame means in
    (o.0, (o.1.0, subst (λ f. Among f sent) o.1.1 among))
one_told drives node said frame sent r means among = λ other also.
    subst (λ f. Among f sent)
    (only_one drives node said frame other r refl (only drives node said frame means) (only drives node said other also)) among

-- ---- what a host says

told_covered : (port keys : ℕ) (sent : List law.Frame) → 0 < keys → Came (covered_at port keys) sent →
    Among (law.TellsKeys port keys) sent
told_covered port keys sent some came = go (keys == 0) refl came
  where
    go : (b : Bool) → (keys == 0) ≡ b → Came (cond b [] (law.TellsKeys port keys ∷ [])) sent → Among (law.TellsKeys port keys) sent
    go true e c = absurd (let z = eqb-true keys 0 e in omega (arith, z, some))
    go false e c = c.0

-- the keys of a port that are covered, of a list with a number for each port
told_port : (covered : List ℕ) (port keys : ℕ) (sent : List law.Frame) → (length covered == 2) ≡ true →
    slice_get covered port ≡ Some keys → 0 < keys →
    Came (covered_at 0 (slice_index covered 0) ++ covered_at 1 (slice_index covered 1)) sent →
    Among (law.TellsKeys port keys) sent
told_port [] port keys sent two at some came = absurd (cc)
told_port (a ∷ []) port keys sent two at some came =
    absurd (let e = eqb-true (length (a ∷ [])) 2 two in omega (arith, e))
told_port (a ∷ b ∷ []) zero keys sent two at some came =
    let same = same_Some a keys at in
    subst (λ k. Among (law.TellsKeys 0 k) sent) same
    (told_covered 0 a sent (subst (λ k. 0 < k) (sym same) some) (came_first (covered_at 0 a) (covered_at 1 b) sent came))
told_port (a ∷ b ∷ []) (suc zero) keys sent two at some came =
    let same = same_Some b keys at in
    subst (λ k. Among (law.TellsKeys 1 k) sent) same
    (told_covered 1 b sent (subst (λ k. 0 < k) (sym same) some) (came_rest (covered_at 0 a) (covered_at 1 b) sent came))
told_port (a ∷ b ∷ []) (suc (suc port)) keys sent two at some came = absurd (cc)
told_port (a ∷ b ∷ c ∷ rest) port keys sent two at some came =
    absurd (let e = eqb-true (length (a ∷ b ∷ c ∷ rest)) 2 two in omega (arith, e))

two_ports : (report : host.Report) → is_frame (Tells (Report report)) ≡ true → (length report.covered == 2) ≡ true
two_ports report fits =
    let a = and_parts (is_standing report.generation report.role)
    (are_measures report && (are_numbers report.taken && are_numbers report.covered)) fits in
    let b = and_parts (are_measures report) (are_numbers report.taken && are_numbers report.covered) a.1 in
    let c = and_parts (are_numbers report.taken) (are_numbers report.covered) b.1 in
    (and_parts (length report.covered == 2)
    (is_number (slice_index report.covered 0) && is_number (slice_index report.covered 1)) c.1).0

report_told : (drives node : ℕ) (report : host.Report) (sent : List law.Frame) → is_frame (Tells (Report report)) ≡ true →
    Came (covered_at 0 (slice_index report.covered 0) ++ covered_at 1 (slice_index report.covered 1)) sent →
    IsTold drives node (Tells (Report report)) sent
report_told drives node report sent fits came = λ frame means.
    let o = only drives node (Tells (Report report)) frame means in
    subst (λ f. Among f sent) (sym o.4) (told_port report.covered o.0 o.1 sent (two_ports report fits) o.2 o.3 came)

-- what a host says brings what it means, if that was sent
pub speaks_told : (drives node : ℕ) (said : Said) (frames sent : List law.Frame) → is_frame said ≡ true →
    Speaks drives node said frames → Came frames sent → IsTold drives node said sent
speaks_told drives node said frames sent fits (meaning.OfReport report) came = report_told drives node report sent fits came
speaks_told drives node said frames sent fits (meaning.OfOne one frame r means) came =
    one_told drives node one frame sent r means came.0
speaks_told drives node said frames sent fits (meaning.OfBeat place) came = λ frame means.
    absurd (no_beat frame (only drives node (Packet place []) frame means))
speaks_told drives node said frames sent fits (meaning.OfParts place high low) came = λ frame means.
    absurd (no_parts (high ∷ low ∷ []) frame (only drives node (Packet place (0x4A ∷ high ∷ low ∷ [])) frame means))
speaks_told drives node said frames sent fits (meaning.OfEarly place part) came = λ frame means.
    absurd (no_early part frame (only drives node (Packet place (0x45 ∷ part)) frame means))
speaks_told drives node said frames sent fits (meaning.OfInspected number count bytes) came = λ frame means.
    absurd (only drives node (Transfers (Inspected number count bytes)) frame means)
speaks_told drives node said frames sent fits (meaning.OfProgress place entries count) came = λ frame means.
    absurd (only drives node (Tells (Progress place entries count)) frame means)

-- ---- what is passed on

carries : (drives node place : ℕ) (bytes : List ℕ) (frame : law.Frame) → IsCarried bytes frame →
    Means drives node (Packet place bytes) frame
carries drives node place bytes frame (inl p) = log p.0 p.1 p.2 p.3
  where
    log : (p : channel.Packet) → IsPacket p → bytes ≡ packet_bytes p → frame ≡ carried p →
        Means drives node (Packet place bytes) frame
    log (Log generation index e) is same f =
        subst (λ l. Means drives node (Packet place l) frame) (sym same)
        (subst (λ g. Means drives node (Packet place (packet_bytes (Log generation index e))) g) (sym f)
        (meaning.OfEntry place generation index e is))
    log (Ack generation held replayed) is same f =
        subst (λ l. Means drives node (Packet place l) frame) (sym same)
        (subst (λ g. Means drives node (Packet place (packet_bytes (Ack generation held replayed))) g) (sym f)
        (meaning.OfAcknowledgement place generation held replayed is))
carries drives node place bytes frame (inr q) =
    subst (λ l. Means drives node (Packet place l) frame) (sym q.2)
    (subst (λ g. Means drives node (Packet place (message_bytes q.0)) g) (sym q.3) (meaning.OfPart place q.0 q.1))

pub passed_told : (drives a b from to : ℕ) (number : Option ℕ) (heard said : Said) (sent : List law.Frame) →
    IsPassed from to number heard said → IsTold drives a heard sent → IsTold drives b said sent
passed_told drives a b from to number heard said sent (says.OfPacket bytes) told = λ frame means.
    told frame (carries drives a to bytes frame (only drives b (Packet from bytes) frame means))
passed_told drives a b from to number heard said sent (says.OfProgress entries count) told = λ frame means.
    absurd (only drives b (Tells (Progress from entries count)) frame means)
passed_told drives a b from to number heard said sent (says.OfJoin generation of count is) told = told

-- ---- what the devices answer

-- whom a frame recruits
abbrev recruits : law.Frame → Bool
recruits (law.Recruits generation count reads list) = true
recruits frame = false

abbrev NoneRecruits : List law.Frame → Type 0
NoneRecruits frames = AllByRecursion (λ frame. recruits frame ≡ false) frames

never : (sends : List law.Frame) (frame : law.Frame) → recruits frame ≡ true → NoneRecruits sends → Among frame sends → ⊥
never [] frame is none among = absurd among
never (f ∷ sends) frame is none (inl same) = absurd (let e = sym is ∙ ap recruits same ∙ none.0 in (cc))
never (f ∷ sends) frame is none (inr among) = never sends frame is none.1 among

call_never : (a b : Held) (act : Act) → Call a b act → NoneRecruits act.sends
call_never a b act (calls.TypesKey port byte index is e) = tt
call_never a b act (calls.HearsKeys port keys e) = tt
call_never a b act (calls.TakesByte port number byte room e) = tt
call_never a b act (calls.Forgets generation host fault asks e) = tt
call_never a b act (calls.RefusesWrite write fault puts e) = tt
call_never a b act (calls.RefusesRead address fault reads e) = tt
call_never a b act (calls.Admits host e) = tt
call_never a b act call = (refl, tt)

-- the devices recruit nobody
called_never : (a b : Held) (read written : List law.Frame) → Called a read written b → (frame : law.Frame) →
    recruits frame ≡ true → Among frame written → ⊥
called_never a b read written calls.Rests frame is among = absurd among
called_never a b read written (calls.Goes {held = held} {read = r} {written = w} new act before call) frame is among =
    elim (among-split frame w act.sends among) [
      | inl old ↦ called_never a held r w before frame is old
      | inr one ↦ never act.sends frame is (call_never held new act call) one
    ]

-- a frame that is no Join brings what it means
told : (drives host : ℕ) (said : Said) (frames : List law.Frame) →
    ((generation place of count : ℕ) → said ≡ Tells (Join generation place of count) → ⊥) →
    ((frame : law.Frame) → Means drives host said frame → Among frame frames) → IsTold drives host said frames
told drives host (Tells (Join generation place of count)) frames none means = absurd (none generation place of count refl)
told drives host said frames none means = means

module _ (a b : Held) (read written : List law.Frame) (called : Called a read written b) (host : ℕ) (said : Said)
    (answers : (drives : ℕ) (frame : law.Frame) → Means drives host said frame → Among frame written) where
  -- so no answer is a Join
  pub never_join : (generation place of count : ℕ) → said ≡ Tells (Join generation place of count) → ⊥
  never_join generation place of count is =
      called_never a b read written called (law.Recruits generation count Shared []) refl
      (answers of (law.Recruits generation count Shared [])
      (subst (λ s. Means of host s (law.Recruits generation count Shared [])) (sym is)
      (meaning.OfJoin generation place count [])))

  -- and it brings what the devices sent
  pub answer_told : (drives : ℕ) (sent : List law.Frame) → IsTold drives host said (sent ++ written)
  answer_told drives sent = told drives host said (sent ++ written) never_join
      (λ frame means. among-right frame sent written (answers drives frame means))

-- ---- later

-- more was sent
pub told_later : (drives node : ℕ) (said : Said) (sent more : List law.Frame) → IsTold drives node said sent →
    IsTold drives node said (sent ++ more)
told_later drives node (Tells (Join generation place of count)) sent more t =
    (t.0, (t.1.0, among-left (law.Recruits generation count Shared t.1.0) sent more t.1.1))
told_later drives node said sent more t = λ frame means. among-left frame sent more (t frame means)
