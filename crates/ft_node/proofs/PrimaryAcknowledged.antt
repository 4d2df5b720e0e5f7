-- What an acknowledgement does to a primary. The entries that it covers leave the log, and their keys are covered; the
-- log that is left is the rest of the whole log.
use Rattle.std.proofs.Common.{◌≡◌, ℕ, zero, suc, ◌+◌, ◌-◌, ◌<◌, ◌≤◌, max, Bool, true, false, cond, not, ◌==◌, Option, Some, None, Ok, Err, List, [], ◌∷◌, ◌++◌, length, take, drop, length-append, refl, sym, ap, subst, ◌∙◌, arith}
use Rattle.std.specs.Prelude.{nat_lt, slice_index, unwrap_or}
use Rattle.std.proofs.lemmas.Bool.{ltb-false}
use Rattle.std.proofs.lemmas.List.{drop-drop}
use Rattle.std.proofs.lemmas.List.Elements.{All-drop}
use Rattle.event_callbacks.specs.declared.devices.TheConstants.{PORTS}
use Rattle.ft_node.proofs.Words.{BadAck, Covering, Covers, DeliversAcknowledgement, Entry, IsEntry, IsPrimary, Log, Machine, Node, Reads, Sending, Timed, WrongGeneration, ack_answer, acknowledged, after_acknowledge, deliver_acknowledgement_refusal, dropped_to, fault_if, first_of, hears, inputs_of, log, next_of}
use Rattle.log_channel.specs.declared.packet.Packet.{Packet}
use Rattle.log_channel.specs.declared.packet.Packet.TheVariants as packet
use Rattle.output_rule.proofs.Told.{tells_acknowledged}
use Rattle.output_rule.specs.Keys.{keys_in}
use Rattle.output_rule.specs.Laws.{Tells}
use Rattle.pair_protocol.proofs.Traces.Moves.{keys-append}
use Rattle.guest_lockstep.specs.Reach as reach
use Rattle.ft_node.proofs.PrimaryRefusals.{primary_acts, allowed}
use Rattle.ft_node.proofs.PrimaryInputs.{next_behind}

-- ---- keys

-- how many keys of a port are in the image, and in the entries after it
keys_of_both : (port : ℕ) (copy : List Timed) (es : List Entry)
    → length (reach.keys port (copy ++ inputs_of es)) ≡ length (reach.keys port copy) + keys_in port es
keys_of_both port copy es =
    ap length (keys-append port copy (inputs_of es))
    ∙ length-append (reach.keys port copy) (reach.keys port (inputs_of es))

-- the numbers of keys in an image
abbrev keys_of_image : List Timed → List ℕ
keys_of_image copy = length (reach.keys 0 copy) ∷ length (reach.keys 1 copy) ∷ []

of_image : (copy : List Timed) (port : ℕ) → port < PORTS
    → slice_index (keys_of_image copy) port ≡ length (reach.keys port copy)
of_image copy zero within = refl
of_image copy (suc zero) within = refl
of_image copy (suc (suc port)) within = absurd (omega arith)

tells_before : {S : Type 0} (M : Machine S) (c : Covering) (x : Node S) → Covers M c x → x.covered ≤ length x.log
    → Tells (keys_of_image x.copy) x.log c
tells_before M c x covers within = record {
  within = subst (λ n. n ≤ length x.log) (sym covers.acknowledged) within;
  keys = λ port is.
      covers.keys port is ∙ keys_of_both port x.copy (take x.covered x.log)
      ∙ ap (λ n. n + keys_in port (take x.covered x.log)) (sym (of_image x.copy port is))
      ∙ ap (λ n. slice_index (keys_of_image x.copy) port + keys_in port (take n x.log)) (sym covers.acknowledged);
}

keys_after : {S : Type 0} (M : Machine S) (c : Covering) (x : Node S) (held replayed port : ℕ) → Covers M c x
    → x.covered ≤ length x.log → held ≤ length x.log → port < PORTS → max c.acknowledged held ≡ held
    → slice_index (after_acknowledge c (log x.covered (drop x.covered x.log)) held replayed).keys port
    ≡ length (reach.keys port (x.copy ++ inputs_of (take held x.log)))
keys_after M c x held replayed port covers within bound is most =
    let first : x.covered ≤ c.acknowledged = (let e = covers.acknowledged in omega arith) in
    let told =
    tells_acknowledged (keys_of_image x.copy) x.log c x.covered held replayed (tells_before M c x covers within) covers.waits
    first bound in
    told.keys port is
    ∙ ap (λ n. slice_index (keys_of_image x.copy) port + keys_in port (take n x.log)) most
    ∙ ap (λ n. n + keys_in port (take held x.log)) (of_image x.copy port is)
    ∙ sym (keys_of_both port x.copy (take held x.log))

-- ---- a primary that heard

-- the log after that is the rest of the whole
rest_of_log : (covered held : ℕ) (whole : List Entry) → covered ≤ held
    → dropped_to (log covered (drop covered whole)) held ≡ log held (drop held whole)
rest_of_log covered held whole order =
    let most : max covered held ≡ held = omega arith in
    let both : covered + (held - covered) ≡ held = omega arith in
    ap (λ n. log n (drop (held - covered) (drop covered whole))) most
    ∙ ap (log held) (drop-drop (held - covered) covered whole ∙ ap (λ n. drop n whole) both)

no_less : (covered held : ℕ) → covered ≤ max covered held
no_less covered held = omega arith

covers_heard : {S : Type 0} (M : Machine S) (c : Covering) (l : Log) (x : Node S)
    (held replayed later : ℕ) → Covers M c x → l ≡ log x.covered (drop x.covered x.log) → x.covered ≤ length x.log
    → max x.covered held ≤ length x.log → later ≡ max x.reported replayed
    → Covers M (after_acknowledge c l (max x.covered held) later) (hears x held replayed)
covers_heard M c l x held replayed later covers kept within bound is_later =
    let most : max c.acknowledged (max x.covered held) ≡ max x.covered held =
    (let e = covers.acknowledged in omega arith) in
    subst (λ l. Covers M (after_acknowledge c l (max x.covered held) later) (hears x held replayed)) (sym kept)
    (record {
      acknowledged = most;
      reported = let e = covers.reported in omega arith;
      last_read = covers.last_read;
      waits = covers.waits;
      keys = λ port is. keys_after M c x (max x.covered held) later port covers within bound is most;
      noted = covers.noted;
      outstanding = covers.outstanding;
    })

primary_heard : {S : Type 0} {K Later : Option S → Type 0} {reads : Reads} (M : Machine S) (s : S) (l : Log) (sd : Sending) (c : Covering) (x : Node S)
    (generation held : ℕ) (replayed : Option ℕ) → IsPrimary M K reads s l sd c x → Later None → held ≤ length x.log
    → IsPrimary M Later reads s (dropped_to l (max x.covered held))
    (acknowledged sd (Some (packet.Ack generation held replayed)) (Ok (max x.covered held)))
    (after_acknowledge c l (max x.covered held) (max sd.replayed (unwrap_or replayed 0)))
    (hears x held (unwrap_or replayed 0))
primary_heard M s l sd c x generation held replayed p none order =
    let within = p.within in
    let later : max sd.replayed (unwrap_or replayed 0) ≡ max x.reported (unwrap_or replayed 0) =
    ap (λ n. max n (unwrap_or replayed 0)) p.told in
    let bound : max x.covered held ≤ length x.log = omega arith in
    record {
      role = p.role;
      up = p.up;
      generation = p.generation;
      reads_are = p.reads_are;
      machine = p.machine;
      kept =
          ap (λ l. dropped_to l (max x.covered held)) p.kept
          ∙ rest_of_log x.covered (max x.covered held) x.log (no_less x.covered held);
      within = bound;
      entries = All-drop IsEntry (max x.covered held - l.first) l.entries p.entries;
      acknowledged = refl;
      told = later;
      covers = covers_heard M c l x held (unwrap_or replayed 0) _ p.covers p.kept p.within bound later;
      image = none;
    }

-- ---- what is answered

tests_passed : (wrong bad : Bool) (covered held : ℕ)
    → Ok covered ≡ cond wrong (Err WrongGeneration) (cond bad (Err BadAck) (Ok held))
    → (first_of (fault_if wrong WrongGeneration ∷ fault_if bad BadAck ∷ []) ≡ None) × (bad ≡ false)
    × (covered ≡ held)
tests_passed true bad covered held answer = cc
tests_passed false true covered held answer = cc
tests_passed false false covered held answer = (refl, refl, (cc))

-- the primary's own tests are the protocol's
acked_by : {S : Type 0} {K : Option S → Type 0} {reads : Reads} (M : Machine S) (s : S) (l : Log) (sd : Sending) (c : Covering) (x : Node S)
    (generation held : ℕ) → IsPrimary M K reads s l sd c x
    → deliver_acknowledgement_refusal generation held x
    ≡ first_of
    (fault_if (not (generation == sd.generation)) WrongGeneration ∷ fault_if (nat_lt (next_of l) held) BadAck ∷ [])
acked_by M s l sd c x generation held p =
    ap (λ r. first_of (r ∷ fault_if (not (generation == x.generation)) WrongGeneration
    ∷ fault_if (nat_lt (length x.log) held) BadAck ∷ [])) (primary_acts x p.role p.up)
    ∙ ap (λ g. first_of (fault_if (not (generation == g)) WrongGeneration
    ∷ fault_if (nat_lt (length x.log) held) BadAck ∷ [])) p.generation
    ∙ ap (λ n. first_of (fault_if (not (generation == sd.generation)) WrongGeneration
    ∷ fault_if (nat_lt n held) BadAck ∷ [])) (next_behind M s l sd c x p)

pub ack_heard : {S : Type 0} {K : Option S → Type 0} {reads : Reads} (Later : Option S → Type 0) (M : Machine S) (s : S) (l : Log) (sd : Sending) (c : Covering) (x : Node S)
    (came : Option Packet) (covered : ℕ) → IsPrimary M K reads s l sd c x → Later None
    → Ok covered ≡ ack_answer sd (next_of l) came
    → DeliversAcknowledgement came x (Ok covered)
    (IsPrimary M Later reads s (dropped_to l covered) (acknowledged sd came (Ok covered))
    (after_acknowledge c l covered (acknowledged sd came (Ok covered)).replayed))
ack_heard Later M s l sd c x None covered p none answer = absurd (cc)
ack_heard Later M s l sd c x (Some (packet.Log generation index e)) covered p none answer = absurd (cc)
ack_heard {S} {K} {reads} Later M s l sd c x (Some (packet.Ack generation held replayed)) covered p none answer =
    let passed =
    tests_passed (not (generation == sd.generation)) (nat_lt (next_of l) held) covered (max sd.held held) answer in
    let no_more : held ≤ next_of l = ltb-false _ _ passed.1 in
    let is : max x.covered held ≡ covered = ap (λ n. max n held) (sym p.acknowledged) ∙ sym passed.2 in
    let bound : held ≤ length x.log = subst (λ n. held ≤ n) (sym (next_behind M s l sd c x p)) no_more in
    allowed ℕ _ (Ok covered) _ _ (acked_by M s l sd c x generation held p ∙ passed.0) (record {
      y = hears x held (unwrap_or replayed 0);
      done = (sym is, refl);
      after =
          subst
          (λ n. IsPrimary M Later reads s (dropped_to l n)
          (acknowledged sd (Some (packet.Ack generation held replayed)) (Ok n))
          (after_acknowledge c l n (max sd.replayed (unwrap_or replayed 0))) (hears x held (unwrap_or replayed 0))) is
          (primary_heard M s l sd c x generation held replayed p none bound);
    })
