-- A transfer or a notice is read from what follows its tag just if it was written so.
use Rattle.std.proofs.Common.{◌≡◌, ℕ, Bool, true, false, cond, eqb, List, [], ◌∷◌, length, Option, Some, None, refl, sym, ap, subst, ◌∙◌}
use Rattle.std.specs.Prelude.{◌&&◌}
use Rattle.std.proofs.lemmas.Bool.{eqb-true}
use Rattle.std.proofs.lemmas.List.{nil_from_length}
use Rattle.std.proofs.lemmas.Option.{same_Some, none-some}
use Rattle.clone_state.proofs.Codecs.{all_again, one_again}
use Rattle.clone_state.proofs.Spellings.{Spells, all_holds, all_spells}
use Rattle.clone_state.specs.Codec.{Again, Codec, both, by, bytes, number, one, only, read_all}
use Rattle.disk_dcdd.specs.declared.address.SectorAddress.{SectorAddress}
use Rattle.log_entry.specs.Numbers.{◌>>=◌, IsBytes}
use Rattle.log_entry.proofs.ReadingLaws.{admitted, first_read}
use Rattle.host_frames.specs.Frames.{are_measures, are_numbers, is_drives, is_generation, is_notice, is_number, is_port, is_standing, is_transfer, notice_body, transfer_body}
use Rattle.host_frames.specs.Reading.{address, begin, content, drives, flag, generation, inspect, join, key, kind, measures, notice_at, only_tag, port, port_count, progress, read_with, report, report_with, role, sight, standing, tick, transfer_at, two_numbers, word, write_with}
use Rattle.host_frames.specs.declared.frame.Notice.{Notice}
use Rattle.host_frames.specs.declared.frame.Notice.TheVariants.{Suspect, Won, Lost, Gone, Begin, Join, Report, Progress, Tick, Stop}
use Rattle.host_frames.specs.declared.frame.Transfer.{Transfer}
use Rattle.host_frames.specs.declared.frame.Transfer.TheVariants.{Byte, Key, Accepted, Write, Written, Failed, Get, Sector, Inspect, Inspected}
use Rattle.host_frames.proofs.FieldLaws.{address_again, address_spells, any_byte, begin_again, begin_spells, both_are, content_again, content_spells, first_true, generation_is, generation_spells, inspect_again, inspect_spells, is_number_again, is_number_spells, join_again, join_spells, key_again, key_spells, measures_again, port_count_again, port_count_spells, progress_again, progress_spells, report_again, report_spells, second_true, sight_again, sight_spells, tick_again, tick_spells}

-- what is in range and has this body
abbrev pub Has : {B : Type 0} → (B → Bool) → (B → List ℕ) → ℕ → List ℕ → B → Type 0
Has is body tag xs y = (is y ≡ true) × (tag ∷ xs ≡ body y)

-- what is made of fields, if it is in range and has them after its tag
kind_takes : {A B : Type 0} {P : A → Type 0} (is : B → Bool) (body : B → List ℕ) (tag : ℕ) (c : Codec A) → Spells c P
    → (make : A → B) → ((x : A) → P x → is (make x) ≡ true) → ((x : A) → tag ∷ c.spell x ≡ body (make x))
    → (xs : List ℕ) (y : B) → IsBytes xs → kind c make xs ≡ Some y → Has is body tag xs y
kind_takes {A} {B} {P} is body tag c h make within same xs y all e =
    let r = first_read (read_all c xs) (λ x. Some (make x)) y e in
    let spelled = all_spells c h xs r.0 all r.1 in
    subst (Has is body tag xs) (same_Some (make r.0) y r.2)
    (within r.0 (all_holds c h xs r.0 all r.1), ap (λ (bs : List ℕ). tag ∷ bs) spelled ∙ same r.0)

-- and what is written is read again
kind_again : {A B : Type 0} (c : Codec A) (make : A → B) (x : A) → Again c x → kind c make (c.spell x) ≡ Some (make x)
kind_again {A} {B} c make x h = ap (λ (o : Option A). o >>= λ z. Some (make z)) (all_again c x h)

tag_takes : (tag : ℕ) (n : Notice) → is_notice n ≡ true → tag ∷ [] ≡ notice_body n → (xs : List ℕ) (y : Notice)
    → only_tag n xs ≡ Some y → Has is_notice notice_body tag xs y
tag_takes tag n within same xs y e =
    let test = admitted (eqb (length xs) 0) n y e in
    let nothing = nil_from_length xs (eqb-true (length xs) 0 test.0) in
    subst (Has is_notice notice_body tag xs) test.1 (within, ap (λ (bs : List ℕ). tag ∷ bs) nothing ∙ same)

-- one tag more in a chain of tags
by_tag : {B : Type 0} (tag k : ℕ) {this rest : Option B} (y : B) (Goal : ℕ → Type 0)
    → cond (eqb tag k) this rest ≡ Some y → (this ≡ Some y → Goal k) → (rest ≡ Some y → Goal tag) → Goal tag
by_tag {B} tag k {this} {rest} y Goal e here after = cases (eqb tag k) refl e
  where
    cases : (test : Bool) → eqb tag k ≡ test → cond test this rest ≡ Some y → Goal tag
    cases true is o = subst Goal (sym (eqb-true tag k is)) (here o)
    cases false is o = after o

-- ---- transfers

pub transfer_takes : (tag : ℕ) (xs : List ℕ) (t : Transfer) → IsBytes xs → transfer_at tag xs ≡ Some t
    → Has is_transfer transfer_body tag xs t
unfolding transfer_at key port port_count content address inspect sight both by only one number bytes
transfer_takes tag xs t all e =
    let goal : ℕ → Type 0 = λ j. Has is_transfer transfer_body j xs t in
    by_tag tag 0x42 t goal e
    (kind_takes is_transfer transfer_body 0x42 key key_spells (λ r. Byte r.0 r.1.1 r.1.0)
    (λ r h. both_are (is_port r.0) (is_number r.1.1) h.0 h.1.1) (λ r. refl) xs t all) (λ e.
    by_tag tag 0x4B t goal e
    (kind_takes is_transfer transfer_body 0x4B key key_spells (λ r. Key r.0 r.1.1 r.1.0)
    (λ r h. both_are (is_port r.0) (is_number r.1.1) h.0 h.1.1) (λ r. refl) xs t all) (λ e.
    by_tag tag 0x41 t goal e
    (kind_takes is_transfer transfer_body 0x41 port_count port_count_spells (λ r. Accepted r.0 r.1)
    (λ r h. both_are (is_port r.0) (is_number r.1) h.0 h.1) (λ r. refl) xs t all) (λ e.
    by_tag tag 0x57 t goal e
    (kind_takes is_transfer transfer_body 0x57 content content_spells (λ r. Write (write_with r))
    (λ r h. whole (length r.1.1) r.1.0 h.1.1 h.1.0) (λ r. refl) xs t all) (λ e.
    by_tag tag 0x77 t goal e
    (kind_takes is_transfer transfer_body 0x77 number is_number_spells (λ n. Written n) (λ n h. h) (λ n. refl) xs t all) (λ e.
    by_tag tag 0x66 t goal e
    (kind_takes is_transfer transfer_body 0x66 number is_number_spells (λ n. Failed n) (λ n h. h) (λ n. refl) xs t all) (λ e.
    by_tag tag 0x47 t goal e
    (kind_takes is_transfer transfer_body 0x47 address address_spells (λ a. Get a) (λ a h. refl) (λ a. refl) xs t all) (λ e.
    by_tag tag 0x53 t goal e
    (kind_takes is_transfer transfer_body 0x53 content content_spells (λ r. Sector (read_with r))
    (λ r h. whole (length r.1.1) r.1.0 h.1.1 h.1.0) (λ r. refl) xs t all) (λ e.
    by_tag tag 0x49 t goal e
    (kind_takes is_transfer transfer_body 0x49 inspect inspect_spells (λ r. Inspect r.1 r.0) (λ r h. h.1) (λ r. refl) xs t all)
    (λ e.
    by_tag tag 0x56 t goal e
    (kind_takes is_transfer transfer_body 0x56 sight sight_spells (λ r. Inspected r.0 r.1.0 r.1.1)
    (λ r h. seen (length r.1.1) r.0 r.1.0 h.1.1 h.0 h.1.0) (λ r. refl) xs t all) (λ e. absurd (none-some t e)))))))))))
  where
    whole : (l n : ℕ) → l ≡ 137 → is_number n ≡ true → (eqb l 137 && is_number n) ≡ true
    whole l n same small = both_are (eqb l 137) (is_number n) (rw same refl) small

    seen : (l m n : ℕ) → l ≡ 526 → is_number m ≡ true → is_number n ≡ true
        → (eqb l 526 && (is_number m && is_number n)) ≡ true
    seen l m n same first second =
        both_are (eqb l 526) (is_number m && is_number n) (rw same refl)
        (both_are (is_number m) (is_number n) first second)

-- what a body is read as, if it is that of a transfer or of a notice
abbrev pub read_transfer : List ℕ → Option Transfer
read_transfer [] = None
read_transfer (tag ∷ xs) = transfer_at tag xs

abbrev pub read_notice : List ℕ → Option Notice
read_notice [] = None
read_notice (tag ∷ xs) = notice_at tag xs

-- what a transfer is read as
pub transfer_again : (t : Transfer) → is_transfer t ≡ true → read_transfer (transfer_body t) ≡ Some t
unfolding transfer_at key port port_count content address inspect sight both by only one number bytes
transfer_again (Byte p n b) e =
    kind_again key (λ r. Byte r.0 r.1.1 r.1.0) (p, (b, n))
    (key_again p b n (first_true (is_port p) (is_number n) e) (second_true (is_port p) (is_number n) e))
transfer_again (Key p n b) e =
    kind_again key (λ r. Key r.0 r.1.1 r.1.0) (p, (b, n))
    (key_again p b n (first_true (is_port p) (is_number n) e) (second_true (is_port p) (is_number n) e))
transfer_again (Accepted p n) e =
    kind_again port_count (λ r. Accepted r.0 r.1) (p, n)
    (port_count_again p n (first_true (is_port p) (is_number n) e) (second_true (is_port p) (is_number n) e))
transfer_again (Write w) e =
    let whole = eqb-true (length w.bytes) 137 (first_true (eqb (length w.bytes) 137) (is_number w.number) e) in
    let at : SectorAddress = record { drive = w.drive; track = w.track; sector = w.sector } in
    kind_again content (λ r. Write (write_with r)) (at, (w.number, w.bytes))
    (content_again at w.number w.bytes whole (second_true (eqb (length w.bytes) 137) (is_number w.number) e))
transfer_again (Written n) e = kind_again number (λ n. Written n) n (is_number_again n e)
transfer_again (Failed n) e = kind_again number (λ n. Failed n) n (is_number_again n e)
transfer_again (Get a) e = kind_again address (λ a. Get a) a (address_again a)
transfer_again (Sector r) e =
    let whole = eqb-true (length r.bytes) 137 (first_true (eqb (length r.bytes) 137) (is_number r.number) e) in
    let at : SectorAddress = record { drive = r.drive; track = r.track; sector = r.sector } in
    kind_again content (λ r. Sector (read_with r)) (at, (r.number, r.bytes))
    (content_again at r.number r.bytes whole (second_true (eqb (length r.bytes) 137) (is_number r.number) e))
transfer_again (Inspect n p) e = kind_again inspect (λ r. Inspect r.1 r.0) (p, n) (inspect_again p n e)
transfer_again (Inspected m n bs) e =
    let numbers = is_number m && is_number n in
    let rest = second_true (eqb (length bs) 526) numbers e in
    kind_again sight (λ r. Inspected r.0 r.1.0 r.1.1) (m, (n, bs))
    (sight_again m n bs (eqb-true (length bs) 526 (first_true (eqb (length bs) 526) numbers e))
    (first_true (is_number m) (is_number n) rest) (second_true (is_number m) (is_number n) rest))

-- no notice has the tag of a transfer
pub no_notice : (t : Transfer) → read_notice (transfer_body t) ≡ None
unfolding notice_at
no_notice (Byte p n b) = refl
no_notice (Key p n b) = refl
no_notice (Accepted p n) = refl
no_notice (Write w) = refl
no_notice (Written n) = refl
no_notice (Failed n) = refl
no_notice (Get a) = refl
no_notice (Sector r) = refl
no_notice (Inspect n p) = refl
no_notice (Inspected m n bs) = refl

-- ---- notices

pub notice_takes : (tag : ℕ) (xs : List ℕ) (n : Notice) → IsBytes xs → notice_at tag xs ≡ Some n
    → Has is_notice notice_body tag xs n
unfolding notice_at generation begin join standing report measures two_numbers tick role flag word drives progress both by only one number bytes
notice_takes tag xs n all e =
    let goal : ℕ → Type 0 = λ j. Has is_notice notice_body j xs n in
    by_tag tag 0x55 n goal e
    (kind_takes is_notice notice_body 0x55 generation generation_spells (λ n. Suspect n) (λ n h. h) (λ n. refl) xs n all) (λ e.
    by_tag tag 0x4F n goal e
    (kind_takes is_notice notice_body 0x4F generation generation_spells (λ n. Won n) (λ n h. h) (λ n. refl) xs n all) (λ e.
    by_tag tag 0x4C n goal e
    (kind_takes is_notice notice_body 0x4C generation generation_spells (λ n. Lost n) (λ n h. h) (λ n. refl) xs n all) (λ e.
    by_tag tag 0x58 n goal e
    (kind_takes is_notice notice_body 0x58 one any_byte (λ n. Gone n) (λ n h. refl) (λ n. refl) xs n all)
    (λ e.
    by_tag tag 0x4E n goal e
    (kind_takes is_notice notice_body 0x4E begin begin_spells (λ r. Begin r.0 r.1) (λ r h. h.0) (λ r. refl) xs n all) (λ e.
    by_tag tag 0x4A n goal e
    (kind_takes is_notice notice_body 0x4A join join_spells (λ r. Join r.0 r.1.0 r.1.1.0 r.1.1.1)
    (λ r h. both_are (is_generation r.0) (is_drives r.1.1.0 && is_number r.1.1.1) h.0 (both_are (is_drives r.1.1.0) (is_number r.1.1.1) h.1.1.0 h.1.1.1))
    (λ r. refl) xs n all) (λ e.
    by_tag tag 0x45 n goal e
    (kind_takes is_notice notice_body 0x45 report report_spells (λ r. Report (report_with r))
    (λ r h. both_are (is_standing r.0.0 r.0.1)
    ((is_number r.1.1.0.0 && (is_number r.1.1.0.1.0 && (is_number r.1.1.0.1.1.0 && is_number r.1.1.0.1.1.1)))
    && (are_numbers r.1.1.1.0 && are_numbers r.1.1.1.1)) h.0
    (both_are (is_number r.1.1.0.0 && (is_number r.1.1.0.1.0 && (is_number r.1.1.0.1.1.0 && is_number r.1.1.0.1.1.1)))
    (are_numbers r.1.1.1.0 && are_numbers r.1.1.1.1)
    (both_are (is_number r.1.1.0.0) (is_number r.1.1.0.1.0 && (is_number r.1.1.0.1.1.0 && is_number r.1.1.0.1.1.1)) h.1.1.0.0
    (both_are (is_number r.1.1.0.1.0) (is_number r.1.1.0.1.1.0 && is_number r.1.1.0.1.1.1) h.1.1.0.1.0
    (both_are (is_number r.1.1.0.1.1.0) (is_number r.1.1.0.1.1.1) h.1.1.0.1.1.0 h.1.1.0.1.1.1)))
    (both_are (are_numbers r.1.1.1.0) (are_numbers r.1.1.1.1) h.1.1.1.0 h.1.1.1.1)))
    (λ r. refl) xs n all) (λ e.
    by_tag tag 0x52 n goal e
    (kind_takes is_notice notice_body 0x52 progress progress_spells (λ r. Progress r.0 r.1.0 r.1.1)
    (λ r h. both_are (is_number r.1.0) (is_number r.1.1) h.1.0 h.1.1) (λ r. refl) xs n all) (λ e.
    by_tag tag 0x54 n goal e
    (kind_takes is_notice notice_body 0x54 tick tick_spells (λ r. Tick r.0 r.1)
    (λ r h. both_are (is_number r.0) (is_number r.1) h.0 h.1) (λ r. refl) xs n all) (λ e.
    by_tag tag 0x5A n goal e (tag_takes 0x5A Stop refl refl xs n) (λ e. absurd (none-some n e)))))))))))

pub notice_again : (n : Notice) → is_notice n ≡ true → read_notice (notice_body n) ≡ Some n
unfolding notice_at generation begin join standing report measures two_numbers tick role flag word drives progress both by only one number bytes
notice_again (Suspect g) e = kind_again generation (λ n. Suspect n) g (generation_is g e)
notice_again (Won g) e = kind_again generation (λ n. Won n) g (generation_is g e)
notice_again (Lost g) e = kind_again generation (λ n. Lost n) g (generation_is g e)
notice_again (Gone h) e = kind_again one (λ n. Gone n) h (one_again h)
notice_again (Begin g h) e = kind_again begin (λ r. Begin r.0 r.1) (g, h) (begin_again g h e)
notice_again (Join g h d c) e =
    let rest = second_true (is_generation g) (is_drives d && is_number c) e in
    kind_again join (λ r. Join r.0 r.1.0 r.1.1.0 r.1.1.1) (g, (h, (d, c)))
    (join_again g h d c (first_true (is_generation g) (is_drives d && is_number c) e)
    (first_true (is_drives d) (is_number c) rest) (second_true (is_drives d) (is_number c) rest))
notice_again (Report r) e =
    let keys = are_numbers r.taken && are_numbers r.covered in
    let last = is_number r.writes && is_number r.tick in
    let rest = second_true (is_standing r.generation r.role) (are_measures r && keys) e in
    let measured = first_true (are_measures r) keys rest in
    let told = second_true (are_measures r) keys rest in
    let behind = second_true (is_number r.count) (is_number r.lag && last) measured in
    let waits = second_true (is_number r.lag) last behind in
    kind_again report (λ r. Report (report_with r))
    ((r.generation, r.role), (r.is_idle, ((r.count, (r.lag, (r.writes, r.tick))), (r.taken, r.covered))))
    (report_again r.generation r.role r.is_idle (r.count, (r.lag, (r.writes, r.tick))) r.taken r.covered
    (first_true (is_standing r.generation r.role) (are_measures r && keys) e)
    (measures_again r.count r.lag r.writes r.tick (first_true (is_number r.count) (is_number r.lag && last) measured)
    (first_true (is_number r.lag) last behind) (first_true (is_number r.writes) (is_number r.tick) waits)
    (second_true (is_number r.writes) (is_number r.tick) waits))
    (first_true (are_numbers r.taken) (are_numbers r.covered) told)
    (second_true (are_numbers r.taken) (are_numbers r.covered) told))
notice_again (Progress h m n) e =
    kind_again progress (λ r. Progress r.0 r.1.0 r.1.1) (h, (m, n))
    (progress_again h m n (first_true (is_number m) (is_number n) e) (second_true (is_number m) (is_number n) e))
notice_again (Tick m n) e =
    kind_again tick (λ r. Tick r.0 r.1) (m, n)
    (tick_again m n (first_true (is_number m) (is_number n) e) (second_true (is_number m) (is_number n) e))
notice_again Stop e = refl
