-- What full slots make: their payloads, the memory and the numbers that these say, and so the machine.
use Rattle.std.proofs.Common.{◌≡◌, ◌≢◌, ℕ, zero, suc, ◌+◌, ◌-◌, ◌*◌, ◌<◌, ◌≤◌, Bool, true, false, cond, eqb, ltb, List, [], ◌∷◌, ◌++◌, length, map, take, drop, get_or, Option, Some, None, is_some, refl, sym, ap, subst, ◌∙◌, append_assoc, append-nil, length-append, length-drop, arith}
use Rattle.std.specs.Prelude.{All, IsTrue, ◌==◌, ◌&&◌, unwrap_or}
use Rattle.std.specs.List.{list_all}
use Rattle.std.specs.Option.{option_map_or}
use Rattle.std.proofs.lemmas.Bool.{and_parts, eq-eqb, eqb-true, ne_eqb, ltb-true, ltb-false, false≢true, and_from}
use Rattle.std.proofs.Math.Dec.{eqb-suc-zero}
use Rattle.std.proofs.Math.Seq.{take-length}
use Rattle.std.proofs.lemmas.List.{length-map, take_more}
use Rattle.std.proofs.lemmas.List.Elements.{All-cons, All-head, All-tail, All-take}
use Rattle.std.proofs.lemmas.Option.{none-some, same_Some}
use Rattle.clone_state.proofs.Words.{Checkpoint, Drives, FirstPart, IsPage, Slots, admitted, bytes, bytes_in, checkpoint_in, first_in, first_read, fit_slots, fits_together, fitting, gathered, guest_in, guest_of, is_page, may_be_completed, number, numbers_at, numbers_in, page, read_all, read_each, read_joined, read_parts, slots_of, table, table_count, times}
use Rattle.log_entry.specs.Numbers.{◌>>=◌}
use Rattle.clone_state.specs.Slots.{bytes_at}
use Rattle.clone_state.proofs.Codecs.{all_again}
use Rattle.clone_state.proofs.Collecting.{read_count}
use Rattle.clone_state.proofs.PartLaws.{page_again}

-- ---- one slot more

pub bytes_more : (slots : Slots) (slot : Option (List ℕ)) → bytes_in (slots ++ slot ∷ []) ≡ bytes_in slots ++ bytes_at slot
bytes_more [] slot = append-nil (bytes_at slot)
bytes_more (s ∷ slots) slot =
    ap (λ (xs : List ℕ). bytes_at s ++ xs) (bytes_more slots slot)
    ∙ sym (append_assoc (bytes_at s) (bytes_in slots) (bytes_at slot))

pub numbers_more : (slots : Slots) (slot : Option (List ℕ))
    → numbers_in (slots ++ slot ∷ []) ≡ numbers_in slots ++ numbers_at slot
numbers_more [] slot = append-nil (numbers_at slot)
numbers_more (s ∷ slots) slot =
    ap (λ (xs : List ℕ). numbers_at s ++ xs) (numbers_more slots slot)
    ∙ sym (append_assoc (numbers_at s) (numbers_in slots) (numbers_at slot))

pub bytes_next : (slots : Slots) (i : ℕ) (d : Option (List ℕ)) → i < length slots
    → bytes_in (take i slots) ++ bytes_at (get_or slots i d) ≡ bytes_in (take (i + 1) slots)
bytes_next slots i d inside =
    sym (bytes_more (take i slots) (get_or slots i d)) ∙ ap bytes_in (sym (take_more slots i d inside))

pub numbers_next : (slots : Slots) (i : ℕ) (d : Option (List ℕ)) → i < length slots
    → numbers_in (take i slots) ++ numbers_at (get_or slots i d) ≡ numbers_in (take (i + 1) slots)
numbers_next slots i d inside =
    sym (numbers_more (take i slots) (get_or slots i d)) ∙ ap numbers_in (sym (take_more slots i d inside))

-- ---- full slots are payloads

pub slots_full : (slots : Slots) (parts : List (List ℕ)) → gathered slots ≡ Some parts → slots ≡ map Some parts
slots_full [] parts e = ap (λ ps. map Some ps) (same_Some [] parts e)
slots_full (None ∷ slots) parts e = absurd (none-some parts e)
slots_full (Some payload ∷ slots) parts e =
    let r = first_read (gathered slots) (λ rest. Some (payload ∷ rest)) parts e in
    ap (λ ss. Some payload ∷ ss) (slots_full slots r.0 r.1)
    ∙ ap (λ (ps : List (List ℕ)). map Some ps) (same_Some (payload ∷ r.0) parts r.2)

pub take_slots : (n : ℕ) (parts : List (List ℕ)) → take n (map Some parts) ≡ map Some (take n parts)
take_slots zero parts = refl
take_slots (suc n) [] = refl
take_slots (suc n) (p ∷ ps) = ap (λ (ss : Slots). Some p ∷ ss) (take_slots n ps)

pub drop_slots : (n : ℕ) (parts : List (List ℕ)) → drop n (map Some parts) ≡ map Some (drop n parts)
drop_slots zero parts = refl
drop_slots (suc n) [] = refl
drop_slots (suc n) (p ∷ ps) = drop_slots n ps

-- ---- pages

page_read : (payload : List ℕ) → length payload ≡ 256 → read_all page payload ≡ Some payload
unfolding page bytes
page_read payload e = all_again page payload (page_again payload e)

-- a payload is a page exactly if it has as many bytes as one
pub page_length : (xs : List ℕ) → (length xs == 256) ≡ is_page xs
unfolding page bytes
page_length xs = go (ltb (length xs) 256) (length (drop 256 xs) == 0) refl refl
  where
    left : length (drop 256 xs) ≡ length xs - 256
    left = length-drop 256 xs

    go : (a b : Bool) → ltb (length xs) 256 ≡ a → (length (drop 256 xs) == 0) ≡ b
        → (length xs == 256) ≡ is_some (cond a None (Some (take 256 xs, drop 256 xs))
        >>= λ (r : List ℕ × List ℕ). cond (length r.1 == 0) (Some r.0) None)
    go true b less e =
        let short : length xs < 256 = ltb-true (length xs) 256 less in ne_eqb (length xs) 256 (λ z. omega (arith, z))
    go false true less e =
        let none : length (drop 256 xs) ≡ 0 = eqb-true _ _ e in
        let enough : 256 ≤ length xs = ltb-false (length xs) 256 less in
        eq-eqb (length xs) 256 (omega (arith, left)) ∙ ap (λ c. is_some (cond c (Some (take 256 xs)) None)) (sym e)
    go false false less e =
        let some : length (drop 256 xs) ≢ 0 = λ z. false≢true (sym e ∙ eq-eqb (length (drop 256 xs)) 0 z) in
        let other : length xs ≢ 256 = λ z. some (left ∙ omega (arith, z)) in
        ne_eqb (length xs) 256 other ∙ ap (λ c. is_some (cond c (Some (take 256 xs)) None)) (sym e)

-- all slots after these
pub all_after : (n : ℕ) (slots : Slots) → take (length slots - n) (drop n slots) ≡ drop n slots
all_after n slots = ap (λ k. take k (drop n slots)) (sym (length-drop n slots)) ∙ take-length (drop n slots)

-- the pages of a memory, all of which came, have as many bytes as it
pub memory_long : (n : ℕ) (slots : Slots) → n ≤ length slots → All (λ (slot : Option (List ℕ)). IsTrue (is_some slot)) slots
    → All IsPage slots → length (bytes_in (take n slots)) ≡ 256 * n
memory_long zero slots enough full pages = refl
memory_long (suc n) [] enough full pages = absurd (omega (arith, enough))
memory_long (suc n) (None ∷ slots) enough full pages =
    absurd (false≢true (All-head (λ (slot : Option (List ℕ)). IsTrue (is_some slot)) None slots full))
memory_long (suc n) (Some p ∷ slots) enough full pages =
    let here : length p ≡ 256 = All-head IsPage (Some p) slots pages in
    let more = memory_long n slots (omega (arith, enough))
    (All-tail (λ (slot : Option (List ℕ)). IsTrue (is_some slot)) (Some p) slots full) (All-tail IsPage (Some p) slots pages) in
    let both = length-append p (bytes_in (take n slots)) in
    omega arith

abbrev pub AreLong : List (List ℕ) → Type 0
AreLong parts = All (λ p. length p ≡ 256) parts

pages_read : (parts : List (List ℕ)) → AreLong parts → read_joined page parts ≡ Some (bytes_in (map Some parts))
pages_read [] h = refl
pages_read (p ∷ ps) h =
    ap (λ (o : Option (List ℕ)). o >>= λ xs. read_joined page ps >>= λ rest. Some (xs ++ rest))
    (page_read p (All-head (λ (q : List ℕ). length q ≡ 256) p ps h))
    ∙ ap (λ (o : Option (List ℕ)). o >>= λ rest. Some (p ++ rest))
    (pages_read ps (All-tail (λ (q : List ℕ). length q ≡ 256) p ps h))

pub pages_long : (parts : List (List ℕ)) → AreLong parts → length (bytes_in (map Some parts)) ≡ 256 * length parts
pages_long [] h = refl
pages_long (p ∷ ps) h =
    let here : length p ≡ 256 = All-head (λ (q : List ℕ). length q ≡ 256) p ps h in
    let more = pages_long ps (All-tail (λ (q : List ℕ). length q ≡ 256) p ps h) in
    let both = length-append p (bytes_in (map Some ps)) in
    omega arith

-- the payloads after the first are pages
pub are_long : (parts : List (List ℕ)) → All IsPage (map Some parts) → AreLong parts
are_long [] h = λ k x inside. absurd (omega (arith, inside))
are_long (p ∷ ps) h =
    All-cons (λ (q : List ℕ). length q ≡ 256) p ps (All-head IsPage (Some p) (map Some ps) h)
    (are_long ps (All-tail IsPage (Some p) (map Some ps) h))

-- ---- tables

all_joined : (f : ℕ → Bool) (xs ys : List ℕ) → list_all f (xs ++ ys) ≡ (list_all f xs && list_all f ys)
all_joined f [] ys = refl
all_joined f (x ∷ xs) ys = go (f x) (all_joined f xs ys)
  where
    go : (b : Bool) → list_all f (xs ++ ys) ≡ (list_all f xs && list_all f ys)
        → (b && list_all f (xs ++ ys)) ≡ ((b && list_all f xs) && list_all f ys)
    go true e = e
    go false e = refl

table_long : (payload xs : List ℕ) → read_all table payload ≡ Some xs → length xs ≡ 32
unfolding table times
table_long payload xs e =
    let r = first_read (read_each number 32 payload) (λ r. cond (eqb (length r.1) 0) (Some r.0) None) xs e in
    let a = admitted (eqb (length r.0.1) 0) r.0.0 xs r.2 in
    ap (λ (ys : List ℕ). length ys) (sym a.1) ∙ read_count number 32 payload r.0 r.1

record TablesRead (disk : Drives) (parts : List (List ℕ)) : Type 0 where
  read : read_joined table parts ≡ Some (numbers_in (map Some parts))
  pass : list_all (may_be_completed disk) (numbers_in (map Some parts)) ≡ true
  long : length (numbers_in (map Some parts)) ≡ 32 * length parts

-- what a table that fits says
record TableRead (disk : Drives) (payload : List ℕ) : Type 0 where
  xs : List ℕ
  is : read_all table payload ≡ Some xs
  pass : list_all (may_be_completed disk) xs ≡ true

table_read : (disk : Drives) (payload : List ℕ) → fit_slots disk (Some payload) ≡ true → TableRead disk payload
table_read disk payload h = go (read_all table payload) refl h
  where
    go : (o : Option (List ℕ)) → read_all table payload ≡ o
        → option_map_or (list_all (may_be_completed disk)) o false ≡ true → TableRead disk payload
    go None e h = absurd cc
    go (Some xs) e h = record { xs = xs; is = e; pass = h }

tables_read : (disk : Drives) (parts : List (List ℕ)) → list_all (fit_slots disk) (map Some parts) ≡ true
    → TablesRead disk parts
tables_read disk [] h = record { read = refl; pass = refl; long = refl }
tables_read disk (p ∷ ps) h =
    let two = and_parts (fit_slots disk (Some p)) (list_all (fit_slots disk) (map Some ps)) h in
    let t = table_read disk p two.0 in
    let more = tables_read disk ps two.1 in
    let long = table_long p t.xs t.is in
    let rest = more.long in
    let both = length-append t.xs (numbers_in (map Some ps)) in
    let same : numbers_in (map Some (p ∷ ps)) ≡ t.xs ++ numbers_in (map Some ps) =
    ap (λ (o : Option (List ℕ)). unwrap_or o [] ++ numbers_in (map Some ps)) t.is in
    record {
      read = ap (λ (o : Option (List ℕ)). o >>= λ xs. read_joined table ps >>= λ rest. Some (xs ++ rest)) t.is
          ∙ ap (λ (o : Option (List ℕ)). o >>= λ rest. Some (t.xs ++ rest)) more.read
          ∙ ap (λ (xs : List ℕ). Some xs) (sym same);
      pass = ap (λ (xs : List ℕ). list_all (may_be_completed disk) xs) same
          ∙ all_joined (may_be_completed disk) t.xs (numbers_in (map Some ps))
          ∙ and_from (list_all (may_be_completed disk) t.xs)
          (list_all (may_be_completed disk) (numbers_in (map Some ps))) t.pass more.pass;
      long = ap (λ (xs : List ℕ). length xs) same ∙ omega arith;
    }

tables_refused : (disk : Drives) (parts : List (List ℕ)) (xs : List ℕ)
    → list_all (fit_slots disk) (map Some parts) ≡ false → read_joined table parts ≡ Some xs
    → list_all (may_be_completed disk) xs ≡ false
tables_refused disk [] xs h e = absurd cc
tables_refused disk (p ∷ ps) xs h e =
    let a = first_read (read_all table p) (λ ys. read_joined table ps >>= λ rest. Some (ys ++ rest)) xs e in
    let b = first_read (read_joined table ps) (λ rest. Some (a.0 ++ rest)) xs a.2 in
    let same : a.0 ++ b.0 ≡ xs = same_Some (a.0 ++ b.0) xs b.2 in
    let fits : fit_slots disk (Some p) ≡ list_all (may_be_completed disk) a.0 =
    ap (λ (o : Option (List ℕ)). option_map_or (list_all (may_be_completed disk)) o false) a.1 in
    ap (λ (ys : List ℕ). list_all (may_be_completed disk) ys) (sym same)
    ∙ all_joined (may_be_completed disk) a.0 b.0
    ∙ go (list_all (may_be_completed disk) a.0) b.0
    (ap (λ c. c && list_all (fit_slots disk) (map Some ps)) (sym fits) ∙ h) (λ k. tables_refused disk ps b.0 k b.1)
  where
    go : (c : Bool) (rest : List ℕ) → (c && list_all (fit_slots disk) (map Some ps)) ≡ false
        → (list_all (fit_slots disk) (map Some ps) ≡ false → list_all (may_be_completed disk) rest ≡ false)
        → (c && list_all (may_be_completed disk) rest) ≡ false
    go true rest h more = more h
    go false rest h more = refl

-- ---- all of them

-- the payload of the first part, and those of the others
record IsFront (first : List ℕ) (later : Slots) (parts : List (List ℕ)) : Type 0 where
  rest : List (List ℕ)
  all : parts ≡ first ∷ rest
  others : later ≡ map Some rest

front_is : (first : List ℕ) (later : Slots) (parts : List (List ℕ)) → gathered (slots_of first later) ≡ Some parts
    → IsFront first later parts
front_is [] later parts e = absurd (none-some parts e)
front_is (x ∷ xs) later parts e =
    let same : gathered (Some (x ∷ xs) ∷ later) ≡ Some parts =
    sym (ap (λ b. gathered (cond b None (Some (x ∷ xs)) ∷ later)) (eqb-suc-zero (length xs))) ∙ e in
    let r = first_read (gathered later) (λ rest. Some ((x ∷ xs) ∷ rest)) parts same in
    record { rest = r.0; all = sym (same_Some ((x ∷ xs) ∷ r.0) parts r.2); others = slots_full later r.0 r.1 }

-- the first part is not one of a machine of this many drives
pub no_first : (drives : ℕ) (first : List ℕ) (later : Slots) (parts : List (List ℕ))
    → gathered (slots_of first later) ≡ Some parts → first_in drives first ≡ None → guest_in drives parts ≡ None
unfolding guest_in checkpoint_in
no_first drives first later parts e none =
    let f = front_is first later parts e in
    ap (guest_in drives) f.all
    ∙ go (length f.rest == 256 + table_count drives) f.rest
  where
    go : (b : Bool) (rest : List (List ℕ))
        → (cond b (read_parts drives first (take 256 rest) (drop 256 rest)) None >>= λ c. Some (guest_of c)) ≡ None
    go true rest =
        ap (λ (o : Option FirstPart). (o >>= λ f. read_joined page (take 256 rest) >>= λ memory.
        read_joined table (drop 256 rest) >>= λ completed.
        fitting (record { first = f; memory = memory; completed = completed })) >>= λ c. Some (guest_of c)) none
    go false rest = refl

-- what the parts say, if the first says this
abbrev pub says_of : FirstPart → List ℕ → List ℕ → Checkpoint
says_of f memory completed = record { first = f; memory = memory; completed = completed }

abbrev pub says : FirstPart → Slots → Checkpoint
says f later = says_of f (bytes_in (take 256 later)) (numbers_in (drop 256 later))

-- the slots after the first hold all parts of an image for this many drives
pub record AreParts (drives : ℕ) (later : Slots) : Type 0 where
  pub count : length later ≡ 256 + table_count drives
  pub pages : All IsPage later

reads_parts : (drives : ℕ) (first : List ℕ) (rest : List (List ℕ)) (f : FirstPart) → length rest ≡ 256 + table_count drives
    → AreLong rest → first_in drives first ≡ Some f
    → checkpoint_in drives (first ∷ rest) ≡ (read_joined table (drop 256 rest) >>= λ completed.
    fitting (says_of f (bytes_in (map Some (take 256 rest))) completed))
unfolding checkpoint_in
reads_parts drives first rest f count long read =
    ap (λ b. cond b (read_parts drives first (take 256 rest) (drop 256 rest)) None)
    (eq-eqb (length rest) (256 + table_count drives) count)
    ∙ ap (λ (o : Option FirstPart). o >>= λ f. read_joined page (take 256 rest) >>= λ memory.
    read_joined table (drop 256 rest) >>= λ completed. fitting (says_of f memory completed)) read
    ∙ ap (λ (o : Option (List ℕ)). o >>= λ memory. read_joined table (drop 256 rest) >>= λ completed.
    fitting (says_of f memory completed))
    (pages_read (take 256 rest) (All-take (λ (q : List ℕ). length q ≡ 256) 256 rest long))

-- ---- what a machine of these parts is

-- how many numbers the tables have
numbers_long : (drives : ℕ) (disk : Drives) (rest : List (List ℕ)) → length rest ≡ 256 + table_count drives
    → disk.attached ≡ drives → length (numbers_in (map Some (drop 256 rest))) ≡ 32 * length (drop 256 rest)
    → (length (numbers_in (map Some (drop 256 rest))) == disk.attached * 2464) ≡ true
numbers_long drives disk rest count same long =
    let left = length-drop 256 rest in
    eq-eqb _ _ (omega (arith, left))

-- the parts fit together, and this is what they say
pub parts_make : (drives : ℕ) (first : List ℕ) (later : Slots) (parts : List (List ℕ)) (f : FirstPart)
    → gathered (slots_of first later) ≡ Some parts → AreParts drives later → first_in drives first ≡ Some f
    → f.devices.disk.attached ≡ drives → list_all (fit_slots f.devices.disk) (drop 256 later) ≡ true
    → (checkpoint_in drives parts ≡ Some (says f later)) × (fits_together (says f later) ≡ true)
parts_make drives first later parts f e are read same fits =
    let front = front_is first later parts e in
    let rest = front.rest in
    let long : AreLong rest = are_long rest (subst (λ ss. All IsPage ss) front.others are.pages) in
    let count : length rest ≡ 256 + table_count drives =
    sym (length-map rest Some) ∙ ap (λ (ss : Slots). length ss) (sym front.others) ∙ are.count in
    let pages : bytes_in (take 256 later) ≡ bytes_in (map Some (take 256 rest)) =
    ap (λ (ss : Slots). bytes_in (take 256 ss)) front.others ∙ ap bytes_in (take_slots 256 rest) in
    let tables : drop 256 later ≡ map Some (drop 256 rest) =
    ap (λ (ss : Slots). drop 256 ss) front.others ∙ drop_slots 256 rest in
    let t = tables_read f.devices.disk (drop 256 rest)
    (ap (list_all (fit_slots f.devices.disk)) (sym tables) ∙ fits) in
    let memory = bytes_in (map Some (take 256 rest)) in
    let completed = numbers_in (map Some (drop 256 rest)) in
    let together : fits_together (says_of f memory completed) ≡ true =
    and_from _ (list_all (may_be_completed f.devices.disk) completed)
    (numbers_long drives f.devices.disk rest count same t.long) t.pass in
    let numbers : numbers_in (drop 256 later) ≡ completed = ap numbers_in tables in
    let c : says_of f memory completed ≡ says f later =
    ap (λ (xs : List ℕ). says_of f xs completed) (sym pages)
    ∙ ap (λ (xs : List ℕ). says_of f (bytes_in (take 256 later)) xs) (sym numbers) in (
      ap (checkpoint_in drives) front.all
          ∙ reads_parts drives first rest f count long read
          ∙ ap (λ (o : Option (List ℕ)). o >>= λ completed. fitting (says_of f memory completed)) t.read
          ∙ ap (λ b. cond b (Some (says_of f memory completed)) None) together
          ∙ ap Some c,
      ap fits_together (sym c) ∙ together,
    )

-- the tables do not fit the first part, so there is none
pub parts_unfit : (drives : ℕ) (first : List ℕ) (later : Slots) (parts : List (List ℕ)) (f : FirstPart)
    → gathered (slots_of first later) ≡ Some parts → AreParts drives later → first_in drives first ≡ Some f
    → list_all (fit_slots f.devices.disk) (drop 256 later) ≡ false → guest_in drives parts ≡ None
unfolding guest_in
parts_unfit drives first later parts f e are read fits =
    let front = front_is first later parts e in
    let rest = front.rest in
    let long : AreLong rest = are_long rest (subst (λ ss. All IsPage ss) front.others are.pages) in
    let count : length rest ≡ 256 + table_count drives =
    sym (length-map rest Some) ∙ ap (λ (ss : Slots). length ss) (sym front.others) ∙ are.count in
    let tables : drop 256 later ≡ map Some (drop 256 rest) =
    ap (λ (ss : Slots). drop 256 ss) front.others ∙ drop_slots 256 rest in
    let none : checkpoint_in drives parts ≡ None =
    ap (checkpoint_in drives) front.all
    ∙ reads_parts drives first rest f count long read
    ∙ go (read_joined table (drop 256 rest)) rest refl (ap (list_all (fit_slots f.devices.disk)) (sym tables) ∙ fits) in
    ap (λ (o : Option Checkpoint). o >>= λ c. Some (guest_of c)) none
  where
    never : (b : Bool) (c : Checkpoint) → cond (b && false) (Some c) None ≡ None
    never true c = refl
    never false c = refl

    go : (o : Option (List ℕ)) (rest : List (List ℕ)) → read_joined table (drop 256 rest) ≡ o
        → list_all (fit_slots f.devices.disk) (map Some (drop 256 rest)) ≡ false
        → (o >>= λ completed. fitting (says_of f (bytes_in (map Some (take 256 rest))) completed)) ≡ None
    go None rest e fits = refl
    go (Some xs) rest e fits =
        let no : list_all (may_be_completed f.devices.disk) xs ≡ false =
        tables_refused f.devices.disk (drop 256 rest) xs fits e in
        ap (λ b. cond ((length xs == f.devices.disk.attached * 2464) && b)
        (Some (says_of f (bytes_in (map Some (take 256 rest))) xs)) None) no
        ∙ never (length xs == f.devices.disk.attached * 2464) (says_of f (bytes_in (map Some (take 256 rest))) xs)
