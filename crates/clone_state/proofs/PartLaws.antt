-- The parts of an image: what is written is read again, and what is read is written just so.
use Rattle.std.proofs.Common.{◌≡◌, ℕ, zero, suc, ◌+◌, ◌*◌, ◌<◌, ◌^◌, Bool, true, false, cond, eqb, List, [], ◌∷◌, ◌++◌, length, take, drop, map, Option, Some, None, inl, inr, refl, sym, ap, subst, ◌∙◌, length-append, length-take-le, take-append-drop, arith}
use Rattle.std.specs.Prelude.{All}
use Rattle.std.proofs.lemmas.Bool.{eqb-true}
use Rattle.std.proofs.lemmas.List.Elements.{All-cons, All-drop, All-head, All-tail, All-take}
use Rattle.std.proofs.lemmas.Option.{same_Some, none-some}
use Rattle.std.proofs.lemmas.List.{nil_from_length}
use Rattle.clone_state.proofs.Words.{Again, AreRead, Checkpoint, Codec, FirstPart, IsBytes, admitted, checkpoint_in, first, first_in, first_read, fits_together, fitting, later_parts, number, page, part_count, parts_of, pieces, read_all, read_joined, read_parts, spelling_01, table, table_count}
use Rattle.log_entry.specs.Numbers.{◌>>=◌}
use Rattle.clone_state.proofs.Codecs.{bytes_again, numbers_again, times_again, all_again, take_front, drop_front}
use Rattle.clone_state.proofs.Spellings.{Spells, bytes_spells, number_spells, times_spells, all_spells, all_holds}
use Rattle.clone_state.proofs.Lists.{map_length}
use Rattle.clone_state.proofs.Values.{Anything}
use Rattle.clone_state.proofs.First.{AreNumbers, IsFirst, FirstRead, first_in_spelled}

-- ---- lists in pieces

pub pieces_length : (k n : ℕ) (xs : List ℕ) → length (pieces k n xs) ≡ k
pieces_length zero n xs = refl
pieces_length (suc k) n xs = ap suc (pieces_length k n (drop n xs))

pub drop_length : {A : Type 0} (n : ℕ) (xs : List A) (m : ℕ) → length xs ≡ n + m → length (drop n xs) ≡ m
drop_length zero xs m e = omega (arith, e)
drop_length (suc n) [] m e = absurd (omega (arith, e))
drop_length (suc n) (x ∷ xs) m e = drop_length n xs m (omega (arith, e))

-- a list in pieces is read again, if each piece is
joined_again : (c : Codec (List ℕ)) (n : ℕ) (P : ℕ → Type 0)
    → ((ys : List ℕ) → length ys ≡ n → All P ys → Again c ys)
    → (k : ℕ) (xs : List ℕ) → length xs ≡ k * n → All P xs → read_joined c (map c.spell (pieces k n xs)) ≡ Some xs
joined_again c n P each zero xs e h = ap (λ ys. Some ys) (sym (nil_from_length xs (omega (arith, e))))
joined_again c n P each (suc k) xs e h =
    let f : length xs ≡ n + k * n = e ∙ omega arith in
    let front : length (take n xs) ≡ n = length-take-le n xs (omega (arith, f)) in
    ap (λ (o : Option (List ℕ)). o >>= λ ys. read_joined c (map c.spell (pieces k n (drop n xs)))
    >>= λ rest. Some (ys ++ rest)) (all_again c (take n xs) (each (take n xs) front (All-take P n xs h)))
    ∙ ap (λ (o : Option (List ℕ)). o >>= λ rest. Some (take n xs ++ rest))
    (joined_again c n P each k (drop n xs) (drop_length n xs (k * n) f) (All-drop P n xs h))
    ∙ ap (λ ys. Some ys) (take-append-drop n xs)

-- parts of which each is read as a piece are the pieces of the list
joined_spelled : (c : Codec (List ℕ)) (n : ℕ) → Spells c (λ ys. length ys ≡ n) → (parts : List (List ℕ))
    (xs : List ℕ) → All IsBytes parts → read_joined c parts ≡ Some xs
    → map c.spell (pieces (length parts) n xs) ≡ parts
joined_spelled c n h [] xs all e = refl
joined_spelled c n h (part ∷ parts) xs all e =
    let ys = first_read (read_all c part) (λ ys. read_joined c parts >>= λ rest. Some (ys ++ rest)) xs e in
    let zs = first_read (read_joined c parts) (λ rest. Some (ys.0 ++ rest)) xs ys.2 in
    let same : ys.0 ++ zs.0 ≡ xs = same_Some (ys.0 ++ zs.0) xs zs.2 in
    let here = All-head IsBytes part parts all in
    let long : length ys.0 ≡ n = all_holds c h part ys.0 here ys.1 in
    let front : take n xs ≡ ys.0 =
    ap (take n) (sym same) ∙ subst (λ m. take m (ys.0 ++ zs.0) ≡ ys.0) long (take_front ys.0 zs.0) in
    let back : drop n xs ≡ zs.0 =
    ap (drop n) (sym same) ∙ subst (λ m. drop m (ys.0 ++ zs.0) ≡ zs.0) long (drop_front ys.0 zs.0) in
    ap (λ a. c.spell a ∷ map c.spell (pieces (length parts) n (drop n xs))) front
    ∙ ap (λ b. c.spell ys.0 ∷ map c.spell (pieces (length parts) n b)) back
    ∙ ap (λ b. b ∷ map c.spell (pieces (length parts) n zs.0)) (sym (all_spells c h part ys.0 here ys.1))
    ∙ ap (λ bs. part ∷ bs) (joined_spelled c n h parts zs.0 (All-tail IsBytes part parts all) zs.1)

page_spells : Spells page (λ xs. length xs ≡ 256)
unfolding page
page_spells = bytes_spells 256

table_spells : Spells table (λ xs. length xs ≡ 32)
unfolding table
table_spells = times_spells 32 number number_spells

pub page_again : (xs : List ℕ) → length xs ≡ 256 → Again page xs
unfolding page
page_again xs e = bytes_again 256 xs e

table_again : (xs : List ℕ) → length xs ≡ 32 → AreNumbers xs → Again table xs
unfolding table
table_again xs e h = times_again 32 number xs e (λ k x inside. numbers_again _ (h k x inside))

-- pages and tables that are written are read again
pub pages_again : (memory : List ℕ) → length memory ≡ 65536
    → read_joined page (map page.spell (pieces 256 256 memory)) ≡ Some memory
pages_again memory e = joined_again page 256 Anything (λ ys long all. page_again ys long) 256 memory e (λ k x inside. tt)

pub tables_again : (count : ℕ) (completed : List ℕ) → length completed ≡ count * 32 → AreNumbers completed
    → read_joined table (map table.spell (pieces count 32 completed)) ≡ Some completed
tables_again count completed e h = joined_again table 32 (λ n. n < 2 ^ 62) table_again count completed e h

-- ---- all parts

-- what the image of a machine can say
pub record IsImage (c : Checkpoint) : Type 0 where
  pub first : IsFirst c.first
  pub memory : length c.memory ≡ 65536
  pub tables : length c.completed ≡ table_count c.first.devices.disk.attached * 32
  pub completed : AreNumbers c.completed
  pub fits : fits_together c ≡ true

abbrev pages_of : Checkpoint → List (List ℕ)
pages_of c = map page.spell (pieces 256 256 c.memory)

abbrev tables_of : Checkpoint → List (List ℕ)
tables_of c = map table.spell (pieces (table_count c.first.devices.disk.attached) 32 c.completed)

pages_length : (c : Checkpoint) → length (pages_of c) ≡ 256
pages_length c = map_length page.spell (pieces 256 256 c.memory) ∙ pieces_length 256 256 c.memory

later_length : (c : Checkpoint) → length (later_parts c) ≡ 256 + table_count c.first.devices.disk.attached
unfolding later_parts
later_length c =
    let n = length-append (pages_of c) (tables_of c) in
    let m = pages_length c in
    let t : length (tables_of c) ≡ table_count c.first.devices.disk.attached =
    map_length table.spell (pieces (table_count c.first.devices.disk.attached) 32 c.completed)
    ∙ pieces_length (table_count c.first.devices.disk.attached) 32 c.completed in
    n ∙ ap (λ k. k + length (tables_of c)) m ∙ ap (λ k. 256 + k) t

pub parts_counted : (c : Checkpoint) (drives : ℕ) → c.first.devices.disk.attached ≡ drives
    → length (parts_of c) ≡ part_count drives
unfolding parts_of
parts_counted c drives e =
    let n = later_length c in
    let d : table_count c.first.devices.disk.attached ≡ table_count drives = ap table_count e in
    omega (arith, n, d)

read_again : (c : Checkpoint) (front : List ℕ) → IsImage c
    → first_in c.first.devices.disk.attached front ≡ Some c.first
    → read_parts c.first.devices.disk.attached front (pages_of c) (tables_of c) ≡ Some c
read_again c front h e =
    ap (λ (o : Option FirstPart). o >>= λ f. read_joined page (pages_of c) >>= λ memory.
    read_joined table (tables_of c) >>= λ completed. fitting (record { first = f; memory = memory; completed = completed }))
    e
    ∙ ap (λ (o : Option (List ℕ)). o >>= λ memory. read_joined table (tables_of c) >>= λ completed.
    fitting (record { first = c.first; memory = memory; completed = completed }))
    (pages_again c.memory h.memory)
    ∙ ap (λ (o : Option (List ℕ)). o >>= λ completed.
    fitting (record { first = c.first; memory = c.memory; completed = completed }))
    (tables_again (table_count c.first.devices.disk.attached) c.completed h.tables h.completed)
    ∙ ap (λ b. cond b (Some c) None) h.fits

-- a first part that says the same, in either version, and the other parts
pub parts_again : (c : Checkpoint) (front : List ℕ) → IsImage c
    → first_in c.first.devices.disk.attached front ≡ Some c.first
    → checkpoint_in c.first.devices.disk.attached (front ∷ later_parts c) ≡ Some c
unfolding checkpoint_in later_parts
parts_again c front h e =
    ap (λ b. cond b (read_parts attached front (take 256 later) (drop 256 later)) None)
    (same (length later) (256 + table_count attached) (later_length c))
    ∙ ap (λ ps. read_parts attached front ps (drop 256 later))
    (subst (λ n. take n later ≡ pages_of c) (pages_length c) (take_front (pages_of c) (tables_of c)))
    ∙ ap (λ ts. read_parts attached front (pages_of c) ts)
    (subst (λ n. drop n later ≡ tables_of c) (pages_length c) (drop_front (pages_of c) (tables_of c)))
    ∙ read_again c front h e
  where
    attached : ℕ
    attached = c.first.devices.disk.attached

    later : List (List ℕ)
    later = pages_of c ++ tables_of c

    same : (a b : ℕ) → a ≡ b → eqb a b ≡ true
    same a b e = grind (arith, e)

read_spelled : (drives : ℕ) (front : List ℕ) (pages tables : List (List ℕ)) (c : Checkpoint) → IsBytes front
    → All IsBytes pages → All IsBytes tables → length pages ≡ 256 → length tables ≡ table_count drives
    → read_parts drives front pages tables ≡ Some c
    → FirstRead drives front c.first × (pages ++ tables ≡ later_parts c) × (fits_together c ≡ true)
unfolding later_parts
read_spelled drives front pages tables c all allp allt n m e =
    let f = first_read (first_in drives front) (λ f. read_joined page pages >>= λ memory.
    read_joined table tables >>= λ completed. fitting (record { first = f; memory = memory; completed = completed })) c e in
    let p = first_read (read_joined page pages) (λ memory. read_joined table tables >>= λ completed.
    fitting (record { first = f.0; memory = memory; completed = completed })) c f.2 in
    let t = first_read (read_joined table tables) (λ completed.
    fitting (record { first = f.0; memory = p.0; completed = completed })) c p.2 in
    let a = admitted (fits_together (record { first = f.0; memory = p.0; completed = t.0 }))
    (record { first = f.0; memory = p.0; completed = t.0 }) c t.2 in
    let same = a.1 in
    let here = first_in_spelled drives front f.0 all f.1 in
    let ps : map page.spell (pieces 256 256 p.0) ≡ pages =
    subst (λ k. map page.spell (pieces k 256 p.0) ≡ pages) n (joined_spelled page 256 page_spells pages p.0 allp p.1) in
    let ts : map table.spell (pieces (table_count f.0.devices.disk.attached) 32 t.0) ≡ tables =
    subst (λ k. map table.spell (pieces k 32 t.0) ≡ tables) (m ∙ ap table_count (sym here.attached))
    (joined_spelled table 32 table_spells tables t.0 allt t.1) in (
      subst (FirstRead drives front) (ap (λ (x : Checkpoint). x.first) same) here,
      ap (λ xs. xs ++ tables) (sym ps) ∙ ap (λ xs. map page.spell (pieces 256 256 p.0) ++ xs) (sym ts)
          ∙ ap later_parts same,
      ap fits_together (sym same) ∙ a.0,
    )

length_take_drop : {A : Type 0} (n m : ℕ) (xs : List A) → length xs ≡ n + m
    → (length (take n xs) ≡ n) × (length (drop n xs) ≡ m)
length_take_drop n m xs e = (length-take-le n xs (omega (arith, e)), drop_length n xs m e)

every_front : (n : ℕ) (xs : List (List ℕ)) → All IsBytes xs → All IsBytes (take n xs)
every_front zero xs h = λ k x inside. absurd (omega (arith, inside))
every_front (suc n) [] h = h
every_front (suc n) (x ∷ xs) h =
    All-cons IsBytes x (take n xs) (All-head IsBytes x xs h) (every_front n xs (All-tail IsBytes x xs h))

every_behind : (n : ℕ) (xs : List (List ℕ)) → All IsBytes xs → All IsBytes (drop n xs)
every_behind zero xs h = h
every_behind (suc n) [] h = h
every_behind (suc n) (x ∷ xs) h = every_behind n xs (All-tail IsBytes x xs h)

pub parts_spelled : (drives : ℕ) (parts : List (List ℕ)) (c : Checkpoint) → All IsBytes parts
    → checkpoint_in drives parts ≡ Some c → AreRead drives parts c
unfolding checkpoint_in parts_of
parts_spelled drives [] c all e = absurd (none-some c e)
parts_spelled drives (front ∷ rest) c all e =
    let test = passed (eqb (length rest) (256 + table_count drives))
    (read_parts drives front (take 256 rest) (drop 256 rest)) e in
    let long = length_take_drop 256 (table_count drives) rest (eqb-true _ _ test.0) in
    let behind = All-tail IsBytes front rest all in
    let r = read_spelled drives front (take 256 rest) (drop 256 rest) c (All-head IsBytes front rest all)
    (every_front 256 rest behind) (every_behind 256 rest behind) long.0 long.1 test.1 in
    let later : rest ≡ later_parts c = sym (take-append-drop 256 rest) ∙ r.1 in
    record {
      written = elim r.0.spelled [
        | inl e ↦ inl (ap (λ x. x ∷ rest) e ∙ ap (λ xs. first.spell c.first ∷ xs) later)
        | inr e ↦ inr (ap (λ x. x ∷ rest) e ∙ ap (λ xs. spelling_01 c.first ∷ xs) later)
      ];
      state = record {
        attached = r.0.attached;
        possible = r.0.holds.1;
        count = r.0.holds.0.0;
        writes = r.0.holds.0.1;
        fits = r.2;
      };
    }
  where
    passed : (b : Bool) (o : Option Checkpoint) → cond b o None ≡ Some c → (b ≡ true) × (o ≡ Some c)
    passed true o e = (refl, e)
    passed false o e = absurd (none-some c e)
