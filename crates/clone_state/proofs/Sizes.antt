-- How many bytes the parts of an image have.
use Rattle.std.proofs.Common.{◌≡◌, ℕ, zero, suc, ◌+◌, ◌*◌, List, [], ◌∷◌, length, take, drop, map, refl, sym, ap, ◌∙◌, length-append, length-take-le, arith}
use Rattle.std.specs.Prelude.{All}
use Rattle.std.specs.List.{zip}
use Rattle.std.proofs.lemmas.List.Elements.{All-append, All-cons, All-head, All-tail}
use Rattle.clone_state.proofs.Words.{Checkpoint, Codec, CurrentSector, Drive, FirstPart, HasSize, PortImage, SectorWrite, are_few, both, by, bytes, controller, counted, current, devices, drives, fields, first, flags, image_of_first, interrupts, later_parts, maybe, no_bytes, number, one, only, page, pieces, port, processor, receiver, registers, shown_current, spell_each, table, table_count, times, truth, two_numbers, versioned, word, write, writes}
use Rattle.i8080_words.specs.declared.registers.Processor.{Processor}
use Rattle.std.specs.Prelude.{Bool, Option, Some, None}
use Rattle.clone_state.proofs.Devices.{IsCurrent, IsWrite, no_bytes_length}
use Rattle.clone_state.proofs.First.{IsFirst, IsPortImage}
use Rattle.clone_state.proofs.Lists.{map_length, zip_length}
use Rattle.clone_state.proofs.PartLaws.{IsImage, drop_length}

-- a value has a spelling of this many bytes
record Sized {A : Type 0} (c : Codec A) (x : A) (n : ℕ) : Type 0 where
  size : length (c.spell x) ≡ n

both_sized : {A B : Type 0} (c : Codec A) (d : Codec B) (x : A) (y : B) (n m : ℕ) → Sized c x n → Sized d y m
    → Sized (both c d) (x, y) (n + m)
unfolding both
both_sized c d x y n m h k = record {
  size = length-append (c.spell x) (d.spell y) ∙ ap (λ a. a + length (d.spell y)) h.size ∙ ap (λ b. n + b) k.size;
}

by_sized : {A B : Type 0} (c : Codec A) (to : B → A) (from : A → B) (y : B) (n : ℕ) → Sized c (to y) n
    → Sized (by c to from) y n
unfolding by
by_sized c to from y n h = record { size = h.size }

only_sized : {A : Type 0} (c : Codec A) (test : A → Bool) (x : A) (n : ℕ) → Sized c x n → Sized (only c test) x n
unfolding only
only_sized c test x n h = record { size = h.size }

one_sized : (x : ℕ) → Sized one x 1
unfolding one
one_sized x = record { size = refl }

number_sized : (x : ℕ) → Sized number x 8
unfolding number
number_sized x = record { size = refl }

bytes_sized : (n : ℕ) (xs : List ℕ) → length xs ≡ n → Sized (bytes n) xs n
unfolding bytes
bytes_sized n xs e = record { size = e }

each_sized : {A : Type 0} (c : Codec A) (n : ℕ) (xs : List A) → All (λ x. Sized c x n) xs
    → length (spell_each c xs) ≡ n * length xs
each_sized c n [] h = omega arith
each_sized c n (x ∷ xs) h =
    length-append (c.spell x) (spell_each c xs)
    ∙ ap (λ a. a + length (spell_each c xs)) (All-head (λ x. Sized c x n) x xs h).size
    ∙ ap (λ b. n + b) (each_sized c n xs (All-tail (λ x. Sized c x n) x xs h)) ∙ more n (length xs)
  where
    more : (n k : ℕ) → n + n * k ≡ n * suc k
    more n k = grind arith

times_sized : {A : Type 0} (k : ℕ) (c : Codec A) (n : ℕ) (xs : List A) → length xs ≡ k → All (λ x. Sized c x n) xs
    → Sized (times k c) xs (n * k)
unfolding times
times_sized k c n xs e h = record { size = each_sized c n xs h ∙ ap (λ j. n * j) e }

counted_sized : {A : Type 0} (c : Codec A) (n : ℕ) (xs : List A) → All (λ x. Sized c x n) xs
    → Sized (counted c) xs (1 + n * length xs)
unfolding counted
counted_sized c n xs h = record { size = ap (λ j. suc j) (each_sized c n xs h) ∙ omega arith }

-- ---- the groups

truth_sized : (b : Bool) → Sized truth b 1
unfolding truth
truth_sized b = by_sized _ _ _ b 1 (only_sized one _ _ 1 (one_sized _))

word_sized : (n : ℕ) → Sized word n 2
unfolding word
word_sized n = by_sized _ _ _ n 2 (both_sized one one _ _ 1 1 (one_sized _) (one_sized _))

maybe_sized : (o : Option ℕ) → Sized maybe o 1
unfolding maybe
maybe_sized o = by_sized _ _ _ o 1 (one_sized _)

processor_sized : (p : Processor) → Sized processor p 14
unfolding processor registers flags interrupts
processor_sized p =
    by_sized _ _ _ p 14
    (both_sized _ _ _ _ 8 6
    (both_sized one _ _ _ 1 7 (one_sized _) (both_sized _ _ _ _ 1 6 (by_sized _ _ _ _ 1 (only_sized one _ _ 1 (one_sized _)))
    (both_sized one _ _ _ 1 5 (one_sized _) (both_sized one _ _ _ 1 4 (one_sized _)
    (both_sized one _ _ _ 1 3 (one_sized _) (both_sized one _ _ _ 1 2 (one_sized _)
    (both_sized one one _ _ 1 1 (one_sized _) (one_sized _))))))))
    (both_sized word _ _ _ 2 4 (word_sized _) (both_sized word _ _ _ 2 2 (word_sized _)
    (both_sized _ truth _ _ 1 1 (by_sized _ _ _ _ 1 (only_sized one _ _ 1 (one_sized _))) (truth_sized _)))))

port_sized : (p : PortImage) → IsPortImage p → Sized port p 20
unfolding port receiver
port_sized p is =
    only_sized _ _ p 20 (by_sized _ _ _ p 20
    (both_sized one _ _ _ 1 19 (one_sized _) (both_sized one _ _ _ 1 18 (one_sized _)
    (both_sized _ _ _ _ 1 17 (by_sized _ _ _ _ 1 (only_sized one _ _ 1 (one_sized _)))
    (both_sized one (bytes 16) _ _ 1 16 (one_sized _) (bytes_sized 16 p.1 is.0))))))

current_sized : (o : Option CurrentSector) → IsCurrent o → Sized current o 142
unfolding current
current_sized o h = by_sized _ _ _ o 142 (only_sized _ _ (shown_current o) 142 (shown o h))
  where
    shown : (o : Option CurrentSector) → IsCurrent o
        → Sized (both truth (both one (both truth (both one (both maybe (bytes 137)))))) (shown_current o) 142
    shown None h =
        both_sized truth _ _ _ 1 141 (truth_sized _) (both_sized one _ _ _ 1 140 (one_sized _)
        (both_sized truth _ _ _ 1 139 (truth_sized _) (both_sized one _ _ _ 1 138 (one_sized _)
        (both_sized maybe (bytes 137) _ _ 1 137 (maybe_sized _) (bytes_sized 137 no_bytes no_bytes_length)))))
    shown (Some s) h =
        both_sized truth _ _ _ 1 141 (truth_sized _) (both_sized one _ _ _ 1 140 (one_sized _)
        (both_sized truth _ _ _ 1 139 (truth_sized _) (both_sized one _ _ _ 1 138 (one_sized _)
        (both_sized maybe (bytes 137) _ _ 1 137 (maybe_sized _) (bytes_sized 137 s.bytes h.0)))))

drives_sized : (ds : List Drive) → length ds ≡ 4 → Sized drives ds 8
unfolding drives
drives_sized ds four =
    by_sized _ _ _ ds 8
    (both_sized (times 4 one) (times 4 truth) _ _ 4 4
    (times_sized 4 one 1 (map (λ (d : Drive). d.track) ds) (map_length (λ (d : Drive). d.track) ds ∙ four)
    (λ k x inside. one_sized _))
    (times_sized 4 truth 1 (map (λ (d : Drive). d.loaded) ds) (map_length (λ (d : Drive). d.loaded) ds ∙ four)
    (λ k x inside. truth_sized _)))

write_sized : (w : SectorWrite) → IsWrite w → Sized write w 148
unfolding write
write_sized w h =
    by_sized _ _ _ w 148
    (both_sized number _ _ _ 8 140 (number_sized _) (both_sized one _ _ _ 1 139 (one_sized _)
    (both_sized one _ _ _ 1 138 (one_sized _) (both_sized one (bytes 137) _ _ 1 137 (one_sized _)
    (bytes_sized 137 w.bytes h.bytes)))))

-- ---- the parts

fields_sized : (f : FirstPart) → IsFirst f
    → Sized (fields port) (image_of_first f) (1 + (3 + (1 + (8 + (14 + (16 + (16 + (40 + (8 + (1 + (1 + (8 + (142
    + (1 + 148 * length f.writes))))))))))))))
unfolding fields devices two_numbers controller writes
fields_sized f h =
    both_sized one _ _ _ 1 _ (one_sized _) (both_sized (bytes 3) _ _ _ 3 _ (bytes_sized 3 f.levels h.levels)
    (both_sized one _ _ _ 1 _ (one_sized _) (both_sized number _ _ _ 8 _ (number_sized _)
    (both_sized processor _ _ _ 14 _ (processor_sized f.processor)
    (both_sized (times 2 number) _ _ _ 16 _ (times_sized 2 number 8 f.keys h.two_keys (λ k x inside. number_sized _))
    (both_sized (times 2 number) _ _ _ 16 _ (times_sized 2 number 8 f.issued h.two_issued (λ k x inside. number_sized _))
    (both_sized (times 2 port) _ _ _ 40 _ (times_sized 2 port 20 (zip f.devices.ports f.unaccepted)
    (zip_length f.devices.ports f.unaccepted (h.two_ports ∙ sym h.two_windows) ∙ h.two_ports)
    (λ k x inside. port_sized _ (h.ports k x inside)))
    (both_sized number _ _ _ 8 _ (number_sized _) (both_sized maybe _ _ _ 1 _ (maybe_sized _)
    (both_sized truth _ _ _ 1 _ (truth_sized _) (both_sized drives _ _ _ 8 _ (drives_sized _ h.drives)
    (both_sized current writes _ _ 142 _ (current_sized _ h.current)
    (only_sized (counted write) are_few f.writes _ (counted_sized write 148 f.writes (λ k x inside. write_sized _ (h.writes k x inside))))))))))))))))

first_sized : (f : FirstPart) → IsFirst f → length (first.spell f) ≡ 261 + 148 * length f.writes
unfolding first versioned by only
first_sized f h = let s = (fields_sized f h).size in ap suc s ∙ omega arith

pieces_sized : (c : Codec (List ℕ)) (n : ℕ) → ((ys : List ℕ) → length ys ≡ n → Sized c ys 256) → (k : ℕ) (xs : List ℕ)
    → length xs ≡ k * n → All (λ part. length part ≡ 256) (map c.spell (pieces k n xs))
pieces_sized c n each zero xs e = λ k x inside. absurd (omega (arith, inside))
pieces_sized c n each (suc k) xs e =
    let f : length xs ≡ n + k * n = e ∙ omega arith in
    let front : length (take n xs) ≡ n = length-take-le n xs (omega (arith, f)) in
    All-cons (λ part. length part ≡ 256) (c.spell (take n xs)) (map c.spell (pieces k n (drop n xs)))
    (each (take n xs) front).size (pieces_sized c n each k (drop n xs) (drop_length n xs (k * n) f))

page_sized : (ys : List ℕ) → length ys ≡ 256 → Sized page ys 256
unfolding page
page_sized ys e = bytes_sized 256 ys e

table_sized : (ys : List ℕ) → length ys ≡ 32 → Sized table ys 256
unfolding table
table_sized ys e = times_sized 32 number 8 ys e (λ k x inside. number_sized _)

pub image_sized : (c : Checkpoint) → IsImage c → HasSize c
unfolding later_parts
image_sized c h = record {
  first = first_sized c.first h.first;
  later = All-append (λ part. length part ≡ 256) (map page.spell (pieces 256 256 c.memory)) _
      (pieces_sized page 256 page_sized 256 c.memory h.memory)
      (pieces_sized table 32 table_sized (table_count c.first.devices.disk.attached) c.completed h.tables);
}
