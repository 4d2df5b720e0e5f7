-- Pages are copied one after another: what was copied of the first pages, and how each page is copied or passed over.
use Rattle.std.proofs.Common.{◌≡◌, ℕ, ◌+◌, ◌-◌, ◌*◌, ◌/◌, ◌<◌, ◌≤◌, Bool, true, false, cond, List, ◌++◌, length, take, drop, Option, Some, None, refl, sym, ap, subst, ◌∙◌, inl, inr, arith}
use Rattle.std.specs.Prelude.{◌==◌, nat_lt, slice_index, slice_index_or, slice_set, slice_range}
use Rattle.std.proofs.lemmas.Bool.{cases_lt, cases_eq, and_from, and_left, and_right, cond-false, cond-true, eqb-true, eqb-false, eq-eqb, ne_eqb, not-false, lt-ltb, le-ltb}
use Rattle.std.proofs.lemmas.List.{take_at, length-replicate, length-set, length-take-le, length-drop, length-append, get_or-set_same, get_or-set_other, get_or_append_left, get_or-append_right, get_or-take, get_or-drop, ext_get_or}
use Rattle.guest_memory.specs.Pages.{page_of}
use Rattle.guest_memory.specs.declared.memory.TheConstants.{BYTES, PAGES}
use Rattle.guest_parts.specs.Board.{OnBoard}
use Rattle.board_image.specs.Drafts.{Drafted, HasRoom, HasCopied, IsFreshened, Agrees, none_copied, copied_at, version_of, is_old, is_stale, is_next, stale_below}
use Rattle.board_image.proofs.StalePages.{none_below, one_more, few_below}
use Rattle.board_image.proofs.LaterPages.{page_low}

-- ---- room for all pages

pub none_long : (n : ℕ) → length (none_copied n) ≡ n
unfolding none_copied
none_long n = length-replicate n None

-- ---- the bytes of a page

page_at : (memory : List ℕ) (a i : ℕ) → i < 256 → slice_index (slice_range memory a (a + 256)) i ≡ slice_index memory (a + i)
page_at memory a i low =
    let n : a + 256 - a ≡ 256 = omega arith in
    ap (λ k. slice_index (take k (drop a memory)) i) n ∙ get_or-take 256 (drop a memory) i 0 low ∙ get_or-drop a memory i 0

page_long : (memory : List ℕ) (a : ℕ) → a + 256 ≤ length memory → length (slice_range memory a (a + 256)) ≡ 256
page_long memory a room =
    let n : a + 256 - a ≡ 256 = omega arith in
    let there : 256 ≤ length (drop a memory) = omega (arith, length-drop a memory, room) in
    ap (λ k. length (take k (drop a memory))) n ∙ length-take-le 256 (drop a memory) there

-- 256 bytes are put in place of those from this one on
put_below : (bytes ys : List ℕ) (a i : ℕ) → a ≤ length bytes → i < a
    → slice_index (take a bytes ++ (ys ++ drop 256 (drop a bytes))) i ≡ slice_index bytes i
put_below bytes ys a i room low =
    let long = length-take-le a bytes room in
    get_or_append_left (take a bytes) (ys ++ drop 256 (drop a bytes)) 0 i (omega (arith, long, low))
    ∙ get_or-take a bytes i 0 low

put_within : (bytes ys : List ℕ) (a i : ℕ) → a ≤ length bytes → length ys ≡ 256 → a ≤ i → i < a + 256
    → slice_index (take a bytes ++ (ys ++ drop 256 (drop a bytes))) i ≡ slice_index ys (i - a)
put_within bytes ys a i room page from to =
    get_or-append_right (take a bytes) (ys ++ drop 256 (drop a bytes)) a i 0 (length-take-le a bytes room) from
    ∙ get_or_append_left ys (drop 256 (drop a bytes)) 0 (i - a) (omega (arith, page, from, to))

put_above : (bytes ys : List ℕ) (a i : ℕ) → a ≤ length bytes → length ys ≡ 256 → a + 256 ≤ i
    → slice_index (take a bytes ++ (ys ++ drop 256 (drop a bytes))) i ≡ slice_index bytes i
put_above bytes ys a i room page from =
    let from_a : a ≤ i = omega (arith, from) in
    let from_page : 256 ≤ i - a = omega (arith, from) in
    let place : a + (256 + (i - a - 256)) ≡ i = omega (arith, from) in
    get_or-append_right (take a bytes) (ys ++ drop 256 (drop a bytes)) a i 0 (length-take-le a bytes room) from_a
    ∙ get_or-append_right ys (drop 256 (drop a bytes)) 256 (i - a) 0 page from_page
    ∙ get_or-drop 256 (drop a bytes) (i - a - 256) 0
    ∙ get_or-drop a bytes (256 + (i - a - 256)) 0
    ∙ ap (slice_index bytes) place

starts : (address page : ℕ) → address / 256 ≡ page → page * 256 ≤ address
starts address page e = omega (arith, e)

ends : (address page : ℕ) → address / 256 ≡ page → address < page * 256 + 256
ends address page e = omega (arith, e)

outside : (address page : ℕ) → (address / 256 ≡ page → ⊥) → page * 256 ≤ address → page * 256 + 256 ≤ address
outside address page differs high = omega (arith, differs, high)

-- after a page of the memory was put in place of the same page of the bytes
pub page_put : (bytes memory : List ℕ) (page address : ℕ) → length bytes ≡ BYTES → length memory ≡ BYTES → page < 256
    → slice_index (take (page * 256) bytes
    ++ (slice_range memory (page * 256) (page * 256 + 256) ++ drop 256 (drop (page * 256) bytes))) address
    ≡ cond (page_of address == page) (slice_index memory address) (slice_index bytes address)
page_put bytes memory page address long whole low = go (page_of address == page) refl
  where
    room : page * 256 ≤ length bytes
    room = omega (arith, long, low)

    page_there : length (slice_range memory (page * 256) (page * 256 + 256)) ≡ 256
    page_there = page_long memory (page * 256) (omega (arith, whole, low))

    within : address / 256 ≡ page
        → slice_index (slice_range memory (page * 256) (page * 256 + 256)) (address - page * 256) ≡ slice_index memory address
    within e =
        let from = starts address page e in
        let to = ends address page e in
        let place : page * 256 + (address - page * 256) ≡ address = omega (arith, from) in
        page_at memory (page * 256) (address - page * 256) (omega (arith, from, to)) ∙ ap (slice_index memory) place

    go : (b : Bool) → (page_of address == page) ≡ b
        → slice_index (take (page * 256) bytes
        ++ (slice_range memory (page * 256) (page * 256 + 256) ++ drop 256 (drop (page * 256) bytes))) address
        ≡ cond b (slice_index memory address) (slice_index bytes address)
    go true e =
        let here = eqb-true (page_of address) page e in
        put_within bytes (slice_range memory (page * 256) (page * 256 + 256)) (page * 256) address room page_there
        (starts address page here) (ends address page here)
        ∙ within here
    go false e =
        elim (cases_lt address (page * 256)) [
          | inl below ↦
              put_below bytes (slice_range memory (page * 256) (page * 256 + 256)) (page * 256) address room below
          | inr high ↦
              put_above bytes (slice_range memory (page * 256) (page * 256 + 256)) (page * 256) address room page_there
              (outside address page (eqb-false (page_of address) page e) high)
        ]

-- the same of bytes that are equal to the page's
pub page_copied : (bytes memory ys : List ℕ) (page count address : ℕ) → count ≡ 256
    → ys ≡ slice_range memory (page * 256) (page * 256 + 256) → length bytes ≡ BYTES → length memory ≡ BYTES → page < 256
    → slice_index (take (page * 256) bytes ++ (ys ++ drop count (drop (page * 256) bytes))) address
    ≡ cond (page_of address == page) (slice_index memory address) (slice_index bytes address)
page_copied bytes memory ys page count address width same long whole low =
    ap (λ n. slice_index (take (page * 256) bytes ++ (ys ++ drop n (drop (page * 256) bytes))) address) width
    ∙ ap (λ (zs : List ℕ). slice_index (take (page * 256) bytes ++ (zs ++ drop 256 (drop (page * 256) bytes))) address) same
    ∙ page_put bytes memory page address long whole low

-- the length stays
page_room : (bytes ys : List ℕ) (a : ℕ) → a + 256 ≤ length bytes → length ys ≡ 256
    → length (take a bytes ++ (ys ++ drop 256 (drop a bytes))) ≡ length bytes
page_room bytes ys a room page =
    let all = length-append (take a bytes) (ys ++ drop 256 (drop a bytes)) in
    let rest = length-append ys (drop 256 (drop a bytes)) in
    let before = length-take-le a bytes (omega (arith, room)) in
    let after = length-drop 256 (drop a bytes) in
    let from = length-drop a bytes in
    omega (arith, room, page, all, rest, before, after, from)

-- the same of a vector that is written as a slice
pub page_refilled : (bytes part memory ys : List ℕ) (page count n address : ℕ) → part ≡ bytes → n ≡ length bytes → count ≡ 256
    → ys ≡ slice_range memory (page * 256) (page * 256 + 256) → length bytes ≡ BYTES → length memory ≡ BYTES → page < 256
    → slice_index (take n ((take (page * 256) part ++ (ys ++ drop count (drop (page * 256) part)))
    ++ drop (length (take (page * 256) part ++ (ys ++ drop count (drop (page * 256) part)))) bytes)) address
    ≡ cond (page_of address == page) (slice_index memory address) (slice_index bytes address)
page_refilled bytes part memory ys page count n address whole_part size width same long whole low =
    let ys_long : length ys ≡ 256 =
    ap (λ (zs : List ℕ). length zs) same ∙ page_long memory (page * 256) (omega (arith, whole, low)) in
    let written : List ℕ = take (page * 256) bytes ++ (ys ++ drop 256 (drop (page * 256) bytes)) in
    let as_long : length written ≡ length bytes = page_room bytes ys (page * 256) (omega (arith, long, low)) ys_long in
    ap (λ (xs : List ℕ). slice_index (take n ((take (page * 256) xs ++ (ys ++ drop count (drop (page * 256) xs)))
    ++ drop (length (take (page * 256) xs ++ (ys ++ drop count (drop (page * 256) xs)))) bytes)) address) whole_part
    ∙ ap (λ m. slice_index (take n ((take (page * 256) bytes ++ (ys ++ drop m (drop (page * 256) bytes)))
    ++ drop (length (take (page * 256) bytes ++ (ys ++ drop m (drop (page * 256) bytes)))) bytes)) address) width
    ∙ ap (λ (xs : List ℕ). slice_index xs address) (take_at written (drop (length written) bytes) n (as_long ∙ sym size))
    ∙ page_copied bytes memory ys page 256 address refl same long whole low

-- ---- the first pages

pub begins : (k : ℕ) (board : OnBoard) (old : Drafted) → HasRoom old → HasCopied k board old 0 old k 0
begins k board old room =
    let none = none_below old board in
    record {
      room = room;
      versions = λ page low. absurd (omega (arith, low));
      later = λ page high. refl;
      bytes = λ address low. absurd (omega (arith, low));
      rest = λ address high. refl;
      can = rw none (omega arith);
      waiting = rw none (omega arith);
      few = omega arith;
    }

-- this page stays as it was
module _ (k : ℕ) (board : OnBoard) (old : Drafted) (n : ℕ) (new : Drafted) (left stale : ℕ) (has : HasCopied k board old n new left stale) where
  as_before : is_old (copied_at new n) (version_of board n) ≡ is_stale old board n
  as_before = ap (λ (o : Option ℕ). is_old o (version_of board n)) (has.later n (omega arith))

  stays : (more : ℕ) → is_next k old board n ≡ false → left ≡ k - stale_below old board (n + 1)
      → more ≡ stale_below old board (n + 1) - k → more ≤ n + 1 → HasCopied k board old (n + 1) new left more
  stays more not_next left_is more_is few =
      record {
        room = has.room;
        versions = λ page low.
            elim (cases_lt page n) [
              | inl earlier ↦ has.versions page earlier
              | inr high ↦
                  let here : page ≡ n = omega (arith, low, high) in
                  has.later page high
                  ∙ sym (cond-false (is_next k old board page) (Some (version_of board page)) (copied_at old page)
                  (ap (λ p. is_next k old board p) here ∙ not_next))
            ];
        later = λ page high. has.later page (omega (arith, high));
        bytes = λ address low.
            elim (cases_lt (page_of address) n) [
              | inl earlier ↦ has.bytes address earlier
              | inr high ↦
                  let here : page_of address ≡ n = omega (arith, low, high) in
                  has.rest address high
                  ∙ sym (cond-false (is_next k old board (page_of address)) (slice_index board.guest.memory address)
                  (slice_index old.bytes address) (ap (λ p. is_next k old board p) here ∙ not_next))
            ];
        rest = λ address high. has.rest address (omega (arith, high));
        can = left_is;
        waiting = more_is;
        few = few;
      }

  pub passes : is_old (copied_at new n) (version_of board n) ≡ false → HasCopied k board old (n + 1) new left stale
  passes current =
      let fresh : is_stale old board n ≡ false = sym as_before ∙ current in
      let count : stale_below old board (n + 1) ≡ stale_below old board n + 0 = one_more old board n false fresh in
      let little = has.few in
      stays stale (and_left (is_stale old board n) (nat_lt (stale_below old board n) k) fresh)
      (has.can ∙ omega (arith, count)) (has.waiting ∙ omega (arith, count)) (omega (arith, little))

  pub waits : is_old (copied_at new n) (version_of board n) ≡ true → left ≤ 0 → HasCopied k board old (n + 1) new left (stale + 1)
  waits old_now none =
      let count : stale_below old board (n + 1) ≡ stale_below old board n + 1 = one_more old board n true (sym as_before ∙ old_now) in
      let little = has.few in
      let left_is = has.can in
      let stale_is = has.waiting in
      let full : k ≤ stale_below old board n = omega (arith, left_is, none) in
      stays (stale + 1) (and_right (is_stale old board n) (nat_lt (stale_below old board n) k) (le-ltb (stale_below old board n) k full))
      (omega (arith, left_is, count, full)) (omega (arith, stale_is, count, full)) (omega (arith, little))

  -- this page is copied
  pub copies : (bytes : List ℕ) → is_old (copied_at new n) (version_of board n) ≡ true → 0 < left → n < PAGES
      → length bytes ≡ BYTES
      → ((address : ℕ) → slice_index bytes address
      ≡ cond (page_of address == n) (slice_index board.guest.memory address) (slice_index new.bytes address))
      → HasCopied k board old (n + 1) (record { bytes = bytes; copied = slice_set new.copied n (Some (version_of board n)) }) (left - 1) stale
  copies bytes old_now some inside long put =
      let was : is_stale old board n ≡ true = sym as_before ∙ old_now in
      let count : stale_below old board (n + 1) ≡ stale_below old board n + 1 = one_more old board n true was in
      let little = has.few in
      let left_is = has.can in
      let stale_is = has.waiting in
      let low : stale_below old board n < k = omega (arith, left_is, some) in
      let next : is_next k old board n ≡ true =
      and_from (is_stale old board n) (nat_lt (stale_below old board n) k) was (lt-ltb (stale_below old board n) k low) in
      let pages : length new.copied ≡ PAGES = has.room.pages in
      record {
        room = record { bytes = long; pages = length-set new.copied n (Some (version_of board n)) ∙ pages };
        versions = λ page below.
            elim (cases_eq page n) [
              | inl here ↦
                  ap (λ p. slice_index_or (slice_set new.copied n (Some (version_of board n))) p None) here
                  ∙ get_or-set_same new.copied n (Some (version_of board n)) None (omega (arith, pages, inside))
                  ∙ ap (λ p. Some (version_of board p)) (sym here)
                  ∙ sym (cond-true (is_next k old board page) (Some (version_of board page)) (copied_at old page)
                  (ap (λ p. is_next k old board p) here ∙ next))
              | inr differs ↦
                  get_or-set_other new.copied n page (Some (version_of board n)) None differs
                  ∙ has.versions page (omega (arith, below, differs))
            ];
        later = λ page high.
            get_or-set_other new.copied n page (Some (version_of board n)) None (λ e. omega (arith, e, high))
            ∙ has.later page (omega (arith, high));
        bytes = λ address below.
            elim (cases_eq (page_of address) n) [
              | inl here ↦
                  put address
                  ∙ cond-true (page_of address == n) (slice_index board.guest.memory address) (slice_index new.bytes address) (same_page address here)
                  ∙ sym (cond-true (is_next k old board (page_of address)) (slice_index board.guest.memory address)
                  (slice_index old.bytes address) (ap (λ p. is_next k old board p) here ∙ next))
              | inr differs ↦
                  put address
                  ∙ cond-false (page_of address == n) (slice_index board.guest.memory address) (slice_index new.bytes address) (other_page address differs)
                  ∙ has.bytes address (omega (arith, below, differs))
            ];
        rest = λ address high.
            put address
            ∙ cond-false (page_of address == n) (slice_index board.guest.memory address) (slice_index new.bytes address) (other_page address (λ e. omega (arith, e, high)))
            ∙ has.rest address (omega (arith, high));
        can = omega (arith, left_is, count, low);
        waiting = omega (arith, stale_is, count, low);
        few = omega (arith, little);
      }
    where
      same_page : (address : ℕ) → page_of address ≡ n → (page_of address == n) ≡ true
      same_page address e = eq-eqb (page_of address) n e

      other_page : (address : ℕ) → (page_of address ≡ n → ⊥) → (page_of address == n) ≡ false
      other_page address differs = ne_eqb (page_of address) n differs

pub copies_page : (k : ℕ) (board : OnBoard) (old : Drafted) (n : ℕ) (new : Drafted) (left stale : ℕ) (bytes : List ℕ)
    (copied : List (Option ℕ)) → HasCopied k board old n new left stale
    → is_old (copied_at new n) (version_of board n) ≡ true → 0 < left → n < PAGES → length bytes ≡ BYTES
    → ((address : ℕ) → slice_index bytes address
    ≡ cond (page_of address == n) (slice_index board.guest.memory address) (slice_index new.bytes address))
    → copied ≡ slice_set new.copied n (Some (version_of board n))
    → HasCopied k board old (n + 1) (record { bytes = bytes; copied = copied }) (left - 1) stale
copies_page k board old n new left stale bytes copied has old_now some inside long put noted =
    subst (λ (xs : List (Option ℕ)). HasCopied k board old (n + 1) (record { bytes = bytes; copied = xs }) (left - 1) stale)
    (sym noted) (copies k board old n new left stale has bytes old_now some inside long put)

pub all_copied : (k : ℕ) (board : OnBoard) (old new : Drafted) (left stale : ℕ) → HasCopied k board old 256 new left stale
    → IsFreshened k board old new
all_copied k board old new left stale has =
    record { versions = λ page low. has.versions page low; bytes = λ address low. has.bytes address (page_low address low) }

-- ---- what a freshened draft has

pub still_agrees : (k : ℕ) (board : OnBoard) (old new : Drafted) → IsFreshened k board old new → Agrees old board → Agrees new board
still_agrees k board old new is agrees =
    record {
      bytes = λ address low at. go address low (is_next k old board (page_of address)) refl at;
    }
  where
    go : (address : ℕ) → address < BYTES → (b : Bool) → is_next k old board (page_of address) ≡ b
        → copied_at new (page_of address) ≡ Some (version_of board (page_of address))
        → slice_index new.bytes address ≡ slice_index board.guest.memory address
    go address low true next at =
        is.bytes address low
        ∙ cond-true (is_next k old board (page_of address)) (slice_index board.guest.memory address) (slice_index old.bytes address) next
    go address low false next at =
        is.bytes address low
        ∙ cond-false (is_next k old board (page_of address)) (slice_index board.guest.memory address) (slice_index old.bytes address) next
        ∙ agrees.bytes address low
        (sym (cond-false (is_next k old board (page_of address)) (Some (version_of board (page_of address))) (copied_at old (page_of address)) next)
        ∙ sym (is.versions (page_of address) (page_low address low)) ∙ at)

-- once every stale page was copied, the bytes are the board's memory
current_at : (o : Option ℕ) (version : ℕ) → is_old o version ≡ false → o ≡ Some version
current_at None version e = absurd cc
current_at (Some copied) version e = ap (λ n. Some n) (eqb-true copied version (not-false (copied == version) e))

pub memory_is : (board : OnBoard) (old new : Drafted) → IsFreshened PAGES board old new → Agrees old board
    → length new.bytes ≡ BYTES → length board.guest.memory ≡ BYTES → new.bytes ≡ board.guest.memory
memory_is board old new is agrees long whole =
    ext_get_or 0 new.bytes board.guest.memory (long ∙ sym whole)
    (λ address low. is.bytes address (omega (arith, low, long)) ∙ at address (omega (arith, low, long)) (is_stale old board (page_of address)) refl)
  where
    at : (address : ℕ) → address < BYTES → (b : Bool) → is_stale old board (page_of address) ≡ b
        → cond (is_next PAGES old board (page_of address)) (slice_index board.guest.memory address) (slice_index old.bytes address)
        ≡ slice_index board.guest.memory address
    at address low true stale =
        let few = few_below old board (page_of address) in
        let inside = page_low address low in
        cond-true (is_next PAGES old board (page_of address)) (slice_index board.guest.memory address) (slice_index old.bytes address)
        (and_from (is_stale old board (page_of address)) (nat_lt (stale_below old board (page_of address)) PAGES) stale
        (lt-ltb (stale_below old board (page_of address)) PAGES (omega (arith, few, inside))))
    at address low false fresh =
        cond-false (is_next PAGES old board (page_of address)) (slice_index board.guest.memory address) (slice_index old.bytes address)
        (and_left (is_stale old board (page_of address)) (nat_lt (stale_below old board (page_of address)) PAGES) fresh)
        ∙ agrees.bytes address low (current_at (copied_at old (page_of address)) (version_of board (page_of address)) fresh)
