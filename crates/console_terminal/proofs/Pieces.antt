-- What a display has written, piece by piece: nothing, one piece, and one list of pieces after another.
use Rattle.std.proofs.lemmas.Grind.{flat_map-append}
use Rattle.std.proofs.lemmas.List.{map-append}
use Rattle.std.proofs.Common.{ℕ, ◌≡◌, Bool, true, false, if◌then◌else◌, map, Option, Some, List, [], ◌∷◌, ◌++◌, append-nil, append_assoc, refl, sym, ap, ◌∙◌, subst}
use Rattle.std.specs.Global.{Global}
use Rattle.std.specs.declared.string.String.{String}
use Rattle.std.specs.Io.KnownBytes.{Appends}
use Rattle.std.specs.Prelude.{string_bytes}
use Rattle.std.proofs.KnownBytes.{Appends-nil, Appends-trans}
use Rattle.console_terminal.proofs.Same.{same_end, same_end_on}
use Rattle.console_terminal.specs.Lines.{shown_at}
use Rattle.console_terminal.specs.declared.screen.Shown.{Shown}
use Rattle.rtrb.specs.Ring.{SameConsumer, received}
use Rattle.rtrb.specs.declared.consumer.Consumer.{Consumer}
use Rattle.console_terminal.specs.Screen.{AreSeen, IsClear, Piece, Wrote, beside_of, byte_seen, bytes_of, bytes_seen, guest_in, guest_of, is_looked_at, is_looking, kept_with, look_after, look_at_end, said_in, said_of, text_of, texts_of, told_in, told_of, unseen}
use Rattle.console_terminal.specs.declared.note.DisplayNote.{DisplayNote}
use Rattle.console_terminal.specs.declared.port.Port.{Port}
use Rattle.console_terminal.specs.declared.display.Display.{Display}
use Rattle.console_terminal.proofs.Seen.{byte_clear, byte_parted, one_byte, seen_bytes, seen_clear, seen_now, seen_parted, shown_both}

-- ---- lists of pieces, one after another

bytes_both : (ps qs : List Piece) → bytes_of (ps ++ qs) ≡ bytes_of ps ++ bytes_of qs
bytes_both ps qs =
    ap (map (λ (s : Shown). s.byte)) (flat_map-append guest_of ps qs) ∙ map-append (λ (s : Shown). s.byte) (guest_in ps) (guest_in qs)

look_both : (look : Option Port) (ps qs : List Piece) → look_at_end look (ps ++ qs) ≡ look_at_end (look_at_end look ps) qs
look_both look [] qs = refl
look_both look (Piece.Guest s ∷ ps) qs = look_both look ps qs
look_both look (Piece.Said n ∷ ps) qs = look_both (look_after look n) ps qs
look_both look (Piece.Told t ∷ ps) qs = look_both look ps qs

seen_both : (look : Option Port) (ps qs : List Piece) → AreSeen look ps → AreSeen (look_at_end look ps) qs → AreSeen look (ps ++ qs)
seen_both look [] qs p q = q
seen_both look (Piece.Guest s ∷ ps) qs p q = (p.0, seen_both look ps qs p.1 q)
seen_both look (Piece.Said n ∷ ps) qs p q = seen_both (look_after look n) ps qs p q
seen_both look (Piece.Told t ∷ ps) qs p q = (p.0, seen_both look ps qs p.1 q)

-- six lists: what was kept and came is what was written and is kept
kept_both : (g₁ g₂ a₁ a₂ k₀ k₁ k₂ : List ℕ) → g₁ ++ k₁ ≡ k₀ ++ a₁ → g₂ ++ k₂ ≡ k₁ ++ a₂ → (g₁ ++ g₂) ++ k₂ ≡ k₀ ++ (a₁ ++ a₂)
kept_both g₁ g₂ a₁ a₂ k₀ k₁ k₂ p q =
    append_assoc g₁ g₂ k₂ ∙ ap (λ l. g₁ ++ l) q ∙ sym (append_assoc g₁ k₁ a₂) ∙ ap (λ l. l ++ a₂) p ∙ append_assoc k₀ a₁ a₂

-- what was taken of a list, and then more
on_top : {T : Type 0} (a b c xs ys all : List T) → b ≡ a ++ xs → c ≡ b ++ ys → all ≡ xs ++ ys → c ≡ a ++ all
on_top a b c xs ys all p q r = q ∙ ap (λ l. l ++ ys) p ∙ append_assoc a xs ys ∙ ap (λ l. a ++ l) (sym r)

same_self : {T A P : Type 0} (a b : Consumer T A P) → b ≡ a → SameConsumer a b
same_self a b same = subst (λ c. SameConsumer a c) (sym same) (same_end (Some a))

-- ---- pieces of the guest

abbrev pieces_of : List Shown → List Piece
pieces_of shown = map Piece.Guest shown

-- pieces of the guest alone say nothing, tell nothing, and leave the look
record AreGuest (shown : List Shown) : Type 0 where
  guest : guest_in (pieces_of shown) ≡ shown
  texts : texts_of (pieces_of shown) ≡ []
  said : said_in (pieces_of shown) ≡ []
  told : told_in (pieces_of shown) ≡ []
  look : (look : Option Port) → look_at_end look (pieces_of shown) ≡ look

are_guest : (shown : List Shown) → AreGuest shown
are_guest [] = record { guest = refl; texts = refl; said = refl; told = refl; look = λ look. refl }
are_guest (s ∷ shown) =
    let p = are_guest shown in
    record { guest = ap (λ l. s ∷ l) p.guest; texts = p.texts; said = p.said; told = p.told; look = p.look }

if_seen : (look : Option Port) (s : Shown) (rest : List Shown) (is_seen : Bool) → is_looked_at look s.port ≡ is_seen
    → AreSeen look (pieces_of rest) → AreSeen look (pieces_of (if is_seen then s ∷ rest else rest))
if_seen look s rest true h p = (h, p)
if_seen look s rest false h p = p

all_seen : (look : Option Port) (shown : List Shown) → AreSeen look (pieces_of (seen_now look shown))
all_seen look [] = tt
all_seen look (s ∷ shown) = if_seen look s (seen_now look shown) (is_looked_at look s.port) refl (all_seen look shown)

module _ {W N : Type 0} (screen : W → Option (List ℕ)) (notes : N → Option (List ℕ)) where
  pub and_then : (a b c : Display W N) → Wrote screen notes a b → Wrote screen notes b c → Wrote screen notes a c
  and_then a b c p q = record {
    pieces = p.pieces ++ q.pieces;
    accepted = p.accepted ++ q.accepted;
    bytes = subst (Appends (screen a.screen) (screen c.screen)) (sym (bytes_both p.pieces q.pieces))
        (Appends-trans (screen a.screen) (screen b.screen) (screen c.screen) (bytes_of p.pieces) (bytes_of q.pieces) p.bytes q.bytes);
    texts = subst (Appends (notes a.notes) (notes c.notes)) (sym (flat_map-append beside_of p.pieces q.pieces))
        (Appends-trans (notes a.notes) (notes b.notes) (notes c.notes) (texts_of p.pieces) (texts_of q.pieces) p.texts q.texts);
    came = on_top (received a.shown) (received b.shown) (received c.shown) p.accepted q.accepted _ p.came q.came refl;
    guest = λ port.
        ap (λ l. l ++ shown_at port c.kept.items)
        (ap (shown_at port) (flat_map-append guest_of p.pieces q.pieces) ∙ shown_both port (guest_in p.pieces) (guest_in q.pieces))
        ∙ kept_both (shown_at port (guest_in p.pieces)) (shown_at port (guest_in q.pieces)) (shown_at port p.accepted)
        (shown_at port q.accepted) (shown_at port a.kept.items) (shown_at port b.kept.items) (shown_at port c.kept.items)
        (p.guest port) (q.guest port)
        ∙ ap (λ l. shown_at port a.kept.items ++ l) (sym (shown_both port p.accepted q.accepted));
    said = on_top (received a.said) (received b.said) (received c.said) (said_in p.pieces) (said_in q.pieces) _ p.said q.said (flat_map-append said_of p.pieces q.pieces);
    told = on_top (received a.told) (received b.told) (received c.told) (told_in p.pieces) (told_in q.pieces) _ p.told q.told (flat_map-append told_of p.pieces q.pieces);
    seen = seen_both a.look p.pieces q.pieces p.seen (subst (λ l. AreSeen l q.pieces) p.look q.seen);
    look = q.look ∙ ap (λ l. look_at_end l q.pieces) p.look ∙ sym (look_both a.look p.pieces q.pieces);
    clear = q.clear;
    same_shown = same_end_on (Some a.shown) (Some b.shown) (Some c.shown) p.same_shown q.same_shown;
    same_said = same_end_on (Some a.said) (Some b.said) (Some c.said) p.same_said q.same_said;
    same_told = same_end_on (Some a.told) (Some b.told) (Some c.told) p.same_told q.same_told;
  }

  -- no byte of the guest came, and none is written
  beside : (pieces : List Piece) (a b : Display W N) → guest_in pieces ≡ [] → AreSeen a.look pieces → look_at_end a.look pieces ≡ a.look
      → IsClear a → b.screen ≡ a.screen → b.kept ≡ a.kept → b.look ≡ a.look → received b.shown ≡ received a.shown
      → Appends (notes a.notes) (notes b.notes) (texts_of pieces)
      → received b.said ≡ received a.said ++ said_in pieces → received b.told ≡ received a.told ++ told_in pieces
      → SameConsumer a.shown b.shown → SameConsumer a.said b.said → SameConsumer a.told b.told → Wrote screen notes a b
  beside pieces a b none are_seen stays clear same_screen kept look shown texts said told one two three = record {
    pieces = pieces;
    accepted = [];
    bytes = subst (Appends (screen a.screen) (screen b.screen)) (sym (ap (map (λ (s : Shown). s.byte)) none))
        (subst (λ w. Appends (screen a.screen) (screen w) []) (sym same_screen) (Appends-nil (screen a.screen)));
    texts = texts;
    came = shown ∙ sym (append-nil (received a.shown));
    guest = λ port. ap (λ l. shown_at port l ++ shown_at port b.kept.items) none ∙ ap (λ k. shown_at port k.items) kept
        ∙ sym (append-nil (shown_at port a.kept.items));
    said = said;
    told = told;
    seen = are_seen;
    look = look ∙ sym stays;
    clear = λ port at. ap (λ k. shown_at port k.items) kept ∙ clear port (ap (λ l. is_looked_at l port) (sym look) ∙ at);
    same_shown = one;
    same_said = two;
    same_told = three;
  }

  -- nothing came, and nothing is written
  pub of_nothing : (a b : Display W N) → IsClear a → b.screen ≡ a.screen → b.notes ≡ a.notes → b.kept ≡ a.kept → b.look ≡ a.look
      → received b.shown ≡ received a.shown → received b.said ≡ received a.said → received b.told ≡ received a.told
      → SameConsumer a.shown b.shown → SameConsumer a.said b.said → SameConsumer a.told b.told → Wrote screen notes a b
  of_nothing a b clear same_screen same_notes kept look shown said told one two three =
      beside [] a b refl tt refl clear same_screen kept look shown
      (subst (λ n. Appends (notes a.notes) (notes n) []) (sym same_notes) (Appends-nil (notes a.notes)))
      (said ∙ sym (append-nil (received a.said))) (told ∙ sym (append-nil (received a.told))) one two three

  pub nothing_yet : (a : Display W N) → IsClear a → Wrote screen notes a a
  nothing_yet a clear =
      of_nothing a a clear refl refl refl refl refl refl refl (same_end (Some a.shown)) (same_end (Some a.said)) (same_end (Some a.told))

  -- a line about the pair is told
  pub of_a_line : (line : String Global) (a b : Display W N) → IsClear a → is_looking a.look ≡ true → b.shown ≡ a.shown → b.said ≡ a.said
      → received b.told ≡ received a.told ++ line ∷ [] → b.look ≡ a.look → b.kept ≡ a.kept → b.screen ≡ a.screen
      → Appends (notes a.notes) (notes b.notes) (string_bytes line) → SameConsumer a.told b.told → Wrote screen notes a b
  of_a_line line a b clear looking shown said told look kept same_screen texts same =
      beside (Piece.Told line ∷ []) a b refl (looking, tt) refl clear same_screen kept look (ap received shown)
      (subst (Appends (notes a.notes) (notes b.notes)) (sym (append-nil (string_bytes line))) texts)
      (ap received said ∙ sym (append-nil (received a.said))) told (same_self a.shown b.shown shown) (same_self a.said b.said said) same

  -- a note is said, and what was kept of the terminal that one looks at after it is seen
  pub of_a_note : (note : DisplayNote) (a b : Display W N) → b.shown ≡ a.shown → received b.said ≡ received a.said ++ note ∷ [] → b.told ≡ a.told
      → b.look ≡ look_after a.look note → Appends (notes a.notes) (notes b.notes) (text_of note)
      → Appends (screen a.screen) (screen b.screen) (bytes_seen b.look a.kept.items) → b.kept.items ≡ unseen b.look a.kept.items
      → SameConsumer a.said b.said → Wrote screen notes a b
  of_a_note note a b shown said told look texts bytes kept same =
      let now = seen_now b.look a.kept.items in
      let guest = are_guest now in
      record {
        pieces = Piece.Said note ∷ pieces_of now;
        accepted = [];
        bytes = subst (Appends (screen a.screen) (screen b.screen))
            (sym (ap (map (λ (s : Shown). s.byte)) guest.guest ∙ seen_bytes b.look a.kept.items)) bytes;
        texts = subst (Appends (notes a.notes) (notes b.notes)) (sym (ap (λ l. text_of note ++ l) guest.texts ∙ append-nil (text_of note))) texts;
        came = ap received shown ∙ sym (append-nil (received a.shown));
        guest = λ port. ap (λ l. shown_at port l ++ shown_at port b.kept.items) guest.guest
            ∙ ap (λ l. shown_at port now ++ shown_at port l) kept ∙ seen_parted b.look port a.kept.items
            ∙ sym (append-nil (shown_at port a.kept.items));
        said = said ∙ ap (λ l. received a.said ++ note ∷ l) (sym guest.said);
        told = ap received told ∙ sym (append-nil (received a.told)) ∙ ap (λ l. received a.told ++ l) (sym guest.told);
        seen = subst (λ l. AreSeen l (pieces_of now)) look (all_seen b.look a.kept.items);
        look = sym (guest.look b.look) ∙ ap (λ l. look_at_end l (pieces_of now)) look;
        clear = λ port at. ap (shown_at port) kept ∙ seen_clear b.look a.kept.items port at;
        same_shown = same_self a.shown b.shown shown;
        same_said = same;
        same_told = same_self a.told b.told told;
      }

  -- a byte is seen, or kept
  pub of_a_byte : (s : Shown) (a b : Display W N) → IsClear a → received b.shown ≡ received a.shown ++ s ∷ [] → b.said ≡ a.said → b.told ≡ a.told
      → b.look ≡ a.look → b.notes ≡ a.notes → Appends (screen a.screen) (screen b.screen) (byte_seen a.look s)
      → b.kept.items ≡ kept_with a.look s a.kept.items → SameConsumer a.shown b.shown → Wrote screen notes a b
  of_a_byte s a b clear shown said told look same_notes bytes kept same =
      let now = seen_now a.look (s ∷ []) in
      let guest = are_guest now in
      let is_seen = is_looked_at a.look s.port in
      record {
        pieces = pieces_of now;
        accepted = s ∷ [];
        bytes = subst (Appends (screen a.screen) (screen b.screen))
            (sym (ap (map (λ (s : Shown). s.byte)) guest.guest ∙ one_byte is_seen s)) bytes;
        texts = subst (Appends (notes a.notes) (notes b.notes)) (sym guest.texts)
            (subst (λ n. Appends (notes a.notes) (notes n) []) (sym same_notes) (Appends-nil (notes a.notes)));
        came = shown;
        guest = λ port. ap (λ l. shown_at port l ++ shown_at port b.kept.items) guest.guest
            ∙ ap (λ l. shown_at port now ++ shown_at port l) kept ∙ byte_parted a.look port s a.kept.items is_seen refl (clear port);
        said = ap received said ∙ sym (append-nil (received a.said)) ∙ ap (λ l. received a.said ++ l) (sym guest.said);
        told = ap received told ∙ sym (append-nil (received a.told)) ∙ ap (λ l. received a.told ++ l) (sym guest.told);
        seen = all_seen a.look (s ∷ []);
        look = look ∙ sym (guest.look a.look);
        clear = λ port at. ap (shown_at port) kept
            ∙ byte_clear a.look port s a.kept.items is_seen refl (clear port) (ap (λ l. is_looked_at l port) (sym look) ∙ at);
        same_shown = same;
        same_said = same_self a.said b.said said;
        same_told = same_self a.told b.told told;
      }
