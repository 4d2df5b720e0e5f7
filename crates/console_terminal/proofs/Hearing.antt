-- What was heard and handed on: nothing, one byte, and some bytes after others.
use Rattle.std.proofs.lemmas.List.Folds.{list_any-append}
use Rattle.std.proofs.lemmas.Grind.{flat_map-append}
use Rattle.arrayvec.specs.ArrayVec.{ArrayVec}
use Rattle.std.specs.Prelude.{flat_map}
use Rattle.std.proofs.Common.{ℕ, ◌≡◌, ◌||◌, false, Option, Some, None, IfSome, List, [], ◌∷◌, ◌++◌, append-nil, append_assoc, refl, sym, ap, ◌∙◌, subst}
use Rattle.std.specs.Io.KnownBytes.{Consumes}
use Rattle.std.specs.List.{list_any}
use Rattle.std.proofs.KnownBytes.{Consumes-nil, Consumes-trans}
use Rattle.console_terminal.proofs.Same.{same_start_on}
use Rattle.rtrb.specs.Ring.{SameProducer, sent}
use Rattle.console_terminal.specs.Commands.{Grows}
use Rattle.console_terminal.specs.Keys.{heard_bytes}
use Rattle.console_terminal.specs.Listening.{EndsWith, Listens, ending_of, is_quit, notes_after, place_after, strokes_after, was_quit}
use Rattle.console_terminal.specs.Telling.{Says, Tells, closing, notes_by}
use Rattle.console_terminal.specs.Typing.{OpenLine, Place, act_of, after, after_all, command_in, commands_at, done_by, line_of, open_after, order_at, order_by, place_of, strokes_at, strokes_by}
use Rattle.console_terminal.specs.declared.command.Command.{Command}
use Rattle.console_terminal.specs.declared.command.Order.{Order}
use Rattle.console_terminal.specs.declared.desk.Act.{Act}
use Rattle.console_terminal.specs.declared.keys.Heard.{Heard}
use Rattle.console_terminal.specs.declared.listener.Ending.{Ending}
use Rattle.console_terminal.specs.declared.listener.Listener.{Listener}
use Rattle.console_terminal.specs.declared.note.DisplayNote.{DisplayNote}
use Rattle.console_terminal.specs.declared.port.Port.{Port}

-- ---- some bytes after others

after_both : (e : ℕ) (p : Place) (xs ys : List Heard) → after_all e p (xs ++ ys) ≡ after_all e (after_all e p xs) ys
after_both e p [] ys = refl
after_both e p (x ∷ xs) ys = after_both e (after e p x) xs ys

strokes_both : (port : Port) (e : ℕ) (p : Place) (xs ys : List Heard) →
    strokes_at port e p (xs ++ ys) ≡ strokes_at port e p xs ++ strokes_at port e (after_all e p xs) ys
strokes_both port e p [] ys = refl
strokes_both port e p (x ∷ xs) ys =
    let first = strokes_by port p.port (done_by e p.line x) in
    ap (λ l. first ++ l) (strokes_both port e (after e p x) xs ys)
    ∙ sym (append_assoc first (strokes_at port e (after e p x) xs) (strokes_at port e (after_all e (after e p x) xs) ys))

commands_both : (e : ℕ) (p : Place) (xs ys : List Heard) →
    commands_at e p (xs ++ ys) ≡ commands_at e p xs ++ commands_at e (after_all e p xs) ys
commands_both e p [] ys = refl
commands_both e p (x ∷ xs) ys =
    let first = command_in (order_at e p x) in
    ap (λ l. first ++ l) (commands_both e (after e p x) xs ys)
    ∙ sym (append_assoc first (commands_at e (after e p x) xs) (commands_at e (after_all e (after e p x) xs) ys))

tells_both : (e : ℕ) (p : Place) (xs ys : List Heard) (ms ns : List DisplayNote) →
    Tells e p xs ms → Tells e (after_all e p xs) ys ns → Tells e p (xs ++ ys) (ms ++ ns)
tells_both e p [] ys ms ns h k = subst (λ l. Tells e p ys (l ++ ns)) (sym h) k
tells_both e p (x ∷ xs) ys ms ns h k =
    (h.0, h.1 ++ ns, ap (λ l. l ++ ns) h.2 ∙ append_assoc (notes_by e p x h.0) h.1 ns, tells_both e (after e p x) xs ys h.1 ns h.3 k)

-- what went into a ring, and then more
on_top : {T : Type 0} (a b c xs ys all last : List T) → b ≡ (a ++ xs) ++ [] → c ≡ (b ++ ys) ++ last → all ≡ xs ++ ys → c ≡ (a ++ all) ++ last
on_top a b c xs ys all last p q r =
    q ∙ ap (λ l. (l ++ ys) ++ last) (p ∙ append-nil (a ++ xs))
    ∙ ap (λ l. l ++ last) (append_assoc a xs ys ∙ ap (λ l. a ++ l) (sym r))

pub grows_none : (a : Option (List Command)) → Grows a a []
grows_none None = tt
grows_none (Some a) = sym (append-nil a)

grows_both : (a b c : Option (List Command)) (xs ys : List Command) → Grows a b xs → Grows b c ys → Grows a c (xs ++ ys)
grows_both None b c xs ys p q = tt
grows_both (Some a) None c xs ys p q = absurd p
grows_both (Some a) (Some b) None xs ys p q = absurd q
grows_both (Some a) (Some b) (Some c) xs ys p q = q ∙ ap (λ l. l ++ ys) p ∙ append_assoc a xs ys

-- ---- the end

-- no byte ends the input
no_order_ends : (order : Order) (left : Option (List ℕ)) → EndsWith (ending_of Act.HandsOn order) left
no_order_ends (Order.Command Command.Quit) left = tt
no_order_ends other left = tt

no_byte_ends : (act : Act) (line : Option OpenLine) (left : Option (List ℕ)) → EndsWith (ending_of act (order_by act line)) left
no_byte_ends Act.HandsOn line left = no_order_ends (order_by Act.HandsOn line) left
no_byte_ends other line left = tt

if_any : (ending : Option Ending) (P : Type 0) → P → IfSome ending (λ _. P)
if_any None P p = tt
if_any (Some ending) P p = p

-- a command line that is carried out is closed
if_quit : (act : Act) (past : List (ArrayVec ℕ)) (line : Option OpenLine) → IfSome (ending_of act (order_by act line)) (λ _. open_after act past line ≡ None)
if_quit (Act.Key byte) past line = tt
if_quit Act.Opens past line = tt
if_quit (Act.Edits edit) past line = tt
if_quit Act.Lists past line = tt
if_quit (Act.Waits sequence) past line = tt
if_quit Act.Cancels past line = tt
if_quit Act.HandsOn past line = if_any (ending_of Act.HandsOn (order_by Act.HandsOn line)) (None ≡ None) refl
if_quit Act.Nothing past line = tt

quit_by_order : (order : Order) → was_quit (ending_of Act.HandsOn order) ≡ list_any is_quit (command_in order ++ [])
quit_by_order Order.Nothing = refl
quit_by_order (Order.Mistake mistake) = refl
quit_by_order (Order.Command (Command.Stop host)) = refl
quit_by_order (Order.Command (Command.Freeze host)) = refl
quit_by_order (Order.Command (Command.Thaw host)) = refl
quit_by_order (Order.Command Command.Spare) = refl
quit_by_order (Order.Command Command.Cut) = refl
quit_by_order (Order.Command Command.Part) = refl
quit_by_order (Order.Command Command.Mend) = refl
quit_by_order (Order.Command (Command.Drop percent)) = refl
quit_by_order (Order.Command (Command.Speed steps)) = refl
quit_by_order (Order.Command Command.Status) = refl
quit_by_order (Order.Command Command.Registers) = refl
quit_by_order (Order.Command (Command.Memory address count)) = refl
quit_by_order (Order.Command (Command.Listing address count)) = refl
quit_by_order (Order.Command (Command.Terminal port)) = refl
quit_by_order (Order.Command (Command.Save drive)) = refl
quit_by_order (Order.Command Command.Picture) = refl
quit_by_order (Order.Command Command.Do) = refl
quit_by_order (Order.Command Command.Help) = refl
quit_by_order (Order.Command Command.Quit) = refl

quit_by : (act : Act) (line : Option OpenLine) →
    was_quit (ending_of act (order_by act line)) ≡ list_any is_quit (command_in (order_by act line) ++ [])
quit_by (Act.Key byte) line = refl
quit_by Act.Opens line = refl
quit_by (Act.Edits edit) line = refl
quit_by Act.Lists line = refl
quit_by (Act.Waits sequence) line = refl
quit_by Act.Cancels line = refl
quit_by Act.HandsOn line = quit_by_order (order_by Act.HandsOn line)
quit_by Act.Nothing line = refl

closed_place : (ending : Option Ending) (p : Place) → IfSome ending (λ _. p.line ≡ None) → p ≡ place_after ending p
closed_place None p h = refl
closed_place (Some ending) p h = ap (λ l. let q : Place = record { port = p.port; line = l; past = p.past } in q) h

none_closing : (ending : Option Ending) (p : Place) → IfSome ending (λ _. p.line ≡ None) → notes_after ending p ≡ []
none_closing None p h = refl
none_closing (Some ending) p h = ap (λ (l : Option OpenLine). closing (record { port = p.port; line = l; past = p.past })) h

module _ {S I : Type 0} (left : S → Option (List ℕ)) (given : I → Option (List Command)) where
  pub and_then : (ending : Option Ending) (a b c : Listener S I) → Listens left given None a b → Listens left given ending b c → Listens left given ending a c
  and_then ending a b c p q =
      let e = a.desk.escape in
      let at = place_of a.desk in
      let between : after_all b.desk.escape (place_of b.desk) ≡ after_all e (after_all e at p.heard) =
      ap (λ l. after_all l (place_of b.desk)) p.escape ∙ ap (after_all e) p.place in
      let all : after_all b.desk.escape (place_of b.desk) q.heard ≡ after_all e at (p.heard ++ q.heard) =
      ap (λ f. f q.heard) between ∙ sym (after_both e at p.heard q.heard) in
      let strokes : (port : Port) → strokes_at port e at (p.heard ++ q.heard) ≡ strokes_at port e at p.heard ++ strokes_at port b.desk.escape (place_of b.desk) q.heard =
      λ port. strokes_both port e at p.heard q.heard
      ∙ ap (λ l. strokes_at port e at p.heard ++ l)
      (ap (λ l. strokes_at port e l q.heard) (sym p.place) ∙ ap (λ l. strokes_at port l (place_of b.desk) q.heard) (sym p.escape)) in
      let orders : commands_at e at p.heard ++ commands_at b.desk.escape (place_of b.desk) q.heard ≡ commands_at e at (p.heard ++ q.heard) =
      ap (λ l. commands_at e at p.heard ++ l)
      (ap (λ l. commands_at l (place_of b.desk) q.heard) p.escape ∙ ap (λ l. commands_at e l q.heard) p.place)
      ∙ sym (commands_both e at p.heard q.heard) in
      record {
        heard = p.heard ++ q.heard;
        said = p.said ++ q.said;
        taken = subst (Consumes (left a.source) (left c.source)) (sym (flat_map-append heard_bytes p.heard q.heard))
            (Consumes-trans (left a.source) (left b.source) (left c.source) (flat_map heard_bytes p.heard) (flat_map heard_bytes q.heard) p.taken q.taken);
        escape = q.escape ∙ p.escape;
        place = q.place ∙ ap (place_after ending) all;
        first = on_top (sent a.first) (sent b.first) (sent c.first) (strokes_at Port.Zero e at p.heard) (strokes_at Port.Zero b.desk.escape (place_of b.desk) q.heard) _ (strokes_after ending) p.first q.first (strokes Port.Zero);
        second = on_top (sent a.second) (sent b.second) (sent c.second) (strokes_at Port.One e at p.heard) (strokes_at Port.One b.desk.escape (place_of b.desk) q.heard) _ (strokes_after ending) p.second q.second (strokes Port.One);
        commands = subst (Grows (given a.interpreter) (given c.interpreter)) orders
            (grows_both (given a.interpreter) (given b.interpreter) (given c.interpreter) (commands_at e at p.heard)
            (commands_at b.desk.escape (place_of b.desk) q.heard) p.commands q.commands);
        quit = q.quit ∙ ap (λ l. l || list_any is_quit (commands_at b.desk.escape (place_of b.desk) q.heard)) p.quit
            ∙ sym (list_any-append is_quit (commands_at e at p.heard) (commands_at b.desk.escape (place_of b.desk) q.heard)) ∙ ap (list_any is_quit) orders;
        notes = on_top (sent a.notes) (sent b.notes) (sent c.notes) p.said q.said _ (notes_after ending (after_all b.desk.escape (place_of b.desk) q.heard)) p.notes q.notes refl
            ∙ ap (λ l. (sent a.notes ++ (p.said ++ q.said)) ++ notes_after ending l) all;
        tells = tells_both e at p.heard q.heard p.said q.said p.tells
            (subst (λ l. Tells e l q.heard q.said) p.place (subst (λ l. Tells l (place_of b.desk) q.heard q.said) p.escape q.tells));
        over = q.over;
        same_first = same_start_on (Some a.first) (Some b.first) (Some c.first) p.same_first q.same_first;
        same_second = same_start_on (Some a.second) (Some b.second) (Some c.second) p.same_second q.same_second;
        same_notes = same_start_on (Some a.notes) (Some b.notes) (Some c.notes) p.same_notes q.same_notes;
      }

  -- no byte came
  pub of_none : (ending : Option Ending) (a b : Listener S I) → was_quit ending ≡ false → Consumes (left a.source) (left b.source) [] → b.desk.escape ≡ a.desk.escape
      → place_of b.desk ≡ place_after ending (place_of a.desk)
      → sent b.first ≡ sent a.first ++ strokes_after ending → sent b.second ≡ sent a.second ++ strokes_after ending
      → Grows (given a.interpreter) (given b.interpreter) [] → sent b.notes ≡ sent a.notes ++ notes_after ending (place_of a.desk)
      → EndsWith ending (left b.source)
      → SameProducer a.first b.first → SameProducer a.second b.second → SameProducer a.notes b.notes → Listens left given ending a b
  of_none ending a b quit taken escape place first second commands notes over one two three = record {
    heard = [];
    said = [];
    taken = taken;
    escape = escape;
    place = place;
    first = first ∙ ap (λ l. l ++ strokes_after ending) (sym (append-nil (sent a.first)));
    second = second ∙ ap (λ l. l ++ strokes_after ending) (sym (append-nil (sent a.second)));
    commands = commands;
    quit = quit;
    notes = notes ∙ ap (λ l. l ++ notes_after ending (place_of a.desk)) (sym (append-nil (sent a.notes)));
    tells = refl;
    over = over;
    same_first = one;
    same_second = two;
    same_notes = three;
  }

  -- a byte came, or none for a while
  pub of_heard : (ending : Option Ending) (heard : Heard) (a b : Listener S I) → Consumes (left a.source) (left b.source) (heard_bytes heard)
      → b.desk.escape ≡ a.desk.escape → place_of b.desk ≡ after a.desk.escape (place_of a.desk) heard
      → sent b.first ≡ (sent a.first ++ strokes_by Port.Zero a.desk.port (act_of a.desk heard)) ++ strokes_after ending
      → sent b.second ≡ (sent a.second ++ strokes_by Port.One a.desk.port (act_of a.desk heard)) ++ strokes_after ending
      → Grows (given a.interpreter) (given b.interpreter) (command_in (order_by (act_of a.desk heard) (line_of a.desk)))
      → Says a.desk.escape (place_of a.desk) heard (sent a.notes) (sent b.notes) → ending ≡ ending_of (act_of a.desk heard) (order_by (act_of a.desk heard) (line_of a.desk))
      → SameProducer a.first b.first × SameProducer a.second b.second × SameProducer a.notes b.notes → Listens left given ending a b
  of_heard ending heard a b taken escape place first second commands notes ended rings =
      let p = after a.desk.escape (place_of a.desk) heard in
      let said = notes_by a.desk.escape (place_of a.desk) heard notes.0 in
      let no_line : IfSome ending (λ _. p.line ≡ None) =
      subst (λ l. IfSome l (λ _. p.line ≡ None)) (sym ended) (if_quit (act_of a.desk heard) a.desk.past.items (line_of a.desk)) in
      record {
        heard = heard ∷ [];
        said = said;
        taken = subst (Consumes (left a.source) (left b.source)) (sym (append-nil (heard_bytes heard))) taken;
        escape = escape;
        place = place ∙ closed_place ending p no_line;
        first = first ∙ ap (λ l. (sent a.first ++ l) ++ strokes_after ending) (sym (append-nil (strokes_by Port.Zero a.desk.port (act_of a.desk heard))));
        second = second ∙ ap (λ l. (sent a.second ++ l) ++ strokes_after ending) (sym (append-nil (strokes_by Port.One a.desk.port (act_of a.desk heard))));
        commands = subst (Grows (given a.interpreter) (given b.interpreter)) (sym (append-nil (command_in (order_by (act_of a.desk heard) (line_of a.desk))))) commands;
        quit = ap was_quit ended ∙ quit_by (act_of a.desk heard) (line_of a.desk);
        notes = notes.1 ∙ sym (append-nil (sent a.notes ++ said)) ∙ ap (λ l. (sent a.notes ++ said) ++ l) (sym (none_closing ending p no_line));
        tells = (notes.0, [], sym (append-nil said), refl);
        over = subst (λ e. EndsWith e (left b.source)) (sym ended) (no_byte_ends (act_of a.desk heard) (line_of a.desk) (left b.source));
        same_first = rings.0;
        same_second = rings.1;
        same_notes = rings.2;
      }

  -- nothing was done
  pub none_yet : (a b : Listener S I) → b.source ≡ a.source → b.desk ≡ a.desk → sent b.first ≡ sent a.first → sent b.second ≡ sent a.second
      → sent b.notes ≡ sent a.notes → b.interpreter ≡ a.interpreter
      → SameProducer a.first b.first → SameProducer a.second b.second → SameProducer a.notes b.notes → Listens left given None a b
  none_yet a b source desk first second notes commands one two three =
      of_none None a b refl (subst (λ s. Consumes (left a.source) (left s) []) (sym source) (Consumes-nil (left a.source)))
      (ap (λ d. d.escape) desk) (ap place_of desk)
      (first ∙ sym (append-nil (sent a.first))) (second ∙ sym (append-nil (sent a.second))) (subst (λ i. Grows (given a.interpreter) (given i) []) (sym commands) (grows_none (given a.interpreter)))
      (notes ∙ sym (append-nil (sent a.notes))) tt one two three
