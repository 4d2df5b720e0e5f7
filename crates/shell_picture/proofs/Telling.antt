-- Lines that say what is asked for, one after another.
use Rattle.std.proofs.Common.{◌≡◌, ℕ, ◌+◌, ◌-◌, ◌<◌, ◌∷◌, ◌++◌, ◌∙◌, true, refl, [], List, Option, Some, None, Ok, Err, take, length, get_or, codes, ap, sym, subst, eq-eqb, ne_eqb}
use Rattle.std.specs.Prelude.{Result, if◌then◌else◌}
use Rattle.std.specs.Fmt.{decimal}
use Rattle.std.specs.List.{flat_map}
use Rattle.std.proofs.lemmas.List.{flat_map_more, take_more}
use Rattle.i8080_words.specs.Refusals.{number_of}
use Rattle.i8080_words.specs.declared.refusal.Fault.{Fault}
use Rattle.pair_events.specs.Printed.{reply_text}
use Rattle.pair_events.specs.declared.reply.Reply.{Reply}
use Rattle.pair_events.specs.declared.reply.Reply.TheVariants.{Message}
use Rattle.shell_language.specs.Texts.{AddsLine, AddsRow, Prints, Row, Text, Words}
use Rattle.shell_language.specs.declared.printing.Printed.{Printed}
use Rattle.shell_language.specs.declared.tape.Played.{Played}
use Rattle.shell_language.proofs.Adding.{adds_text, prints_one, prints_text, prints_then}
use Rattle.i8080_words.specs.declared.refusal.Fault.TheVariants as refusal
use Rattle.shell_language.specs.Refusals.{refusals}
use Rattle.shell_language.specs.HeldUp.{holds_up, meeting_of}
use Rattle.shell_language.specs.Notes.{waiting_in}
use Rattle.shell_language.specs.declared.book.Book.{Book}
use Rattle.shell_language.specs.declared.book.OutstandingOutput.{OutstandingOutput}
use Rattle.shell_language.specs.declared.held_up.Meeting.{Meeting}
use Rattle.shell_picture.specs.HeldUp.{covered_text, held_if, held_of, held_row, named_last, output_text}
use Rattle.shell_picture.specs.Answers.{done_text, message_text, others_text, refused, refused_text, sum_by, sum_of, sum_row}
use Rattle.shell_picture.specs.declared.answers.Sum.{Sum}

-- a refusal, by its number
pub tells_refused : (fault : Fault) (number : ℕ) (old new : Printed) → number ≡ number_of fault
    → AddsRow (Words (codes "refused " ++ (decimal number ++ codes ", ")) fault []) old new → Prints (refused fault ∷ []) old new
tells_refused fault number old new is h = prints_one (refused fault) old new
    (subst (λ k. AddsRow (Words (codes "refused " ++ (decimal k ++ codes ", ")) fault []) old new) is h)

-- the last message, or that there is none
pub tells_none : (messages count : ℕ) (old new : Printed) → messages ≡ count → messages ≡ 0
    → AddsLine (codes "no message") old new → Prints (Text (message_text count) ∷ []) old new
tells_none messages count old new is none h = prints_text (message_text count) old new (subst (λ t. AddsLine t old new)
    (sym (ap message_text (sym is) ∙ ap (λ b. if b then codes "no message" else reply_text (Message (messages - 1))) (eq-eqb messages 0 none))) h)

pub tells_last : (messages count : ℕ) (old new : Printed) → messages ≡ count → (messages ≡ 0 → ⊥)
    → AddsLine (reply_text (Message (messages - 1))) old new → Prints (Text (message_text count) ∷ []) old new
tells_last messages count old new is some h = prints_text (message_text count) old new (subst (λ t. AddsLine t old new)
    (sym (ap message_text (sym is) ∙ ap (λ b. if b then codes "no message" else reply_text (Message (messages - 1))) (ne_eqb messages 0 some))) h)

-- the sum of a tape
by_sum : (tape : List Played) (sum : Sum) (last : Option (Result Reply Fault)) → sum ≡ sum_of tape → sum.last ≡ last
    → sum_row tape ≡ sum_by last sum.happened sum.refused
by_sum tape sum last is so = ap (λ (s : Sum). sum_by s.last s.happened s.refused) (sym is)
    ∙ ap (λ l. sum_by l sum.happened sum.refused) so

pub tells_nothing : (tape : List Played) (sum : Sum) (old new : Printed) → sum ≡ sum_of tape → sum.last ≡ None
    → AddsLine (codes "nothing to do") old new → Prints (sum_row tape ∷ []) old new
tells_nothing tape sum old new is so h = prints_one (sum_row tape) old new
    (subst (λ r. AddsRow r old new) (sym (by_sum tape sum None is so)) (adds_text (codes "nothing to do") old new h))

pub tells_done : (tape : List Played) (sum : Sum) (reply : Reply) (old new : Printed) → sum ≡ sum_of tape
    → sum.last ≡ Some (Ok reply)
    → AddsLine (decimal sum.happened ++ (codes " done, the last: " ++ (reply_text reply ++ others_text sum.refused))) old new
    → Prints (sum_row tape ∷ []) old new
tells_done tape sum reply old new is so h = prints_one (sum_row tape) old new
    (subst (λ r. AddsRow r old new) (sym (by_sum tape sum (Some (Ok reply)) is so))
    (adds_text (done_text sum.happened (reply_text reply ++ others_text sum.refused)) old new h))

pub tells_refusal : (tape : List Played) (sum : Sum) (fault : Fault) (number : ℕ) (old new : Printed) → sum ≡ sum_of tape
    → sum.last ≡ Some (Err fault) → number ≡ number_of fault
    → AddsRow (Words (decimal sum.happened ++ (codes " done, the last: refused " ++ (decimal number ++ codes ", "))) fault
    (others_text sum.refused)) old new → Prints (sum_row tape ∷ []) old new
tells_refusal tape sum fault number old new is so counts h = prints_one (sum_row tape) old new
    (subst (λ r. AddsRow r old new) (sym (by_sum tape sum (Some (Err fault)) is so))
    (subst (λ k. AddsRow (Words (decimal sum.happened ++ (codes " done, the last: refused " ++ (decimal k ++ codes ", "))) fault
    (others_text sum.refused)) old new) counts h))

-- some lines for each of a list
pub tells_some_more : {A : Type 0} (rows : A → List Row) (all : List A) (i : ℕ) (d : A) (old mid new : Printed) → i < length all
    → Prints (flat_map rows (take i all)) old mid → Prints (rows (get_or all i d)) mid new
    → Prints (flat_map rows (take (i + 1) all)) old new
tells_some_more rows all i d old mid new less h more =
    subst (λ r. Prints r old new)
    (flat_map_more rows [] (take i all) (get_or all i d) ∙ ap (flat_map rows) (sym (take_more all i d less)))
    (prints_then (flat_map rows (take i all)) (rows (get_or all i d)) old mid new h more)

-- the line of a refusal that holds something up, other than that output is not covered
other_row : (fault : Fault) (met : Meeting) (book : Book) → (fault ≡ refusal.NotCovered → ⊥) → held_row fault met book
    ≡ Words (codes "  " ++ (decimal met.times ++ (codes " events" ++ (named_last met.last ++ (codes ": " ++ refused_text fault))))) fault []
other_row refusal.OutOfMemory met book not = refl
other_row refusal.Spent met book not = refl
other_row refusal.LogFull met book not = refl
other_row refusal.NotDue met book not = refl
other_row refusal.WrongNumber met book not = refl
other_row refusal.StaleRead met book not = refl
other_row refusal.SectorBusy met book not = refl
other_row refusal.WrongRole met book not = refl
other_row refusal.WrongGeneration met book not = refl
other_row refusal.Malformed met book not = refl
other_row refusal.NotWhole met book not = refl
other_row refusal.DeviceFault met book not = refl
other_row refusal.Lost met book not = refl
other_row refusal.Unknown met book not = refl
other_row refusal.BadAck met book not = refl
other_row refusal.Stalled met book not = refl
other_row refusal.Idle met book not = refl
other_row (refusal.BadScript line) met book not = refl
other_row refusal.NotCovered met book not = absurd (not refl)

pub tells_held : (fault : Fault) (met : Meeting) (book : Book) (waiting : OutstandingOutput) (number : ℕ) (old new : Printed)
    → waiting ≡ waiting_in book → holds_up fault met waiting ≡ true → number ≡ number_of fault → (fault ≡ refusal.NotCovered → ⊥)
    → AddsRow (Words (codes "  " ++ (decimal met.times ++ (codes " events" ++ (named_last met.last
    ++ (codes ": refused " ++ (decimal number ++ codes ", ")))))) fault []) old new → Prints (held_if fault met book) old new
tells_held fault met book waiting number old new is holds counts not h =
    subst (λ b. Prints (if b then held_row fault met book ∷ [] else []) old new)
    (sym (ap (holds_up fault met) (sym is) ∙ holds))
    (prints_one (held_row fault met book) old new (subst (λ r. AddsRow r old new) (sym (other_row fault met book not))
    (subst (λ k. AddsRow (Words (codes "  " ++ (decimal met.times ++ (codes " events" ++ (named_last met.last
    ++ (codes ": refused " ++ (decimal k ++ codes ", ")))))) fault []) old new) counts h)))

-- that of output that is not covered
uncovered_row : (fault : Fault) (met : Meeting) (book : Book) → fault ≡ refusal.NotCovered → held_row fault met book
    ≡ Words (codes "  " ++ (output_text (waiting_in book) ++ (codes ": " ++ refused_text fault))) fault (covered_text book)
uncovered_row fault met book is = subst (λ (f : Fault). held_row f met book
    ≡ Words (codes "  " ++ (output_text (waiting_in book) ++ (codes ": " ++ refused_text f))) f (covered_text book)) (sym is) refl

pub tells_uncovered : (fault : Fault) (met : Meeting) (book : Book) (waiting : OutstandingOutput) (number : ℕ) (old new : Printed)
    → fault ≡ refusal.NotCovered → waiting ≡ waiting_in book → holds_up fault met waiting ≡ true → number ≡ number_of fault
    → AddsRow (Words (codes "  " ++ (output_text waiting ++ (codes ": refused " ++ (decimal number ++ codes ", ")))) fault
    (covered_text book)) old new → Prints (held_if fault met book) old new
tells_uncovered fault met book waiting number old new not is holds counts h =
    subst (λ b. Prints (if b then held_row fault met book ∷ [] else []) old new)
    (sym (ap (holds_up fault met) (sym is) ∙ holds))
    (prints_one (held_row fault met book) old new (subst (λ r. AddsRow r old new) (sym (uncovered_row fault met book not))
    (subst (λ (w : OutstandingOutput). AddsRow (Words (codes "  " ++ (output_text w
    ++ (codes ": refused " ++ (decimal (number_of fault) ++ codes ", ")))) fault (covered_text book)) old new) is
    (subst (λ (k : ℕ). AddsRow (Words (codes "  " ++ (output_text waiting
    ++ (codes ": refused " ++ (decimal k ++ codes ", ")))) fault (covered_text book)) old new) counts h))))

-- what is told of one refusal more
pub tells_held_more : (tape : List Played) (book : Book) (all : List Fault) (i : ℕ) (d : Fault) (met : Meeting)
    (old mid new : Printed) → all ≡ refusals → met ≡ meeting_of (get_or all i d) tape → i < length all
    → Prints (flat_map (held_of tape book) (take i refusals)) old mid → Prints (held_if (get_or all i d) met book) mid new
    → Prints (flat_map (held_of tape book) (take (i + 1) refusals)) old new
tells_held_more tape book all i d met old mid new is meets less h more =
    subst (λ l. Prints (flat_map (held_of tape book) (take (i + 1) l)) old new) is
    (tells_some_more (held_of tape book) all i d old mid new less
    (subst (λ l. Prints (flat_map (held_of tape book) (take i l)) old mid) (sym is) h)
    (subst (λ m. Prints (held_if (get_or all i d) m book) mid new) meets more))
