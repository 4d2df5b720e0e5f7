-- Both ends of the rings of a console: what came out is the first part of what went in.
use Rattle.std.proofs.Common.{◌≡◌, ℕ, List, [], ◌++◌, Option, Some, None, refl, sym, ap, ◌∙◌, subst, append-nil, append_assoc}
use Rattle.command_console.specs.Rings.{ComesOutOf, GoesInto, IsKeyboardOf, IsScreenOf}
use Rattle.console_terminal.specs.Listening.{last_strokes}
use Rattle.console_terminal.specs.declared.listener.Ending.{Ending}
use Rattle.console_terminal.proofs.Seen.{shown_both}
use Rattle.console_terminal.specs.Lines.{HasGone, HasShown, IsSameEnd, IsSameStart, came_by, gone_by, heard, keys_in, shown_at}
use Rattle.console_terminal.specs.declared.keyboard.Keyboard.{Keyboard}
use Rattle.console_terminal.specs.declared.keyboard.Stroke.{Stroke}
use Rattle.console_terminal.specs.declared.screen.Screen.{Screen}
use Rattle.console_terminal.specs.declared.screen.Shown.{Shown}
use Rattle.console_terminal.proofs.Joined.{keys_in_both}
use Rattle.pair_protocol.specs.Faithful.{IsPrefix}
use Rattle.rtrb.specs.Ring.{IsPair, SameConsumer, SameProducer, received, sent}
use Rattle.std.specs.Global.{Global}
use Rattle.rtrb.specs.declared.AnyItems.{AnyItems}
use Rattle.rtrb.specs.declared.consumer.Consumer.{Consumer}
use Rattle.rtrb.specs.declared.producer.Producer.{Producer}

-- ---- the same ring

pair_on : {T A P : Type 0} (to to' : Producer T A P) (from from' : Consumer T A P) → IsPair to from → SameProducer to to'
    → SameConsumer from from' → IsPair to' from'
pair_on to to' from from' p q r =
    (r.0.0 ∙ p.0 ∙ sym q.0.0, r.0.1 ∙ p.1 ∙ sym q.0.1, r.0.2 ∙ p.2 ∙ sym q.0.2, r.0.3 ∙ p.3 ∙ sym q.0.3)

pub comes_out : (to to' : Producer Stroke Global AnyItems) (k k' : Keyboard) → IsKeyboardOf to k → SameProducer to to' → IsSameEnd k.ring k'.ring
    → ComesOutOf to' k'.ring
comes_out to to' k k' is same ends = go k'.ring (subst (λ r. IsSameEnd r k'.ring) is.ring ends)
  where
    go : (ring : Option (Consumer Stroke Global AnyItems)) → IsSameEnd (Some is.from) ring → ComesOutOf to' ring
    go None e = absurd e
    go (Some from') e = pair_on to to' is.from from' is.pair same e

pub goes_into : (from from' : Consumer Shown Global AnyItems) (s s' : Screen) → IsScreenOf from s → IsSameStart s.ring s'.ring
    → SameConsumer from from' → GoesInto s'.ring from'
goes_into from from' s s' is starts same = go s'.ring (subst (λ r. IsSameStart r s'.ring) is.ring starts)
  where
    go : (ring : Option (Producer Shown Global AnyItems)) → IsSameStart (Some is.to) ring → GoesInto ring from'
    go None e = absurd e
    go (Some to') e = pair_on is.to to' from from' is.pair e same

-- ---- keys

keys_first : (xs ys : List Stroke) → IsPrefix xs ys → IsPrefix (keys_in xs) (keys_in ys)
keys_first xs ys h = (keys_in h.0, sym (keys_in_both xs h.0) ∙ ap keys_in h.1)

last_none : (ending : Ending) → keys_in (last_strokes ending) ≡ []
last_none Ending.Stopped = refl
last_none Ending.Quit = refl
last_none Ending.EndOfInput = refl
last_none Ending.Failed = refl

-- the keys that came from a keyboard are the first of those among the strokes that were sent to it
pub came : (to to' : Producer Stroke Global AnyItems) (k k' : Keyboard) (more : List ℕ) (strokes : List Stroke) (ending : Ending)
    → IsKeyboardOf to k → heard k' ≡ heard k ++ more → sent to' ≡ (sent to ++ strokes) ++ last_strokes ending
    → IsPrefix (came_by k'.ring) (sent to') → IsPrefix more (keys_in strokes)
came to to' k k' more strokes ending is heard_is went first =
    let none : heard k ≡ [] = ap (λ r. keys_in (came_by r)) is.ring ∙ ap keys_in is.none_came in
    let more_is : heard k' ≡ more = heard_is ∙ ap (λ l. l ++ more) none in
    let all : keys_in (sent to') ≡ keys_in strokes =
    ap keys_in went ∙ keys_in_both (sent to ++ strokes) (last_strokes ending)
    ∙ ap (λ l. keys_in (sent to ++ strokes) ++ l) (last_none ending) ∙ append-nil (keys_in (sent to ++ strokes))
    ∙ ap (λ l. keys_in (l ++ strokes)) is.none_sent in
    subst (λ l. IsPrefix l (keys_in strokes)) more_is
    (subst (λ l. IsPrefix (heard k') l) all (keys_first (came_by k'.ring) (sent to') first))

-- ---- bytes

-- nothing was shown before
pub none_shown : (from : Consumer Shown Global AnyItems) (s : Screen) (port : ℕ) → IsScreenOf from s → HasShown s port []
none_shown from s port is =
    subst (λ r. HasGone r port []) (sym is.ring) (ap (shown_at port) is.none_sent)

-- what was written of a terminal, and kept, is the first part of what it has accepted
pub shown_first : (from' : Consumer Shown Global AnyItems) (ring : Option (Producer Shown Global AnyItems)) (port : ℕ) (guest kept accepted : List Shown)
    (bytes : List ℕ) → received from' ≡ accepted → shown_at port guest ++ shown_at port kept ≡ shown_at port accepted
    → HasGone ring port bytes → GoesInto ring from' → IsPrefix (received from') (gone_by ring)
    → IsPrefix (shown_at port guest) bytes
shown_first from' None port guest kept accepted bytes got split gone into first = absurd into
shown_first from' (Some to) port guest kept accepted bytes got split gone into first =
    let rest = first.0 in (
      shown_at port kept ++ shown_at port rest,
      sym (append_assoc (shown_at port guest) (shown_at port kept) (shown_at port rest))
          ∙ ap (λ l. l ++ shown_at port rest) (split ∙ ap (shown_at port) (sym got))
          ∙ sym (shown_both port (received from') rest) ∙ ap (shown_at port) first.1 ∙ gone,
    )
