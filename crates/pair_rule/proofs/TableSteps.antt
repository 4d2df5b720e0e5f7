-- Each kind of step of the table is events of the world, or none; and what held still holds.
use Rattle.std.proofs.Common.{◌≡◌, ℕ, zero, suc, ◌<◌, ◌≤◌, List, [], ◌∷◌, sym, refl, ap, ◌∙◌, subst, inl, inr, ◌⊎◌, arith, Option, Some, None}
use Rattle.pair_rule.proofs.Words.{Answer, Answers, AnswersRead, AsksRead, BackupAsks, Byte, Bytes0, Bytes1, CanFill, CountEvents, CountsNone, EmptyEvents, Event, EventsOf, FillEvents, Fits, HasAnswer, HasEvents, HasNoEvents, Inbox, IsByteOf, Keeps, Knowledge, Log, Machine, Mailbox, Operation, Out, Outbox, Payload, PrimaryAsks, Promised, Request, Requests, SilentStep, Stands, Stays, Suspect, TableStepsAreSteps, TakesByte0, TakesByte1, TakesRequest, ThreadStep, WhereSome, Write, accepted_at, after_empty, after_fill, backup_asked, byte_arrived, counted_at, emptier, filler, hand_of, primary_asked, winner_of}
use Rattle.pair_rule.specs.declared.payload.DiskAnswer.TheVariants as answer
use Rattle.pair_rule.specs.declared.payload.DiskRequest.TheVariants as ask
use Rattle.pair_rule.specs.Law as law
use Rattle.pair_rule.specs.Steps.{AsksNot, Fills, Empties, Appends, Sees, Holds, Counts, SeesCount}
use Rattle.pair_rule.proofs.Emptied.{empty_keeps}
use Rattle.pair_rule.proofs.Filled.{fill_keeps}
use Rattle.pair_rule.proofs.WordChanges.{append_stays, see_stays, hold_stays, primary_asks, backup_asks, came_stays, count_stays}

module _ {S : Type 0} (M : Machine S) (typed0 typed1 : List ℕ) (k : Knowledge) (st : Stands k) where
  -- a step of the laws whose events are those of a row, or none
  abbrev Step : Knowledge → (List Event → Type 0) → Type 0
  Step new Row = HasEvents M typed0 typed1 k new Row ⊎ HasNoEvents M k new Row

  events_of : {new : Knowledge} {Row : List Event → Type 0} (step : ThreadStep M typed0 typed1 k new)
      → ((events : List Event) → EventsOf step events → Row events) → Step new Row
  events_of step row = inl record { step = step; row = row }

  no_events : {new : Knowledge} {Row : List Event → Type 0} → SilentStep M k new → Row [] → Step new Row
  no_events step row = inr record { step = step; row = row }

  fills : (b : Mailbox) (q : Payload) → AsksNot (filler b) k → CanFill b k q → Promised M k b q
      → Step (after_fill b q k) (FillEvents b q)
  fills Outbox (Log p) asks can kept = no_events Keeps refl
  fills Inbox (Log p) asks can kept = no_events Keeps refl
  fills Bytes0 (Out (Byte to number byte)) asks can kept =
      events_of (law.Releases (Byte to number byte) kept.0 (omega (arith, can)) asks kept.1) (λ events is. is)
  fills Bytes1 (Out (Byte to number byte)) asks can kept =
      events_of (law.Releases (Byte to number byte) kept.0 (omega (arith, can)) asks kept.1) (λ events is. is)
  fills Requests (Request (ask.Write w)) asks can kept =
      events_of (law.Releases (Write w) kept.0 tt asks kept.1) (λ events is. is)
  fills Requests (Request (ask.Read a)) asks can kept = no_events (AsksRead a) refl
  fills Answers (Answer (answer.Written n)) asks can ((w, taken, is), boots) =
      subst (λ m. Step (after_fill Answers (Answer (answer.Written m)) k) (FillEvents Answers (Answer (answer.Written m))))
      (sym is) (events_of (law.Puts w taken) (λ events is. is))
  fills Answers (Answer (answer.Read r)) asks can ((a, taken, at, last), boots) =
      no_events (AnswersRead a r taken boots) refl
  fills _ _ asks can kept = absurd can

  empties : (b : Mailbox) (q : Payload) → AsksNot (emptier b) k → Fits b k q
      → Step (after_empty b q k) (EmptyEvents b q)
  empties Outbox (Log p) asks fit = no_events (law.Carries p) refl
  empties Inbox (Log p) asks fit = events_of (law.Takes p asks fit) (λ events is. is)
  empties Bytes0 (Out o) asks fit = no_events (TakesByte0 o) refl
  empties Bytes1 (Out o) asks fit = no_events (TakesByte1 o) refl
  empties Requests (Request r) asks fit = no_events (TakesRequest r) refl
  empties Answers (Answer a) asks fit = no_events (HasAnswer a) refl
  empties _ _ asks fit = absurd fit

  -- a primary that asks finds no winner, or the backup; a backup finds none, or the primary
  abbrev PrimaryStep : ℕ → Type 0
  PrimaryStep n = Step (primary_asked n k) (λ events. events ≡ Suspect 0 ∷ [])

  primary_step : k.primary.winner ≡ 0 → PrimaryStep (winner_of k.primary.winner k.backup.winner)
  primary_step none = subst PrimaryStep (ap (λ p. winner_of p k.backup.winner) (sym none)) (go k.backup.winner refl)
    where
      go : (n : ℕ) → k.backup.winner ≡ n → PrimaryStep k.backup.winner
      go zero is = subst PrimaryStep (sym is) (events_of (law.PrimaryWins none is) (λ events is. is))
      go (suc zero) is = let d = st.decided.backup_lost is in absurd (omega (arith, d, none))
      go (suc (suc zero)) is = subst PrimaryStep (sym is) (events_of (law.PrimaryLoses none is) (λ events is. is))
      go (suc (suc (suc n))) is = let f =
          st.decided.few in let e : winner_of k.primary.winner k.backup.winner ≡ suc (suc (suc n)) =
          ap (λ p. winner_of p k.backup.winner) none ∙ is in absurd (omega (arith, f, e))

  abbrev BackupStep : ℕ → Type 0
  BackupStep n = Step (backup_asked n k) (λ events. events ≡ Suspect 1 ∷ [])

  backup_step : k.backup.winner ≡ 0 → BackupStep (winner_of k.primary.winner k.backup.winner)
  backup_step none = go k.primary.winner refl
    where
      go : (n : ℕ) → k.primary.winner ≡ n → BackupStep (winner_of k.primary.winner k.backup.winner)
      go zero is = subst BackupStep (sym (ap (λ p. winner_of p k.backup.winner) is ∙ none))
          (events_of (law.BackupWins is none) (λ events is. is))
      go (suc zero) is = subst BackupStep (ap (λ p. winner_of p k.backup.winner) (sym is))
          (events_of (law.BackupLoses is none) (λ events is. is))
      go (suc (suc zero)) is = let d = st.decided.primary_lost is in absurd (omega (arith, d, none))
      go (suc (suc (suc n))) is = let f =
          st.decided.few in let e : winner_of k.primary.winner k.backup.winner ≡ suc (suc (suc n)) =
          ap (λ p. winner_of p k.backup.winner) is in absurd (omega (arith, f, e))

  -- a terminal counts the byte in its hand, or none
  counts : (port : ℕ) → port < 2 → (hand : Option Operation) → hand_of port k ≡ hand
      → WhereSome hand (IsByteOf port k.primary.released) → Step (byte_arrived port k) (CountEvents hand)
  counts port two None is there = no_events (CountsNone port is) refl
  counts port two (Some (Byte to number byte)) is there =
      events_of (law.Arrives port number byte two (is ∙ ap (λ p. Some (Byte p number byte)) there.0)) (λ events is. is)
  counts port two (Some (Write w)) is there = absurd there

  hand_there : (port : ℕ) → port < 2 → WhereSome (hand_of port k) (IsByteOf port k.primary.released)
  hand_there zero two = st.port0.in_hand
  hand_there (suc zero) two = st.port1.in_hand
  hand_there (suc (suc port)) two = absurd (omega arith)

-- no more was seen counted than is
counted_before : (k : Knowledge) → Stands k → (port : ℕ) → counted_at port k ≤ accepted_at port k
counted_before k st zero = st.port0.accepted
counted_before k st (suc port) = st.port1.accepted

pub table_steps : {S : Type 0} → TableStepsAreSteps S
table_steps M typed0 typed1 k new st Stays = record { stands = st; step = no_events M typed0 typed1 k st Keeps refl }
table_steps M typed0 typed1 k new st (Fills b q asks can kept) = record {
  stands = (fill_keeps k st b q can).0.stands;
  step = fills M typed0 typed1 k st b q asks can kept;
}
table_steps M typed0 typed1 k new st (Empties b q asks fit) = record {
  stands = (empty_keeps k st b q fit).stands;
  step = empties M typed0 typed1 k st b q asks fit;
}
table_steps M typed0 typed1 k new st (Appends e run may told) = record {
  stands = (append_stays k st e).0;
  step = events_of M typed0 typed1 k st (law.Appends e run may told) (λ events is. is);
}
table_steps M typed0 typed1 k new st (Sees asks) = record {
  stands = (see_stays k st).0;
  step = events_of M typed0 typed1 k st (law.Sees asks) (λ events is. is);
}
table_steps M typed0 typed1 k new st (Holds asks) = record {
  stands = (hold_stays k st).0;
  step = events_of M typed0 typed1 k st (law.Holds asks) (λ events is. is);
}
table_steps M typed0 typed1 k new st (PrimaryAsks asks) = record {
  stands = (primary_asks k st).0.0;
  step = primary_step M typed0 typed1 k st asks;
}
table_steps M typed0 typed1 k new st (BackupAsks asks) = record {
  stands = (backup_asks k st).0.0;
  step = backup_step M typed0 typed1 k st asks;
}
table_steps M typed0 typed1 k new st (Counts port two) = record {
  stands = (came_stays k st port).0;
  step = counts M typed0 typed1 k st port two (hand_of port k) refl (hand_there M typed0 typed1 k st port two);
}
table_steps M typed0 typed1 k new st (SeesCount port two asks) = record {
  stands = (count_stays k st port).0;
  step = no_events M typed0 typed1 k st (law.SeesCount port _ (counted_before k st port)) refl;
}
