-- A run that a recorder logs call by call, and those of its entries that arrived at a receiver: for a guest in the state in
-- which the run began, they are the next entries of that run.
use Rattle.std.proofs.Common.{◌≡◌, ℕ, ◌-◌, Bool, false, cond, List, [], ◌∷◌, ◌++◌, drop, Option, Some, None, Result, Ok, Err, refl, sym, ap, subst, ◌∙◌, arith, nat_lt}
use Rattle.std.specs.List.{slice_get}
use Rattle.std.specs.Result.{OnOk}
use Rattle.std.proofs.lemmas.Bool.{le-ltb}
use Rattle.std.proofs.lemmas.List.{append-nil, take-append-drop}
use Rattle.guest_lockstep.specs.Machine.{Machine, Move, Take}
use Rattle.guest_lockstep.specs.Recorded.{Counts}
use Rattle.guest_lockstep.specs.declared.input.Input.{Input}
use Rattle.guest_lockstep.specs.declared.reads.Reads.{Reads}
use Rattle.i8080_words.specs.declared.refusal.Fault.{Fault}
use Rattle.log_buffer.specs.Log.{Log, kept, log, kept_at}
use Rattle.log_channel.proofs.SentEntries.{keeps_holding}
use Rattle.log_channel.specs.Channel.{Receiving, Answers, heard}
use Rattle.log_channel.specs.Laws.{HoldsFirst, IsSent}
use Rattle.log_channel.specs.Packet.{packet_at}
use Rattle.log_channel.specs.declared.packet.Packet.TheVariants as packet
use Rattle.log_entry.specs.Standing.{IsOnTrace}
use Rattle.log_entry.specs.declared.entry.Entry.{Entry}
use Rattle.recorder.proofs.Advances.{records_steps}
use Rattle.recorder.proofs.Recorded.{Records-append}
use Rattle.recorder.specs.Laws.{Records, RecordsSteps}
use Rattle.recorder.specs.Recording.{AdvancesUnless, Offers}
use Rattle.guest_lockstep.specs.declared.running.Stopped.{Stopped}

-- ---- what is logged

-- some moves were recorded
abbrev pub Logged : {S : Type 0} → Machine S → Reads → S → Log → S → Log → Type 0
Logged M reads s before t new = (moves : List Move) × Records M reads s before moves t new

pub advance_logs : {S : Type 0} (M : Machine S) (reads : Reads) (s t : S) (before new : Log) (turns : ℕ)
    (refusal : Option Fault)
    (result : Result Stopped Fault) (a : Stopped) → Counts M → result ≡ Ok a
    → AdvancesUnless M kept s before turns refusal result t new → Logged M reads s before t new
advance_logs M reads s t before new turns (Some fault) result a counts made answer =
    let no : Ok a ≡ Err fault = sym made ∙ answer.0 in absurd cc
advance_logs M reads s t before new turns None result a counts made answer =
    let advances : AdvancesUnless M kept s before turns None (Ok a) t new =
    subst (λ result. AdvancesUnless M kept s before turns None result t new) made answer in
    let steps : RecordsSteps M reads s before a t new = records_steps M reads s t before new turns a counts advances.0
    in
    (steps.moves, steps.records)

pub offer_logs : {S : Type 0} (M : Machine S) (reads : Reads) (s t : S) (before new : Log) (input : Input)
    (result : Result ℕ Fault)
    (index : ℕ) → result ≡ Ok index → Offers M kept reads s before input result t new → Logged M reads s before t new
offer_logs M reads s t before new input result index taken answer =
    let offers : Offers M kept reads s before input (Ok index) t new =
    subst (λ result. Offers M kept reads s before input result t new) taken answer in (
      Take input ∷ [],
      record {
        runs = (t, offers.0, refl);
        first = ap (λ (l : Log). l.first) offers.1;
        pushes = ap (λ (l : Log). l.entries) offers.1;
      },
    )

-- no moves log nothing
pub nothing : {S : Type 0} (M : Machine S) (reads : Reads) (s : S) (l : Log) → Logged M reads s l s l
nothing M reads s l = ([], record { runs = refl; first = refl; pushes = sym (append-nil l.entries) })

-- two runs, one after the other, are one run, and what both log is what it logs
pub and_then : {S : Type 0} {M : Machine S} {reads : Reads} {s t u : S} {before middle new : Log} → Counts M
    → Logged M reads s before t middle
    → Logged M reads t middle u new → Logged M reads s before u new
and_then {S} {M} {reads} {s} {t} {u} {before} {middle} {new} counts a b =
    (a.0 ++ b.0, Records-append M reads s t u before middle new a.0 b.0 counts a.1 b.1)

-- ---- what is held

-- a log from which nothing was dropped keeps each entry at its index
kept_from_0 : (first : ℕ) (es : List Entry) (index : ℕ) (e : Entry) → first ≡ 0
    → kept_at (log first es) index ≡ Some e → slice_get es index ≡ Some e
kept_from_0 first es index e at_0 kept =
    let inside : nat_lt index first ≡ false = le-ltb index first (omega arith) in
    let place : index - first ≡ index = omega arith in
    subst (λ place. slice_get es place ≡ Some e) place
    (subst (λ below. cond below None (slice_get es (index - first)) ≡ Some e) inside kept)

-- what is held after the packet of an entry came, where the packet was read as that entry
pub holds_next : (l : Log) (old new : Receiving) (index : ℕ) (e : Entry) (bytes : List ℕ) (result : Result Bool Fault)
    → l.first ≡ 0 → old.generation ≡ 1 → HoldsFirst l.entries [] old
    → kept_at l index ≡ Some e → packet_at bytes ≡ Some (packet.Log 1 index e)
    → Answers (heard old (packet_at bytes)) old result new → HoldsFirst l.entries [] new
holds_next l old new index e bytes result at_0 generation holds kept found answers =
    let there : slice_get l.entries index ≡ Some e = kept_from_0 l.first l.entries index e at_0 kept in
    let sent : IsSent old.generation l.entries (Some (packet.Log 1 index e)) = λ _. there in
    keeps_holding.hears l.entries [] (packet_at bytes) old new result holds
    (subst (λ p. IsSent old.generation l.entries p) (sym found) sent) answers

-- ---- where a replayer stands

on_trace : {S : Type 0} (M : Machine S) (reads : Reads) (s t : S) (new : Log) (r : Receiving)
    → Logged M reads s (log 0 []) t new
    → HoldsFirst new.entries [] r → IsOnTrace M s r.entries None
on_trace M reads s t new r logged holds = record {
  reads = reads;
  owes = false;
  moves = logged.0;
  last = t;
  stands = record {
    runs = logged.1.runs;
    later = drop r.held new.entries;
    next_ones =
        ap (λ (held : List Entry). held ++ drop r.held new.entries) holds.prefix
        ∙ take-append-drop r.held new.entries ∙ logged.1.pushes;
    takes = tt;
  };
}

-- a guest that stands where the recorder began, with an empty log, stands on the run that was logged
pub repeats : {S : Type 0} (M : Machine S) (reads : Reads) (start s t : S) (before new sent : Log) (r : Receiving)
    → s ≡ start
    → before ≡ log 0 [] → Logged M reads s before t new → sent ≡ new → HoldsFirst sent.entries [] r
    → IsOnTrace M start r.entries None
repeats M reads start s t before new sent r at_start empty logged same holds =
    on_trace M reads start t new r
    (subst (λ s. Logged M reads s (log 0 []) t new) at_start
    (subst (λ before. Logged M reads s before t new) empty logged))
    (subst (λ (l : Log). HoldsFirst l.entries [] r) same holds)

-- whatever comes of a call, a fact holds if it gives a value
pub when_ok : {T E P : Type 0} (r : Result T E) → P → OnOk r P
when_ok (Ok _) p = p
when_ok (Err _) _ = tt
