-- What the backup has held is a prefix of the log. Only the entry at the next index is held, and the log has that entry
-- there; a log that grows keeps its prefix, and what is popped only moves to the other list.
use Rattle.std.proofs.Common.{◌≡◌, ℕ, ◌+◌, ◌<◌, Bool, true, false, cond, eqb, List, [], ◌∷◌, ◌++◌, length, take, drop, get_or, Option, Some, None, Result, Ok, Err, refl, sym, ap, subst, ◌∙◌, arith, append_assoc}
use Rattle.std.specs.List.{slice_get}
use Rattle.std.specs.Prelude.{not}
use Rattle.std.proofs.lemmas.Bool.{eqb-true}
use Rattle.std.proofs.lemmas.List.{take-append-le, take_more, length-append}
use Rattle.std.proofs.lemmas.Option.{get_or_from_slice_get, same_Some, slice_get_within}
use Rattle.i8080_words.specs.declared.refusal.Fault.{Fault}
use Rattle.i8080_words.specs.declared.refusal.Fault.TheVariants.{WrongGeneration}
use Rattle.log_entry.specs.declared.entry.Entry.{Entry}
use Rattle.log_channel.specs.declared.packet.Packet.{Packet}
use Rattle.log_channel.specs.declared.packet.Packet.TheVariants.{Log, Ack}
use Rattle.log_channel.specs.Channel.{Receiving, Heard, Refused, OutOfTurn, Next, Answers, heard, holding}
use Rattle.log_channel.specs.Laws.{HoldsFirst, IsSent, KeepsHolding}

-- if nothing changed
unchanged : (es popped : List Entry) (old new : Receiving) → HoldsFirst es popped old → new ≡ old
    → HoldsFirst es popped new
unchanged es popped old new holds same = subst (HoldsFirst es popped) (sym same) holds

-- if the log's next entry is held
one_more : (es popped : List Entry) (e : Entry) (r : Receiving) → HoldsFirst es popped r
    → slice_get es r.held ≡ Some e → HoldsFirst es popped (holding r e)
one_more es popped e r holds sent =
    let inside : r.held < length es = slice_get_within es r.held e sent in
    let there : get_or es r.held e ≡ e = get_or_from_slice_get es r.held e e sent in
    let more : take (r.held + 1) es ≡ take r.held es ++ get_or es r.held e ∷ [] = take_more es r.held e inside in
    let joined = ap (λ (xs : List Entry). xs ++ e ∷ []) holds.prefix in
    let last = ap (λ (x : Entry). take r.held es ++ x ∷ []) (sym there) in
    record {
      prefix = sym (append_assoc popped r.entries (e ∷ [])) ∙ joined ∙ last ∙ sym more;
      within = omega arith;
    }

-- by whether the packet is of this generation and whether its index is the next
abbrev by_tests : Bool → Bool → Entry → Heard
by_tests of_generation in_turn e =
    cond (not of_generation) (Refused WrongGeneration) (cond (not in_turn) OutOfTurn (Next e))

by_turn : (of_generation in_turn : Bool) (es popped : List Entry) (e : Entry) (old new : Receiving)
    (result : Result Bool Fault) → HoldsFirst es popped old
    → (of_generation ≡ true → in_turn ≡ true → slice_get es old.held ≡ Some e)
    → Answers (by_tests of_generation in_turn e) old result new
    → HoldsFirst es popped new
by_turn false in_turn es popped e old new result holds sent answers = unchanged es popped old new holds answers.1
by_turn true false es popped e old new result holds sent answers = unchanged es popped old new holds answers.1
by_turn true true es popped e old new (Ok answer) holds sent answers =
    unchanged es popped (holding old e) new (one_more es popped e old holds (sent refl refl)) answers.1
by_turn true true es popped e old new (Err fault) holds sent answers = unchanged es popped old new holds answers.1

heard_keeps : (es popped : List Entry) (packet : Option Packet) (old new : Receiving) (result : Result Bool Fault)
    → HoldsFirst es popped old → IsSent old.generation es packet
    → Answers (heard old packet) old result new → HoldsFirst es popped new
heard_keeps es popped None old new result holds sent answers = unchanged es popped old new holds answers.1
heard_keeps es popped (Some (Ack generation held replayed)) old new result holds sent answers =
    unchanged es popped old new holds answers.1
heard_keeps es popped (Some (Log generation index e)) old new result holds sent answers =
    by_turn (eqb generation old.generation) (eqb index old.held) es popped e old new result holds
    (λ of_generation in_turn.
    subst (λ (i : ℕ). slice_get es i ≡ Some e) (eqb-true _ _ in_turn) (sent (eqb-true _ _ of_generation)))
    answers

grown_keeps : (es more popped : List Entry) (r : Receiving) → HoldsFirst es popped r → HoldsFirst (es ++ more) popped r
grown_keeps es more popped r holds =
    let within = holds.within in
    record {
      prefix = holds.prefix ∙ sym (take-append-le r.held es more within);
      within = omega (arith, length-append es more);
    }

-- the first of a list that has one, and the others
pub first_and_rest : (es : List Entry) (e : Entry) → slice_get es 0 ≡ Some e → es ≡ e ∷ drop 1 es
first_and_rest [] e first = absurd cc
first_and_rest (x ∷ es) e first = ap (λ (y : Entry). y ∷ es) (same_Some _ _ first)

popped_keeps : (es popped : List Entry) (e : Entry) (r : Receiving) → HoldsFirst es popped r
    → slice_get r.entries 0 ≡ Some e → HoldsFirst es (popped ++ e ∷ []) (record r { entries = drop 1 r.entries })
popped_keeps es popped e r holds first =
    let rest = drop 1 r.entries in
    let split = ap (λ (xs : List Entry). popped ++ xs) (sym (first_and_rest r.entries e first)) in
    record {
      prefix = append_assoc popped (e ∷ []) rest ∙ split ∙ holds.prefix;
      within = holds.within;
    }

pub keeps_holding : KeepsHolding
keeps_holding = record {
  begins = λ es generation. record { prefix = refl; within = omega arith };
  grows = grown_keeps;
  hears = heard_keeps;
  pops = popped_keeps;
}
