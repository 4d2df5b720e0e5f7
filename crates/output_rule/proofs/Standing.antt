-- What holds of every coverage holds after every change: a note that may be added is apart from the others, a filter keeps
-- what holds of each two, and an acknowledgement raises each number of keys by no more than it raises the acknowledged number.
use Rattle.std.proofs.Common.{◌≡◌, ℕ, zero, suc, ◌+◌, ◌<◌, ◌≤◌, Bool, not, List, [], ◌∷◌, length, None, refl, arith}
use Rattle.std.specs.Prelude.{slice_index}
use Rattle.std.specs.List.{filter}
use Rattle.std.proofs.lemmas.List.{length-append}
use Rattle.std.proofs.lemmas.List.Kept.{AllPairs-filter}
use Rattle.i8080_words.specs.declared.limits.TheConstants.{GREATEST_NUMBER}
use Rattle.event_callbacks.specs.declared.operations.OpId.{OpId}
use Rattle.log_buffer.specs.Log.{Log}
use Rattle.output_rule.specs.Covering.{Covering, IsCovering, after_note, after_forget, last_read_for}
use Rattle.output_rule.specs.Keys.{between, with_keys}
use Rattle.output_rule.specs.Notes.{note_in, same_name, AreApart}
use Rattle.output_rule.specs.declared.notes.TheConstants.{PLACES}
use Rattle.output_rule.specs.declared.notes.Note.{Note}
use Rattle.output_rule.proofs.KeysBetween.{keys_in_between-few}
use Rattle.output_rule.proofs.NoteLists.{apart-with_note}

pub IsCovering-note : (c : Covering) (id : OpId) (index : ℕ) → IsCovering c → length c.notes < PLACES
    → note_in c.notes id ≡ None → IsCovering (after_note c id index)
IsCovering-note c id index h room none = record {
  few = let more = length-append c.notes (record { id = id; index = index; after = last_read_for c id } ∷ []) in omega arith;
  apart = apart-with_note c.notes id index (last_read_for c id) none h.apart;
  acknowledged = h.acknowledged;
  ports = h.ports;
  keys = h.keys;
}

-- a filter makes no list longer
length-filter_le : {X : Type 0} (p : X → Bool) (xs : List X) → length (filter p xs) ≤ length xs
length-filter_le p [] = omega arith
length-filter_le p (x ∷ xs) = grind (arith, length-filter_le p xs)

pub IsCovering-forget : (c : Covering) (id : OpId) → IsCovering c → IsCovering (after_forget c id)
IsCovering-forget c id h =
    let others : Note → Bool = λ note. not (same_name note.id id) in
    record {
      few = let shorter = length-filter_le others c.notes in omega arith;
      apart = AllPairs-filter AreApart others c.notes h.apart;
      acknowledged = h.acknowledged;
      ports = h.ports;
      keys = h.keys;
    }

-- the numbers of keys with those of a part of the log
keys-raised : (keys : List ℕ) (l : Log) (from to : ℕ) → from ≤ to
    → ((port : ℕ) → slice_index keys port ≤ GREATEST_NUMBER + from)
    → (port : ℕ) → slice_index (with_keys keys (between l from to)) port ≤ GREATEST_NUMBER + to
keys-raised keys l from to order fits zero =
    let few = keys_in_between-few l 0 from to in
    let before = fits 0 in
    omega arith
keys-raised keys l from to order fits (suc zero) =
    let few = keys_in_between-few l 1 from to in
    let before = fits 1 in
    omega arith
keys-raised keys l from to order fits (suc (suc port)) = omega arith

-- a report of what is replayed
pub IsCovering-reported : (c : Covering) (replayed : ℕ) → IsCovering c → IsCovering (record c { reported = replayed })
IsCovering-reported c replayed h = record {
  few = h.few;
  apart = h.apart;
  acknowledged = h.acknowledged;
  ports = h.ports;
  keys = h.keys;
}

-- an acknowledgement, if all was covered before, and if it was not
pub IsCovering-held : (c : Covering) (held : ℕ) → IsCovering c → c.acknowledged ≤ held → held ≤ GREATEST_NUMBER
    → IsCovering (record c { acknowledged = held })
IsCovering-held c held h order limit = record {
  few = h.few;
  apart = h.apart;
  acknowledged = limit;
  ports = h.ports;
  keys = λ port. let before = h.keys port in omega arith;
}

pub IsCovering-told : (c : Covering) (l : Log) (held : ℕ) → IsCovering c → c.acknowledged ≤ held → held ≤ GREATEST_NUMBER
    → IsCovering (record c { acknowledged = held; keys = with_keys c.keys (between l c.acknowledged held) })
IsCovering-told c l held h order limit = record {
  few = h.few;
  apart = h.apart;
  acknowledged = limit;
  ports = refl;
  keys = keys-raised c.keys l c.acknowledged held order h.keys;
}
