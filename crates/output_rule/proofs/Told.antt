-- The covered keys are those of the image and of the acknowledged entries. The entries up to the new acknowledged
-- number are those up to the old one, followed by the part of the log that the acknowledgement covers.
use Rattle.std.proofs.Common.{◌≡◌, ℕ, zero, suc, ◌+◌, ◌-◌, ◌<◌, ◌≤◌, max, false, List, [], ◌++◌, length, take, drop, length-append, refl, arith}
use Rattle.std.specs.Prelude.{slice_index}
use Rattle.std.proofs.Math.Seq.{take-add}
use Rattle.std.proofs.lemmas.List.{take-append-le, drop-drop}
use Rattle.event_callbacks.specs.declared.devices.TheConstants.{PORTS}
use Rattle.log_buffer.specs.Log.{log}
use Rattle.log_entry.specs.declared.entry.Entry.{Entry}
use Rattle.output_rule.specs.Covering.{Covering, after_acknowledge, nothing_acknowledged}
use Rattle.output_rule.specs.Keys.{between, keys_in, with_keys}
use Rattle.output_rule.specs.Laws.{Tells}
use Rattle.output_rule.proofs.KeysBetween.{keys_in-append}

pub tells_at_first : (image : List ℕ) → Tells image [] (nothing_acknowledged image)
tells_at_first image = record { within = omega arith; keys = λ port within. omega arith }

pub tells_of_more : (image : List ℕ) (entries more : List Entry) (c : Covering) → Tells image entries c
    → Tells image (entries ++ more) c
tells_of_more image entries more c tells = record {
  within = let longer = length-append entries more in omega arith;
  keys = λ port within.
      let within_entries = tells.within in
      rw take-append-le (tells.keys port within);
}

-- of a list without its first entries, the part from one index up to another
part : (entries : List Entry) (first from to : ℕ) → first ≤ from
    → between (log first (drop first entries)) from to ≡ take (to - from) (drop from entries)
part entries first from to order =
    let whole : first + (from - first) ≡ from = omega arith in
    rw (drop-drop (from - first) first entries, whole) refl

keys_up_to : (port : ℕ) (entries : List Entry) (first from to : ℕ) → first ≤ from
    → keys_in port (take (max from to) entries)
    ≡ keys_in port (take from entries) + keys_in port (between (log first (drop first entries)) from to)
keys_up_to port entries first from to order =
    let whole : max from to ≡ from + (to - from) = omega arith in
    rw (part entries first from to order, whole, take-add from (to - from) entries)
    (keys_in-append port (take from entries) (take (to - from) (drop from entries)))

pub tells_acknowledged : (image : List ℕ) (entries : List Entry) (c : Covering) (first held replayed : ℕ) → Tells image entries c
    → c.all ≡ false → first ≤ c.acknowledged → held ≤ length entries
    → Tells image entries (after_acknowledge c (log first (drop first entries)) held replayed)
tells_acknowledged image entries c first held replayed tells not_all order within = record {
  within = let before = tells.within in omega arith;
  keys = rw not_all (told image entries c first held tells order);
} where
  told : (image : List ℕ) (entries : List Entry) (c : Covering) (first held : ℕ) → Tells image entries c
      → first ≤ c.acknowledged → (port : ℕ) → port < PORTS
      → slice_index (with_keys c.keys (between (log first (drop first entries)) c.acknowledged held)) port
      ≡ slice_index image port + keys_in port (take (max c.acknowledged held) entries)
  told image entries c first held tells order zero within =
      let before = tells.keys 0 within in
      let after = keys_up_to 0 entries first c.acknowledged held order in
      omega arith
  told image entries c first held tells order (suc zero) within =
      let before = tells.keys 1 within in
      let after = keys_up_to 1 entries first c.acknowledged held order in
      omega arith
  told image entries c first held tells order (suc (suc port)) within = omega arith
