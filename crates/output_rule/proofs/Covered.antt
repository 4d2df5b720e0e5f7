-- What is covered stays covered: the acknowledged number never falls, and neither does the number of keys of a port.
use Rattle.std.proofs.Common.{◌≡◌, ℕ, zero, suc, ◌<◌, ◌≤◌, max, Bool, true, false, cond, ◌&&◌, ◌||◌, nat_lt, nat_le, List, Some, None, refl, arith}
use Rattle.std.specs.Prelude.{slice_index}
use Rattle.std.proofs.lemmas.Bool.{and_parts}
use Rattle.std.proofs.lemmas.Grind.{common_steps}
use Rattle.event_callbacks.specs.declared.devices.TheConstants.{PORTS}
use Rattle.log_buffer.specs.Log.{Log}
use Rattle.log_entry.specs.declared.entry.Entry.{Entry}
use Rattle.output_rule.specs.Covering.{Covering, is_covered, after_acknowledge, after_all}
use Rattle.output_rule.specs.Keys.{between, with_keys}
use Rattle.output_rule.specs.Notes.{after_at}
use Rattle.output_rule.specs.Laws.{StaysCovered, NeverFalls}

-- below one number, and so below the greater of it and another
below_max : (index acknowledged held : ℕ) → nat_lt index acknowledged ≡ true
    → nat_lt index (max acknowledged held) ≡ true
below_max index acknowledged held below = grind (arith, common_steps)

-- at most one number, and so at most the greater of it and another
within_max : (after reported replayed : ℕ) → nat_le after reported ≡ true → nat_le after (max reported replayed) ≡ true
within_max after reported replayed within = grind (arith, common_steps)

covered_up_to_max : (all : Bool) (index acknowledged held after reported replayed : ℕ)
    → (all || nat_lt index acknowledged && nat_le after reported) ≡ true
    → (all || nat_lt index (max acknowledged held) && nat_le after (max reported replayed)) ≡ true
covered_up_to_max true index acknowledged held after reported replayed covered = refl
covered_up_to_max false index acknowledged held after reported replayed covered =
    let parts = and_parts (nat_lt index acknowledged) (nat_le after reported) covered in
    rw (below_max index acknowledged held parts.0, within_max after reported replayed parts.1) refl

by_acknowledgement : (c : Covering) (l : Log) (held replayed : ℕ) → StaysCovered c (after_acknowledge c l held replayed)
by_acknowledgement c l held replayed = record {
  acknowledged = omega arith;
  reported = omega arith;
  covered = λ index.
      elim index as (λ i. is_covered c i ≡ true → is_covered (after_acknowledge c l held replayed) i ≡ true) [
        | None ↦ λ covered. refl
        | Some at ↦ covered_up_to_max c.all at c.acknowledged held (after_at c.notes at) c.reported replayed
      ];
}

by_all : (c : Covering) (keys : List ℕ) → StaysCovered c (after_all c keys)
by_all c keys = record {
  acknowledged = omega arith;
  reported = omega arith;
  covered = λ index. elim index as (λ i. is_covered c i ≡ true → is_covered (after_all c keys) i ≡ true) [
    | None ↦ λ covered. refl
    | Some at ↦ λ covered. refl
  ];
}

keys_rise : (keys : List ℕ) (entries : List Entry) (port : ℕ) → port < PORTS
    → slice_index keys port ≤ slice_index (with_keys keys entries) port
keys_rise keys entries zero within = omega arith
keys_rise keys entries (suc zero) within = omega arith
keys_rise keys entries (suc (suc port)) within = omega arith

pub never_falls : (c : Covering) → NeverFalls c
never_falls c = record {
  by_acknowledgement = by_acknowledgement c;
  by_all = by_all c;
  keys = λ l held replayed port within.
      let raised = with_keys c.keys (between l c.acknowledged held) in
      elim c.all as (λ b. slice_index c.keys port ≤ slice_index (cond b c.keys raised) port) [
        | true ↦ omega arith
        | false ↦ keys_rise c.keys (between l c.acknowledged held) port within
      ];
}
