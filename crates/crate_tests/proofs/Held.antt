-- An entry whose packet comes next is held.
use Rattle.std.proofs.Common.{eq-eqb, nat_eq, ◌-◌, ◌^◌, ◌≡◌, ℕ, ◌<◌, Bool, true, List, Some, Result, Ok, refl, sym, ap, subst, ◌∙◌, arith}
use Rattle.i8080_words.specs.declared.refusal.Fault.{Fault}
use Rattle.log_channel.specs.Channel.{Receiving, Answers, heard, holding, Next}
use Rattle.log_channel.specs.declared.packet.Packet.TheVariants.{Log}
use Rattle.log_channel.specs.Laws.{ReadsAgain}
use Rattle.log_channel.specs.Packet.{packet_at, packet_bytes}
use Rattle.log_entry.specs.Spelling.{IsEntry}
use Rattle.log_entry.specs.declared.entry.Entry.{Entry}

pub held_next : (r new : Receiving) (entry : Entry) (generation index : ℕ) (bytes : List ℕ) (result : Result Bool Fault)
    → ReadsAgain → 0 < generation → generation < 2 ^ 32 → index < 1000 → IsEntry entry → r.generation ≡ generation
    → index ≡ r.held → bytes ≡ packet_bytes (Log generation index entry) → result ≡ Ok true
    → Answers (heard r (packet_at bytes)) r result new → new ≡ holding r entry
held_next r new entry generation index bytes result again first within few valid same at are is_held a =
    let few_enough : index < 2 ^ 62 - 1 = omega arith in
    let read : packet_at bytes ≡ Some (Log generation index entry) =
    ap packet_at are ∙ again (Log generation index entry) (first, within, few_enough, valid) in
    let generations : nat_eq generation r.generation ≡ true = eq-eqb generation r.generation (sym same) in
    let indexes : nat_eq index r.held ≡ true = eq-eqb index r.held at in
    let next : heard r (Some (Log generation index entry)) ≡ Next entry = rw (generations, indexes) refl in
    let answers : Answers (Next entry) r (Ok true) new =
    subst (λ h. Answers h r (Ok true) new) (ap (heard r) read ∙ next)
    (subst (λ result. Answers (heard r (packet_at bytes)) r result new) is_held a) in
    answers.1
