use Rattle.std.proofs.Common.{arith, ◌∙◌, ap}
use Rattle.std.specs.Option.{ok_or}
use Rattle.i8080_words.specs.declared.refusal.Fault.TheVariants.{Malformed}
use Rattle.log_channel.proofs.PacketLaws.{is_found, is_only}
use Rattle.log_channel.proofs.packet.Packet.read.Goals as goal

pub returns-clause-found : goal.returns-clause-found
returns-clause-found c =
    let bytes = c.args.bytes.now in
    rw c.ok_or.ensures.value (
    is_found bytes c.packet_of.result (λ i. omega (arith, c.type_inv.bytes i)) c.packet_of.ensures
    )

pub returns-clause-only : goal.returns-clause-only
returns-clause-only c = λ p fits spelled.
    let read = c.packet_of.ensures ∙ is_only c.args.bytes.now p fits spelled in
    c.ok_or.ensures.value ∙ ap (λ o. ok_or o Malformed) read
