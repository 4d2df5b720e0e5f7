use Rattle.log_channel.proofs.PacketLaws.{packet_again, packet_takes, one_meaning}
use Rattle.log_channel.proofs.laws.packets_spell_one_way.Goals as goal

pub returns-clause-again : goal.returns-clause-again
returns-clause-again c = packet_again

pub returns-clause-one_spelling : goal.returns-clause-one_spelling
returns-clause-one_spelling c = packet_takes

pub returns-clause-one_meaning : goal.returns-clause-one_meaning
returns-clause-one_meaning c = one_meaning
