-- Each step of the runs is followed by the protocol.
use Rattle.host_law.proofs.Interleaving.{runs-faithful, runs-kept}
use Rattle.host_law.proofs.Keeping.{devices-kept, has-taken-keys, hosts-stand}
use Rattle.host_law.proofs.laws.hosts_are_faithful.Goals as goal

pub returns-clause-faithful : goal.returns-clause-faithful
returns-clause-faithful g c M C laws copies reads spares deeds last happened =
    runs-faithful M C laws copies reads spares deeds last happened

pub returns-clause-devices : goal.returns-clause-devices
returns-clause-devices g c M C f w shows faithful = devices-kept M C f w shows faithful

pub returns-clause-kept : goal.returns-clause-kept
returns-clause-kept g c M C laws copies reads spares deeds last happened =
    runs-kept M C laws copies reads spares deeds last happened

pub returns-clause-stand : goal.returns-clause-stand
returns-clause-stand g c M C laws copies f w shows n x there node = hosts-stand M C laws copies f w shows n x there node

pub returns-clause-keys : goal.returns-clause-keys
returns-clause-keys g c M C laws copies f w shows n x there alone =
    has-taken-keys M C laws copies f w shows n x there alone
