use Rattle.clone_state.proofs.Gathered.{all_came, begins_of, stays_of, then_whole, whole_makes}
use Rattle.clone_state.proofs.laws.assemblies_gather_images.Goals as goal

pub returns-clause-begins : goal.returns-clause-begins
returns-clause-begins c = begins_of

pub returns-clause-stays : goal.returns-clause-stays
returns-clause-stays c = stays_of

pub returns-clause-whole : goal.returns-clause-whole
returns-clause-whole c slots = (all_came slots, then_whole slots)

pub returns-clause-makes : goal.returns-clause-makes
returns-clause-makes c = whole_makes
