use Rattle.replayer.proofs.Below.{stays_below}
use Rattle.replayer.proofs.Standing.{stays_on}
use Rattle.replayer.proofs.laws.replays_keep_to_the_trace.Goals as goal

pub returns : goal.returns
returns g c = λ M s t held left fetched still n counts replays. record {
  stays = λ reads owes moves last stands. stays_on M reads s held fetched t last left still n owes moves counts
      replays stands;
  below = λ on. stays_below M s t held left fetched still n counts replays on;
}
