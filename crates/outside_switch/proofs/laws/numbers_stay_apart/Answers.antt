-- Each move keeps them apart.
use Rattle.outside_switch.proofs.Numbers.{numbers_count, numbers_stay, stay_apart}
use Rattle.outside_switch.proofs.laws.numbers_stay_apart.Goals as goal

pub returns : goal.returns
returns c = record { apart = stay_apart; stay = numbers_stay; count = numbers_count }
