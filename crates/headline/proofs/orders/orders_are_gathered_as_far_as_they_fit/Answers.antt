use Rattle.headline.proofs.Gathered.{orders_stay, gathered_full, frame_gathered, take_gathered}
use Rattle.headline.proofs.orders.orders_are_gathered_as_far_as_they_fit.Goals as goal

pub returns : goal.returns
returns k = record { stay = orders_stay; full = gathered_full; frame = frame_gathered; take = take_gathered }
