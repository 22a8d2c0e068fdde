-- `moves::Asked::exchange_spots`: the elements are in the table. Assumes nothing.
use Rattle.moves.proofs.Answers.{recorded}
use Rattle.moves.proofs.Asked.exchange_spots.Goals as goal

pub exchange_at-requires-clause-place_bound : goal.exchange_at-requires-clause-place_bound
exchange_at-requires-clause-place_bound c = search recorded depth 4

pub exchange_at-requires-clause-place_bound_2 : goal.exchange_at-requires-clause-place_bound_2
exchange_at-requires-clause-place_bound_2 c = search recorded depth 4

pub exchange_at-requires-clause-place_bound_3 : goal.exchange_at-requires-clause-place_bound_3
exchange_at-requires-clause-place_bound_3 c = search recorded depth 4
