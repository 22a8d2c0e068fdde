-- `moves::Asked::move_spots`: the elements are in the table. Assumes nothing.
use Rattle.moves.proofs.Answers.{recorded}
use Rattle.moves.proofs.Asked.move_spots.Goals as goal

pub move_at-requires-clause-place_bound : goal.move_at-requires-clause-place_bound
move_at-requires-clause-place_bound c = search recorded depth 4

pub move_at-requires-clause-place_bound_2 : goal.move_at-requires-clause-place_bound_2
move_at-requires-clause-place_bound_2 c = search recorded depth 4
