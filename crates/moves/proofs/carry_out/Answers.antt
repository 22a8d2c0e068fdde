-- `moves::carry_out` meets its contract. Assumes nothing.
use mathlib.Core.Path.{◌∙◌}
use Rattle.moves.proofs.Carried.{moved_ends, exchanged-ends, tally-move, tally-exchange}
use Rattle.moves.proofs.carry_out.Goals as goal
use Rattle.moves.proofs.carry_out.Goals.{in-Move, in-Exchange}

pub returns : goal.returns
returns c = λ rest buffer.
    let known = c.args.host.known in
    elim c.match-carriage.branch [
      | in-Move w ↦
          rw w.in-Move.is
          (moved_ends _ _ _ _ _ _ rest buffer _ _ known.0 known.1 c.good.ensures _ _ _ (w.elements-is ∙ w.carry_volume.ensures) (w.head-is ∙ w.recount.ensures)
          (tally-move _ _ _ _ c.requires.able _ _ _ w.in-Move.is))
      | in-Exchange w ↦
          rw w.in-Exchange.is
          (exchanged-ends _ _ _ _ _ _ rest buffer _ _ known.0 known.1 c.good.ensures _ _ _ _ _ (w.elements-is ∙ w.swap.ensures) (w.head-is ∙ w.recount-in-Exchange.ensures)
          (tally-exchange _ _ _ _ c.requires.able _ _ _ _ _ w.in-Exchange.is))
    ]
