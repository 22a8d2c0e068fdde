-- `events::occur` meets its contract. Assumes nothing.
use Rattle.events.specs.Occurring.{occurring}
use Rattle.events.proofs.occur.Goals as goal

pub import-requires-clause-importable : goal.import-requires-clause-importable
import-requires-clause-importable c = rw c.in-Import.is at c.requires.possible

pub export-requires-clause-ported : goal.export-requires-clause-ported
export-requires-clause-ported c = rw c.in-Export.is at c.requires.possible

pub returns-in-Import : goal.returns-in-Import
unfolding occurring
returns-in-Import c = λ rest e s. rw c.in-Import.is (c.import.ensures _ e s)

pub returns-in-Export : goal.returns-in-Export
unfolding occurring
returns-in-Export c = λ rest e s. rw c.in-Export.is (c.export.ensures _ s)

pub returns-in-Reset : goal.returns-in-Reset
unfolding occurring
returns-in-Reset c = λ rest e s. rw c.in-Reset.is (c.reset.ensures rest s)
