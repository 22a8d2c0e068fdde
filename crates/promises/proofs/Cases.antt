-- Every row of the table holds: the rules' computed table, row by row. Assumes nothing.
use mathlib.Core.List.{List, Memᴰ}
use Rattle.rules.specs.Cases.{Case}
use Rattle.rules.proofs.Cases.{AllHold, none, one, Holds, cases-hold}
use Rattle.promises.specs.Cases.{CasesHold}

row : {cs : List Case} → AllHold cs → (c : Case) → Memᴰ c cs → Holds c
row none c m = elim m [ ]
row (one e h) c (Memᴰ.head i) = rw i e
row (one e h) c (Memᴰ.tail m) = row h c m

pub cases-promised : CasesHold
cases-promised = row cases-hold
