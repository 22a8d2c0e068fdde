-- What stands in the drives, after any history. Assumes nothing.
use Rattle.rules.proofs.Given.{history-given, history-drives}
use Rattle.promises.specs.Drives.{TablesAsGiven, RightDrives}

pub tables-as-given : TablesAsGiven
tables-as-given t u cs os hs = history-given hs

pub right-drives : RightDrives
right-drives t u cs os hs s k h n = history-drives hs s k h n
