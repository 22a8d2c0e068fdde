-- Whose elements are freed, as the rules name it. Assumes nothing.
use Rattle.rules.specs.Tables.{Whose, Under, Every, Anyone}
use Rattle.frees.specs.declared.Whose.{Whose as Declared}
use Rattle.frees.specs.declared.Whose.TheVariants.{Under as UnderHost, Every as EveryHost, Anyone as AnyHost}

abbrev pub whose : Declared → Whose
whose (UnderHost h i) = Under h i
whose (EveryHost h) = Every h
whose AnyHost = Anyone
