-- `form::stray` meets its contract: the loop's invariant is that the masks passed found nothing. Assumes nothing.
use Rattle.form.proofs.Strays.{Passing}
use Rattle.form.proofs.stray.Given as goal

abbrev pub invariant-loop-i : goal.invariant-loop-i
invariant-loop-i l = Passing l.block l.masks l.i
