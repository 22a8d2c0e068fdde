-- `case_heading::heading::words`: what was found of the words lies in the text. Assumes nothing.
use Rattle.std.proofs.Common.{length, ◌≤◌}
use Rattle.case_heading.proofs.heading.words.Given as goal

abbrev pub invariant-loop-i : goal.invariant-loop-i
invariant-loop-i l = l.end ≤ length l.text
