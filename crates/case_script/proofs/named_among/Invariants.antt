-- `case_script::named_among` meets its contract. Assumes nothing.
use Rattle.std.proofs.Common.{◌≡◌, length, map}
use Rattle.case_script.specs.Names.{place_from}
use Rattle.case_script.proofs.named_among.Given as goal

-- what is found among all the words is found among those that are left
abbrev pub invariant-loop-names : goal.invariant-loop-names
invariant-loop-names l = place_from l.written (map (λ n. (n.0.now, n.1)) l.names) ≡ place_from l.written (map (λ n. (n.0.now, n.1)) l.initial.names)

abbrev pub decreases-loop-names : goal.decreases-loop-names
decreases-loop-names l = length l.names
