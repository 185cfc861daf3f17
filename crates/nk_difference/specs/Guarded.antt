-- A policy at the packets that neither of two predicates keeps.
use Rattle.nk_policy.specs.Policy.{Policy, sum_of, seq_of, not_of, part, no_part}

-- `~(a + b);p`
abbrev pub outside : Policy → Policy → Policy → Policy
outside a b p = seq_of (part (not_of (sum_of (part a (part b no_part)))) (part p no_part))
