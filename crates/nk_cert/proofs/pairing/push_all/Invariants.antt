use Rattle.std.proofs.Common.{◌≡◌, ◌++◌, take}
use Rattle.nk_cert.proofs.pairing.push_all.Given as goal

-- the states so far stand after the others
abbrev pub invariant-loop-state : goal.invariant-loop-state
invariant-loop-state l = l.states ≡ l.fn.states ++ take l.state-index l.more
