use Rattle.std.proofs.Common.{◌≡◌, drop}
use Rattle.nk_names.specs.Meant.{policy_among}
use Rattle.nk_names.proofs.Program.find.Given as goal

-- the name is not among the policies passed
abbrev pub invariant-loop-known : goal.invariant-loop-known
invariant-loop-known l = policy_among (drop l.known-index l.self.lets) l.fn.name ≡ policy_among l.self.lets l.fn.name
