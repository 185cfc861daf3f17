use Rattle.std.proofs.Common.{arith, ap}
use Rattle.nk_policy.specs.Policy.{dups_of}
use Rattle.nk_names.specs.Body.{policy_in}
use Rattle.nk_names.proofs.Good.{dups_marked}
use Rattle.nk_names.proofs.body.Shared.written.Goals as goal

pub written-requires : goal.written-requires
written-requires c = omega (arith, c.requires, ap (λ b. dups_of (policy_in b)) c.deref.ensures, dups_marked (policy_in c.args.self.now.body.value) 1)
