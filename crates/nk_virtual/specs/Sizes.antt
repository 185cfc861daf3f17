-- How many elements policies have, counted up to the largest u64.
use Rattle.std.specs.Prelude.{ℕ, min}
use Rattle.nk_policy.specs.Policy.{Policy, size_of}
use Rattle.nk_names.specs.ProgramValue.{VirtualLink}

-- the size of a policy, at most the last u64
abbrev pub size_within : Policy → ℕ
size_within p = min (size_of p) 18446744073709551615

-- the size of a virtual link's fabric
abbrev pub fabric_size : VirtualLink → ℕ
fabric_size k = size_within k.fabric
