-- The policy that takes each virtual link of another over its fabric (virtual networks: Casado et al., PRESTO 2010;
-- Smolka et al., ICFP 2015).
use Rattle.std.specs.Prelude.{ℕ, ◌==◌, ◌&&◌, Bool, if◌then◌else◌, List, [], ◌∷◌}
use Rattle.nk_topo.specs.Topology.{Link}
use Rattle.nk_policy.specs.Policy.{Policy, Policies, test, range, assign, sum_of, seq_of, not_of, star_of, dup, link, no_part, part}
use Rattle.nk_names.specs.ProgramValue.{VirtualLink}

-- the link begins at port m of switch a and ends at port n of switch b
abbrev pub has_ends : ℕ → ℕ → ℕ → ℕ → Link → Bool
has_ends a m b n k = (k.from_switch == a) && (k.from_port == m) && (k.to_switch == b) && (k.to_port == n)

-- what stands for a literal of the virtual link: at the start port, the fabric
abbrev pub through_fabric : VirtualLink → Policy
through_fabric k = seq_of (part (test 0 k.ends.from_switch) (part (test 1 k.ends.from_port) (part k.fabric no_part)))

-- what stands for a link literal: the fabric of the virtual link with its ends, and the literal itself where there is none
abbrev pub link_through : List VirtualLink → ℕ → ℕ → ℕ → ℕ → ℕ → Policy
link_through [] a m b n l = link a m b n l
link_through (k ∷ links) a m b n l = if has_ends a m b n k.ends then through_fabric k else link_through links a m b n l

-- The policy with each literal of a virtual link replaced by its fabric. A complement is of a predicate, which has no literal, and stays.
abbrev mutual
  pub physical : List VirtualLink → Policy → Policy
  physical links (test f n) = test f n
  physical links (range f low high) = range f low high
  physical links (assign f n) = assign f n
  physical links (sum_of ps) = sum_of (all_physical links ps)
  physical links (seq_of ps) = seq_of (all_physical links ps)
  physical links (not_of p) = not_of p
  physical links (star_of p) = star_of (physical links p)
  physical links (dup l) = dup l
  physical links (link a m b n l) = link_through links a m b n l

  -- the parts, each one so
  pub all_physical : List VirtualLink → Policies → Policies
  all_physical links no_part = no_part
  all_physical links (part p ps) = part (physical links p) (all_physical links ps)
