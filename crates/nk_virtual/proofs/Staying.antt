-- What a physical policy is made of: its tests and assignments are those of the policy and its fabrics, and complements stay
-- over predicates.
use Rattle.std.proofs.Common.{ℕ, Bool, true, false, ⊎_elim, List, [], ◌∷◌, sym, subst}
use Rattle.std.specs.Prelude.{if◌then◌else◌, All}
use Rattle.std.proofs.lemmas.Bool.{cases_Bool}
use Rattle.std.proofs.lemmas.List.Elements.{All-head, All-tail}
use Rattle.nk_policy.specs.Policy.{Policy, Policies, sum_of, seq_of, not_of, star_of, dup, link, no_part, part}
use Rattle.nk_policy.specs.Ranges.{UsesOnly, AllUseOnly}
use Rattle.nk_policy.specs.Complements.{NegatesPredicates, AllNegatePredicates}
use Rattle.nk_names.specs.ProgramValue.{VirtualLink}
use Rattle.nk_virtual.specs.Physical.{has_ends, through_fabric, link_through, physical, all_physical}
use Rattle.nk_virtual.proofs.Literals.{if_true, if_false, ends_are}

-- what holds of two policies holds of either
either_of : (P : Policy → Type 0) (c : Bool) (p q : Policy) → P p → P q → P (if c then p else q)
either_of P true p q a b = a
either_of P false p q a b = b

module _ (Allowed : ℕ → ℕ → Type 0) where
  -- the fabric's tests and assignments are allowed
  abbrev pub FabricUses : VirtualLink → Type 0
  FabricUses k = UsesOnly Allowed k.fabric

  -- what stands for a literal
  through_uses : (links : List VirtualLink) (a m b n l : ℕ) → All FabricUses links
      → UsesOnly Allowed (link a m b n l) → UsesOnly Allowed (link_through links a m b n l)
  through_uses [] a m b n l h u = u
  through_uses (k ∷ links) a m b n l h u =
      ⊎_elim
      (λ t.
      let e = ends_are k.ends a m b n t in
      let s : Allowed 0 k.ends.from_switch = subst (λ v. Allowed 0 v) (sym e.0) u.0 in
      let p : Allowed 1 k.ends.from_port = subst (λ v. Allowed 1 v) (sym e.1) u.1 in
      let w : UsesOnly Allowed (through_fabric k) = (s, (p, (All-head FabricUses k links h, tt))) in
      subst (λ q. UsesOnly Allowed q) (sym (if_true (has_ends a m b n k.ends) (through_fabric k) (link_through links a m b n l) t)) w)
      (λ f.
      subst (λ q. UsesOnly Allowed q) (sym (if_false (has_ends a m b n k.ends) (through_fabric k) (link_through links a m b n l) f)) (through_uses links a m b n l (All-tail FabricUses k links h) u))
      (cases_Bool (has_ends a m b n k.ends))

  module _ (links : List VirtualLink) (fabrics : All FabricUses links) where
    mutual
      -- a policy
      pub physical_uses : (p : Policy) → UsesOnly Allowed p → UsesOnly Allowed (physical links p)
      physical_uses (sum_of ps) u = all_physical_use ps u
      physical_uses (seq_of ps) u = all_physical_use ps u
      physical_uses (star_of p) u = physical_uses p u
      physical_uses (dup l) u = tt
      physical_uses (link a m b n l) u = through_uses links a m b n l fabrics u
      physical_uses p u = u

      -- its parts
      all_physical_use : (ps : Policies) → AllUseOnly Allowed ps → AllUseOnly Allowed (all_physical links ps)
      all_physical_use no_part u = tt
      all_physical_use (part p ps) u = (physical_uses p u.0, all_physical_use ps u.1)

-- the fabric's complements are of predicates
abbrev pub FabricNegates : VirtualLink → Type 0
FabricNegates k = NegatesPredicates k.fabric

-- what stands for a literal
through_negates : (links : List VirtualLink) (a m b n l : ℕ) → All FabricNegates links
    → NegatesPredicates (link_through links a m b n l)
through_negates [] a m b n l h = tt
through_negates (k ∷ links) a m b n l h =
    either_of
    NegatesPredicates
    (has_ends a m b n k.ends)
    (through_fabric k)
    (link_through links a m b n l)
    (tt, (tt, (All-head FabricNegates k links h, tt)))
    (through_negates links a m b n l (All-tail FabricNegates k links h))

module _ (links : List VirtualLink) (fabrics : All FabricNegates links) where
  mutual
    -- a policy
    pub physical_negates : (p : Policy) → NegatesPredicates p → NegatesPredicates (physical links p)
    physical_negates (sum_of ps) h = all_physical_negate ps h
    physical_negates (seq_of ps) h = all_physical_negate ps h
    physical_negates (not_of p) h = h
    physical_negates (star_of p) h = physical_negates p h
    physical_negates (link a m b n l) h = through_negates links a m b n l fabrics
    physical_negates p h = tt

    -- its parts
    all_physical_negate : (ps : Policies) → AllNegatePredicates ps → AllNegatePredicates (all_physical links ps)
    all_physical_negate no_part h = tt
    all_physical_negate (part p ps) h = (physical_negates p h.0, all_physical_negate ps h.1)
