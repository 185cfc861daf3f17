-- Targets by a table.
use Rattle.std.proofs.Common.{◌≡◌, ℕ, Option, Some, None, List, get_or, subst, sym}
use Rattle.std.specs.List.{flat_map}
use Rattle.nk_store.specs.declared.node.Out.{Out}
use Rattle.nk_store.specs.Leaves.{Every, Strict, Suits, IsActFrom, AreOrdered}
use Rattle.nk_apply.proofs.Members.{gathered_every}
use Rattle.nk_apply.proofs.Gathers.{flat_ordered}
use Rattle.nk_determ.specs.Targets.{option_out, out_by_table, retargeted}

-- at most one out ascends strictly
option_strict : (g : List (ℕ × ℕ)) (t : Option ℕ) → Strict (option_out g t)
option_strict g None = tt
option_strict g (Some t) = (tt, tt)

-- an act to another target suits the highest values
option_suits : (maxes : List ℕ) (g : List (ℕ × ℕ)) (t : Option ℕ) → IsActFrom maxes 0 g →
    Every (Suits maxes) (option_out g t)
option_suits maxes g None a = tt
option_suits maxes g (Some t) a = (a, tt)

-- the outs with new targets, one after the other, come in order to them
pub retargeted_ordered : (table : List (Option ℕ)) (os all : List Out) → all ≡ flat_map (out_by_table table) os →
    AreOrdered all (retargeted table os)
retargeted_ordered table os all e =
    subst (λ xs. AreOrdered xs (retargeted table os)) (sym e) (flat_ordered (out_by_table table) os (λ o. option_strict o.act (get_or table o.target None)))

-- the outs with new targets suit the highest values
pub retargeted_suits : (maxes : List ℕ) (table : List (Option ℕ)) (os : List Out) → Every (Suits maxes) os →
    Every (Suits maxes) (retargeted table os)
retargeted_suits maxes table os e = gathered_every (Suits maxes) (Suits maxes) (out_by_table table) os (λ o k. option_suits maxes o.act (get_or table o.target None) k) e
