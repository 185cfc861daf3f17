-- A field past the port that a policy neither tests nor sets keeps its value.
use Rattle.std.proofs.Common.{◌≡◌, ◌≢◌, ℕ, ◌≤◌, false, ap, ◌∙◌, arith}
use Rattle.std.specs.Prelude.{◌==◌, slice_set}
use Rattle.std.proofs.lemmas.List.{set_comm}
use Rattle.nk_field.specs.declared.packet.Packet.{Packet}
use Rattle.nk_policy.specs.Policy.{Policy, Policies, assign, sum_of, seq_of, star_of, link, no_part, part}
use Rattle.nk_policy.specs.Leaves.{has_leaf, some_has_leaf, is_on_field}
use Rattle.nk_policy.specs.Ranges.{AssignsOnly, AllAssignOnly}
use Rattle.nk_policy.proofs.Tests.{both_false}

-- an assignment of another field
abbrev pub IsOther : ℕ → ℕ → ℕ → Type 0
IsOther tag f n = f ≢ tag

-- a field that fails the test is another one
other_field : (tag f : ℕ) → tag == f ≡ false → f ≢ tag
other_field tag f h = λ e. grind (arith, h, e)

module _ (tag : ℕ) (past : 2 ≤ tag) where
  mutual
    -- a policy that doesn't touch a field assigns others alone
    pub assigns_others : (p : Policy) → has_leaf (is_on_field tag) p ≡ false
        → AssignsOnly (IsOther tag) p
    assigns_others (assign f n) h = other_field tag f h
    assigns_others (sum_of ps) h = all_assign_others ps h
    assigns_others (seq_of ps) h = all_assign_others ps h
    assigns_others (star_of p) h = assigns_others p h
    assigns_others (link a m b n l) h = (λ e. omega (arith, past, e), λ e. omega (arith, past, e))
    assigns_others p h = tt

    -- its parts do
    pub all_assign_others : (ps : Policies) → some_has_leaf (is_on_field tag) ps ≡ false
        → AllAssignOnly (IsOther tag) ps
    all_assign_others no_part h = tt
    all_assign_others (part p ps) h =
        let e = both_false (has_leaf (is_on_field tag) p) (some_has_leaf (is_on_field tag) ps) h in
        (assigns_others p e.0, all_assign_others ps e.1)

-- the field is 0
abbrev pub IsZeroAt : ℕ → Packet → Type 0
IsZeroAt tag x = slice_set x tag 0 ≡ x

-- assignments of others keep it
pub others_keep : (tag : ℕ) (x : Packet) (f n : ℕ) → IsOther tag f n → IsZeroAt tag x
    → IsZeroAt tag (slice_set x f n)
others_keep tag x f n ne h = set_comm x f tag n 0 ne ∙ ap (λ z. slice_set z f n) h
