-- Two named policies of a program, written out to stand together.
use Rattle.std.specs.Prelude.{◌≡◌, ℕ, ◌+◌, ◌<◌, ◌^◌, ◌⊎◌, None, Some, List}
use Rattle.nk_policy.specs.Policy.{Policy, marked_from, dups_of}
use Rattle.nk_policy.specs.Ranges.{IsOverFields}
use Rattle.nk_names.specs.Complements.{NegatesPredicates}
use Rattle.nk_names.specs.declared.Program.{Program}
use Rattle.nk_names.specs.Named.{policy_named}

-- one of the names is no policy's
abbrev pub IsNameUnknown : Program → List ℕ → List ℕ → Type 0
IsNameUnknown program left right = (policy_named program left ≡ None) ⊎ (policy_named program right ≡ None)

-- the first name's policy is the left one, and the right one is the second name's with its dups numbered on from the left one's;
-- both have few dups, their complements are of predicates, and they are over the program's fields
pub record AreWrittenTogether (program : Program) (left right : List ℕ) (p q : Policy) : Type 0 where
  pub on_left : policy_named program left ≡ Some p
  pub on_right : (r : Policy) × (policy_named program right ≡ Some r) × (q ≡ marked_from r (1 + dups_of p))
  pub numbered : marked_from p 1 ≡ p
  pub following : marked_from q (1 + dups_of p) ≡ q
  pub few : 1 + dups_of p + dups_of q < 2 ^ 32
  pub left_complements : NegatesPredicates p
  pub right_complements : NegatesPredicates q
  pub left_over : IsOverFields program.fields p
  pub right_over : IsOverFields program.fields q
