-- Named policies of a program: what holds of them, and that they fit a store over the program's fields.
use Rattle.std.proofs.Common.{◌≡◌, ℕ, ◌+◌, ◌<◌, ◌≤◌, Some, List, ap, sym, subst, ◌∙◌, arith}
use Rattle.nk_field.specs.Packet.{FieldTable}
use Rattle.nk_policy.specs.Policy.{Policy, marked_from, dups_of}
use Rattle.nk_policy.specs.Ranges.{IsInRange, IsOverFields}
use Rattle.nk_names.specs.Complements.{NegatesPredicates}
use Rattle.nk_names.specs.ProgramValue.{IsProgram, IsLet}
use Rattle.nk_names.specs.Named.{policy_named}
use Rattle.nk_names.specs.declared.Program.{Program}
use Rattle.nk_names.proofs.Good.{few_dups, dups_marked, over_marked, negates_marked}
pub use Rattle.nk_names.proofs.Named.{let_named}
use Rattle.nk_names.proofs.Weaker.{assigns_weaker}
use Rattle.nk_store.specs.StoreState.{StoreState, IsOver}
use Rattle.nk_store.proofs.InRange.{same_value}
use Rattle.nk_auto.specs.Continued.{IsFit}
use Rattle.nk_cert.specs.Written.{AreWrittenTogether}
use Rattle.nk_cert.proofs.Comparing.{right_numbered}

-- two policies of a program have few dups
pub few_of_both : (fields : FieldTable) (p q : Policy) → IsLet fields p → IsLet fields q → 1 + dups_of p + dups_of q < 4294967296
few_of_both fields p q k l =
    let a = few_dups p in
    let b = few_dups q in
    let c = k.small in
    let d = l.small in
    omega (arith, a, b, c, d)

-- what holds of a program's policy holds of it with its dups numbered on from another one's
module _ (fields : FieldTable) (p q r : Policy) (n : ℕ) (k : IsLet fields p) (l : IsLet fields q) (is : r ≡ marked_from q n) where
  pub few_after : 1 + dups_of p + dups_of r < 4294967296
  few_after =
      let few = few_of_both fields p q k l in
      let same : dups_of r ≡ dups_of q = ap dups_of is ∙ dups_marked q n in
      omega (arith, few, same)

  pub complements_after : NegatesPredicates r
  complements_after = subst NegatesPredicates (sym is) (negates_marked q n l.complements)

  pub over_after : IsOverFields fields r
  over_after = subst (λ z. IsOverFields fields z) (sym is) (over_marked fields q n l.over)

-- two policies of a program, the second one with its dups numbered on from the first one's, are written out to stand together
pub are_written :
    (program : Program) (left right : List ℕ) (p q r : Policy) (n : ℕ) → IsProgram program.fields program.topo program.lets
    → policy_named program left ≡ Some p → policy_named program right ≡ Some r → n ≡ 1 + dups_of p → q ≡ marked_from r n
    → AreWrittenTogether program left right p q
are_written program left right p q r n ok on_left on_right same is =
    let k = let_named program left p ok on_left in
    let l = let_named program right r ok on_right in
    record {
      on_left = on_left;
      on_right = (r, on_right, is ∙ ap (λ m. marked_from r m) same);
      numbered = k.numbered;
      following = right_numbered r q n _ is same;
      few = few_after program.fields p r q n k l is;
      left_complements = k.complements;
      right_complements = complements_after program.fields p r q n k l is;
      left_over = k.over;
      right_over = over_after program.fields p r q n k l is;
    }

-- a policy of the fields fits a store over them
pub fits_store : (fields : FieldTable) (st : StoreState) → IsOver fields st → (p : Policy) → NegatesPredicates p → IsInRange p fields → IsFit st.maxes p
fits_store fields st over p complements inside = (
  complements,
  assigns_weaker _ _ (λ f n le. subst (λ m. n ≤ m) (sym (same_value fields st f over)) le) p inside,
)
