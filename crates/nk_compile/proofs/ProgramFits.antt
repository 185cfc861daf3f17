-- What a program holds fits a store over its fields: a policy's complements are over predicates and it assigns values in
-- the store's ranges, and the store can be printed.
use Rattle.std.proofs.Common.{◌≡◌, ℕ, ◌-◌, ◌≤◌, List, [], ◌∷◌, sym, ap, subst, ◌∙◌, length, get_or, take, replicate, arith, Some}
use Rattle.std.proofs.Math.Seq.{take-append_seam}
use Rattle.nk_field.specs.Packet.{FieldTable, IsFieldTable}
use Rattle.nk_policy.specs.Policy.{Policy}
use Rattle.nk_policy.specs.Ranges.{IsInRange}
use Rattle.nk_names.specs.Complements.{NegatesPredicates}
use Rattle.nk_names.proofs.Weaker.{assigns_weaker}
use Rattle.nk_store.specs.StoreState.{StoreState, IsOver}
use Rattle.nk_store.proofs.InRange.{same_value}
use Rattle.nk_auto.specs.Continued.{IsFit}
use Rattle.nk_compile.proofs.StoreFields.{IsSetUp}

-- a front of two is read at its two places
pub fronts : (xs : List ℕ) (a b : ℕ) → take 2 xs ≡ a ∷ b ∷ [] → (get_or xs 0 0 ≡ a) × (get_or xs 1 0 ≡ b)
fronts [] a b h = cc
fronts (x ∷ []) a b h = cc
fronts (x ∷ y ∷ xs) a b h = (ap (λ l. get_or l 0 0) h, ap (λ l. get_or l 1 0) h)

module _ (fields : FieldTable) (st : StoreState) (tag : ℕ) (table : IsFieldTable fields) (over : IsOver fields st) (is : fields.tag ≡ Some tag) where
  -- the store's largest values are those of the fields
  pub set_up : IsSetUp fields st.maxes tag
  set_up = record {
    same = λ f. same_value fields st f over;
    front = ap (take (length fields.maxima)) over.maxes ∙ take-append_seam fields.maxima (replicate (18 - length fields.maxima) 0);
    table = table;
    tag_is = is;
  }

  -- a policy of the fields suits the store
  pub fit : (p : Policy) → NegatesPredicates p → IsInRange p fields → IsFit st.maxes p
  fit p complements values = (
    complements,
    assigns_weaker _ _ (λ f n le. subst (λ m. n ≤ m) (sym (set_up.same f)) le) p values,
  )

  -- switches and ports have 65535 values and more
  pub places_high : (65535 ≤ get_or st.maxes 0 0) × (65535 ≤ get_or st.maxes 1 0)
  places_high =
      let front = fronts fields.maxima 65535 65535 table.built_in_maxima in
      (omega (arith, set_up.same 0, front.0), omega (arith, set_up.same 1, front.1))
