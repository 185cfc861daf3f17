-- A diagram made exact field by field.
use Rattle.std.proofs.Common.{◌≡◌, ℕ, ◌+◌, Bool, true, false, cond, eqb, List, refl, sym, ◌∙◌, ap}
use Rattle.std.specs.List.{list_any}
use Rattle.nk_store.specs.StoreState.{StoreState, IsId, look, Grows, HasLeaves, AreTidy}
use Rattle.nk_determ.specs.Exact.{split_leaf}
use Rattle.nk_determ.specs.Unchanged.{leaf_changing, split_below, AssignsAmong}
use Rattle.nk_determ.proofs.AssignedFields.{missed_not, split_skips}
use Rattle.nk_determ.proofs.Below.{split_none, split_step, split_all}

-- before the first field
pub fields_start : (st : StoreState) (d : ℕ) → IsId st d → AreTidy st →
    HasLeaves st d (λ pk. split_below 0 st.maxes pk (look st d pk))
fields_start st d i tidy = record {
  id = i;
  leaf = λ pk w. sym (split_none st.maxes pk (look st d pk) ((tidy d).sorted pk) ((tidy d).suits pk));
}

-- one field more
pub fields_step : (old st new : StoreState) (k d r q : ℕ) → Grows old st → AreTidy old →
    HasLeaves st r (λ pk. split_below k old.maxes pk (look old d pk)) →
    HasLeaves new q (λ pk. leaf_changing st.maxes k pk (look st r pk)) →
    HasLeaves new q (λ pk. split_below (k + 1) old.maxes pk (look old d pk))
fields_step old st new k d r q g tidy before h = record {
  id = h.id;
  leaf = λ pk w.
      h.leaf pk w
      ∙ ap (λ ms. leaf_changing ms k pk (look st r pk)) g.maxes
      ∙ ap (λ os. leaf_changing old.maxes k pk os) (before.leaf pk w)
      ∙ split_step old.maxes pk k (look old d pk) ((tidy d).suits pk);
}

-- one field more, which only acts assign that are known to
pub field_next : (old st new : StoreState) (k d r q : ℕ) (fs : List ℕ) → Grows old st → AreTidy old → AssignsAmong fs old d →
    HasLeaves st r (λ pk. split_below k old.maxes pk (look old d pk)) →
    HasLeaves new q (λ pk. cond (list_any (λ m. eqb m k) fs) (leaf_changing st.maxes k pk (look st r pk)) (look st r pk)) →
    HasLeaves new q (λ pk. split_below (k + 1) old.maxes pk (look old d pk))
field_next old st new k d r q fs g tidy assigns before = by (list_any (λ m. eqb m k) fs) refl
  where
    by : (b : Bool) → list_any (λ m. eqb m k) fs ≡ b → HasLeaves new q (λ pk. cond b (leaf_changing st.maxes k pk (look st r pk)) (look st r pk)) →
        HasLeaves new q (λ pk. split_below (k + 1) old.maxes pk (look old d pk))
    by true e h = fields_step old st new k d r q g tidy before h
    by false e h = record {
      id = h.id;
      leaf = λ pk w. h.leaf pk w ∙ before.leaf pk w ∙ split_skips old.maxes pk k (look old d pk) (λ c. missed_not fs k e (assigns pk k c));
    }

-- after the last field
pub fields_all : (old st : StoreState) (d r : ℕ) → AreTidy old →
    HasLeaves st r (λ pk. split_below 18 old.maxes pk (look old d pk)) →
    HasLeaves st r (λ pk. split_leaf old.maxes pk (look old d pk))
fields_all old st d r tidy h = record {
  id = h.id;
  leaf = λ pk w. h.leaf pk w ∙ split_all old.maxes pk (look old d pk) ((tidy d).suits pk);
}
