-- An entry that is put in stands there, and takes the place of one of its key.
use Rattle.std.proofs.Common.{◌≡◌, ℕ, List, [], ◌∷◌, true, cond, refl, ap, ◌∙◌, Some, None}
use Rattle.std.specs.Prelude.{is_some}
use Rattle.std.specs.Map.{lookup}
use Rattle.std.specs.Ordering.{nat_cmp, is_eq, match_ordering}
use Rattle.std.specs.declared.cmp.Ordering.{Ordering}
use Rattle.std.specs.declared.cmp.Ordering.TheVariants.{Less, Equal, Greater}
use Rattle.std.specs.BTreeMap.{insert_entry, is_at}
use Rattle.nk_tabtext.specs.Values.{has_key}
use Rattle.nk_tabtext.proofs.TablesKept.{equal_key}
use Rattle.nk_tabtext.proofs.Valued.{same_key}

module _ {X : Type 0} where
  pub put_there : (n : ℕ) (x : X) (es : List (ℕ × X)) → has_key (insert_entry nat_cmp es n x) n ≡ true
  put_there n x [] = ap (λ b. is_some (cond b (Some x) None)) (same_key n)
  put_there n x (e ∷ es) = by (nat_cmp n e.0) refl (put_there n x es)
    where
      by : (o : Ordering) → nat_cmp n e.0 ≡ o → has_key (insert_entry nat_cmp es n x) n ≡ true
          → has_key (match_ordering o ((n, x) ∷ e ∷ es) ((e.0, x) ∷ es) (e ∷ insert_entry nat_cmp es n x)) n ≡ true
      by Less q ih = ap (λ b. is_some (cond b (Some x) (lookup (is_at (nat_cmp n)) (e ∷ es)))) (same_key n)
      by Equal q ih = ap (λ o. is_some (cond (is_eq o) (Some x) (lookup (is_at (nat_cmp n)) es))) q
      by Greater q ih = ap (λ o. is_some (cond (is_eq o) (Some e.1) (lookup (is_at (nat_cmp n)) (insert_entry nat_cmp es n x)))) q ∙ ih

  pub put_twice : (n : ℕ) (x y : X) (es : List (ℕ × X)) → insert_entry nat_cmp (insert_entry nat_cmp es n x) n y ≡ insert_entry nat_cmp es n y
  put_twice n x y [] = ap (λ o. match_ordering o ((n, y) ∷ (n, x) ∷ []) ((n, y) ∷ []) ((n, x) ∷ insert_entry nat_cmp [] n y)) (equal_key n n refl)
  put_twice n x y (e ∷ es) = by (nat_cmp n e.0) refl (put_twice n x y es)
    where
      by : (o : Ordering) → nat_cmp n e.0 ≡ o → insert_entry nat_cmp (insert_entry nat_cmp es n x) n y ≡ insert_entry nat_cmp es n y
          → insert_entry nat_cmp (match_ordering o ((n, x) ∷ e ∷ es) ((e.0, x) ∷ es) (e ∷ insert_entry nat_cmp es n x)) n y
          ≡ match_ordering o ((n, y) ∷ e ∷ es) ((e.0, y) ∷ es) (e ∷ insert_entry nat_cmp es n y)
      by Less q ih =
          ap (λ o. match_ordering o ((n, y) ∷ (n, x) ∷ e ∷ es) ((n, y) ∷ e ∷ es) ((n, x) ∷ insert_entry nat_cmp (e ∷ es) n y)) (equal_key n n refl)
      by Equal q ih = ap (λ o. match_ordering o ((n, y) ∷ (e.0, x) ∷ es) ((e.0, y) ∷ es) ((e.0, x) ∷ insert_entry nat_cmp es n y)) q
      by Greater q ih =
          ap (λ o. match_ordering o ((n, y) ∷ e ∷ insert_entry nat_cmp es n x) ((e.0, y) ∷ insert_entry nat_cmp es n x) (e ∷ insert_entry nat_cmp (insert_entry nat_cmp es n x) n y)) q
          ∙ ap (λ l. e ∷ l) ih
