-- The start row's entry, and the predicates of rows that are held.
use Rattle.std.proofs.Common.{◌≡◌, ℕ, ◌<◌, true, inl, inr, List, [], ◌∷◌, refl, sym, subst, ◌∙◌, arith}
use Rattle.std.specs.Prelude.{All}
use Rattle.nk_field.proofs.Lists.{In, in_mapped, contains_from_in}
use Rattle.nk_field.proofs.Ascending.{all_from_members}
use Rattle.nk_policy.specs.Policy.{Policy, is_predicate}
use Rattle.nk_policy.specs.Tree.{tree_of}
use Rattle.nk_policy.specs.declared.policy.Pol.{Pol}
use Rattle.nk_store.specs.StoreState.{StoreState, Grows}
use Rattle.nk_determ.specs.Sets.{SetsGrow, IsSetOf}
use Rattle.nk_determ.specs.Pairs.{AreLabelsBelow}
use Rattle.nk_goal.proofs.Growing.{pair_on, sets_same}
use Rattle.nk_cert.specs.Certificates.{at_start, RowValue, CertificateValue, CertRow, certificate_rows, later_row}
use Rattle.nk_cert.specs.Verdicts.{HasPredicates}
use Rattle.nk_cert.specs.Values.{held_row_value, row_values}
use Rattle.nk_check.specs.Judged.{IsPacketsOf, IsStartEntryOf}
use Rattle.nk_check.proofs.RowSets.{packets_on}

-- the start row's entry
pub start_there : (st : StoreState) (ss : List (List ℕ)) (n s x : ℕ) (labels : List ℕ) (predicate : Policy) → 0 < n → labels ≡ 0 ∷ [] → IsSetOf ss s labels
    → IsPacketsOf st predicate x → IsStartEntryOf st ss n predicate (s, x)
start_there st ss n s x labels predicate some is set packets = record {
  pair = record {
    known = set.within;
    places = subst (AreLabelsBelow n) (sym (set.members ∙ is)) (all_from_members (λ l. l < n) (0 ∷ []) one);
    packets = packets.set;
  };
  members = set.members ∙ is;
  packets = packets;
}
  where
    one : (l : ℕ) → In (0 ∷ []) l → l < n
    one l (inl e) = omega (arith, e, some)
    one l (inr z) = absurd z

-- it stays as store and sets grow
pub start_on : (a b : StoreState) (ss nss : List (List ℕ)) (n : ℕ) (predicate : Policy) (e : ℕ × ℕ) → Grows a b → SetsGrow ss nss
    → IsStartEntryOf a ss n predicate e → IsStartEntryOf b nss n predicate e
start_on a b ss nss n predicate e g h k = record {
  pair = pair_on a b ss nss n e g h k.pair;
  members = sets_same ss nss e.0 h k.pair.known ∙ k.members;
  packets = packets_on a b predicate e.1 g k.packets;
}

-- the start row's predicate is one
pub start_predicate : (c : CertificateValue) → HasPredicates c → is_predicate c.start ≡ true
start_predicate c h =
    let row : CertRow = record { row_position = at_start; predicate = c.start } in
    h row (contains_from_in (certificate_rows c) row (inl refl))

-- and so are those of the rows that are held
pub later_predicates : (start : Policy) (rows : List (List ℕ × Pol)) → HasPredicates (record { start = start; rows = row_values rows })
    → All (λ r. is_predicate (tree_of r.1) ≡ true) rows
later_predicates start rows h =
    all_from_members (λ r. is_predicate (tree_of r.1) ≡ true) rows
    (λ r i. h (later_row r.0 (tree_of r.1)) (contains_from_in (certificate_rows (record { start = start; rows = row_values rows })) (later_row r.0 (tree_of r.1)) (inr
    (in_mapped (λ (v : RowValue). later_row v.positions v.predicate) (row_values rows) (held_row_value r) (in_mapped held_row_value rows r i)))))
