-- The rows that are read have predicates.
use Rattle.std.proofs.Common.{◌≡◌, ℕ, Bool, true, false, cond, List, [], ◌∷◌, ◌++◌, map, None, Some, Ok, Err, inl, inr, refl, sym, ap, subst, ◌∙◌}
use Rattle.std.specs.declared.result.Result.{Result}
use Rattle.nk_lex.specs.Faults.{and_then, unless}
use Rattle.nk_field.specs.Packet.{FieldTable}
use Rattle.nk_field.proofs.Lists.{In, in_from_contains}
use Rattle.nk_policy.specs.Policy.{Policy, dup, is_predicate, marked_from}
use Rattle.nk_policy.proofs.Remade.{marked_predicate}
use Rattle.nk_grammar.specs.Tree.{Tree}
use Rattle.nk_grammar.specs.Certified.{Row, row}
use Rattle.nk_names.specs.declared.fault.NamesError.{NamesError}
use Rattle.nk_names.specs.Meant.{MaybeTextFault, policy_for}
use Rattle.nk_names.specs.ProgramOf.{predicate_fault, row_policy}
use Rattle.nk_names.proofs.Predicates.{faultless_row}
use Rattle.nk_cert.specs.Certificates.{RowValue, CertificateValue, CertRow, later_row, certificate_rows}
use Rattle.nk_cert.specs.Verdicts.{HasPredicates}
use Rattle.nk_certtext.specs.declared.error.CertError.{CertError}
use Rattle.nk_certtext.specs.declared.error.CertError.TheVariants.{CertFault}
use Rattle.nk_certtext.specs.Rows.{is_misplaced, with_predicate, with_written_row, with_later_rows, with_rows, from_start, certificate_of}

-- each row's predicate is one
abbrev HavePredicates : List RowValue → Type 0
HavePredicates rows = (r : RowValue) → In rows r → is_predicate r.predicate ≡ true

-- the policy that is read, another one where there is a fault
abbrev policy_in : Result Policy NamesError → Policy
policy_in (Ok p) = p
policy_in (Err e) = dup 0

-- the rows that are read, none where there is a fault
abbrev rows_in : Result (List RowValue) CertError → List RowValue
rows_in (Ok rows) = rows
rows_in (Err e) = []

-- the policy of a row is a predicate
row_predicate : (fields : FieldTable) (t : Tree) (line : ℕ) (p : Policy) → row_policy fields t line ≡ Ok p → is_predicate p ≡ true
row_predicate fields t line p e = by (predicate_fault fields [] t line) refl e
  where
    by : (o : MaybeTextFault) → predicate_fault fields [] t line ≡ o → unless o (marked_from (policy_for fields [] t) 1) ≡ Ok p → is_predicate p ≡ true
    by None none e =
        ap is_predicate (sym (ap policy_in e)) ∙ marked_predicate (policy_for fields [] t) 1 ∙ (faultless_row fields [] t line none).predicate
    by (Some f) none e = absurd cc

-- one row more
one_more : (before : List RowValue) (ns : List ℕ) (p : Policy) → HavePredicates before → is_predicate p ≡ true
    → HavePredicates (before ++ record { positions = ns; predicate = p } ∷ [])
one_more [] ns p h k r (inl e) = ap (λ (x : RowValue). is_predicate x.predicate) e ∙ k
one_more [] ns p h k r (inr i) = absurd i
one_more (b ∷ bs) ns p h k r (inl e) = h r (inl e)
one_more (b ∷ bs) ns p h k r (inr i) = one_more bs ns p (λ q j. h q (inr j)) k r i

-- with a row that is read
with_one : (fields : FieldTable) (before : List RowValue) (r : Row) (after : List RowValue) → HavePredicates before
    → with_written_row fields before r ≡ Ok after → HavePredicates after
with_one fields before (row ns t line) after h e = by (is_misplaced before ns) (row_policy fields t line) refl e
  where
    by : (b : Bool) (x : Result Policy NamesError) → row_policy fields t line ≡ x
        → cond b (Err (CertFault line)) (with_predicate before ns x) ≡ Ok after → HavePredicates after
    by true x is e = absurd cc
    by false (Ok p) is e = subst HavePredicates (ap rows_in e) (one_more before ns p h (row_predicate fields t line p is))
    by false (Err f) is e = absurd cc

-- with all rows that are read
with_all : (fields : FieldTable) (rows : List Row) (before after : List RowValue) → HavePredicates before
    → with_later_rows fields rows before ≡ Ok after → HavePredicates after
with_all fields [] before after h e = subst HavePredicates (ap rows_in e) h
with_all fields (r ∷ rs) before after h e =
    by (with_written_row fields before r) refl (λ mid k z. with_all fields rs mid after k z) e
  where
    by : (x : Result (List RowValue) CertError) → with_written_row fields before r ≡ x
        → ((mid : List RowValue) → HavePredicates mid → with_later_rows fields rs mid ≡ Ok after → HavePredicates after)
        → and_then x (with_later_rows fields rs) ≡ Ok after → HavePredicates after
    by (Ok mid) is rest e = rest mid (with_one fields before r mid h is) e
    by (Err f) is rest e = absurd cc

-- a row of a certificate has one of these predicates
later_predicate : (rows : List RowValue) → HavePredicates rows → (r : CertRow)
    → In (map (λ v. later_row v.positions v.predicate) rows) r → is_predicate r.predicate ≡ true
later_predicate [] h r i = absurd i
later_predicate (v ∷ vs) h r (inl e) = ap (λ (x : CertRow). is_predicate x.predicate) e ∙ h v (inl refl)
later_predicate (v ∷ vs) h r (inr i) = later_predicate vs (λ q j. h q (inr j)) r i

-- so all rows of a certificate that is read have predicates
read_predicates : (fields : FieldTable) (t : Tree) (line : ℕ) (p : Policy) (later : List Row) (rows : List RowValue)
    → row_policy fields t line ≡ Ok p → with_later_rows fields later [] ≡ Ok rows
    → HasPredicates (record { start = p; rows = rows })
read_predicates fields t line p later rows first rest r c = by (in_from_contains (certificate_rows (record { start = p; rows = rows })) r c)
  where
    by : In (certificate_rows (record { start = p; rows = rows })) r → is_predicate r.predicate ≡ true
    by (inl e) = ap (λ (x : CertRow). is_predicate x.predicate) e ∙ row_predicate fields t line p first
    by (inr i) = later_predicate rows (with_all fields later [] rows (λ q j. absurd j) rest) r i

-- so those of a certificate that rows make
pub of_certificate : (fields : FieldTable) (rs : List Row) (c : CertificateValue) → certificate_of fields rs ≡ Ok c → HasPredicates c
of_certificate fields [] c e = absurd cc
of_certificate fields (row ns t line ∷ rs) c e = first (row_policy fields t line) refl e
  where
    certificate_is : (a b : CertificateValue) → ◌≡◌ {A = Result CertificateValue CertError} (Ok a) (Ok b) → a ≡ b
    certificate_is a b e = cc

    later : (p : Policy) (x : Result (List RowValue) CertError) → with_later_rows fields rs [] ≡ x → row_policy fields t line ≡ Ok p
        → with_rows p x ≡ Ok c → HasPredicates c
    later p (Ok rows) is start e = subst HasPredicates (certificate_is _ c e) (read_predicates fields t line p rs rows start is)
    later p (Err f) is start e = absurd cc

    first : (x : Result Policy NamesError) → row_policy fields t line ≡ x → from_start fields x rs ≡ Ok c → HasPredicates c
    first (Ok p) is e = later p (with_later_rows fields rs []) refl is e
    first (Err f) is e = absurd cc
