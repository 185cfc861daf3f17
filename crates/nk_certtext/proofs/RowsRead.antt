-- What rows in memory are to the rows of the definitions.
use Rattle.std.proofs.Common.{◌≡◌, ◌<◌, ◌+◌, ℕ, length, get_or, map, take, Bool, true, false, cond, ◌||◌, List, [], ◌∷◌, ◌++◌, Some, Ok, Err, is_some, refl, sym, ap, ◌∙◌}
use Rattle.std.proofs.lemmas.List.{map-append, take_more}
use Rattle.std.specs.declared.result.Result.{Result}
use Rattle.std.specs.Prelude.{IfOk}
use Rattle.std.specs.Map.{lookup}
use Rattle.std.specs.Str.{bytes_eq}
use Rattle.indexmap.specs.IndexMap.{insert_entry}
use Rattle.nk_lex.specs.Faults.{and_then}
use Rattle.nk_field.specs.Packet.{FieldTable}
use Rattle.nk_policy.specs.Policy.{Policy}
use Rattle.nk_policy.specs.Tree.{tree_of}
use Rattle.nk_policy.specs.declared.policy.Pol.{Pol}
use Rattle.nk_grammar.specs.declared.decl.CertRow.{CertRow}
use Rattle.nk_grammar.specs.Tree.{Tree, tree_of as written_of}
use Rattle.nk_grammar.specs.Certified.{Row, row, row_value as written_row}
use Rattle.nk_names.specs.declared.fault.NamesError.{NamesError}
use Rattle.nk_names.specs.ProgramOf.{row_policy}
use Rattle.nk_cert.specs.Certificates.{RowValue}
use Rattle.nk_cert.specs.declared.certificate.Certificate.{Certificate}
use Rattle.nk_cert.specs.Values.{held_row_value, row_values, certificate_value}
use Rattle.nk_cert.specs.Verdicts.{HasPredicates}
use Rattle.nk_certtext.specs.declared.error.CertError.TheVariants.{CertFault}
use Rattle.nk_certtext.specs.declared.error.CertError.{CertError}
use Rattle.nk_certtext.specs.Rows.{have_positions, is_misplaced, with_predicate, placed_row, with_written_row, with_later_rows, with_rows, from_start, certificate_of, starts, with_later_row, with_next_row, made_of, certificate_at_end, RowsValue, CertReturns}
use Rattle.nk_certtext.proofs.Predicates.{of_certificate}

-- the positions are found where a row has them
pub found : (es : List (List ℕ × Pol)) (ns : List ℕ) → is_some (lookup (bytes_eq ns) es) ≡ have_positions (row_values es) ns
found [] ns = refl
found (e ∷ es) ns = by (bytes_eq ns e.0) (found es ns)
  where
    by : (b : Bool) → is_some (lookup (bytes_eq ns) es) ≡ have_positions (row_values es) ns
        → is_some (cond b (Some e.1) (lookup (bytes_eq ns) es)) ≡ (b || have_positions (row_values es) ns)
    by true rest = refl
    by false rest = rest

-- new positions go last
new_last : (es : List (List ℕ × Pol)) (ns : List ℕ) (p : Pol) → have_positions (row_values es) ns ≡ false
    → insert_entry bytes_eq es ns p ≡ es ++ (ns, p) ∷ []
new_last [] ns p h = refl
new_last (e ∷ es) ns p h = by (bytes_eq ns e.0) h (new_last es ns p)
  where
    by : (b : Bool) → (b || have_positions (row_values es) ns) ≡ false
        → (have_positions (row_values es) ns ≡ false → insert_entry bytes_eq es ns p ≡ es ++ (ns, p) ∷ [])
        → cond b ((e.0, p) ∷ es) (e ∷ insert_entry bytes_eq es ns p) ≡ e ∷ (es ++ (ns, p) ∷ [])
    by true h rest = absurd cc
    by false h rest = ap (λ l. e ∷ l) (rest h)

-- so the rows are one more
pub row_put : (es fs : List (List ℕ × Pol)) (ns : List ℕ) (p : Pol) → have_positions (row_values es) ns ≡ false
    → fs ≡ insert_entry bytes_eq es ns p → with_predicate (row_values es) ns (Ok (tree_of p)) ≡ Ok (row_values fs)
row_put es fs ns p h e = ap Ok (sym (ap row_values (e ∙ new_last es ns p h) ∙ map-append held_row_value es ((ns, p) ∷ [])))

module _ (before : List RowValue) (ns : List ℕ) (line : ℕ) (wanted : Result Policy NamesError) where
  -- a row whose positions are not misplaced is what its predicate makes it
  placed : is_misplaced before ns ≡ false → placed_row before ns line wanted ≡ with_predicate before ns wanted
  placed h = ap (λ b. cond b (Err (CertFault line)) (with_predicate before ns wanted)) h

  -- a predicate is the row's
  pub row_read : (p : Policy) (after : List RowValue) → is_misplaced before ns ≡ false → wanted ≡ Ok p
      → with_predicate before ns (Ok p) ≡ Ok after → placed_row before ns line wanted ≡ Ok after
  row_read p after h f e = placed h ∙ ap (with_predicate before ns) f ∙ e

-- rows after others are read one more at a time
rows_more : (fields : FieldTable) (rs : List Row) (r : Row) (before : List RowValue)
    → with_later_rows fields (rs ++ r ∷ []) before ≡ and_then (with_later_rows fields rs before) (λ b. with_written_row fields b r)
rows_more fields [] r before = alone (with_written_row fields before r)
  where
    alone : (x : Result (List RowValue) CertError) → and_then x (with_later_rows fields []) ≡ x
    alone (Ok b) = refl
    alone (Err e) = refl
rows_more fields (q ∷ rs) r before = by (with_written_row fields before q) (rows_more fields rs r)
  where
    by : (x : Result (List RowValue) CertError)
        → ((b : List RowValue) → with_later_rows fields (rs ++ r ∷ []) b ≡ and_then (with_later_rows fields rs b) (λ c. with_written_row fields c r))
        → and_then x (with_later_rows fields (rs ++ r ∷ [])) ≡ and_then (and_then x (with_later_rows fields rs)) (λ c. with_written_row fields c r)
    by (Ok b) h = h b
    by (Err e) h = refl

-- so what rows make is made row by row
pub made_more : (fields : FieldTable) (rs : List Row) (ns : List ℕ) (t : Tree) (line : ℕ)
    → made_of fields (rs ++ row ns t line ∷ []) ≡ with_next_row (made_of fields rs) ns line (row_policy fields t line)
made_more fields [] ns t line = by (row_policy fields t line)
  where
    by : (x : Result Policy NamesError) → Some (from_start fields x []) ≡ Some (starts x)
    by (Ok p) = refl
    by (Err e) = refl
made_more fields (row ms u at ∷ rs) ns t line = ap Some (by (row_policy fields u at) (rows_more fields rs (row ns t line) []))
  where
    on : (p : Policy) (x : Result (List RowValue) CertError)
        → with_rows p (and_then x (λ b. with_written_row fields b (row ns t line))) ≡ with_later_row (with_rows p x) ns line (row_policy fields t line)
    on p (Ok b) = refl
    on p (Err e) = refl

    by : (x : Result Policy NamesError)
        → with_later_rows fields (rs ++ row ns t line ∷ []) [] ≡ and_then (with_later_rows fields rs []) (λ b. with_written_row fields b (row ns t line))
        → from_start fields x (rs ++ row ns t line ∷ []) ≡ with_later_row (from_start fields x rs) ns line (row_policy fields t line)
    by (Ok p) h = ap (with_rows p) h ∙ on p (with_later_rows fields rs [])
    by (Err e) h = refl

-- and all rows make the certificate
pub made_all : (fields : FieldTable) (rs : List Row) → certificate_at_end (made_of fields rs) ≡ certificate_of fields rs
made_all fields [] = refl
made_all fields (r ∷ rs) = refl

-- with the row at the place
pub made_next : (fields : FieldTable) (rows : List CertRow) (i : ℕ) (r : CertRow) (before after : RowsValue) → i < length rows → r ≡ get_or rows i r
    → before ≡ made_of fields (map written_row (take i rows))
    → after ≡ with_next_row before r.positions r.line (row_policy fields (written_of r.pred) r.line)
    → after ≡ made_of fields (map written_row (take (i + 1) rows))
made_next fields rows i r before after lt is h e =
    e
    ∙ ap (λ b. with_next_row b r.positions r.line (row_policy fields (written_of r.pred) r.line)) h
    ∙ sym (made_more fields (map written_row (take i rows)) r.positions (written_of r.pred) r.line)
    ∙ ap (made_of fields) (sym (
    ap (map written_row) (take_more rows i r lt ∙ ap (λ x. take i rows ++ x ∷ []) (sym is))
    ∙ map-append written_row (take i rows) (r ∷ [])))

-- so the certificate of all rows has predicates
pub finished_predicates : (fields : FieldTable) (rs : List Row) (b : RowsValue) (r : Result Certificate CertError) → b ≡ made_of fields rs
    → CertReturns certificate_value r (certificate_at_end b) → IfOk r (λ c. HasPredicates (certificate_value c))
finished_predicates fields rs b (Ok c) is h =
    of_certificate fields rs (certificate_value c) (sym (made_all fields rs) ∙ sym (ap certificate_at_end is) ∙ h)
finished_predicates fields rs b (Err e) is h = tt
