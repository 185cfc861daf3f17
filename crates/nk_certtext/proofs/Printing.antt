-- The text of a certificate, piece by piece.
use Rattle.std.proofs.Common.{◌≡◌, ℕ, List, [], ◌∷◌, ◌++◌, refl, ap, ◌∙◌, append_assoc, codes}
use Rattle.std.specs.List.{flat_map}
use Rattle.nk_field.specs.Packet.{FieldTable}
use Rattle.nk_policy.specs.Tree.{tree_of}
use Rattle.nk_policy.specs.declared.policy.Pol.{Pol}
use Rattle.nk_cert.specs.declared.certificate.Certificate.{Certificate}
use Rattle.nk_cert.specs.Values.{held_row_value, row_values, certificate_value}
use Rattle.nk_certtext.specs.Text.{predicate_bytes, row_bytes, cert_bytes}

module _ (fields : FieldTable) where
  -- rows in memory have the text of their values
  rows_text : (rows : List (List ℕ × Pol))
      → flat_map (λ r. row_bytes fields (held_row_value r)) rows ≡ flat_map (row_bytes fields) (row_values rows)
  rows_text [] = refl
  rows_text (r ∷ rs) = ap (λ l. row_bytes fields (held_row_value r) ++ l) (rows_text rs)

  -- the words, the start row's predicate, and the rows
  pub whole : (c : Certificate) (rows : List (List ℕ × Pol)) (words start all : List ℕ)
      → words ≡ codes "certificate\nrow start" → start ≡ words ++ predicate_bytes fields (tree_of c.start)
      → all ≡ start ++ flat_map (λ r. row_bytes fields (held_row_value r)) rows → rows ≡ c.rows
      → all ≡ cert_bytes fields (certificate_value c)
  whole c rows words start all first second third same =
      let predicate = predicate_bytes fields (tree_of c.start) in
      third
      ∙ ap (λ l. l ++ flat_map (λ r. row_bytes fields (held_row_value r)) rows) (second ∙ ap (λ l. l ++ predicate) first)
      ∙ append_assoc (codes "certificate\nrow start") predicate (flat_map (λ r. row_bytes fields (held_row_value r)) rows)
      ∙ ap (λ l. codes "certificate\nrow start" ++ (predicate ++ l)) (rows_text rows ∙ ap (λ l. flat_map (row_bytes fields) (row_values l)) same)
