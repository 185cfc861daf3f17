-- A table that is written row by row, and then its groups in front of the rows.
use Rattle.std.proofs.Common.{◌≡◌, ℕ, ◌≤◌, ◌+◌, ◌++◌, ◌||◌, Bool, true, false, List, [], ◌∷◌, length, length-append, take, take-append-drop, drop, refl, sym, ap, subst, ◌∙◌, arith, append_assoc, Result, Ok, Err, OnOk}
use Rattle.std.specs.Prelude.{not}
use Rattle.std.specs.Fmt.{digits}
use Rattle.std.specs.List.{flat_map, list_any}
use Rattle.std.proofs.lemmas.Grind.{flat_map-append}
use Rattle.std.proofs.lemmas.List.{append-nil}
use Rattle.std.proofs.lemmas.List.Folds.{list_any-append}
use Rattle.nk_field.specs.Packet.{FieldTable}
use Rattle.nk_topo.specs.Topology.{Topology}
use Rattle.nk_table.specs.declared.Group.{Group}
use Rattle.nk_table.specs.declared.Row.{Row}
use Rattle.nk_table.specs.declared.Table.{Table}
use Rattle.nk_tabtext.specs.declared.writer.TableWriter.{TableWriter}
use Rattle.nk_tabtext.specs.Text.{fields_text, group_text, have_prefix, is_exact, row_text, tag_text, topology_text, version_text}
use Rattle.nk_tabtext.specs.Remembered.{RemembersSome}
use Rattle.nk_tabtext.specs.Written.{HasWritten, IsWriting, head_text, own_section_text, some_prefix, switch_line_text, version_with}

-- both versions have one digit
lines_alike : (b c : Bool) → length (version_text (version_with b)) ≡ length (version_text (version_with c))
unfolding digits
lines_alike true true = refl
lines_alike true false = refl
lines_alike false true = refl
lines_alike false false = refl

or_false : (x : Bool) → x ≡ (x || false)
or_false true = refl
or_false false = refl

or_assoc : (x y z : Bool) → ((x || y) || z) ≡ (x || (y || z))
or_assoc true y z = refl
or_assoc false y z = refl

-- a first part of this length is what is taken, and what follows it is left
take_first : {X : Type 0} (xs ys : List X) → take (length xs) (xs ++ ys) ≡ xs
take_first [] ys = refl
take_first (x ∷ xs) ys = ap (λ l. x ∷ l) (take_first xs ys)

drop_first : {X : Type 0} (xs ys : List X) → drop (length xs) (xs ++ ys) ≡ ys
drop_first [] ys = refl
drop_first (x ∷ xs) ys = drop_first xs ys

module _ (fields : FieldTable) (topo : Topology) (tables : List Table) (sw : ℕ) where
  abbrev front_with : Bool → List ℕ
  front_with b = head_text (version_with b) fields topo ++ flat_map (own_section_text fields) tables ++ switch_line_text sw

  -- the first line of one more table was put
  pub table_begun : (w u : TableWriter) → HasWritten fields topo tables w → u.fields.now ≡ w.fields.now → u.prefixes ≡ w.prefixes
      → u.text.items ≡ w.text.items ++ switch_line_text sw → u.start ≡ length u.text.items → u.last ≡ w.last
      → IsWriting fields topo tables sw [] u
  table_begun w u before same kept put start stay = record {
    same_fields = same ∙ before.same_fields;
    prefixes = kept ∙ before.prefixes ∙ or_false (some_prefix fields tables);
    front = u.text.items;
    front_is =
        put
        ∙ ap (λ l. l ++ switch_line_text sw) before.text
        ∙ ap front_with (sym kept);
    start = start;
    text = sym (append-nil u.text.items);
    last = subst (RemembersSome fields) (sym stay) before.last;
  }

  apart : (v f t y s l r : List ℕ) → v ++ f ++ t ++ y ++ s ++ l ++ r ≡ v ++ (f ++ (t ++ (y ++ (s ++ (l ++ r)))))
  apart v f t y s l r = simp append_assoc

  first_apart : (v f t y s l : List ℕ) → v ++ f ++ t ++ y ++ s ++ l ≡ v ++ (f ++ (t ++ (y ++ (s ++ l))))
  first_apart v f t y s l = simp append_assoc

  -- what stands before the rows is as long in either version
  front_alike : (b c : Bool) → length (front_with b) ≡ length (front_with c)
  front_alike b c =
      let rest = fields_text fields ++ (tag_text fields ++ (topology_text topo ++ (flat_map (own_section_text fields) tables ++ switch_line_text sw))) in
      ap length (first_apart (version_text (version_with b)) (fields_text fields) (tag_text fields) (topology_text topo) (flat_map (own_section_text fields) tables) (switch_line_text sw))
      ∙ length-append (version_text (version_with b)) rest
      ∙ ap (λ n. n + length rest) (lines_alike b c)
      ∙ sym (length-append (version_text (version_with c)) rest)
      ∙ sym (ap length (first_apart (version_text (version_with c)) (fields_text fields) (tag_text fields) (topology_text topo) (flat_map (own_section_text fields) tables) (switch_line_text sw)))

  -- one more row was put
  pub row_put : (rows : List Row) (r : Row) (w v u : TableWriter) → IsWriting fields topo tables sw rows w
      → v.fields.now ≡ w.fields.now → v.start ≡ w.start
      → v.prefixes ≡ (w.prefixes || list_any (λ m. not (is_exact w.fields.now m)) r.matches)
      → ((rest : List ℕ) → w.text.items ≡ version_text (version_with w.prefixes) ++ rest → v.text.items ≡ version_text (version_with v.prefixes) ++ rest)
      → u.fields.now ≡ v.fields.now → u.start ≡ v.start → u.prefixes ≡ v.prefixes → RemembersSome v.fields.now u.last
      → u.text.items ≡ v.text.items ++ row_text v.fields.now r
      → IsWriting fields topo tables sw (rows ++ r ∷ []) u
  row_put rows r w v u before same from more told kept_fields kept_start kept known put = record {
    same_fields = kept_fields ∙ same ∙ before.same_fields;
    prefixes =
        kept
        ∙ more
        ∙ ap (λ f. w.prefixes || list_any (λ m. not (is_exact f m)) r.matches) before.same_fields
        ∙ ap (λ b. b || list_any (λ m. not (is_exact fields m)) r.matches) before.prefixes
        ∙ or_assoc (some_prefix fields tables) (have_prefix fields rows) (list_any (λ m. not (is_exact fields m)) r.matches)
        ∙ ap (λ b. some_prefix fields tables || (have_prefix fields rows || b)) (or_false (list_any (λ m. not (is_exact fields m)) r.matches))
        ∙ ap (λ b. some_prefix fields tables || b) (sym (list_any-append (λ (q : Row). list_any (λ m. not (is_exact fields m)) q.matches) rows (r ∷ [])));
    front = front_with u.prefixes;
    front_is = refl;
    start = kept_start ∙ from ∙ before.start ∙ ap length before.front_is ∙ front_alike w.prefixes u.prefixes;
    text =
        put
        ∙ ap (λ l. l ++ row_text v.fields.now r) (told _ (before.text ∙ ap (λ l. l ++ flat_map (row_text fields) rows) before.front_is ∙ parts w.prefixes) ∙ sym (parts v.prefixes))
        ∙ append_assoc (front_with v.prefixes) (flat_map (row_text fields) rows) (row_text v.fields.now r)
        ∙ ap (λ f. front_with v.prefixes ++ (flat_map (row_text fields) rows ++ row_text f r)) (same ∙ before.same_fields)
        ∙ ap (λ l. front_with v.prefixes ++ (flat_map (row_text fields) rows ++ l)) (sym (append-nil (row_text fields r)))
        ∙ ap (λ l. front_with v.prefixes ++ l) (sym (flat_map-append (row_text fields) rows (r ∷ [])))
        ∙ ap (λ b. front_with b ++ flat_map (row_text fields) (rows ++ r ∷ [])) (sym kept);
    last = subst (λ f. RemembersSome f u.last) (same ∙ before.same_fields) known;
  }
    where
      parts : (b : Bool) → front_with b ++ flat_map (row_text fields) rows
          ≡ version_text (version_with b) ++ (fields_text fields ++ (tag_text fields ++ (topology_text topo ++ (flat_map (own_section_text fields) tables ++ (switch_line_text sw ++ flat_map (row_text fields) rows)))))
      parts b =
          apart (version_text (version_with b)) (fields_text fields) (tag_text fields) (topology_text topo) (flat_map (own_section_text fields) tables)
          (switch_line_text sw) (flat_map (row_text fields) rows)

  -- what a writer remembers, by the fields of one that remembers the same
  pub known_by : (rows : List Row) (w v : TableWriter) → IsWriting fields topo tables sw rows w → v.fields.now ≡ w.fields.now
      → v.last ≡ w.last → RemembersSome v.fields.now v.last
  known_by rows w v k same stay =
      subst (λ f. RemembersSome f v.last) (sym (same ∙ k.same_fields)) (subst (RemembersSome fields) (sym stay) k.last)

  -- the table was ended, with these groups in front of its rows
  pub table_ended : (rows : List Row) (groups : List Group) (w u : TableWriter) → IsWriting fields topo tables sw rows w
      → u.fields.now ≡ w.fields.now → u.prefixes ≡ w.prefixes → u.last ≡ w.last
      → u.text.items ≡ take w.start w.text.items ++ flat_map (group_text w.fields.now) groups ++ drop w.start w.text.items
      → HasWritten fields topo (tables ++ record { switch = sw; groups = groups; rows = rows } ∷ []) u
  table_ended rows groups w u k same kept stay put = record {
    same_fields = same ∙ k.same_fields;
    prefixes =
        kept
        ∙ k.prefixes
        ∙ ap (λ b. some_prefix fields tables || b) (or_false (have_prefix fields rows))
        ∙ sym (list_any-append (λ (t : Table). have_prefix fields t.rows) tables (whole ∷ []));
    text =
        put
        ∙ ap (λ n. take n w.text.items ++ flat_map (group_text w.fields.now) groups ++ drop n w.text.items) k.start
        ∙ ap (λ l. take (length k.front) l ++ flat_map (group_text w.fields.now) groups ++ drop (length k.front) l) k.text
        ∙ ap (λ l. l ++ flat_map (group_text w.fields.now) groups ++ drop (length k.front) (k.front ++ flat_map (row_text fields) rows)) (take_first k.front (flat_map (row_text fields) rows))
        ∙ ap (λ l. k.front ++ flat_map (group_text w.fields.now) groups ++ l) (drop_first k.front (flat_map (row_text fields) rows))
        ∙ ap (λ f. k.front ++ flat_map (group_text f) groups ++ flat_map (row_text fields) rows) k.same_fields
        ∙ ap (λ l. l ++ flat_map (group_text fields) groups ++ flat_map (row_text fields) rows) k.front_is
        ∙ ap (λ b. front_with b ++ flat_map (group_text fields) groups ++ flat_map (row_text fields) rows) (sym kept)
        ∙ joined (head_text (version_with u.prefixes) fields topo) (flat_map (own_section_text fields) tables) (switch_line_text sw) (flat_map (group_text fields) groups) (flat_map (row_text fields) rows)
        ∙ ap (λ l. head_text (version_with u.prefixes) fields topo ++ (flat_map (own_section_text fields) tables ++ l)) (sym (append-nil (own_section_text fields whole)))
        ∙ ap (λ l. head_text (version_with u.prefixes) fields topo ++ l) (sym (flat_map-append (own_section_text fields) tables (whole ∷ [])));
    last = subst (RemembersSome fields) (sym stay) k.last;
  }
    where
      whole : Table
      whole = record { switch = sw; groups = groups; rows = rows }

      joined : (h s l m r : List ℕ) → h ++ s ++ l ++ m ++ r ≡ h ++ (s ++ (l ++ (m ++ r)))
      joined h s l m r = simp append_assoc

  -- the table was ended, with no groups
  pub plain_ended : (rows : List Row) (w : TableWriter) → IsWriting fields topo tables sw rows w
      → HasWritten fields topo (tables ++ record { switch = sw; groups = []; rows = rows } ∷ []) w
  plain_ended rows w k = table_ended rows [] w w k refl refl refl (sym (all_of w.start w.text.items))
    where
      all_of : (n : ℕ) (l : List ℕ) → take n l ++ [] ++ drop n l ≡ l
      all_of n l = ap (λ t. t ++ drop n l) (append-nil (take n l)) ∙ take-append-drop n l

  -- the rows begin within the text
  pub starts_within : (rows : List Row) (w : TableWriter) → IsWriting fields topo tables sw rows w → w.start ≤ length w.text.items
  starts_within rows w k =
      let long = ap length k.text ∙ length-append k.front (flat_map (row_text fields) rows) in
      omega (arith, long, k.start)

-- four facts of an Ok answer give a fifth
pub on_four : {T E : Type 0} (r : Result T E) (P Q R S U : Type 0) → (P → Q → R → S → U) → OnOk r P → OnOk r Q → OnOk r R → OnOk r S → OnOk r U
on_four (Ok x) P Q R S U f p q r s = f p q r s
on_four (Err e) P Q R S U f p q r s = p
