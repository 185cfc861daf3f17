-- What a job answers is one.
use Rattle.std.proofs.Common.{◌≡◌, ℕ, ◌++◌, List, inl, inr, length, refl, sym, ap, subst, ◌∙◌}
use Rattle.std.specs.Prelude.{codes}
use Rattle.nk_field.specs.Packet.{IsFieldTable}
use Rattle.nk_names.specs.Accepted.{IsStartPacket}
use Rattle.nk_names.specs.declared.Program.{Program}
use Rattle.nk_names.specs.ProgramOf.{program_by}
use Rattle.nk_names.specs.ReadBack.{DeclaresWritable}
use Rattle.nk_table.specs.declared.Tables.{Tables}
use Rattle.nk_compile.specs.Counted.{HasTagSets, HasTagCount}
use Rattle.nk_uniqueness.specs.Packets.{HavePackets}
use Rattle.nk_uniqueness.specs.Texts.{TextsHavePackets}
use Rattle.nk_uniqueness.specs.Told.{Told, certified, alone}
use Rattle.nk_names.proofs.Alike.{fields_alike, topo_alike, one_policy}
use Rattle.nk_uniqueness.proofs.ByName.{one_compiled}
use Rattle.nk_uniqueness.proofs.Comparing.{OnePrinted, one_told_for}
use Rattle.nk_compile.proofs.OneTagList.{one_tag_list}
use Rattle.nk_verify_commands.specs.Comparing.{IsEqualAnswer}
use Rattle.nk_compile_commands.specs.Compiling.{IsCompileAnswer}
use Rattle.nk.specs.Generating.{CountsTables, CountsRows, IsCounted, IsJobOver, IsNotDone, OrThen, tables_line, rows_line}
use Rattle.nk_reply.specs.Outcome.{Outcome, done}
use Rattle.nk_input.proofs.OneText.{declares_once}
use Rattle.nk_one_answer.proofs.Named.{packets_of, table_of, one_compile, one_equal}

done_is : (x y : List ℕ) → done x ≡ done y → x ≡ y
done_is x y e = cc

-- one answer of a first command, and one of the rest
one_or_then : (First : Outcome → Type 0) (Rest : List ℕ → Outcome → Type 0) → ((o p : Outcome) → First o → First p → o ≡ p)
    → ((t : List ℕ) (o p : Outcome) → Rest t o → Rest t p → o ≡ p) → (o p : Outcome) → OrThen First Rest o → OrThen First Rest p → o ≡ p
one_or_then First Rest one rest o p (inl h) (inl k) = one o p h.1 k.1
one_or_then First Rest one rest o p (inl h) (inr k) = absurd (subst IsNotDone (one o (done k.0) h.1 k.1) h.0)
one_or_then First Rest one rest o p (inr h) (inl k) = absurd (subst IsNotDone (one p (done h.0) k.1 h.1) k.0)
one_or_then First Rest one rest o p (inr h) (inr k) =
    let e = done_is h.0 k.0 (one (done h.0) (done k.0) h.1 k.1) in
    rest k.0 o p (subst (λ t. Rest t o) e h.2) k.2

module _ (program other : Program) (same : program_by program ≡ program_by other) where
  -- the number of tag sets is one
  one_count : (name : List ℕ) (m n : ℕ) → HasTagCount program name m → HasTagCount other name n → m ≡ n
  one_count name m n h k =
      let sets : HasTagSets program.fields program.topo h.0 n =
      subst (λ p. HasTagSets program.fields program.topo p n) (sym (one_policy program other same name h.0 k.0 h.1 k.1))
      (subst (λ t. HasTagSets program.fields t k.0 n) (sym (topo_alike program other same))
      (subst (λ f. HasTagSets f other.topo k.0 n) (sym (fields_alike program other same)) k.3)) in
      let mine = h.3 in
      mine.2
      ∙ ap length (one_tag_list h.0 (IsStartPacket program.fields program.topo) mine.0 sets.0 mine.1 sets.1)
      ∙ sym sets.2

  one_tables_line : HavePackets program.fields program.topo → (name a b x y : List ℕ)
      → CountsTables program name a x → CountsTables other name b y → x ≡ y
  one_tables_line there name a b x y m n =
      m.told
      ∙ ap (λ t. tables_line name t m.tables.tables) (one_count name m.tags n.tags m.counted n.counted)
      ∙ ap (λ (t : Tables). tables_line name n.tags t.tables) (one_compiled program other same name m.tables n.tables there m.compiled n.compiled)
      ∙ sym n.told

  -- how many rows a certificate that is told has
  abbrev rows_told : Told → ℕ
  rows_told (certified c) = length c.rows
  rows_told (alone side f) = 0

  one_rows_line : OnePrinted → IsFieldTable program.fields → (left right a b x y : List ℕ)
      → CountsRows program left right a x → CountsRows other left right b y → x ≡ y
  one_rows_line law table left right a b x y m n =
      m.told
      ∙ ap (λ t. rows_line (rows_told t))
      (one_told_for program other same left right law table (certified m.certificate) (certified n.certificate)
      (m.left_policy, m.right_policy, m.named.left_is, m.named.right_is, m.related)
      (n.left_policy, n.right_policy, n.named.left_is, n.named.right_is, n.related))
      ∙ sym n.told

module _ (printed : OnePrinted) (writable : DeclaresWritable) (packets : TextsHavePackets) (bytes : List ℕ) where
  one_counted : (g c t : List ℕ) (o p : Outcome) → IsCounted bytes g c t o → IsCounted bytes g c t p → o ≡ p
  one_counted g c t o p h k =
      let same = declares_once bytes (program_by h.program) (program_by k.program) h.declares k.declares in
      let there = packets_of packets bytes (program_by h.program) h.declares h.program refl in
      let table = table_of writable bytes (program_by h.program) h.declares h.program refl in
      let go = one_tables_line h.program k.program same there (codes "go") g g h.go_line k.go_line h.go k.go in
      let cast = one_tables_line h.program k.program same there (codes "cast") c c h.cast_line k.cast_line h.cast k.cast in
      let rows = one_rows_line h.program k.program same printed table (codes "go") (codes "same") t t h.equal_line k.equal_line h.equal k.equal in
      h.told
      ∙ ap (λ l. done (l ++ h.cast_line ++ h.equal_line)) go
      ∙ ap (λ l. done (k.go_line ++ l ++ h.equal_line)) cast
      ∙ ap (λ l. done (k.go_line ++ k.cast_line ++ l)) rows
      ∙ sym k.told

  pub one_job : (o p : Outcome) → IsJobOver bytes o → IsJobOver bytes p → o ≡ p
  one_job =
      one_or_then (IsCompileAnswer (codes "go") bytes) _ (one_compile packets (codes "go") bytes) (λ g.
      one_or_then (IsCompileAnswer (codes "cast") bytes) _ (one_compile packets (codes "cast") bytes) (λ c.
      one_or_then (IsEqualAnswer (codes "go") (codes "same") bytes) _ (one_equal printed writable (codes "go") (codes "same") bytes)
      (λ t. one_counted g c t)))
