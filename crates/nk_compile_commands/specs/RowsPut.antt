-- Rows that a text of tables takes one after the other, each with its bucket list, where equal lists are one group.
use Rattle.std.proofs.Common.{◌≡◌, ℕ, List, [], ◌∷◌, ◌++◌, refl, sym, ap, subst, ◌∙◌}
use Rattle.std.proofs.lemmas.List.{append-nil, append_assoc}
use Rattle.nk_field.specs.Packet.{FieldTable}
use Rattle.nk_topo.specs.Topology.{Topology}
use Rattle.nk_table.specs.declared.Bucket.{Bucket}
use Rattle.nk_table.specs.declared.Plain.{Plain}
use Rattle.nk_table.specs.declared.Row.{Row}
use Rattle.nk_table.specs.declared.Table.{Table}
use Rattle.nk_group.specs.Groups.{taken, row_among, rows_after, lists_after}
use Rattle.nk_tabtext.specs.declared.writer.TableWriter.{TableWriter}
use Rattle.nk_tabtext.specs.Written.{IsWriting}

-- from the one text and the lists of its groups to the other these rows were put
pub record ArePut (s : TableWriter) (ls : List (List Bucket)) (rows : List Plain) (t : TableWriter) (ms : List (List Bucket)) : Type 0 where
  pub text : (fields : FieldTable) (topo : Topology) (tables : List Table) (sw : ℕ) (before : List Row)
      → IsWriting fields topo tables sw before s → IsWriting fields topo tables sw (before ++ rows_after ls rows) t
  pub lists : ms ≡ lists_after ls rows

-- between a text and itself none
pub none_put : (s : TableWriter) (ls : List (List Bucket)) → ArePut s ls [] s ls
none_put s ls = record {
  text = λ fields topo tables sw before w. subst (λ l. IsWriting fields topo tables sw l s) (sym (append-nil before)) w;
  lists = refl;
}

-- the rows of two lists in turn
rows_joined : (ls : List (List Bucket)) (rows more : List Plain) → rows_after ls (rows ++ more) ≡ rows_after ls rows ++ rows_after (lists_after ls rows) more
rows_joined ls [] more = refl
rows_joined ls (r ∷ rows) more = ap (λ l. row_among (taken ls r.buckets) r ∷ l) (rows_joined (taken ls r.buckets) rows more)

-- and the lists of their groups
lists_joined : (ls : List (List Bucket)) (rows more : List Plain) → lists_after ls (rows ++ more) ≡ lists_after (lists_after ls rows) more
lists_joined ls [] more = refl
lists_joined ls (r ∷ rows) more = lists_joined (taken ls r.buckets) rows more

-- some, and then others
pub joined_put : (s t u : TableWriter) (ls ms ns : List (List Bucket)) (rows more : List Plain) → ArePut s ls rows t ms → ArePut t ms more u ns → ArePut s ls (rows ++ more) u ns
joined_put s t u ls ms ns rows more f g = record {
  text = λ fields topo tables sw before w.
      subst (λ l. IsWriting fields topo tables sw l u)
      (append_assoc before (rows_after ls rows) (rows_after ms more)
      ∙ ap (λ l. before ++ (rows_after ls rows ++ rows_after l more)) f.lists
      ∙ ap (λ l. before ++ l) (sym (rows_joined ls rows more)))
      (g.text fields topo tables sw (before ++ rows_after ls rows) (f.text fields topo tables sw before w));
  lists = g.lists ∙ ap (λ l. lists_after l more) f.lists ∙ sym (lists_joined ls rows more);
}
