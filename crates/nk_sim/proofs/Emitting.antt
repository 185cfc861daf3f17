-- What a switch sends, by its table.
use Rattle.std.proofs.Common.{◌≡◌, ℕ, Bool, true, false, cond, Option, None, Some, List, [], ◌∷◌, refl, ap, ◌∙◌}
use Rattle.std.specs.Prelude.{◌==◌, filter, slice_index}
use Rattle.nk_table.specs.declared.Tables.{Tables}
use Rattle.nk_table.specs.declared.Table.{Table}
use Rattle.nk_table.specs.Rules.{agrees, rows_of, groups_at_switch, highest, buckets_of_row, sent_for}
use Rattle.nk_sim.specs.Emitted.{table_of, sent_by_all, sent_by_table}

-- what the switch with this table sends, or one without a table
abbrev sent_by_found : (maxima pk : List ℕ) → Option Table → List (List ℕ)
sent_by_found maxima pk None = []
sent_by_found maxima pk (Some t) = sent_by_table maxima pk t

-- what is sent by the rows and the groups of a switch
abbrev sent_at : (maxima pk : List ℕ) → List Table → ℕ → List (List ℕ)
sent_at maxima pk ts sw = sent_by_all pk (buckets_of_row (groups_at_switch ts sw) (highest [] (filter (agrees maxima pk) (rows_of ts sw))))

-- the first table of a switch has its rows and its groups
first_has : (maxima pk : List ℕ) (ts : List Table) (sw : ℕ) → sent_at maxima pk ts sw ≡ sent_by_found maxima pk (table_of ts sw)
first_has maxima pk [] sw = refl
first_has maxima pk (t ∷ ts) sw = by (t.switch == sw) (first_has maxima pk ts sw)
  where
    by : (b : Bool) → sent_at maxima pk ts sw ≡ sent_by_found maxima pk (table_of ts sw)
        → sent_by_all pk (buckets_of_row (cond b t.groups (groups_at_switch ts sw)) (highest [] (filter (agrees maxima pk) (cond b t.rows (rows_of ts sw)))))
        ≡ sent_by_found maxima pk (cond b (Some t) (table_of ts sw))
    by true rest = refl
    by false rest = rest

-- nothing is sent where the switch has no table
pub none_sent : (t : Tables) (pk : List ℕ) → table_of t.tables (slice_index pk 0) ≡ None → sent_for t pk ≡ []
none_sent t pk h = first_has t.fields.maxima pk t.tables (slice_index pk 0) ∙ ap (sent_by_found t.fields.maxima pk) h

-- else what its first table says
pub sent_by_first : (t : Tables) (pk : List ℕ) (tb : Table) → table_of t.tables (slice_index pk 0) ≡ Some tb → sent_for t pk ≡ sent_by_table t.fields.maxima pk tb
sent_by_first t pk tb h = first_has t.fields.maxima pk t.tables (slice_index pk 0) ∙ ap (sent_by_found t.fields.maxima pk) h
