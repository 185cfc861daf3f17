-- Updates worked by hand: tables that send what enters at 1:1 over the link and out at 2:2, and new ones that send it back;
-- and the four tables of a switch with groups.
use Rattle.std.specs.Prelude.{◌≡◌, ℕ, [], ◌∷◌}
use Rattle.nk_table.specs.declared.Tables.{Tables}
use Rattle.nk_table.specs.declared.Group.{Group}
use Rattle.nk_table.specs.declared.Row.{Row}
use Rattle.nk_table.specs.declared.Target.{Target}
use Rattle.nk_table.specs.declared.Target.TheVariants as target
use Rattle.nk_table.specs.declared.Exit.TheVariants.{Back, Port}
use Rattle.nk_table.specs.Worked.{two_fields, one_link, one_crossing, one_table, row, bucket}
use Rattle.nk_update.specs.Plans.{Pair, pair_of}
use Rattle.nk_update.specs.Steps.{plan_of}

-- the new tables
abbrev pub sending_back : Tables
sending_back = record {
  fields = two_fields;
  topo = one_link;
  tables =
      record { switch = 1; groups = []; rows = row 0 ((3, 0, 3) ∷ (1, 1, 16) ∷ []) (target.Bucket (bucket ((3, 0) ∷ []) Back)) ∷ [] }
      ∷ record { switch = 2; groups = []; rows = [] }
      ∷ [];
}

abbrev pub worked_pair : Pair
worked_pair = pair_of one_crossing sending_back 1

-- a group of two buckets
abbrev pub two_ways : ℕ → Group
two_ways n = record { number = n; buckets = bucket ((3, 0) ∷ []) Back ∷ bucket ((3, 0) ∷ []) (Port 2) ∷ [] }

-- a row for one value of the tag
abbrev pub tag_row : ℕ → Target → Row
tag_row n to = row 0 ((3, n, 3) ∷ []) to

-- One switch: the old rows are for the tags 0 and 1, the new ones for 0 and 2; of each the first names a group.
abbrev pub grouped_pair : Pair
grouped_pair =
    pair_of (one_table (two_ways 1 ∷ []) (tag_row 0 (target.Group 1) ∷ tag_row 1 target.Discard ∷ []))
    (one_table (two_ways 1 ∷ two_ways 2 ∷ []) (tag_row 0 (target.Group 2) ∷ tag_row 2 (target.Group 1) ∷ [])) 1

-- Its four tables: the new groups go on from 2 and stand from the first step to the end, the old one until the third step.
abbrev pub GroupsGoOn : Type 0
GroupsGoOn =
    plan_of grouped_pair ≡ record {
      fields = two_fields;
      topo = grouped_pair.old.topo;
      old_tags = 1;
      switches =
          record {
            switch = 1;
            before = record { switch = 1; groups = two_ways 1 ∷ []; rows = tag_row 0 (target.Group 1) ∷ tag_row 1 target.Discard ∷ [] };
            added = record {
              switch = 1;
              groups = two_ways 1 ∷ two_ways 2 ∷ two_ways 3 ∷ [];
              rows = tag_row 0 (target.Group 1) ∷ tag_row 1 target.Discard ∷ tag_row 2 (target.Group 2) ∷ [];
            };
            replaced = record {
              switch = 1;
              groups = two_ways 1 ∷ two_ways 2 ∷ two_ways 3 ∷ [];
              rows = tag_row 1 target.Discard ∷ tag_row 0 (target.Group 3) ∷ tag_row 2 (target.Group 2) ∷ [];
            };
            removed = record {
              switch = 1;
              groups = two_ways 2 ∷ two_ways 3 ∷ [];
              rows = tag_row 0 (target.Group 3) ∷ tag_row 2 (target.Group 2) ∷ [];
            };
          }
          ∷ [];
    }
