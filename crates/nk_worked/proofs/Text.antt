-- The text of the two tables, and their order.
use Rattle.std.proofs.Common.{◌≡◌, [], ◌∷◌, refl, arith}
use Rattle.std.specs.Prelude.{All}
use Rattle.std.specs.Fmt.{digits}
use Rattle.nk_field.specs.Act.{AscendsFrom}
use Rattle.nk_table.specs.declared.Row.{Row}
use Rattle.nk_table.specs.declared.Group.{Group}
use Rattle.nk_table.specs.declared.Target.TheVariants as target
use Rattle.nk_table.specs.declared.Exit.TheVariants.{Back, Port}
use Rattle.nk_table.specs.Worked.{row}
use Rattle.nk_tabtext.specs.InOrder.{MatchesAscend, IsTargetInOrder, IsTableInOrder}
use Rattle.nk_tabtext.specs.Text.{table_bytes}
use Rattle.nk_worked.specs.TwoSwitches.{tagged, first_table, second_table, two_tables}
use Rattle.nk_worked.specs.TheirTable.{its_text, ArePrintedSo}
use Rattle.nk_worked.proofs.Tables.{all_of_one, all_of_two}

-- the bytes by computation, digits too
text_is : table_bytes two_tables ≡ its_text
unfolding digits
text_is = refl

-- what holds of each group where there is none
of_none : {X : Type 0} (P : X → Type 0) → All P []
of_none P k d lt = absurd (omega (arith, lt))

first_ascends : IsTableInOrder first_table
first_ascends = record {
  groups = λ i j d lt less. absurd (omega (arith, lt, less));
  buckets = of_none (λ (g : Group). All (λ b. AscendsFrom 2 b.sets) g.buckets);
  matches = all_of_one (λ (r : Row). MatchesAscend 1 r.matches) (row 2 ((1, 1, 16) ∷ (3, 0, 3) ∷ []) (target.Bucket (tagged 1 (Port 2)))) (omega arith, (omega arith, tt));
  targets = all_of_one (λ (r : Row). IsTargetInOrder r.target) (row 2 ((1, 1, 16) ∷ (3, 0, 3) ∷ []) (target.Bucket (tagged 1 (Port 2)))) (omega arith, tt);
}

second_ascends : IsTableInOrder second_table
second_ascends =
    let first = row 2 ((1, 2, 16) ∷ (3, 1, 3) ∷ []) (target.Bucket (tagged 0 Back)) in
    let second = row 0 ((3, 1, 3) ∷ []) (target.Bucket (tagged 0 (Port 2))) in
    record {
      groups = λ i j d lt less. absurd (omega (arith, lt, less));
      buckets = of_none (λ (g : Group). All (λ b. AscendsFrom 2 b.sets) g.buckets);
      matches = all_of_two (λ (r : Row). MatchesAscend 1 r.matches) first second (omega arith, (omega arith, tt)) (omega arith, tt);
      targets = all_of_two (λ (r : Row). IsTargetInOrder r.target) first second (omega arith, tt) (omega arith, tt);
    }

pub printed_so : ArePrintedSo
printed_so = record {
  in_order = all_of_two IsTableInOrder first_table second_table first_ascends second_ascends;
  text = text_is;
}
