-- A tree over the port, and the printed rows and groups that come of it.
use Rattle.std.proofs.Common.{◌≡◌, List, [], ◌∷◌, refl, sym, arith}
use Rattle.nk_store.specs.Diagram.{leaf}
use Rattle.nk_table.specs.declared.Bucket.{Bucket}
use Rattle.nk_worked.specs.WorkedRows.{back_alone, back_and_out, HasDropRowAndGroup}
use Rattle.nk_worked.proofs.Packets.{in_range}

back_not_both : leaf back_alone ≡ leaf back_and_out → ⊥
back_not_both e = cc

some_not_none : (b : Bucket) (bs : List Bucket) → leaf (b ∷ bs) ≡ leaf [] → ⊥
some_not_none b bs e = cc

pub worked : HasDropRowAndGroup
worked = record {
  tree = record {
    reduced = (
      omega arith,
      tt,
      (
        omega arith,
        tt,
        λ e. back_not_both e,
        (
          omega arith,
          tt,
          λ e. some_not_none _ _ e,
          (
            omega arith,
            tt,
            λ e. some_not_none _ _ (sym e),
            (
              omega arith,
              tt,
              λ e. back_not_both (sym e),
              (refl, tt, tt, tt),
            ),
          ),
        ),
      ),
    );
    tag_free = (λ e. omega (arith, e), (tt, (tt, (tt, (tt, (tt, tt))))));
  };
  few = omega arith;
  in_range = (refl, λ k. in_range 1 2 (omega arith) (omega arith) k);
  at_two = record { within = λ f other. in_range 1 2 (omega arith) (omega arith) f; tagged = refl };
  rows = refl;
  groups = refl;
  grouped = refl;
  match_two = refl;
  drops = refl;
  copies = (refl, refl);
  goes_back = refl;
}
