-- The predicates of the packets that two policies differ on have plain numbers.
use Rattle.std.proofs.Common.{[], ◌∷◌, ◌++◌, refl}
use Rattle.std.specs.Prelude.{codes}
use Rattle.nk_policy.specs.Text.{pol_bytes}
use Rattle.nk_notation_laws.specs.Laws.{ImpactsAreLeft}
use Rattle.nk_notation_laws.proofs.Pieces.{left_word}
use Rattle.nk_notation_laws.proofs.PlainTexts.{left_byte, left_equals, nothing_still}
use Rattle.nk_notation_laws.proofs.PrintedHistories.{whole_left}
use Rattle.nk_notation_laws.proofs.PrintedPolicies.{fine_fields, pol_runs}
use Rattle.nk_notation_laws.proofs.PrintedTables.{Free, Gap, free_runs, gap_end, runs_gap}

equals_free : Free (codes "= ")
equals_free = λ rest next. left_equals [] (32 ∷ rest) refl nothing_still refl (left_byte 32 rest refl refl next)

left_free : Free (codes "let left_alone = ")
left_free = λ rest next.
    left_word (codes "let") (refl, refl) refl (codes "left_alone = " ++ rest) (left_word (codes "left_alone") (refl, refl) refl (codes "= " ++ rest) (equals_free rest next))

right_free : Free (codes "let right_alone = ")
right_free = λ rest next.
    left_word (codes "let") (refl, refl) refl (codes "right_alone = " ++ rest) (left_word (codes "right_alone") (refl, refl) refl (codes "= " ++ rest) (equals_free rest next))

gap_right : Gap (codes "\nlet right_alone = ")
gap_right = ((λ rest next. left_byte 10 (codes "let right_alone = " ++ rest) refl refl (right_free rest next)), λ rest. refl)

pub impacts_left : ImpactsAreLeft
impacts_left = λ fields w left right ok_left ok_right.
    let fine = fine_fields fields w in
    let first = codes "let left_alone = " ++ pol_bytes fields left in
    let second = first ++ codes "\nlet right_alone = " in
    whole_left (second ++ pol_bytes fields right ++ codes "\n")
    (runs_gap (second ++ pol_bytes fields right) (codes "\n")
    (free_runs second (pol_bytes fields right)
    (runs_gap first (codes "\nlet right_alone = ") (free_runs (codes "let left_alone = ") (pol_bytes fields left) left_free (pol_runs fields fine left ok_left)) gap_right)
    (pol_runs fields fine right ok_right)) gap_end)
