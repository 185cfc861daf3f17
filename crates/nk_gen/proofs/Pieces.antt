-- Texts put together piece by piece.
use Rattle.std.proofs.Common.{◌≡◌, List, ℕ, ◌++◌, codes, ap, ◌∙◌}
use Rattle.std.specs.List.{flat_map}
use Rattle.nk_gen.specs.declared.network.Link.{Link}
use Rattle.nk_gen.specs.Text.{link_line, let_line, literals}

-- one piece more, where what stands before it and the piece are known
pub put : {more before piece first next : List ℕ} → before ≡ first → piece ≡ next → more ≡ before ++ piece → more ≡ first ++ next
put {piece = piece} {first = first} e f is = is ∙ ap (λ l. l ++ piece) e ∙ ap (λ l. first ++ l) f

-- one piece more, where what stands before it is known
pub put_same : {more before first : List ℕ} (piece : List ℕ) → before ≡ first → more ≡ before ++ piece → more ≡ first ++ piece
put_same piece e is = is ∙ ap (λ l. l ++ piece) e

-- the lines of links of three kinds
pub declared : (r c t ring chords tree : List Link) → r ≡ ring → c ≡ chords → t ≡ tree
    → flat_map link_line r ++ flat_map link_line c ++ flat_map link_line t
    ≡ flat_map link_line ring ++ flat_map link_line chords ++ flat_map link_line tree
declared r c t ring chords tree e f g =
    ap (λ l. flat_map link_line l ++ flat_map link_line c ++ flat_map link_line t) e
    ∙ ap (λ l. flat_map link_line ring ++ flat_map link_line l ++ flat_map link_line t) f
    ∙ ap (λ l. flat_map link_line ring ++ flat_map link_line chords ++ flat_map link_line l) g

-- the lines that name links of three kinds
pub named : (r c t ring chords tree : List Link) → r ≡ ring → c ≡ chords → t ≡ tree
    → let_line (codes "ring") (literals r) ++ let_line (codes "chord") (literals c) ++ let_line (codes "tree") (literals t)
    ≡ let_line (codes "ring") (literals ring) ++ let_line (codes "chord") (literals chords) ++ let_line (codes "tree") (literals tree)
named r c t ring chords tree e f g =
    ap (λ l. let_line (codes "ring") (literals l) ++ let_line (codes "chord") (literals c) ++ let_line (codes "tree") (literals t)) e
    ∙ ap (λ l. let_line (codes "ring") (literals ring) ++ let_line (codes "chord") (literals l) ++ let_line (codes "tree") (literals t)) f
    ∙ ap (λ l. let_line (codes "ring") (literals ring) ++ let_line (codes "chord") (literals chords) ++ let_line (codes "tree") (literals l)) g
