-- Lines that a text has as comments.
use Rattle.std.specs.Prelude.{◌≡◌, ℕ, true, List, [], ◌∷◌, ◌++◌}
use Rattle.std.specs.List.{list_all}
use Rattle.nk_lex.specs.Classes.{not_line_feed}

-- `#`, then bytes on one line, and a line feed
pub record IsCommentLine (line : List ℕ) : Type 0 where
  pub body : List ℕ
  pub plain : list_all not_line_feed body ≡ true
  pub is : line ≡ 35 ∷ (body ++ 10 ∷ [])
