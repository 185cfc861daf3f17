-- A text in place, or a longer one. No public clause cites this module.
use Rattle.std.specs.Prelude.{ℕ, List, string_bytes}
use Rattle.nk_lex.specs.declared.bytes.Text.{Text}
use Rattle.nk_lex.specs.declared.bytes.Text.TheVariants.{Short, Long}

-- its bytes
abbrev pub bytes_of : Text → List ℕ
bytes_of (Short text) = text.bytes
bytes_of (Long text) = string_bytes text
