use Rattle.std.proofs.Common.{◌≡◌, ◌++◌, List, drop, map}
use Rattle.nk_notation.specs.Lexemes.{Byte, TextLexeme}
use Rattle.nk_notation.specs.Translation.{then_rest}
use Rattle.nk_notation.proofs.cutter.bytes.Given as goal

-- what was written and what comes of the bytes that are left are what comes of all
abbrev pub invariant-loop-byte : goal.invariant-loop-byte
invariant-loop-byte g l = (ls : List TextLexeme) →
    then_rest l.fn.out.items (g.N.Notation.made l.fn.notation (map Byte l.fn.text ++ ls))
    ≡ then_rest l.out.items (g.N.Notation.made l.notation (map Byte (drop l.byte-index l.text) ++ ls))
