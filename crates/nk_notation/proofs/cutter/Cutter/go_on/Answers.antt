use Rattle.std.proofs.Common.{rules, ◌≤◌, ◌∷◌, length}
use Rattle.nk_notation.specs.Lexemes.{Byte, lexemes_of, longest_word}
use Rattle.nk_notation.specs.Cutting.{long_rest}
use Rattle.nk_notation.proofs.Cuts.{broken_stopped, open_word, word_broken, word_passed, word_stopped}
use Rattle.nk_notation.proofs.cutter.Cutter.go_on.Goals as goal

pub returns-in-Ok : goal.returns-in-Ok
returns-in-Ok g c more =
    word_passed _ (g.N.Notation.made c.args.self.now.notation) (g.N.Notation.made c.end_word.new.self.notation) c.args.self.now.held.items c.args.byte more _ _ _ _
    (open_word _ _ c.requires.word c.args.self.now.holds) (search rules)
    (c.in-Ok.ensures.word (lexemes_of (c.args.byte ∷ more))) (c.begin.ensures more)

pub returns-in-Err : goal.returns-in-Err
returns-in-Err g c more =
    word_stopped (Unit {0}) _ (g.N.Notation.made c.args.self.now.notation) c.args.self.now.held.items c.args.byte more _ _ _ _
    (open_word _ _ c.requires.word c.args.self.now.holds) (search rules)
    (c.in-Err.ensures.word (lexemes_of (c.args.byte ∷ more)))

pub returns-in-Ok-break_word : goal.returns-in-Ok-break_word
returns-in-Ok-break_word g c more =
    let word = open_word _ _ c.requires.word c.args.self.now.holds in
    let full : longest_word ≤ length c.args.self.now.held.items = search rules in
    word_broken _ (g.N.Notation.made c.args.self.now.notation) (g.N.Notation.made c.break_word.new.self.notation) c.args.self.now.held.items c.args.byte more _ _ _ _
    word.0 full (search rules)
    (c.in-Ok-break_word.ensures.bytes (Byte c.args.byte ∷ long_rest more)) (search rules)

pub returns-in-Err-break_word : goal.returns-in-Err-break_word
returns-in-Err-break_word g c more =
    let word = open_word _ _ c.requires.word c.args.self.now.holds in
    let full : longest_word ≤ length c.args.self.now.held.items = search rules in
    broken_stopped (Unit {0}) _ (g.N.Notation.made c.args.self.now.notation) c.args.self.now.held.items c.args.byte more _ _ _ _
    word.0 full (search rules)
    (c.in-Err-break_word.ensures.bytes (Byte c.args.byte ∷ long_rest more))
