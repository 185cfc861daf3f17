use Rattle.std.proofs.Common.{List, refl}
use Rattle.nk_lex.specs.declared.token.Token.{Token}
use Rattle.nk_lex.specs.declared.token.LexError.TheVariants as lexical
use Rattle.nk_input.specs.ProgramTokens.{AreTaken}
use Rattle.nk_input.proofs.Cuts.{cut_bad, cut_large, cut_whole}
use Rattle.nk_input.proofs.Declared.{tokens_declare}
use Rattle.nk_input.proofs.TakenTexts.{lexical_fault_told, of_tokens, small_of}
use Rattle.nk_input.proofs.program_text.read_text.Goals as goal

pub read_tokens-requires : goal.read_tokens-requires
read_tokens-requires c =
    let taken : List Token → Type 0 = λ ts. AreTaken ts c.take_text.new.reader in
    let cut = cut_whole taken c.args.bytes.now (rw c.in-Whole.is at c.in_ok-take_text.ensures) in
    record { small = (cut.0, cut.2, small_of c.values_are_small.ensures c.args.bytes.now cut.0 cut.1) }

pub returns-in-Whole : goal.returns-in-Whole
returns-in-Whole c =
    let taken : List Token → Type 0 = λ ts. AreTaken ts c.take_text.new.reader in
    let cut = cut_whole taken c.args.bytes.now (rw c.in-Whole.is at c.in_ok-take_text.ensures) in
    of_tokens c.args.bytes.now cut.0 c.read_tokens.result cut.1
    (c.read_tokens.ensures cut.0 cut.2
    (tokens_declare c.declared_fields_are_writable.ensures c.declared_topologies_are_declarable.ensures c.args.bytes.now cut.0 cut.0 cut.1 refl))

pub returns-in-BadByte : goal.returns-in-BadByte
returns-in-BadByte c =
    let taken : List Token → Type 0 = λ ts. AreTaken ts c.take_text.new.reader in
    lexical_fault_told c.args.bytes.now (lexical.BadByte c.in-BadByte.line) c.lexical_fault.result
    (cut_bad taken c.in-BadByte.line c.args.bytes.now (rw c.in-BadByte.is at c.in_ok-take_text.ensures)) c.lexical_fault.ensures

pub returns-in-NumberTooLarge : goal.returns-in-NumberTooLarge
returns-in-NumberTooLarge c =
    let taken : List Token → Type 0 = λ ts. AreTaken ts c.take_text.new.reader in
    lexical_fault_told c.args.bytes.now (lexical.NumberTooLarge c.in-NumberTooLarge.line) c.lexical_fault-in-NumberTooLarge.result
    (cut_large taken c.in-NumberTooLarge.line c.args.bytes.now (rw c.in-NumberTooLarge.is at c.in_ok-take_text.ensures))
    c.lexical_fault-in-NumberTooLarge.ensures
