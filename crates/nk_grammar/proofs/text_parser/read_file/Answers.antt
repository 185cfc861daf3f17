use Rattle.std.proofs.Common.{rules, Ok, map, sym, ap, ◌∙◌}
use Rattle.nk_grammar.specs.File.{declaration_of}
use Rattle.nk_grammar.proofs.text_parser.read_file.Goals as goal

pub returns-in_err-done : goal.returns-in_err-done
returns-in_err-done c =
    search (
      rules,
      c.in_err-done.ensures.read c.args.tokens.now (map declaration_of c.read_all.new.decls.items) c.in_ok-read_all.ensures,
    )

pub returns-clause-decls : goal.returns-clause-decls
returns-clause-decls c =
    c.in_ok-done.ensures.read c.args.tokens.now (map declaration_of c.read_all.new.decls.items) c.in_ok-read_all.ensures
    ∙ ap (λ l. Ok l) (sym c.in_ok-push_declaration.ensures ∙ ap (map declaration_of) (sym c.from_vec.ensures))
