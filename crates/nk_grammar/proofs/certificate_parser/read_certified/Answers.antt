use Rattle.std.proofs.Common.{rules, ◌∷◌, ◌++◌, [], Ok, List, map, sym, ap, ◌∙◌, append-nil}
use Rattle.nk_grammar.specs.Certified.{Row, certified, row_value}
use Rattle.nk_grammar.specs.File.{Declaration, declaration_of}
use Rattle.nk_grammar.proofs.certificate_parser.read_certified.Goals as goal

pub returns-in_err-row : goal.returns-in_err-row
returns-in_err-row c =
    search (
      rules,
      c.in_err-row.ensures.read c.args.tokens.now (map declaration_of c.read_all.new.decls.items)
          (map row_value c.read_all.new.rows.items) c.in_ok-read_all.ensures,
    )

pub returns : goal.returns
returns c =
    let ds : List Declaration = map declaration_of c.read_all.new.decls.items in
    let rs : List Row = map row_value c.read_all.new.rows.items ++ row_value c.in_ok-row.row ∷ [] in
    c.in_ok-row.ensures.read c.args.tokens.now ds (map row_value c.read_all.new.rows.items) c.in_ok-read_all.ensures
    ∙ ap (λ l. Ok (certified l rs)) (sym (append-nil ds) ∙ sym c.in_ok-push_completed.ensures.decls ∙ ap (map declaration_of) (sym c.from_vec.ensures))
    ∙ ap (λ l. Ok (certified (map declaration_of c.from_vec.result) l))
    (sym c.in_ok-push_completed.ensures.rows ∙ ap (map row_value) (sym c.from_vec-2.ensures))
