use Rattle.std.proofs.Common.{ℕ, List, refl, sym, subst, arith}
use Rattle.std.proofs.lemmas.Bool.Decides.{nat_tests}
use Rattle.std.proofs.lemmas.Result.{IfOk-weaker}
use Rattle.nk_store.specs.StoreState.{node_of}
use Rattle.nk_apply.proofs.Parts.{split_at}
use Rattle.nk_apply.proofs.Shorts.{no_items}
use Rattle.nk_determ.specs.Unchanged.{HasValues}
use Rattle.nk_determ.proofs.Changings.{none_assigned}
use Rattle.nk_determ.proofs.Pieces.{pieces_made}
use Rattle.nk_determ.proofs.changing.drop_here.Goals as goal

pub returns-then-is_empty-clause-ok : goal.returns-then-is_empty-clause-ok
returns-then-is_empty-clause-ok c =
    none_assigned c.args.st.now c.args.f c.args.d c.requires.id c.laws.ensures.tidy
    (subst (λ (vs : List ℕ). HasValues c.args.f vs c.args.st.now c.args.d) (no_items c.in_ok-values.values.items (grind (arith, nat_tests, c.is_empty.ensures, c.if-is_empty.true))) c.in_ok-values.ensures.has)

pub pieces_of-requires-clause-has : goal.pieces_of-requires-clause-has
pieces_of-requires-clause-has c = subst (λ (vs : List ℕ). HasValues c.args.f vs c.args.st.now c.args.d) (sym c.as_slice.ensures.value) c.in_ok-values.ensures.has

pub returns-clause-ok : goal.returns-clause-ok
returns-clause-ok c = IfOk-weaker c.case.result _ _
    (λ r h. pieces_made c.args.st.now c.pieces_of.new.st c.case.new.self c.args.f c.args.d r c.in_ok-pieces.pieces
    (split_at c.args.st.now c.args.f c.args.d (node_of c.args.st.now c.args.d) c.requires.id refl (c.laws.ensures.nodes c.args.d c.requires.id) c.requires.first c.requires.field)
    c.in_ok-pieces.ensures.ok h) c.case.ensures.ok
