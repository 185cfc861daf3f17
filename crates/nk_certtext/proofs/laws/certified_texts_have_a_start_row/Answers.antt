use Rattle.std.proofs.Common.{refl, sym, subst}
use Rattle.nk_grammar.specs.CertifiedAnswer.{IsCertifiedAnswer}
use Rattle.nk_certtext.specs.Rows.{HasStartRow}
use Rattle.nk_certtext.proofs.laws.certified_texts_have_a_start_row.Goals as goal

pub returns : goal.returns
returns c = λ ts found e.
    let text = subst (IsCertifiedAnswer ts) e (c.certified_texts_are_answered.ensures ts) in
    subst (λ x. HasStartRow x.rows) (sym text.0.value) refl
