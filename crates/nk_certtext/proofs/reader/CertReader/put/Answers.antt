use Rattle.std.proofs.Common.{ap, subst, sym, ◌∙◌}
use Rattle.nk_grammar.specs.CertifiedProgress.{IsRead}
use Rattle.nk_certtext.specs.Progress.{CertProgress, PartsValue, with_completed}
use Rattle.nk_certtext.proofs.reader.CertReader.put.Goals as goal

pub returns-clause-taken : goal.returns-clause-taken
returns-clause-taken c = λ ts ds rs h. record {
  part = c.in_ok-part.part;
  read = c.in_ok-part.ensures.tokens ts ds rs (subst (λ (p : CertProgress). IsRead ts ds rs p.grammar) (sym c.self.view_is) h);
  parts = rw c.keep_part.ensures
      (ap (λ (q : PartsValue). with_completed q c.in_ok-part.part)
      (c.in_ok-put_pending.ensures.ok ∙ ap (λ (p : CertProgress). p.parts) c.self.view_is));
}
