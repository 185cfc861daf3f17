use Rattle.std.proofs.Common.{◌+◌, refl, sym, subst}
use Rattle.std.proofs.lemmas.Result.{IfOk-weaker}
use Rattle.nk_policy.specs.Policy.{dups_of}
use Rattle.nk_policy.specs.Tree.{tree_of}
use Rattle.nk_names.proofs.Good.{over_in_range}
use Rattle.nk_cert.specs.Values.{certificate_value}
use Rattle.nk_cert.specs.Verdicts.{IsFinding}
use Rattle.nk_check.proofs.Moved.{numbered_on}
use Rattle.nk_cert.proofs.Named.{fits_store}
use Rattle.nk_check.proofs.naming.check_both.Goals as goal

pub owned_automaton-requires-clause-left_fit : goal.owned_automaton-requires-clause-left_fit
owned_automaton-requires-clause-left_fit c =
    fits_store c.args.fields.now c.in_ok-st.st c.in_ok-st.ensures.over (tree_of c.args.p) c.requires.left_complements
    (over_in_range c.args.fields.now (tree_of c.args.p) c.requires.left_over)

pub owned_automaton-requires-clause-right_fit : goal.owned_automaton-requires-clause-right_fit
owned_automaton-requires-clause-right_fit c =
    fits_store c.args.fields.now c.in_ok-st.st c.in_ok-st.ensures.over (tree_of c.args.q) c.requires.right_complements
    (over_in_range c.args.fields.now (tree_of c.args.q) c.requires.right_over)

pub verdict_by-requires-clause-automaton : goal.verdict_by-requires-clause-automaton
verdict_by-requires-clause-automaton c =
    (c.args.fields.now, tree_of c.args.p, tree_of c.args.q, c.in_ok-both.ensures.ok c.args.fields.now c.in_ok-st.ensures.over, c.number_after-bound.ensures)

pub returns : goal.returns
returns c = record {
  found =
      IfOk-weaker c.verdict_by.result _ _
      (λ v found. found c.args.fields.now (tree_of c.args.p) (tree_of c.args.q) (c.in_ok-both.ensures.ok c.args.fields.now c.in_ok-st.ensures.over) c.number_after-bound.ensures)
      c.verdict_by.ensures;
  same =
      IfOk-weaker c.verdict_by.result _ _
      (λ v found is.
      let f = found c.args.fields.now (tree_of c.args.p) (tree_of c.args.q) (c.in_ok-both.ensures.ok c.args.fields.now c.in_ok-st.ensures.over) c.number_after-bound.ensures in
      c.a_certificate_shows_equality.ensures.numbered c.args.fields.now (tree_of c.args.p) (tree_of c.args.q)
      (numbered_on (tree_of c.args.p) (tree_of c.args.q) (tree_of c.args.q) (1 + dups_of (tree_of c.args.p)) c.requires.numbered refl (sym c.requires.following))
      (over_in_range c.args.fields.now (tree_of c.args.p) c.requires.left_over)
      (over_in_range c.args.fields.now (tree_of c.args.q) c.requires.right_over)
      (certificate_value c.args.certificate.now)
      (subst (λ z. IsFinding c.args.fields.now (tree_of c.args.p) (tree_of c.args.q) (certificate_value c.args.certificate.now) z) is f))
      c.verdict_by.ensures;
}
