use Rattle.nk_policy.specs.Tree.{tree_of}
use Rattle.nk_cert.proofs.Named.{fits_store}
use Rattle.nk_check.proofs.checking.check_policies.Goals as goal

pub verdict_in-requires-clause-left_fit : goal.verdict_in-requires-clause-left_fit
verdict_in-requires-clause-left_fit c =
    fits_store c.args.fields.now c.in_ok-st.st c.in_ok-st.ensures.over (tree_of c.args.left.now) c.requires.left_complements c.requires.left_range

pub verdict_in-requires-clause-right_fit : goal.verdict_in-requires-clause-right_fit
verdict_in-requires-clause-right_fit c =
    fits_store c.args.fields.now c.in_ok-st.st c.in_ok-st.ensures.over (tree_of c.args.right.now) c.requires.right_complements c.requires.right_range
