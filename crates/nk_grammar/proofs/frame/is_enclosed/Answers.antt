use Rattle.std.proofs.Common.{◌-◌, ◌∷◌, ◌∙◌, ap, arith, sym, take}
use Rattle.nk_grammar.specs.Reader.{encloses, open_of, stack_of}
use Rattle.nk_grammar.proofs.Stack.{encloses_before}
use Rattle.nk_grammar.proofs.frame.is_enclosed.Goals as goal

pub returns-in-Group : goal.returns-in-Group
returns-in-Group c =
    sym (c.negations.invariant.decides
    ∙ encloses_before c.args.frames.now c.negations.left c.index-frames-left.result c.negations-test.true c.negations.invariant.left c.index-frames-left.is
    ∙ ap (λ x. encloses (open_of x ∷ stack_of (take (c.negations.left - 1) c.args.frames.now))) c.in-Group.is)

pub negations-preserved : goal.negations-preserved
negations-preserved c = record {
  left = omega arith;
  decides =
      c.negations.invariant.decides
      ∙ encloses_before c.args.frames.now c.negations.left c.index-frames-left.result c.negations-test.true c.negations.invariant.left c.index-frames-left.is
      ∙ ap (λ x. encloses (open_of x ∷ stack_of (take (c.negations.left - 1) c.args.frames.now))) c.in_default.is;
}
