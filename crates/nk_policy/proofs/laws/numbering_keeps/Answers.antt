use Rattle.std.proofs.Common.{sym, subst}
use Rattle.nk_field.specs.declared.packet.Packet.{Packet}
use Rattle.nk_policy.specs.Meaning.{Way}
use Rattle.nk_policy.proofs.Remade.{marked_ways, marked_depth, marked_size, marked_dups, marked_predicate, marked_again, dupless_marked}
use Rattle.nk_policy.proofs.laws.numbering_keeps.Goals as goal

pub returns-clause-meaning : goal.returns-clause-meaning
returns-clause-meaning c = λ p n pk w y. (
  λ r. subst (λ (R : Way Packet). R pk w y) (marked_ways (λ x. x) p n) r,
  λ r. subst (λ (R : Way Packet). R pk w y) (sym (marked_ways (λ x. x) p n)) r,
)

pub returns-clause-depth : goal.returns-clause-depth
returns-clause-depth c = λ p n. marked_depth p n

pub returns-clause-size : goal.returns-clause-size
returns-clause-size c = λ p n. marked_size p n

pub returns-clause-dups : goal.returns-clause-dups
returns-clause-dups c = λ p n. marked_dups p n

pub returns-clause-predicate : goal.returns-clause-predicate
returns-clause-predicate c = λ p n. marked_predicate p n

pub returns-clause-again : goal.returns-clause-again
returns-clause-again c = λ p m n. marked_again p m n

pub returns-clause-dupless : goal.returns-clause-dupless
returns-clause-dupless c = λ p n none. dupless_marked p n none
