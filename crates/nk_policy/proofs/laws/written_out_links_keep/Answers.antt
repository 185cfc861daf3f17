use Rattle.std.proofs.Common.{ℕ, sym, subst}
use Rattle.nk_field.specs.declared.packet.Packet.{Packet}
use Rattle.nk_policy.specs.Meaning.{Way}
use Rattle.nk_policy.specs.Progress.{Front, numbered}
use Rattle.nk_policy.proofs.Remade.{written_ways, written_records, written_dups}
use Rattle.nk_policy.proofs.laws.written_out_links_keep.Goals as goal

pub returns-clause-meaning : goal.returns-clause-meaning
returns-clause-meaning c = λ p pk w y. (
  λ r. subst (λ (R : Way Packet). R pk w y) (written_ways (λ l x. x) p) r,
  λ r. subst (λ (R : Way Packet). R pk w y) (sym (written_ways (λ l x. x) p)) r,
)

pub returns-clause-runs : goal.returns-clause-runs
returns-clause-runs c = λ p pk v y. (
  λ r. subst (λ (R : Way (Packet × ℕ)). R pk v y) (written_ways numbered p) r,
  λ r. subst (λ (R : Way (Packet × ℕ)). R pk v y) (sym (written_ways numbered p)) r,
)

pub returns-clause-so_far : goal.returns-clause-so_far
returns-clause-so_far c = λ p pk u x l. (
  λ r. subst (λ (F : Front). F pk u x l) (written_records p) r,
  λ r. subst (λ (F : Front). F pk u x l) (sym (written_records p)) r,
)

pub returns-clause-dups : goal.returns-clause-dups
returns-clause-dups c = λ p l. written_dups p l
