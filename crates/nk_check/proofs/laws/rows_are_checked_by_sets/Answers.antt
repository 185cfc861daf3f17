use Rattle.nk_cert.proofs.CertRows.{position_is, finals_is, hop_is}
use Rattle.nk_check.proofs.laws.rows_are_checked_by_sets.Goals as goal

pub returns-clause-position : goal.returns-clause-position
returns-clause-position c = λ fields st states left right p q a positions. position_is fields st states left right p q a positions

pub returns-clause-finals : goal.returns-clause-finals
returns-clause-finals c = λ fields st states left right p q a bad goal row ok set same.
    finals_is fields st states left right p q a bad goal row ok set same

pub returns-clause-hop : goal.returns-clause-hop
returns-clause-hop c = λ fields st states left right p q a all row ok set same.
    hop_is fields st states left right p q a all row ok set same
