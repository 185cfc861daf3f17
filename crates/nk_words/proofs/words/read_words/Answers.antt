use Rattle.nk_words.proofs.Limits.{read_within}
use Rattle.nk_words.proofs.Simple.{found, refused}
use Rattle.nk_words.proofs.words.read_words.Goals as goal

pub returns-in-Ok-try_get_matches_from-clause-reads : goal.returns-in-Ok-try_get_matches_from-clause-reads
returns-in-Ok-try_get_matches_from-clause-reads c =
    found _ _ _ c.command_in.result c.in-Ok.ensures c.in-Ok-try_get_matches_from.ensures.kinds
    c.in-Ok-try_get_matches_from.ensures.matches c.command_in.ensures

pub returns-in-Err-2-clause-reads : goal.returns-in-Err-2-clause-reads
returns-in-Err-2-clause-reads c = refused _ _ c.in-Err.error c.in-Ok.ensures c.in-Err.ensures.kinds
    (λ e. let h = rw (c.kind.ensures, e) at c.if-eq.ensures in cc)

pub returns-in-Ok-try_get_matches_from-clause-limits : goal.returns-in-Ok-try_get_matches_from-clause-limits
returns-in-Ok-try_get_matches_from-clause-limits c =
    read_within _ c.command_in.result (found _ _ _ c.command_in.result c.in-Ok.ensures c.in-Ok-try_get_matches_from.ensures.kinds
    c.in-Ok-try_get_matches_from.ensures.matches c.command_in.ensures)
