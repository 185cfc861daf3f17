use Rattle.std.proofs.Common.{sym, ap, ◌∙◌}
use Rattle.std.specs.Prelude.{Some}
use Rattle.nk_tabtext.proofs.SameBucket.{bucket_same}
use Rattle.nk_tabtext.proofs.last_bucket.LastBucket.is_last.Goals as goal

pub returns-in-Some : goal.returns-in-Some
returns-in-Some c = λ e. c.in-Some.is ∙ ap Some (bucket_same c.in-Some.last c.args.bucket.now (sym c.eq.ensures ∙ e))
