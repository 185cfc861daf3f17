use Rattle.nk_notation.proofs.WrittenBytes.{first_failed, then_written}
use Rattle.nk_notation.proofs.telling.write_both.Goals as goal

pub returns-in-Ok : goal.returns-in-Ok
returns-in-Ok g c = then_written _ _ _ _ _ _ _ _ _ c.in-Ok.ensures c.write-in-Ok.ensures

pub returns-in-Err : goal.returns-in-Err
returns-in-Err g c = first_failed _ _ c.args.second.now c.in-Err.ensures
