use Rattle.nk_deriv.proofs.rest.push_next.Goals as goal

pub returns : goal.returns
returns c = (c.in_ok-rest.rest, c.in_ok-push.ensures.ok, c.in_ok-rest.ensures)
