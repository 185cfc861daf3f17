use Rattle.nk.specs.Ends.{Ends}
use Rattle.nk.proofs.Endings.{caused, complete, no_command}
use Rattle.nk.proofs.Succeeding.{succeeds}
use Rattle.nk.proofs.top.run.Goals as goal

-- all of them follow from how the run ends
pub returns-clause-causes : goal.returns-clause-causes
returns-clause-causes g c =
    let ends : Ends _ _ _ _ c.deliver.result = record {
      answer = _;
      meant = c.decide-reply.ensures.meant;
      delivered = c.deliver.ensures.delivered;
    } in
    caused _ _ _ _ _ ends

pub returns-clause-complete : goal.returns-clause-complete
returns-clause-complete g c =
    let ends : Ends _ _ _ _ c.deliver.result = record {
      answer = _;
      meant = c.decide-reply.ensures.meant;
      delivered = c.deliver.ensures.delivered;
    } in
    complete _ _ _ _ _ ends

pub returns-clause-succeeds : goal.returns-clause-succeeds
returns-clause-succeeds g c =
    let ends : Ends _ _ _ _ c.deliver.result = record {
      answer = _;
      meant = c.decide-reply.ensures.meant;
      delivered = c.deliver.ensures.delivered;
    } in
    succeeds _ _ _ _ _ ends

pub returns-clause-usage : goal.returns-clause-usage
returns-clause-usage g c =
    let ends : Ends _ _ _ _ c.deliver.result = record {
      answer = _;
      meant = c.decide-reply.ensures.meant;
      delivered = c.deliver.ensures.delivered;
    } in
    no_command _ _ _ _ _ ends
