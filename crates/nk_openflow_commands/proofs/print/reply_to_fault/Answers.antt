use Rattle.std.proofs.Common.{◌≡◌, refl, ap, inl, inr}
use Rattle.nk_reply.proofs.Delivery.{Keeps-same}
use Rattle.nk_reply.proofs.Meant.{none_given}
use Rattle.nk_reply.specs.Answer.{answer}
use Rattle.nk_reply.specs.declared.status.Status.TheVariants.{Refused}
use Rattle.nk_openflow_commands.proofs.print.reply_to_fault.Goals as goal

-- the line of the fault
pub returns-in-Ok : goal.returns-in-Ok
returns-in-Ok c = λ left faults. inl (record {
  answer = ap (answer Refused) c.in-Ok.ensures;
  unread = record { same = Keeps-same left; quiet = refl };
})

-- memory ran out
pub returns-in-Err : goal.returns-in-Err
returns-in-Err c = λ left faults. inr (record { answer = refl; quiet = refl; given = none_given left })
