use Rattle.std.proofs.Common.{inr, refl, subst}
use Rattle.std.proofs.lemmas.Result.{IfOk-weaker}
use Rattle.nk_field.specs.Texts.{packet_of}
use Rattle.nk_trace_commands.specs.Following.{ToPacket}
use Rattle.nk_reply.specs.Reply.{outcome_of}
use Rattle.nk_compile_commands.specs.Updating.{ToTurned, plan_for}
use Rattle.nk_compile_commands.proofs.updating.answer_to_program.Goals as goal

-- both policies have tables, whose fields are the program's
pub returns-in-Ok : goal.returns-in-Ok
returns-in-Ok c =
    let compiled = c.in-Ok.ensures in
    IfOk-weaker c.answer_to_pair.result _ _
    (λ s h. inr (record {
      program = c.args.program.now;
      says = refl;
      pair = c.in-Ok.pair;
      compiled = compiled;
      told = subst (λ f. ToPacket (ToTurned (plan_for c.in-Ok.pair) c.args.seed c.args.steps) c.in-Ok.pair.old (packet_of f c.args.word.now) (outcome_of s)) compiled.printed_old.same_fields h;
    }))
    c.answer_to_pair.ensures
