use Rattle.std.proofs.Common.{◌≡◌, ◌<◌, ◌≤◌, take, true, arith, sym, ap, subst, ◌∙◌}
use Rattle.std.specs.Prelude.{filter}
use Rattle.std.specs.Option.{option_copied}
use Rattle.nk_table.specs.Rules.{agrees}
use Rattle.nk_table.proofs.Tops.{IsBest, best_first, best_higher, best_lower, best_equal, one_more, no_more, known_as}
use Rattle.nk_table.proofs.search.acting_row.Goals as goal
use Rattle.nk_table.proofs.search.acting_row.Goals.{then-agrees+in-Some, then-agrees+in-Some-2, then-agrees+in_default, in_default-via-in-Some-2+else-row-top-2, in_default-via-in_default, else-agrees}

pub loop-row-preserved : goal.loop-row-preserved
loop-row-preserved c =
    let seen = filter (agrees c.args.fields.now.maxima c.args.p.now) (take c.loop-row.row-index c.args.rows.now) in
    let row = c.row-item.result in
    let more = λ (e : c.agrees.result ≡ true). one_more (agrees c.args.fields.now.maxima c.args.p.now) c.args.rows.now c.loop-row.row-index c.row-item.result (omega arith) c.row-item.is (sym c.agrees.ensures ∙ e) in
    elim c.if-agrees.branch [
      | then-agrees+in-Some w ↦
          known_as _ _ _ _ _ _ (more w.if-agrees.true) (ap option_copied (w.best-is ∙ w.in-Some.is)) w.tied-is
          (best_lower seen w.in-Some.top.now row c.loop-row.tied (subst (λ best. IsBest seen (option_copied best) c.loop-row.tied) w.in-Some.is c.loop-row.invariant) w.if-row-top.true)
      | then-agrees+in-Some-2 w ↦
          known_as _ _ _ _ _ _ (more w.if-agrees.true) (ap option_copied (w.best-is ∙ w.in-Some-2.is)) w.tied-is
          (best_equal seen w.in-Some-2.top.now row c.loop-row.tied (subst (λ best. IsBest seen (option_copied best) c.loop-row.tied) w.in-Some-2.is c.loop-row.invariant) w.if-row-top-2.true)
      | then-agrees+in_default w ↦
          elim w.in_default.branch [
            | in_default-via-in-Some-2+else-row-top-2 v ↦
                let same : v.in-Some.top ≡ v.in-Some-2.top = cc in
                let least : v.in-Some-2.top.now.priority ≤ row.priority =
                subst (λ top. top.now.priority ≤ row.priority) same v.if-row-top.false in
                let above : v.in-Some-2.top.now.priority < row.priority = omega (arith, least, v.if-row-top-2.false) in
                known_as _ _ _ _ _ _ (more w.if-agrees.true) (ap option_copied w.best-is) w.tied-is
                (best_higher seen v.in-Some-2.top.now row c.loop-row.tied (subst (λ best. IsBest seen (option_copied best) c.loop-row.tied) v.in-Some-2.is c.loop-row.invariant) above)
            | in_default-via-in_default v ↦
                known_as _ _ _ _ _ _ (more w.if-agrees.true) (ap option_copied w.best-is) w.tied-is
                (best_first seen row c.loop-row.tied (subst (λ best. IsBest seen (option_copied best) c.loop-row.tied) v.in_default.is c.loop-row.invariant))
          ]
      | else-agrees w ↦
          known_as _ _ _ _ _ _ (no_more (agrees c.args.fields.now.maxima c.args.p.now) c.args.rows.now c.loop-row.row-index c.row-item.result (omega arith) c.row-item.is (sym c.agrees.ensures ∙ w.if-agrees.false))
          (ap option_copied w.best-is) w.tied-is c.loop-row.invariant
    ]
