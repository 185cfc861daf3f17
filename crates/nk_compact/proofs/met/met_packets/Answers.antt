use Rattle.std.proofs.Common.{◌≡◌, ◌<◌, ◌∙◌, List, ℕ, ap, sym, subst, length, get_or}
use Rattle.std.specs.Prelude.{slice_index}
use Rattle.std.proofs.lemmas.Result.{IfOk-weaker}
use Rattle.std.proofs.lemmas.List.{get_or-map}
use Rattle.nk_determ.specs.Sets.{IsSetOf}
use Rattle.nk_group.specs.Tagged.{set_of_tag}
use Rattle.nk_merge.specs.Alike.{labels_after}
use Rattle.nk_compact.specs.MetPackets.{AreMet}
use Rattle.nk_compact.proofs.MetSets.{set_met}
use Rattle.nk_compact.proofs.met.met_packets.Goals as goal

pub returns-clause-met : goal.returns-clause-met
returns-clause-met c =
    IfOk-weaker c.chosen.result _ _
    (λ r is i lt.
    let sets = c.as_slice-2.result.now in
    let inside : i < length sets = subst (λ n. i < n) (sym (ap (λ (l : List ℕ). length l) c.as_slice-2.ensures ∙ c.in_ok-sets.ensures.len)) lt in
    let one = c.in_ok-sets.ensures.following i lt in
    let e = get_or sets i 0 in
    let same : e ≡ get_or c.in_ok-sets.sets i 0 = ap (λ (l : List ℕ). get_or l i 0) c.as_slice-2.ensures in
    let at : get_or r i 0 ≡ get_or c.in_ok-by_set.by_set e 0 =
    ap (λ (l : List ℕ). get_or l i 0) is ∙ get_or-map (λ s. slice_index c.as_slice.result.now s) sets i 0 0 inside ∙ ap (λ (l : List ℕ). get_or l e 0) c.as_slice.ensures in
    subst (AreMet c.args.st.now c.args.ss.now c.args.lv.now.levels (labels_after (set_of_tag c.args.ss.now c.args.tags.now i)) _) (sym at)
    (set_met c.args.st.now c.packets_by_set.new.st c.args.ss.now c.sets_after.new.ss c.args.lv.now.levels c.in_ok-by_set.by_set e (labels_after (set_of_tag c.args.ss.now c.args.tags.now i))
    c.sets_after.ensures.sets c.differ.ensures.differ (c.in_ok-by_set.ensures.len ∙ c.len.ensures) c.requires.sets
    (subst (λ n. IsSetOf c.sets_after.new.ss n (labels_after (set_of_tag c.args.ss.now c.args.tags.now i))) (sym same) one) c.in_ok-by_set.ensures.under))
    c.chosen.ensures
