use Rattle.std.proofs.Common.{◌≤◌, ◌++◌, ◌⊎◌, inl, inr, ◌∙◌, ap, arith, drop, length}
use Rattle.std.proofs.lemmas.List.{append_assoc}
use Rattle.nk_apply.proofs.Weaves.{rests}
use Rattle.nk_apply.proofs.ascending.push_sorted.Goals as goal
use Rattle.nk_apply.proofs.ascending.push_sorted.Goals.{then-loop-i-test+else-k-b, else-loop-i-test}

pub returns : goal.returns
returns c =
    let a = c.args.a.now in
    let b = c.args.b.now in
    let i = c.loop-i.i in
    let k = c.loop-i.k in
    let over : (length a ≤ i) ⊎ (length b ≤ k) =
    elim c.loop-i-test.branch [ then-loop-i-test+else-k-b w ↦ inr (omega (arith, w.if-k-b.false)) | else-loop-i-test w ↦ inl (omega (arith, w.loop-i-test.false)) ] in
    c.in_ok-copy_from-2.ensures ∙ ap (λ xs. xs ++ drop k b) c.in_ok-copy_from.ensures ∙ append_assoc c.loop-i.all (drop i a) (drop k b)
    ∙ ap (λ xs. c.loop-i.all ++ xs) (rests a b i k over) ∙ c.loop-i.invariant.all
