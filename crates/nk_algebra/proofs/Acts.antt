-- Acts that assign values in range, one after another.
use Rattle.std.proofs.Common.{ℕ, ◌+◌, ◌<◌, List, [], ◌∷◌, length, sym, subst, arith, get_or, inl, inr, zero, suc}
use Rattle.nk_field.specs.Act.{lay, act_then}
use Rattle.nk_field.proofs.Thens.{order, lay-less, lay-same, lay-more}
use Rattle.nk_store.specs.declared.node.Out.{Out}
use Rattle.nk_store.specs.Leaves.{Every, Suits, IsActFrom}
use Rattle.nk_apply.specs.Seqs.{prefixed, out_after}
use Rattle.nk_apply.proofs.Sorted.{merged_every}

-- assignments laid under others are in range
lay_acts : (maxes : List ℕ) (s : ℕ × ℕ) (ss : List (ℕ × ℕ)) (rest : List (ℕ × ℕ) → List (ℕ × ℕ)) →
    ((low : ℕ) (h : List (ℕ × ℕ)) → IsActFrom maxes low ss → IsActFrom maxes low h → IsActFrom maxes low (rest h)) →
    (low : ℕ) (h : List (ℕ × ℕ)) → IsActFrom maxes low (s ∷ ss) → IsActFrom maxes low h →
    IsActFrom maxes low (lay s ss rest h)
lay_acts maxes s ss rest ih low [] a b = a
lay_acts maxes s ss rest ih low (t ∷ ts) a b =
    elim (order s.0 t.0) [
      | inl less ↦ subst (IsActFrom maxes low) (sym (lay-less s t ss ts rest less)) (a.0, a.1, a.2, ih (s.0 + 1) (t ∷ ts) a.3 (omega arith, b.1, b.2, b.3))
      | inr (inl same) ↦ subst (IsActFrom maxes low) (sym (lay-same s t ss ts rest same)) (b.0, b.1, b.2, ih (t.0 + 1) ts (subst (λ m. IsActFrom maxes (m + 1) ss) same a.3) b.3)
      | inr (inr more) ↦ subst (IsActFrom maxes low) (sym (lay-more s t ss ts rest more)) (b.0, b.1, b.2, lay_acts maxes s ss rest ih (t.0 + 1) ts (omega arith, a.1, a.2, a.3) b.3)
    ]

-- one act after another assigns values in range
pub then_acts : (maxes : List ℕ) (g : List (ℕ × ℕ)) (low : ℕ) (h : List (ℕ × ℕ)) → IsActFrom maxes low g →
    IsActFrom maxes low h → IsActFrom maxes low (act_then g h)
then_acts maxes [] low h a b = b
then_acts maxes (s ∷ ss) low h a b = lay_acts maxes s ss (act_then ss) (λ l k x y. then_acts maxes ss l k x y) low h a b

-- each out after an act in range suits the highest values
pub prefixed_suits : (maxes : List ℕ) (g : List (ℕ × ℕ)) (outs : List Out) → IsActFrom maxes 0 g →
    Every (Suits maxes) outs → Every (Suits maxes) (prefixed g outs)
prefixed_suits maxes g [] a e = tt
prefixed_suits maxes g (o ∷ os) a e =
    merged_every (Suits maxes) (out_after g o ∷ []) (prefixed g os) (then_acts maxes g 0 o.act a e.0, tt) (prefixed_suits maxes g os a e.1)

-- what holds of each out holds of the one at a place
pub every_at : (P : Out → Type 0) (outs : List Out) (i : ℕ) (e : Out) → Every P outs → i < length outs →
    P (get_or outs i e)
every_at P [] i e h l = absurd (omega arith)
every_at P (o ∷ os) zero e h l = h.0
every_at P (o ∷ os) (suc i) e h l = every_at P os i e h.1 (omega arith)
