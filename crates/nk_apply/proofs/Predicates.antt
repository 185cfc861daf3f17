-- Operations keep predicate diagrams predicate, and outs that end ending.
use Rattle.std.proofs.Common.{◌≡◌, ℕ, zero, suc, ◌+◌, ◌<◌, ◌≤◌, Bool, true, false, cond, List, [], ◌∷◌, length, refl, sym, ◌∙◌, ap, subst, arith, get_or, set}
use Rattle.std.proofs.lemmas.List.{length-set}
use Rattle.nk_field.specs.Act.{applied}
use Rattle.nk_store.specs.declared.node.Out.{Out}
use Rattle.nk_store.specs.Leaves.{Every}
use Rattle.nk_store.specs.StoreState.{StoreState, IsWhole, look, HasLeaves}
use Rattle.nk_apply.specs.Leaves.{merged, guarded, absent, out_to, aimed}
use Rattle.nk_apply.specs.Seqs.{out_after, prefixed, seq_leaf, no_out}
use Rattle.nk_apply.specs.Unions.{unions}
use Rattle.nk_apply.specs.Predicates.{IsPass, IsPredicate, HasOnlyFinals}
use Rattle.nk_apply.proofs.Sorted.{merged_every}

-- a leaf with a first out that passes is the packet itself alone
only : (x : Out) (xs : List Out) → IsPass (x ∷ xs) → x ∷ xs ≡ no_out ∷ []
only x xs p = ap (λ z. z ∷ xs) p.0 ∙ ap (λ zs. no_out ∷ zs) p.1

-- two that pass, together
pub pass_merged : (a b : List Out) → IsPass a → IsPass b → IsPass (merged a b)
pass_merged [] b p q = q
pass_merged (x ∷ xs) b p q = subst (λ y. IsPass (merged y b)) (sym (only x xs p)) (beside b q)
  where
    beside : (b : List Out) → IsPass b → IsPass (merged (no_out ∷ []) b)
    beside [] q = (refl, refl)
    beside (y ∷ ys) q = subst (λ z. IsPass (merged (no_out ∷ []) z)) (sym (only y ys q)) (refl, refl)

-- one that passes where another holds
pub pass_guarded : (a b : List Out) → IsPass b → IsPass (guarded a b)
pass_guarded [] b q = tt
pass_guarded (x ∷ xs) b q = q

-- the packets where another doesn't hold
pub pass_absent : (a b : List Out) → IsPass (absent a b)
pass_absent [] b = (refl, refl)
pass_absent (x ∷ xs) b = tt

-- the packet itself or nothing
pub pass_cond : (b : Bool) → IsPass (cond b (no_out ∷ []) [])
pass_cond true = (refl, refl)
pass_cond false = tt

-- one after the other
pub pass_seq : (a : List Out) (B : List ℕ → List Out) (pk : List ℕ) → IsWhole pk → IsPass a →
    ((pk : List ℕ) → IsWhole pk → IsPass (B pk)) → IsPass (seq_leaf a B pk)
pass_seq [] B pk w p q = tt
pass_seq (x ∷ xs) B pk w p q =
    subst (λ y. IsPass (seq_leaf y B pk)) (sym (only x xs p)) (following (B pk) (q pk w))
  where
    following : (os : List Out) → IsPass os → IsPass (merged (prefixed [] os) [])
    following [] q = tt
    following (o ∷ os) q = subst (λ y. IsPass (merged (prefixed [] y) [])) (sym (only o os q)) (refl, refl)

-- many that pass, together
pub pass_unions : (st : StoreState) (ds : List ℕ) (from n : ℕ) (pk : List ℕ) →
    ((k : ℕ) → from ≤ k → k < from + n → IsPass (look st (get_or ds k 0) pk)) → IsPass (unions st ds from n pk)
pass_unions st ds from zero pk p = tt
pass_unions st ds from (suc n) pk p =
    pass_merged (look st (get_or ds from 0) pk) (unions st ds (from + 1) n pk) (p from (omega arith) (omega arith))
    (pass_unions st ds (from + 1) n pk (λ k l m. p k (omega (arith, l)) (omega (arith, m))))

-- all that pass, together
pub pass_all : (st : StoreState) (ds : List ℕ) (pk : List ℕ) →
    ((k : ℕ) → k < length ds → IsPass (look st (get_or ds k 0) pk)) →
    IsPass (unions st ds 0 (length ds) pk)
pass_all st ds pk p = pass_unions st ds 0 (length ds) pk (λ k l m. p k (omega (arith, m)))

-- a predicate by its leaves
pub predicate_by : (st : StoreState) (d : ℕ) (F : List ℕ → List Out) → HasLeaves st d F →
    ((pk : List ℕ) → IsWhole pk → IsPass (F pk)) → IsPredicate st d
predicate_by st d F h p = λ pk w. subst IsPass (sym (h.leaf pk w)) (p pk w)

-- a packet with one value changed is whole
pub whole_set : (pk : List ℕ) (f n : ℕ) → IsWhole pk → IsWhole (set pk f n)
whole_set pk f n w = length-set pk f n ∙ w

-- a packet that an act makes of a whole one is whole
pub whole_applied : (g : List (ℕ × ℕ)) (pk : List ℕ) → IsWhole pk → IsWhole (applied g pk)
whole_applied [] pk w = w
whole_applied (s ∷ ss) pk w = whole_applied ss (set pk s.0 s.1) (whole_set pk s.0 s.1 w)

-- outs that end, by their leaves
pub ends_by : (st : StoreState) (d : ℕ) (F : List ℕ → List Out) → HasLeaves st d F → HasOnlyFinals F → HasOnlyFinals (look st d)
ends_by st d F h e = λ pk w. subst (Every (λ o. o.target ≡ 0)) (sym (h.leaf pk w)) (e pk w)

-- both together end
pub ends_merged : (a b : List Out) → Every (λ o. o.target ≡ 0) a → Every (λ o. o.target ≡ 0) b →
    Every (λ o. o.target ≡ 0) (merged a b)
ends_merged a b p q = merged_every (λ o. o.target ≡ 0) a b p q

-- what ends does so where a predicate holds
pub ends_guarded : (a b : List Out) → Every (λ o. o.target ≡ 0) b → Every (λ o. o.target ≡ 0) (guarded a b)
ends_guarded [] b q = tt
ends_guarded (x ∷ xs) b q = q

-- and after an act
ends_prefixed : (g : List (ℕ × ℕ)) (os : List Out) → Every (λ o. o.target ≡ 0) os →
    Every (λ o. o.target ≡ 0) (prefixed g os)
ends_prefixed g [] e = tt
ends_prefixed g (o ∷ os) e = ends_merged (out_after g o ∷ []) (prefixed g os) (e.0, tt) (ends_prefixed g os e.1)

-- a sequence ends as its second diagram does
pub ends_seq : (a : List Out) (B : List ℕ → List Out) (pk : List ℕ) → IsWhole pk → HasOnlyFinals B →
    Every (λ o. o.target ≡ 0) (seq_leaf a B pk)
ends_seq [] B pk w e = tt
ends_seq (o ∷ os) B pk w e =
    ends_merged (prefixed o.act (B (applied o.act pk))) (seq_leaf os B pk)
    (ends_prefixed o.act (B (applied o.act pk)) (e (applied o.act pk) (whole_applied o.act pk w))) (ends_seq os B pk w e)

-- with target 0 all outs end
pub ends_aimed : (target : ℕ) (os : List Out) → target ≡ 0 → Every (λ o. o.target ≡ 0) (aimed target os)
ends_aimed target [] z = tt
ends_aimed target (o ∷ os) z =
    ends_merged (out_to target o ∷ []) (aimed target os) (z, tt) (ends_aimed target os z)
