-- The branches of a leaf are its acts, each with all its targets.
use Rattle.std.proofs.Common.{◌≡◌, ℕ, ◌<◌, Bool, true, false, cond, eqb, not, List, [], ◌∷◌, ◌++◌, arith, refl, sym, ap, subst, ◌∙◌, inl, inr}
use Rattle.std.specs.List.Sorted.{IsStrictlyIncreasing}
use Rattle.std.specs.declared.cmp.Ordering.TheVariants.{Less, Greater}
use Rattle.std.proofs.lemmas.Bool.Decides.{nat_tests}
use Rattle.std.proofs.lemmas.List.{append_assoc, append-nil}
use Rattle.std.proofs.lemmas.List.Kept.{IsStrictlyIncreasing-filter}
use Rattle.nk_field.specs.contracts.act.ActPartialEq.TheImpl.{ghosts}
use Rattle.nk_field.specs.contracts.act.ActOrd.TheImpl as act_ord
use Rattle.nk_field.proofs.Lists.{In}
use Rattle.nk_field.proofs.Ascending.{Rising, increasing_from}
use Rattle.nk_store.specs.declared.node.Out.{Out}
use Rattle.nk_store.specs.Leaves.{out_cmp, Every, Strict}
use Rattle.nk_apply.proofs.Members.{Has, every_has}
use Rattle.nk_determ.specs.Branches.{Branch, with_target, begun, runs, branches, targets_of, labels}
use Rattle.nk_determ.proofs.Ascents.{act_decides, targets_rise, acts_rise, none_first, apart}

-- acts that differ are told apart
pub act_differs : (g h : List (ℕ × ℕ)) → (g ≡ h → ⊥) → ghosts.eq g h ≡ false
act_differs g h ne = by (ghosts.eq g h) refl
  where
    by : (b : Bool) → ghosts.eq g h ≡ b → b ≡ false
    by true e = absurd (ne ((act_decides g h).0 e))
    by false e = refl

-- the targets with one out of the act more
target_first : (g : List (ℕ × ℕ)) (o : Out) (os : List Out) → o.act ≡ g → targets_of g (o ∷ os) ≡ o.target ∷ targets_of g os
target_first g o os e = ap (λ b. cond b (o.target ∷ targets_of g os) (targets_of g os)) ((act_decides o.act g).1 e)

-- and with one of another act
target_other : (g : List (ℕ × ℕ)) (o : Out) (os : List Out) → (o.act ≡ g → ⊥) → targets_of g (o ∷ os) ≡ targets_of g os
target_other g o os ne = ap (λ b. cond b (o.target ∷ targets_of g os) (targets_of g os)) (act_differs o.act g ne)

-- an act that no out has has no target
no_targets : (g : List (ℕ × ℕ)) (os : List Out) → ((y : Out) → Has os y → y.act ≡ g → ⊥) → targets_of g os ≡ []
no_targets g [] f = refl
no_targets g (o ∷ os) f = target_other g o os (f o (inl refl)) ∙ no_targets g os (λ y h. f y (inr h))

-- some branch has the act of the one that stands in front
branch_there : (b : Branch) (os : List Out) → (c : Branch) × Has (runs b os) c × (c.act ≡ b.act)
branch_there b [] = (b, inl refl, refl)
branch_there b (o ∷ os) = by (ghosts.eq o.act b.act) (branch_there (with_target b o.target) os)
  where
    by : (t : Bool) → ((c : Branch) × Has (runs (with_target b o.target) os) c × (c.act ≡ b.act)) →
        (c : Branch) × Has (cond t (runs (with_target b o.target) os) (b ∷ runs (with_target (begun o.act) o.target) os)) c × (c.act ≡ b.act)
    by true r = r
    by false r = (b, inl refl, refl)

-- each out has a branch with its act
pub branch_for : (b : Branch) (os : List Out) (o : Out) → Has os o → (c : Branch) × Has (runs b os) c × (c.act ≡ o.act)
branch_for b [] o h = absurd h
branch_for b (y ∷ ys) o (inl e) = by (ghosts.eq y.act b.act) refl
  where
    by : (t : Bool) → ghosts.eq y.act b.act ≡ t →
        (c : Branch) × Has (cond t (runs (with_target b y.target) ys) (b ∷ runs (with_target (begun y.act) y.target) ys)) c × (c.act ≡ o.act)
    by true is = let r = branch_there (with_target b y.target) ys in (r.0, r.1, r.2 ∙ sym ((act_decides y.act b.act).0 is) ∙ ap (λ (z : Out). z.act) e)
    by false is = let r = branch_there (with_target (begun y.act) y.target) ys in (r.0, inr r.1, r.2 ∙ ap (λ (z : Out). z.act) e)
branch_for b (y ∷ ys) o (inr h) = by (ghosts.eq y.act b.act) (branch_for (with_target b y.target) ys o h) (branch_for (with_target (begun y.act) y.target) ys o h)
  where
    by : (t : Bool) → ((c : Branch) × Has (runs (with_target b y.target) ys) c × (c.act ≡ o.act)) →
        ((c : Branch) × Has (runs (with_target (begun y.act) y.target) ys) c × (c.act ≡ o.act)) →
        (c : Branch) × Has (cond t (runs (with_target b y.target) ys) (b ∷ runs (with_target (begun y.act) y.target) ys)) c × (c.act ≡ o.act)
    by true r s = r
    by false r s = (s.0, inr s.1, s.2)

-- the branch and the outs after it have the targets that all outs have
record IsFit (b : Branch) (os all : List Out) : Type 0 where
  low : (y : Out) → Has os y → act_ord.ghosts.cmp b.act y.act ≡ Greater → ⊥
  here : b.targets ++ targets_of b.act os ≡ targets_of b.act all
  later : (y : Out) → Has os y → (y.act ≡ b.act → ⊥) → targets_of y.act os ≡ targets_of y.act all

-- an out of the branch's act more
fit_on : (b : Branch) (o : Out) (os all : List Out) → o.act ≡ b.act → IsFit b (o ∷ os) all → IsFit (with_target b o.target) os all
fit_on b o os all is f = record {
  low = λ y h. f.low y (inr h);
  here = append_assoc b.targets (o.target ∷ []) (targets_of b.act os) ∙ ap (λ ts. b.targets ++ ts) (sym (target_first b.act o os is)) ∙ f.here;
  later = λ y h ne. sym (target_other y.act o os (λ e. ne (sym e ∙ is))) ∙ f.later y (inr h) ne;
}

-- where an out has another act, the branch is done
fit_done : (b : Branch) (o : Out) (os all : List Out) → (o.act ≡ b.act → ⊥) → Every (λ y. out_cmp o y ≡ Less) os → IsFit b (o ∷ os) all → b.targets ≡ targets_of b.act all
fit_done b o os all ne e f =
    sym (append-nil b.targets) ∙ ap (λ ts. b.targets ++ ts) (sym (no_targets b.act (o ∷ os) (apart b.act o os (f.low o (inl refl)) ne e))) ∙ f.here

-- and the next one begins
fit_next : (b : Branch) (o : Out) (os all : List Out) → (o.act ≡ b.act → ⊥) → Every (λ y. out_cmp o y ≡ Less) os → IsFit b (o ∷ os) all → IsFit (with_target (begun o.act) o.target) os all
fit_next b o os all ne e f = record {
  low = λ y h. acts_rise o y (every_has (λ z. out_cmp o z ≡ Less) os y e h);
  here = sym (target_first o.act o os refl) ∙ f.later o (inl refl) ne;
  later = λ y h other. sym (target_other y.act o os (λ k. other (sym k))) ∙ f.later y (inr h) (apart b.act o os (f.low o (inl refl)) ne e y (inr h));
}

-- each branch has all targets of its act
branch_targets : (all os : List Out) (b : Branch) → Strict os → IsFit b os all → (c : Branch) → Has (runs b os) c → c.targets ≡ targets_of c.act all
branch_targets all [] b s f c (inl e) = subst (λ (z : Branch). z.targets ≡ targets_of z.act all) e (sym (append-nil b.targets) ∙ f.here)
branch_targets all [] b s f c (inr k) = absurd k
branch_targets all (o ∷ os) b s f c h = by (ghosts.eq o.act b.act) refl h (λ z k. branch_targets all os z s.1 k c)
  where
    by : (t : Bool) → ghosts.eq o.act b.act ≡ t →
        Has (cond t (runs (with_target b o.target) os) (b ∷ runs (with_target (begun o.act) o.target) os)) c →
        ((z : Branch) → IsFit z os all → Has (runs z os) c → c.targets ≡ targets_of c.act all) → c.targets ≡ targets_of c.act all
    by true e k go = go (with_target b o.target) (fit_on b o os all ((act_decides o.act b.act).0 e) f) k
    by false e (inl is) go = subst (λ (z : Branch). z.targets ≡ targets_of z.act all) is (fit_done b o os all (λ same. differs e same) s.0 f)
      where
        differs : ghosts.eq o.act b.act ≡ false → o.act ≡ b.act → ⊥
        differs n same = let k : false ≡ true = sym n ∙ (act_decides o.act b.act).1 same in cc
    by false e (inr k) go = go (with_target (begun o.act) o.target) (fit_next b o os all (λ same. differs e same) s.0 f) k
      where
        differs : ghosts.eq o.act b.act ≡ false → o.act ≡ b.act → ⊥
        differs n same = let k : false ≡ true = sym n ∙ (act_decides o.act b.act).1 same in cc

-- each branch of a leaf has all targets of its act
pub branches_are : (outs : List Out) → Strict outs → (c : Branch) → Has (branches outs) c → c.targets ≡ targets_of c.act outs
branches_are outs s c h = branch_targets outs outs (begun []) s (record { low = λ y k. none_first y.act; here = refl; later = λ y k ne. refl }) c h

-- a target of an act is one of an out with the act
pub target_has : (g : List (ℕ × ℕ)) (os : List Out) (t : ℕ) → Has (targets_of g os) t → Has os (record { act = g; target = t })
target_has g [] t h = absurd h
target_has g (o ∷ os) t h = by (ghosts.eq o.act g) refl h (λ k. target_has g os t k)
  where
    by : (b : Bool) → ghosts.eq o.act g ≡ b → Has (cond b (o.target ∷ targets_of g os) (targets_of g os)) t →
        (Has (targets_of g os) t → Has os (record { act = g; target = t })) → Has (o ∷ os) (record { act = g; target = t })
    by true e (inl is) go = let same : o.act ≡ g = (act_decides o.act g).0 e in inl (λ i. record { act = same i; target = is i })
    by true e (inr k) go = inr (go k)
    by false e k go = inr (go k)

-- and the other way round
pub has_target : (g : List (ℕ × ℕ)) (os : List Out) (t : ℕ) → Has os (record { act = g; target = t }) → Has (targets_of g os) t
has_target g [] t h = absurd h
has_target g (o ∷ os) t (inl e) =
    subst (λ ts. Has ts t) (sym (target_first g o os (ap (λ (z : Out). z.act) e))) (inl (ap (λ (z : Out). z.target) e))
has_target g (o ∷ os) t (inr h) = by (ghosts.eq o.act g) (has_target g os t h)
  where
    by : (b : Bool) → Has (targets_of g os) t → Has (cond b (o.target ∷ targets_of g os) (targets_of g os)) t
    by true k = inr k
    by false k = k

-- a label is a target above 0
pub label_has : (ts : List ℕ) (l : ℕ) → Has (labels ts) l → (0 < l) × Has ts l
label_has [] l h = absurd h
label_has (t ∷ ts) l h = by (eqb t 0) refl h (λ k. label_has ts l k)
  where
    by : (b : Bool) → eqb t 0 ≡ b → Has (cond (not b) (t ∷ labels ts) (labels ts)) l → (Has (labels ts) l → (0 < l) × Has ts l) → (0 < l) × Has (t ∷ ts) l
    by true e k go = let r = go k in (r.0, inr r.1)
    by false e (inl is) go = let more : 0 < t = grind (arith, nat_tests, e) in (subst (λ z. 0 < z) is more, inl is)
    by false e (inr k) go = let r = go k in (r.0, inr r.1)

-- and the other way round
pub has_label : (ts : List ℕ) (l : ℕ) → 0 < l → Has ts l → Has (labels ts) l
has_label [] l p h = absurd h
has_label (t ∷ ts) l p h = by (eqb t 0) refl h (λ k. has_label ts l p k)
  where
    by : (b : Bool) → eqb t 0 ≡ b → Has (t ∷ ts) l → (Has ts l → Has (labels ts) l) → Has (cond (not b) (t ∷ labels ts) (labels ts)) l
    by true e (inl is) go = let z : t ≡ 0 = grind (arith, nat_tests, e) in absurd (omega (arith, z, is, p))
    by true e (inr k) go = go k
    by false e (inl is) go = inl is
    by false e (inr k) go = inr (go k)

-- the targets of an act are above the target of an earlier out of that act
below : (g : List (ℕ × ℕ)) (t : ℕ) (os : List Out) → Every (λ y. out_cmp (record { act = g; target = t }) y ≡ Less) os → (u : ℕ) → In (targets_of g os) u → t < u
below g t [] e u h = absurd h
below g t (y ∷ ys) e u h = by (ghosts.eq y.act g) refl h (λ k. below g t ys e.1 u k)
  where
    by : (b : Bool) → ghosts.eq y.act g ≡ b → In (cond b (y.target ∷ targets_of g ys) (targets_of g ys)) u → (In (targets_of g ys) u → t < u) → t < u
    by true is (inl same) go =
        let act : y.act ≡ g = (act_decides y.act g).0 is in
        subst (λ z. t < z) (sym same) (targets_rise g t y.target (subst (λ a. out_cmp (record { act = g; target = t }) (record { act = a; target = y.target }) ≡ Less) act e.0))
    by true is (inr k) go = go k
    by false is k go = go k

-- the targets of an act rise
targets_ascend : (g : List (ℕ × ℕ)) (os : List Out) → Strict os → Rising (targets_of g os)
targets_ascend g [] s = tt
targets_ascend g (y ∷ ys) s = by (ghosts.eq y.act g) refl (targets_ascend g ys s.1)
  where
    by : (b : Bool) → ghosts.eq y.act g ≡ b → Rising (targets_of g ys) → Rising (cond b (y.target ∷ targets_of g ys) (targets_of g ys))
    by true is rest =
        let act : y.act ≡ g = (act_decides y.act g).0 is in
        (below g y.target ys (subst (λ a. Every (λ z. out_cmp (record { act = a; target = y.target }) z ≡ Less) ys) act s.0), rest)
    by false is rest = rest

-- the labels of a branch ascend
pub labels_ascend : (outs : List Out) → Strict outs → (c : Branch) → Has (branches outs) c → IsStrictlyIncreasing (labels c.targets)
labels_ascend outs s c h =
    subst (λ ts. IsStrictlyIncreasing (labels ts)) (sym (branches_are outs s c h))
    (IsStrictlyIncreasing-filter (λ t. not (eqb t 0)) (targets_of c.act outs) (increasing_from (targets_of c.act outs) (targets_ascend c.act outs s)))
