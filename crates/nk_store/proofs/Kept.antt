-- Answers keep their meaning while the store grows, and stay where one more is kept.
use Rattle.std.proofs.Common.{◌≡◌, ℕ, Bool, true, false, cond, List, Option, Some, None, IfSome, refl, sym, ◌∙◌, ap, subst}
use Rattle.std.specs.Map.{lookup}
use Rattle.std.specs.Prelude.{OnOk, OnErr}
use Rattle.std.specs.declared.result.Result.{Result}
use Rattle.std.specs.declared.result.Result.TheVariants.{Ok, Err}
use Rattle.nk_store.specs.declared.operation.Operation.{Operation}
use Rattle.nk_store.specs.declared.operation.Key.{Key}
use Rattle.nk_store.specs.declared.node.Out.{Out}
use Rattle.nk_store.specs.StoreState.{StoreState, IsId, node_of, look, root_field, Grows, IsCanonical, recalled}
use Rattle.nk_store.specs.Operations.{made}
use Rattle.nk_store.specs.Equal.{key_same, key_alike}
use Rattle.nk_store.specs.Keys.{key_eq, key_of}
use Rattle.nk_store.specs.KeptAnswers.{IsKeptAnswer, keeping, AreAnswers, IsKeptLeaf}
use Rattle.nk_store.proofs.Stores.{grows_same}

-- an answer is one in a store that grew
pub answer_grown : (old new : StoreState) (operation : Operation) (a b d : ℕ) → Grows old new →
    IsKeptAnswer old operation a b d → IsKeptAnswer new operation a b d
answer_grown old new operation a b d g r =
    let second : look old b ≡ look new b = λ i pk. sym (g.leaves b pk r.right) i in
    record {
      left = g.ids a r.left;
      right = g.ids b r.right;
      leaves = record {
        id = g.ids d r.leaves.id;
        leaf = λ pk w.
            g.leaves d pk r.leaves.id ∙ r.leaves.leaf pk w
            ∙ ap (λ ms. made operation ms (look old a pk) (look old b) pk) (sym g.maxes)
            ∙ ap (λ x. made operation new.maxes x (look old b) pk) (sym (g.leaves a pk r.left))
            ∙ ap (λ B. made operation new.maxes (look new a pk) B pk) second;
      };
    }

-- and so are all that are kept
pub answers_grown : (old new : StoreState) (answers : List (Key × ℕ)) → Grows old new → AreAnswers old answers →
    AreAnswers new answers
answers_grown old new answers g m = λ k d e. answer_grown old new k.operation k.left k.right d g (m k d e)

-- and of a store that grew and keeps the same answers
pub answers_stay : (old new : StoreState) → Grows old new → new.kept ≡ old.kept → AreAnswers old old.kept →
    AreAnswers new new.kept
answers_stay old new g e m = subst (AreAnswers new) (sym e) (answers_grown old new old.kept g m)

-- with one answer more, all that are kept are answers
pub answers_kept : (st : StoreState) (old new : List (Key × ℕ)) (k : Key) (d : ℕ) → AreAnswers st old →
    IsKeptAnswer st k.operation k.left k.right d →
    ((q : Key) → lookup (key_eq q) new ≡ cond (key_eq k q) (Some d) (lookup (key_eq q) old)) → AreAnswers st new
answers_kept st old new k d m r u = λ q e is. by q e is (key_eq k q) refl
  where
    by : (q : Key) (e : ℕ) → lookup (key_eq q) new ≡ Some e → (b : Bool) → key_eq k q ≡ b →
        IsKeptAnswer st q.operation q.left q.right e
    by q e is true h =
        let same : k ≡ q = key_same k q h in
        let answer : d ≡ e = let eq : Some d ≡ Some e = sym (u q ∙ ap (λ b. cond b (Some d) (lookup (key_eq q) old)) h) ∙ is in cc in
        subst (λ x. IsKeptAnswer st q.operation q.left q.right x) answer (subst (λ (x : Key). IsKeptAnswer st x.operation x.left x.right d) same r)
    by q e is false h = m q e (sym (u q ∙ ap (λ b. cond b (Some d) (lookup (key_eq q) old)) h) ∙ is)

-- what is found once one answer more is kept
abbrev pub IsFound : List (Key × ℕ) → List (Key × ℕ) → Key → ℕ → Type 0
IsFound old new k d = (q : Key) → lookup (key_eq q) new ≡ cond (key_eq k q) (Some d) (lookup (key_eq q) old)

-- two answers of an operation on the same diagrams are one
pub one_answer : (st : StoreState) (operation : Operation) (a b d e : ℕ) → IsCanonical st →
    IsKeptAnswer st operation a b d → IsKeptAnswer st operation a b e → d ≡ e
one_answer st operation a b d e c r s =
    c d e r.leaves.id s.leaves.id (λ pk h. r.leaves.leaf pk h.0 ∙ sym (s.leaves.leaf pk h.0))

-- the store with other answers
abbrev with_kept : StoreState → List (Key × ℕ) → StoreState
with_kept st ks = record st { kept = ks }

-- what was found is found still
stays : (st : StoreState) (ks : List (Key × ℕ)) (k : Key) (d : ℕ) → IsCanonical st → AreAnswers st st.kept →
    IsKeptAnswer st k.operation k.left k.right d → IsFound st.kept ks k d → (q : Key) (e : ℕ) →
    lookup (key_eq q) st.kept ≡ Some e → lookup (key_eq q) ks ≡ Some e
stays st ks k d c m r u q e is = by (key_eq k q) refl
  where
    by : (b : Bool) → key_eq k q ≡ b → lookup (key_eq q) ks ≡ Some e
    by true h =
        let same : k ≡ q = key_same k q h in
        let answer : IsKeptAnswer st q.operation q.left q.right d = subst (λ (x : Key). IsKeptAnswer st x.operation x.left x.right d) same r in
        u q ∙ ap (λ b. cond b (Some d) (lookup (key_eq q) st.kept)) h
        ∙ ap (λ x. Some x) (one_answer st q.operation q.left q.right d e c answer (m q e is))
    by false h = u q ∙ ap (λ b. cond b (Some d) (lookup (key_eq q) st.kept)) h ∙ is

-- a store with one answer more has grown
pub grows_keeping : (st : StoreState) (ks : List (Key × ℕ)) (k : Key) (d : ℕ) → IsCanonical st → AreAnswers st st.kept →
    IsKeptAnswer st k.operation k.left k.right d → IsFound st.kept ks k d → Grows st (with_kept st ks)
unfolding IsId node_of look root_field recalled
grows_keeping st ks k d c m r u = record {
  ids = λ i h. h;
  nodes = λ i h. refl;
  root_fields = λ i h. refl;
  leaves = λ i pk h. refl;
  maxes = refl;
  width = refl;
  tag = refl;
  kept = λ operation x y e is. stays st ks k d c m r u (key_of operation x y) e is;
}

-- what keeping one answer more makes of a store, whether there was memory for it or not
pub record Keeps (st new : StoreState) : Type 0 where
  pub grows : Grows st new
  pub answers : AreAnswers new new.kept
  pub nodes : new.nodes ≡ st.nodes

-- a call that keeps it or leaves all as it was makes that
pub kept_after : {T E : Type 0} (st new : StoreState) (operation : Operation) (a b d : ℕ) (r : Result T E) → IsCanonical st →
    AreAnswers st st.kept → IsKeptAnswer st operation a b d → OnOk r (new ≡ keeping st operation a b d) →
    OnOk r (IsFound st.kept new.kept (key_of operation a b) d) → OnErr r (new ≡ st) → Keeps st new
kept_after st new operation a b d (Ok x) c m r ok u err =
    let same : new ≡ with_kept st new.kept = ok ∙ ap (λ ks. with_kept st ks) (sym (ap (λ (s : StoreState). s.kept) ok)) in
    let g : Grows st new = subst (Grows st) (sym same) (grows_keeping st new.kept (key_of operation a b) d c m r u) in
    record {
      grows = g;
      answers = answers_grown st new new.kept g (answers_kept st st.kept new.kept (key_of operation a b) d m r u);
      nodes = ap (λ (s : StoreState). s.nodes) ok;
    }
kept_after st new operation a b d (Err x) c m r ok u err = record {
  grows = subst (Grows st) (sym err) (grows_same st);
  answers = subst (λ (s : StoreState). AreAnswers s s.kept) (sym err) m;
  nodes = ap (λ (s : StoreState). s.nodes) err;
}

-- the answer that was kept is recalled
pub recalled_kept : (old new : StoreState) (operation : Operation) (a b d : ℕ) →
    IsFound old.kept new.kept (key_of operation a b) d → recalled new operation a b ≡ Some d
unfolding recalled
recalled_kept old new operation a b d u =
    u (key_of operation a b) ∙ ap (λ t. cond t (Some d) (recalled old operation a b)) (key_alike (key_of operation a b))

-- any other is as before
pub recalled_others : (old new : StoreState) (k : Key) (d : ℕ) → IsFound old.kept new.kept k d →
    (operation : Operation) (x y : ℕ) → (key_of operation x y ≡ k → ⊥) → recalled new operation x y ≡ recalled old operation x y
unfolding recalled
recalled_others old new k d u operation x y other = by (key_eq k (key_of operation x y)) refl
  where
    by : (b : Bool) → key_eq k (key_of operation x y) ≡ b → lookup (key_eq (key_of operation x y)) new.kept ≡ lookup (key_eq (key_of operation x y)) old.kept
    by true h = absurd (other (sym (key_same k (key_of operation x y) h)))
    by false h = u (key_of operation x y) ∙ ap (λ t. cond t (Some d) (lookup (key_eq (key_of operation x y)) old.kept)) h

-- what is recalled is an answer
pub recalled_is : (st : StoreState) → AreAnswers st st.kept → (operation : Operation) (a b d : ℕ) →
    recalled st operation a b ≡ Some d → IsKeptAnswer st operation a b d
unfolding recalled
recalled_is st m operation a b d e = m (key_of operation a b) d e

-- and so is what a call answers that recalls
pub recalled_answer : (st : StoreState) (operation : Operation) (a b : ℕ) (o : Option ℕ) → AreAnswers st st.kept →
    o ≡ recalled st operation a b → IfSome o (λ d. IsKeptAnswer st operation a b d)
recalled_answer st operation a b None m e = tt
recalled_answer st operation a b (Some d) m e = recalled_is st m operation a b d (sym e)

-- a leaf that is kept is that leaf in a store that grew
pub leaf_kept : (old new : StoreState) (outs : List Out) (o : Option ℕ) → Grows old new → IsKeptLeaf old outs o →
    IsKeptLeaf new outs o
leaf_kept old new outs None g k = tt
leaf_kept old new outs (Some d) g k = (
  record { id = g.ids d k.0.id; leaf = λ pk w. g.leaves d pk k.0.id ∙ k.0.leaf pk w },
  g.root_fields d k.0.id ∙ k.1,
)
