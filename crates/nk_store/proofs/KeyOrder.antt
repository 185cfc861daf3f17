-- Answers in the order of their keys.
use Rattle.std.proofs.Common.{◌≡◌, ℕ, Bool, true, false, cond, eqb, List, [], ◌∷◌, Some, None, Ordering, Less, Equal, Greater, nat_cmp, refl, sym, ◌∙◌, ap, subst}
use Rattle.std.specs.Cmp.{IsTotalOrder}
use Rattle.std.specs.Ordering.{match_ordering, ordering_then, ordering_reverse}
use Rattle.std.specs.Map.{lookup}
use Rattle.std.proofs.lemmas.Cmp.{then_total, on_total, nat_cmp_total, tied_itself}
use Rattle.std.proofs.lemmas.Map.Lookups.{exact_unsigned}
use Rattle.nk_store.specs.declared.operation.Operation.{Operation}
use Rattle.nk_store.specs.declared.operation.Operation.TheVariants.{Union, Both, Negate, Missing, Seq, Split}
use Rattle.nk_store.specs.declared.operation.Key.{Key}
use Rattle.nk_store.specs.Digests.{operation_number}
use Rattle.nk_store.specs.Equal.{key_same, key_alike}
use Rattle.nk_store.specs.Keys.{key_eq, key_cmp, with_answer, arranged}

-- the operation of a number
abbrev operation_of : ℕ → Operation
operation_of n = cond (eqb n 0) Union (cond (eqb n 1) Both (cond (eqb n 2) Negate (cond (eqb n 3) Missing (cond (eqb n 4) Seq Split))))

-- an operation is that of its number
numbered : (o : Operation) → operation_of (operation_number o) ≡ o
numbered Union = refl
numbered Both = refl
numbered Negate = refl
numbered Missing = refl
numbered Seq = refl
numbered Split = refl

-- the order of keys is a total one
total : IsTotalOrder key_cmp
total = then_total (on_total (λ (x : Key). operation_number x.operation) nat_cmp_total) (then_total (on_total (λ (x : Key). x.left) nat_cmp_total) (on_total (λ (x : Key). x.right) nat_cmp_total))

-- two orders in turn that tell nothing apart
both_equal : (a b : Ordering) → ordering_then a b ≡ Equal → (a ≡ Equal) × (b ≡ Equal)
both_equal Less b h = cc
both_equal Equal b h = (refl, h)
both_equal Greater b h = cc

-- keys that the order doesn't tell apart are one
exact : (k q : Key) → key_cmp k q ≡ Equal → k ≡ q
exact k q h =
    let first = both_equal (nat_cmp (operation_number k.operation) (operation_number q.operation)) _ h in
    let rest = both_equal (nat_cmp k.left q.left) (nat_cmp k.right q.right) first.1 in
    let a : k.operation ≡ q.operation = sym (numbered k.operation) ∙ ap operation_of (exact_unsigned (operation_number k.operation) (operation_number q.operation) first.0) ∙ numbered q.operation in
    let b : k.left ≡ q.left = exact_unsigned _ _ rest.0 in
    let c : k.right ≡ q.right = exact_unsigned _ _ rest.1 in
    λ i. record { operation = a i; left = b i; right = c i }

-- two keys are equal in either order
symmetric : (k q : Key) → key_eq k q ≡ key_eq q k
symmetric k q = by (key_eq k q) (key_eq q k) refl refl
  where
    by : (s t : Bool) → key_eq k q ≡ s → key_eq q k ≡ t → key_eq k q ≡ key_eq q k
    by true t h g = let e : k ≡ q = key_same k q h in ap (λ (x : Key). key_eq x q) e ∙ sym (ap (λ (x : Key). key_eq q x) e)
    by false true h g = let e : q ≡ k = key_same q k g in ap (λ (x : Key). key_eq k x) e ∙ sym (ap (λ (x : Key). key_eq x k) e)
    by false false h g = h ∙ sym g

-- keys that the order tells apart are not equal
apart : (k q : Key) → key_cmp k q ≡ Less → key_eq k q ≡ false
apart k q h = by (key_eq k q) refl
  where
    by : (b : Bool) → key_eq k q ≡ b → key_eq k q ≡ false
    by true g = let e : Less ≡ Equal = sym h ∙ ap (λ (x : Key). key_cmp x q) (key_same k q g) ∙ tied_itself total q in cc
    by false g = g

-- the other way round
reversed : (k q : Key) → key_cmp k q ≡ Greater → key_cmp q k ≡ Less
reversed k q h = total.antisymm q k ∙ ap ordering_reverse h

-- what is found once one answer more is put in
pub lookup_put : (es : List (Key × ℕ)) (k : Key) (d : ℕ) (q : Key) → lookup (key_eq q) (with_answer es k d) ≡ cond (key_eq k q) (Some d) (lookup (key_eq q) es)
lookup_put [] k d q = ap (λ b. cond b (Some d) None) (symmetric q k)
lookup_put (e ∷ es) k d q = by (key_cmp k e.0) refl (lookup_put es k d q)
  where
    same : k ≡ e.0 → (b : Bool) → key_eq q e.0 ≡ b → cond b (Some d) (lookup (key_eq q) es) ≡ cond b (Some d) (cond b (Some e.1) (lookup (key_eq q) es))
    same s true h = refl
    same s false h = refl

    later : key_cmp k e.0 ≡ Greater → (s t : Bool) → key_eq k q ≡ s → key_eq q e.0 ≡ t →
        cond t (Some e.1) (cond s (Some d) (lookup (key_eq q) es)) ≡ cond s (Some d) (cond t (Some e.1) (lookup (key_eq q) es))
    later h true true f g =
        let one : k ≡ e.0 = key_same k q f ∙ key_same q e.0 g in
        let no : Greater ≡ Equal = sym h ∙ ap (λ (x : Key). key_cmp x e.0) one ∙ tied_itself total e.0 in cc
    later h true false f g = refl
    later h false t f g = refl

    by : (r : Ordering) → key_cmp k e.0 ≡ r → lookup (key_eq q) (with_answer es k d) ≡ cond (key_eq k q) (Some d) (lookup (key_eq q) es) →
        lookup (key_eq q) (match_ordering r ((k, d) ∷ e ∷ es) ((e.0, d) ∷ es) (e ∷ with_answer es k d)) ≡ cond (key_eq k q) (Some d) (lookup (key_eq q) (e ∷ es))
    by Less h go = ap (λ b. cond b (Some d) (lookup (key_eq q) (e ∷ es))) (symmetric q k)
    by Equal h go =
        let s : k ≡ e.0 = exact k e.0 h in
        same s (key_eq q e.0) refl
        ∙ ap (λ b. cond b (Some d) (lookup (key_eq q) (e ∷ es))) (symmetric q e.0 ∙ ap (λ (x : Key). key_eq x q) (sym s))
    by Greater h go = ap (λ o. cond (key_eq q e.0) (Some e.1) o) go ∙ later h (key_eq k q) (key_eq q e.0) refl refl

-- what is found among the answers in order is what is found among them
pub lookup_arranged : (es : List (Key × ℕ)) (q : Key) → lookup (key_eq q) (arranged es) ≡ lookup (key_eq q) es
lookup_arranged [] q = refl
lookup_arranged (e ∷ es) q =
    lookup_put (arranged es) e.0 e.1 q ∙ ap (λ b. cond b (Some e.1) (lookup (key_eq q) (arranged es))) (symmetric e.0 q)
    ∙ ap (λ o. cond (key_eq q e.0) (Some e.1) o) (lookup_arranged es q)

-- all keys come after k
abbrev After : Key → List (Key × ℕ) → Type 0
After k [] = Unit {0}
After k (e ∷ es) = (key_cmp k e.0 ≡ Less) × After k es

-- each key comes before all that follow
abbrev Ordered : List (Key × ℕ) → Type 0
Ordered [] = Unit {0}
Ordered (e ∷ es) = After e.0 es × Ordered es

-- what comes after a later key
after_later : (k q : Key) (es : List (Key × ℕ)) → key_cmp k q ≡ Less → After q es → After k es
after_later k q [] h a = tt
after_later k q (e ∷ es) h a = (total.trans k q e.0 h a.0, after_later k q es h a.1)

-- an answer put in comes after k too
put_after : (x : Key) (es : List (Key × ℕ)) (k : Key) (d : ℕ) → After x es → key_cmp x k ≡ Less → After x (with_answer es k d)
put_after x [] k d a h = (h, tt)
put_after x (e ∷ es) k d a h = by (key_cmp k e.0) (put_after x es k d a.1 h)
  where
    by : (r : Ordering) → After x (with_answer es k d) → After x (match_ordering r ((k, d) ∷ e ∷ es) ((e.0, d) ∷ es) (e ∷ with_answer es k d))
    by Less go = (h, a)
    by Equal go = (a.0, a.1)
    by Greater go = (a.0, go)

-- answers in order stay so with one more put in
put_ordered : (es : List (Key × ℕ)) (k : Key) (d : ℕ) → Ordered es → Ordered (with_answer es k d)
put_ordered [] k d o = (tt, tt)
put_ordered (e ∷ es) k d o = by (key_cmp k e.0) refl (put_ordered es k d o.1)
  where
    by : (r : Ordering) → key_cmp k e.0 ≡ r → Ordered (with_answer es k d) → Ordered (match_ordering r ((k, d) ∷ e ∷ es) ((e.0, d) ∷ es) (e ∷ with_answer es k d))
    by Less h go = ((h, after_later k e.0 es h o.0), o)
    by Equal h go = (o.0, o.1)
    by Greater h go = (put_after e.0 es k d o.0 (reversed k e.0 h), go)

-- the answers in order are so
arranged_ordered : (es : List (Key × ℕ)) → Ordered (arranged es)
arranged_ordered [] = tt
arranged_ordered (e ∷ es) = put_ordered (arranged es) e.0 e.1 (arranged_ordered es)

-- a key before all others is not found
missing : (q : Key) (es : List (Key × ℕ)) → After q es → lookup (key_eq q) es ≡ None
missing q [] a = refl
missing q (e ∷ es) a = ap (λ b. cond b (Some e.1) (lookup (key_eq q) es)) (apart q e.0 a.0) ∙ missing q es a.1

-- what the first key finds
first_found : (e : Key × ℕ) (es : List (Key × ℕ)) → lookup (key_eq e.0) (e ∷ es) ≡ Some e.1
first_found e es = ap (λ b. cond b (Some e.1) (lookup (key_eq e.0) es)) (key_alike e.0)

-- two ordered lists in which the same is found are one
same_answers : (xs ys : List (Key × ℕ)) → Ordered xs → Ordered ys → ((q : Key) → lookup (key_eq q) xs ≡ lookup (key_eq q) ys) → xs ≡ ys
same_answers [] [] o p h = refl
same_answers [] (y ∷ ys) o p h = let e : None ≡ Some y.1 = h y.0 ∙ first_found y ys in cc
same_answers (x ∷ xs) [] o p h = let e : Some x.1 ≡ None = sym (first_found x xs) ∙ h x.0 in cc
same_answers (x ∷ xs) (y ∷ ys) o p h = by (key_cmp x.0 y.0) refl (same_answers xs ys o.1 p.1)
  where
    rest : x.0 ≡ y.0 → (q : Key) (b : Bool) → key_eq q x.0 ≡ b → lookup (key_eq q) xs ≡ lookup (key_eq q) ys
    rest s q true f =
        let e : q ≡ x.0 = key_same q x.0 f in
        missing q xs (subst (λ (k : Key). After k xs) (sym e) o.0) ∙ sym (missing q ys (subst (λ (k : Key). After k ys) (sym (e ∙ s)) p.0))
    rest s q false f =
        sym (ap (λ b. cond b (Some x.1) (lookup (key_eq q) xs)) f) ∙ h q
        ∙ ap (λ b. cond b (Some y.1) (lookup (key_eq q) ys)) (ap (λ (k : Key). key_eq q k) (sym s) ∙ f)

    by : (r : Ordering) → key_cmp x.0 y.0 ≡ r → (((q : Key) → lookup (key_eq q) xs ≡ lookup (key_eq q) ys) → xs ≡ ys) → x ∷ xs ≡ y ∷ ys
    by Less g go =
        let e : Some x.1 ≡ None = sym (first_found x xs) ∙ h x.0 ∙ missing x.0 (y ∷ ys) (g, after_later x.0 y.0 ys g p.0) in cc
    by Equal g go =
        let s : x.0 ≡ y.0 = exact x.0 y.0 g in
        let found : Some x.1 ≡ Some y.1 = sym (first_found x xs) ∙ h x.0 ∙ ap (λ (k : Key). lookup (key_eq k) (y ∷ ys)) s ∙ first_found y ys in
        let v : x.1 ≡ y.1 = cc in
        let tail : xs ≡ ys = go (λ q. rest s q (key_eq q x.0) refl) in
        λ i. (s i, v i) ∷ tail i
    by Greater g go =
        let less : key_cmp y.0 x.0 ≡ Less = reversed x.0 y.0 g in
        let e : None ≡ Some y.1 = sym (missing y.0 (x ∷ xs) (less, after_later y.0 x.0 xs less o.0)) ∙ h y.0 ∙ first_found y ys in cc

-- answers that are found as those with one more put in are those in order
pub arranged_put : (old new : List (Key × ℕ)) (k : Key) (d : ℕ) → ((q : Key) → lookup (key_eq q) new ≡ cond (key_eq k q) (Some d) (lookup (key_eq q) old)) →
    arranged new ≡ with_answer (arranged old) k d
arranged_put old new k d h = same_answers (arranged new) (with_answer (arranged old) k d) (arranged_ordered new) (put_ordered (arranged old) k d (arranged_ordered old))
    (λ q. lookup_arranged new q ∙ h q ∙ ap (λ o. cond (key_eq k q) (Some d) o) (sym (lookup_arranged old q)) ∙ sym (lookup_put (arranged old) k d q))

-- and what is found among them is found so
pub found_arranged : (old new : List (Key × ℕ)) (k : Key) (d : ℕ) → ((q : Key) → lookup (key_eq q) new ≡ cond (key_eq k q) (Some d) (lookup (key_eq q) old)) →
    (q : Key) → lookup (key_eq q) (arranged new) ≡ cond (key_eq k q) (Some d) (lookup (key_eq q) (arranged old))
found_arranged old new k d h q = lookup_arranged new q ∙ h q ∙ ap (λ o. cond (key_eq k q) (Some d) o) (sym (lookup_arranged old q))
