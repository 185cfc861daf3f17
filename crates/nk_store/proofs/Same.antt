-- Two numbers that give each packet the same leaf are one.
use Rattle.std.proofs.Common.{◌≡◌, ℕ, zero, suc, ◌+◌, ◌<◌, ◌≤◌, true, false, leb, List, [], ◌∷◌, length, refl, sym, ◌∙◌, ap, subst, arith, get_or, set, replicate, get_or-set_other, get_or-set_same, ◌⊎◌, inl, inr}
use Rattle.std.proofs.lemmas.Bool.Decides.{nat_tests, eqb_tells, leb_tells}
use Rattle.std.proofs.lemmas.List.{length-set, length-replicate, get_or-replicate, get_or_past}
use Rattle.nk_store.specs.declared.node.Node.{Node}
use Rattle.nk_store.specs.declared.node.Node.TheVariants.{Leaf, Case}
use Rattle.nk_store.specs.Nodes.{child_at, node_at, look_in, field_of_node, root_field_in, Rises, Differ, Joined, Sound, InRange}
use Rattle.nk_store.proofs.Looks.{node_at-old, node_at-new, look_leaf, look_case, look_same, fits_at, child_later, joined_some, each_child}

-- the first part's child, at a value up to its end
pub child-first : (d : ℕ) (p : ℕ × ℕ) (ps : List (ℕ × ℕ)) (v : ℕ) → v ≤ p.0 → child_at d (p ∷ ps) v ≡ p.1
child-first d p ps v h = let e : leb v p.0 ≡ true = grind (arith, nat_tests) in rw e refl

-- at a value past the first part's end, the rest decides
pub child-rest : (d : ℕ) (p : ℕ × ℕ) (ps : List (ℕ × ℕ)) (v : ℕ) → p.0 < v →
    child_at d (p ∷ ps) v ≡ child_at p.1 ps v
child-rest d p ps v h = let e : leb v p.0 ≡ false = grind (arith, nat_tests) in rw e refl

-- a value within its field's range keeps a packet in range
pub set_in_range : (maxes pk : List ℕ) (f v : ℕ) → InRange maxes pk → v ≤ get_or maxes f 0 →
    InRange maxes (set pk f v)
set_in_range maxes pk f v r h = (
  length-set pk f v ∙ r.0,
  λ k. elim (eqb_tells k f) [
    | inl same ↦ elim (leb_tells (length pk) f) [
      | inl past ↦ subst (λ z. z ≤ get_or maxes k 0) (sym (get_or_past (set pk f v) k 0 (omega (arith, length-set pk f v, past.1, same.1)))) (omega arith)
      | inr within ↦ subst (λ j. get_or (set pk f v) j 0 ≤ get_or maxes j 0) (sym same.1) (subst (λ z. z ≤ get_or maxes f 0) (sym (get_or-set_same pk f v 0 within.1)) h)
    ]
    | inr other ↦ subst (λ z. z ≤ get_or maxes k 0) (sym (get_or-set_other pk f k v 0 other.1)) (r.1 k)
  ],
)

-- the packet of zeros is in range
pub zero_in_range : (maxes : List ℕ) → InRange maxes (replicate 18 0)
zero_in_range maxes = (
  length-replicate {A = ℕ} 18 0,
  λ k. elim (leb_tells 18 k) [
    | inl past ↦ subst (λ z. z ≤ get_or maxes k 0) (sym (get_or_past (replicate 18 0) k 0 past.1)) (omega arith)
    | inr within ↦ subst (λ z. z ≤ get_or maxes k 0) (sym (get_or-replicate 18 k 0 0 within.1)) (omega arith)
  ],
)

-- one of two numbers is less, or they are equal
order : (a b : ℕ) → (a < b) ⊎ ((b < a) ⊎ (a ≡ b))
order a b = elim (leb_tells a b) [
  | inl le ↦ elim (eqb_tells a b) [ inl same ↦ inr (inr same.1) | inr other ↦ inl (omega (arith, le.1, other.1)) ]
  | inr gt ↦ inr (inl gt.1)
]

-- pairs of equal parts are equal
same_pair : (p q : ℕ × ℕ) → p.0 ≡ q.0 → p.1 ≡ q.1 → p ≡ q
same_pair p q a b =
    let e : (p.0, p.1) ≡ (q.0, p.1) = ap (λ x. (x, p.1)) a in
    let k : (q.0, p.1) ≡ (q.0, q.1) = ap (λ y. (q.0, y)) b in
    e ∙ k

-- where the second list's first part ends later, the value after the first's end tells them apart
longer : (high : ℕ) (d e : ℕ) (p q : ℕ × ℕ) (ps qs : List (ℕ × ℕ)) → Rises high (p.0 + 1) ps → Differ p.1 ps →
    p.1 ≡ q.1 → p.0 < q.0 → q.0 ≤ high →
    ((v : ℕ) → p.0 < v → v ≤ high → child_at d (p ∷ ps) v ≡ child_at e (q ∷ qs) v) → ⊥
longer high d e p q [] qs a x same less most h = omega arith
longer high d e p q (r ∷ ps) qs a x same less most h =
    let v = p.0 + 1 in
    x.0 (sym (child-first p.1 r ps v a.0) ∙ sym (child-rest d p (r ∷ ps) v (omega arith)) ∙ h v (omega arith) (omega arith) ∙ child-first e q qs v (omega arith) ∙ sym same)

-- two lists of parts, from low on, with the same child at each value are one
pub same_parts : (high low d e : ℕ) (ps qs : List (ℕ × ℕ)) → Rises high low ps → Rises high low qs →
    Differ d ps → Differ e qs → ((v : ℕ) → low ≤ v → v ≤ high → child_at d ps v ≡ child_at e qs v) → ps ≡ qs
same_parts high low d e [] [] a b x y h = refl
same_parts high low d e [] (q ∷ qs) a b x y h = absurd (omega (arith, a, b.0, b.1))
same_parts high low d e (p ∷ ps) [] a b x y h = absurd (omega (arith, b, a.0, a.1))
same_parts high low d e (p ∷ ps) (q ∷ qs) a b x y h =
    let first : p.1 ≡ q.1 = sym (child-first d p ps low a.0) ∙ h low (omega arith) (omega (arith, a.0, a.1)) ∙ child-first e q qs low b.0 in
    elim (order p.0 q.0) [
      | inl less ↦ absurd (longer high d e p q ps qs a.2 x.1 first less (omega (arith, b.1)) (λ v k l. h v (omega (arith, a.0)) l))
      | inr (inl more) ↦ absurd (longer high e d q p qs ps b.2 y.1 (sym first) more (omega (arith, a.1)) (λ v k l. sym (h v (omega (arith, b.0)) l)))
      | inr (inr same) ↦
          let rest = same_parts high (p.0 + 1) p.1 q.1 ps qs a.2 (subst (λ w. Rises high (w + 1) qs) (sym same) b.2) x.1 y.1
          (λ v k l. sym (child-rest d p ps v (omega arith)) ∙ h v (omega (arith, a.0)) l ∙ child-rest e q qs v (omega arith)) in
          ap (λ r. r ∷ ps) (same_pair p q same first) ∙ ap (λ r. q ∷ r) rest
    ]

-- where there is a part, what comes before plays no part
unstart : (p : ℕ × ℕ) (ps : List (ℕ × ℕ)) (v d : ℕ) → child_at d (p ∷ ps) v ≡ child_at 0 (p ∷ ps) v
unstart p ps v d = refl

-- two choices with the same child at each value have the same parts
parts_agree : (high : ℕ) (ps qs : List (ℕ × ℕ)) → Rises high 0 ps → Rises high 0 qs → Joined ps → Joined qs →
    ((v : ℕ) → v ≤ high → child_at 0 ps v ≡ child_at 0 qs v) → ps ≡ qs
parts_agree high [] qs a b x y h = absurd x
parts_agree high (p ∷ ps) [] a b x y h = absurd y
parts_agree high (p ∷ ps) (q ∷ qs) a b x y h =
    same_parts high 0 (p.1 + 1) (q.1 + 1) (p ∷ ps) (q ∷ qs) a b (λ e. omega arith, x.1) (λ e. omega arith, y.1)
    (λ v k l. unstart p ps v (p.1 + 1) ∙ h v l ∙ sym (unstart q qs v (q.1 + 1)))

-- a choice whose children all give what one function gives would have two equal neighbours
pub no_choice : (high f : ℕ) (ps : List (ℕ × ℕ)) → (Alike : ℕ → ℕ → Type 0) →
    ((c k : ℕ) → Alike c k → c ≡ k) → Rises high 0 ps → Joined ps →
    ((v w : ℕ) → v ≤ high → w ≤ high → Alike (child_at 0 ps v) (child_at 0 ps w)) → ⊥
no_choice high f [] A same a j h = j
no_choice high f (p ∷ []) A same a j h = omega (arith, j.0)
no_choice high f (p ∷ q ∷ ps) A same a j h =
    let v = p.0 + 1 in
    let second : child_at 0 (p ∷ q ∷ ps) v ≡ q.1 = child-rest 0 p (q ∷ ps) v (omega arith) ∙ child-first p.1 q ps v a.2.0 in
    let first : child_at 0 (p ∷ q ∷ ps) 0 ≡ p.1 = child-first 0 p (q ∷ ps) 0 (omega arith) in
    j.1.0 (sym second ∙ same _ _ (h v 0 (omega (arith, a.2.0, a.2.1)) (omega arith)) ∙ first)

-- what the two numbers give each packet in range is equal
abbrev pub AgreeIn : List ℕ → List Node → ℕ → ℕ → Type 0
AgreeIn maxes ns i j = (pk : List ℕ) → InRange maxes pk → look_in ns i pk ≡ look_in ns j pk

-- at a packet whose field f has a value, a choice gives what the child for that value gives
pub look_child : (maxes : List ℕ) (ns : List Node) (i f v : ℕ) (ps : List (ℕ × ℕ)) (pk : List ℕ) →
    Sound maxes ns → i < length ns → node_at ns i ≡ Case f ps → length pk ≡ 18 →
    look_in ns i (set pk f v) ≡ look_in ns (child_at 0 ps v) pk
look_child maxes ns i f v ps pk s h e l =
    let fits = (fits_at maxes ns i f ps s h e).0 in
    let later = child_later maxes ns f ps v fits in
    let f_in : f < length pk = omega (arith, fits.0, l) in
    look_case maxes ns i f ps (set pk f v) s h e
    ∙ ap (λ w. look_in ns (child_at 0 ps w) (set pk f v)) (get_or-set_same pk f v 0 f_in)
    ∙ look_same maxes ns (child_at 0 ps v) f v pk s later.0 later.1

-- a choice by f does not give the same as a number that does not depend on f
pub choice_depends : (maxes : List ℕ) (ns : List Node) (i j f : ℕ) (ps : List (ℕ × ℕ)) → Sound maxes ns →
    ((c k : ℕ) → c < i → k < i → AgreeIn maxes ns c k → c ≡ k) → i < length ns → j < length ns →
    node_at ns i ≡ Case f ps → f < root_field_in ns j → AgreeIn maxes ns i j → ⊥
choice_depends maxes ns i j f ps s ih h k e t agree =
    let both = fits_at maxes ns i f ps s h e in
    let some = joined_some ps both.0.3 in
    no_choice (get_or maxes f 0) f ps (λ c d. (c < i) × (d < i) × AgreeIn maxes ns c d) (λ c d a. ih c d a.0 a.1 a.2) both.0.1 both.0.3
    (λ v w l m. (
      each_child (λ c. c < i) 0 ps v some both.1,
      each_child (λ c. c < i) 0 ps w some both.1,
      λ pk r. sym (look_child maxes ns i f v ps pk s h e r.0)
          ∙ agree (set pk f v) (set_in_range maxes pk f v r l) ∙ look_same maxes ns j f v pk s k t
          ∙ sym (look_same maxes ns j f w pk s k t) ∙ sym (agree (set pk f w) (set_in_range maxes pk f w r m))
          ∙ look_child maxes ns i f w ps pk s h e r.0,
    ))

-- two choices by one field that agree have the same parts
pub choices_agree : (maxes : List ℕ) (ns : List Node) (i j f : ℕ) (ps qs : List (ℕ × ℕ)) → Sound maxes ns →
    ((c k : ℕ) → c < i → k < j → AgreeIn maxes ns c k → c ≡ k) → i < length ns → j < length ns →
    node_at ns i ≡ Case f ps → node_at ns j ≡ Case f qs → AgreeIn maxes ns i j → ps ≡ qs
choices_agree maxes ns i j f ps qs s ih h k e e' agree =
    let a = fits_at maxes ns i f ps s h e in
    let b = fits_at maxes ns j f qs s k e' in
    parts_agree (get_or maxes f 0) ps qs a.0.1 b.0.1 a.0.3 b.0.3
    (λ v l. ih (child_at 0 ps v) (child_at 0 qs v) (each_child (λ c. c < i) 0 ps v (joined_some ps a.0.3) a.1) (each_child (λ c. c < j) 0 qs v (joined_some qs b.0.3) b.1)
    (λ pk r. sym (look_child maxes ns i f v ps pk s h e r.0) ∙ agree (set pk f v) (set_in_range maxes pk f v r l) ∙ look_child maxes ns j f v qs pk s k e' r.0))

-- no node stands twice
pub node_once : (maxes : List ℕ) (ns : List Node) (i j : ℕ) → Sound maxes ns → i < length ns → j < length ns →
    node_at ns i ≡ node_at ns j → i ≡ j
node_once maxes [] i j s h k e = absurd (omega arith)
node_once maxes (n ∷ older) i j s h k e =
    elim (eqb_tells i (length older)) [
      | inl a ↦ elim (eqb_tells j (length older)) [
        | inl b ↦ a.1 ∙ sym b.1
        | inr b ↦
            let below : j < length older = omega (arith, b.1) in
            absurd (s.1 j below (sym (node_at-old n older j below) ∙ sym e ∙ ap (λ x. node_at (n ∷ older) x) a.1 ∙ node_at-new n older))
      ]
      | inr a ↦
          let under : i < length older = omega (arith, a.1) in
          elim (eqb_tells j (length older)) [
            | inl b ↦ absurd (s.1 i under (sym (node_at-old n older i under) ∙ e ∙ ap (λ x. node_at (n ∷ older) x) b.1 ∙ node_at-new n older))
            | inr b ↦
                let below : j < length older = omega (arith, b.1) in
                node_once maxes older i j s.2 under below (sym (node_at-old n older i under) ∙ e ∙ node_at-old n older j below)
          ]
    ]

-- two numbers that agree are one, if those of smaller numbers that agree are
same_by_nodes : (maxes : List ℕ) (ns : List Node) (i j : ℕ) (a b : Node) → Sound maxes ns →
    ((c k : ℕ) → c < i → k < i → AgreeIn maxes ns c k → c ≡ k) →
    ((c k : ℕ) → c < j → k < j → AgreeIn maxes ns c k → c ≡ k) →
    ((c k : ℕ) → c < i → k < j → AgreeIn maxes ns c k → c ≡ k) → i < length ns → j < length ns →
    node_at ns i ≡ a → node_at ns j ≡ b → AgreeIn maxes ns i j → i ≡ j
same_by_nodes maxes ns i j (Leaf a) (Leaf b) s ih jh both h k e d agree =
    let z = replicate 18 0 in
    let same : a ≡ b = sym (look_leaf ns i a z h e) ∙ agree z (zero_in_range maxes) ∙ look_leaf ns j b z k d in
    node_once maxes ns i j s h k (e ∙ ap (λ x. Leaf x) same ∙ sym d)
same_by_nodes maxes ns i j (Leaf a) (Case g qs) s ih jh both h k e d agree =
    let t : g < root_field_in ns i = subst (λ n. g < field_of_node n) (sym e) (fits_at maxes ns j g qs s k d).0.0 in
    absurd (choice_depends maxes ns j i g qs s jh k h d t (λ pk r. sym (agree pk r)))
same_by_nodes maxes ns i j (Case f ps) (Leaf b) s ih jh both h k e d agree =
    let t : f < root_field_in ns j = subst (λ n. f < field_of_node n) (sym d) (fits_at maxes ns i f ps s h e).0.0 in
    absurd (choice_depends maxes ns i j f ps s ih h k e t agree)
same_by_nodes maxes ns i j (Case f ps) (Case g qs) s ih jh both h k e d agree =
    elim (order f g) [
      | inl less ↦ absurd (choice_depends maxes ns i j f ps s ih h k e (subst (λ n. f < field_of_node n) (sym d) less) agree)
      | inr (inl more) ↦ absurd (choice_depends maxes ns j i g qs s jh k h d (subst (λ n. g < field_of_node n) (sym e) more) (λ pk r. sym (agree pk r)))
      | inr (inr same) ↦
          let parts : ps ≡ qs = choices_agree maxes ns i j f ps qs s both h k e (subst (λ x. node_at ns j ≡ Case x qs) (sym same) d) agree in
          node_once maxes ns i j s h k (e ∙ ap (λ x. Case f x) parts ∙ ap (λ x. Case x qs) same ∙ sym d)
    ]

-- two numbers below m that agree are one
same_below : (m : ℕ) (maxes : List ℕ) (ns : List Node) (i j : ℕ) → Sound maxes ns → i < m → j < m →
    i < length ns → j < length ns → AgreeIn maxes ns i j → i ≡ j
same_below zero maxes ns i j s a b h k agree = absurd (omega arith)
same_below (suc m) maxes ns i j s a b h k agree =
    same_by_nodes maxes ns i j (node_at ns i) (node_at ns j) s
    (λ c d x y. same_below m maxes ns c d s (omega arith) (omega arith) (omega arith) (omega arith))
    (λ c d x y. same_below m maxes ns c d s (omega arith) (omega arith) (omega arith) (omega arith))
    (λ c d x y. same_below m maxes ns c d s (omega arith) (omega arith) (omega arith) (omega arith))
    h k refl refl agree

-- two numbers that give each packet in range the same leaf are one
pub same_number : (maxes : List ℕ) (ns : List Node) (i j : ℕ) → Sound maxes ns → i < length ns →
    j < length ns → AgreeIn maxes ns i j → i ≡ j
same_number maxes ns i j s h k agree = same_below (length ns) maxes ns i j s h k h k agree

-- a number that gives the same leaf whatever the value of f does not test f first
pub tests_not : (maxes : List ℕ) (ns : List Node) (i f : ℕ) (ps : List (ℕ × ℕ)) → Sound maxes ns →
    i < length ns → node_at ns i ≡ Case f ps →
    ((v : ℕ) (pk : List ℕ) → length pk ≡ 18 → look_in ns i (set pk f v) ≡ look_in ns i pk) → ⊥
tests_not maxes ns i f ps s h e still =
    let both = fits_at maxes ns i f ps s h e in
    let some = joined_some ps both.0.3 in
    no_choice (get_or maxes f 0) f ps (λ c d. (c < i) × (d < i) × AgreeIn maxes ns c d) (λ c d a. same_number maxes ns c d s (omega (arith, a.0)) (omega (arith, a.1)) a.2) both.0.1 both.0.3
    (λ v w l m. (
      each_child (λ c. c < i) 0 ps v some both.1,
      each_child (λ c. c < i) 0 ps w some both.1,
      λ pk r. sym (look_child maxes ns i f v ps pk s h e r.0) ∙ still v pk r.0 ∙ sym (still w pk r.0) ∙ look_child maxes ns i f w ps pk s h e r.0,
    ))
