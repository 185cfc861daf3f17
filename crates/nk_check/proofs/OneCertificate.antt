-- Two policies have at most one printed certificate.
use Rattle.std.proofs.Common.{◌≡◌, ℕ, ◌≤◌, inl, inr, ⊎_elim, List, [], ◌∷◌, ◌++◌, length, refl, sym, ap, subst, ◌∙◌, arith}
use Rattle.std.specs.Prelude.{AllPairs}
use Rattle.nk_field.specs.Packet.{FieldTable, IsPacket}
use Rattle.nk_field.specs.Order.{IsListedBefore}
use Rattle.nk_field.proofs.Lists.{In, in_from_contains, contains_from_in}
use Rattle.nk_field.proofs.Ascending.{first_before, rest_in_order}
use Rattle.nk_policy.specs.Policy.{Policy}
use Rattle.nk_policy.proofs.PositionSteps.{one_set}
use Rattle.nk_store.specs.declared.node.Out.{Out}
use Rattle.nk_store.specs.Diagram.{leaf_at}
use Rattle.nk_apply.specs.Predicates.{IsPass}
use Rattle.nk_sets.specs.Predicate.{predicate_of}
use Rattle.nk_cert.specs.Together.{IsAtEither}
use Rattle.nk_cert.specs.Certificates.{RowValue, CertificateValue}
use Rattle.nk_cert.specs.Printed.{IsPredicateOf, IsShortestUnder, IsRowBefore, IsPrinted}
use Rattle.nk_cert.proofs.Levels.{first_of_some}
use Rattle.nk_check.proofs.OneTree.{three, one_tree}

-- of two lists at most one comes before the other
listed_once : (xs ys : List ℕ) → IsListedBefore xs ys → IsListedBefore ys xs → ⊥
listed_once [] [] h k = h
listed_once [] (y ∷ ys) h k = k
listed_once (x ∷ xs) [] h k = h
listed_once (x ∷ xs) (y ∷ ys) h k =
    ⊎_elim
    (λ a. ⊎_elim (λ b. omega (arith, a, b)) (λ b. omega (arith, a, b.0)) k)
    (λ a. ⊎_elim (λ b. omega (arith, a.0, b)) (λ b. listed_once xs ys a.1 b.1) k)
    h

-- lists in one order with the same members are one
same_sorted : {X : Type 0} (R : X → X → Type 0) → ((x y : X) → R x y → R y x → ⊥) → (xs ys : List X) → AllPairs R xs → AllPairs R ys
    → ((x : X) → In xs x → In ys x) → ((x : X) → In ys x → In xs x) → xs ≡ ys
same_sorted R once [] [] a b f g = refl
same_sorted R once [] (y ∷ ys) a b f g = absurd (g y (inl refl))
same_sorted R once (x ∷ xs) [] a b f g = absurd (f x (inl refl))
same_sorted R once (x ∷ xs) (y ∷ ys) a b f g =
    let head : x ≡ y =
    ⊎_elim
    (λ e. e)
    (λ i.
    ⊎_elim
    (λ e. sym e)
    (λ j. absurd (once x y (first_before R x xs a y j) (first_before R y ys b x i)))
    (g y (inl refl)))
    (f x (inl refl)) in
    let tail =
    same_sorted R once xs ys (rest_in_order R x xs a) (rest_in_order R y ys b)
    (λ z i.
    ⊎_elim
    (λ e. let r = subst (λ w. R x w) (e ∙ sym head) (first_before R x xs a z i) in absurd (once x x r r))
    (λ j. j)
    (f z (inr i)))
    (λ z i.
    ⊎_elim
    (λ e. let r = subst (λ w. R y w) (e ∙ head) (first_before R y ys b z i) in absurd (once y y r r))
    (λ j. j)
    (g z (inr i))) in
    ap (λ w. w ∷ xs) head ∙ ap (λ w. y ∷ w) tail

-- leaves of sets that are both empty or both not are the same
same_pass : (a b : List Out) → IsPass a → IsPass b → ((a ≡ [] → ⊥) → b ≡ [] → ⊥) → ((b ≡ [] → ⊥) → a ≡ [] → ⊥) → a ≡ b
same_pass [] [] h k f g = refl
same_pass [] (o ∷ os) h k f g = absurd (g (λ e. cc) refl)
same_pass (o ∷ os) [] h k f g = absurd (f (λ e. cc) refl)
same_pass (o ∷ os) (z ∷ zs) h k f g = ap (λ w. w ∷ os) (h.0 ∙ sym k.0) ∙ ap (λ w. z ∷ w) (h.1 ∙ sym k.1)

-- a row of these
abbrev row_with : List ℕ → Policy → RowValue
row_with positions predicate = record { positions = positions; predicate = predicate }

-- a certificate of these
abbrev certificate_with : Policy → List RowValue → CertificateValue
certificate_with start rows = record { start = start; rows = rows }

module _ (fields : FieldTable) (few : length fields.maxima ≤ 18) (p q : Policy) where
  -- the least number of records is one
  one_shortest : (labels : List ℕ) (m n : ℕ) → IsShortestUnder fields p q labels m → IsShortestUnder fields p q labels n → m ≡ n
  one_shortest labels m n h k =
      ⊎_elim
      (λ lt. let a = h.0 in absurd (k.1 a.0 a.1 a.3 (omega (arith, a.2, lt))))
      (λ rest.
      ⊎_elim
      (λ lt. let a = k.0 in absurd (h.1 a.0 a.1 a.3 (omega (arith, a.2, lt))))
      (λ e. e)
      rest)
      (three m n)

  -- of two rows at most one comes before the other
  before_once : (a b : RowValue) → IsRowBefore fields p q a b → IsRowBefore fields p q b a → ⊥
  before_once a b h k =
      let e = one_shortest a.positions h.0 k.1 h.2 k.3 in
      let f = one_shortest b.positions h.1 k.0 h.3 k.2 in
      ⊎_elim
      (λ lt. ⊎_elim (λ less. omega (arith, e, f, lt, less)) (λ s. omega (arith, e, f, lt, s.0)) k.4)
      (λ s. ⊎_elim (λ less. omega (arith, e, f, s.0, less)) (λ t. listed_once a.positions b.positions s.1 t.1) k.4)
      h.4

  -- the predicate of some numbers is one
  one_predicate : (labels : List ℕ) (a b : Policy) → IsPredicateOf fields p q labels a → IsPredicateOf fields p q labels b → a ≡ b
  one_predicate labels a b h k =
      let d = one_tree fields.maxima few [] h.0 k.0 h.1.reduced k.1.reduced (λ x ok.
      let good : IsPacket fields x = record { places = ok.0; within = ok.1 } in
      let m = h.1.packets x good in
      let n = k.1.packets x good in
      same_pass (leaf_at h.0 [] x) (leaf_at k.0 [] x) (h.1.passes x good) (k.1.passes x good) (λ s. n.1 (m.0 s)) (λ s. m.1 (n.0 s))) in
      h.2 ∙ ap predicate_of d ∙ sym k.2

  -- each row of one printed certificate is one of the other
  row_in_other : (c d : CertificateValue) → IsPrinted fields p q c → IsPrinted fields p q d → (r : RowValue) → In c.rows r → In d.rows r
  row_in_other c d h k r i =
      let here = contains_from_in c.rows r i in
      let m = h.each_is_met r here in
      let s = m.2 in
      let l = first_of_some r.positions s.2 in
      let w = k.each_has_row s.0 m.0 m.1 l.0 s.1 ((s.3.1 l.0).0 l.1) in
      let same : r.positions ≡ w.0.positions = one_set (IsAtEither p q s.0 (m.0 ++ m.1 ∷ [])) r.positions w.0.positions s.3 w.2 in
      let pred : r.predicate ≡ w.0.predicate =
      one_predicate w.0.positions r.predicate w.0.predicate
      (subst (λ z. IsPredicateOf fields p q z r.predicate) same (h.predicates r here))
      (k.predicates w.0 w.1) in
      let is : r ≡ w.0 = ap (λ z. row_with z r.predicate) same ∙ ap (λ z. row_with w.0.positions z) pred in
      subst (λ z. In d.rows z) (sym is) (in_from_contains d.rows w.0 w.1)

  pub one_printed : (c d : CertificateValue) → IsPrinted fields p q c → IsPrinted fields p q d → c ≡ d
  one_printed c d h k =
      let rows =
      same_sorted (IsRowBefore fields p q) before_once c.rows d.rows h.in_order k.in_order
      (λ r i. row_in_other c d h k r i)
      (λ r i. row_in_other d c k h r i) in
      ap (λ z. certificate_with z c.rows) (h.start ∙ sym k.start) ∙ ap (λ z. certificate_with d.start z) rows
