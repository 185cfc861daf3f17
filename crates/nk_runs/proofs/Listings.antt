-- What is decided: parts of what is decided, some element of a list, all numbers with a decided and bounded property, and what a diagram sends.
use Rattle.std.specs.Prelude.{Contains}
use Rattle.std.proofs.Common.{◌≡◌, ℕ, zero, suc, ◌+◌, ◌<◌, ◌≤◌, ◌⊎◌, inl, inr, ⊎_elim, List, [], ◌∷◌, refl, sym, ap, subst, ◌∙◌, arith}
use Rattle.nk_field.specs.Act.{applied}
use Rattle.nk_field.proofs.Lists.{In, in_from_contains, contains_from_in, Decided, numbers_decided, lists_decided}
use Rattle.nk_field.proofs.Ascending.{Rising, increasing_from}
use Rattle.nk_policy.specs.Labels.{HasExactly}
use Rattle.nk_store.specs.declared.node.Out.{Out}
use Rattle.nk_store.specs.StoreState.{StoreState, look}
use Rattle.nk_determ.specs.Exact.{Sends}

-- both, either and an equivalent of what is decided are decided
pub both_decided : {P Q : Type 0} → Decided P → Decided Q → Decided (P × Q)
both_decided (inl p) (inl q) = inl (p, q)
both_decided (inl p) (inr other) = inr (λ h. other h.1)
both_decided (inr other) d = inr (λ h. other h.0)

pub either_decided : {P Q : Type 0} → Decided P → Decided Q → Decided (P ⊎ Q)
either_decided (inl p) d = inl (inl p)
either_decided (inr other) (inl q) = inl (inr q)
either_decided (inr other) (inr not) = inr (λ h. ⊎_elim (λ p. other p) (λ q. not q) h)

pub decided_for : {P Q : Type 0} → (P → Q) → (Q → P) → Decided P → Decided Q
decided_for f g (inl p) = inl (f p)
decided_for f g (inr other) = inr (λ q. other (g q))

pub above_zero : (l : ℕ) → Decided (0 < l)
above_zero zero = inr (λ lt. omega (arith, lt))
above_zero (suc l) = inl (omega arith)

-- a list that can't but be empty is empty
pub empty_from : {X : Type 0} (xs : List X) → ((xs ≡ [] → ⊥) → ⊥) → xs ≡ []
empty_from [] h = refl
empty_from (x ∷ xs) h = absurd (h (λ e. cc))

-- a list that isn't empty has a first element
pub first_of_some : {X : Type 0} (xs : List X) → (xs ≡ [] → ⊥) → (x : X) × Contains xs x
first_of_some [] h = absurd (h refl)
first_of_some (x ∷ xs) h = (x, contains_from_in (x ∷ xs) x (inl refl))

-- what is at least a number is that number or above it
equal_or_above : (a b : ℕ) → a ≤ b → (a ≡ b) ⊎ (suc a ≤ b)
equal_or_above zero zero le = inl refl
equal_or_above zero (suc b) le = inr (omega arith)
equal_or_above (suc a) zero le = absurd (omega (arith, le))
equal_or_above (suc a) (suc b) le =
    let less : a ≤ b = omega (arith, le) in
    ⊎_elim (λ e. inl (ap suc e)) (λ m. inr (omega (arith, m))) (equal_or_above a b less)

-- the numbers with the property, of i from j on
record Listed (P : ℕ → Type 0) (i j : ℕ) : Type 0 where
  all : List ℕ
  rises : Rising all
  only : (l : ℕ) → In all l → P l × (j ≤ l)
  each : (l : ℕ) → P l → j ≤ l → l < j + i → In all l

module _ (P : ℕ → Type 0) (d : (l : ℕ) → Decided (P l)) where
  listed : (i j : ℕ) → Listed P i j
  listed zero j = record {
    all = [];
    rises = tt;
    only = λ l k. absurd k;
    each = λ l p le lt. absurd (omega (arith, le, lt));
  }
  listed (suc i) j = with_one (listed i (suc j)) (d j)
    where
      with_one : Listed P i (suc j) → Decided (P j) → Listed P (suc i) j
      with_one r (inl here) = record {
        all = j ∷ r.all;
        rises = ((λ y k. let b = (r.only y k).1 in omega (arith, b)), r.rises);
        only = λ l k.
            ⊎_elim
            (λ e. (subst P (sym e) here, omega (arith, e)))
            (λ s. let b = r.only l s in (b.0, omega (arith, b.1)))
            k;
        each = λ l p le lt.
            ⊎_elim
            (λ e. inl (sym e))
            (λ more. inr (r.each l p more (omega (arith, lt))))
            (equal_or_above j l le);
      }
      with_one r (inr other) = record {
        all = r.all;
        rises = r.rises;
        only = λ l k. let b = r.only l k in (b.0, omega (arith, b.1));
        each = λ l p le lt.
            ⊎_elim
            (λ e. absurd (other (subst P (sym e) p)))
            (λ more. r.each l p more (omega (arith, lt)))
            (equal_or_above j l le);
      }

  -- all of them
  pub all_listed : (most : ℕ) → ((l : ℕ) → P l → l < most) → (s : List ℕ) × HasExactly P s
  all_listed most below =
      let r = listed most 0 in (
        r.all,
        (
          increasing_from r.all r.rises,
          λ l. (
            λ c. (r.only l (in_from_contains r.all l c)).0,
            λ p.
                let le : 0 ≤ l = omega arith in
                let lt : l < 0 + most = omega (arith, below l p) in
                contains_from_in r.all l (r.each l p le lt),
          ),
        ),
      )

  -- whether some member has the property
  pub some_decided : (xs : List ℕ) → Decided ((l : ℕ) × In xs l × P l)
  some_decided [] = inr (λ h. h.1)
  some_decided (x ∷ xs) = by (d x) (some_decided xs)
    where
      by : Decided (P x) → Decided ((l : ℕ) × In xs l × P l) → Decided ((l : ℕ) × In (x ∷ xs) l × P l)
      by (inl here) rest = inl (x, inl refl, here)
      by (inr other) (inl r) = inl (r.0, inr r.1, r.2)
      by (inr other) (inr none) = inr (λ h. ⊎_elim (λ e. other (subst P e h.2)) (λ i. none (h.0, i, h.2)) h.1)

-- an out to the target makes y of the packet
abbrev SomeOut : List ℕ → List ℕ → ℕ → List Out → Type 0
SomeOut pk y t outs = (g : List (ℕ × ℕ)) × In outs (record { act = g; target = t }) × (y ≡ applied g pk)

outs_decided : (pk y : List ℕ) (t : ℕ) (outs : List Out) → Decided (SomeOut pk y t outs)
outs_decided pk y t [] = inr (λ h. h.1)
outs_decided pk y t (o ∷ os) =
    by (numbers_decided t o.target) (lists_decided numbers_decided y (applied o.act pk)) (outs_decided pk y t os)
  where
    later : (SomeOut pk y t os → ⊥) → ((t ≡ o.target) → y ≡ applied o.act pk → ⊥) → SomeOut pk y t (o ∷ os) → ⊥
    later none here h =
        ⊎_elim
        (λ e.
        let act_is : h.0 ≡ o.act = ap (λ (z : Out). z.act) e in
        let target_is : t ≡ o.target = ap (λ (z : Out). z.target) e in
        here target_is (h.2 ∙ ap (λ g. applied g pk) act_is))
        (λ i. none (h.0, i, h.2))
        h.1

    by : Decided (t ≡ o.target) → Decided (y ≡ applied o.act pk) → Decided (SomeOut pk y t os)
        → Decided (SomeOut pk y t (o ∷ os))
    by a b (inl r) = inl (r.0, inr r.1, r.2)
    by (inl e) (inl f) (inr none) = inl (o.act, inl (ap (λ n. record { act = o.act; target = n }) e), f)
    by (inl e) (inr other) (inr none) = inr (later none (λ _ g. other g))
    by (inr other) b (inr none) = inr (later none (λ g _. other g))

-- whether a diagram sends a packet, made y, to a target
pub sends_decided : (st : StoreState) (d : ℕ) (pk y : List ℕ) (t : ℕ) → Decided (Sends st d pk y t)
sends_decided st d pk y t =
    ⊎_elim
    (λ h. inl (h.0, contains_from_in (look st d pk) (record { act = h.0; target = t }) h.1, h.2))
    (λ no. inr (λ h. no (h.0, in_from_contains (look st d pk) (record { act = h.0; target = t }) h.1, h.2)))
    (outs_decided pk y t (look st d pk))
