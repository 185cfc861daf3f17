-- Legs put after others, each with a free policy before it.
use Rattle.std.proofs.Common.{◌≡◌, ℕ, ◌+◌, ◌<◌, ◌≤◌, true, ◌⊎◌, inl, inr, ⊎_elim, ◌↔◌, List, [], ◌∷◌, ◌++◌, All, length, get_or, take, refl, sym, ap, subst, ◌∙◌}
use Rattle.std.proofs.lemmas.List.{take_more, take_all, take_at}
use Rattle.std.proofs.lemmas.List.Elements.{All-push, All-take, All-same, All-contains, Contains-push}
use Rattle.nk_field.specs.declared.packet.Packet.{Packet}
use Rattle.nk_policy.specs.declared.policy.Pol.{Pol}
use Rattle.nk_policy.specs.Policy.{Policy}
use Rattle.nk_policy.specs.Tree.{tree_of}
use Rattle.nk_policy.specs.Meaning.{Gives}
use Rattle.nk_deriv.specs.Part.{IsLegOf, LegsGive}
use Rattle.nk_deriv.specs.Turns.{is_drop, IsTurn, ArePutAfter}
use Rattle.nk_deriv.proofs.Steps.{drop_ends}

-- legs in two pieces
pub legs_joined : (xs ys : List (Pol × ℕ)) (pk y : Packet) (l : ℕ)
    → LegsGive (xs ++ ys) pk y l ↔ (LegsGive xs pk y l ⊎ LegsGive ys pk y l)
legs_joined [] ys pk y l = (λ g. inr g, λ g. ⊎_elim (λ a. absurd a) (λ b. b) g)
legs_joined (x ∷ xs) ys pk y l = (
  λ g.
      ⊎_elim
      (λ a. inl (inl a))
      (λ b. ⊎_elim (λ c. inl (inr c)) (λ c. inr c) ((legs_joined xs ys pk y l).0 b))
      g,
  λ g.
      ⊎_elim
      (λ a. ⊎_elim (λ c. inl c) (λ c. inr ((legs_joined xs ys pk y l).1 (inl c))) a)
      (λ b. inr ((legs_joined xs ys pk y l).1 (inr b)))
      g,
)

-- one more leg
pub legs_push : (xs : List (Pol × ℕ)) (leg : Pol × ℕ) (pk y : Packet) (l : ℕ)
    → LegsGive (xs ++ leg ∷ []) pk y l
    ↔ (LegsGive xs pk y l ⊎ ((leg.1 ≡ l) × Gives (tree_of leg.0) pk [] y))
legs_push xs leg pk y l = (
  λ g.
      ⊎_elim
      (λ a. inl a)
      (λ b. ⊎_elim (λ c. inr c) (λ c. absurd c) b)
      ((legs_joined xs (leg ∷ []) pk y l).0 g),
  λ g. (legs_joined xs (leg ∷ []) pk y l).1 (⊎_elim (λ a. inl a) (λ b. inr (inl b)) g),
)

-- what holds of all legs with one more holds of those before it
all_front : (s : Policy) (xs : List (Pol × ℕ)) (leg : Pol × ℕ) → All (IsLegOf s) (xs ++ leg ∷ []) → All (IsLegOf s) xs
all_front s xs leg h = All-same (IsLegOf s) xs (take (length xs) (xs ++ leg ∷ [])) (sym (take_at xs (leg ∷ []) (length xs) refl)) (All-take (IsLegOf s) (length xs) (xs ++ leg ∷ []) h)

-- and of that one
all_last : (s : Policy) (xs : List (Pol × ℕ)) (leg : Pol × ℕ) → All (IsLegOf s) (xs ++ leg ∷ []) → IsLegOf s leg
all_last s xs leg h = All-contains (IsLegOf s) (xs ++ leg ∷ []) leg h (Contains-push xs leg)

-- no leg is put after at first
pub after_none : (old : List (Pol × ℕ)) (free : Policy) → ArePutAfter old old free []
after_none old free = record {
  records = λ pk y l. (λ g. inl g, λ g. ⊎_elim (λ a. a) (λ b. absurd b.2) g);
  within = λ s o f r. o;
}

-- after a policy that drops each packet none is
pub after_drop : (old new : List (Pol × ℕ)) (free : Policy) (legs : List (Pol × ℕ)) → new ≡ old
    → is_drop free ≡ true → ArePutAfter old new free legs
after_drop old new free legs e h = record {
  records = λ pk y l. (
    λ g. inl (subst (λ r. LegsGive r pk y l) e g),
    λ g. ⊎_elim (λ a. subst (λ r. LegsGive r pk y l) (sym e) a) (λ b. absurd (drop_ends free h pk b.0 b.1)) g,
  );
  within = λ s o f r. subst (All (IsLegOf s)) (sym e) o;
}

-- the loop's fact, after one more leg
pub following_more : (old out new : List (Pol × ℕ)) (free : Policy) (legs : List (Pol × ℕ)) (i : ℕ)
    (leg : Pol × ℕ) (ways : Pol) → i < length legs → leg ≡ get_or legs i leg
    → IsTurn (tree_of ways) free (tree_of leg.0) → new ≡ out ++ (ways, leg.1) ∷ []
    → ArePutAfter old out free (take i legs) → ArePutAfter old new free (take (i + 1) legs)
following_more old out new free legs i leg ways lt is turn e inv =
    let more : take (i + 1) legs ≡ take i legs ++ leg ∷ [] =
    take_more legs i leg lt ∙ ap (λ r. take i legs ++ r ∷ []) (sym is) in
    let pushed : ArePutAfter old (out ++ (ways, leg.1) ∷ []) free (take i legs ++ leg ∷ []) = record {
      records = λ pk y l. (
        λ g.
            ⊎_elim
            (λ a.
            ⊎_elim
            (λ b. inl b)
            (λ b. inr (b.0, b.1, (legs_push (take i legs) leg b.0 y l).1 (inl b.2)))
            ((inv.records pk y l).0 a))
            (λ a.
            let t = (turn.ends pk y).0 a.1 in
            inr (t.0, t.1, (legs_push (take i legs) leg t.0 y l).1 (inr (a.0, t.2))))
            ((legs_push out (ways, leg.1) pk y l).0 g),
        λ g.
            (legs_push out (ways, leg.1) pk y l).1
            (⊎_elim
            (λ a. inl ((inv.records pk y l).1 (inl a)))
            (λ a.
            ⊎_elim
            (λ b. inl ((inv.records pk y l).1 (inr (a.0, a.1, b))))
            (λ b. inr (b.0, (turn.ends pk y).1 (a.0, a.1, b.1)))
            ((legs_push (take i legs) leg a.0 y l).0 a.2))
            g),
      );
      within = λ s o f r.
          let front : All (IsLegOf s) (take i legs) = all_front s (take i legs) leg r in
          let one : IsLegOf s leg = all_last s (take i legs) leg r in
          All-push (IsLegOf s) out (ways, leg.1) (inv.within s o f front) (turn.within s f one.0, one.1);
    } in
    subst (λ n. ArePutAfter old n free (take (i + 1) legs)) (sym e) (subst (λ r. ArePutAfter old (out ++ (ways, leg.1) ∷ []) free r) (sym more) pushed)

-- in the end all legs are put after
pub following_all : (old new : List (Pol × ℕ)) (free : Policy) (legs : List (Pol × ℕ)) (i : ℕ) → length legs ≤ i
    → ArePutAfter old new free (take i legs) → ArePutAfter old new free legs
following_all old new free legs i le inv = subst (λ r. ArePutAfter old new free r) (take_all i legs le) inv
