-- Sequences of policies, one after the other; sums with one more term; what is made of a policy.
use Rattle.std.proofs.Common.{◌≡◌, ℕ, Bool, true, ◌⊎◌, inl, inr, ⊎_elim, ◌↔◌, List, [], ◌∷◌, ◌++◌, ◌+◌, ◌<◌, length, get_or, take, append_assoc, arith, refl, sym, ap, subst, ◌∙◌}
use Rattle.nk_field.specs.declared.packet.Packet.{Packet}
use Rattle.nk_policy.specs.declared.policy.Pol.{Pol}
use Rattle.nk_policy.specs.Policy.{Policy, Policies, test, range, assign, sum_of, seq_of, not_of, star_of, dup, link, no_part, part}
use Rattle.nk_policy.specs.Tree.{tree_of, trees_of}
use Rattle.nk_policy.specs.Meaning.{Gives}
use Rattle.nk_policy.specs.After.{id_policy, drop_policy}
use Rattle.std.specs.Prelude.{◌==◌}
use Rattle.std.proofs.lemmas.List.{take_more}
use Rattle.nk_policy.specs.declared.policy.Pol.TheViews.{Sum}
use Rattle.nk_policy.specs.declared.policy.Pols.{Pols}
use Rattle.nk_policy.proofs.Trees.{joined, tree_of_sum}
use Rattle.nk_policy.proofs.Tests.{false_true}
use Rattle.nk_deriv.specs.Part.{IsBuiltOf}
use Rattle.nk_deriv.specs.Turns.{is_drop, steps_of, IsTurn, IsRounds, IsEither}
use Rattle.nk_deriv.proofs.Silent.{seq_ends, none_ends, no_rounds, star_none}

-- the trees of a list in two pieces
pub trees_joined : (xs ys : List Pol) → trees_of (xs ++ ys) ≡ joined (trees_of xs) (trees_of ys)
trees_joined [] ys = refl
trees_joined (x ∷ xs) ys = ap (part (tree_of x)) (trees_joined xs ys)

-- parts and then more parts in turn
pub joined_ends : (ps qs : Policies) (pk x : Packet)
    → Gives (seq_of (joined ps qs)) pk [] x ↔ ((z : Packet) × Gives (seq_of ps) pk [] z × Gives (seq_of qs) z [] x)
joined_ends no_part qs pk x = (
  λ g. (pk, (none_ends pk pk).1 refl, g),
  λ g. subst (λ z. Gives (seq_of qs) z [] x) ((none_ends pk g.0).0 g.1) g.2,
)
joined_ends (part p ps) qs pk x = (
  λ g.
      let s = (seq_ends p (joined ps qs) pk x).0 g in
      let t = (joined_ends ps qs s.0 x).0 s.2 in
      (t.0, (seq_ends p ps pk t.0).1 (s.0, s.1, t.1), t.2),
  λ g.
      let s = (seq_ends p ps pk g.0).0 g.1 in
      (seq_ends p (joined ps qs) pk x).1 (s.0, s.1, (joined_ends ps qs s.0 x).1 (g.0, s.2, g.2)),
)

-- one part alone
one_ends : (p : Policy) (pk x : Packet) → Gives (seq_of (part p no_part)) pk [] x ↔ Gives p pk [] x
one_ends p pk x = (
  λ g.
      let s = (seq_ends p no_part pk x).0 g in
      subst (λ z. Gives p pk [] z) (sym ((none_ends s.0 x).0 s.2)) s.1,
  λ g. (seq_ends p no_part pk x).1 (x, g, (none_ends x x).1 refl),
)

-- the steps of a policy in turn
pub steps_end : (p : Policy) (pk x : Packet) → Gives (seq_of (steps_of p)) pk [] x ↔ Gives p pk [] x
steps_end (test f n) pk x = one_ends (test f n) pk x
steps_end (range f lo hi) pk x = one_ends (range f lo hi) pk x
steps_end (assign f n) pk x = one_ends (assign f n) pk x
steps_end (sum_of ps) pk x = one_ends (sum_of ps) pk x
steps_end (seq_of ps) pk x = (λ g. g, λ g. g)
steps_end (not_of p) pk x = one_ends (not_of p) pk x
steps_end (star_of p) pk x = one_ends (star_of p) pk x
steps_end (dup l) pk x = one_ends (dup l) pk x
steps_end (link a m b n l) pk x = one_ends (link a m b n l) pk x

-- what is the empty sum
pub drop_is : (p : Policy) → is_drop p ≡ true → p ≡ drop_policy
drop_is (sum_of no_part) h = refl
drop_is p h = absurd (false_true h)

-- it gives nothing
pub drop_ends : (p : Policy) → is_drop p ≡ true → (pk x : Packet) → Gives p pk [] x → ⊥
drop_ends p h pk x g = subst (λ q. Gives q pk [] x) (drop_is p h) g

-- the empty sum is made of any policy
pub made_drop : (s : Policy) → IsBuiltOf s drop_policy
made_drop s = record { dup_free = tt; over = λ fields h. tt }

-- and so is the empty sequence
pub made_id : (s : Policy) → IsBuiltOf s id_policy
made_id s = record { dup_free = tt; over = λ fields h. tt }

-- parts that are made of a policy, as a sequence
pub made_joined : (s : Policy) (ps qs : Policies) → IsBuiltOf s (seq_of ps) → IsBuiltOf s (seq_of qs)
    → IsBuiltOf s (seq_of (joined ps qs))
made_joined s no_part qs a b = b
made_joined s (part p ps) qs a b =
    let rest = made_joined s ps qs record { dup_free = a.dup_free.1; over = λ fields h. (a.over fields h).1 } b in
    record {
      dup_free = (a.dup_free.0, rest.dup_free);
      over = λ fields h. ((a.over fields h).0, rest.over fields h);
    }

-- one part alone
made_one : (s p : Policy) → IsBuiltOf s p → IsBuiltOf s (seq_of (part p no_part))
made_one s p a = record { dup_free = (a.dup_free, tt); over = λ fields h. (a.over fields h, tt) }

-- the steps of a policy
pub made_steps : (s p : Policy) → IsBuiltOf s p → IsBuiltOf s (seq_of (steps_of p))
made_steps s (test f n) a = made_one s (test f n) a
made_steps s (range f lo hi) a = made_one s (range f lo hi) a
made_steps s (assign f n) a = made_one s (assign f n) a
made_steps s (sum_of ps) a = made_one s (sum_of ps) a
made_steps s (seq_of ps) a = a
made_steps s (not_of p) a = made_one s (not_of p) a
made_steps s (star_of p) a = made_one s (star_of p) a
made_steps s (dup l) a = made_one s (dup l) a
made_steps s (link a m b n l) h = made_one s (link a m b n l) h

-- the steps of two policies, one after the other
pub turn_of : (r p q : Policy) (xs ys : List Pol) → r ≡ seq_of (trees_of (xs ++ ys))
    → trees_of xs ≡ steps_of p → trees_of ys ≡ steps_of q → IsTurn r p q
turn_of r p q xs ys is e f =
    let whole : seq_of (joined (steps_of p) (steps_of q)) ≡ r =
    ap (λ t. seq_of (joined t (steps_of q))) (sym e) ∙ ap (λ t. seq_of (joined (trees_of xs) t)) (sym f) ∙ ap seq_of (sym (trees_joined xs ys)) ∙ sym is in
    record {
      ends = λ pk x. (
        λ g.
            let t = (joined_ends (steps_of p) (steps_of q) pk x).0 (subst (λ s. Gives s pk [] x) (sym whole) g) in
            (t.0, (steps_end p pk t.0).0 t.1, (steps_end q t.0 x).0 t.2),
        λ g.
            subst (λ s. Gives s pk [] x) whole ((joined_ends (steps_of p) (steps_of q) pk x).1 (g.0, (steps_end p pk g.0).1 g.1, (steps_end q g.0 x).1 g.2)),
      );
      within = λ s a b. subst (IsBuiltOf s) whole (made_joined s (steps_of p) (steps_of q) (made_steps s p a) (made_steps s q b));
    }

-- where the first of them drops each packet
pub turn_drop_first : (r p q : Policy) → r ≡ drop_policy → is_drop p ≡ true → IsTurn r p q
turn_drop_first r p q is h = record {
  ends = λ pk x. (λ g. absurd (subst (λ s. Gives s pk [] x) is g), λ g. absurd (drop_ends p h pk g.0 g.1));
  within = λ s a b. subst (IsBuiltOf s) (sym is) (made_drop s);
}

-- where the second does
pub turn_drop_second : (r p q : Policy) → r ≡ drop_policy → is_drop q ≡ true → IsTurn r p q
turn_drop_second r p q is h = record {
  ends = λ pk x. (λ g. absurd (subst (λ s. Gives s pk [] x) is g), λ g. absurd (drop_ends q h g.0 x g.2));
  within = λ s a b. subst (IsBuiltOf s) (sym is) (made_drop s);
}

-- rounds of the empty sum are none
pub rounds_of_drop : (r p : Policy) → r ≡ id_policy → is_drop p ≡ true → IsRounds r p
rounds_of_drop r p is h = record {
  ends = λ pk x. (
    λ g. star_none p pk x ((none_ends pk x).0 (subst (λ s. Gives s pk [] x) is g)),
    λ g. subst (λ s. Gives s pk [] x) (sym is) ((none_ends pk x).1 (no_rounds p (drop_ends p h) pk x g)),
  );
  within = λ s a. subst (IsBuiltOf s) (sym is) (made_id s);
}

-- rounds of any other policy are its star
pub rounds_of_star : (r p : Policy) → r ≡ star_of p → IsRounds r p
rounds_of_star r p is = record {
  ends = λ pk x. (λ g. subst (λ s. Gives s pk [] x) is g, λ g. subst (λ s. Gives s pk [] x) (sym is) g);
  within = λ s a. subst (IsBuiltOf s) (sym is) record { dup_free = a.dup_free; over = a.over };
}

-- one more term of a sum
push_ends : (ps : Policies) (q : Policy) (pk x : Packet)
    → Gives (sum_of (joined ps (part q no_part))) pk [] x ↔ (Gives (sum_of ps) pk [] x ⊎ Gives q pk [] x)
push_ends no_part q pk x = (
  λ g. ⊎_elim (λ a. inr a) (λ b. absurd b) g,
  λ g. ⊎_elim (λ a. absurd a) (λ b. inl b) g,
)
push_ends (part p ps) q pk x = (
  λ g.
      ⊎_elim
      (λ a. inl (inl a))
      (λ b. ⊎_elim (λ c. inl (inr c)) (λ c. inr c) ((push_ends ps q pk x).0 b))
      g,
  λ g.
      ⊎_elim
      (λ a. ⊎_elim (λ c. inl c) (λ c. inr ((push_ends ps q pk x).1 (inl c))) a)
      (λ b. inr ((push_ends ps q pk x).1 (inr b)))
      g,
)

-- it is made of what the others are made of
push_made : (s : Policy) (ps : Policies) (q : Policy) → IsBuiltOf s (sum_of ps) → IsBuiltOf s q
    → IsBuiltOf s (sum_of (joined ps (part q no_part)))
push_made s no_part q a b = record { dup_free = (b.dup_free, tt); over = λ fields h. (b.over fields h, tt) }
push_made s (part p ps) q a b =
    let rest = push_made s ps q record { dup_free = a.dup_free.1; over = λ fields h. (a.over fields h).1 } b in
    record {
      dup_free = (a.dup_free.0, rest.dup_free);
      over = λ fields h. ((a.over fields h).0, rest.over fields h);
    }

-- a sum with one more term
pub either_push : (xs ys : List Pol) (y : Pol) → ys ≡ xs ++ y ∷ []
    → IsEither (sum_of (trees_of ys)) (sum_of (trees_of xs)) (tree_of y)
either_push xs ys y e =
    let whole : sum_of (joined (trees_of xs) (part (tree_of y) no_part)) ≡ sum_of (trees_of ys) =
    ap sum_of (sym (ap trees_of e ∙ trees_joined xs (y ∷ []))) in
    record {
      ends = λ pk x. (
        λ g. (push_ends (trees_of xs) (tree_of y) pk x).0 (subst (λ s. Gives s pk [] x) (sym whole) g),
        λ g. subst (λ s. Gives s pk [] x) whole ((push_ends (trees_of xs) (tree_of y) pk x).1 g),
      );
      within = λ s a b. subst (IsBuiltOf s) whole (push_made s (trees_of xs) (tree_of y) a b);
    }

-- a term that drops each packet may be left out
pub either_drop : (r p q : Policy) → r ≡ p → is_drop q ≡ true → IsEither r p q
either_drop r p q is h = record {
  ends = λ pk x. (
    λ g. inl (subst (λ s. Gives s pk [] x) is g),
    λ g. ⊎_elim (λ a. subst (λ s. Gives s pk [] x) (sym is) a) (λ b. absurd (drop_ends q h pk x b)) g,
  );
  within = λ s a b. subst (IsBuiltOf s) (sym is) a;
}

-- the empty list has no length
none_drops : (xs : List Pol) → (length xs == 0) ≡ is_drop (sum_of (trees_of xs))
none_drops [] = refl
none_drops (x ∷ xs) = grind arith

-- a sum is the empty one where it has no part
pub sum_is_drop : (p : Pol) (ps : Pols) (xs : List Pol) (b : Bool) → p ≡ Sum ps → xs ≡ ps.items.items
    → b ≡ (length xs == 0) → b ≡ is_drop (tree_of p)
sum_is_drop p ps xs b e f g =
    g ∙ ap (λ l. length l == 0) f ∙ none_drops ps.items.items ∙ ap is_drop (sym (ap tree_of e ∙ tree_of_sum ps))

-- copies of the policies so far, and one more
pub copied_push : (ps : List Pol) (i : ℕ) (q y : Pol) (old out new : List Pol)
    → i < length ps → q ≡ get_or ps i q → new ≡ out ++ y ∷ [] → tree_of y ≡ tree_of q
    → (added : List Pol) × (out ≡ old ++ added) × (trees_of added ≡ trees_of (take i ps))
    → (added : List Pol) × (new ≡ old ++ added) × (trees_of added ≡ trees_of (take (i + 1) ps))
copied_push ps i q y old out new lt is e f inv =
    let more : take (i + 1) ps ≡ take i ps ++ q ∷ [] = take_more ps i q lt ∙ ap (λ r. take i ps ++ r ∷ []) (sym is) in (
      inv.0 ++ y ∷ [],
      e ∙ ap (λ t. t ++ y ∷ []) inv.1 ∙ append_assoc old inv.0 (y ∷ []),
      trees_joined inv.0 (y ∷ []) ∙ ap (λ t. joined t (part (tree_of y) no_part)) inv.2
          ∙ ap (λ t. joined (trees_of (take i ps)) (part t no_part)) f
          ∙ sym (trees_joined (take i ps) (q ∷ [])) ∙ ap trees_of (sym more),
    )
