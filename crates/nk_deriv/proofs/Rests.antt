-- The parts of what is left of a policy after each of its dups, from those of its parts.
use Rattle.std.proofs.Common.{◌≡◌, ℕ, ◌+◌, ◌<◌, true, false, inl, inr, ⊎_elim, ◌↔◌, List, [], ◌∷◌, ◌++◌, All, Contains, length, get_or, append_assoc, append-nil, refl, sym, ap, subst, ◌∙◌, arith}
use Rattle.std.specs.Prelude.{map, ◌==◌, if◌then◌else◌}
use Rattle.std.proofs.lemmas.List.{get_or-map, length-map}
use Rattle.std.proofs.lemmas.List.Elements.{All-nil, All-cons, All-append}
use Rattle.nk_field.specs.declared.packet.Packet.{Packet}
use Rattle.nk_field.proofs.Lists.{map_joined}
use Rattle.nk_policy.specs.declared.policy.Pol.{Pol}
use Rattle.nk_policy.specs.Policy.{Policy, Policies, assign, sum_of, seq_of, not_of, star_of, dup, link, no_part, part, is_predicate, are_predicates, dups_of, dups_of_all, numbers_of, numbers_of_all}
use Rattle.nk_policy.specs.Tree.{tree_of}
use Rattle.nk_policy.specs.Meaning.{Gives}
use Rattle.nk_policy.specs.Progress.{RecordsAt}
use Rattle.nk_policy.specs.After.{id_policy, drop_policy, after}
use Rattle.nk_policy.proofs.Tests.{both_true, or_left, same_number, next_number}
use Rattle.nk_deriv.specs.declared.values.Part.{Part}
use Rattle.nk_deriv.specs.Part.{NegatesPredicates, IsBuiltOf, IsLegOf, IsWithin, LegsGive, IsPartOfDerivative}
use Rattle.nk_deriv.specs.Turns.{ArePartsOf, IsSequencedBefore, IsFollowed, AreRests}
use Rattle.nk_deriv.proofs.Silent.{seq_ends, seq_records, none_ends, dup_third_ends, dup_third_records, id_first_ends, id_first_records}
use Rattle.nk_deriv.proofs.Steps.{made_drop}
use Rattle.nk_deriv.proofs.Collected.{in_head, in_tail, all_end, all_record, all_within}

-- no entry
pub rests_none : (old : List (ℕ × Part)) (rest : ℕ → Policy) (next : Part) → AreRests old old rest [] next
rests_none old rest next = record { added = []; is = sym (append-nil old); labelled = refl; follow = All-nil (λ e. IsFollowed e.1 (rest e.0) next) }

-- one entry
pub rests_one : (old new : List (ℕ × Part)) (rest : ℕ → Policy) (next r : Part) (l : ℕ)
    → new ≡ old ++ (l, r) ∷ [] → IsFollowed r (rest l) next → AreRests old new rest (l ∷ []) next
rests_one old new rest next r l e f = record {
  added = (l, r) ∷ [];
  is = e;
  labelled = refl;
  follow = All-cons (λ t. IsFollowed t.1 (rest t.0) next) (l, r) [] f (All-nil (λ t. IsFollowed t.1 (rest t.0) next));
}

-- entries and then more
pub rests_joined : (old mid new : List (ℕ × Part)) (rest : ℕ → Policy) (ks ls : List ℕ) (next : Part)
    → AreRests old mid rest ks next → AreRests mid new rest ls next → AreRests old new rest (ks ++ ls) next
rests_joined old mid new rest ks ls next a b = record {
  added = a.added ++ b.added;
  is = b.is ∙ ap (λ t. t ++ b.added) a.is ∙ append_assoc old a.added b.added;
  labelled = map_joined (λ e. e.0) a.added b.added ∙ ap (λ t. t ++ map (λ e. e.0) b.added) a.labelled ∙ ap (λ t. ks ++ t) b.labelled;
  follow = All-append (λ e. IsFollowed e.1 (rest e.0) next) a.added b.added a.follow b.follow;
}

-- an entry's label is one of the labels
label_of : (xs : List (ℕ × Part)) (k : ℕ) (d : ℕ × Part) → k < length xs → Contains (map (λ e. e.0) xs) (get_or xs k d).0
label_of xs k d lt =
    (k, subst (λ n. k < n) (sym (length-map xs (λ e. e.0))) lt, get_or-map (λ e. e.0) xs k d (get_or xs k d).0 lt)

-- the entries, told of other rests and another next part
pub rests_as : (old new : List (ℕ × Part)) (rest rest' : ℕ → Policy) (labels : List ℕ) (next next' : Part)
    → ((l : ℕ) (r : Part) → Contains labels l → IsFollowed r (rest l) next → IsFollowed r (rest' l) next')
    → AreRests old new rest labels next → AreRests old new rest' labels next'
rests_as old new rest rest' labels next next' f a = record {
  added = a.added;
  is = a.is;
  labelled = a.labelled;
  follow = λ k d lt.
      f (get_or a.added k d).0 (get_or a.added k d).1 (subst (λ ls. Contains ls (get_or a.added k d).0) a.labelled (label_of a.added k d lt)) (a.follow k d lt);
}

-- followed by what goes on as some policies do in turn, and then as the next part
pub followed_seq : (r following next : Part) (s : Policy) (states : List Part) (ps : Policies)
    → IsSequencedBefore following states next → ArePartsOf states ps → IsFollowed r s following
    → IsFollowed r (seq_of (part s ps)) next
followed_seq r following next s states ps c h f = record {
  ends = λ pk x. (
    λ g.
        let t = (f.ends pk x).0 g in
        let u = (c.ends t.0 x).0 t.2 in
        (u.0, (seq_ends s ps pk u.0).1 (t.0, t.1, (all_end states ps h t.0 u.0).0 u.1), u.2),
    λ g.
        let t = (seq_ends s ps pk g.0).0 g.1 in
        (f.ends pk x).1 (t.0, t.1, (c.ends t.0 x).1 (g.0, (all_end states ps h t.0 g.0).1 t.2, g.2)),
  );
  records = λ pk y l. (
    λ g.
        ⊎_elim
        (λ a. inl ((seq_records s ps pk y l).1 (inl a)))
        (λ a.
        ⊎_elim
        (λ b. inl ((seq_records s ps pk y l).1 (inr (a.0, a.1, (all_record states ps h a.0 y l).0 b))))
        (λ b. inr (b.0, (seq_ends s ps pk b.0).1 (a.0, a.1, (all_end states ps h a.0 b.0).0 b.1), b.2))
        ((c.records a.0 y l).0 a.2))
        ((f.records pk y l).0 g),
    λ g.
        (f.records pk y l).1
        (⊎_elim
        (λ a.
        ⊎_elim
        (λ b. inl b)
        (λ b. inr (b.0, b.1, (c.records b.0 y l).1 (inl ((all_record states ps h b.0 y l).1 b.2))))
        ((seq_records s ps pk y l).0 a))
        (λ a.
        let t = (seq_ends s ps pk a.0).0 a.1 in
        inr (t.0, t.1, (c.records t.0 y l).1 (inr (a.0, (all_end states ps h t.0 a.0).1 t.2, a.2))))
        g),
  );
  within = λ p i n.
      f.within p (in_head p s ps i) (c.within p (all_within p states ps h (in_tail p s ps i)) n);
}

-- a copy of the next part follows the policy that keeps each packet
pub followed_id : (r next : Part) (s : Policy) → s ≡ id_policy → IsSequencedBefore r [] next → IsFollowed r s next
followed_id r next s e c =
    let here : IsFollowed r id_policy next = record {
      ends = λ pk x. (
        λ g. let t = (c.ends pk x).0 g in (t.0, (none_ends pk t.0).1 t.1, t.2),
        λ g. (c.ends pk x).1 (g.0, (none_ends pk g.0).0 g.1, g.2),
      );
      records = λ pk y l. (
        λ g. ⊎_elim (λ a. absurd a) (λ a. inr (a.0, (none_ends pk a.0).1 a.1, a.2)) ((c.records pk y l).0 g),
        λ g. (c.records pk y l).1 (⊎_elim (λ a. absurd a) (λ a. inr (a.0, (none_ends pk a.0).0 a.1, a.2)) g),
      );
      within = λ p i n. c.within p (All-nil (IsWithin p)) n;
    } in
    subst (λ t. IsFollowed r t next) (sym e) here

-- what is left of a dup
pub rests_dup : (old new : List (ℕ × Part)) (next r : Part) (l : ℕ) → new ≡ old ++ (l, r) ∷ []
    → IsSequencedBefore r [] next → AreRests old new (after (dup l)) (l ∷ []) next
rests_dup old new next r l e c =
    rests_one old new (after (dup l)) next r l e
    (followed_id r next (after (dup l) l) (ap (λ b. if b then id_policy else drop_policy) (same_number l)) c)

-- what is left of a link literal after its first dup
abbrev first_rest : ℕ → ℕ → ℕ → Policy
first_rest b n l = seq_of (part id_policy (part (assign 0 b) (part (assign 1 n) (part (dup (l + 1)) no_part))))

-- that it is
first_rest_is : (a m b n l : ℕ) → after (link a m b n l) l ≡ first_rest b n l
first_rest_is a m b n l =
    ap
    (λ t. if t then seq_of (part (if t then id_policy else drop_policy) (part (assign 0 b) (part (assign 1 n) (part (dup (l + 1)) no_part)))) else (if l == (l + 1) then seq_of (part (if l == (l + 1) then id_policy else drop_policy) no_part) else drop_policy))
    (same_number l)

-- after its second dup nothing is left
abbrev second_rest : Policy
second_rest = seq_of (part id_policy no_part)

-- that it is
second_rest_is : (a m b n l : ℕ) → after (link a m b n l) (l + 1) ≡ second_rest
second_rest_is a m b n l =
    ap
    (λ t. if t then seq_of (part (if t then id_policy else drop_policy) (part (assign 0 b) (part (assign 1 n) (part (dup (l + 1)) no_part)))) else (if (l + 1) == (l + 1) then seq_of (part (if (l + 1) == (l + 1) then id_policy else drop_policy) no_part) else drop_policy))
    (next_number l)
    ∙ ap (λ t. if t then seq_of (part (if t then id_policy else drop_policy) no_part) else drop_policy) (same_number (l + 1))

-- it keeps the packet
followed_second : (r next : Part) → IsFollowed r id_policy next → IsFollowed r second_rest next
followed_second r next f =
    let same : IsSequencedBefore next [] next = record {
      ends = λ pk x. (λ g. (pk, refl, g), λ g. subst (λ z. Gives (tree_of next.free) z [] x) g.1 g.2);
      records = λ pk y l. (
        λ g. inr (pk, refl, g),
        λ g. ⊎_elim (λ a. absurd a) (λ a. subst (λ z. LegsGive next.legs z y l) a.1 a.2) g,
      );
      within = λ p w n. n;
    } in
    followed_seq r next next id_policy [] no_part same tt f

-- the parts of the first rest after the policy that keeps each packet
abbrev moving : ℕ → ℕ → ℕ → Policies
moving b n l = part (assign 0 b) (part (assign 1 n) (part (dup (l + 1)) no_part))

-- the first rest records before it ends
first_silent : (b n l : ℕ) (pk z : Packet) → Gives (first_rest b n l) pk [] z → ⊥
first_silent b n l pk z g =
    dup_third_ends (assign 0 b) (assign 1 n) (l + 1) no_part pk z (id_first_ends (moving b n l) pk z g)

-- it records at the second dup, at the target
first_records : (b n l : ℕ) (pk y : Packet) (k : ℕ)
    → ((l + 1 ≡ k) × Gives (seq_of (part (assign 0 b) (part (assign 1 n) no_part))) pk [] y)
    ↔ RecordsAt (first_rest b n l) pk [] y k
first_records b n l pk y k =
    let t = dup_third_records (assign 0 b) (assign 1 n) (l + 1) no_part (λ p q j r. r) (λ p q j r. r) pk y k in
    let u = id_first_records (moving b n l) pk y k in
    (λ g. u.0 (t.0 g), λ g. t.1 (u.1 g))

-- the part that sets the packet to the target and records it there
followed_first : (r next : Part) (moved : Pol) (b n l : ℕ) → tree_of r.free ≡ drop_policy → r.legs ≡ (moved, l + 1) ∷ []
    → tree_of moved ≡ seq_of (part (assign 0 b) (part (assign 1 n) no_part)) → IsFollowed r (first_rest b n l) next
followed_first r next moved b n l f e w = record {
  ends = λ pk x. (
    λ g. absurd (subst (λ t. Gives t pk [] x) f g),
    λ g. absurd (first_silent b n l pk g.0 g.1),
  );
  records = λ pk y k. (
    λ g.
        ⊎_elim
        (λ a. inl ((first_records b n l pk y k).0 (a.0, subst (λ t. Gives t pk [] y) w a.1)))
        (λ a. absurd a)
        (subst (λ t. LegsGive t pk y k) e g),
    λ g.
        subst (λ t. LegsGive t pk y k) (sym e)
        (⊎_elim
        (λ a. let t = (first_records b n l pk y k).1 a in inl (t.0, subst (λ q. Gives q pk [] y) (sym w) t.1))
        (λ a. absurd (first_silent b n l pk a.0 a.1))
        g),
  );
  within = λ p i n. record {
    free = subst (IsBuiltOf p) (sym f) (made_drop p);
    legs = subst (All (IsLegOf p)) (sym e) (All-cons (IsLegOf p) (moved, l + 1) []
        (subst (IsBuiltOf p) (sym w) record { dup_free = (tt, (tt, tt)); over = λ fields h. let t = i.over fields h in (t.1.0, (t.1.1.0, tt)) }, i.dups (l + 1) (or_left ((l + 1) == (l + 1)) false (same_number (l + 1))))
        (All-nil (IsLegOf p)));
  };
}

-- what is left of a link literal
pub rests_link : (old mid new : List (ℕ × Part)) (next r r' : Part) (moved : Pol) (a m b n l : ℕ)
    → mid ≡ old ++ (l, r) ∷ [] → new ≡ mid ++ (l + 1, r') ∷ []
    → tree_of r.free ≡ drop_policy → r.legs ≡ (moved, l + 1) ∷ []
    → tree_of moved ≡ seq_of (part (assign 0 b) (part (assign 1 n) no_part))
    → IsSequencedBefore r' [] next
    → AreRests old new (after (link a m b n l)) (l ∷ (l + 1) ∷ []) next
rests_link old mid new next r r' moved a m b n l d e f g w c =
    let rest = after (link a m b n l) in
    let first : IsFollowed r (rest l) next =
    subst (λ s. IsFollowed r s next) (sym (first_rest_is a m b n l)) (followed_first r next moved b n l f g w) in
    let second : IsFollowed r' (rest (l + 1)) next =
    subst (λ s. IsFollowed r' s next) (sym (second_rest_is a m b n l)) (followed_second r' next (followed_id r' next id_policy refl c)) in
    rests_joined old mid new rest (l ∷ []) ((l + 1) ∷ []) next (rests_one old mid rest next r l d first) (rests_one mid new rest next r' (l + 1) e second)

-- what is left of a star
pub rests_star : (old new : List (ℕ × Part)) (star next following : Part) (q : Policy)
    → IsPartOfDerivative star (star_of q) → IsSequencedBefore following (star ∷ []) next
    → AreRests old new (after q) (numbers_of q) following
    → AreRests old new (after (star_of q)) (numbers_of q) next
rests_star old new star next following q s c a =
    rests_as old new (after q) (after (star_of q)) (numbers_of q) following next
    (λ l r h f. followed_seq r following next (after q l) (star ∷ []) (part (star_of q) no_part) c (s, tt) f)
    a

-- a predicate has no dup
mutual
  pub predicate_numbers : (p : Policy) → is_predicate p ≡ true → numbers_of p ≡ []
  predicate_numbers (sum_of ps) h = predicates_numbers ps h
  predicate_numbers (seq_of ps) h = predicates_numbers ps h
  predicate_numbers (not_of p) h = predicate_numbers p h
  predicate_numbers (star_of p) h = cc
  predicate_numbers (dup l) h = cc
  predicate_numbers (link a m b n l) h = cc
  predicate_numbers p h = refl

  -- nor have predicates
  pub predicates_numbers : (ps : Policies) → are_predicates ps ≡ true → numbers_of_all ps ≡ []
  predicates_numbers no_part h = refl
  predicates_numbers (part p ps) h =
      let b = both_true (is_predicate p) (are_predicates ps) h in
      ap (λ t. t ++ numbers_of_all ps) (predicate_numbers p b.0) ∙ predicates_numbers ps b.1

-- what has no numbers has no entries
pub rests_silent : (old new : List (ℕ × Part)) (rest : ℕ → Policy) (labels : List ℕ) (next : Part)
    → new ≡ old → labels ≡ [] → AreRests old new rest labels next
rests_silent old new rest labels next e f =
    subst (λ n. AreRests old n rest labels next) (sym e) (subst (λ ls. AreRests old old rest ls next) (sym f) (rests_none old rest next))

-- no dups, no numbers
mutual
  pub no_dups : (p : Policy) → dups_of p ≡ 0 → numbers_of p ≡ []
  no_dups (sum_of ps) h = no_dups_in ps h
  no_dups (seq_of ps) h = no_dups_in ps h
  no_dups (not_of p) h = no_dups p h
  no_dups (star_of p) h = no_dups p h
  no_dups (dup l) h = absurd (omega (arith, h))
  no_dups (link a m b n l) h = absurd (omega (arith, h))
  no_dups p h = refl

  -- of parts
  pub no_dups_in : (ps : Policies) → dups_of_all ps ≡ 0 → numbers_of_all ps ≡ []
  no_dups_in no_part h = refl
  no_dups_in (part p ps) h =
      ap (λ t. t ++ numbers_of_all ps) (no_dups p (omega (arith, h))) ∙ no_dups_in ps (omega (arith, h))

-- told of another tree that is the same
pub rests_as_tree : (old new : List (ℕ × Part)) (next : Part) (p q : Policy) → p ≡ q
    → AreRests old new (after p) (numbers_of p) next → AreRests old new (after q) (numbers_of q) next
rests_as_tree old new next p q e a = subst (λ t. AreRests old new (after t) (numbers_of t) next) e a

-- a complement has no rests
pub rests_not : (old : List (ℕ × Part)) (next : Part) (p q : Policy) → not_of q ≡ p → NegatesPredicates p
    → AreRests old old (after p) (numbers_of p) next
rests_not old next p q e h =
    let n : NegatesPredicates (not_of q) = subst NegatesPredicates (sym e) h in
    rests_silent old old (after p) (numbers_of p) next refl (ap numbers_of (sym e) ∙ predicate_numbers q n.0)
