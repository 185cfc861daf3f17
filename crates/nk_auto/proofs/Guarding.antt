-- Predicates side by side in a sequence, as one guard before what is after them.
use Rattle.std.proofs.Common.{◌≡◌, ℕ, ◌-◌, ◌+◌, ◌<◌, ◌≤◌, inl, inr, ⊎_elim, Bool, true, false, List, [], ◌∷◌, length, refl, sym, ap, subst, ◌∙◌}
use Rattle.std.specs.Prelude.{slice_index, ◌||◌, if◌then◌else◌}
use Rattle.nk_field.specs.Act.{applied}
use Rattle.nk_policy.specs.Policy.{Policy, Policies, test, range, seq_of, not_of, part, is_predicate, dups_of}
use Rattle.nk_policy.specs.Meaning.{Gives}
use Rattle.nk_policy.specs.After.{has_dup, some_has_dup, after, after_all}
use Rattle.nk_policy.proofs.Tests.{false_true, both_false}
use Rattle.nk_store.specs.StoreState.{StoreState, IsStorePacket, look, Grows, HasLeaves}
use Rattle.nk_apply.specs.Leaves.{guarded}
use Rattle.nk_apply.specs.Predicates.{IsPass, IsPredicate}
use Rattle.nk_apply.specs.Seqs.{no_out}
use Rattle.nk_apply.proofs.Members.{Has, contains_has, has_contains}
use Rattle.nk_auto.specs.Complements.{NegatesPredicates, AllNegatePredicates}
use Rattle.nk_auto.specs.Plain.{Sends}
use Rattle.nk_auto.specs.Continued.{IsFit, IsSilent, GoesOn, IsContinued, AreWritten}
use Rattle.nk_auto.specs.Guarded.{NeverRecords, PassesOn, IsGuarded}
use Rattle.nk_auto.proofs.Sending.{out_of, sends_on, sends_back}
use Rattle.nk_auto.proofs.Silences.{fit_before, packet_before, out_sends}
use Rattle.nk_auto.proofs.Going.{goes_on, goes_back, continued_grow, guard_has, has_guard, guard_is}
use Rattle.nk_auto.proofs.Ways.{gives_cons, cons_gives, records_cons, cons_records, predicate_holds_none, predicate_records_none, no_dup}

-- tests, ranges, complements and predicates never record
pub test_guards : (f n : ℕ) → NeverRecords (test f n)
test_guards f n = record { never = λ pk y t e. e; dupless = λ fit l has. false_true has }

pub range_guards : (f lo hi : ℕ) → NeverRecords (range f lo hi)
range_guards f lo hi = record { never = λ pk y t e. e; dupless = λ fit l has. false_true has }

pub not_guards : (p : Policy) → NeverRecords (not_of p)
not_guards p = record { never = λ pk y t e. e; dupless = λ fit l has. predicate_holds_none p l fit.0 has }

pub predicate_guards : (p : Policy) → is_predicate p ≡ true → NeverRecords p
predicate_guards p is = record {
  never = λ pk y t e. predicate_records_none p is pk [] y t e;
  dupless = λ fit l has. predicate_holds_none p l is has;
}

-- what is guarded stays so in a store that grew
pub guarded_grow : (old new : StoreState) (guard rest k : ℕ) (p : Policy) → Grows old new → IsGuarded old guard rest p k →
    IsGuarded new guard rest p k
guarded_grow old new guard rest k p g h = record {
  guard_id = g.ids guard h.guard_id;
  rest_id = g.ids rest h.rest_id;
  next = g.ids k h.next;
  predicate = λ pk w. subst IsPass (sym (g.leaves guard pk h.guard_id)) (h.predicate pk w);
  sends = λ fit pk y t pk_in.
      let both = h.sends (fit_before old new p g fit) pk y t (packet_before old new pk g pk_in) in (
        λ s. goes_on old new p k pk y t g h.next (both.0 (sends_back old new guard pk pk 0 g h.guard_id s.0, sends_back old new rest pk y t g h.rest_id s.1)),
        λ s.
            let sent = both.1 (goes_back old new p k pk y t g h.next s) in
            (sends_on old new guard pk pk 0 g h.guard_id sent.0, sends_on old new rest pk y t g h.rest_id sent.1),
      );
}

-- a continued diagram, with the guard that lets each packet pass
pub free_guarded : (st new : StoreState) (all rest k : ℕ) (p : Policy) → Grows st new → HasLeaves new all (λ pk. no_out ∷ []) →
    IsPredicate new all → IsContinued st rest p k → IsGuarded new all rest p k
free_guarded st new all rest k p g h pred a =
    let here = continued_grow st new rest p k g a in
    record {
      guard_id = h.id;
      rest_id = here.id;
      next = here.next;
      predicate = pred;
      sends = λ fit pk y t pk_in.
          let both = here.sends fit pk y t pk_in in (
            λ s. both.0 s.1,
            λ s. (out_sends new all (λ q. no_out ∷ []) pk [] 0 h pk_in.0 (inl refl), both.1 s),
          );
    }

-- a guard and what is after it, as one diagram
pub guarded_continued : (st new : StoreState) (guard rest r k : ℕ) (p : Policy) → Grows st new →
    HasLeaves new r (λ pk. guarded (look st guard pk) (look st rest pk)) → IsGuarded st guard rest p k →
    IsContinued new r p k
guarded_continued st new guard rest r k p g h b = record {
  id = h.id;
  next = g.ids k b.next;
  sends = λ fit pk y t pk_in.
      let before = packet_before st new pk g pk_in in
      let both = b.sends (fit_before st new p g fit) pk y t before in (
        λ s.
            let m : Has (guarded (look st guard pk) (look st rest pk)) (out_of s.0 t) = subst (λ os. Has os (out_of s.0 t)) (h.leaf pk pk_in.0) (contains_has _ _ s.1) in
            let parts = guard_has (look st guard pk) (look st rest pk) (out_of s.0 t) (b.predicate pk pk_in.0) m in
            let passed : Sends st guard pk pk 0 = ([], has_contains _ _ parts.0, refl) in
            let sent : Sends st rest pk y t = (s.0, has_contains _ _ parts.1, s.2) in
            goes_on st new p k pk y t g b.next (both.0 (passed, sent)),
        λ s.
            let sent = both.1 (goes_back st new p k pk y t g b.next s) in
            let m = has_guard (look st guard pk) (look st rest pk) (out_of sent.0.0 0) (out_of sent.1.0 t) (contains_has _ _ sent.0.1) (contains_has _ _ sent.1.1) in
            (sent.1.0, has_contains _ _ (subst (λ os. Has os (out_of sent.1.0 t)) (sym (h.leaf pk pk_in.0)) m), sent.1.2),
      );
}

-- one more part of a sequence that never records, before the guard
pub more_guarded : (st new : StoreState) (d guard rest r k : ℕ) (p : Policy) (ps : Policies) → Grows st new → NeverRecords p →
    IsSilent st d p → IsPredicate st d → IsPredicate new r →
    HasLeaves new r (λ pk. guarded (look st d pk) (look st guard pk)) → IsGuarded st guard rest (seq_of ps) k →
    IsGuarded new r rest (seq_of (part p ps)) k
more_guarded st new d guard rest r k p ps g is a pred made h b = record {
  guard_id = h.id;
  rest_id = g.ids rest b.rest_id;
  next = g.ids k b.next;
  predicate = made;
  sends = λ fit pk y t pk_in.
      let before = packet_before st new pk g pk_in in
      let fit_p : IsFit st.maxes p = fit_before st new p g (fit.0.0, fit.1.0) in
      let fit_rest : IsFit st.maxes (seq_of ps) = fit_before st new (seq_of ps) g (fit.0.1, fit.1.1) in (
        λ s.
            let m : Has (guarded (look st d pk) (look st guard pk)) (out_of s.0.0 0) = subst (λ os. Has os (out_of s.0.0 0)) (h.leaf pk pk_in.0) (contains_has _ _ s.0.1) in
            let parts = guard_has (look st d pk) (look st guard pk) (out_of s.0.0 0) (pred pk pk_in.0) m in
            let passed : Sends st d pk pk 0 = ([], has_contains _ _ parts.0, refl) in
            let through : Sends st guard pk pk 0 = (s.0.0, has_contains _ _ parts.1, s.0.2) in
            let gives = ((a.sends fit_p pk pk 0 before).0 passed).1 in
            ⊎_elim
            (λ e. inl (e.0, cons_gives p ps pk pk e.0 gives e.1, sends_on st new k e.0 y t g b.next e.2))
            (λ e. inr (cons_records p ps pk pk y t gives e))
            ((b.sends fit_rest pk y t before).0 (through, sends_back st new rest pk y t g b.rest_id s.1)),
        λ s.
            ⊎_elim
            (λ e.
            let q = gives_cons p ps pk e.0 e.1 in
            back fit_p fit_rest pk q.0 y t pk_in q.1 (inl (e.0, q.2, sends_back st new k e.0 y t g b.next e.2)))
            (λ e.
            ⊎_elim
            (λ f. absurd (is.never pk y t f))
            (λ f. back fit_p fit_rest pk f.0 y t pk_in f.1 (inr f.2))
            (records_cons p ps pk y t e))
            s,
      );
}
  where
    back : IsFit st.maxes p → IsFit st.maxes (seq_of ps) → (pk z y : List ℕ) (t : ℕ) → IsStorePacket new pk → Gives p pk [] z →
        GoesOn st (seq_of ps) k z y t → PassesOn new r rest pk y t
    back fit_p fit_rest pk z y t pk_in gives on =
        let before = packet_before st new pk g pk_in in
        let passed = (a.sends fit_p pk z 0 before).1 (refl, gives) in
        let kept = guard_is (look st d pk) (out_of passed.0 0) (pred pk pk_in.0) (contains_has _ _ passed.1) in
        let act_is : passed.0 ≡ [] = ap (λ o. o.act) kept in
        let here : z ≡ pk = passed.2 ∙ ap (λ f. applied f pk) act_is in
        let sent = (b.sends fit_rest pk y t before).1 (subst (λ x. GoesOn st (seq_of ps) k x y t) here on) in
        let m = has_guard (look st d pk) (look st guard pk) (out_of passed.0 0) (out_of sent.0.0 0) (contains_has _ _ passed.1) (contains_has _ _ sent.0.1) in (
          (sent.0.0, has_contains _ _ (subst (λ os. Has os (out_of sent.0.0 0)) (sym (h.leaf pk pk_in.0)) m), sent.0.2),
          sends_on st new rest pk y t g b.rest_id sent.1,
        )

-- the states stay where a part without a dup stands before the others
pub after_written : (st new : StoreState) (states later : List ℕ) (base k : ℕ) (p : Policy) (ps : Policies) → Grows st new →
    (NegatesPredicates p → (l : ℕ) → has_dup p l ≡ true → ⊥) → AreWritten st states later base (seq_of ps) k → AreWritten new states later base (seq_of (part p ps)) k
after_written st new states later base k p ps g dupless h = record {
  count = h.count;
  states = λ fit l from place has. by fit l from place has (has_dup p l) refl;
  others = λ l from has. let none = both_false (has_dup p l) (some_has_dup ps l) has in h.others l from none.1;
}
  where
    by : AllNegatePredicates (part p ps) → (l : ℕ) → base ≤ l → l < base + length later → has_dup p l || some_has_dup ps l ≡ true → (c : Bool) →
        has_dup p l ≡ c → IsContinued new (slice_index later (l - base)) (after_all (part p ps) l) k
    by fit l from place has true e = absurd (dupless fit.0 l e)
    by fit l from place has false e =
        let in_rest : some_has_dup ps l ≡ true = ap (λ c. c || some_has_dup ps l) (sym e) ∙ has in
        subst (λ c. IsContinued new (slice_index later (l - base)) (if c then seq_of (part (after p l) ps) else after_all ps l) k) (sym e)
        (continued_grow st new (slice_index later (l - base)) (after_all ps l) k g (h.states fit.1 l from place in_rest))

-- a part of which no dup is counted
pub counted_none : (p : Policy) → dups_of p ≡ 0 → NegatesPredicates p → (l : ℕ) → has_dup p l ≡ true → ⊥
counted_none p none fit l has = false_true (sym (no_dup p l none) ∙ has)
