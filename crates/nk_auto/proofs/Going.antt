-- Diagrams of policies that are continued by a diagram: growth, leaves, sequences and stars.
use Rattle.std.proofs.Common.{true, ◌≡◌, ℕ, ◌+◌, inl, inr, ⊎_elim, List, [], ◌∷◌, refl, sym, ap, subst, ◌∙◌}
use Rattle.nk_field.specs.Act.{applied}
use Rattle.nk_policy.specs.Policy.{Policy, Policies, test, range, assign, seq_of, not_of, star_of, dup, link, no_part, part, is_predicate, dups_of}
use Rattle.nk_policy.specs.Progress.{RecordsAt}
use Rattle.nk_store.specs.StoreState.{StoreState, IsId, IsWhole, IsStorePacket, look, Grows, HasLeaves, AreTidy}
use Rattle.nk_store.specs.declared.node.Out.{Out}
use Rattle.nk_apply.specs.Leaves.{merged, guarded}
use Rattle.nk_apply.specs.Predicates.{IsPass, IsPredicate}
use Rattle.nk_apply.specs.Seqs.{seq_leaf, no_out}
use Rattle.nk_apply.proofs.Members.{Has, contains_has, has_contains}
use Rattle.nk_auto.specs.Plain.{Sends}
use Rattle.nk_auto.specs.Continued.{IsFit, IsSilent, GoesOn, IsContinued}
use Rattle.nk_auto.proofs.Sending.{out_of, sends_on, sends_back, seq_sends, sends_seq, union_sends, sends_left, sends_right}
use Rattle.nk_auto.proofs.Silences.{fit_before, packet_before, out_sends, dup_gives_none}
use Rattle.nk_auto.proofs.Ways.{predicate_records_none, gives_in_range, gives_cons, cons_gives, records_cons, cons_records, records_star, star_records, dupless_records_none}

-- what goes on by a diagram goes on by it in a store that grew
pub goes_on : (old new : StoreState) (p : Policy) (k : ℕ) (pk y : List ℕ) (t : ℕ) → Grows old new → IsId old k →
    GoesOn old p k pk y t → GoesOn new p k pk y t
goes_on old new p k pk y t g ik s =
    ⊎_elim (λ e. inl (e.0, e.1, sends_on old new k e.0 y t g ik e.2)) (λ e. inr e) s

-- and it did before
pub goes_back : (old new : StoreState) (p : Policy) (k : ℕ) (pk y : List ℕ) (t : ℕ) → Grows old new → IsId old k →
    GoesOn new p k pk y t → GoesOn old p k pk y t
goes_back old new p k pk y t g ik s =
    ⊎_elim (λ e. inl (e.0, e.1, sends_back old new k e.0 y t g ik e.2)) (λ e. inr e) s

-- a continued diagram stays so in a store that grew
pub continued_grow : (old new : StoreState) (d : ℕ) (p : Policy) (k : ℕ) → Grows old new → IsContinued old d p k →
    IsContinued new d p k
continued_grow old new d p k g h = record {
  id = g.ids d h.id;
  next = g.ids k h.next;
  sends = λ fit pk y t r.
      let both = h.sends (fit_before old new p g fit) pk y t (packet_before old new pk g r) in (
        λ s. goes_on old new p k pk y t g h.next (both.0 (sends_back old new d pk y t g h.id s)),
        λ s. sends_on old new d pk y t g h.id (both.1 (goes_back old new p k pk y t g h.next s)),
      );
}

-- a policy that never records, and then the diagram
pub through : (st new : StoreState) (d k r : ℕ) (p : Policy) → AreTidy new → Grows st new → IsSilent st d p → IsId st k →
    ((pk y : List ℕ) (t : ℕ) → RecordsAt p pk [] y t → ⊥) →
    HasLeaves new r (λ pk. seq_leaf (look st d pk) (look st k) pk) → IsContinued new r p k
through st new d k r p tidy g a ik none h = record {
  id = h.id;
  next = g.ids k ik;
  sends = λ fit pk y t pk_in.
      let before = packet_before st new pk g pk_in in
      let fits = fit_before st new p g fit in (
        λ s.
            let m = seq_sends st new d k r pk y t tidy g a.id ik h pk_in.0 s in
            let first = (a.sends fits pk m.0 m.1 before).0 m.2 in
            inl (m.0, first.1, sends_on st new k m.0 y t g ik m.3),
        λ s.
            ⊎_elim
            (λ e. sends_seq st new d k r pk e.0 y 0 t tidy g a.id ik h pk_in.0 ((a.sends fits pk e.0 0 before).1 (refl, e.1)) (sends_back st new k e.0 y t g ik e.2))
            (λ e. absurd (none pk y t e))
            s,
      );
}

-- a member after a guard is one after a predicate that passes
pub guard_has : (os ks : List Out) (o : Out) → IsPass os → Has (guarded os ks) o → Has os no_out × Has ks o
guard_has [] ks o p h = absurd h
guard_has (x ∷ xs) ks o p h = (inl p.0, h)

-- and a member after a predicate that passes is one after the guard
pub has_guard : (os ks : List Out) (x o : Out) → Has os x → Has ks o → Has (guarded os ks) o
has_guard [] ks x o h k = absurd h
has_guard (z ∷ zs) ks x o h k = k

-- it is the out that keeps the packet
pub guard_is : (os : List Out) (x : Out) → IsPass os → Has os x → x ≡ no_out
guard_is [] x p h = absurd h
guard_is (z ∷ zs) x p h = ⊎_elim (λ e. sym e ∙ p.0) (λ r. absurd (subst (λ l. Has l x) p.1 r)) h

-- a predicate diagram of a policy that never records, and then the diagram
guarded_through : (st new : StoreState) (d k r : ℕ) (p : Policy) → Grows st new → IsSilent st d p → IsPredicate st d → IsId st k →
    ((pk y : List ℕ) (t : ℕ) → RecordsAt p pk [] y t → ⊥) →
    HasLeaves new r (λ pk. guarded (look st d pk) (look st k pk)) → IsContinued new r p k
guarded_through st new d k r p g a pred ik none h = record {
  id = h.id;
  next = g.ids k ik;
  sends = λ fit pk y t pk_in.
      let before = packet_before st new pk g pk_in in
      let fits = fit_before st new p g fit in (
        λ s.
            let m : Has (guarded (look st d pk) (look st k pk)) (out_of s.0 t) = subst (λ os. Has os (out_of s.0 t)) (h.leaf pk pk_in.0) (contains_has _ _ s.1) in
            let both = guard_has (look st d pk) (look st k pk) (out_of s.0 t) (pred pk pk_in.0) m in
            let passed : Sends st d pk pk 0 = ([], has_contains _ _ both.0, refl) in
            let sent : Sends st k pk y t = (s.0, has_contains _ _ both.1, s.2) in
            inl (pk, ((a.sends fits pk pk 0 before).0 passed).1, sends_on st new k pk y t g ik sent),
        λ s.
            ⊎_elim
            (λ e.
            let passed = (a.sends fits pk e.0 0 before).1 (refl, e.1) in
            let sent = sends_back st new k e.0 y t g ik e.2 in
            let kept = guard_is (look st d pk) (out_of passed.0 0) (pred pk pk_in.0) (contains_has _ _ passed.1) in
            let act_is : passed.0 ≡ [] = ap (λ o. o.act) kept in
            let here : e.0 ≡ pk = passed.2 ∙ ap (λ f. applied f pk) act_is in
            let sent_here : Sends st k pk y t = subst (λ x. Sends st k x y t) here sent in
            let m = has_guard (look st d pk) (look st k pk) (out_of passed.0 0) (out_of sent_here.0 t) (contains_has _ _ passed.1) (contains_has _ _ sent_here.1) in
            (sent_here.0, has_contains _ _ (subst (λ os. Has os (out_of sent_here.0 t)) (sym (h.leaf pk pk_in.0)) m), sent_here.2))
            (λ e. absurd (none pk y t e))
            s,
      );
}

-- the test, continued
pub test_through : (st new : StoreState) (d k r f n : ℕ) → Grows st new → IsSilent st d (test f n) → IsPredicate st d → IsId st k →
    HasLeaves new r (λ pk. guarded (look st d pk) (look st k pk)) → IsContinued new r (test f n) k
test_through st new d k r f n g a pred ik h = guarded_through st new d k r (test f n) g a pred ik (λ pk y t e. e) h

-- the range, continued
pub range_through : (st new : StoreState) (d k r f lo hi : ℕ) → Grows st new → IsSilent st d (range f lo hi) → IsPredicate st d →
    IsId st k → HasLeaves new r (λ pk. guarded (look st d pk) (look st k pk)) → IsContinued new r (range f lo hi) k
range_through st new d k r f lo hi g a pred ik h =
    guarded_through st new d k r (range f lo hi) g a pred ik (λ pk y t e. e) h

-- the assignment, continued
pub set_through : (st new : StoreState) (d k r f n : ℕ) → AreTidy new → Grows st new → IsSilent st d (assign f n) → IsId st k →
    HasLeaves new r (λ pk. seq_leaf (look st d pk) (look st k) pk) → IsContinued new r (assign f n) k
set_through st new d k r f n tidy g a ik h = through st new d k r (assign f n) tidy g a ik (λ pk y t e. e) h

-- a policy without a dup, and then the diagram
pub dupless_through : (st new : StoreState) (d k r : ℕ) (p : Policy) → dups_of p ≡ 0 → AreTidy new → Grows st new →
    IsSilent st d p → IsId st k → HasLeaves new r (λ pk. seq_leaf (look st d pk) (look st k) pk) →
    IsContinued new r p k
dupless_through st new d k r p none tidy g a ik h =
    through st new d k r p tidy g a ik (dupless_records_none p none) h

-- a policy without a dup, and then nothing
pub dupless_to_nothing : (st : StoreState) (k : ℕ) (p : Policy) → dups_of p ≡ 0 → IsId st k → ((pk : List ℕ) → look st k pk ≡ []) →
    IsContinued st k p k
dupless_to_nothing st k p none ik nothing = record {
  id = ik;
  next = ik;
  sends = λ fit pk y t pk_in. (
    λ s. absurd (sends_none pk y t s),
    λ s. ⊎_elim (λ e. absurd (sends_none e.0 y t e.2)) (λ e. absurd (dupless_records_none p none pk y t e)) s,
  );
}
  where
    sends_none : (x y : List ℕ) (t : ℕ) → Sends st k x y t → ⊥
    sends_none x y t s = subst (λ os. Has os (out_of s.0 t)) (nothing x) (contains_has _ _ s.1)

-- a star in which no round records, continued
pub star_through : (st new : StoreState) (d k r : ℕ) (p : Policy) → dups_of p ≡ 0 → AreTidy new → Grows st new →
    IsSilent st d (star_of p) → IsId st k → HasLeaves new r (λ pk. seq_leaf (look st d pk) (look st k) pk) →
    IsContinued new r (star_of p) k
star_through st new d k r p none tidy g a ik h =
    dupless_through st new d k r (star_of p) none tidy g a ik h

-- the complement, continued
pub not_through : (st new : StoreState) (d k r : ℕ) (p : Policy) → Grows st new → IsSilent st d (not_of p) → IsPredicate st d → IsId st k →
    HasLeaves new r (λ pk. guarded (look st d pk) (look st k pk)) → IsContinued new r (not_of p) k
not_through st new d k r p g a pred ik h = guarded_through st new d k r (not_of p) g a pred ik (λ pk y t e. e) h

-- a predicate, continued
pub predicate_through : (st new : StoreState) (d k r : ℕ) (p : Policy) → is_predicate p ≡ true → Grows st new → IsSilent st d p →
    IsPredicate st d → IsId st k → HasLeaves new r (λ pk. guarded (look st d pk) (look st k pk)) → IsContinued new r p k
predicate_through st new d k r p is g a pred ik h =
    guarded_through st new d k r p g a pred ik (λ pk y t e. predicate_records_none p is pk [] y t e) h

-- the packet itself, to the target of a dup
pub dup_continued : (st : StoreState) (d l k : ℕ) → HasLeaves st d (λ pk. record { act = []; target = l } ∷ []) → IsId st k →
    IsContinued st d (dup l) k
dup_continued st d l k h ik = record {
  id = h.id;
  next = ik;
  sends = λ fit pk y t pk_in. (
    λ s.
        let m : Has (out_of [] l ∷ []) (out_of s.0 t) = subst (λ os. Has os (out_of s.0 t)) (h.leaf pk pk_in.0) (contains_has _ _ s.1) in
        let is : out_of [] l ≡ out_of s.0 t = ⊎_elim (λ e. e) (λ n. absurd n) m in
        let act_is : [] ≡ s.0 = ap (λ o. o.act) is in
        let target_is : l ≡ t = ap (λ o. o.target) is in
        inr (refl, s.2 ∙ ap (λ g. applied g pk) (sym act_is), sym target_is),
    λ s.
        ⊎_elim
        (λ e. absurd (dup_gives_none l pk e.0 e.1))
        (λ e.
        let sent : Sends st d pk pk l = out_sends st d (λ q. out_of [] l ∷ []) pk [] l h pk_in.0 (inl refl) in
        subst (λ x. Sends st d pk x t) (sym e.1) (subst (λ u. Sends st d pk pk u) (sym e.2) sent))
        s,
  );
}

-- nothing is left to do before the diagram
pub unit_continued : (st : StoreState) (k : ℕ) → IsId st k → IsContinued st k (seq_of no_part) k
unit_continued st k ik = record {
  id = ik;
  next = ik;
  sends = λ fit pk y t pk_in. (
    λ s. inl (pk, (refl, refl), s),
    λ s. ⊎_elim (λ e. subst (λ x. Sends st k x y t) e.1.1 e.2) (λ e. absurd e) s,
  );
}

-- one more part in front of a sequence
pub cons_continued : (st : StoreState) (d m k : ℕ) (p : Policy) (ps : Policies) → IsContinued st d p m →
    IsContinued st m (seq_of ps) k → IsContinued st d (seq_of (part p ps)) k
cons_continued st d m k p ps a b = record {
  id = a.id;
  next = b.next;
  sends = λ fit pk y t pk_in.
      let fit_first : IsFit st.maxes p = (fit.0.0, fit.1.0) in
      let fit_rest : IsFit st.maxes (seq_of ps) = (fit.0.1, fit.1.1) in (
        λ s.
            ⊎_elim
            (λ e.
            ⊎_elim
            (λ f. inl (f.0, cons_gives p ps pk e.0 f.0 e.1 f.1, f.2))
            (λ f. inr (cons_records p ps pk e.0 y t e.1 f))
            ((b.sends fit_rest e.0 y t (gives_in_range st.maxes p fit_first.1 pk e.0 e.1 pk_in)).0 e.2))
            (λ e. inr (inl e))
            ((a.sends fit_first pk y t pk_in).0 s),
        λ s.
            ⊎_elim
            (λ e.
            let q = gives_cons p ps pk e.0 e.1 in
            let sent = (b.sends fit_rest q.0 y t (gives_in_range st.maxes p fit_first.1 pk q.0 q.1 pk_in)).1 (inl (e.0, q.2, e.2)) in
            (a.sends fit_first pk y t pk_in).1 (inl (q.0, q.1, sent)))
            (λ e.
            ⊎_elim
            (λ f. (a.sends fit_first pk y t pk_in).1 (inr f))
            (λ f.
            let sent = (b.sends fit_rest f.0 y t (gives_in_range st.maxes p fit_first.1 pk f.0 f.1 pk_in)).1 (inr f.2) in
            (a.sends fit_first pk y t pk_in).1 (inl (f.0, f.1, sent)))
            (records_cons p ps pk y t e))
            s,
      );
}

-- a dup in front of a sequence comes before all that is after it
pub dup_first : (st : StoreState) (d l m k : ℕ) (ps : Policies) → IsContinued st d (dup l) m → IsId st k →
    IsContinued st d (seq_of (part (dup l) ps)) k
dup_first st d l m k ps a ik = record {
  id = a.id;
  next = ik;
  sends = λ fit pk y t pk_in. (
    λ s.
        ⊎_elim
        (λ e. absurd (dup_gives_none l pk e.0 e.1))
        (λ e. inr (inl e))
        ((a.sends (tt, tt) pk y t pk_in).0 s),
    λ s.
        ⊎_elim
        (λ e. absurd (let q = gives_cons (dup l) ps pk e.0 e.1 in dup_gives_none l pk q.0 q.1))
        (λ e.
        ⊎_elim
        (λ f. (a.sends (tt, tt) pk y t pk_in).1 (inr f))
        (λ f. absurd (dup_gives_none l pk f.0 f.1))
        (records_cons (dup l) ps pk y t e))
        s,
  );
}

-- the six parts of a link literal are it
pub link_continued : (st : StoreState) (d k a m b n l : ℕ) →
    IsContinued st d (seq_of (part (test 0 a) (part (test 1 m) (part (dup l) (part (assign 0 b) (part (assign 1 n) (part (dup (l + 1)) no_part))))))) k →
    IsContinued st d (link a m b n l) k
link_continued st d k a m b n l h = record {
  id = h.id;
  next = h.next;
  sends = λ fit pk y t pk_in.
      let both = h.sends ((tt, (tt, (tt, (tt, (tt, (tt, tt)))))), (tt, (tt, (tt, (fit.1.0, (fit.1.1, (tt, tt))))))) pk y t pk_in in
      (λ s. both.0 s, λ s. both.1 s);
}

-- a link literal from its first test to its first record
pub link_begins : (st : StoreState) (at_dup at_port d k old a m b n l : ℕ) → IsContinued st at_dup (dup l) old →
    IsContinued st at_port (test 1 m) at_dup → IsContinued st d (test 0 a) at_port → IsId st k →
    IsContinued st d (link a m b n l) k
link_begins st at_dup at_port d k old a m b n l x y z ik =
    let rest = part (assign 0 b) (part (assign 1 n) (part (dup (l + 1)) no_part)) in
    link_continued st d k a m b n l
    (cons_continued st d at_port k (test 0 a) (part (test 1 m) (part (dup l) rest)) z
    (cons_continued st at_port at_dup k (test 1 m) (part (dup l) rest) y (dup_first st at_dup l old k rest x ik)))

-- and from its first record to its second one
pub link_ends : (st : StoreState) (at_dup at_port d k old b n l : ℕ) → IsContinued st at_dup (dup (l + 1)) old →
    IsContinued st at_port (assign 1 n) at_dup → IsContinued st d (assign 0 b) at_port → IsId st k →
    IsContinued st d (seq_of (part (assign 0 b) (part (assign 1 n) (part (dup (l + 1)) no_part)))) k
link_ends st at_dup at_port d k old b n l x y z ik =
    cons_continued st d at_port k (assign 0 b) (part (assign 1 n) (part (dup (l + 1)) no_part)) z
    (cons_continued st at_port at_dup k (assign 1 n) (part (dup (l + 1)) no_part) y (dup_first st at_dup (l + 1) old k no_part x ik))

-- what the body, continued by nothing, does: it records first
pub body_records : (st : StoreState) (nothing e : ℕ) (p : Policy) → IsContinued st e p nothing → HasLeaves st nothing (λ pk. []) →
    IsFit st.maxes p → (z y : List ℕ) (t : ℕ) → IsStorePacket st z → Sends st e z y t → RecordsAt p z [] y t
body_records st nothing e p first none fit z y t z_in s =
    ⊎_elim
    (λ q. absurd (dropped q.0 (gives_in_range st.maxes p fit.1 z q.0 q.1 z_in).0 q.2))
    (λ q. q)
    ((first.sends fit z y t z_in).0 s)
  where
    dropped : (x : List ℕ) → IsWhole x → Sends st nothing x y t → ⊥
    dropped x w q = subst (λ os. Has os (out_of q.0 t)) (none.leaf x w) (contains_has _ _ q.1)

-- rounds without a record, and then the diagram or what the body records first
pub star_continued : (st mid new : StoreState) (nothing e k f both d : ℕ) (p : Policy) → AreTidy new → Grows st mid → Grows mid new →
    IsContinued st e p nothing → HasLeaves st nothing (λ pk. []) → IsSilent st f (star_of p) → IsId st k →
    HasLeaves mid both (λ pk. merged (look st k pk) (look st e pk)) →
    HasLeaves new d (λ pk. seq_leaf (look mid f pk) (look mid both) pk) → IsContinued new d (star_of p) k
star_continued st mid new nothing e k f both d p tidy g1 g2 first none a ik united h = record {
  id = h.id;
  next = g2.ids k (g1.ids k ik);
  sends = λ fit pk y t pk_in.
      let before_mid = packet_before mid new pk g2 pk_in in
      let before = packet_before st mid pk g1 before_mid in
      let fits : IsFit st.maxes (star_of p) = fit_before st mid (star_of p) g1 (fit_before mid new (star_of p) g2 fit) in
      let fits_body : IsFit st.maxes p = fits in (
        λ s.
            let m = seq_sends mid new f both d pk y t tidy g2 (g1.ids f a.id) united.id h pk_in.0 s in
            let done = (a.sends fits pk m.0 m.1 before).0 (sends_back st mid f pk m.0 m.1 g1 a.id m.2) in
            let z_in = gives_in_range st.maxes (star_of p) fits.1 pk m.0 done.1 before in
            ⊎_elim
            (λ q. inl (m.0, done.1, sends_on mid new k m.0 y t g2 (g1.ids k ik) (sends_on st mid k m.0 y t g1 ik q)))
            (λ q. inr (star_records p pk m.0 y t done.1 (body_records st nothing e p first none fits_body m.0 y t z_in q)))
            (union_sends st mid k e both m.0 y t united z_in.0 m.3),
        λ s.
            ⊎_elim
            (λ q.
            let z_in = gives_in_range st.maxes (star_of p) fits.1 pk q.0 q.1 before in
            onward pk q.0 y t pk_in.0 ((a.sends fits pk q.0 0 before).1 (refl, q.1))
            (sends_left st mid k e both q.0 y t united z_in.0 (sends_back st mid k q.0 y t g1 ik (sends_back mid new k q.0 y t g2 (g1.ids k ik) q.2))))
            (λ q.
            let r = records_star p pk y t q in
            let z_in = gives_in_range st.maxes (star_of p) fits.1 pk r.0 r.1 before in
            onward pk r.0 y t pk_in.0 ((a.sends fits pk r.0 0 before).1 (refl, r.1))
            (sends_right st mid k e both r.0 y t united z_in.0 ((first.sends fits_body r.0 y t z_in).1 (inr r.2))))
            s,
      );
}
  where
    onward : (pk z y : List ℕ) (t : ℕ) → IsWhole pk → Sends st f pk z 0 → Sends mid both z y t → Sends new d pk y t
    onward pk z y t w s q =
        sends_seq mid new f both d pk z y 0 t tidy g2 (g1.ids f a.id) united.id h w (sends_on st mid f pk z 0 g1 a.id s) q
