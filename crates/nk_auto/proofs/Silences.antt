-- Diagrams of the runs without a record: leaves, complements, sequences and stars.
use Rattle.std.proofs.Common.{◌≡◌, ℕ, zero, suc, ◌+◌, ◌<◌, ◌≤◌, ◌↔◌, inl, ⊎_elim, Bool, true, false, cond, eqb, leb, ◌&&◌, min, List, [], ◌∷◌, refl, sym, ap, subst, ◌∙◌, arith, drop, get_or, length}
use Rattle.std.specs.Prelude.{slice_index}
use Rattle.std.proofs.lemmas.Bool.Decides.{nat_tests}
use Rattle.nk_field.specs.Act.{applied}
use Rattle.nk_policy.specs.Policy.{Policy, Policies, test, range, assign, seq_of, not_of, star_of, dup, link, no_part, part, is_predicate}
use Rattle.nk_policy.specs.Meaning.{Gives, way_of, rounds}
use Rattle.nk_policy.specs.Tree.{tree_of, trees_of}
use Rattle.nk_policy.specs.declared.policy.Pol.{Pol}
use Rattle.nk_policy.proofs.Steps.{left_is}
use Rattle.nk_policy.proofs.Tests.{both_true, both_pass, at_most_test, at_most_from}
use Rattle.nk_store.specs.declared.node.Out.{Out}
use Rattle.nk_store.specs.Leaves.{Every}
use Rattle.nk_store.specs.Nodes.{InRange}
use Rattle.nk_store.specs.StoreState.{StoreState, IsId, IsWhole, IsStorePacket, look, Grows, HasLeaves, AreTidy}
use Rattle.nk_apply.specs.Leaves.{absent}
use Rattle.nk_apply.specs.Predicates.{HasOnlyFinals}
use Rattle.nk_apply.specs.Seqs.{seq_leaf, no_out, in_span}
use Rattle.nk_apply.proofs.Members.{Has, contains_has, has_contains, every_has}
use Rattle.nk_apply.proofs.Predicates.{ends_by, ends_seq}
use Rattle.nk_star.specs.Leading.{Makes, Leads}
use Rattle.nk_auto.specs.Values.{one_out}
use Rattle.nk_auto.specs.Plain.{Sends}
use Rattle.nk_auto.specs.Continued.{IsFit, IsSilent}
use Rattle.nk_auto.proofs.OneOut.{one_of, is_one, clipped}
use Rattle.nk_auto.proofs.Predicates.{predicate_keeps, predicate_assigns}
use Rattle.nk_auto.proofs.Sending.{out_of, sends_on, sends_back, seq_sends, sends_seq}
use Rattle.nk_auto.proofs.Ways.{gives_in_range, gives_cons, cons_gives, gives_round}

-- a policy that suits the highest values of a store suits those of the later one, and before
pub fit_before : (old new : StoreState) (p : Policy) → Grows old new → IsFit new.maxes p → IsFit old.maxes p
fit_before old new p g fit = subst (λ m. IsFit m p) g.maxes fit

-- so does a packet
pub packet_before : (old new : StoreState) (pk : List ℕ) → Grows old new → IsStorePacket new pk → IsStorePacket old pk
packet_before old new pk g r = subst (λ m. InRange m pk) g.maxes r

-- what is silent stays so in a store that grew
pub silent_grow : (old new : StoreState) (d : ℕ) (p : Policy) → Grows old new → IsSilent old d p → IsSilent new d p
silent_grow old new d p g h = record {
  id = g.ids d h.id;
  ends = λ pk w. subst (λ os. Every (λ o. o.target ≡ 0) os) (sym (g.leaves d pk h.id)) (h.ends pk w);
  sends = λ fit pk y t r.
      let both = h.sends (fit_before old new p g fit) pk y t (packet_before old new pk g r) in
      (λ s. both.0 (sends_back old new d pk y t g h.id s), λ s. sends_on old new d pk y t g h.id (both.1 s));
}

-- a list of one out at most, where that ends
pub ends_or_none : (b : Bool) (o : Out) → o.target ≡ 0 → Every (λ x. x.target ≡ 0) (cond b (o ∷ []) [])
ends_or_none true o e = (e, tt)
ends_or_none false o e = tt

-- outs under another name
pub every_same : (P : Out → Type 0) (xs ys : List Out) → xs ≡ ys → Every P ys → Every P xs
every_same P xs ys e h = subst (Every P) (sym e) h

-- where an out is read, by what the leaf is
pub read_out : (st : StoreState) (d : ℕ) (F : List ℕ → List Out) (pk y : List ℕ) (t : ℕ) → HasLeaves st d F → IsWhole pk →
    (s : Sends st d pk y t) → Has (F pk) (out_of s.0 t)
read_out st d F pk y t h w s = subst (λ os. Has os (out_of s.0 t)) (h.leaf pk w) (contains_has _ _ s.1)

-- where an out stands, the diagram sends
pub out_sends : (st : StoreState) (d : ℕ) (F : List ℕ → List Out) (pk : List ℕ) (g : List (ℕ × ℕ)) (t : ℕ) → HasLeaves st d F →
    IsWhole pk → Has (F pk) (out_of g t) → Sends st d pk (applied g pk) t
out_sends st d F pk g t h w k = (g, has_contains _ _ (subst (λ os. Has os (out_of g t)) (sym (h.leaf pk w)) k), refl)

-- the out that keeps a packet and ends
pub kept_out : (g : List (ℕ × ℕ)) (t : ℕ) (pk y : List ℕ) → no_out ≡ out_of g t → y ≡ applied g pk → (t ≡ 0) × (y ≡ pk)
kept_out g t pk y e f =
    let act_is : [] ≡ g = ap (λ o. o.act) e in
    let target_is : 0 ≡ t = ap (λ o. o.target) e in
    (sym target_is, f ∙ ap (λ h. applied h pk) (sym act_is))

-- the packet where the field has the value
pub test_silent : (st : StoreState) (maxes : List ℕ) (d f n : ℕ) → st.maxes ≡ maxes →
    HasLeaves st d (λ pk. cond (eqb (min (slice_index pk f) (slice_index maxes f)) n) (no_out ∷ []) []) →
    IsSilent st d (test f n)
test_silent st maxes d f n same h = record {
  id = h.id;
  ends = λ pk w. every_same _ _ _ (h.leaf pk w) (ends_or_none (eqb (min (slice_index pk f) (slice_index maxes f)) n) no_out refl);
  sends = λ fit pk y t r.
      let here : InRange maxes pk = subst (λ m. InRange m pk) same r in
      let value = clipped maxes pk f here in (
        λ s.
            let one = one_of (eqb (min (slice_index pk f) (slice_index maxes f)) n) no_out (out_of s.0 t) (read_out st d _ pk y t h r.0 s) in
            let kept = kept_out s.0 t pk y one.1 s.2 in
            (kept.0, (sym value ∙ grind (arith, nat_tests, one.0), refl, kept.1)),
        λ s.
            let holds : eqb (min (slice_index pk f) (slice_index maxes f)) n ≡ true = let e = value ∙ s.1.0 in grind (arith, nat_tests, e) in
            let sent : Sends st d pk pk 0 = out_sends st d _ pk [] 0 h r.0 (is_one (eqb (min (slice_index pk f) (slice_index maxes f)) n) no_out holds) in
            subst (λ x. Sends st d pk x t) (sym s.1.2) (subst (λ u. Sends st d pk pk u) (sym s.0) sent),
      );
}

-- the packet where the field's value is in the range
pub range_silent : (st : StoreState) (maxes : List ℕ) (d f lo hi : ℕ) → st.maxes ≡ maxes →
    HasLeaves st d (λ pk. in_span (slice_index maxes f) lo hi (slice_index pk f)) → IsSilent st d (range f lo hi)
range_silent st maxes d f lo hi same h =
    let inside : ℕ → Bool = λ v. leb lo v && leb v hi in
    let found : List ℕ → Bool = λ pk. inside (min (slice_index pk f) (slice_index maxes f)) in
    record {
      id = h.id;
      ends = λ pk w. every_same _ _ _ (h.leaf pk w) (ends_or_none (found pk) no_out refl);
      sends = λ fit pk y t r.
          let here : InRange maxes pk = subst (λ m. InRange m pk) same r in
          let value : found pk ≡ inside (slice_index pk f) = ap inside (clipped maxes pk f here) in (
            λ s.
                let one = one_of (found pk) no_out (out_of s.0 t) (read_out st d _ pk y t h r.0 s) in
                let kept = kept_out s.0 t pk y one.1 s.2 in
                let both = both_true (leb lo (slice_index pk f)) (leb (slice_index pk f) hi) (sym value ∙ one.0) in
                (kept.0, (at_most_from lo (slice_index pk f) both.0, at_most_from (slice_index pk f) hi both.1, refl, kept.1)),
            λ s.
                let holds : found pk ≡ true =
                value ∙ both_pass (leb lo (slice_index pk f)) (leb (slice_index pk f) hi) (at_most_test lo (slice_index pk f) s.1.0) (at_most_test (slice_index pk f) hi s.1.1) in
                let sent : Sends st d pk pk 0 = out_sends st d _ pk [] 0 h r.0 (is_one (found pk) no_out holds) in
                subst (λ x. Sends st d pk x t) (sym s.1.3) (subst (λ u. Sends st d pk pk u) (sym s.0) sent),
          );
    }

-- the packet with the field set
pub set_silent : (st : StoreState) (maxes : List ℕ) (d f n : ℕ) → st.maxes ≡ maxes →
    HasLeaves st d (λ pk. cond (leb n (slice_index maxes f)) (one_out f n ∷ []) []) → IsSilent st d (assign f n)
set_silent st maxes d f n same h = record {
  id = h.id;
  ends = λ pk w. every_same _ _ _ (h.leaf pk w) (ends_or_none (leb n (slice_index maxes f)) (one_out f n) refl);
  sends = λ fit pk y t r. (
    λ s.
        let one = one_of (leb n (slice_index maxes f)) (one_out f n) (out_of s.0 t) (read_out st d _ pk y t h r.0 s) in
        let act_is : (f, n) ∷ [] ≡ s.0 = ap (λ o. o.act) one.1 in
        let target_is : 0 ≡ t = ap (λ o. o.target) one.1 in
        (sym target_is, (refl, s.2 ∙ ap (λ g. applied g pk) (sym act_is))),
    λ s.
        let within : n ≤ slice_index maxes f = subst (λ m. n ≤ slice_index m f) same fit.1 in
        let holds : leb n (slice_index maxes f) ≡ true = grind (arith, nat_tests, within) in
        let sent = out_sends st d _ pk ((f, n) ∷ []) 0 h r.0 (is_one (leb n (slice_index maxes f)) (one_out f n) holds) in
        subst (λ x. Sends st d pk x t) (sym s.1.1) (subst (λ u. Sends st d pk (applied ((f, n) ∷ []) pk) u) (sym s.0) sent),
  );
}

-- no packet, where the policy has no run without a record
pub none_silent : (st : StoreState) (d : ℕ) (p : Policy) → HasLeaves st d (λ pk. []) →
    ((pk y : List ℕ) → Gives p pk [] y → ⊥) → IsSilent st d p
none_silent st d p h none = record {
  id = h.id;
  ends = λ pk w. every_same _ _ _ (h.leaf pk w) tt;
  sends = λ fit pk y t r. (λ s. absurd (read_out st d _ pk y t h r.0 s), λ s. absurd (none pk y s.1));
}

-- a dup records
pub dup_gives_none : (l : ℕ) (pk y : List ℕ) → Gives (dup l) pk [] y → ⊥
dup_gives_none l pk y g = let e = g.0 in cc

-- so does a link literal
pub link_gives_none : (a m b n l : ℕ) (pk y : List ℕ) → Gives (link a m b n l) pk [] y → ⊥
link_gives_none a m b n l pk y g =
    let rest = part (assign 0 b) (part (assign 1 n) (part (dup (l + 1)) no_part)) in
    let one = gives_cons (test 0 a) (part (test 1 m) (part (dup l) rest)) pk y g in
    let two = gives_cons (test 1 m) (part (dup l) rest) one.0 y one.2 in
    let three = gives_cons (dup l) rest two.0 y two.2 in
    dup_gives_none l two.0 three.0 three.1

-- the diagram of a dup
pub dup_silent : (st : StoreState) (d l : ℕ) → HasLeaves st d (λ pk. []) → IsSilent st d (dup l)
dup_silent st d l h = none_silent st d (dup l) h (dup_gives_none l)

-- and of a link literal
pub link_silent : (st : StoreState) (d a m b n l : ℕ) → HasLeaves st d (λ pk. []) → IsSilent st d (link a m b n l)
link_silent st d a m b n l h = none_silent st d (link a m b n l) h (link_gives_none a m b n l)

-- one more part in front of a sequence
pub cons_silent : (st new : StoreState) (d rest r : ℕ) (p : Policy) (ps : Policies) → AreTidy new → Grows st new →
    IsSilent st d p → IsSilent st rest (seq_of ps) →
    HasLeaves new r (λ pk. seq_leaf (look st d pk) (look st rest) pk) → IsSilent new r (seq_of (part p ps))
cons_silent st new d rest r p ps tidy g a b h = record {
  id = h.id;
  ends = ends_by new r _ h (λ pk w. ends_seq (look st d pk) (look st rest) pk w b.ends);
  sends = λ fit pk y t pk_in.
      let before = packet_before st new pk g pk_in in
      let fit_first : IsFit st.maxes p = fit_before st new p g (fit.0.0, fit.1.0) in
      let fit_rest : IsFit st.maxes (seq_of ps) = fit_before st new (seq_of ps) g (fit.0.1, fit.1.1) in (
        λ s.
            let k = seq_sends st new d rest r pk y t tidy g a.id b.id h pk_in.0 s in
            let first = (a.sends fit_first pk k.0 k.1 before).0 k.2 in
            let z_in = gives_in_range st.maxes p fit_first.1 pk k.0 first.1 before in
            let second = (b.sends fit_rest k.0 y t z_in).0 k.3 in
            (second.0, cons_gives p ps pk k.0 y first.1 second.1),
        λ s.
            let k = gives_cons p ps pk y s.1 in
            let z_in = gives_in_range st.maxes p fit_first.1 pk k.0 k.1 before in
            sends_seq st new d rest r pk k.0 y 0 t tidy g a.id b.id h pk_in.0 ((a.sends fit_first pk k.0 0 before).1 (refl, k.1)) ((b.sends fit_rest k.0 y t z_in).1 (s.0, k.2)),
      );
}

-- parts that always record do so after another one
none_following : (st : StoreState) (d : ℕ) (p : Policy) (ps : Policies) → HasLeaves st d (λ pk. []) → IsSilent st d (seq_of ps) →
    IsSilent st d (seq_of (part p ps))
none_following st d p ps h b = record {
  id = b.id;
  ends = b.ends;
  sends = λ fit pk y t pk_in. (
    λ s. absurd (read_out st d _ pk y t h pk_in.0 s),
    λ s.
        let k = gives_cons p ps pk y s.1 in
        let z_in = gives_in_range st.maxes p fit.1.0 pk k.0 k.1 pk_in in
        absurd (read_out st d _ k.0 y 0 h z_in.0 ((b.sends (fit.0.1, fit.1.1) k.0 y 0 z_in).1 (refl, k.2))),
  );
}

-- and after others
pub none_at_end : (st : StoreState) (d : ℕ) (ps : List Pol) (i : ℕ) → HasLeaves st d (λ pk. []) →
    IsSilent st d (seq_of (trees_of (drop i ps))) → IsSilent st d (seq_of (trees_of ps))
none_at_end st d ps zero h b = b
none_at_end st d [] (suc i) h b = b
none_at_end st d (p ∷ ps) (suc i) h b = none_following st d (tree_of p) (trees_of ps) h (none_at_end st d ps i h b)

-- a diagram without outs that is silent for a sequence's parts from a later place on is so for the parts from an earlier place on
pub none_between : (st : StoreState) (d : ℕ) (ps : List Pol) (from i : ℕ) → from ≤ i → HasLeaves st d (λ pk. []) →
    IsSilent st d (seq_of (trees_of (drop i ps))) → IsSilent st d (seq_of (trees_of (drop from ps)))
none_between st d ps zero i le h b = none_at_end st d ps i h b
none_between st d ps (suc from) zero le h b = absurd (omega (arith, le))
none_between st d [] (suc from) (suc i) le h b = b
none_between st d (p ∷ ps) (suc from) (suc i) le h b = none_between st d ps from i (omega (arith, le)) h b

-- a part that always records
none_first : (st : StoreState) (d : ℕ) (p : Policy) (ps : Policies) → HasLeaves st d (λ pk. []) → IsSilent st d p →
    IsSilent st d (seq_of (part p ps))
none_first st d p ps h a = record {
  id = a.id;
  ends = a.ends;
  sends = λ fit pk y t pk_in. (
    λ s. absurd (read_out st d _ pk y t h pk_in.0 s),
    λ s.
        let k = gives_cons p ps pk y s.1 in
        absurd (read_out st d _ pk k.0 0 h pk_in.0 ((a.sends (fit.0.0, fit.1.0) pk k.0 0 pk_in).1 (refl, k.1))),
  );
}

-- and one at some place
pub none_at_place : (st : StoreState) (d : ℕ) (ps : List Pol) (i : ℕ) (q : Pol) → i < length ps → q ≡ get_or ps i q →
    HasLeaves st d (λ pk. []) → IsSilent st d (tree_of q) → IsSilent st d (seq_of (trees_of ps))
none_at_place st d ps i q lt is h a =
    none_at_end st d ps i h
    (subst (λ qs. IsSilent st d (seq_of qs)) (sym (ap trees_of (left_is ps i q lt is))) (none_first st d (tree_of q) (trees_of (drop (i + 1) ps)) h a))

-- the complement of a predicate
pub not_silent : (st new : StoreState) (d r : ℕ) (p : Policy) → Grows st new → IsSilent st d p →
    HasLeaves new r (λ pk. absent (look st d pk) (look st d pk)) → IsSilent new r (not_of p)
not_silent st new d r p g a h = record {
  id = h.id;
  ends = λ pk w. every_same _ _ _ (h.leaf pk w) (absent_ends (look st d pk));
  sends = λ fit pk y t pk_in.
      let before = packet_before st new pk g pk_in in
      let predicate = fit.0.0 in
      let fit_p : IsFit st.maxes p = (fit.0.1, predicate_assigns _ p predicate) in (
        λ s.
            let m : Has (absent (look st d pk) (look st d pk)) (out_of s.0 t) = read_out new r _ pk y t h pk_in.0 s in
            let none : look st d pk ≡ [] = absent_none (look st d pk) (out_of s.0 t) m in
            let is : no_out ≡ out_of s.0 t = absent_is (look st d pk) (out_of s.0 t) m in
            let kept = kept_out s.0 t pk y is s.2 in (
              kept.0,
              (
                (refl, kept.1),
                λ gives.
                    let sent = (a.sends fit_p pk pk 0 before).1 (refl, gives) in
                    let k : Has [] (out_of sent.0 0) = subst (λ os. Has os (out_of sent.0 0)) none (contains_has _ _ sent.1) in
                    k,
              ),
            ),
        λ s.
            let m = drops fit_p predicate pk before s.1.1 (look st d pk) refl in
            let sent : Sends new r pk pk 0 = out_sends new r _ pk [] 0 h pk_in.0 m in
            subst (λ x. Sends new r pk x t) (sym s.1.0.1) (subst (λ u. Sends new r pk pk u) (sym s.0) sent),
      );
}
  where
    absent_ends : (os : List Out) → Every (λ o. o.target ≡ 0) (absent os os)
    absent_ends [] = (refl, tt)
    absent_ends (o ∷ os) = tt

    absent_none : (os : List Out) (o : Out) → Has (absent os os) o → os ≡ []
    absent_none [] o k = refl
    absent_none (x ∷ os) o k = absurd k

    absent_is : (os : List Out) (o : Out) → Has (absent os os) o → no_out ≡ o
    absent_is [] o k = ⊎_elim (λ e. e) (λ n. absurd n) k
    absent_is (x ∷ os) o k = absurd k

    drops : IsFit st.maxes p → is_predicate p ≡ true → (pk : List ℕ) → IsStorePacket st pk → (Gives p pk [] pk → ⊥) →
        (os : List Out) → look st d pk ≡ os → Has (absent os os) no_out
    drops fit predicate pk before never [] e = inl refl
    drops fit predicate pk before never (o ∷ os) e =
        let sent : Sends st d pk (applied o.act pk) o.target = (o.act, has_contains _ _ (subst (λ xs. Has xs o) (sym e) (inl refl)), refl) in
        let given = (a.sends fit pk (applied o.act pk) o.target before).0 sent in
        let same = predicate_keeps (λ l y. y) p predicate pk [] (applied o.act pk) given.1 in
        absurd (never (subst (λ x. Gives p pk [] x) same.1 given.1))

-- steps of the diagram are rounds without a record
leads_rounds : (st : StoreState) (d : ℕ) (p : Policy) → IsFit st.maxes p → IsSilent st d p → (n : ℕ) (pk y : List ℕ) →
    IsStorePacket st pk → Leads (look st d) n pk y → rounds n (way_of p (λ l x. x)) pk [] y
leads_rounds st d p fit a zero pk y pk_in l = (refl, l)
leads_rounds st d p fit a (suc n) pk y pk_in l =
    let first = (a.sends fit pk l.0 0 pk_in).0 l.1 in
    let z_in = gives_in_range st.maxes p fit.1 pk l.0 first.1 pk_in in
    ([], [], l.0, refl, first.1, leads_rounds st d p fit a n l.0 y z_in l.2)

-- and rounds are steps
rounds_lead : (st : StoreState) (d : ℕ) (p : Policy) → IsFit st.maxes p → IsSilent st d p → (n : ℕ) (pk y : List ℕ) →
    IsStorePacket st pk → rounds n (way_of p (λ l x. x)) pk [] y → Leads (look st d) n pk y
rounds_lead st d p fit a zero pk y pk_in g = g.1
rounds_lead st d p fit a (suc n) pk y pk_in g =
    let k = gives_round p n pk y g in
    let z_in = gives_in_range st.maxes p fit.1 pk k.0 k.1 pk_in in
    (k.0, (a.sends fit pk k.0 0 pk_in).1 (refl, k.1), rounds_lead st d p fit a n k.0 y z_in k.2)

-- any number of rounds
pub star_silent : (st new : StoreState) (d r : ℕ) (p : Policy) → Grows st new → IsSilent st d p → IsId new r →
    HasOnlyFinals (look new r) →
    ((pk y : List ℕ) → IsWhole pk → Makes (look new r) pk y ↔ ((n : ℕ) × Leads (look st d) n pk y)) →
    IsSilent new r (star_of p)
star_silent st new d r p g a id ends leads = record {
  id = id;
  ends = ends;
  sends = λ fit pk y t pk_in.
      let before = packet_before st new pk g pk_in in
      let fit_p : IsFit st.maxes p = fit_before st new p g fit in (
        λ s.
            let zero_is : t ≡ 0 = every_has (λ o. o.target ≡ 0) (look new r pk) (out_of s.0 t) (ends pk pk_in.0) (contains_has _ _ s.1) in
            let made : Makes (look new r) pk y = subst (λ u. Sends new r pk y u) zero_is s in
            let l = (leads pk y pk_in.0).0 made in
            (zero_is, (l.0, leads_rounds st d p fit_p a l.0 pk y before l.1)),
        λ s.
            let made = (leads pk y pk_in.0).1 (s.1.0, rounds_lead st d p fit_p a s.1.0 pk y before s.1.1) in
            subst (λ u. Sends new r pk y u) (sym s.0) made,
      );
}

-- the complement of a predicate's complement is the predicate
pub twice_silent : (st new : StoreState) (d r : ℕ) (p : Policy) → is_predicate p ≡ true → Grows st new → IsSilent st d p →
    IsSilent new r (not_of (not_of p)) → IsSilent new r p
twice_silent st new d r p pred g a b = record {
  id = b.id;
  ends = b.ends;
  sends = λ fit pk y t pk_in.
      let before = packet_before st new pk g pk_in in
      let fit_p = fit_before st new p g fit in
      let twice : IsFit new.maxes (not_of (not_of p)) = ((pred, (pred, fit.0)), tt) in (
        λ s.
            let k = (b.sends twice pk y t pk_in).0 s in
            (k.0, subst (λ x. Gives p pk [] x) (sym k.1.0.1) (given fit_p pk before k.1.1 (look st d pk) refl)),
        λ s.
            let kept = predicate_keeps (λ l y. y) p pred pk [] y s.1 in
            (b.sends twice pk y t pk_in).1 (s.0, ((refl, kept.1), λ never. never.1 (subst (λ x. Gives p pk [] x) kept.1 s.1))),
      );
}
  where
    given : IsFit st.maxes p → (pk : List ℕ) → IsStorePacket st pk → (Gives (not_of p) pk [] pk → ⊥) → (os : List Out) →
        look st d pk ≡ os → Gives p pk [] pk
    given fit pk before never [] e =
        absurd
        (never (
          (refl, refl),
          λ gives.
              let sent = (a.sends fit pk pk 0 before).1 (refl, gives) in
              let k : Has [] (out_of sent.0 0) = subst (λ os. Has os (out_of sent.0 0)) e (contains_has _ _ sent.1) in
              k,
        ))
    given fit pk before never (o ∷ os) e =
        let sent : Sends st d pk (applied o.act pk) o.target = (o.act, has_contains _ _ (subst (λ xs. Has xs o) (sym e) (inl refl)), refl) in
        let made = (a.sends fit pk (applied o.act pk) o.target before).0 sent in
        let same = predicate_keeps (λ l y. y) p pred pk [] (applied o.act pk) made.1 in
        subst (λ x. Gives p pk [] x) same.1 made.1
