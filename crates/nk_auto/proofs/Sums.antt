-- Diagrams of the parts of a sum, put together in any order.
use Rattle.std.proofs.Common.{◌≡◌, ℕ, zero, suc, ◌<◌, ◌⊎◌, inl, inr, ⊎_elim, List, [], ◌∷◌, ◌++◌, length, get_or, refl, sym, subst, ◌∙◌, arith}
use Rattle.std.specs.Prelude.{slice_index, Contains}
use Rattle.nk_policy.specs.Policy.{Policy, Policies, sum_of, no_part, part}
use Rattle.nk_policy.specs.Meaning.{Gives}
use Rattle.nk_policy.specs.Progress.{RecordsAt, SomeRecordsAt}
use Rattle.nk_store.specs.declared.node.Out.{Out}
use Rattle.nk_store.specs.Leaves.{Every}
use Rattle.nk_store.specs.StoreState.{StoreState, IsId, IsWhole, IsStorePacket, look, Grows, HasLeaves}
use Rattle.nk_apply.specs.Unions.{AreIds, unions}
use Rattle.nk_apply.proofs.Members.{Has, contains_has, has_contains, every_has, every_from}
use Rattle.nk_auto.specs.Plain.{Sends}
use Rattle.nk_auto.specs.Continued.{IsFit, AreFit, IsSilent, GoesOn, IsContinued}
use Rattle.nk_auto.proofs.Sending.{out_of, sends_on, sends_back, unions_has, has_unions}
use Rattle.nk_auto.proofs.Silences.{fit_before, packet_before}

-- p is one of the parts
abbrev pub In : Policies → Policy → Type 0
In no_part p = ⊥
In (part q qs) p = (q ≡ p) ⊎ In qs p

-- each of the diagrams is one of some part's, and each part has one
pub record AreOf (P : StoreState → ℕ → Policy → Type 0) (st : StoreState) (ids : List ℕ) (ps : Policies) : Type 0 where
  pub from : (d : ℕ) → Has ids d → (p : Policy) × In ps p × P st d p
  pub to : (p : Policy) → In ps p → (d : ℕ) × Has ids d × P st d p

-- a member stays where one more is put at the end
has_before : (ids : List ℕ) (d e : ℕ) → Has ids e → Has (ids ++ d ∷ []) e
has_before [] d e h = absurd h
has_before (i ∷ ids) d e (inl is) = inl is
has_before (i ∷ ids) d e (inr h) = inr (has_before ids d e h)

-- the one at the end is a member
has_last : (ids : List ℕ) (d : ℕ) → Has (ids ++ d ∷ []) d
has_last [] d = inl refl
has_last (i ∷ ids) d = inr (has_last ids d)

-- a member is one of those before or the one at the end
has_either : (ids : List ℕ) (d e : ℕ) → Has (ids ++ d ∷ []) e → Has ids e ⊎ (d ≡ e)
has_either [] d e (inl is) = inr is
has_either [] d e (inr h) = absurd h
has_either (i ∷ ids) d e (inl is) = inl (inl is)
has_either (i ∷ ids) d e (inr h) = ⊎_elim (λ k. inl (inr k)) (λ k. inr k) (has_either ids d e h)

-- one more part and its diagram
pub one_more_of : (P : StoreState → ℕ → Policy → Type 0) → ((old new : StoreState) (d : ℕ) (p : Policy) → Grows old new → P old d p → P new d p) →
    (st new : StoreState) (ids more : List ℕ) (ps : Policies) (d : ℕ) (p : Policy) → Grows st new → more ≡ ids ++ d ∷ [] →
    AreOf P st ids ps → P new d p → AreOf P new more (part p ps)
one_more_of P mono st new ids more ps d p g pushed a one = subst (λ l. AreOf P new l (part p ps)) (sym pushed) both
  where
    both : AreOf P new (ids ++ d ∷ []) (part p ps)
    both = record {
      from = λ e h.
          ⊎_elim
          (λ k. let r = a.from e k in (r.0, inr r.1, mono st new e r.0 g r.2))
          (λ k. (p, inl refl, subst (λ i. P new i p) k one))
          (has_either ids d e h);
      to = λ q h.
          ⊎_elim
          (λ k. (d, has_last ids d, subst (λ r. P new d r) k one))
          (λ k. let r = a.to q k in (r.0, has_before ids d r.0 r.1, mono st new r.0 q g r.2))
          h;
    }

-- what stands at a place is a member
pub has_at : (ids : List ℕ) (k : ℕ) → k < length ids → Has ids (slice_index ids k)
has_at [] k lt = absurd (omega arith)
has_at (i ∷ ids) zero lt = inl refl
has_at (i ∷ ids) (suc k) lt = inr (has_at ids k (omega arith))

-- so all are numbers of the store
pub ids_of : (P : StoreState → ℕ → Policy → Type 0) → ((st : StoreState) (d : ℕ) (p : Policy) → P st d p → IsId st d) →
    (st : StoreState) (ids given : List ℕ) (ps : Policies) → given ≡ ids → AreOf P st ids ps → AreIds st given
ids_of P known st ids given ps same a =
    subst (AreIds st) (sym same) (λ k lt. let r = a.from (slice_index ids k) (has_at ids k lt) in known st (slice_index ids k) r.0 r.2)

-- a member of many diagrams together is one of a part's diagram
outs_of_some : (P : StoreState → ℕ → Policy → Type 0) (st : StoreState) (ids : List ℕ) (ps : Policies) (pk : List ℕ) (o : Out) →
    AreOf P st ids ps → Has (unions st ids 0 (length ids) pk) o →
    (d : ℕ) × (p : Policy) × In ps p × P st d p × Has (look st d pk) o
outs_of_some P st ids ps pk o a h =
    let k = unions_has st ids 0 (length ids) pk o h in
    let r = a.from (slice_index ids k.0) (has_at ids k.0 (omega (arith, k.1))) in
    (slice_index ids k.0, r.0, r.1, r.2, k.2)

-- and each of theirs is one
outs_of_each : (st : StoreState) (ids : List ℕ) (d : ℕ) (pk : List ℕ) (o : Out) → Has ids d → Has (look st d pk) o →
    Has (unions st ids 0 (length ids) pk) o
outs_of_each st ids d pk o h k =
    let c = has_contains ids d h in
    let at : slice_index ids c.0 ≡ d = place ids d c in
    has_unions st ids 0 (length ids) pk o c.0 (omega arith) (omega (arith, c.1)) (subst (λ i. Has (look st i pk) o) (sym at) k)
  where
    place : (xs : List ℕ) (x : ℕ) → (m : Contains xs x) → slice_index xs m.0 ≡ x
    place xs x m = default xs m.0 x m.1 ∙ m.2
      where
        default : (ys : List ℕ) (i e : ℕ) → i < length ys → get_or ys i 0 ≡ get_or ys i e
        default [] i e lt = absurd (omega arith)
        default (y ∷ ys) zero e lt = refl
        default (y ∷ ys) (suc i) e lt = default ys i e (omega arith)

-- a sum ends where a part does
pub gives_some : (ps : Policies) (pk : List ℕ) (w : List (List ℕ)) (y : List ℕ) → Gives (sum_of ps) pk w y →
    (p : Policy) × In ps p × Gives p pk w y
gives_some no_part pk w y g = absurd g
gives_some (part p ps) pk w y g =
    ⊎_elim (λ k. (p, inl refl, k)) (λ k. let r = gives_some ps pk w y k in (r.0, inr r.1, r.2)) g

-- and where a part ends the sum does
pub some_gives : (ps : Policies) (p : Policy) (pk : List ℕ) (w : List (List ℕ)) (y : List ℕ) → In ps p → Gives p pk w y →
    Gives (sum_of ps) pk w y
some_gives no_part p pk w y i g = absurd i
some_gives (part q qs) p pk w y (inl e) g = inl (subst (λ r. Gives r pk w y) (sym e) g)
some_gives (part q qs) p pk w y (inr i) g = inr (some_gives qs p pk w y i g)

-- a sum records what a part does
pub records_some : (ps : Policies) (pk y : List ℕ) (t : ℕ) → SomeRecordsAt ps pk [] y t →
    (p : Policy) × In ps p × RecordsAt p pk [] y t
records_some no_part pk y t g = absurd g
records_some (part p ps) pk y t g =
    ⊎_elim (λ k. (p, inl refl, k)) (λ k. let r = records_some ps pk y t k in (r.0, inr r.1, r.2)) g

-- and what a part records the sum does
pub some_records : (ps : Policies) (p : Policy) (pk y : List ℕ) (t : ℕ) → In ps p → RecordsAt p pk [] y t →
    SomeRecordsAt ps pk [] y t
some_records no_part p pk y t i g = absurd i
some_records (part q qs) p pk y t (inl e) g = inl (subst (λ r. RecordsAt r pk [] y t) (sym e) g)
some_records (part q qs) p pk y t (inr i) g = inr (some_records qs p pk y t i g)

-- each part of a fit sum is fit
pub part_fit : (maxes : List ℕ) (ps : Policies) (p : Policy) → AreFit maxes ps → In ps p → IsFit maxes p
part_fit maxes no_part p fit i = absurd i
part_fit maxes (part q qs) p fit (inl e) = subst (IsFit maxes) e (fit.0.0, fit.1.0)
part_fit maxes (part q qs) p fit (inr i) = part_fit maxes qs p (fit.0.1, fit.1.1) i

-- the silent diagrams of the parts together are that of the sum
pub sum_silent : (st new : StoreState) (ids given : List ℕ) (ps : Policies) (r : ℕ) → given ≡ ids → Grows st new →
    AreOf IsSilent st ids ps → HasLeaves new r (λ pk. unions st given 0 (length given) pk) →
    IsSilent new r (sum_of ps)
sum_silent st new ids given ps r same g a united =
    with_ids (subst (λ l. HasLeaves new r (λ pk. unions st l 0 (length l) pk)) same united)
  where
    with_ids : HasLeaves new r (λ pk. unions st ids 0 (length ids) pk) → IsSilent new r (sum_of ps)
    with_ids h = record {
      id = h.id;
      ends = λ pk w.
          subst (Every (λ o. o.target ≡ 0)) (sym (h.leaf pk w))
          (every_from (λ o. o.target ≡ 0) (unions st ids 0 (length ids) pk) (λ o k.
          let s = outs_of_some IsSilent st ids ps pk o a k in
          every_has (λ x. x.target ≡ 0) (look st s.0 pk) o (s.3.ends pk w) s.4));
      sends = λ fit pk y t range.
          let before = packet_before st new pk g range in
          let fits : IsFit st.maxes (sum_of ps) = fit_before st new (sum_of ps) g fit in (
            λ s.
                let m : Has (unions st ids 0 (length ids) pk) (out_of s.0 t) = subst (λ os. Has os (out_of s.0 t)) (h.leaf pk range.0) (contains_has _ _ s.1) in
                let k = outs_of_some IsSilent st ids ps pk (out_of s.0 t) a m in
                let given = (k.3.sends (part_fit st.maxes ps k.1 fits k.2) pk y t before).0 (s.0, has_contains _ _ k.4, s.2) in
                (given.0, some_gives ps k.1 pk [] y k.2 given.1),
            λ s.
                let k = gives_some ps pk [] y s.1 in
                let d = a.to k.0 k.1 in
                let sent = (d.2.sends (part_fit st.maxes ps k.0 fits k.1) pk y t before).1 (s.0, k.2) in
                let m = outs_of_each st ids d.0 pk (out_of sent.0 t) d.1 (contains_has _ _ sent.1) in
                (sent.0, has_contains _ _ (subst (λ os. Has os (out_of sent.0 t)) (sym (h.leaf pk range.0)) m), sent.2),
          );
    }

-- the diagram of a part, continued by k
abbrev pub IsOnward : ℕ → StoreState → ℕ → Policy → Type 0
IsOnward k st d p = IsContinued st d p k

-- where a part goes on, the diagrams together send
part_onward : (st new : StoreState) (ids : List ℕ) (ps : Policies) (k r : ℕ) → AreOf (IsOnward k) st ids ps →
    HasLeaves new r (λ pk. unions st ids 0 (length ids) pk) → (pk y : List ℕ) (t : ℕ) → IsWhole pk → IsStorePacket st pk →
    IsFit st.maxes (sum_of ps) → (p : Policy) → In ps p → GoesOn st p k pk y t → Sends new r pk y t
part_onward st new ids ps k r a h pk y t w before fits p i goes =
    let d = a.to p i in
    let sent = (d.2.sends (part_fit st.maxes ps p fits i) pk y t before).1 goes in
    let m = outs_of_each st ids d.0 pk (out_of sent.0 t) d.1 (contains_has _ _ sent.1) in
    (sent.0, has_contains _ _ (subst (λ os. Has os (out_of sent.0 t)) (sym (h.leaf pk w)) m), sent.2)

-- the continued diagrams of the parts together are that of the sum
pub sum_continued : (st new : StoreState) (ids given : List ℕ) (ps : Policies) (k r : ℕ) → given ≡ ids → Grows st new → IsId st k →
    AreOf (IsOnward k) st ids ps → HasLeaves new r (λ pk. unions st given 0 (length given) pk) →
    IsContinued new r (sum_of ps) k
sum_continued st new ids given ps k r same g ik a united =
    with_ids (subst (λ l. HasLeaves new r (λ pk. unions st l 0 (length l) pk)) same united)
  where
    with_ids : HasLeaves new r (λ pk. unions st ids 0 (length ids) pk) → IsContinued new r (sum_of ps) k
    with_ids h = record {
      id = h.id;
      next = g.ids k ik;
      sends = λ fit pk y t range.
          let before = packet_before st new pk g range in
          let fits : IsFit st.maxes (sum_of ps) = fit_before st new (sum_of ps) g fit in (
            λ s.
                let m : Has (unions st ids 0 (length ids) pk) (out_of s.0 t) = subst (λ os. Has os (out_of s.0 t)) (h.leaf pk range.0) (contains_has _ _ s.1) in
                let q = outs_of_some (IsOnward k) st ids ps pk (out_of s.0 t) a m in
                ⊎_elim
                (λ e. inl (e.0, some_gives ps q.1 pk [] e.0 q.2 e.1, sends_on st new k e.0 y t g ik e.2))
                (λ e. inr (some_records ps q.1 pk y t q.2 e))
                ((q.3.sends (part_fit st.maxes ps q.1 fits q.2) pk y t before).0 (s.0, has_contains _ _ q.4, s.2)),
            λ s.
                ⊎_elim
                (λ e. let q = gives_some ps pk [] e.0 e.1 in part_onward st new ids ps k r a h pk y t range.0 before fits q.0 q.1 (inl (e.0, q.2, sends_back st new k e.0 y t g ik e.2)))
                (λ e. let q = records_some ps pk y t e in part_onward st new ids ps k r a h pk y t range.0 before fits q.0 q.1 (inr q.2))
                s,
          );
    }
