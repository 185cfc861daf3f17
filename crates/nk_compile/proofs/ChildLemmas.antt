-- The parts of a node with children at single values.
use Rattle.std.proofs.Common.{◌≡◌, ℕ, suc, ◌+◌, ◌-◌, ◌<◌, ◌≤◌, Bool, true, false, cond, leb, ◌&&◌, ◌||◌, inl, inr, List, [], ◌∷◌, ◌++◌, length, map, get_or, take, drop, refl, sym, ap, subst, ◌∙◌, arith, drop-cons, add-one}
use Rattle.std.specs.Prelude.{◌==◌, if◌then◌else◌, slice_index, All, AllPairs}
use Rattle.std.specs.List.{list_any}
use Rattle.std.proofs.lemmas.Bool.Decides.{leb_tells, eqb_tells}
use Rattle.std.proofs.lemmas.List.{drop_all, take_all, get_or-map}
use Rattle.std.proofs.lemmas.List.Elements.{All-head, All-tail, All-weaker}
use Rattle.nk_store.specs.Nodes.{child_at, Rises, Each, InRange}
use Rattle.nk_store.specs.StoreState.{StoreState, IsStorePacket, look, root_field, Grows, HasLeaves, IsChild, AreParts}
use Rattle.nk_store.proofs.Same.{child-first, child-rest}
use Rattle.nk_compile.specs.Children.{beside, part_below, part_to, IsBeside}
use Rattle.nk_compile.specs.PacketSets.{has_some_out, IsSetInRange}

-- the parts for the values from low to high: each child at its value, the other one elsewhere
abbrev pub parts_between : ℕ → ℕ → ℕ → List (ℕ × ℕ) → List (ℕ × ℕ)
parts_between high other low [] = part_to low high other
parts_between high other low (c ∷ cs) = part_below low c.0 other ++ (c.0, c.1) ∷ parts_between high other (c.0 + 1) cs

-- the values rise from low on, up to high at most
abbrev pub Rising : ℕ → ℕ → List (ℕ × ℕ) → Type 0
Rising high low [] = Unit {0}
Rising high low (c ∷ cs) = (low ≤ c.0) × (c.0 ≤ high) × Rising high (c.0 + 1) cs

-- a number is itself, and no higher one
itself : (a b : ℕ) → a ≡ b → (a == b) ≡ true
itself a b e = elim (eqb_tells a b) [ inl same ↦ same.0 | inr other ↦ absurd (other.1 e) ]

higher : (a b : ℕ) → b < a → (a == b) ≡ false
higher a b l = elim (eqb_tells a b) [ inl same ↦ absurd (omega (arith, same.1, l)) | inr other ↦ other.0 ]

lower : (a b : ℕ) → a < b → (a == b) ≡ false
lower a b l = elim (eqb_tells a b) [ inl same ↦ absurd (omega (arith, same.1, l)) | inr other ↦ other.0 ]

-- values that ascend rise, if they are between low and high
pub rising_from : (high low : ℕ) (cs : List (ℕ × ℕ)) → AllPairs (λ v w. v < w) (map (λ (c : ℕ × ℕ). c.0) cs) →
    All (λ (c : ℕ × ℕ). low ≤ c.0) cs → All (λ (c : ℕ × ℕ). c.0 ≤ high) cs → Rising high low cs
rising_from high low [] ascend above within = tt
rising_from high low (c ∷ cs) ascend above within = (
  All-head (λ (e : ℕ × ℕ). low ≤ e.0) c cs above,
  All-head (λ (e : ℕ × ℕ). e.0 ≤ high) c cs within,
  rising_from high (c.0 + 1) cs (λ i j d l m. ascend (suc i) (suc j) d (omega (arith, l)) (omega (arith, m))) after
      (All-tail (λ (e : ℕ × ℕ). e.0 ≤ high) c cs within),
)
  where
    many : (es : List (ℕ × ℕ)) → length (map (λ (e : ℕ × ℕ). e.0) es) ≡ length es
    many [] = refl
    many (e ∷ es) = ap suc (many es)

    after : All (λ (e : ℕ × ℕ). c.0 + 1 ≤ e.0) cs
    after k d l =
        let next : c.0 < get_or (map (λ (e : ℕ × ℕ). e.0) cs) k 0 = ascend 0 (suc k) 0 (omega arith) (omega (arith, l, many cs)) in
        let is : get_or (map (λ (e : ℕ × ℕ). e.0) cs) k 0 ≡ (get_or cs k d).0 = get_or-map (λ (e : ℕ × ℕ). e.0) cs k d 0 l in
        omega (arith, next, is)

-- no child stands beside a value below them
beside_below : (high low other : ℕ) (cs : List (ℕ × ℕ)) (v : ℕ) → Rising high low cs → v < low → beside other cs v ≡ other
beside_below high low other [] v r l = refl
beside_below high low other (c ∷ cs) v r l =
    ap (λ b. if b then c.1 else beside other cs v) (higher c.0 v (omega (arith, r.0, l)))
    ∙ beside_below high (c.0 + 1) other cs v r.2 (omega (arith, r.0, l))

-- the parts rise
pub parts_rise : (high other low : ℕ) (cs : List (ℕ × ℕ)) → low ≤ high + 1 → Rising high low cs → Rises high low (parts_between high other low cs)
parts_rise high other low [] le r = elim (leb_tells low high) [
  | inl some ↦ subst (λ b. Rises high low (cond b ((high, other) ∷ []) [])) (sym some.0) (some.1, omega arith, refl)
  | inr none ↦ subst (λ b. Rises high low (cond b ((high, other) ∷ []) [])) (sym none.0) (omega (arith, le, none.1))
]
parts_rise high other low (c ∷ cs) le r =
    let later : Rises high (c.0 + 1) (parts_between high other (c.0 + 1) cs) = parts_rise high other (c.0 + 1) cs (omega (arith, r.1)) r.2 in
    elim (leb_tells c.0 low) [
      | inl none ↦
          subst (λ b. Rises high low (cond b [] ((c.0 - 1, other) ∷ []) ++ (c.0, c.1) ∷ parts_between high other (c.0 + 1) cs)) (sym none.0)
          (r.0, r.1, later)
      | inr some ↦
          subst (λ b. Rises high low (cond b [] ((c.0 - 1, other) ∷ []) ++ (c.0, c.1) ∷ parts_between high other (c.0 + 1) cs)) (sym some.0)
          (omega (arith, some.1), omega (arith, r.1), (omega (arith, some.1), r.1, later))
    ]

-- what holds of each child and of the other one holds of the children of the parts
pub parts_each : (P : ℕ → Type 0) (high other low : ℕ) (cs : List (ℕ × ℕ)) → P other → All (λ (c : ℕ × ℕ). P c.1) cs → Each P (parts_between high other low cs)
parts_each P high other low [] o h = elim (leb low high) as (λ b. Each P (cond b ((high, other) ∷ []) [])) [ true ↦ (o, tt) | false ↦ tt ]
parts_each P high other low (c ∷ cs) o h =
    let later : Each P (parts_between high other (c.0 + 1) cs) = parts_each P high other (c.0 + 1) cs o (All-tail (λ (e : ℕ × ℕ). P e.1) c cs h) in
    let here : P c.1 = All-head (λ (e : ℕ × ℕ). P e.1) c cs h in
    elim (leb c.0 low) as (λ b. Each P (cond b [] ((c.0 - 1, other) ∷ []) ++ (c.0, c.1) ∷ parts_between high other (c.0 + 1) cs)) [
      | true ↦ (here, later)
      | false ↦ (o, (here, later))
    ]

-- from the first value on
child_from : (other e : ℕ) (c : ℕ × ℕ) (cs qs : List (ℕ × ℕ)) (v : ℕ) → c.0 ≤ v → (c.0 < v → child_at c.1 qs v ≡ beside other cs v) →
    child_at e ((c.0, c.1) ∷ qs) v ≡ beside other (c ∷ cs) v
child_from other e c cs qs v le later = elim (leb_tells v c.0) [
  | inl first ↦
      child-first e (c.0, c.1) qs v first.1
      ∙ sym (ap (λ b. if b then c.1 else beside other cs v) (itself c.0 v (omega (arith, le, first.1))))
  | inr past ↦
      child-rest e (c.0, c.1) qs v past.1 ∙ later past.1
      ∙ sym (ap (λ b. if b then c.1 else beside other cs v) (lower c.0 v past.1))
]

-- the child of the parts at a value is the one beside it
pub parts_child : (high other low d : ℕ) (cs : List (ℕ × ℕ)) (v : ℕ) → Rising high low cs → low ≤ v → v ≤ high →
    child_at d (parts_between high other low cs) v ≡ beside other cs v
parts_child high other low d [] v r l m = elim (leb_tells low high) [
  | inl some ↦ ap (λ b. child_at d (cond b ((high, other) ∷ []) []) v) some.0 ∙ child-first d (high, other) [] v m
  | inr none ↦ absurd (omega (arith, l, m, none.1))
]
parts_child high other low d (c ∷ cs) v r l m =
    let qs : List (ℕ × ℕ) = parts_between high other (c.0 + 1) cs in
    let later : c.0 < v → child_at c.1 qs v ≡ beside other cs v = λ past. parts_child high other (c.0 + 1) c.1 cs v r.2 (omega (arith, past)) m in
    elim (leb_tells c.0 low) [
      | inl none ↦
          ap (λ b. child_at d (cond b [] ((c.0 - 1, other) ∷ []) ++ (c.0, c.1) ∷ qs) v) none.0
          ∙ child_from other d c cs qs v (omega (arith, none.1, l)) later
      | inr some ↦
          ap (λ b. child_at d (cond b [] ((c.0 - 1, other) ∷ []) ++ (c.0, c.1) ∷ qs) v) some.0
          ∙ elim (leb_tells v (c.0 - 1)) [
            | inl under ↦
                child-first d (c.0 - 1, other) ((c.0, c.1) ∷ qs) v under.1
                ∙ sym (beside_below high c.0 other (c ∷ cs) v (omega arith, r.1, r.2) (omega (arith, under.1, some.1)))
            | inr past ↦
                child-rest d (c.0 - 1, other) ((c.0, c.1) ∷ qs) v past.1
                ∙ child_from other other c cs qs v (omega (arith, past.1)) later
          ]
    ]

-- one list after the others
moved : (xs bs fs : List (ℕ × ℕ)) (x : ℕ × ℕ) → ((xs ++ bs) ++ x ∷ []) ++ fs ≡ xs ++ (bs ++ x ∷ fs)
moved [] [] fs x = refl
moved [] (b ∷ bs) fs x = ap (λ l. b ∷ l) (moved [] bs fs x)
moved (a ∷ xs) bs fs x = ap (λ l. a ∷ l) (moved xs bs fs x)

-- the parts so far and those of one child more
pub parts_step : (high other low i : ℕ) (c e : ℕ × ℕ) (cs ps mid more whole : List (ℕ × ℕ)) → i < length cs → c ≡ get_or cs i e →
    mid ≡ ps ++ part_below low c.0 other → more ≡ mid ++ (c.0, c.1) ∷ [] → ps ++ parts_between high other low (drop i cs) ≡ whole →
    more ++ parts_between high other (c.0 + 1) (drop (i + 1) cs) ≡ whole
parts_step high other low i c e cs ps mid more whole l is first second all =
    let front : drop i cs ≡ get_or cs i e ∷ drop (i + 1) cs = rw add-one (drop-cons cs i e l) in
    let fs : List (ℕ × ℕ) = parts_between high other (c.0 + 1) (drop (i + 1) cs) in
    ap (λ qs. qs ++ fs) (second ∙ ap (λ qs. qs ++ (c.0, c.1) ∷ []) first)
    ∙ moved ps (part_below low c.0 other) fs (c.0, c.1)
    ∙ sym (ap (λ xs. ps ++ parts_between high other low xs) (front ∙ ap (λ x. x ∷ drop (i + 1) cs) (sym is)))
    ∙ all

-- and the last part
pub parts_end : (high other low i : ℕ) (cs ps more whole : List (ℕ × ℕ)) → length cs ≤ i → more ≡ ps ++ part_to low high other →
    ps ++ parts_between high other low (drop i cs) ≡ whole → more ≡ whole
parts_end high other low i cs ps more whole done put e =
    put ∙ sym (ap (λ xs. ps ++ parts_between high other low xs) (drop_all i cs done)) ∙ e

-- what the parts are
pub record AreFilled (st : StoreState) (f other : ℕ) (cs ps : List (ℕ × ℕ)) : Type 0 where
  pub parts : AreParts st f ps
  pub child : (v : ℕ) → v ≤ slice_index st.maxes f → child_at 0 ps v ≡ beside other cs v

pub are_filled : (st : StoreState) (f high other i : ℕ) (cs ps : List (ℕ × ℕ)) → f < 18 → high ≡ slice_index st.maxes f → 65535 ≤ slice_index st.maxes f →
    AllPairs (λ v w. v < w) (map (λ (c : ℕ × ℕ). c.0) cs) → IsChild st f other → All (λ (c : ℕ × ℕ). IsChild st f c.1) cs →
    length cs ≤ i → All (λ (c : ℕ × ℕ). c.0 ≤ 65535) (take i cs) → ps ≡ parts_between high other 0 cs → AreFilled st f other cs ps
are_filled st f high other i cs ps field is most ascend o kids done small e =
    let max : ℕ = slice_index st.maxes f in
    let short : All (λ (c : ℕ × ℕ). c.0 ≤ 65535) cs = subst (λ xs. All (λ (c : ℕ × ℕ). c.0 ≤ 65535) xs) (take_all i cs done) small in
    let rising : Rising max 0 cs =
    rising_from max 0 cs ascend (λ k d l. omega arith) (All-weaker (λ (c : ℕ × ℕ). c.0 ≤ 65535) (λ (c : ℕ × ℕ). c.0 ≤ max) (λ c l. omega (arith, l, most)) cs short) in
    let same : ps ≡ parts_between max other 0 cs = e ∙ ap (λ n. parts_between n other 0 cs) is in
    record {
      parts = subst (AreParts st f) (sym same)
          (record { field = field; rise = parts_rise max other 0 cs (omega arith) rising; children = parts_each (IsChild st f) max other 0 cs o kids });
      child = λ v l. ap (λ qs. child_at 0 qs v) same ∙ parts_child max other 0 0 cs v rising (omega arith) l;
    }

-- the node of these parts
pub is_beside : (st new : StoreState) (f other d : ℕ) (cs ps : List (ℕ × ℕ)) → Grows st new →
    ((v : ℕ) → v ≤ slice_index st.maxes f → child_at 0 ps v ≡ beside other cs v) →
    HasLeaves new d (λ pk. look st (child_at 0 ps (slice_index pk f)) pk) → f ≤ root_field new d → IsBeside st f other cs new d
is_beside st new f other d cs ps g child h later = record {
  id = h.id;
  leaf = λ pk r. h.leaf pk r.0 ∙ ap (λ n. look st n pk) (child (slice_index pk f) (subst (λ m. slice_index pk f ≤ slice_index m f) g.maxes (r.1 f)));
  later = later;
}

-- a value that stands beside a child has its set, another value that of none
sets_beside : (st : StoreState) (other : ℕ) (test : ℕ → List ℕ → Bool) (cs : List (ℕ × ℕ)) (v : ℕ) (pk : List ℕ) → IsStorePacket st pk →
    IsSetInRange st other (λ q. false) → All (λ (c : ℕ × ℕ). IsSetInRange st c.1 (test c.0)) cs →
    has_some_out (look st (beside other cs v) pk) ≡ (list_any (λ n. n == v) (map (λ (c : ℕ × ℕ). c.0) cs) && test v pk)
sets_beside st other test [] v pk r o h = o.at pk r
sets_beside st other test (c ∷ cs) v pk r o h =
    elim (eqb_tells c.0 v) [
      | inl same ↦
          ap (λ b. has_some_out (look st (if b then c.1 else beside other cs v) pk)) same.0
          ∙ (All-head (λ (e : ℕ × ℕ). IsSetInRange st e.1 (test e.0)) c cs h).at pk r
          ∙ ap (λ n. test n pk) same.1
          ∙ sym (ap (λ b. (b || list_any (λ n. n == v) (map (λ (e : ℕ × ℕ). e.0) cs)) && test v pk) same.0)
      | inr apart ↦
          ap (λ b. has_some_out (look st (if b then c.1 else beside other cs v) pk)) apart.0
          ∙ sets_beside st other test cs v pk r o (All-tail (λ (e : ℕ × ℕ). IsSetInRange st e.1 (test e.0)) c cs h)
          ∙ sym (ap (λ b. (b || list_any (λ n. n == v) (map (λ (e : ℕ × ℕ). e.0) cs)) && test v pk) apart.0)
    ]

-- the set of the node
pub set_beside : (st new : StoreState) (f other d : ℕ) (test : ℕ → List ℕ → Bool) (cs : List (ℕ × ℕ)) → Grows st new → IsBeside st f other cs new d →
    IsSetInRange st other (λ q. false) → All (λ (c : ℕ × ℕ). IsSetInRange st c.1 (test c.0)) cs →
    IsSetInRange new d (λ pk. list_any (λ n. n == slice_index pk f) (map (λ (c : ℕ × ℕ). c.0) cs) && test (slice_index pk f) pk)
set_beside st new f other d test cs g h o sets = record {
  id = h.id;
  at = λ pk r. ap has_some_out (h.leaf pk r) ∙ sets_beside st other test cs (slice_index pk f) pk (subst (λ m. InRange m pk) g.maxes r) o sets;
}
