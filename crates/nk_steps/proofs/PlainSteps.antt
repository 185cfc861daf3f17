-- The steps of diagrams whose leaves are plain: where acts that make one packet are one act or have one label.
use Rattle.std.proofs.Common.{◌≡◌, ℕ, ◌+◌, ◌<◌, ◌↔◌, List, [], ◌∷◌, length, refl, sym, ◌∙◌, ap, subst, arith, get_or, set, inl, inr}
use Rattle.std.specs.List.{Contains}
use Rattle.std.proofs.lemmas.List.{get_or_default, length-set}
use Rattle.nk_field.specs.Act.{applied}
use Rattle.nk_store.specs.declared.node.Out.{Out}
use Rattle.nk_store.specs.Nodes.{InRange}
use Rattle.nk_store.specs.Leaves.{IsActFrom, Every, Suits}
use Rattle.nk_store.specs.StoreState.{StoreState, IsWhole, IsStorePacket, look, Grows, HasLeaves, AreTidy}
use Rattle.nk_apply.specs.Unions.{AreIds, unions}
use Rattle.nk_apply.proofs.Members.{Has, has_contains, contains_has, every_has}
use Rattle.nk_determ.specs.Exact.{Sends}
use Rattle.nk_determ.specs.Sets.{place_in}
use Rattle.nk_determ.specs.Branches.{labels_of}
use Rattle.nk_steps.specs.Plain.{fields_in, IsPlain}
use Rattle.nk_determ.specs.States.{SomeLeads, AreLedTo, HasSets, regrouped}
use Rattle.nk_determ.proofs.Laws.{first_there}
use Rattle.nk_determ.proofs.Together.{unions_has, has_unions}
use Rattle.nk_determ.proofs.StatesAt.{met_same}
use Rattle.nk_determ.proofs.Regrouped.{next_only, next_there, set_of_act}

-- the items after the first one
abbrev following : List ℕ → List ℕ
following [] = []
following (x ∷ xs) = xs

-- two acts that assign the same fields and make one packet are one
pub same_act : (maxes pk : List ℕ) (low : ℕ) (g h : List (ℕ × ℕ)) → IsWhole pk → IsActFrom maxes low g →
    IsActFrom maxes low h → fields_in g ≡ fields_in h → applied g pk ≡ applied h pk → g ≡ h
same_act maxes pk low [] [] w a b f e = refl
same_act maxes pk low [] (t ∷ ts) w a b f e = let l : length (fields_in []) ≡ length (fields_in (t ∷ ts)) = ap (λ (k : List ℕ). length k) f in absurd (omega (arith, l))
same_act maxes pk low (s ∷ ss) [] w a b f e = let l : length (fields_in (s ∷ ss)) ≡ length (fields_in []) = ap (λ (k : List ℕ). length k) f in absurd (omega (arith, l))
same_act maxes pk low (s ∷ ss) (t ∷ ts) w a b f e =
    let same : s.0 ≡ t.0 = ap (λ (k : List ℕ). get_or k 0 0) f in
    let value : s.1 ≡ t.1 = sym (first_there maxes pk low s ss w a) ∙ ap (λ p. get_or p s.0 0) e ∙ ap (λ k. get_or (applied (t ∷ ts) pk) k 0) same ∙ first_there maxes pk low t ts w b in
    let one : s ≡ t = λ i. (same i, value i) in
    let ts_too : IsActFrom maxes (s.0 + 1) ts = subst (λ k. IsActFrom maxes (k + 1) ts) (sym same) b.3 in
    let made : applied ss (set pk s.0 s.1) ≡ applied ts (set pk s.0 s.1) = e ∙ ap (λ (r : ℕ × ℕ). applied ts (set pk r.0 r.1)) (sym one) in
    ap (λ r. r ∷ ss) one ∙ ap (λ rs. t ∷ rs) (same_act maxes (set pk s.0 s.1) (s.0 + 1) ss ts (length-set pk s.0 s.1 ∙ w) a.3 ts_too (ap following f) made)

-- the labels of what a plain leaf makes are those of each act that makes it
plain_one : (maxes pk : List ℕ) (os : List Out) → IsWhole pk → Every (Suits maxes) os → IsPlain os → (g h : List (ℕ × ℕ)) (l m : ℕ) → 0 < l → 0 < m →
    Has os (record { act = g; target = l }) → Has os (record { act = h; target = m }) → applied g pk ≡ applied h pk → Has os (record { act = g; target = m })
plain_one maxes pk os w suits plain g h l m p q a b e =
    let o : Out = record { act = g; target = l } in
    let u : Out = record { act = h; target = m } in
    elim plain [
      | inl label ↦ subst (λ t. Has os (record { act = g; target = t })) (label o u (has_contains os o a) (has_contains os u b) p q) a
      | inr fields ↦
          let one : g ≡ h = same_act maxes pk 0 g h w (every_has (Suits maxes) os o suits a) (every_has (Suits maxes) os u suits b) (fields o u (has_contains os o a) (has_contains os u b) p q) e in
          subst (λ k. Has os (record { act = k; target = m })) (sym one) b
    ]

-- diagrams lead where their union does
pub union_leads : (old mid : StoreState) (ds : List ℕ) (d : ℕ) → HasLeaves mid d (λ pk. unions old ds 0 (length ds) pk) → (pk y : List ℕ) (l : ℕ) → IsWhole pk →
    Sends mid d pk y l ↔ SomeLeads old ds pk y l
union_leads old mid ds d u pk y l w = (
  λ s.
      let o : Out = record { act = s.0; target = l } in
      let h = unions_has old ds 0 (length ds) pk o (subst (λ os. Has os o) (u.leaf pk w) (contains_has (look mid d pk) o s.1)) in
      let within : h.0 < length ds = omega (arith, h.2) in
      let e = get_or ds h.0 0 in
      (e, (h.0, within, get_or_default ds h.0 e 0 within), (s.0, has_contains (look old e pk) o h.3, s.2)),
  λ s.
      let o : Out = record { act = s.2.0; target = l } in
      let k = s.1.0 in
      let is : s.0 ≡ get_or ds k 0 = sym s.1.2 ∙ get_or_default ds k s.0 0 s.1.1 in
      let there : Has (look old (get_or ds k 0) pk) o = subst (λ e. Has (look old e pk) o) is (contains_has (look old s.0 pk) o s.2.1) in
      let within : k < 0 + length ds = omega (arith, s.1.1) in
      (s.2.0, has_contains (look mid d pk) o (subst (λ os. Has os o) (sym (u.leaf pk w)) (has_unions old ds 0 (length ds) k pk o (omega arith) within there)), s.2.2),
)

module _ (old mid new : StoreState) (sets : List (List ℕ)) (ds : List ℕ) (d r : ℕ) (u : HasLeaves mid d (λ pk. unions old ds 0 (length ds) pk)) (tidy : AreTidy mid)
    (k : HasLeaves new r (λ pk. regrouped sets (look mid d pk))) (held : HasSets sets mid d) where
  -- where the regrouped union leads the diagrams lead
  pub plain_leads : ((pk : List ℕ) → IsPlain (look mid d pk)) → (pk y : List ℕ) (i : ℕ) → IsStorePacket old pk → Sends new r pk y (i + 1) → AreLedTo sets old ds pk y i
  plain_leads plain pk y i p s =
      let os = look mid d pk in
      let o : Out = record { act = s.0; target = i + 1 } in
      let h : Has (regrouped sets os) o = subst (λ us. Has us o) (k.leaf pk p.0) (contains_has (look new r pk) o s.1) in
      let n = next_only sets os ((tidy d).sorted pk) s.0 i h in
      let to = set_of_act sets os ((tidy d).sorted pk) (held pk) s.0 i h in
      met_same sets i (λ l. Sends mid d pk y l) (λ l. SomeLeads old ds pk y l) (λ l. union_leads old mid ds d u pk y l p.0) (record {
        within = to.within;
        some = to.some;
        every = λ l. (
          λ c. let q = (to.every l).0 c in (q.0, (s.0, has_contains os (record { act = s.0; target = l }) q.1, s.2)),
          λ q. (to.every l).1 (
            q.0,
            plain_one mid.maxes pk os p.0 ((tidy d).suits pk) (plain pk) s.0 q.1.0 n.0 l n.1 q.0 n.2
                (contains_has os (record { act = q.1.0; target = l }) q.1.1) (sym s.2 ∙ q.1.2),
          ),
        );
      })

  -- and the other way round
  pub plain_led : (pk y : List ℕ) (l : ℕ) → IsStorePacket old pk → 0 < l → SomeLeads old ds pk y l → (i : ℕ) × Sends new r pk y (i + 1)
  plain_led pk y l p pos s =
      let os = look mid d pk in
      let m = (union_leads old mid ds d u pk y l p.0).1 s in
      let i = place_in sets (labels_of m.0 os) in
      let o : Out = record { act = m.0; target = i + 1 } in
      let h = next_there sets os ((tidy d).sorted pk) m.0 l pos (contains_has os (record { act = m.0; target = l }) m.1) in
      (i, (m.0, has_contains (look new r pk) o (subst (λ us. Has us o) (sym (k.leaf pk p.0)) h), m.2))

module _ (old mid : StoreState) (ds : List ℕ) (g : Grows old mid) (ids : AreIds old ds) where
  -- diagrams lead to the same in a store that grew
  pub grown_leads : (pk y : List ℕ) (l : ℕ) → SomeLeads mid ds pk y l ↔ SomeLeads old ds pk y l
  grown_leads pk y l = (
    λ s. (s.0, s.1, (s.2.0, subst (λ (os : List Out). Contains os (record { act = s.2.0; target = l })) (same s.0 s.1) s.2.1, s.2.2)),
    λ s. (s.0, s.1, (s.2.0, subst (λ (os : List Out). Contains os (record { act = s.2.0; target = l })) (sym (same s.0 s.1)) s.2.1, s.2.2)),
  )
    where
      same : (d : ℕ) → Contains ds d → look mid d pk ≡ look old d pk
      same d c = subst (λ e. look mid e pk ≡ look old e pk) (get_or_default ds c.0 0 d c.1 ∙ c.2) (g.leaves (get_or ds c.0 0) pk (ids c.0 c.1))

-- a packet stays one in a store that grew
pub packet_later : (old mid : StoreState) (pk : List ℕ) → Grows old mid → IsStorePacket old pk → IsStorePacket mid pk
packet_later old mid pk g p = subst (λ ms. InRange ms pk) (sym g.maxes) p
