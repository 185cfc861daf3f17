-- Entries of outs, and as stores grow.
use Rattle.std.proofs.Common.{◌≡◌, ℕ, ◌<◌, ◌≤◌, ◌+◌, ◌-◌, ◌⊎◌, inl, inr, refl, sym, ◌∙◌, ap, subst, arith, List, [], ◌∷◌, ◌++◌, length, length-append, get_or}
use Rattle.std.proofs.lemmas.Bool.Decides.{eqb_tells}
use Rattle.std.proofs.lemmas.List.{get_or_append_left, get_or-append_right, get_or_default}
use Rattle.nk_store.specs.declared.node.Out.{Out}
use Rattle.nk_store.specs.Leaves.{Suits}
use Rattle.nk_store.specs.StoreState.{StoreState, Grows, root_field}
use Rattle.nk_apply.specs.Seqs.{no_out}
use Rattle.nk_sets.specs.PacketSets.{IsSet}
use Rattle.nk_sets.proofs.SetLemmas.{set_grows}
use Rattle.nk_sets.specs.declared.outs.OutPackets.{OutPackets}
use Rattle.nk_sets.specs.Outs.{out_with_packets, entry, SuitsStore, AllSuitStore, AreLater, GivesOut, GivesAny}
use Rattle.nk_sets.proofs.Kept.{Has, has_on, has_back}

-- an entry stays one as the store grows
pub suits_on : (a b : StoreState) (e : OutPackets) → Grows a b → SuitsStore a e → SuitsStore b e
suits_on a b e g k = record { suits = subst (λ (m : List ℕ). Suits m e.out) (sym g.maxes) k.suits; packets = set_grows a b e.packets g k.packets }

-- entries stay entries as the store grows
pub all_suit_on : (a b : StoreState) (es : List OutPackets) → Grows a b → AllSuitStore a es → AllSuitStore b es
all_suit_on a b es g k i l = suits_on a b (entry es i) g (k i l)

-- an entry by its place
pub entry_at : (es : List OutPackets) (n : ℕ) (q : OutPackets) → n < length es → q ≡ get_or es n q → q ≡ entry es n
entry_at es n q l is = is ∙ get_or_default es n q (out_with_packets 0 no_out) l

-- what is known of an entry by its place
pub suits_at : (st : StoreState) (es : List OutPackets) (n : ℕ) (q : OutPackets) → AllSuitStore st es → n < length es → q ≡ get_or es n q → SuitsStore st q
suits_at st es n q k l is = subst (SuitsStore st) (sym (entry_at es n q l is)) (k n l)

-- an entry's packets are a set
pub is_set_at : (st : StoreState) (es : List OutPackets) (n : ℕ) (q : OutPackets) → AllSuitStore st es → n < length es → q ≡ get_or es n q → IsSet st q.packets
is_set_at st es n q k l is = (suits_at st es n q k l is).packets

-- what entries give they give in a grown store
pub gives_on : (a b : StoreState) (es : List OutPackets) (from to : ℕ) (x : List ℕ) (o : Out) → Grows a b → AllSuitStore a es → to ≤ length es → GivesOut a es from to x o → GivesOut b es from to x o
gives_on a b es from to x o g k l w = (w.0, w.1, w.2, w.3, has_on a b (entry es w.0).packets x g (k w.0 (omega (arith, l, w.2))).packets.id w.4)

-- what entries give in a grown store they gave before
pub gives_back : (a b : StoreState) (es : List OutPackets) (from to : ℕ) (x : List ℕ) (o : Out) → Grows a b → AllSuitStore a es → to ≤ length es → GivesOut b es from to x o → GivesOut a es from to x o
gives_back a b es from to x o g k l w = (w.0, w.1, w.2, w.3, has_back a b (entry es w.0).packets x g (k w.0 (omega (arith, l, w.2))).packets.id w.4)

-- what the first entries give, one more gives too
pub gives_more : (st : StoreState) (es : List OutPackets) (n : ℕ) (x : List ℕ) (o : Out) → GivesOut st es 0 n x o → GivesOut st es 0 (n + 1) x o
gives_more st es n x o w = (w.0, w.1, omega (arith, w.2), w.3, w.4)

-- what one more gives
pub gives_last : (st : StoreState) (es : List OutPackets) (n : ℕ) (q : OutPackets) (x : List ℕ) (o : Out) → n < length es → q ≡ get_or es n q → q.out ≡ o → Has st q.packets x → GivesOut st es 0 (n + 1) x o
gives_last st es n q x o l is e h =
    let at : q ≡ entry es n = entry_at es n q l is in
    (n, omega arith, omega arith, subst (λ (z : OutPackets). z.out ≡ o) at e, subst (λ (z : OutPackets). Has st z.packets x) at h)

-- what the first entries and one more give, they give or it gives
pub gives_less : (st : StoreState) (es : List OutPackets) (n : ℕ) (q : OutPackets) (x : List ℕ) (o : Out) → n < length es → q ≡ get_or es n q → GivesOut st es 0 (n + 1) x o → GivesOut st es 0 n x o ⊎ ((q.out ≡ o) × Has st q.packets x)
gives_less st es n q x o l is w = elim (eqb_tells w.0 n) [
  | inl same ↦
      let at : entry es w.0 ≡ q = ap (λ k. entry es k) same.1 ∙ sym (entry_at es n q l is) in
      inr (subst (λ (z : OutPackets). z.out ≡ o) at w.3, subst (λ (z : OutPackets). Has st z.packets x) at w.4)
  | inr other ↦ inl (w.0, w.1, omega (arith, w.2, other.1), w.3, w.4)
]

-- the entry at a place before one that was put after
pub push_old : (es : List OutPackets) (e : OutPackets) (k : ℕ) → k < length es → entry (es ++ e ∷ []) k ≡ entry es k
push_old es e k l = get_or_append_left es (e ∷ []) (out_with_packets 0 no_out) k l

-- the entry that was put after
pub push_new : (es : List OutPackets) (e : OutPackets) → entry (es ++ e ∷ []) (length es) ≡ e
push_new es e = get_or-append_right es (e ∷ []) (length es) (length es) (out_with_packets 0 no_out) refl (omega arith)
    ∙ (let z : length es - length es ≡ 0 = omega arith in ap (λ k. get_or (e ∷ []) k (out_with_packets 0 no_out)) z)

-- one entry more
pub suits_push : (st : StoreState) (es : List OutPackets) (e : OutPackets) → AllSuitStore st es → SuitsStore st e → AllSuitStore st (es ++ e ∷ [])
suits_push st es e k h i l = elim (eqb_tells i (length es)) [
  | inl same ↦ subst (SuitsStore st) (sym (ap (λ j. entry (es ++ e ∷ []) j) same.1 ∙ push_new es e)) h
  | inr other ↦
      let m : i < length es = omega (arith, l, length-append es (e ∷ []), other.1) in
      subst (SuitsStore st) (sym (push_old es e i m)) (k i m)
]

-- what entries gave they give with one more
pub any_old : (st : StoreState) (es : List OutPackets) (e : OutPackets) (x : List ℕ) (o : Out) → GivesAny st es x o → GivesAny st (es ++ e ∷ []) x o
any_old st es e x o w =
    let at : entry es w.0 ≡ entry (es ++ e ∷ []) w.0 = sym (push_old es e w.0 w.2) in
    (w.0, w.1, omega (arith, w.2, length-append es (e ∷ [])), subst (λ (z : OutPackets). z.out ≡ o) at w.3, subst (λ (z : OutPackets). Has st z.packets x) at w.4)

-- what the further entry gives
pub any_new : (st : StoreState) (es : List OutPackets) (e : OutPackets) (x : List ℕ) (o : Out) → e.out ≡ o → Has st e.packets x → GivesAny st (es ++ e ∷ []) x o
any_new st es e x o is h =
    let at : e ≡ entry (es ++ e ∷ []) (length es) = sym (push_new es e) in
    (length es, omega arith, omega (arith, length-append es (e ∷ [])), subst (λ (z : OutPackets). z.out ≡ o) at is, subst (λ (z : OutPackets). Has st z.packets x) at h)

-- what entries with one more give
pub any_back : (st : StoreState) (es : List OutPackets) (e : OutPackets) (x : List ℕ) (o : Out) → GivesAny st (es ++ e ∷ []) x o → GivesAny st es x o ⊎ ((e.out ≡ o) × Has st e.packets x)
any_back st es e x o w = elim (eqb_tells w.0 (length es)) [
  | inl same ↦
      let at : entry (es ++ e ∷ []) w.0 ≡ e = ap (λ j. entry (es ++ e ∷ []) j) same.1 ∙ push_new es e in
      inr (subst (λ (z : OutPackets). z.out ≡ o) at w.3, subst (λ (z : OutPackets). Has st z.packets x) at w.4)
  | inr other ↦
      let m : w.0 < length es = omega (arith, w.2, length-append es (e ∷ []), other.1) in
      let at : entry (es ++ e ∷ []) w.0 ≡ entry es w.0 = push_old es e w.0 m in
      inl (w.0, w.1, m, subst (λ (z : OutPackets). z.out ≡ o) at w.3, subst (λ (z : OutPackets). Has st z.packets x) at w.4)
]

-- what no set tests it doesn't test in a grown store
pub later_on : (a b : StoreState) (f : ℕ) (es : List OutPackets) → Grows a b → AllSuitStore a es → AreLater a f es → AreLater b f es
later_on a b f es g k later i l = let e : root_field b (entry es i).packets ≡ root_field a (entry es i).packets = g.root_fields (entry es i).packets (k i l).packets.id in omega (arith, e, later i l)

-- one entry more, whose set doesn't test it
pub later_push : (st : StoreState) (f : ℕ) (es : List OutPackets) (e : OutPackets) → AreLater st f es → f ≤ root_field st e.packets → AreLater st f (es ++ e ∷ [])
later_push st f es e later h i l = elim (eqb_tells i (length es)) [
  | inl same ↦ subst (λ (z : OutPackets). f ≤ root_field st z.packets) (sym (ap (λ j. entry (es ++ e ∷ []) j) same.1 ∙ push_new es e)) h
  | inr other ↦
      let m : i < length es = omega (arith, l, length-append es (e ∷ []), other.1) in
      subst (λ (z : OutPackets). f ≤ root_field st z.packets) (sym (push_old es e i m)) (later i m)
]
