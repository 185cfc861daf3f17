-- A set state of states that stay at the switch can be printed there.
use Rattle.std.proofs.Common.{◌≡◌, ◌≢◌, ℕ, zero, suc, ◌+◌, ◌<◌, ◌≤◌, List, [], ◌∷◌, length, refl, sym, ap, subst, ◌∙◌, arith, get_or, get_or-set_other}
use Rattle.std.specs.Prelude.{slice_index, slice_set, Contains}
use Rattle.std.proofs.lemmas.List.{set-set, set-get_or}
use Rattle.nk_field.specs.Act.{applied}
use Rattle.nk_field.proofs.Lists.{in_from_contains, contains_from_in}
use Rattle.nk_field.proofs.Ascending.{rising_from, one_list}
use Rattle.nk_store.specs.declared.node.Out.{Out}
use Rattle.nk_store.specs.Leaves.{IsActFrom, Suits}
use Rattle.nk_store.specs.StoreState.{StoreState, look, IsStorePacket, AreTidy}
use Rattle.nk_store.proofs.Same.{set_in_range}
use Rattle.nk_apply.proofs.Members.{Has, contains_has, has_contains, every_has, strict_same}
use Rattle.nk_determ.specs.Exact.{IsExact, Sends}
use Rattle.nk_determ.specs.Sets.{HasEachSetOnce, HasAscendingSets}
use Rattle.nk_determ.specs.States.{StateLeads, IsLedTo}
use Rattle.nk_determ.proofs.Laws.{exact_one}
use Rattle.nk_extract.specs.RowsOf.{IsPrintable}
use Rattle.nk_group.specs.States.{IsStateAtSwitch, StayAt}
use Rattle.nk_group.proofs.Exacting.{Misses, applied_set, changes_there, keeping_misses, exact_stays}

-- a list that isn't empty has a member
pub some_member : (xs : List ℕ) → (xs ≡ [] → ⊥) → (l : ℕ) × Contains xs l
some_member [] h = absurd (h refl)
some_member (x ∷ xs) h = (x, (0, omega arith, refl))

-- two ascending lists of sets with the same members have one number
pub one_set : (ss : List (List ℕ)) (i j : ℕ) → HasEachSetOnce ss → HasAscendingSets ss → i < length ss → j < length ss →
    ((l : ℕ) → Contains (get_or ss i []) l → Contains (get_or ss j []) l) → ((l : ℕ) → Contains (get_or ss j []) l → Contains (get_or ss i []) l) → i ≡ j
one_set ss i j differ ascend a b f g =
    differ i j a b (one_list (get_or ss i []) (get_or ss j []) (rising_from _ (ascend i)) (rising_from _ (ascend j))
    (λ l h. in_from_contains _ _ (f l (contains_from_in _ _ h)))
    (λ l h. in_from_contains _ _ (g l (contains_from_in _ _ h))))

-- a field that is set anew and then back has the value that it had
set_back : (pk : List ℕ) (f v : ℕ) → slice_set (slice_set pk f v) f (slice_index pk f) ≡ pk
set_back pk f v = set-set pk f v (slice_index pk f) ∙ set-get_or pk f 0

module _ (st : StoreState) (ss : List (List ℕ)) (states members : List ℕ) (tag sw d : ℕ) (past : 2 ≤ tag) (tidy : AreTidy st) (differ : HasEachSetOnce ss) (ascend : HasAscendingSets ss)
    (state : IsStateAtSwitch st ss states members sw d) (stay : StayAt st tag sw states members) where
  -- at a packet of the switch some state leads where the diagram sends
  leads_there : (pk y : List ℕ) (t : ℕ) → IsStorePacket st pk → slice_index pk 0 ≡ sw → Sends st d pk y t → (l : ℕ) × StateLeads st states members pk y l
  leads_there pk y zero p here s = (0, (state.ends pk y p here).0 s)
  leads_there pk y (suc i) p here s =
      let next : suc i ≡ i + 1 = omega arith in
      let l = state.leads pk y i p here (subst (λ t. Sends st d pk y t) next s) in
      let m = some_member (get_or ss i []) l.some in
      (m.0, ((l.every m.0).0 m.1).1)

  -- it keeps the switch and the tag
  keeps : (pk y : List ℕ) (t : ℕ) → IsStorePacket st pk → slice_index pk 0 ≡ sw → Sends st d pk y t → (slice_index y 0 ≡ sw) × (slice_index y tag ≡ slice_index pk tag)
  keeps pk y t p here s = let l = leads_there pk y t p here s in stay.keeps pk y l.0 p here l.1

  -- another tag leaves the switch
  here_too : (pk : List ℕ) (v : ℕ) → slice_index pk 0 ≡ sw → slice_index (slice_set pk tag v) 0 ≡ sw
  here_too pk v here = let ne : 0 ≢ tag = λ e. omega (arith, past, e) in get_or-set_other pk tag 0 v 0 ne ∙ here

  -- states lead alike from packets that differ in the tag alone
  back : (pk y : List ℕ) (l v : ℕ) → IsStorePacket st pk → slice_index pk 0 ≡ sw → v ≤ slice_index st.maxes tag → slice_index y tag ≡ slice_index pk tag →
      StateLeads st states members (slice_set pk tag v) (slice_set y tag v) l → StateLeads st states members pk y l
  back pk y l v p here le same r =
      let again = stay.free (slice_set pk tag v) (slice_set y tag v) l (slice_index pk tag) (set_in_range st.maxes pk tag v p le) (here_too pk v here) (p.1 tag) r in
      subst (λ x. StateLeads st states members pk x l)
      (ap (λ n. slice_set (slice_set y tag v) tag n) (sym same) ∙ set_back y tag v)
      (subst (λ x. StateLeads st states members x (slice_set (slice_set y tag v) tag (slice_index pk tag)) l) (set_back pk tag v) again)

  -- and so does the diagram
  stays : (pk y : List ℕ) (t v : ℕ) → IsStorePacket st pk → slice_index pk 0 ≡ sw → v ≤ slice_index st.maxes tag → Sends st d pk y t →
      Sends st d (slice_set pk tag v) (slice_set y tag v) t
  stays pk y zero v p here le s =
      (state.ends (slice_set pk tag v) (slice_set y tag v) (set_in_range st.maxes pk tag v p le) (here_too pk v here)).1
      (stay.free pk y 0 v p here le ((state.ends pk y p here).0 s))
  stays pk y (suc i) v p here le s =
      let next : suc i ≡ i + 1 = omega arith in
      let s' : Sends st d pk y (i + 1) = subst (λ t. Sends st d pk y t) next s in
      let there = set_in_range st.maxes pk tag v p le in
      let same = (keeps pk y (suc i) p here s).1 in
      let l : IsLedTo ss st states members pk y i = state.leads pk y i p here s' in
      let m = some_member (get_or ss i []) l.some in
      let q = (l.every m.0).0 m.1 in
      let j = state.led (slice_set pk tag v) (slice_set y tag v) m.0 there (here_too pk v here) q.0 (stay.free pk y m.0 v p here le q.1) in
      let k : IsLedTo ss st states members (slice_set pk tag v) (slice_set y tag v) j.0 = state.leads (slice_set pk tag v) (slice_set y tag v) j.0 there (here_too pk v here) j.1 in
      let one : j.0 ≡ i =
      one_set ss j.0 i differ ascend k.within l.within
      (λ x c. let r = (k.every x).0 c in (l.every x).1 (r.0, back pk y x v p here le same r.1))
      (λ x c. let r = (l.every x).0 c in (k.every x).1 (r.0, stay.free pk y x v p here le r.1)) in
      subst (λ t. Sends st d (slice_set pk tag v) (slice_set y tag v) t) (ap (λ n. n + 1) one ∙ sym next) j.1

  -- an act of a leaf, by the highest values and at its packet
  suits : (pk : List ℕ) (o : Out) → Has (look st d pk) o → IsActFrom st.maxes 0 o.act
  suits pk o h = every_has (Suits st.maxes) (look st d pk) o ((tidy d).suits pk) h

  exact_there : (pk : List ℕ) (o : Out) → IsStorePacket st pk → Has (look st d pk) o → IsExact pk o.act
  exact_there pk o p h = every_has (λ (x : Out). IsExact pk x.act) (look st d pk) o (state.exact pk p) h

  -- an out stands in the leaf of each packet that differs in the tag alone
  out_stays : (pk : List ℕ) (v : ℕ) (o : Out) → IsStorePacket st pk → slice_index pk 0 ≡ sw → v ≤ slice_index st.maxes tag → Has (look st d pk) o →
      Has (look st d (slice_set pk tag v)) o
  out_stays pk v o p here le h =
      let there : IsStorePacket st (slice_set pk tag v) = set_in_range st.maxes pk tag v p le in
      let exact = exact_there pk o p h in
      let sent : Sends st d pk (applied o.act pk) o.target = (o.act, has_contains (look st d pk) o h, refl) in
      let miss : Misses tag o.act = keeping_misses st.maxes pk tag o.act p.0 (suits pk o h) exact (keeps pk (applied o.act pk) o.target p here sent).1 in
      let again : Sends st d (slice_set pk tag v) (slice_set (applied o.act pk) tag v) o.target = stays pk (applied o.act pk) o.target v p here le sent in
      let has : Has (look st d (slice_set pk tag v)) (record { act = again.0; target = o.target }) =
      contains_has (look st d (slice_set pk tag v)) (record { act = again.0; target = o.target }) again.1 in
      let one : o.act ≡ again.0 =
      exact_one st.maxes (slice_set pk tag v) 0 o.act again.0 there.0 (suits pk o h)
      (suits (slice_set pk tag v) (record { act = again.0; target = o.target }) has)
      (exact_stays pk tag v o.act miss exact)
      (exact_there (slice_set pk tag v) (record { act = again.0; target = o.target }) there has)
      (applied_set tag o.act pk v miss ∙ again.2) in
      subst (λ g. Has (look st d (slice_set pk tag v)) (record { act = g; target = o.target })) (sym one) has

  -- so the leaf is the same
  leaf_stays : (pk : List ℕ) (v : ℕ) → IsStorePacket st pk → slice_index pk 0 ≡ sw → v ≤ slice_index st.maxes tag →
      look st d (slice_set pk tag v) ≡ look st d pk
  leaf_stays pk v p here le =
      let there : IsStorePacket st (slice_set pk tag v) = set_in_range st.maxes pk tag v p le in
      strict_same (look st d (slice_set pk tag v)) (look st d pk) ((tidy d).sorted (slice_set pk tag v)) ((tidy d).sorted pk)
      (λ o h. subst (λ z. Has (look st d z) o) (set_back pk tag v) (out_stays (slice_set pk tag v) (slice_index pk tag) o there (here_too pk v here) (p.1 tag) h))
      (λ o h. out_stays pk v o p here le h)

  pub state_printable : IsPrintable st tag sw d
  state_printable = record {
    exact = λ pk g t f n p here has member.
        changes_there pk g f n (exact_there pk (record { act = g; target = t }) p (contains_has _ _ has)) (contains_has g (f, n) member);
    keeps = λ pk y t p here s. keeps pk y t p here s;
    free = λ pk n p here le. leaf_stays pk n p here le;
  }
