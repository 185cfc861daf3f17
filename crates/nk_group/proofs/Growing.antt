-- What states do, alone and together, stays while the store and the sets grow.
use Rattle.std.proofs.Common.{◌≡◌, ℕ, zero, suc, ◌+◌, ◌<◌, ◌≤◌, ◌↔◌, List, [], ◌++◌, length, length-append, append_assoc, refl, sym, ◌∙◌, ap, subst, arith, get_or, set}
use Rattle.std.specs.Prelude.{All, map, take}
use Rattle.std.specs.List.{Contains}
use Rattle.std.proofs.lemmas.List.{get_or_append_left}
use Rattle.nk_store.specs.Nodes.{InRange}
use Rattle.nk_store.specs.Leaves.{Every}
use Rattle.nk_store.specs.StoreState.{StoreState, IsId, IsStorePacket, Grows}
use Rattle.nk_apply.specs.Unions.{AreIds}
use Rattle.nk_determ.specs.Exact.{IsExact, Sends}
use Rattle.nk_determ.specs.Sets.{SetsGrow}
use Rattle.nk_determ.specs.States.{StateLeads}
use Rattle.nk_group.specs.declared.switch_tags.TagState.{TagState}
use Rattle.nk_group.specs.States.{IsStateAtSwitch, StayAt}
use Rattle.nk_group.specs.Tagged.{set_of_tag, members_of}
use Rattle.nk_group.specs.Made.{IsPrintableState}

-- what holds of each element holds of a member
pub all_member : {X : Type 0} (P : X → Type 0) (xs : List X) (x : X) → All P xs → Contains xs x → P x
all_member P xs x all c = subst P c.2 (all c.0 x c.1)

-- what holds of each element holds of the one that was read at a place
pub all_at : {X : Type 0} (P : X → Type 0) (xs items : List X) (k : ℕ) (x : X) → All P xs → items ≡ xs → k < length items → x ≡ get_or items k x → P x
all_at {X} P xs items k x all same lt at =
    subst P (sym (at ∙ ap (λ (l : List X). get_or l k x) same)) (all k x (subst (λ (l : List X). k < length l) same lt))

-- a diagram sends what it sent
pub sends_grown : (st new : StoreState) (d : ℕ) (pk y : List ℕ) (t : ℕ) → Grows st new → IsId st d → Sends st d pk y t ↔ Sends new d pk y t
sends_grown st new d pk y t g id = (
  λ s. (s.0, subst (λ os. Contains os (record { act = s.0; target = t })) (sym (g.leaves d pk id)) s.1, s.2),
  λ s. (s.0, subst (λ os. Contains os (record { act = s.0; target = t })) (g.leaves d pk id) s.1, s.2),
)

-- a set that is there keeps its labels
pub set_kept : (ss more : List (List ℕ)) (i : ℕ) → SetsGrow ss more → i < length ss → get_or more i [] ≡ get_or ss i []
set_kept ss more i g lt = ap (λ l. get_or l i []) g.1 ∙ get_or_append_left ss g.0 [] i lt

-- more sets are more
pub sets_longer : (ss more : List (List ℕ)) → SetsGrow ss more → length ss ≤ length more
sets_longer ss more g = let e = ap length g.1 ∙ length-append ss g.0 in omega (arith, e)

-- sets that grew twice grew
pub sets_grow_on : (a b c : List (List ℕ)) → SetsGrow a b → SetsGrow b c → SetsGrow a c
sets_grow_on a b c g h = (g.0 ++ h.0, h.1 ∙ ap (λ l. l ++ h.0) g.1 ∙ append_assoc a g.0 h.0)

-- a tag whose set is there keeps it
pub tag_set_kept : (ss more : List (List ℕ)) (tags : List ℕ) (t : ℕ) → SetsGrow ss more → All (λ s. s < length ss) tags → t < length tags →
    set_of_tag more tags t ≡ set_of_tag ss tags t
tag_set_kept ss more tags t g known lt = set_kept ss more (get_or tags t 0) g (known t 0 lt)

-- and its states
pub members_kept : (ss more : List (List ℕ)) (tags : List ℕ) (t : ℕ) → SetsGrow ss more → All (λ s. s < length ss) tags → t ≤ length tags →
    members_of more tags t ≡ members_of ss tags t
members_kept ss more tags zero g known lt = refl
members_kept ss more tags (suc t) g known lt = ap (λ s. map (λ l. l + 1) s) (tag_set_kept ss more tags t g known (omega (arith, lt)))

-- known sets stay known
pub known_kept : (ss more : List (List ℕ)) (tags : List ℕ) → SetsGrow ss more → All (λ s. s < length ss) tags → All (λ s. s < length more) tags
known_kept ss more tags g known k d lt = let a = known k d lt in let b = sets_longer ss more g in omega (arith, a, b)

-- places of states stay
pub places_kept : (ss more : List (List ℕ)) (tags : List ℕ) (count t : ℕ) → SetsGrow ss more → All (λ s. s < length ss) tags → t ≤ length tags →
    All (λ l. l < count) (members_of ss tags t) → All (λ l. l < count) (members_of more tags t)
places_kept ss more tags count t g known lt h = subst (All (λ l. l < count)) (sym (members_kept ss more tags t g known lt)) h

module _ (st new : StoreState) (states members : List ℕ) (g : Grows st new) (ids : AreIds st states) (inside : All (λ l. l < length states) members) where
  -- states lead where they led
  pub leads_grown : (pk y : List ℕ) (t : ℕ) → StateLeads st states members pk y t ↔ StateLeads new states members pk y t
  leads_grown pk y t = (
    λ s. (s.0, s.1, (sends_grown st new (get_or states s.0 0) pk y t g (ids s.0 (all_member (λ l. l < length states) members s.0 inside s.1))).0 s.2),
    λ s. (s.0, s.1, (sends_grown st new (get_or states s.0 0) pk y t g (ids s.0 (all_member (λ l. l < length states) members s.0 inside s.1))).1 s.2),
  )

  -- a packet of the later store is one of the earlier
  before : (pk : List ℕ) → IsStorePacket new pk → IsStorePacket st pk
  before pk p = subst (λ m. InRange m pk) g.maxes p

  -- a state stays the state
  pub state_grown : (ss more : List (List ℕ)) (sw d : ℕ) → SetsGrow ss more → IsStateAtSwitch st ss states members sw d → IsStateAtSwitch new more states members sw d
  state_grown ss more sw d s k = record {
    id = g.ids d k.id;
    exact = λ pk p. subst (Every (λ o. IsExact pk o.act)) (sym (g.leaves d pk k.id)) (k.exact pk (before pk p));
    ends = λ pk y p here.
        let e = k.ends pk y (before pk p) here in
        let d' = sends_grown st new d pk y 0 g k.id in
        let r = leads_grown pk y 0 in
        (λ a. r.0 (e.0 (d'.1 a)), λ b. d'.0 (e.1 (r.1 b)));
    leads = λ pk y i p here a.
        let l = k.leads pk y i (before pk p) here ((sends_grown st new d pk y (i + 1) g k.id).1 a) in
        let same = set_kept ss more i s l.within in
        record {
          within = omega (arith, l.within, sets_longer ss more s);
          some = λ e. l.some (sym same ∙ e);
          every = λ m.
              let r = leads_grown pk y m in (
                λ c. let q = (l.every m).0 (subst (λ x. Contains x m) same c) in (q.0, r.0 q.1),
                λ q. subst (λ x. Contains x m) (sym same) ((l.every m).1 (q.0, r.1 q.1)),
              );
        };
    led = λ pk y l p here pos r.
        let i = k.led pk y l (before pk p) here pos ((leads_grown pk y l).1 r) in
        (i.0, (sends_grown st new d pk y (i.0 + 1) g k.id).0 i.1);
  }

  -- states that stay at the switch do so later
  pub stay_grown : (tag sw : ℕ) → StayAt st tag sw states members → StayAt new tag sw states members
  stay_grown tag sw k = record {
    keeps = λ pk y t p here r. k.keeps pk y t (before pk p) here ((leads_grown pk y t).1 r);
    free = λ pk y t n p here le r.
        (leads_grown (set pk tag n) (set y tag n) t).0
        (k.free pk y t n (before pk p) here (subst (λ m. n ≤ get_or m tag 0) g.maxes le) ((leads_grown pk y t).1 r));
  }

-- what can be printed can be printed later
pub printable_grown : (st new : StoreState) (tag sw : ℕ) (e : TagState) → Grows st new → IsPrintableState st tag sw e → IsPrintableState new tag sw e
printable_grown st new tag sw e g k = record {
  id = g.ids e.diagram k.id;
  printable = record {
    exact = λ pk a t f n p here c m. k.printable.exact pk a t f n (back pk p) here (subst (λ os. Contains os (record { act = a; target = t })) (g.leaves e.diagram pk k.id) c) m;
    keeps = λ pk y t p here s. k.printable.keeps pk y t (back pk p) here ((sends_grown st new e.diagram pk y t g k.id).1 s);
    free = λ pk n p here le.
        g.leaves e.diagram (set pk tag n) k.id ∙ k.printable.free pk n (back pk p) here (subst (λ m. n ≤ get_or m tag 0) g.maxes le) ∙ sym (g.leaves e.diagram pk k.id);
  };
}
  where
    back : (pk : List ℕ) → IsStorePacket new pk → IsStorePacket st pk
    back pk p = subst (λ m. InRange m pk) g.maxes p

-- the declared fields keep their largest values
pub declared_same : (old new : StoreState) → Grows old new → take new.width new.maxes ≡ take old.width old.maxes
declared_same old new g = ap (λ n. take n new.maxes) g.width ∙ ap (take old.width) g.maxes
