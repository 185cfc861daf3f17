-- Sets whose states are one diagram are alike, and what was seen of diagrams.
use Rattle.std.proofs.Common.{◌≡◌, ℕ, ◌+◌, ◌<◌, List, [], ◌∷◌, length, get_or, refl, sym, ap, subst, ◌∙◌, arith}
use Rattle.std.specs.Prelude.{◌↔◌, map, slice_index}
use Rattle.std.proofs.lemmas.List.{get_or-map, length-map}
use Rattle.nk_store.specs.declared.node.Out.{Out}
use Rattle.nk_store.specs.StoreState.{StoreState, IsId, IsStorePacket, look, Grows, HasLeaves}
use Rattle.nk_apply.specs.Unions.{AreIds, unions}
use Rattle.nk_apply.proofs.Members.{Has, contains_has, has_contains}
use Rattle.nk_determ.specs.Exact.{Sends}
use Rattle.nk_determ.specs.Sets.{SetsGrow}
use Rattle.nk_determ.specs.States.{StateLeads}
use Rattle.nk_determ.specs.Pairs.{Node, AreLabelsBelow, AreStates, IsStep}
use Rattle.nk_determ.proofs.Sending.{unions_has, has_unions}
use Rattle.nk_sets.proofs.Kept.{packet_on, packet_back}
use Rattle.nk_goal.proofs.Growing.{sends_on, sends_back, leads_on, leads_back, sets_same}
use Rattle.nk_merge.specs.Alike.{SetGives, AreAlike, labels_after, tag_set}
use Rattle.nk_merge.specs.Seen.{DoesTogether, IsSeenAt, AreSeenDiagrams}
use Rattle.nk_merge.proofs.Growing.{alike_on}
use Rattle.nk_merge.proofs.Lawful.{alike_on_to}

-- a set that leads where another one does gives what that one gives
gives_by_leads : (st : StoreState) (states s t : List ℕ) (x : List ℕ) (w : List (List ℕ)) (y : List ℕ)
    → ((z : List ℕ) (k : ℕ) → StateLeads st states s x z k ↔ StateLeads st states t x z k) → SetGives st states s x w y → SetGives st states t x w y
gives_by_leads st states s t x [] y e h =
    ((t, x), refl, (e y 0).0 (subst (λ (n : Node). StateLeads st states n.0 n.1 y 0) (sym h.1) h.2))
gives_by_leads st states s t x (z ∷ w) y e h =
    let step : IsStep st states (t, x) (h.1.0, z) = record {
      packet = h.1.1.packet;
      some = h.1.1.some;
      ascend = h.1.1.ascend;
      every = λ l. (
        λ c. let q = (h.1.1.every l).0 c in (q.0, (e z l).0 q.1),
        λ q. (h.1.1.every l).1 (q.0, (e z l).1 q.1),
      );
    } in
    (h.0, (h.1.0, step, h.1.2), h.2)

-- sets with one diagram are alike
pub one_diagram : (st : StoreState) (states s t : List ℕ) (d : ℕ) → DoesTogether st states s d → DoesTogether st states t d → AreAlike st states s t
one_diagram st states s t d a b x r w y = (
  λ g. gives_by_leads st states s t x w y (λ z k. (λ l. (b.sends x z k r).0 ((a.sends x z k r).1 l), λ l. (a.sends x z k r).0 ((b.sends x z k r).1 l))) g,
  λ g. gives_by_leads st states t s x w y (λ z k. (λ l. (a.sends x z k r).0 ((b.sends x z k r).1 l), λ l. (b.sends x z k r).0 ((a.sends x z k r).1 l))) g,
)

module _ (states labels ds : List ℕ) (p : AreLabelsBelow (length states) (labels_after labels)) (is : ds ≡ map (λ l. slice_index states (l + 1)) labels) where
  -- the state at a place of the list
  long : length ds ≡ length labels
  long = ap length is ∙ length-map labels (λ l. slice_index states (l + 1))

  at : (k : ℕ) → k < length labels → slice_index ds k ≡ slice_index states (slice_index labels k + 1)
  at k lt = ap (λ xs. get_or xs k 0) is ∙ get_or-map (λ l. slice_index states (l + 1)) labels k 0 0 lt

  label : (k m : ℕ) → k < length labels → get_or (labels_after labels) k m ≡ slice_index labels k + 1
  label k m lt = get_or-map (λ l. l + 1) labels k 0 m lt

  within : (k : ℕ) → k < length labels → k < length (labels_after labels)
  within k lt = subst (λ n. k < n) (sym (length-map labels (λ l. l + 1))) lt

  placed : (k : ℕ) → k < length labels → slice_index labels k + 1 < length states
  placed k lt = let q = p k 0 (within k lt) in let e = label k 0 lt in omega (arith, q, e)

  -- the states after labels are diagrams
  pub after_ids : (st : StoreState) → AreIds st states → AreIds st ds
  after_ids st ids k lt = let less : k < length labels = omega (arith, lt, long) in subst (λ d. IsId st d) (sym (at k less)) (ids (slice_index labels k + 1) (placed k less))

module _ (old new : StoreState) (states labels ds : List ℕ) (r : ℕ) (g : Grows old new) (ids : AreIds old states) (p : AreLabelsBelow (length states) (labels_after labels))
    (is : ds ≡ map (λ l. slice_index states (l + 1)) labels) (h : HasLeaves new r (λ pk. unions old ds 0 (length ds) pk)) where
  -- the union of the states after labels does what they do together
  pub union_does : DoesTogether new states (labels_after labels) r
  union_does = record {
    id = h.id;
    sends = λ pk y t range. (λ s. forth pk y t (packet_back old new pk g range) s, λ s. back pk y t (packet_back old new pk g range) s);
  }
    where
      forth : (pk y : List ℕ) (t : ℕ) → IsStorePacket old pk → Sends new r pk y t → StateLeads new states (labels_after labels) pk y t
      forth pk y t range s =
          let o : Out = record { act = s.0; target = t } in
          let m : Has (unions old ds 0 (length ds) pk) o = subst (λ os. Has os o) (h.leaf pk range.0) (contains_has _ _ s.1) in
          let u = unions_has old ds 0 (length ds) pk o m in
          let lt : u.0 < length labels = (let e = long states labels ds p is in omega (arith, u.1, e)) in
          let l : ℕ = slice_index labels u.0 + 1 in
          let there : l < length states = placed states labels ds p is u.0 lt in
          let sent : Sends old (slice_index states l) pk y t = (s.0, has_contains _ _ (subst (λ d. Has (look old d pk) o) (at states labels ds p is u.0 lt) u.2), s.2) in
          (l, (u.0, within states labels ds p is u.0 lt, label states labels ds p is u.0 l lt), sends_on old new (slice_index states l) pk y t g (ids l there) sent)

      back : (pk y : List ℕ) (t : ℕ) → IsStorePacket old pk → StateLeads new states (labels_after labels) pk y t → Sends new r pk y t
      back pk y t range s =
          let l = s.0 in
          let k = s.1.0 in
          let lt : k < length labels = subst (λ n. k < n) (length-map labels (λ n. n + 1)) s.1.1 in
          let e : slice_index labels k + 1 ≡ l = sym (label states labels ds p is k l lt) ∙ s.1.2 in
          let there : l < length states = subst (λ n. n < length states) e (placed states labels ds p is k lt) in
          let sent : Sends old (slice_index states l) pk y t = sends_back old new (slice_index states l) pk y t g (ids l there) s.2 in
          let o : Out = record { act = sent.0; target = t } in
          let mine : Has (look old (slice_index ds k) pk) o = subst (λ d. Has (look old d pk) o) (sym (at states labels ds p is k lt ∙ ap (slice_index states) e)) (contains_has _ _ sent.1) in
          let all = has_unions old ds 0 (length ds) pk o k (omega arith) (let f = long states labels ds p is in omega (arith, lt, f)) mine in
          (sent.0, has_contains _ _ (subst (λ os. Has os o) (sym (h.leaf pk range.0)) all), sent.2)

-- what a diagram does together stays as the store grows, and was so before
pub does_on : (a b : StoreState) (states set : List ℕ) (d : ℕ) → Grows a b → AreStates a states → AreLabelsBelow (length states) set → DoesTogether a states set d → DoesTogether b states set d
does_on a b states set d g ok p k = record {
  id = g.ids d k.id;
  sends = λ pk y t r.
      let e = k.sends pk y t (packet_back a b pk g r) in (
        λ s. leads_on a b states set pk y t g ok p (e.0 (sends_back a b d pk y t g k.id s)),
        λ s. sends_on a b d pk y t g k.id (e.1 (leads_back a b states set pk y t g ok p s)),
      );
}

pub does_back : (a b : StoreState) (states set : List ℕ) (d : ℕ) → Grows a b → AreStates a states → AreLabelsBelow (length states) set → IsId a d → DoesTogether b states set d → DoesTogether a states set d
does_back a b states set d g ok p id k = record {
  id = id;
  sends = λ pk y t r.
      let e = k.sends pk y t (packet_on a b pk g r) in (
        λ s. leads_back a b states set pk y t g ok p (e.0 (sends_on a b d pk y t g id s)),
        λ s. sends_back a b d pk y t g id (e.1 (leads_on a b states set pk y t g ok p s)),
      );
}

module _ (a b : StoreState) (ss more : List (List ℕ)) (states tags firsts : List ℕ) (g : Grows a b) (sets : SetsGrow ss more) (ok : AreStates a states)
    (known : (c : ℕ) → c < length firsts → slice_index tags (slice_index firsts c) < length ss)
    (places : (c : ℕ) → c < length firsts → AreLabelsBelow (length states) (labels_after (tag_set ss tags (slice_index firsts c)))) where
  -- what was seen stays so as the store and the sets grow
  pub seen_on : (entries : List (ℕ × ℕ)) → AreSeenDiagrams a states ss tags firsts entries → AreSeenDiagrams b states more tags firsts entries
  seen_on entries k d c e =
      let s = k d c e in
      record {
        id = g.ids d s.id;
        class = s.class;
        alike = λ set p does.
            subst (λ (z : List ℕ). AreAlike b states (labels_after z) set) (sym (sets_same ss more (slice_index tags (slice_index firsts c)) sets (known c s.class)))
            (alike_on a b states g ok (labels_after (tag_set ss tags (slice_index firsts c))) set (places c s.class) p (s.alike set p (does_back a b states set d g ok p s.id does)));
      }

-- and with one more first member
pub seen_longer : (st : StoreState) (states : List ℕ) (ss : List (List ℕ)) (tags firsts longer : List ℕ) (entries : List (ℕ × ℕ))
    → ((c : ℕ) → c < length firsts → (c < length longer) × (slice_index longer c ≡ slice_index firsts c))
    → AreSeenDiagrams st states ss tags firsts entries → AreSeenDiagrams st states ss tags longer entries
seen_longer st states ss tags firsts longer entries same k d c e =
    let s = k d c e in
    let w = same c s.class in
    record {
      id = s.id;
      class = w.0;
      alike = λ set p does. subst (λ j. AreAlike st states (labels_after (tag_set ss tags j)) set) (sym w.1) (s.alike set p does);
    }

-- the diagram of a tag of that class is seen
pub seen_one : (st : StoreState) (states : List ℕ) (ss : List (List ℕ)) (tags firsts : List ℕ) (d c : ℕ) (set : List ℕ) → c < length firsts
    → DoesTogether st states set d → AreAlike st states (labels_after (tag_set ss tags (slice_index firsts c))) set → IsSeenAt st states ss tags firsts d c
seen_one st states ss tags firsts d c set lt mine alike = record {
  id = mine.id;
  class = lt;
  alike = λ other p does. alike_on_to st states (labels_after (tag_set ss tags (slice_index firsts c))) set other alike (one_diagram st states set other d mine does);
}
