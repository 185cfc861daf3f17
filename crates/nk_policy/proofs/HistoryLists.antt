-- The list of histories has exactly those that the policy gives.
use Rattle.std.proofs.Common.{◌≡◌, ℕ, ◌<◌, ◌≤◌, ◌+◌, Bool, true, false, ◌&&◌, inl, inr, ⊎_elim, List, [], ◌∷◌, ◌++◌, length, refl, sym, ap, subst, ◌∙◌, append_assoc, append-nil, drop, get_or}
use Rattle.std.specs.Prelude.{◌==◌, ◌↔◌, Contains, nat_le, if◌then◌else◌, slice_index, slice_set}
use Rattle.std.specs.List.{flat_map}
use Rattle.std.proofs.lemmas.List.{drop_all}
use Rattle.nk_field.specs.declared.packet.Packet.{Packet}
use Rattle.nk_field.specs.declared.history.History.{History}
use Rattle.nk_field.proofs.Lists.{In, in_left, in_right, in_either, in_joined, from_joined, in_from_contains, contains_from_in}
use Rattle.nk_policy.specs.Policy.{Policy, Policies, test, range, assign, sum_of, seq_of, not_of, star_of, dup, link, no_part, part}
use Rattle.nk_policy.specs.Meaning.{Way, keep, Gives, some_way_of, way_of_all}
use Rattle.nk_policy.specs.Histories.{at_packet, recorded, unless_any, histories_from, histories_of_some, histories_of_all, histories_of, IsFlat, AllFlat}
use Rattle.nk_policy.specs.Tree.{tree_of, trees_of}
use Rattle.nk_policy.specs.declared.policy.Pol.{Pol}
use Rattle.nk_policy.proofs.Predicates.{predicate_keeps}
use Rattle.nk_policy.proofs.Steps.{left_is}
use Rattle.nk_policy.proofs.Tests.{both_true, both_pass, same_test, same_from, at_most_test, at_most_from}

-- a recorded packet without its number
abbrev bare : ℕ → Packet → Packet
bare l x = x

-- the second history goes on from the first by a way
abbrev GoesOnBy : Way Packet → History → History → Type 0
GoesOnBy way h g = (w : List Packet) × (g.records ≡ h.records ++ w) × way h.last w g.last

-- histories with the same records and last packet are one
history_is : (g h : History) → g.records ≡ h.records → g.last ≡ h.last → g ≡ h
history_is g h e f =
    let with_records : List Packet → History = λ r. record { records = r; last = g.last } in
    let with_last : Packet → History = λ y. record { records = h.records; last = y } in
    ap with_records e ∙ ap with_last f

-- an equal history goes on by keeping the packet
from_same : (h g : History) → g ≡ h → GoesOnBy keep h g
from_same h g e =
    ([], ap (λ (i : History). i.records) e ∙ sym (append-nil h.records), (refl, ap (λ (i : History). i.last) e))

-- and only an equal one does
to_same : (h g : History) → GoesOnBy keep h g → g ≡ h
to_same h g r = history_is g h (r.1 ∙ ap (λ t. h.records ++ t) r.2.0 ∙ append-nil h.records) r.2.1

-- the one history where a test passes
from_test : (b : Bool) (h g : History) → In (if b then h ∷ [] else []) g → (b ≡ true) × (g ≡ h)
from_test true h g i = (refl, ⊎_elim (λ e. e) (λ k. absurd k) i)
from_test false h g i = absurd i

-- and the other way
to_test : (b : Bool) (h g : History) → b ≡ true → g ≡ h → In (if b then h ∷ [] else []) g
to_test true h g t e = inl e
to_test false h g t e = cc

-- the one history where the list is empty
from_unless : (gs : List History) (h g : History) → In (unless_any gs h) g → (gs ≡ []) × (g ≡ h)
from_unless [] h g i = (refl, ⊎_elim (λ e. e) (λ k. absurd k) i)
from_unless (f ∷ gs) h g i = absurd i

-- and the other way
to_unless : (gs : List History) (h g : History) → ((f : History) → In gs f → ⊥) → g ≡ h
    → In (unless_any gs h) g
to_unless [] h g none e = inl e
to_unless (f ∷ gs) h g none e = absurd (none f (inl refl))

-- a list that is joined from an empty one and another is the other
skip_empty : {A : Type 0} (w u v : List A) → w ≡ u ++ v → u ≡ [] → w ≡ v
skip_empty w u v e f = e ∙ ap (λ t. t ++ v) f

-- the packet at a port
abbrev at_port : Packet → ℕ → ℕ → Packet
at_port x b n = slice_set (slice_set x 0 b) 1 n

-- a link literal gives the packet at its target, with its two records, from its source alone
link_gives : (a m b n l : ℕ) (x : Packet) (w : List Packet) (y : Packet)
    → Gives (link a m b n l) x w y
    → (slice_index x 0 ≡ a) × (slice_index x 1 ≡ m) × (w ≡ x ∷ at_port x b n ∷ []) × (y ≡ at_port x b n)
link_gives a m b n l x w y r =
    let s = r.5 in
    let t = s.5 in
    let i = t.5 in
    let j = i.5 in
    let k = j.5 in
    let here : s.2 ≡ x = s.4.2 ∙ r.4.2 in
    let there : j.2 ≡ at_port x b n =
    j.4.1 ∙ ap (λ q. slice_set q 1 n) (i.4.1 ∙ ap (λ q. slice_set q 0 b) (t.4.1 ∙ here)) in
    let second : t.1 ≡ j.2 ∷ [] =
    skip_empty t.1 i.0 i.1 i.3 i.4.0
    ∙ skip_empty i.1 j.0 j.1 j.3 j.4.0
    ∙ k.3
    ∙ ap (λ q. q ++ k.1) k.4.0
    ∙ ap (λ q. j.2 ∷ q) k.5.0 in
    let both : w ≡ s.2 ∷ t.1 =
    skip_empty w r.0 r.1 r.3 r.4.1 ∙ skip_empty r.1 s.0 s.1 s.3 s.4.1 ∙ t.3 ∙ ap (λ q. q ++ t.1) t.4.0 in (
      r.4.0,
      ap (λ q. slice_index q 1) (sym r.4.2) ∙ s.4.0,
      both ∙ ap (λ q. q ∷ t.1) here ∙ ap (λ q. x ∷ q) (second ∙ ap (λ q. q ∷ []) there),
      k.5.1 ∙ k.4.1 ∙ there,
    )

-- and it does give it
gives_link : (a m b n l : ℕ) (x : Packet)
    → slice_index x 0 ≡ a → slice_index x 1 ≡ m
    → Gives (link a m b n l) x (x ∷ at_port x b n ∷ []) (at_port x b n)
gives_link a m b n l x e f =
    let y = at_port x b n in (
      [],
      x ∷ y ∷ [],
      x,
      refl,
      (e, refl, refl),
      (
        [],
        x ∷ y ∷ [],
        x,
        refl,
        (f, refl, refl),
        (
          x ∷ [],
          y ∷ [],
          x,
          refl,
          (refl, refl),
          ([], y ∷ [], slice_set x 0 b, refl, (refl, refl), ([], y ∷ [], y, refl, (refl, refl), (y ∷ [], [], y, refl, (refl, refl), (refl, refl)))),
        ),
      ),
    )

mutual
  -- each history of the list is one that the policy gives
  from_list : (p : Policy) → IsFlat p → (h g : History) → In (histories_from p h) g
      → GoesOnBy (Gives p) h g
  from_list (test f n) flat h g i =
      let t = from_test (slice_index h.last f == n) h g i in
      let s = from_same h g t.1 in
      (s.0, s.1, (same_from (slice_index h.last f) n t.0, s.2.0, s.2.1))
  from_list (range f lo hi) flat h g i =
      let v = slice_index h.last f in
      let t = from_test (nat_le lo v && nat_le v hi) h g i in
      let k = both_true (nat_le lo v) (nat_le v hi) t.0 in
      let s = from_same h g t.1 in
      (s.0, s.1, (at_most_from lo v k.0, at_most_from v hi k.1, s.2.0, s.2.1))
  from_list (assign f n) flat h g i =
      from_same (at_packet h (slice_set h.last f n)) g (⊎_elim (λ e. e) (λ k. absurd k) i)
  from_list (sum_of ps) flat h g i = from_list_of_some ps flat h g i
  from_list (seq_of ps) flat h g i = from_list_of_all ps flat h g i
  from_list (not_of p) flat h g i =
      let t = from_unless (histories_from p h) h g i in
      let s = from_same h g t.1 in
      let no : Gives p h.last [] h.last → ⊥ =
      λ r.
      let at : In (histories_from p h) h = to_list p flat.1 h h ([], sym (append-nil h.records), r) in
      let at' : In {X = History} [] h = subst (λ gs. In gs h) t.0 at in
      at' in
      (s.0, s.1, (s.2, no))
  from_list (star_of p) flat h g i = absurd flat
  from_list (dup l) flat h g i =
      ⊎_elim
      (λ e. (h.last ∷ [], ap (λ (k : History). k.records) e, (refl, ap (λ (k : History). k.last) e)))
      (λ k. absurd k)
      i
  from_list (link a m b n l) flat h g i =
      let y = at_port h.last b n in
      let t = from_test ((slice_index h.last 0 == a) && (slice_index h.last 1 == m)) (recorded (at_packet (recorded h) y)) g i in
      let s = both_true (slice_index h.last 0 == a) (slice_index h.last 1 == m) t.0 in (
        h.last ∷ y ∷ [],
        ap (λ (k : History). k.records) t.1 ∙ append_assoc h.records (h.last ∷ []) (y ∷ []),
        subst
            (λ q. Gives (link a m b n l) h.last (h.last ∷ y ∷ []) q)
            (sym (ap (λ (k : History). k.last) t.1))
            (gives_link a m b n l h.last (same_from _ a s.0) (same_from _ m s.1)),
      )

  -- each history of a sum's list is one that the sum gives
  from_list_of_some : (ps : Policies) → AllFlat ps → (h g : History)
      → In (histories_of_some ps h) g → GoesOnBy (some_way_of ps bare) h g
  from_list_of_some no_part flat h g i = absurd i
  from_list_of_some (part p ps) flat h g i =
      ⊎_elim
      (λ s. let r = from_list p flat.0 h g s in (r.0, r.1, inl r.2))
      (λ s. let r = from_list_of_some ps flat.1 h g s in (r.0, r.1, inr r.2))
      (in_either (histories_from p h) (histories_of_some ps h) g i)

  -- and of a sequence
  from_list_of_all : (ps : Policies) → AllFlat ps → (h g : History)
      → In (histories_of_all ps h) g → GoesOnBy (way_of_all ps bare) h g
  from_list_of_all no_part flat h g i = from_same h g (⊎_elim (λ e. e) (λ k. absurd k) i)
  from_list_of_all (part p ps) flat h g i =
      let s = from_joined (λ f. histories_of_all ps f) (histories_from p h) g i in
      let r = from_list p flat.0 h s.0 s.1 in
      let t = from_list_of_all ps flat.1 s.0 g s.2 in
      (r.0 ++ t.0, t.1 ∙ ap (λ q. q ++ t.0) r.1 ∙ append_assoc h.records r.0 t.0, (r.0, t.0, s.0.last, refl, r.2, t.2))

  -- each history that the policy gives is in the list
  to_list : (p : Policy) → IsFlat p → (h g : History) → GoesOnBy (Gives p) h g
      → In (histories_from p h) g
  to_list (test f n) flat h g r =
      to_test (slice_index h.last f == n) h g (same_test (slice_index h.last f) n r.2.0) (to_same h g (r.0, r.1, (r.2.1, r.2.2)))
  to_list (range f lo hi) flat h g r =
      let v = slice_index h.last f in
      let t = both_pass (nat_le lo v) (nat_le v hi) (at_most_test lo v r.2.0) (at_most_test v hi r.2.1) in
      to_test (nat_le lo v && nat_le v hi) h g t (to_same h g (r.0, r.1, (r.2.2, r.2.3)))
  to_list (assign f n) flat h g r = inl (to_same (at_packet h (slice_set h.last f n)) g r)
  to_list (sum_of ps) flat h g r = to_list_of_some ps flat h g r
  to_list (seq_of ps) flat h g r = to_list_of_all ps flat h g r
  to_list (not_of p) flat h g r =
      to_unless
      (histories_from p h)
      h
      g
      (λ f i.
      let s = from_list p flat.1 h f i in
      let k = predicate_keeps bare p flat.0 h.last s.0 f.last s.2 in
      r.2.1 (subst (λ q. Gives p h.last [] q) k.1 (subst (λ q. Gives p h.last q f.last) k.0 s.2)))
      (to_same h g (r.0, r.1, r.2.0))
  to_list (star_of p) flat h g r = absurd flat
  to_list (dup l) flat h g r = inl (history_is g (recorded h) (r.1 ∙ ap (λ t. h.records ++ t) r.2.0) r.2.1)
  to_list (link a m b n l) flat h g r =
      let y = at_port h.last b n in
      let s = link_gives a m b n l h.last r.0 g.last r.2 in
      to_test
      ((slice_index h.last 0 == a) && (slice_index h.last 1 == m))
      (recorded (at_packet (recorded h) y))
      g
      (both_pass (slice_index h.last 0 == a) (slice_index h.last 1 == m) (same_test _ a s.0) (same_test _ m s.1))
      (history_is g (recorded (at_packet (recorded h) y)) (r.1 ∙ ap (λ t. h.records ++ t) s.2 ∙ sym (append_assoc h.records (h.last ∷ []) (y ∷ []))) s.3)

  -- each history that a sum gives is in its list
  to_list_of_some : (ps : Policies) → AllFlat ps → (h g : History)
      → GoesOnBy (some_way_of ps bare) h g → In (histories_of_some ps h) g
  to_list_of_some no_part flat h g r = absurd r.2
  to_list_of_some (part p ps) flat h g r =
      ⊎_elim
      (λ s. in_left (histories_from p h) (histories_of_some ps h) g (to_list p flat.0 h g (r.0, r.1, s)))
      (λ s. in_right (histories_from p h) (histories_of_some ps h) g (to_list_of_some ps flat.1 h g (r.0, r.1, s)))
      r.2

  -- and of a sequence
  to_list_of_all : (ps : Policies) → AllFlat ps → (h g : History)
      → GoesOnBy (way_of_all ps bare) h g → In (histories_of_all ps h) g
  to_list_of_all no_part flat h g r = inl (to_same h g r)
  to_list_of_all (part p ps) flat h g r =
      let s = r.2 in
      let f : History = record { records = h.records ++ s.0; last = s.2 } in
      let first = to_list p flat.0 h f (s.0, refl, s.4) in
      let whole = r.1 ∙ ap (λ t. h.records ++ t) s.3 ∙ sym (append_assoc h.records s.0 s.1) in
      let rest = to_list_of_all ps flat.1 f g (s.1, whole, s.5) in
      in_joined (λ k. histories_of_all ps k) (histories_from p h) f g first rest

-- the histories of a policy from a packet are those that it gives
pub histories_are : (p : Policy) → IsFlat p → (pk : Packet) (h : History)
    → Contains (histories_of p pk) h ↔ Gives p pk h.records h.last
histories_are p flat pk h = (
  λ c.
      let start : History = record { records = []; last = pk } in
      let r = from_list p flat start h (in_from_contains (histories_of p pk) h c) in
      subst (λ w. Gives p pk w h.last) (sym r.1) r.2,
  λ r.
      let start : History = record { records = []; last = pk } in
      contains_from_in (histories_of p pk) h (to_list p flat start h (h.records, refl, r)),
)

-- what all elements of two lists make
flat_map_joined : {X Y : Type 0} (f : X → List Y) (xs ys : List X)
    → flat_map f (xs ++ ys) ≡ flat_map f xs ++ flat_map f ys
flat_map_joined f [] ys = refl
flat_map_joined f (x ∷ xs) ys = ap (λ l. f x ++ l) (flat_map_joined f xs ys) ∙ sym (append_assoc (f x) (flat_map f xs) (flat_map f ys))

-- one part for all the histories, and then the parts that follow
all_in_turn : (p : Policy) (ps : Policies) (hs : List History)
    → flat_map (λ h. histories_of_all (part p ps) h) hs ≡ flat_map (λ h. histories_of_all ps h) (flat_map (λ h. histories_from p h) hs)
all_in_turn p ps [] = refl
all_in_turn p ps (h ∷ hs) =
    ap (λ l. histories_of_all (part p ps) h ++ l) (all_in_turn p ps hs)
    ∙ sym (flat_map_joined (λ k. histories_of_all ps k) (histories_from p h) (flat_map (λ k. histories_from p k) hs))

-- without a part the histories stay
no_turn : (hs : List History) → flat_map (λ h. histories_of_all no_part h) hs ≡ hs
no_turn [] = refl
no_turn (h ∷ hs) = ap (λ l. h ∷ l) (no_turn hs)

-- the loop's fact, after one more part
pub turn_done : (xs : List Pol) (i j : ℕ) (q : Pol) (cur cur' next all : List History)
    → i < length xs → q ≡ get_or xs i q → cur' ≡ cur → length cur' ≤ j
    → next ++ flat_map (λ h. histories_from (tree_of q) h) (drop j cur') ≡ flat_map (λ h. histories_from (tree_of q) h) cur'
    → flat_map (λ h. histories_of_all (trees_of (drop i xs)) h) cur ≡ all
    → flat_map (λ h. histories_of_all (trees_of (drop (i + 1) xs)) h) next ≡ all
turn_done xs i j q cur cur' next all lt is same out here inv =
    let all_next : next ≡ flat_map (λ h. histories_from (tree_of q) h) cur' =
    sym (append-nil next) ∙ ap (λ l. next ++ flat_map (λ h. histories_from (tree_of q) h) l) (sym (drop_all j cur' out)) ∙ here in
    let left = left_is xs i q lt is in
    ap
    (λ l. flat_map (λ h. histories_of_all (trees_of (drop (i + 1) xs)) h) l)
    (all_next ∙ ap (λ l. flat_map (λ h. histories_from (tree_of q) h) l) same)
    ∙ sym (all_in_turn (tree_of q) (trees_of (drop (i + 1) xs)) cur)
    ∙ ap (λ l. flat_map (λ h. histories_of_all (trees_of l) h) cur) (sym left)
    ∙ inv

-- when no part is left, the histories so far are all
pub turns_done : (xs : List Pol) (i : ℕ) (cur all : List History)
    → length xs ≤ i
    → flat_map (λ h. histories_of_all (trees_of (drop i xs)) h) cur ≡ all
    → cur ≡ all
turns_done xs i cur all le inv =
    sym (no_turn cur) ∙ ap (λ l. flat_map (λ h. histories_of_all (trees_of l) h) cur) (sym (drop_all i xs le)) ∙ inv
