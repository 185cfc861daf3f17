-- Trails of crossings: more crossings after them leave them as they are, and one crossing goes on from another.
use Rattle.std.proofs.Common.{◌≡◌, ◌<◌, ◌+◌, ℕ, zero, suc, Option, None, Some, List, [], ◌∷◌, ◌++◌, length, take, get_or, refl, sym, ap, subst, ◌∙◌, arith, append_assoc, append-nil, length-append}
use Rattle.std.specs.Prelude.{reverse}
use Rattle.std.specs.List.{flat_map}
use Rattle.std.proofs.lemmas.List.{get_or_append_left, get_or_at, take_more, reverse-append}
use Rattle.std.proofs.lemmas.List.Concat.{flat_map-append}
use Rattle.std.proofs.lemmas.List.Elements.{All-nil, All-cons, All-head, All-tail, All-append}
use Rattle.nk_field.specs.Packet.{erased}
use Rattle.nk_field.proofs.Lists.{map_joined}
use Rattle.nk_table.specs.declared.Tables.{Tables}
use Rattle.nk_table.specs.Hops.{moved_to, crossing}
use Rattle.nk_sim.specs.declared.transit.Crossing.{Crossing}
use Rattle.nk_sim.specs.declared.transit.Flying.{Flying}
use Rattle.nk_sim.specs.Flights.{crossing_at, trail, HasTrail, HaveTrails, copy_of, copies_of, crossed, crossing_by, flying_by, link_of_sent, AreCrossed}

-- the copy's crossings are there
abbrev pub Has : List Crossing → ℕ → Flying → Type 0
Has cs k f = HasTrail cs k f.last

-- a trail stays where more crossings are held after
pub trail_more : (cs more : List Crossing) (k i : ℕ) → HasTrail cs k i
    → (trail (cs ++ more) k i ≡ trail cs k i) × HasTrail (cs ++ more) k i
trail_more cs more zero i h = (refl, tt)
trail_more cs more (suc k) i h =
    let same : crossing_at (cs ++ more) i ≡ crossing_at cs i = get_or_append_left cs more _ i h.0 in
    let rest = trail_more cs more k (crossing_at cs i).earlier h.1 in
    let within : i < length (cs ++ more) = omega (arith, h.0, length-append cs more) in (
      ap (λ (c : Crossing). trail (cs ++ more) k c.earlier ++ c.before ∷ c.after ∷ []) same
          ∙ ap (λ l. l ++ (crossing_at cs i).before ∷ (crossing_at cs i).after ∷ []) rest.0,
      (within, subst (λ (c : Crossing). HasTrail (cs ++ more) k c.earlier) (sym same) rest.1),
    )

-- and so do all copies
pub copies_more : (cs more : List Crossing) (k : ℕ) (fs : List Flying) → HaveTrails cs k fs
    → (copies_of (cs ++ more) k fs ≡ copies_of cs k fs) × HaveTrails (cs ++ more) k fs
copies_more cs more k [] h = (refl, All-nil (Has (cs ++ more) k))
copies_more cs more k (f ∷ fs) h =
    let one = trail_more cs more k f.last (All-head (Has cs k) f fs h) in
    let rest = copies_more cs more k fs (All-tail (Has cs k) f fs h) in
    ((λ i. record { records = one.0 i; packet = f.packet } ∷ rest.0 i), All-cons (Has (cs ++ more) k) f fs one.1 rest.1)

-- a copy that has just crossed
pub one_crossed : (t : Tables) (cs : List Crossing) (k : ℕ) (s : Flying) (o : Option (ℕ × ℕ)) → HasTrail cs k s.last
    → (copies_of (cs ++ crossing_by t s o) (suc k) (flying_by (length cs) s o) ≡ crossing t (trail cs k s.last) s.packet o)
    × HaveTrails (cs ++ crossing_by t s o) (suc k) (flying_by (length cs) s o)
one_crossed t cs k s None h = (refl, All-nil (Has (cs ++ []) (suc k)))
one_crossed t cs k s (Some to) h =
    let c : Crossing = record { earlier = s.last; before = erased t.fields s.packet; after = erased t.fields (moved_to to s.packet) } in
    let f : Flying = record { last = length cs; packet = moved_to to s.packet } in
    let at : crossing_at (cs ++ c ∷ []) (length cs) ≡ c = get_or_at cs c [] _ (length cs) refl in
    let rest = trail_more cs (c ∷ []) k s.last h in
    let within : length cs < length (cs ++ c ∷ []) = omega (arith, length-append cs (c ∷ [])) in (
      (λ i. record {
        records = (ap (λ (d : Crossing). trail (cs ++ c ∷ []) k d.earlier ++ d.before ∷ d.after ∷ []) at ∙ ap (λ l. l ++ c.before ∷ c.after ∷ []) rest.0) i;
        packet = moved_to to s.packet;
      } ∷ []),
      All-cons (Has (cs ++ c ∷ []) (suc k)) f [] (within, subst (λ (d : Crossing). HasTrail (cs ++ c ∷ []) k d.earlier) (sym at) rest.1) (All-nil (Has (cs ++ c ∷ []) (suc k))),
    )

-- one sent copy more
pub crossed_step : (t : Tables) (cs ds es : List Crossing) (k : ℕ) (sent next last : List Flying) (s : Flying) → HasTrail cs k s.last
    → AreCrossed t cs ds k sent next → es ≡ ds ++ crossing_by t s (link_of_sent t s) → last ≡ next ++ flying_by (length ds) s (link_of_sent t s)
    → AreCrossed t cs es k (sent ++ s ∷ []) last
crossed_step t cs ds es k sent next last s has are grown following =
    let old = trail_more cs are.more k s.last has in
    let here : HasTrail ds k s.last = subst (λ (l : List Crossing). HasTrail l k s.last) (sym are.grown) old.1 in
    let same : trail ds k s.last ≡ trail cs k s.last = ap (λ (l : List Crossing). trail l k s.last) are.grown ∙ old.0 in
    let c : List Crossing = crossing_by t s (link_of_sent t s) in
    let f : List Flying = flying_by (length ds) s (link_of_sent t s) in
    let one = one_crossed t ds k s (link_of_sent t s) here in
    let before = copies_more ds c (suc k) next are.trails in
    record {
      more = are.more ++ c;
      grown = grown ∙ ap (λ (l : List Crossing). l ++ c) are.grown ∙ append_assoc cs are.more c;
      copies =
          (λ i. copies_of (grown i) (suc k) (following i))
          ∙ map_joined (copy_of (ds ++ c) (suc k)) next f
          ∙ (λ i. (before.0 ∙ are.copies) i ++ (one.0 ∙ ap (λ w. crossing t w s.packet (link_of_sent t s)) same) i)
          ∙ ap (λ l. flat_map (crossed t) (copies_of cs k sent) ++ l) (sym (append-nil (crossed t (copy_of cs k s))))
          ∙ sym (flat_map-append (crossed t) (copies_of cs k sent) (copy_of cs k s ∷ []))
          ∙ ap (flat_map (crossed t)) (sym (map_joined (copy_of cs k) sent (s ∷ [])));
      trails =
          subst (λ (l : List Crossing). HaveTrails l (suc k) last) (sym grown)
          (subst (HaveTrails (ds ++ c) (suc k)) (sym following) (All-append (Has (ds ++ c) (suc k)) next f before.1 one.1));
    }

-- the element at a place, one more
pub taken : {X : Type 0} (xs : List X) (i : ℕ) (x : X) → i < length xs → x ≡ get_or xs i x → take (i + 1) xs ≡ take i xs ++ x ∷ []
taken xs i x less e = take_more xs i x less ∙ ap (λ y. take i xs ++ y ∷ []) (sym e)

-- one copy more of those that are sent
pub crossed_more : (t : Tables) (cs ds es : List Crossing) (k i : ℕ) (all next last : List Flying) (s : Flying) → i < length all → s ≡ get_or all i s
    → HaveTrails cs k all → AreCrossed t cs ds k (take i all) next
    → es ≡ ds ++ crossing_by t s (link_of_sent t s) → last ≡ next ++ flying_by (length ds) s (link_of_sent t s)
    → AreCrossed t cs es k (take (i + 1) all) last
crossed_more t cs ds es k i all next last s less e has are grown following =
    subst (λ (l : List Flying). AreCrossed t cs es k l last) (sym (taken all i s less e))
    (crossed_step t cs ds es k (take i all) next last s (subst (Has cs k) (sym e) (has i s less)) are grown following)

-- joining one element more
pub joined_more : {X Y : Type 0} (f : X → List Y) (xs : List X) (i : ℕ) (x : X) → i < length xs → x ≡ get_or xs i x
    → flat_map f (take (i + 1) xs) ≡ flat_map f (take i xs) ++ f x
joined_more f xs i x less e =
    ap (flat_map f) (taken xs i x less e) ∙ flat_map-append f (take i xs) (x ∷ []) ∙ ap (λ l. flat_map f (take i xs) ++ l) (append-nil (f x))

-- one crossing back
pub trail_back : (cs : List Crossing) (m n i : ℕ) → m ≡ suc n → HasTrail cs m i
    → (i < length cs) × HasTrail cs n (crossing_at cs i).earlier
    × (trail cs m i ≡ trail cs n (crossing_at cs i).earlier ++ (crossing_at cs i).before ∷ (crossing_at cs i).after ∷ [])
trail_back cs m n i e h =
    let back = subst (λ k. HasTrail cs k i) e h in
    (back.0, back.1, ap (λ k. trail cs k i) e)

-- its records are put in front
pub put_back : (w back : List (List ℕ)) (y z : List ℕ) → w ++ reverse ((back ++ z ∷ []) ++ y ∷ []) ≡ (w ++ y ∷ z ∷ []) ++ reverse back
put_back w back y z =
    ap (λ l. w ++ l) (reverse-append (back ++ z ∷ []) (y ∷ []) ∙ ap (λ l. y ∷ l) (reverse-append back (z ∷ [])))
    ∙ sym (append_assoc w (y ∷ z ∷ []) (reverse back))
