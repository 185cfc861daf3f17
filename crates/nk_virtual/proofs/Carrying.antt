-- Over a property of packets that the policy's assignments keep, and fabrics that carry each packet with it: physical
-- histories lie over virtual ones, and each virtual one has a physical one over it.
use Rattle.std.proofs.Common.{◌≡◌, ℕ, zero, suc, Bool, false, inl, inr, ⊎_elim, List, [], ◌∷◌, ◌++◌, refl, sym, ap, subst, ◌∙◌}
use Rattle.std.specs.Prelude.{map, slice_set, Contains}
use Rattle.std.proofs.lemmas.List.{append-nil}
use Rattle.nk_field.specs.declared.packet.Packet.{Packet}
use Rattle.nk_field.proofs.Lists.{contains_from_in}
use Rattle.nk_policy.specs.Policy.{Policy, Policies, test, range, assign, sum_of, seq_of, not_of, star_of, dup, link, no_part, part}
use Rattle.nk_policy.specs.Meaning.{Way, keep, followed_by, rounds, way_of, some_way_of, way_of_all, Gives}
use Rattle.nk_policy.specs.Leaves.{has_leaf, some_has_leaf, is_dup}
use Rattle.nk_policy.specs.Ranges.{AssignsOnly, AllAssignOnly}
use Rattle.nk_policy.proofs.Tests.{false_true, both_false}
use Rattle.nk_names.specs.Accepted.{is_link_outside}
use Rattle.nk_names.specs.ProgramValue.{VirtualLink}
use Rattle.nk_virtual.specs.Physical.{through_fabric, link_through, physical, all_physical}
use Rattle.nk_virtual.specs.Fabrics.{IsAtStartOf, moved_along, LiesOver}
use Rattle.nk_virtual.proofs.Over.{over_same, over_joined}
use Rattle.nk_virtual.proofs.Literals.{plain, moved_to, crosses, crossed, into_fabric, out_of_fabric, IsFound, is_found, not_false}

-- from a packet with the property at its start a virtual link's fabric ends at the moved packet alone, and does end
pub record Carries (Ready : Packet → Type 0) (k : VirtualLink) : Type 0 where
  pub ends : (x : Packet) (w : List Packet) (y : Packet) → Ready x → IsAtStartOf k x → Gives k.fabric x w y → y ≡ moved_along k x
  pub some : (x : Packet) → Ready x → IsAtStartOf k x → (w : List Packet) × (y : Packet) × Gives k.fabric x w y

module _ (Allowed : ℕ → ℕ → Type 0) (Ready : Packet → Type 0)
    (set_keeps : (pk : Packet) (f n : ℕ) → Allowed f n → Ready pk → Ready (slice_set pk f n))
    (links : List VirtualLink) (carries : (k : VirtualLink) → Contains links k → Carries Ready k) where
  -- each way of the first lies over one of the second that ends at the same packet
  abbrev pub LiesOn : Way Packet → Way Packet → Type 0
  LiesOn R S = (pk : Packet) (w : List Packet) (y : Packet) → Ready pk → R pk w y
      → (v : List Packet) × S pk v y × LiesOver links w v × Ready y

  -- each way of the second has one of the first over it
  abbrev pub IsLaid : Way Packet → Way Packet → Type 0
  IsLaid R S = (pk : Packet) (v : List Packet) (y : Packet) → Ready pk → S pk v y
      → (w : List Packet) × R pk w y × LiesOver links w v × Ready y

  -- an equal packet has the property
  same_ready : (x y : Packet) → y ≡ x → Ready x → Ready y
  same_ready x y e h = subst (λ z. Ready z) (sym e) h

  -- two ways in turn lie over two
  followed_lie : (R S R' S' : Way Packet) → LiesOn R S → LiesOn R' S'
      → LiesOn (followed_by R R') (followed_by S S')
  followed_lie R S R' S' a b pk w y ready r =
      let f = a pk r.0 r.2 ready r.4 in
      let g = b r.2 r.1 y f.3 r.5 in (
        f.0 ++ g.0,
        (f.0, g.0, r.2, refl, f.1, g.1),
        over_same links w (r.0 ++ r.1) (f.0 ++ g.0) r.3 (over_joined links r.0 r.1 f.0 g.0 f.2 g.2),
        g.3,
      )

  -- and two have two over them
  followed_laid : (R S R' S' : Way Packet) → IsLaid R S → IsLaid R' S'
      → IsLaid (followed_by R R') (followed_by S S')
  followed_laid R S R' S' a b pk v y ready s =
      let f = a pk s.0 s.2 ready s.4 in
      let g = b s.2 s.1 y f.3 s.5 in (
        f.0 ++ g.0,
        (f.0, g.0, s.2, refl, f.1, g.1),
        subst (λ t. LiesOver links (f.0 ++ g.0) t) (sym s.3) (over_joined links f.0 g.0 s.0 s.1 f.2 g.2),
        g.3,
      )

  -- where nothing happens
  keep_lies : LiesOn keep keep
  keep_lies pk w y ready r = ([], (refl, r.1), r.0, same_ready pk y r.1 ready)

  keep_laid : IsLaid keep keep
  keep_laid pk v y ready s = ([], (refl, s.1), subst (λ t. LiesOver links [] t) (sym s.0) refl, same_ready pk y s.1 ready)

  -- rounds
  rounds_lie : (R S : Way Packet) → LiesOn R S → (n : ℕ) → LiesOn (rounds n R) (rounds n S)
  rounds_lie R S a zero = keep_lies
  rounds_lie R S a (suc n) = followed_lie R S (rounds n R) (rounds n S) a (rounds_lie R S a n)

  rounds_laid : (R S : Way Packet) → IsLaid R S → (n : ℕ) → IsLaid (rounds n R) (rounds n S)
  rounds_laid R S a zero = keep_laid
  rounds_laid R S a (suc n) = followed_laid R S (rounds n R) (rounds n S) a (rounds_laid R S a n)

  -- a literal that is no virtual link
  abbrev pub outside : Policy → Bool
  outside = is_link_outside (map (λ k. k.ends) links)

  -- the moved packet has the property
  moved_ready : (b n : ℕ) → Allowed 0 b → Allowed 1 n → (x : Packet) → Ready x → Ready (moved_to b n x)
  moved_ready b n p q x h = set_keeps (slice_set x 0 b) 1 n q (set_keeps x 0 b p h)

  -- the packet that a literal's virtual link moves is the one that the literal moves
  same_move : (a m b n l : ℕ) (i : IsFound links a m b n l) (x : Packet) → moved_along i.found x ≡ moved_to b n x
  same_move a m b n l i x =
      ap (λ t. slice_set (slice_set x 0 t) 1 i.found.ends.to_port) i.to_switch
      ∙ ap (λ t. slice_set (slice_set x 0 b) 1 t) i.to_port

  -- a literal of a virtual link
  found_lies : (a m b n l : ℕ) → IsFound links a m b n l → Allowed 0 b → Allowed 1 n
      → LiesOn (way_of (link_through links a m b n l) plain) (way_of (link a m b n l) plain)
  found_lies a m b n l i p q pk w y ready r =
      let k = i.found in
      let among : Contains links k = contains_from_in links k i.among in
      let r' : way_of (through_fabric k) plain pk w y = subst (λ t. way_of t plain pk w y) i.stands r in
      let o = out_of_fabric k pk w y r' in
      let at : IsAtStartOf k pk = (o.0, o.1) in
      let e : y ≡ moved_to b n pk = (carries k among).ends pk w y ready at o.2 ∙ same_move a m b n l i pk in
      let c : way_of (link a m b n l) plain pk (pk ∷ moved_to b n pk ∷ []) (moved_to b n pk) = crosses a m b n l pk (o.0 ∙ i.from_switch) (o.1 ∙ i.from_port) in (
        pk ∷ y ∷ [],
        subst (λ t. way_of (link a m b n l) plain pk (pk ∷ t ∷ []) t) (sym e) c,
        (k, w, [], among, at, sym (append-nil w), o.2, refl),
        same_ready (moved_to b n pk) y e (moved_ready b n p q pk ready),
      )

  found_laid : (a m b n l : ℕ) → IsFound links a m b n l → Allowed 0 b → Allowed 1 n
      → IsLaid (way_of (link_through links a m b n l) plain) (way_of (link a m b n l) plain)
  found_laid a m b n l i p q pk v y ready s =
      let k = i.found in
      let among : Contains links k = contains_from_in links k i.among in
      let c = crossed a m b n l pk v y s in
      let at : IsAtStartOf k pk = (c.0 ∙ sym i.from_switch, c.1 ∙ sym i.from_port) in
      let o = (carries k among).some pk ready at in
      let e : o.1 ≡ y = (carries k among).ends pk o.0 o.1 ready at o.2 ∙ same_move a m b n l i pk ∙ sym c.3 in
      let g : way_of k.fabric plain pk o.0 y = subst (λ t. way_of k.fabric plain pk o.0 t) e o.2 in
      let v' : v ≡ pk ∷ y ∷ [] = c.2 ∙ ap (λ t. pk ∷ t ∷ []) (sym c.3) in
      let into : way_of (through_fabric k) plain pk o.0 y = into_fabric k pk o.0 y at.0 at.1 g in
      let over : LiesOver links o.0 (pk ∷ y ∷ []) = (k, o.0, [], among, at, sym (append-nil o.0), g, refl) in (
        o.0,
        subst (λ t. way_of t plain pk o.0 y) (sym i.stands) into,
        subst (λ t. LiesOver links o.0 t) (sym v') over,
        same_ready (moved_to b n pk) y c.3 (moved_ready b n p q pk ready),
      )

  -- which links a literal is found among
  literal_found : (a m b n l : ℕ) → outside (link a m b n l) ≡ false → IsFound links a m b n l
  literal_found a m b n l h = is_found links a m b n l (not_false _ h)

  mutual
    -- a policy
    pub lies : (p : Policy) → AssignsOnly Allowed p → has_leaf is_dup p ≡ false → has_leaf outside p ≡ false
        → LiesOn (way_of (physical links p) plain) (way_of p plain)
    lies (test f n) q d o = λ pk w y ready r.
        ([], (r.0, refl, r.2), r.1, same_ready pk y r.2 ready)
    lies (range f low high) q d o = λ pk w y ready r.
        ([], (r.0, r.1, refl, r.3), r.2, same_ready pk y r.3 ready)
    lies (assign f n) q d o = λ pk w y ready r.
        ([], (refl, r.1), r.0, same_ready (slice_set pk f n) y r.1 (set_keeps pk f n q ready))
    lies (sum_of ps) q d o = some_lie ps q d o
    lies (seq_of ps) q d o = all_lie ps q d o
    lies (not_of p) q d o = λ pk w y ready r.
        ([], ((refl, r.0.1), r.1), r.0.0, same_ready pk y r.0.1 ready)
    lies (star_of p) q d o = λ pk w y ready r.
        let f = rounds_lie (way_of (physical links p) plain) (way_of p plain) (lies p q d o) r.0 pk w y ready r.1 in
        (f.0, (r.0, f.1), f.2, f.3)
    lies (dup l) q d o = absurd (false_true (sym d))
    lies (link a m b n l) q d o = found_lies a m b n l (literal_found a m b n l o) q.0 q.1

    -- a sum
    some_lie : (ps : Policies) → AllAssignOnly Allowed ps → some_has_leaf is_dup ps ≡ false
        → some_has_leaf outside ps ≡ false
        → LiesOn (some_way_of (all_physical links ps) plain) (some_way_of ps plain)
    some_lie no_part q d o = λ pk w y ready r. absurd r
    some_lie (part p ps) q d o = λ pk w y ready r.
        let d2 = both_false (has_leaf is_dup p) (some_has_leaf is_dup ps) d in
        let o2 = both_false (has_leaf outside p) (some_has_leaf outside ps) o in
        ⊎_elim
        (λ s. let f = lies p q.0 d2.0 o2.0 pk w y ready s in (f.0, inl f.1, f.2, f.3))
        (λ s. let f = some_lie ps q.1 d2.1 o2.1 pk w y ready s in (f.0, inr f.1, f.2, f.3))
        r

    -- a sequence
    all_lie : (ps : Policies) → AllAssignOnly Allowed ps → some_has_leaf is_dup ps ≡ false
        → some_has_leaf outside ps ≡ false
        → LiesOn (way_of_all (all_physical links ps) plain) (way_of_all ps plain)
    all_lie no_part q d o = keep_lies
    all_lie (part p ps) q d o =
        let d2 = both_false (has_leaf is_dup p) (some_has_leaf is_dup ps) d in
        let o2 = both_false (has_leaf outside p) (some_has_leaf outside ps) o in
        followed_lie
        (way_of (physical links p) plain)
        (way_of p plain)
        (way_of_all (all_physical links ps) plain)
        (way_of_all ps plain)
        (lies p q.0 d2.0 o2.0)
        (all_lie ps q.1 d2.1 o2.1)

  mutual
    -- a policy
    pub laid : (p : Policy) → AssignsOnly Allowed p → has_leaf is_dup p ≡ false → has_leaf outside p ≡ false
        → IsLaid (way_of (physical links p) plain) (way_of p plain)
    laid (test f n) q d o = λ pk v y ready s. (
      [],
      (s.0, refl, s.2),
      subst (λ t. LiesOver links [] t) (sym s.1) refl,
      same_ready pk y s.2 ready,
    )
    laid (range f low high) q d o = λ pk v y ready s. (
      [],
      (s.0, s.1, refl, s.3),
      subst (λ t. LiesOver links [] t) (sym s.2) refl,
      same_ready pk y s.3 ready,
    )
    laid (assign f n) q d o = λ pk v y ready s. (
      [],
      (refl, s.1),
      subst (λ t. LiesOver links [] t) (sym s.0) refl,
      same_ready (slice_set pk f n) y s.1 (set_keeps pk f n q ready),
    )
    laid (sum_of ps) q d o = some_laid ps q d o
    laid (seq_of ps) q d o = all_laid ps q d o
    laid (not_of p) q d o = λ pk v y ready s. (
      [],
      ((refl, s.0.1), s.1),
      subst (λ t. LiesOver links [] t) (sym s.0.0) refl,
      same_ready pk y s.0.1 ready,
    )
    laid (star_of p) q d o = λ pk v y ready s.
        let f = rounds_laid (way_of (physical links p) plain) (way_of p plain) (laid p q d o) s.0 pk v y ready s.1 in
        (f.0, (s.0, f.1), f.2, f.3)
    laid (dup l) q d o = absurd (false_true (sym d))
    laid (link a m b n l) q d o = found_laid a m b n l (literal_found a m b n l o) q.0 q.1

    -- a sum
    some_laid : (ps : Policies) → AllAssignOnly Allowed ps → some_has_leaf is_dup ps ≡ false
        → some_has_leaf outside ps ≡ false
        → IsLaid (some_way_of (all_physical links ps) plain) (some_way_of ps plain)
    some_laid no_part q d o = λ pk v y ready s. absurd s
    some_laid (part p ps) q d o = λ pk v y ready s.
        let d2 = both_false (has_leaf is_dup p) (some_has_leaf is_dup ps) d in
        let o2 = both_false (has_leaf outside p) (some_has_leaf outside ps) o in
        ⊎_elim
        (λ t. let f = laid p q.0 d2.0 o2.0 pk v y ready t in (f.0, inl f.1, f.2, f.3))
        (λ t. let f = some_laid ps q.1 d2.1 o2.1 pk v y ready t in (f.0, inr f.1, f.2, f.3))
        s

    -- a sequence
    all_laid : (ps : Policies) → AllAssignOnly Allowed ps → some_has_leaf is_dup ps ≡ false
        → some_has_leaf outside ps ≡ false
        → IsLaid (way_of_all (all_physical links ps) plain) (way_of_all ps plain)
    all_laid no_part q d o = keep_laid
    all_laid (part p ps) q d o =
        let d2 = both_false (has_leaf is_dup p) (some_has_leaf is_dup ps) d in
        let o2 = both_false (has_leaf outside p) (some_has_leaf outside ps) o in
        followed_laid
        (way_of (physical links p) plain)
        (way_of p plain)
        (way_of_all (all_physical links ps) plain)
        (way_of_all ps plain)
        (laid p q.0 d2.0 o2.0)
        (all_laid ps q.1 d2.1 o2.1)
