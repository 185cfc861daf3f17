-- Label sets step by step: where a run can be after one more record, and where it ends.
use Rattle.std.proofs.Common.{◌≡◌, ℕ, List, [], ◌∷◌, ◌++◌, refl, ap, subst, ◌∙◌}
use Rattle.std.specs.Prelude.{map, ◌↔◌, Contains}
use Rattle.nk_field.specs.declared.packet.Packet.{Packet}
use Rattle.nk_policy.specs.Policy.{Policy}
use Rattle.nk_policy.specs.Meaning.{Gives, Runs}
use Rattle.nk_policy.specs.Progress.{Marked, numbered, RecordsAt}
use Rattle.nk_policy.specs.After.{after}
use Rattle.nk_policy.specs.Distinct.{HasDistinct}
use Rattle.nk_policy.specs.Labels.{HasRecorded, HasExactly}
use Rattle.nk_policy.proofs.Splitting.{splits, joins}
use Rattle.nk_policy.proofs.Again.{again}
use Rattle.nk_policy.proofs.Positions.{passes, goes_on}
use Rattle.nk_policy.proofs.Marks.{ways_agree}
use Rattle.nk_field.proofs.Lists.{map_joined}
use Rattle.nk_policy.proofs.ListParts.{head_is, tail_is, last_is}

-- the packet of a record
abbrev pub packet_of : Packet × ℕ → Packet
packet_of r = r.0

-- a history is a run whose numbers are forgotten
pub gives_is_runs : (p : Policy) (pk : Packet) (w : List Packet) (y : Packet)
    → Gives p pk w y ↔ ((v : Marked) × (map packet_of v ≡ w) × Runs p pk v y)
gives_is_runs p pk w y = (
  λ g. (ways_agree packet_of numbered p pk y).1 w g,
  λ r. subst (λ l. Gives p pk l y) r.1 ((ways_agree packet_of numbered p pk y).0 r.0 r.2),
)

-- a list of marked packets whose packets end with x has a last record of x
pub last_record : (front : Marked) (u : List Packet) (x : Packet)
    → map packet_of front ≡ u ++ x ∷ []
    → (before : Marked) × (l : ℕ) × (front ≡ before ++ (x, l) ∷ []) × (map packet_of before ≡ u)
last_record [] [] x e = absurd cc
last_record [] (a ∷ u) x e = absurd cc
last_record (r ∷ []) [] x e = ([], r.1, ap (λ z. (z, r.1) ∷ []) (head_is r.0 [] x [] e), refl)
last_record (r ∷ s ∷ front) [] x e = absurd (let f = tail_is r.0 (s.0 ∷ map packet_of front) x [] e in cc)
last_record (r ∷ front) (a ∷ u) x e =
    let s = last_record front u x (tail_is r.0 (map packet_of front) a (u ++ x ∷ []) e) in
    (r ∷ s.0, s.1, ap (λ l. r ∷ l) s.2, ap (λ z. z ∷ map packet_of s.0) (head_is r.0 (map packet_of front) a (u ++ x ∷ []) e) ∙ ap (λ l. a ∷ l) s.3)

module _ (p : Policy) (d : HasDistinct p) where
  -- the first record
  pub at_first : (pk y : Packet) (l : ℕ) → HasRecorded p pk (y ∷ []) l ↔ RecordsAt p pk [] y l
  at_first pk y l = (λ h. there h.0 h.1 h.2 h.3, λ r. ([], y, refl, r))
    where
      there : (front : Marked) (x : Packet) → map packet_of front ++ x ∷ [] ≡ y ∷ []
          → RecordsAt p pk front x l → RecordsAt p pk [] y l
      there [] x e r = subst (λ z. RecordsAt p pk [] z l) (head_is x [] y [] e) r
      there (a ∷ front) x e r = let s = last_is (map packet_of (a ∷ front)) x [] y e in absurd (let f = s.0 in cc)

  -- one more record
  pub at_next : (pk : Packet) (u : List Packet) (x y : Packet) (l' : ℕ)
      → HasRecorded p pk ((u ++ x ∷ []) ++ y ∷ []) l' ↔ ((l : ℕ) × HasRecorded p pk (u ++ x ∷ []) l × RecordsAt (after p l) x [] y l')
  at_next pk u x y l' = (
    λ h.
        let e = last_is (map packet_of h.0) h.1 (u ++ x ∷ []) y h.2 in
        let s = last_record h.0 u x e.0 in
        let r = subst (λ f. RecordsAt p pk f y l') s.2 (subst (λ z. RecordsAt p pk h.0 z l') e.1 h.3) in
        let c = passes p d pk s.0 x s.1 [] y l' r in
        (s.1, (s.0, x, ap (λ l. l ++ x ∷ []) s.3, c.0), c.1),
    λ h.
        let a = h.1 in
        let e = last_is (map packet_of a.0) a.1 u x a.2 in
        let r = subst (λ z. RecordsAt p pk a.0 z h.0) e.1 a.3 in
        let all = goes_on p d pk a.0 x h.0 [] y l' r h.2 in
        (a.0 ++ (x, h.0) ∷ [], y, ap (λ l. l ++ y ∷ []) (map_joined packet_of a.0 ((x, h.0) ∷ []) ∙ ap (λ l. l ++ x ∷ []) e.0), all),
  )

  -- the end
  pub gives_at : (pk : Packet) (u : List Packet) (x z : Packet)
      → Gives p pk (u ++ x ∷ []) z ↔ ((l : ℕ) × HasRecorded p pk (u ++ x ∷ []) l × Gives (after p l) x [] z)
  gives_at pk u x z = (
    λ g.
        let r = (gives_is_runs p pk (u ++ x ∷ []) z).0 g in
        let s = last_record r.0 u x r.1 in
        let c = splits p d pk s.0 x s.1 [] z (subst (λ f. Runs p pk f z) s.2 r.2) in
        (s.1, (s.0, x, ap (λ l. l ++ x ∷ []) s.3, c.0), (gives_is_runs (after p s.1) x [] z).1 ([], refl, c.1)),
    λ h.
        let a = h.1 in
        let e = last_is (map packet_of a.0) a.1 u x a.2 in
        let at = subst (λ q. RecordsAt p pk a.0 q h.0) e.1 a.3 in
        let rest = (gives_is_runs (after p h.0) x [] z).0 h.2 in
        let run = subst (λ f. Runs (after p h.0) x f z) (empty rest.0 rest.1) rest.2 in
        (gives_is_runs p pk (u ++ x ∷ []) z).1 (a.0 ++ (x, h.0) ∷ [], map_joined packet_of a.0 ((x, h.0) ∷ []) ∙ ap (λ l. l ++ x ∷ []) e.0, joins p d pk a.0 x h.0 [] z at run),
  )
    where
      empty : (v : Marked) → map packet_of v ≡ [] → v ≡ []
      empty [] e = refl
      empty (r ∷ v) e = cc

  -- the first record of a history, and what is left
  pub gives_from : (pk y : Packet) (w : List Packet) (z : Packet)
      → Gives p pk (y ∷ w) z ↔ ((l : ℕ) × RecordsAt p pk [] y l × Gives (after p l) y w z)
  gives_from pk y w z = (
    λ g. let r = (gives_is_runs p pk (y ∷ w) z).0 g in there r.0 r.1 r.2,
    λ h.
        let r = (gives_is_runs (after p h.0) y w z).0 h.2 in
        (gives_is_runs p pk (y ∷ w) z).1 ((y, h.0) ∷ r.0, ap (λ l. y ∷ l) r.1, joins p d pk [] y h.0 r.0 z h.1 r.2),
  )
    where
      there : (v : Marked) → map packet_of v ≡ y ∷ w → Runs p pk v z
          → (l : ℕ) × RecordsAt p pk [] y l × Gives (after p l) y w z
      there [] e run = absurd cc
      there (r ∷ v) e run =
          let c = splits p d pk [] r.0 r.1 v z run in
          let is_y = head_is r.0 (map packet_of v) y w e in
          (r.1, subst (λ q. RecordsAt p pk [] q r.1) is_y c.0, (gives_is_runs (after p r.1) y w z).1 (v, tail_is r.0 (map packet_of v) y w e, subst (λ q. Runs (after p r.1) q v z) is_y c.1))

  -- the first record of a history of what is left after a dup, and what is left then
  pub rest_gives_from : (k : ℕ) (pk y : Packet) (w : List Packet) (z : Packet)
      → Gives (after p k) pk (y ∷ w) z ↔ ((l : ℕ) × RecordsAt (after p k) pk [] y l × Gives (after p l) y w z)
  rest_gives_from k pk y w z = (
    λ g. let r = (gives_is_runs (after p k) pk (y ∷ w) z).0 g in there r.0 r.1 r.2,
    λ h.
        let r = (gives_is_runs (after p h.0) y w z).0 h.2 in
        (gives_is_runs (after p k) pk (y ∷ w) z).1 ((y, h.0) ∷ r.0, ap (λ l. y ∷ l) r.1, (again p d k).joins_too pk [] y h.0 r.0 z h.1 r.2),
  )
    where
      there : (v : Marked) → map packet_of v ≡ y ∷ w → Runs (after p k) pk v z
          → (l : ℕ) × RecordsAt (after p k) pk [] y l × Gives (after p l) y w z
      there [] e run = absurd cc
      there (r ∷ v) e run =
          let c = (again p d k).splits_too pk [] r.0 r.1 v z run in
          let is_y = head_is r.0 (map packet_of v) y w e in
          (r.1, subst (λ q. RecordsAt (after p k) pk [] q r.1) is_y c.0, (gives_is_runs (after p r.1) y w z).1 (v, tail_is r.0 (map packet_of v) y w e, subst (λ q. Runs (after p r.1) q v z) is_y c.1))

  -- the next label set, from the members of this one
  pub sets_follow : (pk : Packet) (u : List Packet) (x y : Packet) (s next : List ℕ)
      → HasExactly (HasRecorded p pk (u ++ x ∷ [])) s
      → HasExactly (HasRecorded p pk ((u ++ x ∷ []) ++ y ∷ [])) next ↔ HasExactly (λ l'. (l : ℕ) × Contains s l × RecordsAt (after p l) x [] y l') next
  sets_follow pk u x y s next h = (
    λ e. (
      e.0,
      λ l'. (
        λ c. let a = (at_next pk u x y l').0 ((e.1 l').0 c) in (a.0, (h.1 a.0).1 a.1, a.2),
        λ a. (e.1 l').1 ((at_next pk u x y l').1 (a.0, (h.1 a.0).0 a.1, a.2)),
      ),
    ),
    λ e. (
      e.0,
      λ l'. (
        λ c. let a = (e.1 l').0 c in (at_next pk u x y l').1 (a.0, (h.1 a.0).0 a.1, a.2),
        λ i. let a = (at_next pk u x y l').0 i in (e.1 l').1 (a.0, (h.1 a.0).1 a.1, a.2),
      ),
    ),
  )

  -- the ends, from the members of the label set
  pub ends_follow : (pk : Packet) (u : List Packet) (x z : Packet) (s : List ℕ)
      → HasExactly (HasRecorded p pk (u ++ x ∷ [])) s
      → Gives p pk (u ++ x ∷ []) z ↔ ((l : ℕ) × Contains s l × Gives (after p l) x [] z)
  ends_follow pk u x z s h = (
    λ g. let a = (gives_at pk u x z).0 g in (a.0, (h.1 a.0).1 a.1, a.2),
    λ a. (gives_at pk u x z).1 (a.0, (h.1 a.0).0 a.1, a.2),
  )
