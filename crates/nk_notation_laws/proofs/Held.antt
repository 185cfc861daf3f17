-- What `in` knows at a place in what `out` writes.
use Rattle.std.proofs.Common.{◌≡◌, ℕ, false, List, ◌∷◌, ◌++◌, refl, ap, ◌∙◌, arith}
use Rattle.std.specs.Prelude.{codes}
use Rattle.nk_lex.proofs.Digits.{StopsAt}
use Rattle.nk_notation.specs.declared.context.TextKind.{TextKind}
use Rattle.nk_notation.specs.declared.inward.Inward.{Inward}
use Rattle.nk_notation.specs.declared.inward.Place.{Place}
use Rattle.nk_notation.specs.declared.outward.Spot.{Spot}
use Rattle.nk_notation.specs.declared.outward.Spot.TheVariants as spot
use Rattle.nk_notation.specs.Inward.{after_byte, after_word, kind_after, kind_beyond, place_after}
use Rattle.nk_notation.specs.Lexemes.{is_run_byte}
use Rattle.nk_notation.specs.Outward.{held}
use Rattle.nk_notation_laws.proofs.Places.{Follows}
use Rattle.nk_notation_laws.proofs.ReadsWords.{Reads, reads_byte, reads_under, reads_word}
use Rattle.nk_notation_laws.proofs.Spots.{IsBare, IsLastFit, IsSpotKnown, known_byte, known_word}
use Rattle.nk_notation_laws.proofs.WordsAgain.{in_word}

-- the place after the bytes that are held
abbrev pub past : Spot → Place → Place
past (spot.In f) p = place_after p (codes "in")
past (spot.Range f) p = place_after p (codes "in")
past s p = p

pub bare_past : (s : Spot) (p : Place) → IsBare s → past s p ≡ p
bare_past (spot.Blank f) p h = absurd h
bare_past (spot.In f) p h = absurd h
bare_past (spot.Range f) p h = absurd h
bare_past s p h = refl

-- What is known where `out` stands at this spot: `in` is before the bytes that are held, and p is the place after them.
pub record IsOut (k : TextKind) (s : Spot) (p : Place) (r : Inward) : Type 0 where
  pub follows : Follows p (past s r.place)
  pub kind : r.kind ≡ k
  pub last : IsLastFit s r.last

-- what is held ends before these bytes
abbrev pub HeldStops : Spot → List ℕ → Type 0
HeldStops (spot.In f) w = StopsAt is_run_byte w
HeldStops s w = Unit {0}

pub held_stops : (s : Spot) (v w : List ℕ) → (StopsAt is_run_byte v → StopsAt is_run_byte w) → HeldStops s v → HeldStops s w
held_stops (spot.In g) v w f h = f h
held_stops s v w f h = tt

pub bare_stops : (s : Spot) (w : List ℕ) → IsBare s → HeldStops s w
bare_stops (spot.Blank f) w h = absurd h
bare_stops (spot.In f) w h = absurd h
bare_stops (spot.Range f) w h = absurd h
bare_stops s w h = tt

-- the bytes that are held are read
pub reads_held : (k : TextKind) (s : Spot) (p : Place) (written read : List ℕ) → HeldStops s written → IsSpotKnown s k
    → Reads false (IsOut k spot.Nothing p) written read → Reads false (IsOut k s p) (held s ++ written) (held s ++ read)
unfolding held after_byte after_word
reads_held k spot.Nothing p written read stops known rest = rest
reads_held k (spot.Name f) p written read stops known rest =
    reads_under false (IsOut k (spot.Name f) p) (IsOut k spot.Nothing p) written read (λ r o. record { follows = o.follows; kind = o.kind; last = tt }) rest
reads_held k (spot.Assigned f) p written read stops known rest =
    reads_under false (IsOut k (spot.Assigned f) p) (IsOut k spot.Nothing p) written read (λ r o. record { follows = o.follows; kind = o.kind; last = tt }) rest
reads_held k (spot.Blank f) p written read stops known rest =
    reads_byte (IsOut k (spot.Blank f) p) (IsOut k spot.Nothing p) 32 written read refl refl
    (λ r o. record { follows = o.follows; kind = ap (λ x. kind_beyond x 32) o.kind ∙ known_byte k 32 known; last = tt }) rest
reads_held k (spot.In f) p written read stops known rest =
    let E : Inward → Type 0 = λ r. IsOut k spot.Nothing p (after_word r (codes "in")) in
    reads_byte (IsOut k (spot.In f) p) E 32 (codes "in" ++ written) (codes "in" ++ read) refl refl
    (λ r o. record {
      follows = o.follows;
      kind = ap (λ x. kind_after (kind_beyond x 32) (codes "in")) o.kind ∙ ap (λ x. kind_after x (codes "in")) (known_byte k 32 known) ∙ known_word k (codes "in") known;
      last = tt;
    })
    (reads_word E (IsOut k spot.Nothing p) (codes "in") (codes "in") written read (refl, refl) (omega arith) stops (λ r c. (in_word r, c)) rest)
reads_held k (spot.Range f) p written read stops known rest =
    let F : Inward → Type 0 = λ r. IsOut k spot.Nothing p (after_byte r 32) in
    let E : Inward → Type 0 = λ r. F (after_word r (codes "in")) in
    reads_byte (IsOut k (spot.Range f) p) E 32 (codes "in" ++ 32 ∷ written) (codes "in" ++ 32 ∷ read) refl refl
    (λ r o. record {
      follows = o.follows;
      kind = ap (λ x. kind_beyond (kind_after (kind_beyond x 32) (codes "in")) 32) o.kind ∙ ap (λ x. kind_beyond (kind_after x (codes "in")) 32) (known_byte k 32 known)
          ∙ ap (λ x. kind_beyond x 32) (known_word k (codes "in") known) ∙ known_byte k 32 known;
      last = tt;
    })
    (reads_word E F (codes "in") (codes "in") (32 ∷ written) (32 ∷ read) (refl, refl) (omega arith) refl (λ r c. (in_word r, c))
    (reads_byte F (IsOut k spot.Nothing p) 32 written read refl refl (λ r c. c) rest))
