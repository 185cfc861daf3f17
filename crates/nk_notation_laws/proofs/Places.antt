-- The places in which a size of a field may stand, in a text and in another that is written in its place.
use Rattle.std.proofs.Common.{◌≡◌, ◌⊎◌, ◌==◌, ◌||◌, inl, inr, ℕ, Bool, true, false, cond, List, [], ◌∷◌, refl, sym, ap, ◌∙◌}
use Rattle.std.proofs.lemmas.Bool.{false≢true}
use Rattle.std.proofs.lemmas.Slice.Eq.{bytes_eq-Decides}
use Rattle.std.specs.Prelude.{Option, None, Some, bytes_eq, codes}
use Rattle.nk_lex.specs.Classes.{is_white}
use Rattle.nk_number_forms.specs.Forms.{first_byte}
use Rattle.nk_notation.specs.declared.inward.Inward.{Inward}
use Rattle.nk_notation.specs.declared.inward.Place.{Place}
use Rattle.nk_notation.specs.declared.inward.Place.TheVariants as place
use Rattle.nk_notation.specs.Inward.{after_byte, name_place, place_after, size_at, size_of_kind, small_size}
use Rattle.nk_notation.specs.Lexemes.{begins_word}
use Rattle.nk_notation.proofs.Cuts.{IsWordFront, not_that}
use Rattle.nk_notation_laws.proofs.ReadsWords.{after_bytes}
use Rattle.nk_notation_laws.proofs.RunsAgain.{is_nameless}

-- in the second text no more sizes are due than in the first
abbrev pub Follows : Place → Place → Type 0
Follows p q = (q ≡ place.Elsewhere) ⊎ (q ≡ p)

pub follows_byte : (p q : Place) (b : ℕ) → Follows p q → Follows (cond (is_white b) p place.Elsewhere) (cond (is_white b) q place.Elsewhere)
follows_byte p q b f = elim (is_white b) as (λ t. Follows (cond t p place.Elsewhere) (cond t q place.Elsewhere)) [
  | true ↦ f
  | false ↦ inl refl
]

follows_name : (p q : Place) (w : List ℕ) → Follows p q → Follows (name_place p w) (name_place q w)
unfolding name_place
follows_name p q w (inl e) = inl (ap (λ x. name_place x w) e)
follows_name p q w (inr e) = inr (ap (λ x. name_place x w) e)

pub follows_word : (p q : Place) (w : List ℕ) → Follows p q → Follows (place_after p w) (place_after q w)
unfolding place_after
follows_word p q w f = elim (bytes_eq w (codes "field")) as (λ t. Follows (cond t place.Field (name_place p w)) (cond t place.Field (name_place q w))) [
  | true ↦ inr refl
  | false ↦ follows_name p q w f
]

-- bytes that pass a test are not those that fail it
differ_by : (q : List ℕ → Bool) (w c : List ℕ) → q w ≡ true → q c ≡ false → (t : Bool) → bytes_eq w c ≡ t → t ≡ false
differ_by q w c passes fails true e = absurd (false≢true (sym fails ∙ ap q (sym ((bytes_eq-Decides w c).0 e)) ∙ passes))
differ_by q w c passes fails false e = refl

pub differ : (q : List ℕ → Bool) (w c : List ℕ) → q w ≡ true → q c ≡ false → bytes_eq w c ≡ false
differ q w c passes fails = differ_by q w c passes fails (bytes_eq w c) refl

-- what is no name is no kind of field, and not the word `field`
no_kind : (w : List ℕ) → is_nameless w ≡ true → size_of_kind w ≡ None
unfolding size_of_kind small_size first_byte
no_kind w h =
    let last : Option ℕ = cond (bytes_eq w (codes "bit")) (Some 1) None in
    let fourth : Option ℕ = cond (bytes_eq w (codes "byte")) (Some 255) last in
    let third : Option ℕ = cond (bytes_eq w (codes "vlan")) (Some 4095) fourth in
    let second : Option ℕ = cond (bytes_eq w (codes "ethertype") || bytes_eq w (codes "port")) (Some 65535) third in
    ap (λ t. cond t (Some 4294967295) (cond (bytes_eq w (codes "mac")) (Some 281474976710655) second)) (differ is_nameless w (codes "ipv4") h refl)
    ∙ ap (λ t. cond t (Some 281474976710655) second) (differ is_nameless w (codes "mac") h refl)
    ∙ ap (λ t. cond (t || bytes_eq w (codes "port")) (Some 65535) third) (differ is_nameless w (codes "ethertype") h refl)
    ∙ ap (λ t. cond t (Some 65535) third) (differ is_nameless w (codes "port") h refl)
    ∙ ap (λ t. cond t (Some 4095) fourth) (differ is_nameless w (codes "vlan") h refl)
    ∙ ap (λ t. cond t (Some 255) last) (differ is_nameless w (codes "byte") h refl)
    ∙ ap (λ t. cond t (Some 1) None) (differ is_nameless w (codes "bit") h refl)

pub no_size : (p : Place) (w : List ℕ) → is_nameless w ≡ true → size_at p w ≡ None
unfolding size_at
no_size place.Name w h = no_kind w h
no_size place.Field w h = refl
no_size place.Elsewhere w h = refl

pub no_field : (w : List ℕ) → is_nameless w ≡ true → bytes_eq w (codes "field") ≡ false
unfolding first_byte
no_field w h = differ is_nameless w (codes "field") h refl

-- the place after a word that is not `field`
pub after_other : (p : Place) (w : List ℕ) → bytes_eq w (codes "field") ≡ false → place_after p w ≡ name_place p w
unfolding place_after
after_other p w e = ap (λ t. cond t place.Field (name_place p w)) e

equals_place : (p : Place) (w : List ℕ) → name_place p (61 ∷ w) ≡ place.Elsewhere
unfolding name_place first_byte
equals_place place.Field w = refl
equals_place place.Name w = refl
equals_place place.Elsewhere w = refl

pub equals_nameless : (w : List ℕ) → is_nameless (61 ∷ w) ≡ true
unfolding first_byte
equals_nameless w = refl

-- after a word that begins with `=` no size is due
pub after_equals : (p : Place) (w : List ℕ) → place_after p (61 ∷ w) ≡ place.Elsewhere
after_equals p w = after_other p (61 ∷ w) (no_field (61 ∷ w) (equals_nameless w)) ∙ equals_place p w

-- nor after two words of which the first isn't `field`
second_place : (p : Place) (v w : List ℕ) → name_place (name_place p v) w ≡ place.Elsewhere
unfolding name_place
second_place place.Field v w = elim (first_byte v == 61) as (λ t. name_place (cond t place.Elsewhere place.Name) w ≡ place.Elsewhere) [
  | true ↦ refl
  | false ↦ refl
]
second_place place.Name v w = refl
second_place place.Elsewhere v w = refl

pub after_two : (p : Place) (v w : List ℕ) → bytes_eq v (codes "field") ≡ false → bytes_eq w (codes "field") ≡ false → place_after (place_after p v) w ≡ place.Elsewhere
after_two p v w ev ew = after_other (place_after p v) w ew ∙ ap (λ q. name_place q w) (after_other p v ev) ∙ second_place p v w

pub after_name : (q : Place) (w : List ℕ) → (q ≡ place.Elsewhere) ⊎ (q ≡ place.Name) → bytes_eq w (codes "field") ≡ false → place_after q w ≡ place.Elsewhere
unfolding name_place
after_name q w (inl e) away = after_other q w away ∙ ap (λ x. name_place x w) e
after_name q w (inr e) away = after_other q w away ∙ ap (λ x. name_place x w) e

same_name : (p : Place) (v w : List ℕ) → (first_byte v == 61) ≡ (first_byte w == 61) → name_place p v ≡ name_place p w
unfolding name_place
same_name place.Field v w e = ap (λ t. cond t place.Elsewhere place.Name) e
same_name place.Name v w e = refl
same_name place.Elsewhere v w e = refl

-- the places after two words that are not `field`
pub follows_other : (p q : Place) (v w : List ℕ) → Follows p q → (first_byte v == 61) ≡ false → (first_byte w == 61) ≡ false
    → bytes_eq v (codes "field") ≡ false → bytes_eq w (codes "field") ≡ false → Follows (place_after p v) (place_after q w)
unfolding name_place
follows_other p q v w (inl e) fv fw ev ew = inl (after_other q w ew ∙ ap (λ x. name_place x w) e)
follows_other p q v w (inr e) fv fw ev ew = inr (after_other q w ew ∙ ap (λ x. name_place x w) e ∙ same_name p w v (fw ∙ sym fv) ∙ sym (after_other p v ev))

-- the bytes of a word are not white
no_white : (p q r s : Bool) → p ≡ false → q ≡ false → r ≡ false → s ≡ false → (p || q || r || s) ≡ false
no_white p q r s hp hq hr hs =
    ap (λ t. t || q || r || s) hp ∙ ap (λ t. false || t || r || s) hq ∙ ap (λ t. false || false || t || s) hr ∙ ap (λ t. false || false || false || t) hs

pub not_white : (b : ℕ) → begins_word b ≡ true → is_white b ≡ false
not_white b h =
    no_white (b == 32) (b == 9) (b == 13) (b == 10) (not_that begins_word 32 b refl h) (not_that begins_word 9 b refl h) (not_that begins_word 13 b refl h) (not_that begins_word 10 b refl h)

stays_elsewhere : (r : Inward) (w : List ℕ) → r.place ≡ place.Elsewhere → (after_bytes r w).place ≡ place.Elsewhere
unfolding after_byte
stays_elsewhere r [] e = e
stays_elsewhere r (b ∷ w) e =
    stays_elsewhere (after_byte r b) w
    (elim (is_white b) as (λ t. cond t r.place place.Elsewhere ≡ place.Elsewhere) [
      | true ↦ e
      | false ↦ refl
    ])

-- no size is due after a word that is too long
pub after_long : (r : Inward) (w : List ℕ) → IsWordFront w → (after_bytes r w).place ≡ place.Elsewhere
unfolding after_byte
after_long r [] f = absurd f
after_long r (b ∷ w) f = stays_elsewhere (after_byte r b) w (ap (λ t. cond t r.place place.Elsewhere) (not_white b f.0))
