-- The fields that the words of a command line name have names.
use Rattle.std.proofs.Common.{◌≡◌, ◌==◌, ℕ, Bool, true, false, cond, List, [], ◌∷◌, length, refl, subst}
use Rattle.std.specs.Prelude.{Option, None, Some, bytes_eq, codes, option_map}
use Rattle.nk_number_forms.specs.Forms.{after_first, before_first}
use Rattle.nk_notation.specs.declared.outward.Form.{Form}
use Rattle.nk_notation.specs.Outward.{NamedForms}
use Rattle.nk_notation.specs.Words.{Direction, direction_by, direction_of, field_of, fields_of, form_of_kind, inwards, is_name, joined_field, outwards, outwards_of}
use Rattle.nk_notation_laws.proofs.Spots.{AreNames}

abbrev IsOneNamed : Option (List ℕ × Form) → Type 0
IsOneNamed None = Unit {0}
IsOneNamed (Some f) = is_name f.0 ≡ true

abbrev AreAllNamed : Option NamedForms → Type 0
AreAllNamed None = Unit {0}
AreAllNamed (Some fs) = AreNames fs

abbrev IsDirectionNamed : Option Direction → Type 0
IsDirectionNamed None = Unit {0}
IsDirectionNamed (Some inwards) = Unit {0}
IsDirectionNamed (Some (outwards fs)) = AreNames fs

kind_named : (x : List ℕ) (o : Option Form) → is_name x ≡ true → IsOneNamed (option_map (λ f. (x, f)) o)
kind_named x None h = tt
kind_named x (Some f) h = h

field_by : (x : List ℕ) (o : Option Form) (t : Bool) → is_name x ≡ t → IsOneNamed (cond t (option_map (λ f. (x, f)) o) None)
field_by x o true e = kind_named x o e
field_by x o false e = tt

field_named : (w : List ℕ) → IsOneNamed (field_of w)
unfolding field_of
field_named w = field_by (before_first 61 w) (form_of_kind (after_first 61 w)) (is_name (before_first 61 w)) refl

joined_named : (o : Option (List ℕ × Form)) (p : Option NamedForms) → IsOneNamed o → AreAllNamed p → AreAllNamed (joined_field o p)
unfolding joined_field
joined_named None p ho hp = tt
joined_named (Some f) None ho hp = tt
joined_named (Some f) (Some fs) ho hp = (ho, hp)

fields_named : (ws : List (List ℕ)) → AreAllNamed (fields_of ws)
unfolding fields_of
fields_named [] = tt
fields_named (w ∷ ws) = joined_named (field_of w) (fields_of ws) (field_named w) (fields_named ws)

outwards_named : (o : Option NamedForms) → AreAllNamed o → IsDirectionNamed (outwards_of o)
unfolding outwards_of
outwards_named None h = tt
outwards_named (Some fs) h = h

words_named : (words : List (List ℕ)) → IsDirectionNamed (direction_of words)
unfolding direction_of direction_by
words_named [] = tt
words_named (first ∷ ws) =
    elim (length ws == 0) as (λ t. IsDirectionNamed (cond t (cond (bytes_eq first (codes "in")) (Some inwards) None) (cond (bytes_eq first (codes "out")) (outwards_of (fields_of ws)) None))) [
      | true ↦ elim (bytes_eq first (codes "in")) as (λ t. IsDirectionNamed (cond t (Some inwards) None)) [
        | true ↦ tt
        | false ↦ tt
      ]
      | false ↦ elim (bytes_eq first (codes "out")) as (λ t. IsDirectionNamed (cond t (outwards_of (fields_of ws)) None)) [
        | true ↦ outwards_named (fields_of ws) (fields_named ws)
        | false ↦ tt
      ]
    ]

pub are_names : (words : List (List ℕ)) (fields : NamedForms) → direction_of words ≡ Some (outwards fields) → AreNames fields
are_names words fields e = subst IsDirectionNamed e (words_named words)
