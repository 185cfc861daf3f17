-- The fields that words name.
use Rattle.std.proofs.Common.{◌≡◌, ℕ, true, false, List, [], ◌∷◌, ◌++◌, refl, sym, ap, ◌∙◌, append_assoc, append-nil}
use Rattle.std.specs.Prelude.{Option, Some, None}
use Rattle.nk_notation.specs.declared.outward.Form.{Form}
use Rattle.nk_notation.specs.Outward.{NamedForms}
use Rattle.nk_notation.specs.Words.{IsPushed, field_of, fields_of, joined_field, with_fields}

pub with_none : (fs : Option NamedForms) → with_fields [] fs ≡ fs
unfolding with_fields
with_none None = refl
with_none (Some fs) = refl

-- no more words
pub with_last : (old : NamedForms) → with_fields old (fields_of []) ≡ Some old
unfolding with_fields fields_of
with_last old = ap Some (append-nil old)

fails_with : (old new : NamedForms) (f : Option (List ℕ × Form)) (fs : Option NamedForms) → IsPushed false old new f → with_fields old (joined_field f fs) ≡ None
unfolding IsPushed with_fields joined_field
fails_with old new None fs h = refl
fails_with old new (Some f) fs h = absurd h

-- a word that names no field
pub pushed_none : (old new : NamedForms) (w : List ℕ) (ws : List (List ℕ)) → IsPushed false old new (field_of w) → with_fields old (fields_of (w ∷ ws)) ≡ None
unfolding fields_of
pushed_none old new w ws h = fails_with old new (field_of w) (fields_of ws) h

more_with : (old new : NamedForms) (f : Option (List ℕ × Form)) (fs : Option NamedForms) → IsPushed true old new f → with_fields old (joined_field f fs) ≡ with_fields new fs
unfolding IsPushed with_fields joined_field
more_with old new None fs h = absurd h
more_with old new (Some f) None h = refl
more_with old new (Some f) (Some fs) h = ap Some (sym (append_assoc old (f ∷ []) fs) ∙ ap (λ l. l ++ fs) (sym h))

-- a word that names one
pub pushed_one : (old new : NamedForms) (w : List ℕ) (ws : List (List ℕ)) → IsPushed true old new (field_of w)
    → with_fields old (fields_of (w ∷ ws)) ≡ with_fields new (fields_of ws)
unfolding fields_of
pushed_one old new w ws h = more_with old new (field_of w) (fields_of ws) h
