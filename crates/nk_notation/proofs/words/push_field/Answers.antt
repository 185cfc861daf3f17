use Rattle.std.proofs.Common.{◌≡◌, ◌∙◌, true, cond, List, ℕ, ap, sym, subst, map, rules, [], ◌∷◌, ◌++◌}
use Rattle.std.specs.Prelude.{None, Some, option_map}
use Rattle.std.proofs.lemmas.List.{map-append}
use Rattle.nk_notation.specs.declared.outward.Form.{Form}
use Rattle.nk_notation.specs.declared.outward.NamedField.{NamedField}
use Rattle.nk_number_forms.specs.Forms.{before_first, after_first}
use Rattle.nk_notation.specs.Outward.{NamedForms, named_form}
use Rattle.nk_notation.specs.Words.{IsPushed, field_of, form_of_kind, is_name}
use Rattle.nk_notation.proofs.words.push_field.Goals as goal

field_is : (w : List ℕ) (f : Form) → is_name (before_first 61 w) ≡ true → form_of_kind (after_first 61 w) ≡ Some f → field_of w ≡ Some (before_first 61 w, f)
unfolding field_of
field_is w f name kind =
    ap (λ t. cond t (option_map (λ g. (before_first 61 w, g)) (form_of_kind (after_first 61 w))) None) name
    ∙ ap (option_map (λ g. (before_first 61 w, g))) kind

put_is : (old new : NamedForms) (f : List ℕ × Form) → new ≡ old ++ f ∷ [] → IsPushed true old new (Some f)
unfolding IsPushed
put_is old new f e = e

-- the field was put at the end
pushed_is : (old new : List NamedField) (x : NamedField) (w : List ℕ) → new ≡ old ++ x ∷ [] → x.name.items ≡ before_first 61 w
    → is_name (before_first 61 w) ≡ true → form_of_kind (after_first 61 w) ≡ Some x.form → IsPushed true (map named_form old) (map named_form new) (field_of w)
pushed_is old new x w e same name kind =
    subst (IsPushed true (map named_form old) (map named_form new)) (sym (field_is w x.form name kind))
    (put_is (map named_form old) (map named_form new) (before_first 61 w, x.form)
    (ap (map named_form) e ∙ map-append named_form old (x ∷ []) ∙ ap (λ n. map named_form old ++ (n, x.form) ∷ []) same))

pub returns-in_ok-push-in-Some : goal.returns-in_ok-push-in-Some
returns-in_ok-push-in-Some c =
    pushed_is _ _ _ _ c.in_ok-push-in-Some.ensures.items (search rules) (search rules) (search rules)
