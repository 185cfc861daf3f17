-- A reader has stopped exactly where no text goes on with the tokens, or too much is open after a front of them.
use Rattle.std.proofs.Common.{◌≡◌, ◌⊎◌, ◌++◌, ◌∷◌, List, [], Bool, true, false, inl, inr, refl, ap, sym, subst, ◌∙◌, append_assoc, append-nil, ⊎_elim, Option}
use Rattle.std.specs.Prelude.{◌↔◌, Some, None, Ok, Err, fold, if◌then◌else◌, nat_le, option_and_then}
use Rattle.nk_lex.specs.declared.token.Token.{Token}
use Rattle.nk_grammar.specs.declared.decl.GrammarError.TheVariants as error
use Rattle.nk_grammar.specs.Terminal.{Terminal, terminal_of}
use Rattle.nk_grammar.specs.File.{Declaration}
use Rattle.nk_grammar.specs.Answer.{terminals}
use Rattle.nk_grammar.specs.Certified.{Row, CertifiedGoesOn}
use Rattle.nk_grammar.specs.CertifiedAnswer.{IsCertifiedShallow}
use Rattle.nk_grammar.specs.CertifiedMachine.{Certifying, certify_one, certify_all, first_certifying, open_certified, judged_certified}
use Rattle.nk_grammar.specs.CertifiedProgress.{CertifiedProgress, Going, Stopped, with_done, ParsedPrefix, parsed_prefix, empty_prefix, prefix_judged, prefix_after, IsRead, IsStopped, StopsWithCertifiedTexts}
use Rattle.nk_grammar.proofs.Machines.{terminals_more, all_more, shallow_more, shallow_first, within, beyond}
use Rattle.nk_grammar.proofs.CertifiedTexts.{certified_machine, certified_goes_on, certified_stops, certify_append}
use Rattle.nk_grammar.proofs.Progress.{AreTidy, tidy}

-- no text goes on with the tokens, or too much is open after a front of them
abbrev IsRefused : List Terminal → Type 0
IsRefused ts = (certify_all ts first_certifying ≡ None) ⊎ (IsCertifiedShallow ts → ⊥)

-- the machine's state after the tokens, or why there is none
abbrev IsKnownOf : List Terminal → CertifiedProgress → List Declaration → List Row → Type 0
IsKnownOf ts (Going p line) ds rs = (certify_all ts first_certifying ≡ Some (with_done p ds rs)) × IsCertifiedShallow ts
IsKnownOf ts (Stopped e) ds rs = IsRefused ts

abbrev IsKnownAt : List Terminal → ParsedPrefix → Type 0
IsKnownAt ts s = IsKnownOf ts s.progress s.declarations s.rows

-- fronts of a shallow front are shallow
shallow_front : (ts us : List Terminal) → IsCertifiedShallow (ts ++ us) → IsCertifiedShallow ts
shallow_front ts us h = λ xs ys e deep. h xs (ys ++ us) (ap (λ l. l ++ us) e ∙ append_assoc xs ys us) deep

-- what is refused stays so
refused_more : (ts : List Terminal) (t : Terminal) → IsRefused ts → IsRefused (ts ++ t ∷ [])
refused_more ts t (inl e) = inl (certify_append ts (t ∷ []) first_certifying ∙ ap (option_and_then (certify_all (t ∷ []))) e)
refused_more ts t (inr n) = inr (λ h. n (shallow_front ts (t ∷ []) h))

one_more : (ts : List Terminal) (x : CertifiedProgress) (ds : List Declaration) (rs : List Row) (t : Token) → IsKnownOf ts x ds rs
    → IsKnownAt (ts ++ terminal_of t ∷ []) (prefix_after (parsed_prefix x ds rs) t)
one_more ts (Stopped e) ds rs t h = refused_more ts (terminal_of t) h
one_more ts (Going p line) ds rs t h =
    by_step (certify_one (with_done p ds rs) (terminal_of t)) (all_more certified_machine ts (terminal_of t) (with_done p ds rs) h.0) (tidy p ds rs (terminal_of t))
  where
    now : List Terminal
    now = ts ++ terminal_of t ∷ []

    by_step : (o : Option Certifying) → certify_all now first_certifying ≡ o → AreTidy o
        → IsKnownAt now (prefix_judged (judged_certified t.line o) (parsed_prefix (Going p line) ds rs) t.line)
    by_step None e i = inl e
    by_step (Some c) e i = by_count (nat_le (open_certified c) 256) refl
      where
        by_count : (b : Bool) → nat_le (open_certified c) 256 ≡ b
            → IsKnownAt now (prefix_judged (if b then Ok c else Err (error.TooDeep t.line)) (parsed_prefix (Going p line) ds rs) t.line)
        by_count true f = (e ∙ ap (λ s. Some s) (sym i), shallow_more certified_machine ts (terminal_of t) c h.1 e (within (open_certified c) f))
        by_count false f = inr (λ s. s now [] (sym (append-nil now)) (c, e, beyond (open_certified c) f))

all_known : (us ts : List Token) (s : ParsedPrefix) → IsKnownAt (terminals us) s
    → IsKnownAt (terminals (us ++ ts)) (fold prefix_after s ts)
all_known us [] s h = subst (λ l. IsKnownAt (terminals l) s) (sym (append-nil us)) h
all_known us (t ∷ ts) s h =
    subst (λ l. IsKnownAt (terminals l) (fold prefix_after (prefix_after s t) ts)) (append_assoc us (t ∷ []) ts)
    (all_known (us ++ t ∷ []) ts (prefix_after s t)
    (subst (λ l. IsKnownAt l (prefix_after s t)) (sym (terminals_more us t))
    (one_more (terminals us) s.progress s.declarations s.rows t h)))

known_of : (ts : List Token) (ds : List Declaration) (rs : List Row) (p : CertifiedProgress) → IsRead ts ds rs p → IsKnownOf (terminals ts) p ds rs
known_of ts ds rs p h =
    subst (IsKnownAt (terminals ts)) h (all_known [] ts empty_prefix (refl, shallow_first certified_machine))

pub stops_with_texts : StopsWithCertifiedTexts
stops_with_texts ts ds rs p h = by p (known_of ts ds rs p h)
  where
    by : (p : CertifiedProgress) → IsKnownOf (terminals ts) p ds rs
        → IsStopped p ↔ ((CertifiedGoesOn (terminals ts) → ⊥) ⊎ (IsCertifiedShallow (terminals ts) → ⊥))
    by (Going x line) k = (λ i. absurd cc, λ n. absurd (⊎_elim (λ a. a (certified_goes_on (terminals ts) (with_done x ds rs) k.0)) (λ b. b k.1) n))
    by (Stopped e) k = (λ i. ⊎_elim (λ a. inl (certified_stops (terminals ts) a)) (λ b. inr b) k, λ n. refl)

-- a reader with whose tokens no text goes on has stopped
pub unmended : (ts : List Token) (ds : List Declaration) (rs : List Row) (p : CertifiedProgress) → IsRead ts ds rs p
    → (CertifiedGoesOn (terminals ts) → ⊥) → IsStopped p
unmended ts ds rs p h n = (stops_with_texts ts ds rs p h).1 (inl n)
