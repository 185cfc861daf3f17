-- Whole texts.
use Rattle.std.proofs.Common.{◌≡◌, inr, ℕ, false, List, [], ◌∷◌, refl, sym, ap, subst, ◌∙◌}
use Rattle.std.specs.Prelude.{None}
use Rattle.nk_notation.specs.declared.context.TextKind.{TextKind}
use Rattle.nk_notation.specs.declared.context.TextKind.TheVariants as kind
use Rattle.nk_notation.specs.declared.outward.Spot.{Spot}
use Rattle.nk_notation.specs.declared.outward.Spot.TheVariants as spot
use Rattle.nk_notation.specs.Answer.{outward_text}
use Rattle.nk_notation.specs.Inward.{kind_after, kind_beyond, text_start}
use Rattle.nk_notation.specs.Lexemes.{TextLexeme, Word, Byte, Note, cut_text, lexemes_of}
use Rattle.nk_notation.specs.Outward.{NamedForms, held, outward, spot_after, spot_beyond}
use Rattle.nk_notation.proofs.Kept.{bytes_cut}
use Rattle.nk_notation_laws.specs.Laws.{BecomesByIn, InGivesBack, InIsIdempotent, IsLeftByIn, OutRefusesNothing}
use Rattle.nk_notation_laws.proofs.ReadAgain.{again}
use Rattle.nk_notation_laws.proofs.GivenBack.{back}
use Rattle.nk_notation_laws.proofs.Fixed.{kept_if, whole}
use Rattle.nk_notation_laws.proofs.Named.{are_names}
use Rattle.nk_notation_laws.proofs.ReadsWords.{cut_is}
use Rattle.nk_notation_laws.proofs.Spots.{AreNames}

pub in_twice : InIsIdempotent
in_twice = λ text ok. again false text_start (cut_text false text) (cut_is false text) ok text_start (inr refl)

out_sound : (fields : NamedForms) (k : TextKind) (s : Spot) (ls : List TextLexeme) → (outward fields k s ls).fault ≡ None
out_sound fields k s [] = refl
out_sound fields k s (Word w ∷ ls) = out_sound fields (kind_after k w) (spot_after fields s w) ls
out_sound fields k s (Byte b ∷ ls) = out_sound fields (kind_beyond k b) (spot_beyond s b) ls
out_sound fields k s (Note b ∷ ls) = out_sound fields k spot.Nothing ls

pub out_refuses : OutRefusesNothing
out_refuses = λ fields text. out_sound fields kind.Unknown spot.Nothing (lexemes_of text)

given_back : (fields : NamedForms) (text : List ℕ) → AreNames fields → IsLeftByIn text → BecomesByIn (outward_text fields text).bytes text
unfolding held
given_back fields text names left =
    let cut = cut_text false text in
    let same = bytes_cut false text in
    let kept = kept_if false text_start cut (cut_is false text) (left ∙ ap whole (sym same)) in
    back fields names false cut (cut_is false text) kind.Unknown spot.Nothing text_start tt tt kept text_start (record { follows = inr refl; kind = refl; last = tt })
    ∙ ap whole same

left_if : (fields : NamedForms) (text : List ℕ) → BecomesByIn (outward_text fields text).bytes text → IsLeftByIn text
left_if fields text h = subst IsLeftByIn (ap (λ t. t.bytes) h) (in_twice (outward_text fields text).bytes (ap (λ t. t.fault) h))

pub gives_back : InGivesBack
gives_back = λ words fields asked text. (given_back fields text (are_names words fields asked), left_if fields text)
