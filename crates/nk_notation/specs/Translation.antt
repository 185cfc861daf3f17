-- What a translation makes of a text.
use Rattle.std.specs.Prelude.{◌≡◌, ℕ, List, [], ◌++◌, Option, Some, None, Ok, Err, ⊤}
use Rattle.std.specs.declared.result.Result.{Result}
use Rattle.nk_number_forms.specs.declared.fault.Fault.{Fault}
use Rattle.nk_number_forms.specs.declared.fault.Cause.{Cause}
use Rattle.nk_number_forms.specs.declared.fault.Stop.{Stop}
use Rattle.nk_number_forms.specs.declared.fault.Stop.TheVariants as stop
use Rattle.nk_number_forms.specs.declared.fault.WordStop.{WordStop}
use Rattle.nk_number_forms.specs.declared.fault.WordStop.TheVariants as word

-- the bytes that are written, and the fault at which writing ends, where there is one
pub record Translated : Type 0 where
  pub bytes : List ℕ
  pub fault : Option Fault

-- nothing more
abbrev pub nothing : Translated
nothing = record { bytes = []; fault = None }

-- these bytes, and then the rest
abbrev pub then_rest : List ℕ → Translated → Translated
then_rest bytes t = record { bytes = bytes ++ t.bytes; fault = t.fault }

-- these bytes, and then a fault
abbrev pub faulty : List ℕ → Fault → Translated
faulty bytes f = record { bytes = bytes; fault = Some f }

-- What was written before and the whole of what was left are what is written now and the rest of it. At a fault nothing is left.
-- Want of memory is free.
abbrev pub TranslationGoesOn : {X : Type 0} → Result X Stop → (whole rest : Translated) → (old new : List ℕ) → Type 0
TranslationGoesOn (Ok x) whole rest old new = then_rest old whole ≡ then_rest new rest
TranslationGoesOn (Err (stop.Refused f)) whole rest old new = then_rest old whole ≡ faulty new f
TranslationGoesOn (Err stop.NoMemory) whole rest old new = ⊤

-- the text was put at the end, or the word was refused for this cause and nothing was put
abbrev pub Puts : {X : Type 0} → Result X WordStop → Result (List ℕ) Cause → (old new : List ℕ) → Type 0
Puts (Ok x) (Ok text) old new = new ≡ old ++ text
Puts (Err (word.Refused c)) (Err d) old new = (c ≡ d) × (new ≡ old)
Puts (Err word.NoMemory) said old new = ⊤
Puts result said old new = ⊥
