-- A reader has stopped exactly where no text goes on with the tokens.
use Rattle.std.proofs.Common.{◌≡◌, ℕ, List, [], ◌∷◌, true, false, refl, sym, ap, ◌∙◌, Option}
use Rattle.std.specs.Prelude.{◌↔◌, None, Some, Bool, is_none, option_and_then}
use Rattle.std.specs.List.{fold}
use Rattle.nk_lex.specs.declared.token.Token.{Token}
use Rattle.nk_tabgrammar.specs.Answer.{table_terminals}
use Rattle.nk_tabgrammar.specs.Spelling.{TableTextGoesOn}
use Rattle.nk_tabgrammar.specs.Terminal.{table_terminal_of}
use Rattle.nk_tabgrammar.specs.Machine.{Reading, first_table_reading, next_table_reading, read_table_tokens, table_reading}
use Rattle.nk_tabgrammar.specs.declared.states.State.{State}
use Rattle.nk_tabgrammar.specs.declared.stage.Stage.{Stage}
use Rattle.nk_tabgrammar.specs.declared.written.WrittenTable.{WrittenTable}
use Rattle.nk_tabgrammar.specs.declared.written.WrittenTables.{WrittenTables}
use Rattle.nk_tabgrammar.specs.States.{MaybeStep, after_token, state_of_stage}
use Rattle.nk_tabgrammar.proofs.Answering.{text_goes_on, text_stops}
use Rattle.nk_tabtext.specs.Progress.{KnownValue, Sound, Faulty, Stopped, StopsWithTexts, first_table_progress, is_table_stopped, known_after, progress_after, step_on}
use Rattle.nk_tabtext.proofs.Fitting.{Fits}
use Rattle.nk_tabtext.proofs.Going.{Both, Follows}
use Rattle.nk_tabtext.proofs.Whole.{IsGoing, at_place, goes_on, going, step}

not_stopped : (k : KnownValue) → IsGoing k → is_table_stopped k ≡ false
not_stopped (Sound p) g = refl
not_stopped (Faulty l) g = refl
not_stopped (Stopped l) g = absurd g

stays : (ts : List Token) (s : State) (line l : ℕ) → is_table_stopped (fold progress_after (at_place s line (Stopped l)) ts).known ≡ true
stays [] s line l = refl
stays (t ∷ ts) s line l = stays ts s line l

-- it stops where the reading machine does
stops_here : (ts : List Token) (s : Stage) (x : WrittenTables) (c : WrittenTable) (k : KnownValue) (line : ℕ) → Fits s x c k
    → is_table_stopped (fold progress_after (at_place (state_of_stage s) line k) ts).known ≡ is_none (read_table_tokens (table_terminals ts) (table_reading s x c))
stops_here [] s x c k line h = not_stopped k (going s x c k h)
stops_here (t ∷ ts) s x c k line h =
    ap (λ p. is_table_stopped (fold progress_after p ts).known) (goes_on k (at_place (state_of_stage s) line k) t (going s x c k h))
    ∙ by (next_table_reading s x c (table_terminal_of t)) (after_token (state_of_stage s) t.kind) (λ r l f. stops_here ts r.stage r.text r.table l t.line f) (step s x c k t h)
  where
    by : (r : Option Reading) (z : MaybeStep)
        → ((r : Reading) (l : KnownValue) → Fits r.stage r.text r.table l
        → is_table_stopped (fold progress_after (at_place (state_of_stage r.stage) t.line l) ts).known ≡ is_none (read_table_tokens (table_terminals ts) r))
        → Both (Follows k t) r z
        → is_table_stopped (fold progress_after (step_on z (at_place (state_of_stage s) line k) t) ts).known ≡ is_none (option_and_then (read_table_tokens (table_terminals ts)) r)
    by None None ih b = stays ts (state_of_stage s) line t.line
    by (Some r) (Some z) ih b =
        ap (λ a. is_table_stopped (fold progress_after (at_place a t.line (known_after k z.1 t)) ts).known) b.0 ∙ ih r (known_after k z.1 t) b.1
    by None (Some z) ih b = absurd b
    by (Some r) None ih b = absurd b

pub stops_with_texts : StopsWithTexts
stops_with_texts ts =
    by (is_table_stopped (fold progress_after first_table_progress ts).known) (read_table_tokens (table_terminals ts) first_table_reading) refl
    (stops_here ts first_table_reading.stage first_table_reading.text first_table_reading.table first_table_progress.known 1 refl)
  where
    by : (b : Bool) (o : Option Reading) → read_table_tokens (table_terminals ts) first_table_reading ≡ o → b ≡ is_none (read_table_tokens (table_terminals ts) first_table_reading)
        → (b ≡ true) ↔ (TableTextGoesOn (table_terminals ts) → ⊥)
    by b None e h = (λ i. text_stops (table_terminals ts) e, λ n. h ∙ ap is_none e)
    by b (Some r) e h = (λ i. absurd (differ (sym i ∙ h ∙ ap is_none e)), λ n. absurd (n (text_goes_on (table_terminals ts) r e)))
      where
        differ : true ≡ false → ⊥
        differ q = cc
