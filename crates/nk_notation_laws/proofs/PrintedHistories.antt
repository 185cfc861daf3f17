-- The answers that tell histories have plain numbers.
use Rattle.std.proofs.Common.{◌*◌, ℕ, false, List, [], ◌∷◌, ◌++◌, decimal, length, refl, subst, append-nil}
use Rattle.std.specs.Prelude.{Option, Some, None, codes}
use Rattle.std.specs.List.{flat_map}
use Rattle.nk_field.specs.declared.history.History.{History}
use Rattle.nk_field.specs.Packet.{FieldTable}
use Rattle.nk_field.specs.Texts.{history_bytes}
use Rattle.nk_cert.specs.Equality.{Side, on_left, on_right}
use Rattle.nk_compile_commands.specs.Updating.{progress_line, version_word, versioned_line}
use Rattle.nk_declare.specs.Kept.{IsWritable}
use Rattle.nk_flight.specs.declared.versions.Version.{Version}
use Rattle.nk_flight.specs.declared.versions.Version.TheVariants.{Old, New}
use Rattle.nk_flight.specs.Updates.{steps_done, switches_in}
use Rattle.nk_reply.specs.Messages.{found_lines}
use Rattle.nk_trace_commands.specs.Following.{counts_line, history_line}
use Rattle.nk_trace_commands.specs.Flying.{left_line}
use Rattle.nk_trace_commands.specs.Tracing.{history_lines}
use Rattle.nk_verify_commands.specs.Comparing.{side_line}
use Rattle.nk_notation.specs.Inward.{text_start}
use Rattle.nk_notation_laws.specs.Laws.{BrokenQueriesAreLeft, DifferencesAreLeft, FlightsAreLeft, IsCount, IsHistory, IsLeftByIn, TracesAreLeft, UpdatesAreLeft}
use Rattle.nk_notation_laws.proofs.Counts.{runs_count}
use Rattle.nk_notation_laws.proofs.Pieces.{left_word, listed_left, way_left}
use Rattle.nk_notation_laws.proofs.PlainTexts.{left_byte, left_name, left_nothing}
use Rattle.nk_notation_laws.proofs.PrintedTables.{Free, Gap, Runs, free_each, free_free, free_runs, gap_end, gap_space, runs_gap}

-- a whole text
pub whole_left : (w : List ℕ) → Free w → IsLeftByIn w
whole_left w f = subst IsLeftByIn (append-nil w) (f [] left_nothing text_start refl)

gap_flying : Gap (codes " flying ")
gap_flying = ((λ rest next. left_byte 32 (codes "flying" ++ 32 ∷ rest) refl refl (left_word (codes "flying") (refl, refl) refl rest next)), λ rest. refl)

-- two counts in a line
pub counts_between : (v w : List ℕ) (n m : ℕ) → Free v → Gap w → IsCount n → IsCount m → Free (v ++ decimal n ++ w ++ decimal m ++ codes "\n")
counts_between v w n m f g ln lm =
    runs_gap (v ++ decimal n ++ w ++ decimal m) (codes "\n")
    (free_runs (v ++ decimal n ++ w) (decimal m) (runs_gap (v ++ decimal n) w (free_runs v (decimal n) f (runs_count n ln)) g) (runs_count m lm)) gap_end

pub counts_free : (left flying : ℕ) → IsCount left → IsCount flying → Free (counts_line left flying)
counts_free left flying ln lm = counts_between (codes "left ") (codes " flying ") left flying (left_word (codes "left") (refl, refl) refl) gap_flying ln lm

pub history_free : (fields : FieldTable) → IsWritable fields → (h : History) → IsHistory fields h → Free (history_line fields h)
history_free fields w h ok =
    runs_gap (history_bytes fields false h) (codes "\n") (λ rest stops next. listed_left fields w.names w.maxima false (h.records ++ h.last ∷ []) ok rest stops next) gap_end

pub traces_left : TracesAreLeft
traces_left = λ fields w traced ok ln lm.
    let counts = counts_line (length traced.histories) traced.flying in
    whole_left (history_lines fields traced ++ counts)
    (free_free (history_lines fields traced) counts (free_each (IsHistory fields) (history_line fields) (history_free fields w) traced.histories ok)
    (counts_free (length traced.histories) traced.flying ln lm))

pub flights_left : FlightsAreLeft
flights_left = λ fields w s ok ln lm.
    let lines = flat_map (left_line fields) s.left in
    let counts = counts_line (length s.left) (length s.flying) in
    whole_left (lines ++ counts)
    (free_free lines counts (free_each (λ l. IsHistory fields l.history) (left_line fields) (λ l h. history_free fields w l.history h) s.left ok)
    (counts_free (length s.left) (length s.flying) ln lm))

-- updates
runs_version : (v : Option Version) → Runs (version_word v)
runs_version (Some Old) = λ rest stops next. left_name (codes "old") rest (refl, refl) refl stops next
runs_version (Some New) = λ rest stops next. left_name (codes "new") rest (refl, refl) refl stops next
runs_version None = λ rest stops next. next

versioned_free : (fields : FieldTable) → IsWritable fields → (versions : ℕ → Option Version) (n : ℕ) (h : History) → IsCount n → IsHistory fields h
    → Free (decimal n ++ codes " " ++ version_word (versions n) ++ codes " " ++ history_line fields h)
versioned_free fields w versions n h ln ok =
    let v = version_word (versions n) in
    free_free (decimal n ++ codes " " ++ v ++ codes " ") (history_line fields h)
    (runs_gap (decimal n ++ codes " " ++ v) (codes " ") (free_runs (decimal n ++ codes " ") v (runs_gap (decimal n) (codes " ") (runs_count n ln) gap_space) (runs_version (versions n))) gap_space)
    (history_free fields w h ok)

gap_of : Gap (codes " of ")
gap_of = ((λ rest next. left_byte 32 (codes "of" ++ 32 ∷ rest) refl refl (left_word (codes "of") (refl, refl) refl rest next)), λ rest. refl)

progress_free : (steps all : ℕ) → IsCount steps → IsCount all → Free (progress_line steps all)
progress_free steps all ln lm = counts_between (codes "done ") (codes " of ") steps all (left_word (codes "done") (refl, refl) refl) gap_of ln lm

pub updates_left : UpdatesAreLeft
updates_left = λ fields w g s ok left flying done all.
    let lines = flat_map (versioned_line fields s.versions) s.flight.left in
    let counts = counts_line (length s.flight.left) (length s.flight.flying) in
    let progress = progress_line (steps_done g s) (3 * length (switches_in g)) in
    whole_left (lines ++ counts ++ progress)
    (free_free (lines ++ counts) progress
    (free_free lines counts
    (free_each (λ l. IsCount l.number × IsHistory fields l.history) (versioned_line fields s.versions) (λ l h. versioned_free fields w s.versions l.number l.history h.0 h.1) s.flight.left ok)
    (counts_free (length s.flight.left) (length s.flight.flying) left flying))
    (progress_free (steps_done g s) (3 * length (switches_in g)) done all))

-- answers that tell one history
different_free : Free (codes "different\n")
different_free = λ rest next. left_name (codes "different") (10 ∷ rest) (refl, refl) refl refl (left_byte 10 rest refl refl next)

alone_free : Free (codes "alone\n")
alone_free = λ rest next. left_name (codes "alone") (10 ∷ rest) (refl, refl) refl refl (left_byte 10 rest refl refl next)

side_free : (side : Side) → Free (side_line side)
side_free on_left = λ rest next. left_word (codes "left") (refl, refl) refl (codes "alone\n" ++ rest) (alone_free rest next)
side_free on_right = λ rest next. left_word (codes "right") (refl, refl) refl (codes "alone\n" ++ rest) (alone_free rest next)

broken_free : Free (codes "broken\n")
broken_free = λ rest next. left_name (codes "broken") (10 ∷ rest) (refl, refl) refl refl (left_byte 10 rest refl refl next)

pub differences_left : DifferencesAreLeft
differences_left = λ fields w side f ok.
    free_free (codes "different\n") (side_line side) different_free (side_free side) (found_lines fields f)
    (way_left fields w.names w.maxima f.start (record { records = f.records; last = f.last }) ok.0 ok.1) text_start refl

pub broken_left : BrokenQueriesAreLeft
broken_left = λ fields w f ok.
    broken_free (found_lines fields f) (way_left fields w.names w.maxima f.start (record { records = f.records; last = f.last }) ok.0 ok.1) text_start refl
