-- What is said of a policy that is refused has plain numbers.
use Rattle.std.proofs.Common.{◌≡◌, ◌≤◌, ℕ, false, List, ◌∷◌, ◌++◌, codes, decimal, refl, subst}
use Rattle.std.specs.Prelude.{bytes_eq}
use Rattle.nk_compile.specs.declared.refusal.Refusal.{Refusal}
use Rattle.nk_compile.specs.declared.refusal.Refusal.TheVariants as refusal
use Rattle.nk_compile_commands.specs.Messages.{refusal_line, static_fault_line}
use Rattle.nk_declare.specs.Kept.{IsWritable}
use Rattle.nk_field.specs.Packet.{FieldTable}
use Rattle.nk_lex.specs.Lex.{largest}
use Rattle.nk_lex.specs.Spelling.{IsWord}
use Rattle.nk_reply.specs.Messages.{start_line, way_lines}
use Rattle.nk_static.specs.declared.faults.StaticFault.{StaticFault}
use Rattle.nk_static.specs.declared.faults.StaticFault.TheVariants as static_kind
use Rattle.nk_virtual.specs.declared.refusal.VirtualRefusal.{VirtualRefusal}
use Rattle.nk_virtual.specs.declared.refusal.VirtualRefusal.TheVariants as unphysical
use Rattle.nk_virtual_command.specs.Messages.{link_message_text, unphysical_line}
use Rattle.nk_notation.specs.Inward.{text_start}
use Rattle.nk_notation_laws.specs.Laws.{IsLeftByIn, IsRefusalOver, IsVirtualRefusalOver, RefusalsAreLeft, VirtualRefusalsAreLeft}
use Rattle.nk_notation_laws.proofs.Counts.{runs_count}
use Rattle.nk_notation_laws.proofs.Pieces.{left_word, start_left, way_left}
use Rattle.nk_notation_laws.proofs.PlainTexts.{Left, left_byte, left_label, left_name}
use Rattle.nk_notation_laws.proofs.PrintedHistories.{whole_left}
use Rattle.nk_notation_laws.proofs.PrintedTables.{Free, Runs, free_free, free_runs, gap_end, runs_end, runs_gap, two_joined}

-- the last word of a line
ended : (w : List ℕ) → IsWord w → bytes_eq w (codes "field") ≡ false → (rest : List ℕ) → Left rest → Left (w ++ 10 ∷ rest)
ended w h other rest next = left_name w (10 ∷ rest) h other refl (left_byte 10 rest refl refl next)

-- a word before a comma and a space
listed : (w : List ℕ) → IsWord w → bytes_eq w (codes "field") ≡ false → (rest : List ℕ) → Left rest → Left (w ++ 44 ∷ 32 ∷ rest)
listed w h other rest next = left_name w (44 ∷ 32 ∷ rest) h other refl (left_byte 44 (32 ∷ rest) refl refl (left_byte 32 rest refl refl next))

-- `refused`, and a label
refused : (label : List ℕ) → IsWord label → (rest : List ℕ) → Left rest → Left (codes "refused " ++ (label ++ 58 ∷ 32 ∷ rest))
refused label h rest next = left_word (codes "refused") (refl, refl) refl (label ++ 58 ∷ 32 ∷ rest) (left_label label rest h next)

-- `refused`, a label and two words
refused_line : (label a b : List ℕ) → IsWord label → IsWord a → bytes_eq a (codes "field") ≡ false → IsWord b → bytes_eq b (codes "field") ≡ false → (rest : List ℕ) → Left rest
    → Left (codes "refused " ++ (label ++ 58 ∷ 32 ∷ (a ++ 32 ∷ (b ++ 10 ∷ rest))))
refused_line label a b hl ha oa hb ob rest next = refused label hl (a ++ 32 ∷ (b ++ 10 ∷ rest)) (left_word a ha oa (b ++ 10 ∷ rest) (ended b hb ob rest next))

no_policy : Free (codes "refused C1: no policy\n")
no_policy = refused_line (codes "C1") (codes "no") (codes "policy") (refl, refl) (refl, refl) refl (refl, refl) refl

no_tag : Free (codes "refused C2: no tag\n")
no_tag = refused_line (codes "C2") (codes "no") (codes "tag") (refl, refl) (refl, refl) refl (refl, refl) refl

tag_used : Free (codes "refused C3: tag used\n")
tag_used = refused_line (codes "C3") (codes "tag") (codes "used") (refl, refl) (refl, refl) refl (refl, refl) refl

loose_dup : Free (codes "refused C4: loose dup\n")
loose_dup = refused_line (codes "C4") (codes "loose") (codes "dup") (refl, refl) (refl, refl) refl (refl, refl) refl

switch_set : Free (codes "refused C5: switch set\n")
switch_set = refused_line (codes "C5") (codes "switch") (codes "set") (refl, refl) (refl, refl) refl (refl, refl) refl

no_such_link : Free (codes "refused C6: no such link\n")
no_such_link = λ rest next.
    refused (codes "C6") (refl, refl) (codes "no such link\n" ++ rest)
    (left_word (codes "no") (refl, refl) refl (codes "such link\n" ++ rest)
    (left_word (codes "such") (refl, refl) refl (codes "link\n" ++ rest) (ended (codes "link") (refl, refl) refl rest next)))

off_edge : Free (codes "refused C7: off edge\n")
off_edge = refused_line (codes "C7") (codes "off") (codes "edge") (refl, refl) (refl, refl) refl (refl, refl) refl

many_tags : Free (codes "refused C8: too many tags, found ")
many_tags = λ rest next.
    refused (codes "C8") (refl, refl) (codes "too many tags, found " ++ rest)
    (left_word (codes "too") (refl, refl) refl (codes "many tags, found " ++ rest)
    (left_word (codes "many") (refl, refl) refl (codes "tags, found " ++ rest)
    (listed (codes "tags") (refl, refl) refl (codes "found " ++ rest) (left_word (codes "found") (refl, refl) refl rest next))))

off_target : Free (codes "refused C11: off target, ")
off_target = λ rest next.
    refused (codes "C11") (refl, refl) (codes "off target, " ++ rest)
    (left_word (codes "off") (refl, refl) refl (codes "target, " ++ rest) (listed (codes "target") (refl, refl) refl rest next))

not_carried : Free (codes "refused C12: not carried, ")
not_carried = λ rest next.
    refused (codes "C12") (refl, refl) (codes "not carried, " ++ rest)
    (left_word (codes "not") (refl, refl) refl (codes "carried, " ++ rest) (listed (codes "carried") (refl, refl) refl rest next))

too_large : Free (codes "refused C13: expanded too large\n")
too_large = λ rest next.
    refused (codes "C13") (refl, refl) (codes "expanded too large\n" ++ rest)
    (left_word (codes "expanded") (refl, refl) refl (codes "too large\n" ++ rest)
    (left_word (codes "too") (refl, refl) refl (codes "large\n" ++ rest) (ended (codes "large") (refl, refl) refl rest next)))

static_left : (s : StaticFault) → IsLeftByIn (static_fault_line s)
static_left static_kind.TagUsed = whole_left (codes "refused C3: tag used\n") tag_used
static_left static_kind.LooseDup = whole_left (codes "refused C4: loose dup\n") loose_dup
static_left static_kind.SwitchSet = whole_left (codes "refused C5: switch set\n") switch_set
static_left static_kind.NoSuchLink = whole_left (codes "refused C6: no such link\n") no_such_link

refusal_left : (fields : FieldTable) → IsWritable fields → (r : Refusal) → IsRefusalOver fields r → IsLeftByIn (refusal_line fields r)
refusal_left fields w refusal.NoPolicy ok = whole_left (codes "refused C1: no policy\n") no_policy
refusal_left fields w refusal.NoTag ok = whole_left (codes "refused C2: no tag\n") no_tag
refusal_left fields w (refusal.Static s) ok = static_left s
refusal_left fields w (refusal.OffEdge start h) ok = off_edge (way_lines fields start h) (way_left fields w.names w.maxima start h ok.0 ok.1) text_start refl
refusal_left fields w (refusal.TooManyTags found) ok =
    let front = codes "refused C8: too many tags, found " in
    whole_left (front ++ decimal found ++ codes "\n") (runs_gap (front ++ decimal found) (codes "\n") (free_runs front (decimal found) many_tags (runs_count found ok)) gap_end)

pub refusals_left : RefusalsAreLeft
refusals_left = refusal_left

-- the port where a virtual link begins
link_free : (a m : ℕ) → a ≤ largest → m ≤ largest → Free (link_message_text a m)
link_free a m la lm =
    runs_gap (codes "link " ++ decimal a ++ codes ":" ++ decimal m) (codes "\n")
    (subst Runs (two_joined (codes "link ") (decimal a) (codes ":") (decimal m))
    (free_runs (codes "link ") (decimal a ++ codes ":" ++ decimal m) (left_word (codes "link") (refl, refl) refl) (runs_end a m la lm))) gap_end

virtual_left : (fields : FieldTable) → IsWritable fields → (r : VirtualRefusal) → IsVirtualRefusalOver fields r → IsLeftByIn (unphysical_line fields r)
virtual_left fields w unphysical.NoPolicy ok = whole_left (codes "refused C1: no policy\n") no_policy
virtual_left fields w unphysical.NoTag ok = whole_left (codes "refused C2: no tag\n") no_tag
virtual_left fields w (unphysical.Static s) ok = static_left s
virtual_left fields w (unphysical.OffTarget switch port start h) ok =
    let front = codes "refused C11: off target, " in
    free_free front (link_message_text switch port) off_target (link_free switch port ok.0 ok.1) (way_lines fields start h)
    (way_left fields w.names w.maxima start h ok.2 ok.3) text_start refl
virtual_left fields w (unphysical.NotCarried switch port start) ok =
    let front = codes "refused C12: not carried, " in
    let link = link_message_text switch port in
    whole_left (front ++ link ++ start_line fields start)
    (free_free (front ++ link) (start_line fields start) (free_free front link not_carried (link_free switch port ok.0 ok.1))
    (λ rest next. start_left fields w.names w.maxima start ok.2 rest next))
virtual_left fields w unphysical.TooLarge ok = whole_left (codes "refused C13: expanded too large\n") too_large

pub virtual_refusals_left : VirtualRefusalsAreLeft
virtual_refusals_left = virtual_left
