-- Words and bytes have one answer.
use Rattle.std.proofs.Common.{◌≡◌, ◌∙◌, ℕ, List, length, nat_lt, ap, sym, Bool, true, false}
use Rattle.std.specs.Prelude.{Ok, Err, MatchBool}
use Rattle.std.specs.declared.result.Result.{Result}
use Rattle.nk_table.specs.declared.Tables.{Tables}
use Rattle.nk_tabtext.specs.Values.{tables_of}
use Rattle.nk_tabgrammar.specs.declared.written.ReadError.{ReadError}
use Rattle.nk_tabgrammar.specs.declared.written.ReadError.TheVariants as text
use Rattle.nk_reply.specs.Answer.{Answer, answer_of, limit, too_long}
use Rattle.nk_reply.specs.Outcome.{Outcome}
use Rattle.nk_openflow.specs.declared.words.Head.{Head}
use Rattle.nk_openflow_commands.specs.Answer.{ToText}
use Rattle.nk_openflow_commands.specs.Ends.{IsAnswerOf, IsFlowsAnswerTo, asked, mapping_words}

-- two that are equal to a third are equal
same : {X : Type 0} (x y z : X) → x ≡ z → y ≡ z → x ≡ y
same x y z p q = p ∙ sym q

one_outcome : (head : Head) (ws : List (List ℕ)) (r : Result Tables ReadError) (x y : Outcome) → ToText head ws r x → ToText head ws r y → x ≡ y
one_outcome head ws (Ok t) x y p q = same _ _ _ p q
one_outcome head ws (Err (text.BadByte line)) x y p q = same _ _ _ p q
one_outcome head ws (Err (text.NumberTooLarge line)) x y p q = same _ _ _ p q
one_outcome head ws (Err (text.Unexpected line)) x y p q = same _ _ _ p q
one_outcome head ws (Err (text.TableFault line)) x y p q = same _ _ _ p q
one_outcome head ws (Err text.NoMemory) x y p q = absurd p

-- of a text that is too long, or of its one outcome
one_by : (long : Bool) (head : Head) (ws : List (List ℕ)) (r : Result Tables ReadError) (a b : Answer)
    → MatchBool long (a ≡ too_long) ((x : Outcome) × ToText head ws r x × (a ≡ answer_of x))
    → MatchBool long (b ≡ too_long) ((x : Outcome) × ToText head ws r x × (b ≡ answer_of x))
    → a ≡ b
one_by true head ws r a b p q = same _ _ _ p q
one_by false head ws r a b p q = p.2 ∙ ap answer_of (one_outcome head ws r p.0 q.0 p.1 q.1) ∙ sym q.2

one_of : (r : Result Head Answer) (ws : List (List ℕ)) (bytes : List ℕ) (a b : Answer) → IsAnswerOf r ws bytes a → IsAnswerOf r ws bytes b → a ≡ b
one_of (Ok head) ws bytes a b p q =
    one_by (nat_lt limit (length bytes)) head (mapping_words head ws) (tables_of bytes) a b p q
one_of (Err said) ws bytes a b p q = same _ _ _ p q

pub one_answer : (ws : List (List ℕ)) (bytes : List ℕ) (a b : Answer) → IsFlowsAnswerTo ws bytes a → IsFlowsAnswerTo ws bytes b → a ≡ b
one_answer ws bytes a b p q = one_of (asked ws) ws bytes a b p q
