use Rattle.std.proofs.Common.{◌≡◌, ◌<◌, ◌+◌, ◌++◌, ℕ, List, [], length, refl, sym, ◌∙◌, ap, subst}
use Rattle.std.specs.Prelude.{Ok}
use Rattle.std.specs.declared.result.Result.{Result}
use Rattle.std.specs.declared.alloc.AllocError.{AllocError}
use Rattle.nk_lex.specs.declared.token.Token.{Token}
use Rattle.nk_lex.specs.Kept.{FeedState, IsFed}
use Rattle.nk_lex.specs.NextPiece.{IsNext, ended, goes_on, wanted_past}
use Rattle.nk_lex.specs.Pieces.{completed}
use Rattle.nk_lex.proofs.Ends.{fed_goes, fed_next, fed_quiet}
use Rattle.nk_lex.proofs.Given.{piece_small, piece_texts}
use Rattle.nk_lex.proofs.feeding.Feed.feed.Goals as goal

goes : (c : goal.After-new) → (text : List ℕ) → IsFed text c.args.self.now
    → (completed text ++ [] ≡ completed (text ++ c.args.piece.now))
    × IsFed (text ++ c.args.piece.now)
    (record { fed = c.self.inside.fed + length c.args.piece.now; line = c.self.inside.line; pending = c.pending_past-self-inside.result; held = c.hold.new.held.items })
goes c text f =
    fed_goes text c.args.piece.now
    (record { fed = c.self.inside.fed; line = c.self.inside.line; pending = c.self.inside.pending; held = c.self.inside.held.items })
    _ (subst (IsFed text) (sym c.self.view_is) f)
    (ap (λ h. goes_on c.self.inside.pending h c.args.piece.now) (sym c.deref.ensures.value) ∙ sym c.goes_on.ensures ∙ c.if-goes_on.true)
    refl refl c.pending_past-self-inside.ensures c.in_ok-hold.ensures.ok

pub returns-then-goes_on-clause-tokens : goal.returns-then-goes_on-clause-tokens
returns-then-goes_on-clause-tokens c = λ text f. ap (λ us. completed text ++ us) c.new.ensures.items ∙ (goes c text f).0

pub returns-then-goes_on-clause-fed : goal.returns-then-goes_on-clause-fed
returns-then-goes_on-clause-fed c = λ text f. (goes c text f).1

pub returns-in_err-next-clause-quiet : goal.returns-in_err-next-clause-quiet
returns-in_err-next-clause-quiet c = λ text f none q.
    absurd (fed_quiet text c.args.piece.now
    (record { fed = c.self.inside.fed; line = c.self.inside.line; pending = c.self.inside.pending; held = c.self.inside.held.items })
    (subst (IsFed text) (sym c.self.view_is) f)
    (ap (λ h. goes_on c.self.inside.pending h c.args.piece.now) (sym c.deref.ensures.value) ∙ sym c.goes_on.ensures ∙ c.if-goes_on.false)
    (ap (λ s. let t : FeedState = s in t.held) c.self.view_is ∙ none) q
    (subst (λ h. 0 < wanted_past c.self.inside.pending (ended c.self.inside.pending h c.self.inside.fed c.self.inside.line c.args.piece.now))
    c.deref-2.ensures.value c.in_err-next.ensures.quiet))

ends : (c : goal.After-drop-self-inside) → (text : List ℕ) → IsFed text c.args.self.now
    → (completed text ++ c.in_ok-next.next.tokens.items ≡ completed (text ++ c.args.piece.now))
    × IsFed (text ++ c.args.piece.now)
    (record { fed = c.self.inside.fed + length c.args.piece.now; line = c.in_ok-next.next.line; pending = c.in_ok-next.next.pending; held = c.in_ok-next.next.held.items })
ends c text f =
    let next : IsNext [] (ended c.self.inside.pending c.self.inside.held.items c.self.inside.fed c.self.inside.line c.args.piece.now) c.in_ok-next.next
    = subst (λ h. IsNext [] (ended c.self.inside.pending h c.self.inside.fed c.self.inside.line c.args.piece.now) c.in_ok-next.next)
    c.deref-2.ensures.value c.in_ok-next.ensures.next in
    fed_next text c.args.piece.now
    (record { fed = c.self.inside.fed; line = c.self.inside.line; pending = c.self.inside.pending; held = c.self.inside.held.items })
    _ c.in_ok-next.next.tokens.items (subst (IsFed text) (sym c.self.view_is) f)
    (ap (λ h. goes_on c.self.inside.pending h c.args.piece.now) (sym c.deref.ensures.value) ∙ sym c.goes_on.ensures ∙ c.if-goes_on.false)
    refl next.tokens next.kept

pub returns-clause-tokens : goal.returns-clause-tokens
returns-clause-tokens c = λ text f. (ends c text f).0

pub returns-clause-fed : goal.returns-clause-fed
returns-clause-fed c = λ text f. (ends c text f).1

-- the tokens that the piece gives
abbrev given : goal.After-drop-self-inside → Result (List Token) AllocError
given c = Ok c.in_ok-next.next.tokens.items

pub returns-clause-small : goal.returns-clause-small
returns-clause-small c = λ text f. piece_small (λ v. v) text (text ++ c.args.piece.now) (given c) (ends c text f).0

pub returns-clause-texts : goal.returns-clause-texts
returns-clause-texts c = λ text f. piece_texts (λ v. v) text (text ++ c.args.piece.now) (given c) (ends c text f).0
