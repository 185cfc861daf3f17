use Rattle.std.proofs.Common.{ap, subst, sym, is_ok}
use Rattle.nk_names.specs.ProgramOf.{program_by}
use Rattle.nk_cert.specs.Values.{certificate_value}
use Rattle.nk_certtext.specs.InMemory.{parts_in}
use Rattle.nk_certtext.specs.Progress.{CertProgress, IsTaken, with_completed}
use Rattle.nk_certtext.specs.Whole.{ReturnsText}
use Rattle.nk_certtext.proofs.Taken.{declared_at_end, refused_at_end, returned_predicates, whole_at_end}
use Rattle.nk_certtext.proofs.reader.CertReader.end.Goals as goal

pub finish-requires : goal.finish-requires
finish-requires c =
    let ts = c.requires.small.0 in
    let p : CertProgress = record { grammar = c.self.inside.grammar; parts = with_completed (parts_in c.self.inside.parts) c.self.inside.pending } in
    let h : IsTaken ts p = subst (IsTaken ts) (sym c.self.view_is) c.requires.small.1 in
    let read = c.end-last.ensures.read ts h.declarations h.rows h.read in
    let put = c.put_last.ensures in
    let both = (c.what_is_completed_is_written.ensures ts h.declarations h.rows c.self.inside.grammar h.read).1 c.requires.small.2 in
    record {
      written = (
        h.declarations,
        declared_at_end ts p h c.end-last.result c.put_last.result (parts_in c.put_last.new.self) read put.refused put.put (ap is_ok c.in-Ok.is),
        both.0,
      );
    }

pub returns-in-Ok-clause-read : goal.returns-in-Ok-clause-read
returns-in-Ok-clause-read c = λ ts taken.
    let p : CertProgress = record { grammar = c.self.inside.grammar; parts = with_completed (parts_in c.self.inside.parts) c.self.inside.pending } in
    let h : IsTaken ts p = subst (IsTaken ts) (sym c.self.view_is) taken in
    let read = c.end-last.ensures.read ts h.declarations h.rows h.read in
    subst (ReturnsText (λ r. (program_by r.0, certificate_value r.1)) c.finish.result)
    (whole_at_end ts p h c.end-last.result c.put_last.result (parts_in c.put_last.new.self) read c.put_last.ensures.refused c.put_last.ensures.put (ap is_ok c.in-Ok.is))
    c.finish.ensures

pub returns-in-Ok-clause-predicates : goal.returns-in-Ok-clause-predicates
returns-in-Ok-clause-predicates c =
    returned_predicates c.requires.small.0 c.finish.result (returns-in-Ok-clause-read c c.requires.small.0 c.requires.small.1)

pub returns-clause-read : goal.returns-clause-read
returns-clause-read c = λ ts taken.
    let p : CertProgress = record { grammar = c.self.inside.grammar; parts = with_completed (parts_in c.self.inside.parts) c.self.inside.pending } in
    let h : IsTaken ts p = subst (IsTaken ts) (sym c.self.view_is) taken in
    let read = c.end-last.ensures.read ts h.declarations h.rows h.read in
    refused_at_end ts p h c.end-last.result c.put_last.result (parts_in c.put_last.new.self) read c.put_last.ensures.refused c.put_last.ensures.put
    c.put_last.ensures.memory c.in-Err.error c.in-Err.is
