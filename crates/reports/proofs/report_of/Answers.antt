use Rattle.reports.proofs.Filled.{report-stores}
use Rattle.reports.proofs.report_of.Goals as goal

pub returns : goal.returns
returns c =
    let a = c.args in
    rw (c.copy_from_slice.ensures.after, c.store-5.ensures, c.store-4.ensures, c.store-3.ensures, c.store-2.ensures, c.store.ensures, c.fill.ensures.after (λ y e. e), c.requires.1)
    (report-stores a.kind a.t a.buffer.now c.shown-shown.result.now c.shown-shown.ensures.is c.shown-shown.ensures.within)
