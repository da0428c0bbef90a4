-- One answer: crate `reports`.
use mathlib.Core.Path.{refl, sym, ◌∙◌, ap}
use Rattle.one_answer.specs.OneAnswer.{OneAnswer}
use Rattle.reports.proofs as code

pub lent : OneAnswer code.lent.Kinds.ps code.lent.Kinds.r code.lent.Reads.Post
lent κs a z z' ws ws' p q = (p.0 ∙ sym q.0, refl)

pub within : OneAnswer code.within.Kinds.ps code.within.Kinds.r code.within.Reads.Post
within κs a z z' ws ws' p q = (p.0 ∙ sym q.0, refl)

pub report-of : OneAnswer code.report_of.Kinds.ps code.report_of.Kinds.r code.report_of.Reads.Post
report-of κs a z z' ws ws' p q = (refl, ap (λ v. (tt, (tt, (tt, (v, tt))))) (p ∙ sym q))

pub cut-report : OneAnswer code.cut_report.Kinds.ps code.cut_report.Kinds.r code.cut_report.Reads.Post
cut-report κs a z z' ws ws' p q = (refl, ap (λ v. (v, tt)) (p ∙ sym q))
