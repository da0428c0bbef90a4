use Rattle.std.proofs.Common.{ap}
use Rattle.types.specs.declared.Played.{Played}
use Rattle.opening.specs.Night.{night_of}
use Rattle.script.specs.Script.{after, reported, payload_by}
use Rattle.script.proofs.Begun.{begun-push}
use Rattle.script.proofs.play_record.Goals as goal

pub returns : goal.returns
unfolding after reported payload_by
returns c =
    let w = night_of c.args.region.now c.args.player.now in
    let s = c.args.given.now in
    let q = c.asked_in-asked.ensures in
    let p = rw q at c.play_asked-answer.ensures in
    let b = ap (λ (x : Played). x.bench) p.value in
    let a = ap (λ (x : Played). x.answer) p.value in
    let k = rw (q, a, begun-push s w, p.keeps) at c.keep.ensures in
    record { leaves = rw (b, k, p.leaves, p.given); tells = rw (c.report_of.ensures, c.load.ensures, c.from.ensures, a, p.given) }
