use Rattle.std.proofs.Common.{◌≡◌, subst, rules}
use Rattle.std.specs.List.{fold}
use Rattle.std.proofs.lemmas.List.Sums.{fold_push}
use Rattle.std.proofs.lemmas.Fn.{fold_over, slice_gives, fronts}
use Rattle.sums.specs.Sums.{mix, mix_bytes}
use Rattle.sums.proofs.Sum.mix_bytes.Goals as goal

pub returns : goal.returns
unfolding mix_bytes
returns c = subst (λ l. c.fold.result.0 ≡ fold mix c.args.self.0 l) c.iter.ensures.rest
    (fold_over fronts (λ y. y.now) _ (λ ys n. n.0 ≡ fold mix c.args.self.0 ys) _ (λ ys a x b f' j k. let more = fold_push mix c.args.self.0 ys x.now in search rules)
    _ _ _ _ (slice_gives c.iter.result) (search rules) c.fold.ensures.ran)
