-- `coefficients::largest_magnitude`: the largest of the magnitudes, and 0 of none.
use Rattle.std.proofs.Common.{nat_abs, unwrap_or, ap, ◌∙◌, rules}
use Rattle.std.proofs.lemmas.Iterator.{YieldsList-from_slice, YieldsList-from_map}
use Rattle.std.proofs.lemmas.Iterator.Consumers.{reduce_from_yields_List}
use Rattle.std.proofs.lemmas.List.Folds.{max_of_map}
use Rattle.coefficients.proofs.Searches.{fold_greatest}
use Rattle.coefficients.proofs.largest_magnitude.Goals as goal

pub returns : goal.returns
returns c =
    let v = c.args.pyramid.now in
    c.unwrap_or.ensures
    ∙ ap (λ o. unwrap_or o 0) (reduce_from_yields_List _ c.map.result _ c.max.ensures.ran
    (YieldsList-from_map _ nat_abs (YieldsList-from_slice v cc) c.map.ensures.closure (λ x b q k. search rules)))
    ∙ max_of_map nat_abs v
    ∙ fold_greatest nat_abs v
