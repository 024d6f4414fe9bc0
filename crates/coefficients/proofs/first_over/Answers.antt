-- `coefficients::first_over`: the first place whose magnitude passes, and the length where none does.
use Rattle.std.proofs.Common.{nat_abs, ltb, length, unwrap_or, ap, sym, ◌∙◌, rules, tests}
use Rattle.std.proofs.lemmas.Iterator.{YieldsList-from_slice}
use Rattle.std.proofs.lemmas.Iterator.Search.{position_from_yields_List}
use Rattle.coefficients.proofs.Searches.{first_over_position}
use Rattle.coefficients.proofs.first_over.Goals as goal

pub returns : goal.returns
returns c =
    let v = c.args.pyramid.now in
    c.unwrap_or.ensures
    ∙ ap (λ o. unwrap_or o (length v)) (position_from_yields_List (λ x. ltb c.args.most (nat_abs x)) _ _ _ c.position.ensures.ran
    (YieldsList-from_slice v cc) (λ x b q k. search (rules, tests)))
    ∙ sym (first_over_position c.args.most v)
