use Rattle.std.proofs.Common.{not, ◌-◌, ◌*◌, ◌∙◌, rules, tests, arith, refl}
use Rattle.std.proofs.lemmas.Iterator.{YieldsList-from_range}
use Rattle.std.proofs.lemmas.Iterator.Search.{all_from_yields_List}
use Rattle.rules.specs.Document.Layout.{bytes_for, bit_at, pad_clear}
use Rattle.bits.proofs.Laws.{all_clear}
use Rattle.bits.proofs.padding_clear.Goals as goal

pub returns : goal.returns
unfolding pad_clear
returns c =
    let body = c.args.body.now in
    all_from_yields_List (λ i. not (bit_at body i)) _ _ _ c.all.ensures.ran
    (YieldsList-from_range _ _ (8 * bytes_for c.args.bits - c.args.bits) refl (omega arith)) (λ x b q k. search (rules, tests))
    ∙ all_clear body _ _
