-- `decoder::walk_on`: one turn, by what `next` gives.
use mathlib.Core.Path.{◌≡◌, sym, ap, ◌∙◌}
use Rattle.std.specs.Prelude.{Ok}
use Rattle.std.proofs.lemmas.Result.{err_from_is_err_and}
use Rattle.rules.specs.declared.Piece.{Piece}
use Rattle.rules.specs.Document.Numbers.{PartRead}
use Rattle.decoder.specs.Walking.{past_part, at_cut, at_tail, unfit_part, unfit_cut, unread}
use Rattle.decoder.proofs.LawsPart.{read_taking, cut_taking}
use Rattle.decoder.proofs.walk_on.Goals as goal

piece_there : {found next : PartRead} {x y : Piece} → found ≡ next → found ≡ Ok x → x ≡ y → next ≡ Ok y
piece_there e f g = sym e ∙ f ∙ ap Ok g

pub returns-in_err-p : goal.returns-in_err-p
returns-in_err-p c =
    let p = err_from_is_err_and c.from_residual.result c.from_residual.ensures.1 in
    rw (p.1, p.2) (unread (sym c.next.ensures ∙ c.in_err-p.was))

pub take_part-requires : goal.take_part-requires
take_part-requires c = read_taking c.args.h _ _ _ _ (piece_there c.next.ensures c.in_ok-p.was c.in-Part.is) c.requires

pub returns-in_err-next-in-Part : goal.returns-in_err-next-in-Part
returns-in_err-next-in-Part c =
    let p = err_from_is_err_and c.from_residual-in_err-next-in-Part.result c.from_residual-in_err-next-in-Part.ensures.1 in
    rw (p.1, p.2) (unfit_part c.in-Part.p (piece_there c.next.ensures c.in_ok-p.was c.in-Part.is) c.in_err-next-in-Part.ensures)

pub returns-in_ok-next-in-Part : goal.returns-in_ok-next-in-Part
returns-in_ok-next-in-Part c =
    past_part c.in-Part.p (piece_there c.next.ensures c.in_ok-p.was c.in-Part.is) c.in_ok-next-in-Part.ensures

pub take_cut-requires : goal.take_cut-requires
take_cut-requires c = cut_taking c.args.h _ _ _ _ (piece_there c.next.ensures c.in_ok-p.was c.in-Cut.is) c.requires

pub returns-in_err-take_cut-in-Cut : goal.returns-in_err-take_cut-in-Cut
returns-in_err-take_cut-in-Cut c =
    let p = err_from_is_err_and c.from_residual-in_err-take_cut-in-Cut.result c.from_residual-in_err-take_cut-in-Cut.ensures.1 in
    rw (p.1, p.2) (unfit_cut c.in-Cut.p (piece_there c.next.ensures c.in_ok-p.was c.in-Cut.is) c.in_err-take_cut-in-Cut.ensures)

pub returns-in_ok-take_cut-in-Cut : goal.returns-in_ok-take_cut-in-Cut
returns-in_ok-take_cut-in-Cut c =
    at_cut c.in-Cut.p (piece_there c.next.ensures c.in_ok-p.was c.in-Cut.is) c.in_ok-take_cut-in-Cut.ensures

pub returns-in-Tail : goal.returns-in-Tail
returns-in-Tail c = at_tail (piece_there c.next.ensures c.in_ok-p.was c.in-Tail.is)
