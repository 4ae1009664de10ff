use Rattle.arranged_county.proofs.Common.{IsKeyOrder, ap, first_seen_after, ◌∙◌, ◌≡◌}
use Rattle.arranged_county.proofs.Names.NameOrder.{first_seen-itself}
use Rattle.arranged_county.proofs.Results.{of_done}
use Rattle.ordered_lists.proofs.Lists.Distinct.{apart_from_no_repeat}
use Rattle.arranged_county.proofs.numbers.Interner.of_distinct.Goals as goal

pub returns : goal.returns
returns g c =
    let o : IsKeyOrder g.K.Ord.cmp = record { total = g.met.K.Ord.total; exact = g.met.K.Key.exact } in
    let keys = c.args.keys.now in
    of_done (λ numbers. numbers ≡ keys) _ c.see_all-seen.result c.if_done.result
    (λ seen. seen ∙ ap (λ seen. first_seen_after g.K.Ord.cmp seen keys) c.in_ok-numbers.ensures
    ∙ first_seen-itself o keys (apart_from_no_repeat o keys c.requires))
    c.if_done.ensures.value c.if_done.ensures.done c.see_all-seen.ensures
