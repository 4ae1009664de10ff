use Rattle.tl_number.proofs.Common.{IsKeyOrder, Some, [], ap, slice_get, slice_get-get_or, sym, unwrap_or, ◌∙◌, ◌≡◌}
use Rattle.tl_number.proofs.Ties.SearchSteps.{earlier_more, new_here}
use Rattle.tl_number.proofs.key_search.search_place.Given.{Over}
use Rattle.tl_number.proofs.key_search.search_place.Goals.{In_ok-new}
use Rattle.tl_number.proofs.key_search.search_place.Goals as goal

-- the keys that are read are those at the place
there : (g : Over) (c : In_ok-new g) → slice_get (g.G.KeyGroups.groups c.args.groups.now) c.args.place ≡ Some c.deref.result.now
there g c =
    let some = slice_get-get_or (g.G.KeyGroups.groups c.args.groups.now) c.args.place c.deref.result.now c.requires.within in
    some ∙ ap Some (sym (ap (λ group. unwrap_or group []) some) ∙ sym (c.deref.ensures.value ∙ c.in_ok-copy_keys.ensures))

pub returns-clause-new : goal.returns-clause-new
returns-clause-new g c =
    let o : IsKeyOrder g.G.Item.Ord.cmp = record { total = g.met.G.Item.Ord.total; exact = g.met.G.Item.Key.exact } in
    c.in_ok-new.ensures.new
    ∙ new_here o c.args.places.now c.args.search.now.wanted (g.G.KeyGroups.groups c.args.groups.now) c.args.place c.deref.result.now
    c.args.search.now.earlier (there g (goal.at.returns-clause-new g c).In_ok-new) c.requires.earlier

pub returns-clause-earlier : goal.returns-clause-earlier
returns-clause-earlier g c =
    let o : IsKeyOrder g.G.Item.Ord.cmp = record { total = g.met.G.Item.Ord.total; exact = g.met.G.Item.Key.exact } in
    earlier_more o c.args.places.now c.args.search.now.wanted (g.G.KeyGroups.groups c.args.groups.now) c.args.place c.deref.result.now
    c.args.search.now.earlier _ (there g (goal.at.returns-clause-earlier g c).In_ok-new) c.requires.earlier c.in_ok-new.ensures.earlier
