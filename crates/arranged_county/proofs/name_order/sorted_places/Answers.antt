use Rattle.arranged_county.proofs.Common.{AreSortedNames, IfOk-weaker, IsPermutation-trans, ap, key_place, map, ◌∙◌, ◌≡◌}
use Rattle.arranged_county.proofs.name_order.sorted_places.Goals as goal

pub returns : goal.returns
returns c =
    IfOk-weaker c.places_of.result (λ places. places.items ≡ map key_place c.deref.result.now)
    (λ places. AreSortedNames c.args.keys.items places.items)
    (λ places e. record {
      items = c.sort_keys.new.keys.items;
      all = IsPermutation-trans c.args.keys.items c.bring_close_by_rank.new.keys.items c.sort_keys.new.keys.items
          c.bring_close_by_rank.ensures c.sort_keys.ensures.permutation;
      in_order = c.sort_keys.ensures.in_order;
      places_of = e ∙ ap (map key_place) c.deref.ensures.value;
    }) c.places_of.ensures
