-- The keys on sides and those with a type P record, gathered place by place, and how the profile judges them.
use Rattle.tl_profile.proofs.Common.{ChainIsAt, County, IsInOrder, List, Some, [], ap, append_assoc, arith, chain_is_at, cond, contains, contains-distinct, distinct, false, filter_map, flat_map-append, has_body, in_order-filter, is_eq, is_unknown, key_cmp, key_if_bodied, key_keys, keys_on, keys_with_body, length, map, not, polygons_along, range_with_len, refl, slice_get, strict-map, suc, sym, take, ℕ, ◌&&◌, ◌++◌, ◌+◌, ◌<◌, ◌∙◌, ◌∷◌, ◌≡◌}
use Rattle.tl_layout.specs.declared.type_p.BodyP.{BodyP}
use Rattle.std.proofs.Common.{Bool, None, Option, append-nil, filter, is_some, map-id, nat_lt, option_map, true, ◌||◌}
use Rattle.tl_shape.specs.Chain.{Chain}
use Rattle.county_chart.specs.CountyRules.{IsCounty, chain_polygons}
use Rattle.county_chart.specs.PolygonKeys.{PolygonKey, key_on}
use Rattle.tl_layout.specs.PolygonSide.{PolygonSide}
use Rattle.county_chart.specs.ChartWords.{chain_at}
use Rattle.std.specs.List.{cons_option, list_any}
use Rattle.ordered_lists.proofs.Lists.InOrder.{in_order-map}
use Rattle.ordered_lists.proofs.Lists.EntryLists.{in_order-strict}
use Rattle.std.proofs.lemmas.Bool.{lt-ltb}
use Rattle.std.specs.Ordering.{on}

-- the sides of one more chain
pub sides_next : (county : County) (place : ℕ) → place < length county.chains → (before left_too both : List PolygonKey)
    (left right : Option PolygonSide) → before ≡ polygons_along (take place county.chains)
    → left ≡ option_map (λ c. c.left) (chain_at county place) → left_too ≡ before ++ keys_on left
    → right ≡ option_map (λ c. c.right) (chain_at county place) → both ≡ left_too ++ keys_on right
    → both ≡ polygons_along (take (suc place) county.chains)
sides_next county place h before left_too both left right b l f r s =
    let is_at : ChainIsAt county place = chain_is_at county place h in
    let chain : Chain = is_at.is_at.item.1 in
    let done : List PolygonKey = polygons_along (take place county.chains) in
    let on_left : keys_on left ≡ key_on chain.left = ap keys_on (l ∙ ap (option_map (λ c. c.left)) is_at.chain) in
    let on_right : keys_on right ≡ key_on chain.right = ap keys_on (r ∙ ap (option_map (λ c. c.right)) is_at.chain) in
    let one : left_too ≡ done ++ key_on chain.left = f ∙ (λ i. b i ++ on_left i) in
    s ∙ (λ i. one i ++ on_right i)
    ∙ append_assoc done (key_on chain.left) (key_on chain.right)
    ∙ ap (λ keys. done ++ keys) (sym (append-nil (chain_polygons chain)))
    ∙ sym (flat_map-append (λ entry. chain_polygons entry.1) (take place county.chains) (is_at.is_at.item ∷ []))
    ∙ ap polygons_along (sym is_at.is_at.upto)

-- the keys of the polygons with a type P record, read place by place
pub bodies_by_place : (polygons : List (PolygonKey × Option BodyP)) (at : ℕ → Option (PolygonKey × Option BodyP)) (start : ℕ)
    → ((place : ℕ) → at (start + place) ≡ slice_get polygons place)
    → filter_map (λ place. key_if_bodied (at place)) (range_with_len start (length polygons)) ≡ keys_with_body polygons
bodies_by_place [] at start stated = refl
bodies_by_place (entry ∷ polygons) at start stated =
    ap (λ key. cons_option key rest) (ap key_if_bodied here) ∙ go (is_some entry.1) (bodies_by_place polygons at (start + 1)
    (λ place. (let t : start + 1 + place ≡ start + suc place = omega arith in ap at t) ∙ stated (suc place)))
  where
    rest : List PolygonKey
    rest = filter_map (λ place. key_if_bodied (at place)) (range_with_len (start + 1) (length polygons))

    here : at start ≡ Some entry
    here = (let t : start ≡ start + 0 = omega arith in ap at t) ∙ stated 0

    go : (b : Bool) → rest ≡ keys_with_body polygons → cons_option (cond b (Some entry.0) None) rest
        ≡ map (λ e. e.0) (cond b (entry ∷ filter (λ e. is_some e.1) polygons) (filter (λ e. is_some e.1) polygons))
    go true later = ap (λ keys. entry.0 ∷ keys) later
    go false later = later

-- the keys are in order
pub bodies_in_order : (county : County) → IsCounty county → IsInOrder key_cmp (keys_with_body county.polygons)
bodies_in_order county is =
    in_order-map key_cmp (λ e. e.0) (filter (λ e. is_some e.1) county.polygons)
    (in_order-filter (on (λ e. e.0) key_cmp) (λ e. is_some e.1) county.polygons
    (in_order-strict (on (λ e. e.0) key_cmp) county.polygons (strict-map key_cmp (λ e. e.0) county.polygons is.ascending.polygons)))

-- a key is among them exactly if the county has a type P record of its polygon
bodied : (key : PolygonKey) (polygons : List (PolygonKey × Option BodyP))
    → contains key_cmp key (keys_with_body polygons) ≡ list_any (λ e. is_eq (key_cmp key e.0) && is_some e.1) polygons
bodied key [] = refl
bodied key (entry ∷ polygons) = go (is_some entry.1) (bodied key polygons)
  where
    others : List PolygonKey
    others = filter (λ k. is_eq (key_cmp key k)) (keys_with_body polygons)

    rest : Bool
    rest = list_any (λ e. is_eq (key_cmp key e.0) && is_some e.1) polygons

    with_body : (d : Bool) → contains key_cmp key (keys_with_body polygons) ≡ rest
        → nat_lt 0 (length (cond d (entry.0 ∷ others) others)) ≡ ((d && true) || rest)
    with_body true ih = lt-ltb 0 (suc (length others)) (omega arith)
    with_body false ih = ih

    without : (d : Bool) → rest ≡ ((d && false) || rest)
    without true = refl
    without false = refl

    go : (b : Bool) → contains key_cmp key (keys_with_body polygons) ≡ rest
        → contains key_cmp key (map (λ e. e.0) (cond b (entry ∷ filter (λ e. is_some e.1) polygons) (filter (λ e. is_some e.1) polygons)))
        ≡ ((is_eq (key_cmp key entry.0) && b) || rest)
    go true ih = with_body (is_eq (key_cmp key entry.0)) ih
    go false ih = ih ∙ without (is_eq (key_cmp key entry.0))

module _ (county : County) (sides : List PolygonKey) (met : sides ≡ distinct key_cmp (polygons_along county.chains)) where
  -- the search finds exactly the polygons that the profile rejects
  pub same_unknown : (bodies : List PolygonKey) → bodies ≡ keys_with_body county.polygons → (key : PolygonKey)
      → is_unknown key_cmp (map (λ k. k) bodies) (map (λ k. k) sides) key
      ≡ (has_body county key && not (contains key_cmp key (polygons_along county.chains)))
  same_unknown bodies e key =
      let here : contains key_cmp key (map (λ k. k) bodies) ≡ has_body county key =
      ap (contains key_cmp key) (map-id bodies ∙ e) ∙ bodied key county.polygons in
      let there : contains key_cmp key (map (λ k. k) sides) ≡ contains key_cmp key (polygons_along county.chains) =
      ap (contains key_cmp key) (map-id sides ∙ met) ∙ contains-distinct key_keys key (polygons_along county.chains) in
      λ i. here i && not (there i)
