use Rattle.std.proofs.Common.{List, arith, false, get_or, length, nat_lt, subst, sym, take, ℕ, ◌+◌, ◌-◌, ◌<◌, ◌∙◌, ◌≡◌}
use Rattle.std.specs.List.{list_any}
use Rattle.std.proofs.lemmas.Option.{slice_get-get_or}
use Rattle.county_chart.specs.declared.open_place.OpenPlace.{OpenPlace}
use Rattle.tl_number.proofs.Choices.PlacesApart.{none_before, places_apart}
use Rattle.tl_number.proofs.type_1_choices.last_shape.Goals as goal

pub returns-then-not-past-clause-apart : goal.returns-then-not-past-clause-apart
returns-then-not-past-clause-apart c =
    let places : List OpenPlace = c.args.shape_order.now.places in
    let first : ℕ = c.loop-first.first - 1 in
    let none : OpenPlace = record { place = 0; alike = 0; either_way = false } in
    let there : first < length places = omega (arith, c.loop-first.auto.first, c.loop-first-test.true, c.requires.end) in
    places_apart (get_or places first none) (length c.args.shape_order.now.by_shape) first places c.requires.within c.requires.in_order
    (slice_get-get_or places first none there)
    (subst (λ (all : List OpenPlace). list_any (λ other. nat_lt (get_or all first none).place (other.place + other.alike)) (take first all) ≡ false)
    c.open_places-places.ensures (sym c.any_reaches-past.ensures ∙ c.if-not-past.true))

pub returns-clause-apart : goal.returns-clause-apart
returns-clause-apart c = none_before (length c.args.shape_order.now.by_shape) c.args.shape_order.now.places
