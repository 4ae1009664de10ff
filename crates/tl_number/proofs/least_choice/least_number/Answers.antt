use Rattle.tl_number.proofs.Common.{AllKeysContained, IfOk-weaker, IsCounty, IsWithinLimits, ap, choices, contains, most_choices, most_records, nat_cmp, part_of, part_with, polygon_keys, polygons_along, subst, sym, wanted_feats, ℕ, ◌∙◌, ◌≡◌, ◌≤◌}
use Rattle.tl_number.proofs.Choices.LeastOnes.{least_of_these, least_same}
use Rattle.tl_number.proofs.Choices.StillOpen.{left_count}
use Rattle.tl_number.proofs.Ties.ChoicesLeft.{base_choice, least_there, part, same_ones_there}
use Rattle.tl_number.proofs.Ties.NarrowedChoices.{narrow}
use Rattle.tl_number.proofs.Ties.NarrowedOrder.{compared_choices, kept_lands_narrow, kept_tlids_narrow}
use Rattle.tl_number.proofs.Ties.ComparedChoices.{ComparedChoices, OrderedCounty}
use Rattle.tl_number.proofs.Ties.SmallCounty.{small_is, small_sides, small_within}
use Rattle.tl_number.specs.CountyParts.{narrowed}
use Rattle.tl_number.specs.LeastOnes.{HaveSameOnes, IsLeastOf}
use Rattle.tl_number.specs.SmallCounty.{small_county}
use Rattle.tl_number.proofs.least_choice.least_number.Given.{Over}
use Rattle.tl_number.proofs.least_choice.least_number.Goals.{In_ok-tables}
use Rattle.tl_number.proofs.least_choice.least_number.Goals as goal

pub find_kept-requires-clause-count : goal.find_kept-requires-clause-count
find_kept-requires-clause-count g c = sym (left_count c.args.shape_order.now.by_shape c.requires.known.within c.requires.left)

pub find_kept-requires-clause-within : goal.find_kept-requires-clause-within
find_kept-requires-clause-within g c = c.requires.still.within

pub part_tables-requires : goal.part_tables-requires
part_tables-requires g c = c.requires.known.sides

-- the county with its order of shapes, and the remaining choices
abbrev ordered : (g : Over) (c : In_ok-tables g) → OrderedCounty
ordered g c = record {
  county = g.C.Chart.county c.args.chart.now;
  shapes = c.args.shape_order.now;
  known = c.requires.known;
  is = g.met.C.Chart.is_county c.args.chart.now;
  within = g.met.C.Chart.within_limits c.args.chart.now;
}

abbrev base : (g : Over) (c : In_ok-tables g) → ComparedChoices
base g c = base_choice (ordered g c) c.args.numbers.now c.args.still_open.now c.requires.left c.requires.still

-- the part that the tables keep is the one in which choices are compared
is_compared : (g : Over) (c : In_ok-tables g) → part_with (g.C.Chart.county c.args.chart.now) c.in_ok-tables.tables
    ≡ part (ordered g c) c.args.numbers.now c.args.still_open.now c.requires.left c.requires.still
unfolding small_county
is_compared g c =
    let county = g.C.Chart.county c.args.chart.now in
    let tlids = ap (λ kept. kept.tlids.items) c.in_ok-tables.ensures.kept ∙ c.in_ok-kept.ensures.tlids ∙ sym (kept_tlids_narrow (base g c)) in
    let lands = ap (λ kept. kept.lands.items) c.in_ok-tables.ensures.kept ∙ c.in_ok-kept.ensures.lands ∙ sym (kept_lands_narrow (base g c)) in
    let names : (feat : ℕ) → contains nat_cmp feat c.in_ok-tables.tables.kept.names ≡ contains nat_cmp feat (wanted_feats county c.args.still_open.now) =
    λ feat. ap (λ kept. contains nat_cmp feat kept.names) c.in_ok-tables.ensures.kept ∙ c.in_ok-kept.ensures.names feat in
    λ i. part_of (narrowed (λ feat. names feat i) county) (λ entry. contains nat_cmp entry.0 (tlids i)) (lands i)

pub new-requires-clause-county : goal.new-requires-clause-county
new-requires-clause-county g c =
    let there = (goal.at.new-requires-clause-county g c).In_ok-tables in
    subst IsCounty (sym (is_compared g there)) (small_is (narrow (base g there)))

pub new-requires-clause-limits : goal.new-requires-clause-limits
new-requires-clause-limits g c =
    let there = (goal.at.new-requires-clause-limits g c).In_ok-tables in
    subst (IsWithinLimits most_records) (sym (is_compared g there)) (small_within (narrow (base g there)))

pub least_in_part-found-requires-clause-few : goal.least_in_part-found-requires-clause-few
least_in_part-found-requires-clause-few g c =
    let there = (goal.at.least_in_part-found-requires-clause-few g c).In_ok-tables in
    subst (λ part. choices part ≤ most_choices) (sym (c.new.ensures ∙ is_compared g there))
    (subst (λ count. count ≤ most_choices) (sym (compared_choices (base g there))) c.requires.known.few)

pub least_in_part-found-requires-clause-sides : goal.least_in_part-found-requires-clause-sides
least_in_part-found-requires-clause-sides g c =
    let there = (goal.at.least_in_part-found-requires-clause-sides g c).In_ok-tables in
    subst (λ part. AllKeysContained (polygons_along part.chains) (polygon_keys part)) (sym (c.new.ensures ∙ is_compared g there))
    (small_sides (narrow (base g there)))

pub least_in_part-found-requires-clause-ones : goal.least_in_part-found-requires-clause-ones
least_in_part-found-requires-clause-ones g c =
    let there = (goal.at.least_in_part-found-requires-clause-ones g c).In_ok-tables in
    subst (λ part. HaveSameOnes part c.args.numbers.now) (sym (c.new.ensures ∙ is_compared g there))
    (same_ones_there (ordered g there) c.args.numbers.now c.args.still_open.now c.requires.left c.requires.still
    (least_same (ordered g there) (choices (g.C.Chart.county c.args.chart.now)) c.args.numbers.now c.requires.ones))

pub returns : goal.returns
returns g c =
    let there = (goal.at.returns g c).In_ok-tables in
    IfOk-weaker c.least_in_part-found.result _ _
    (λ number least. least_of_these (ordered g there) c.args.numbers.now c.requires.ones number
    (least_there (ordered g there) c.args.numbers.now c.args.still_open.now c.requires.left c.requires.still number
    (subst (λ part. IsLeastOf part c.args.numbers.now number) (c.new.ensures ∙ is_compared g there) least)))
    c.least_in_part-found.ensures
