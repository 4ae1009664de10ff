use Rattle.std.proofs.Common.{List, [], ap, ap₂, arith, drop, drop-drop, get_or, length, mul_comm, subst, sym, take, take-append-drop, ℕ, ◌*◌, ◌++◌, ◌+◌, ◌-◌, ◌<◌, ◌∙◌, ◌≡◌, ◌≤◌}
use Rattle.std.proofs.Math.Seq.{drop-length}
use Rattle.std.proofs.lemmas.List.{drop-take}
use Rattle.std.specs.List.{AllByRecursion}
use Rattle.ordered_lists.proofs.Lists.Counted.{all_drop, all_take}
use Rattle.canonical_form.specs.MovedChains.{AreWithin}
use Rattle.county_chart.specs.Choices.{most_choices}
use Rattle.county_chart.specs.declared.open_place.OpenPlace.{OpenPlace}
use Rattle.canonical_form.proofs.Choices.ChosenArrangements.{places_in_order}
use Rattle.record_groups.proofs.Texts.GroupOrders.{records_total}
use Rattle.tl_number.specs.LeastOnes.{AreLeastChoices, HaveLeastOnes, IsDigitApart, ones_in}
use Rattle.tl_number.specs.StillOpen.{LeavesOpen, settled, still_open}
use Rattle.tl_number.specs.ShapeDigits.{ArePlacesApart, combined, ways_of}
use Rattle.tl_number.proofs.Choices.DigitsApart.{ways_taken}
use Rattle.tl_number.proofs.Choices.LeastBelow.{least_first}
use Rattle.tl_number.proofs.Choices.LeastOnes.{all_ways, few_ways, ones_apart, taken_few, taken_some}
use Rattle.tl_number.proofs.Choices.PlacesApart.{all_before}
use Rattle.tl_number.proofs.Choices.StillOpen.{AreAmong, leaves_more, leaves_none, left_count, more_among, none_among}
use Rattle.tl_number.proofs.Ties.ComparedChoices.{OrderedCounty}
use Rattle.tl_number.proofs.type_1_choices.least_by_type_1.Given.{Over}
use Rattle.tl_number.proofs.type_1_choices.least_by_type_1.Goals.{After-least-in-loop-end-1}
use Rattle.tl_number.proofs.type_1_choices.least_by_type_1.Goals as goal

pub loop-end-init : goal.loop-end-init
loop-end-init g c =
    let county = g.C.Chart.county c.args.chart.now in
    let places = c.args.shape_order.now.places in
    let count = length c.args.shape_order.now.by_shape in
    let start = c.in_ok-least.ensures in
    let end : length c.open_places-places.result.now ≡ length places = ap length c.open_places-places.ensures in
    let none : drop (length c.open_places-places.result.now) places ≡ [] = ap (λ n. drop n places) end ∙ drop-length places in
    record {
      least = record {
        ones = subst (HaveLeastOnes county 1) (sym start.numbers) (least_first records_total (ones_in county));
        first = start.first ∙ sym (ap (λ numbers. get_or numbers 0 0) start.numbers);
        chosen = start.chosen;
      };
      ways = sym (ap ways_of none);
      end = omega (arith, end);
      left = subst (λ (p : List OpenPlace × List ℕ). LeavesOpen c.args.shape_order.now.by_shape p.0 p.1 c.in_ok-least.least.still_open)
          (λ i. (sym none i, sym start.numbers i))
          (leaves_none c.args.shape_order.now.by_shape c.in_ok-least.least.still_open start.chains start.places);
      among = subst (λ (p : List OpenPlace × List OpenPlace). AreAmong count p.0 p.1) (λ i. (sym none i, sym start.places i)) (none_among count);
      apart = subst (λ n. ArePlacesApart count (take n places) (drop n places)) (sym end) (all_before count places c.requires.within);
    }

pub last_shape-first-requires-clause-in_order : goal.last_shape-first-requires-clause-in_order
last_shape-first-requires-clause-in_order g c =
    places_in_order (g.C.Chart.county c.args.chart.now) (g.met.C.Chart.is_county c.args.chart.now) c.args.shape_order.now.by_shape
    c.requires.order.by_shape c.args.shape_order.now.places (c.requires.order.places c.requires.few)

pub count_ways-count-requires-clause-some : goal.count_ways-count-requires-clause-some
count_ways-count-requires-clause-some g c =
    subst (λ (places : List OpenPlace). 0 < ways_of (take (c.loop-end.end - c.last_shape-first.result) (drop c.last_shape-first.result places)))
    (sym c.open_places-places.ensures)
    (taken_some record {
      county = g.C.Chart.county c.args.chart.now;
      shapes = c.args.shape_order.now;
      known = c.requires;
      is = g.met.C.Chart.is_county c.args.chart.now;
      within = g.met.C.Chart.within_limits c.args.chart.now;
    } c.last_shape-first.result c.loop-end.end)

pub count_ways-count-requires-clause-few : goal.count_ways-count-requires-clause-few
count_ways-count-requires-clause-few g c =
    subst (λ (places : List OpenPlace). ways_of (take (c.loop-end.end - c.last_shape-first.result) (drop c.last_shape-first.result places)) ≤ most_choices)
    (sym c.open_places-places.ensures)
    (taken_few record {
      county = g.C.Chart.county c.args.chart.now;
      shapes = c.args.shape_order.now;
      known = c.requires;
      is = g.met.C.Chart.is_county c.args.chart.now;
      within = g.met.C.Chart.within_limits c.args.chart.now;
    } c.last_shape-first.result c.loop-end.end (omega (arith, c.last_shape-first.ensures.before)))

-- the county with its order of shapes
abbrev ordered : (g : Over) (c : After-least-in-loop-end-1 g) → OrderedCounty
ordered g c = record {
  county = g.C.Chart.county c.args.chart.now;
  shapes = c.args.shape_order.now;
  known = c.requires;
  is = g.met.C.Chart.is_county c.args.chart.now;
  within = g.met.C.Chart.within_limits c.args.chart.now;
}

-- the choices that the places of the shape leave, and those that the places from it on leave
counted : (g : Over) (c : After-least-in-loop-end-1 g) → c.count_ways-count.result
    ≡ ways_of (take (c.loop-end.end - c.last_shape-first.result) (drop c.last_shape-first.result c.args.shape_order.now.places))
counted g c = c.count_ways-count.ensures
    ∙ ap (λ (places : List OpenPlace). ways_of (take (c.loop-end.end - c.last_shape-first.result) (drop c.last_shape-first.result places)))
    c.open_places-places.ensures

all_counted : (g : Over) (c : After-least-in-loop-end-1 g) → c.count_ways-count.result * c.loop-end.ways
    ≡ ways_of (drop c.last_shape-first.result c.args.shape_order.now.places)
all_counted g c = ap₂ (λ one behind. one * behind) (counted g c) c.loop-end.invariant.ways
    ∙ sym (ways_taken c.args.shape_order.now.places c.last_shape-first.result c.loop-end.end (omega (arith, c.last_shape-first.ensures.before)))

few_counted : (g : Over) (c : After-least-in-loop-end-1 g) → c.count_ways-count.result * c.loop-end.ways ≤ most_choices
few_counted g c = subst (λ count. count ≤ most_choices) (sym (all_counted g c)) (few_ways (ordered g c) c.last_shape-first.result)

pub add_digit-requires-clause-some : goal.add_digit-requires-clause-some
add_digit-requires-clause-some g c =
    subst (λ count. 0 < count) (sym (counted g c)) (taken_some (ordered g c) c.last_shape-first.result c.loop-end.end)

pub add_digit-requires-clause-few : goal.add_digit-requires-clause-few
add_digit-requires-clause-few g c = few_counted g c

pub add_digit-requires-clause-apart : goal.add_digit-requires-clause-apart
add_digit-requires-clause-apart g c =
    let places = c.args.shape_order.now.places in
    subst (IsDigitApart (g.C.Chart.county c.args.chart.now)) (sym c.loop-end.invariant.ways)
    (ones_apart (ordered g c) (take c.loop-end.end places) (drop c.loop-end.end places)
    (sym (take-append-drop c.loop-end.end places)) c.loop-end.invariant.apart)

pub overflow_mul-ways : goal.overflow_mul-ways
overflow_mul-ways g c =
    let few : c.count_ways-count.result * c.loop-end.ways ≤ most_choices = few_counted g (goal.at.overflow_mul-ways g c).After-least-in-loop-end-1 in
    omega (arith, few, mul_comm c.loop-end.ways c.count_ways-count.result)

-- the places of the shape, and all those from its first one on
abbrev shape_places : (g : Over) (c : After-least-in-loop-end-1 g) → List OpenPlace
shape_places g c = take (c.loop-end.end - c.last_shape-first.result) (drop c.last_shape-first.result c.args.shape_order.now.places)

shape_there : (g : Over) (c : After-least-in-loop-end-1 g) → AreWithin (length c.args.shape_order.now.by_shape) (shape_places g c)
shape_there g c = all_take _ (c.loop-end.end - c.last_shape-first.result) (drop c.last_shape-first.result c.args.shape_order.now.places)
    (all_drop _ c.last_shape-first.result c.args.shape_order.now.places c.requires.within)

up_to_end : (g : Over) (c : After-least-in-loop-end-1 g) → c.last_shape-first.result + (c.loop-end.end - c.last_shape-first.result) ≡ c.loop-end.end
up_to_end g c = omega (arith, c.last_shape-first.ensures.before)

shape_first : (g : Over) (c : After-least-in-loop-end-1 g)
    → shape_places g c ++ drop c.loop-end.end c.args.shape_order.now.places ≡ drop c.last_shape-first.result c.args.shape_order.now.places
shape_first g c =
    let places = c.args.shape_order.now.places in
    let first = c.last_shape-first.result in
    let count = c.loop-end.end - first in
    ap (λ rest. take count (drop first places) ++ rest) (sym (drop-drop count first places ∙ ap (λ n. drop n places) (up_to_end g c)))
    ∙ take-append-drop count (drop first places)

-- they end where the places behind them begin
shape_before : (g : Over) (c : After-least-in-loop-end-1 g) → AreWithin c.loop-end.invariant.apart.edge (shape_places g c)
shape_before g c =
    let places = c.args.shape_order.now.places in
    let first = c.last_shape-first.result in
    subst (AreWithin c.loop-end.invariant.apart.edge)
    (ap (λ n. drop first (take n places)) (sym (up_to_end g c)) ∙ drop-take first (c.loop-end.end - first) places)
    (all_drop _ first (take c.loop-end.end places) c.loop-end.invariant.apart.ends)

behind_there : (g : Over) (c : After-least-in-loop-end-1 g) → AreWithin (length c.args.shape_order.now.by_shape) (drop c.loop-end.end c.args.shape_order.now.places)
behind_there g c = all_drop _ c.loop-end.end c.args.shape_order.now.places c.requires.within

pub settle-requires : goal.settle-requires
settle-requires g c =
    let there = (goal.at.settle-requires g c).After-least-in-loop-end-1 in
    let count : length c.add_digit.new.least.still_open.by_shape ≡ length c.args.shape_order.now.by_shape =
    ap (λ still. length still.by_shape) c.add_digit.ensures.still ∙ left_count c.args.shape_order.now.by_shape (behind_there g there) c.loop-end.invariant.left in
    subst (λ (p : ℕ × List OpenPlace). AreWithin p.0 (take (c.loop-end.end - c.last_shape-first.result) (drop c.last_shape-first.result p.1)))
    (λ i. (sym count i, sym c.open_places-places.ensures i)) (shape_there g there)

pub loop-end-preserved : goal.loop-end-preserved
loop-end-preserved g c =
    let there = (goal.at.loop-end-preserved g c).After-least-in-loop-end-1 in
    let county = g.C.Chart.county c.args.chart.now in
    let by_shape = c.args.shape_order.now.by_shape in
    let behind = drop c.loop-end.end c.args.shape_order.now.places in
    let old = c.loop-end.least in
    let before = c.loop-end.invariant in
    let digits = c.in_ok-digits.digits.items in
    let next = c.settle.new.self in
    let swapped : c.loop-end.ways * c.count_ways-count.result ≡ c.count_ways-count.result * c.loop-end.ways =
    mul_comm c.loop-end.ways c.count_ways-count.result in
    let least = subst (λ count. AreLeastChoices county c.args.shape_order.now count c.add_digit.new.least) (sym swapped) c.in_ok-digits.ensures.least in
    let numbers : c.add_digit.new.least.numbers.items ≡ combined (ways_of behind) digits old.numbers.items =
    c.in_ok-digits.ensures.numbers ∙ ap (λ ways. combined ways digits old.numbers.items) before.ways in
    let places_of : List OpenPlace → List OpenPlace =
    λ all. take (c.loop-end.end - c.last_shape-first.result) (drop c.last_shape-first.result all) in
    let chains : next.by_shape ≡ settled (shape_places g there) digits old.still_open.by_shape = c.in_ok-settle.ensures.chains
    ∙ (λ i. settled (places_of (c.open_places-places.ensures i)) (c.deref.ensures.value i) (c.add_digit.ensures.still i).by_shape) in
    let places : next.places ≡ still_open (shape_places g there) digits old.still_open.places = c.in_ok-settle.ensures.places
    ∙ (λ i. still_open (places_of (c.open_places-places.ensures i)) (c.deref.ensures.value i) (c.add_digit.ensures.still i).places) in
    record {
      least = record { ones = least.ones; first = least.first; chosen = least.chosen };
      ways = swapped ∙ all_counted g there;
      end = omega (arith, c.last_shape-first.ensures.before, before.end);
      left = subst (λ (p : List OpenPlace × List ℕ). LeavesOpen by_shape p.0 p.1 next) (λ i. (shape_first g there i, sym numbers i))
          (leaves_more by_shape (shape_places g there) behind old.numbers.items old.still_open (shape_there g there) (behind_there g there)
          before.left before.among next digits
          (subst (λ count. AllByRecursion (λ digit. digit < count) digits) (counted g there) c.in_ok-digits.ensures.digits)
          (subst (λ ways. AllByRecursion (λ n. n < ways) old.numbers.items) before.ways before.least.ones.within)
          before.apart.edge before.apart.inside (shape_before g there) before.apart.begins chains places);
      among = subst (λ (p : List OpenPlace × List OpenPlace). AreAmong (length by_shape) p.0 p.1) (λ i. (shape_first g there i, sym places i))
          (more_among (length by_shape) (shape_places g there) behind old.still_open.places digits (shape_there g there) before.among);
      apart = c.last_shape-first.ensures.apart;
    }

-- at the end all places were searched
pub returns-clause-least : goal.returns-clause-least
returns-clause-least g c =
    let county = g.C.Chart.county c.args.chart.now in
    let places = c.args.shape_order.now.places in
    let none : c.loop-end.end ≡ 0 = omega (arith, c.loop-end-test.false) in
    subst (λ count. AreLeastChoices county c.args.shape_order.now count c.loop-end.least)
    (c.loop-end.invariant.ways ∙ ap (λ n. ways_of (drop n places)) none
    ∙ all_ways record {
      county = county;
      shapes = c.args.shape_order.now;
      known = c.requires;
      is = g.met.C.Chart.is_county c.args.chart.now;
      within = g.met.C.Chart.within_limits c.args.chart.now;
    })
    c.loop-end.invariant.least

pub returns-clause-left : goal.returns-clause-left
returns-clause-left g c =
    let none : c.loop-end.end ≡ 0 = omega (arith, c.loop-end-test.false) in
    subst (λ n. LeavesOpen c.args.shape_order.now.by_shape (drop n c.args.shape_order.now.places) c.loop-end.least.numbers.items c.loop-end.least.still_open)
    none c.loop-end.invariant.left

pub returns-clause-still : goal.returns-clause-still
returns-clause-still g c =
    let places = c.args.shape_order.now.places in
    let still = c.loop-end.least.still_open in
    let none : c.loop-end.end ≡ 0 = omega (arith, c.loop-end-test.false) in
    let among = subst (λ n. AreAmong (length c.args.shape_order.now.by_shape) (drop n places) still.places) none c.loop-end.invariant.among in
    let count = left_count c.args.shape_order.now.by_shape (all_drop _ c.loop-end.end places c.requires.within) c.loop-end.invariant.left in
    record {
      within = subst (λ n. AreWithin n still.places) (sym count) among.within;
      opened = among.opened;
    }
