use Rattle.tl_number.proofs.Common.{DirectedChain, Some, [], ap, arith, at_places, false, filter, get_or, is_open, length, range_with_len, rules, slice_get, slice_get-get_or, sym, true, ◌++◌, ◌∙◌, ◌∷◌, ◌≡◌}
use Rattle.tl_number.proofs.Ties.SearchSteps.{next_passed, next_taken}
use Rattle.tl_number.proofs.kept_places.open_chains.Goals as goal

pub loop-place-preserved-then-not-opened : goal.loop-place-preserved-then-not-opened
loop-place-preserved-then-not-opened c =
    let fails : is_open c.args.places.now c.loop-place.place ≡ false = search rules in
    c.loop-place.invariant ∙ sym (next_passed c.args.by_shape.now (is_open c.args.places.now) c.loop-place.place fails)

pub loop-place-preserved : goal.loop-place-preserved
loop-place-preserved c =
    let by_shape = c.args.by_shape.now in
    let first : DirectedChain = record { place = 0; turned = false } in
    let chain = get_or by_shape c.loop-place.place first in
    let passes : is_open c.args.places.now c.loop-place.place ≡ true = search rules in
    let there : slice_get by_shape c.loop-place.place ≡ Some chain =
    slice_get-get_or by_shape c.loop-place.place first c.loop-place-test.true in
    c.in_ok-push.ensures.items ∙ ap (λ chains. chains ++ (chain ∷ [])) c.loop-place.invariant
    ∙ sym (next_taken by_shape (is_open c.args.places.now) c.loop-place.place chain passes there)

pub returns : goal.returns
returns c =
    let count : c.loop-place.place ≡ length c.args.by_shape.now = omega (arith, c.loop-place-test.false, c.loop-place.auto.place-end) in
    c.loop-place.invariant ∙ ap (λ count. at_places c.args.by_shape.now (filter (is_open c.args.places.now) (range_with_len 0 count))) count
