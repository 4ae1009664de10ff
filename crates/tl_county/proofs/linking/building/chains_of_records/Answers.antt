use Rattle.tl_county.proofs.Common.{Fields1, Fields2, Fields4, Fields6, FieldsI, IsInOrder, IsStrictlySortedBy, List, [], ap, append-nil, arith, cases_lt, chains_along, drop, drop_all, drop_more, four_tlid, in_order-filter, inl, inr, is_gt, length, map, min, min-eq_left, min-eq_right, min-le_left, min-le_right, nat_cmp, on, one_tlid, refl, six_tlid, strict_tail, subst, sym, two_tlid, ℕ, ◌++◌, ◌+◌, ◌<◌, ◌∙◌, ◌∷◌, ◌≡◌, ◌≤◌, ◌⊎◌}
use Rattle.tl_county.proofs.Lists.Groups.{chains-step}
use Rattle.tl_county.proofs.linking.building.chains_of_records.Goals as goal

-- a place below the lesser of two numbers is below both
below_both : (m n end place : ℕ) → end ≡ min m n → place < end → (place < m) × (place < n)
below_both m n end place e h = (omega (arith, h, e, min-le_left m n), omega (arith, h, e, min-le_right m n))

pub loop-place-preserved : goal.loop-place-preserved
loop-place-preserved g c =
    let f = g.C.StoredChain.chain in
    let at = c.loop-place in
    let place = at.place in
    let basics = c.index-all_basics-place.result in
    let topology = c.record-topology.result.now in
    let within = below_both (length c.args.all_basics.now) (length c.args.topologies.now) c.min-place-end.result place c.min-place-end.ensures
    c.loop-place-test.true in
    let all_basics : drop place c.args.all_basics.now ≡ basics ∷ drop (place + 1) c.args.all_basics.now =
    drop_more c.args.all_basics.now place basics (omega (arith, within.0)) ∙ ap (λ x. x ∷ drop (place + 1) c.args.all_basics.now) (sym c.index-all_basics-place.is) in
    let topologies : drop place c.args.topologies.now ≡ topology ∷ drop (place + 1) c.args.topologies.now =
    drop_more c.args.topologies.now place c.index-topologies-place.result (omega (arith, within.1))
    ∙ ap (λ x. x ∷ drop (place + 1) c.args.topologies.now) (sym (c.record-topology.ensures ∙ c.index-topologies-place.is)) in
    let shapes = c.in_ok-push_chain.ensures.shapes in
    let names = c.in_ok-push_chain.ensures.names in
    let ranges = c.in_ok-push_chain.ensures.ranges in
    record {
      all_basics = strict_tail nat_cmp basics.tlid (map one_tlid (drop (place + 1) c.args.all_basics.now))
          (subst (λ l. IsStrictlySortedBy nat_cmp (map one_tlid l)) all_basics at.invariant.all_basics);
      shapes = subst (IsInOrder (on two_tlid nat_cmp)) (sym shapes)
          (in_order-filter (on two_tlid nat_cmp) (λ x. is_gt (nat_cmp (two_tlid x) basics.tlid)) at.details.shapes.now at.invariant.shapes);
      names = subst (IsInOrder (on four_tlid nat_cmp)) (sym names)
          (in_order-filter (on four_tlid nat_cmp) (λ x. is_gt (nat_cmp (four_tlid x) basics.tlid)) at.details.names.now at.invariant.names);
      ranges = subst (IsInOrder (on six_tlid nat_cmp)) (sym ranges)
          (in_order-filter (on six_tlid nat_cmp) (λ x. is_gt (nat_cmp (six_tlid x) basics.tlid)) at.details.ranges.now at.invariant.ranges);
      done = (λ i. c.in_ok-push_chain.ensures.chains i ++
          chains_along (shapes i) (names i) (ranges i) (drop (place + 1) c.args.all_basics.now) (drop (place + 1) c.args.topologies.now))
          ∙ chains-step (map f at.chains.items) _ basics (drop (place + 1) c.args.all_basics.now) (drop place c.args.all_basics.now) topology
          (drop (place + 1) c.args.topologies.now) (drop place c.args.topologies.now)
          at.details.shapes.now at.details.names.now at.details.ranges.now all_basics topologies at.invariant.all_basics at.invariant.done;
    }

-- past the last head, or past the last link, no chain is left
none_along : (twos : List Fields2) (fours : List Fields4) (sixes : List Fields6) (all_basics : List Fields1) (topologies : List FieldsI)
    → (all_basics ≡ []) ⊎ (topologies ≡ []) → chains_along twos fours sixes all_basics topologies ≡ []
none_along twos fours sixes all_basics topologies (inl e) = ap (λ hs. chains_along twos fours sixes hs topologies) e
none_along twos fours sixes [] topologies (inr e) = refl
none_along twos fours sixes (r ∷ rs) topologies (inr e) = ap (λ ls. chains_along twos fours sixes (r ∷ rs) ls) e

past : {A B : Type 0} (xs : List A) (ys : List B) (place : ℕ) → min (length xs) (length ys) ≤ place
    → (drop place xs ≡ []) ⊎ (drop place ys ≡ [])
past xs ys place h = go (cases_lt (length xs) (length ys))
  where
    go : (length xs < length ys) ⊎ (length ys ≤ length xs) → (drop place xs ≡ []) ⊎ (drop place ys ≡ [])
    go (inl less) =
        let le : length xs ≤ length ys = omega (arith, less) in inl (drop_all place xs (omega (arith, h, min-eq_left le)))
    go (inr le) = inr (drop_all place ys (omega (arith, h, min-eq_right le)))

pub returns : goal.returns
returns g c =
    let at = c.loop-place in
    let done = map g.C.StoredChain.chain at.chains.items in
    sym (append-nil done)
    ∙ ap (λ l. done ++ l) (sym (none_along at.details.shapes.now at.details.names.now at.details.ranges.now
    (drop at.place c.args.all_basics.now) (drop at.place c.args.topologies.now)
    (past c.args.all_basics.now c.args.topologies.now at.place (subst (λ end. end ≤ at.place) c.min-place-end.ensures c.loop-place-test.false))))
    ∙ at.invariant.done
