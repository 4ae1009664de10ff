-- The numbers of tables in order are in order, and so are the tables by their first number.
use Rattle.tl_county.proofs.Common.{AreInOrder, Fields2, Fields4, Fields6, Fields7, Fields8, IsInOrder, List, Typed, eight_land, four_rtsq, four_tlid, i_tlid, in_order-map, landmark_body_cmp, link_part, link_part_cmp, map, nat_cmp, on, one_tlid, rules, seven_land, six_rtsq, six_tlid, subst, sym, two_rtsq, two_tlid, ℕ, ◌≡◌}
use Rattle.tl_county.proofs.Rules.RuleTests.{in_order-first}

-- the TLIDs of the type 1 records
pub tlids_in_order : {tlids : List ℕ} (t : Typed) → AreInOrder t → tlids ≡ map one_tlid t.of_type_1 → IsInOrder nat_cmp tlids
tlids_in_order t ordered stated = search (rules, in_order-map)

-- the TLIDs of the type I records
pub linked_in_order : {linked : List ℕ} (t : Typed) → AreInOrder t → linked ≡ map i_tlid t.of_type_i → IsInOrder nat_cmp linked
linked_in_order t ordered stated = search (rules, in_order-map)

-- the tables that are in order by more than one number
module _ (t : Typed) (ordered : AreInOrder t) where
  pub twos_in_order : {twos : List Fields2} → twos ≡ t.of_type_2 → IsInOrder (on two_tlid nat_cmp) twos
  twos_in_order stated = subst (IsInOrder (on two_tlid nat_cmp)) (sym stated)
      (in_order-first (on two_tlid nat_cmp) (on two_rtsq nat_cmp) t.of_type_2 ordered.type_2)

  pub fours_in_order : {fours : List Fields4} → fours ≡ t.of_type_4 → IsInOrder (on four_tlid nat_cmp) fours
  fours_in_order stated = subst (IsInOrder (on four_tlid nat_cmp)) (sym stated)
      (in_order-first (on four_tlid nat_cmp) (on four_rtsq nat_cmp) t.of_type_4 ordered.type_4)

  pub sixes_in_order : {sixes : List Fields6} → sixes ≡ t.of_type_6 → IsInOrder (on six_tlid nat_cmp) sixes
  sixes_in_order stated = subst (IsInOrder (on six_tlid nat_cmp)) (sym stated)
      (in_order-first (on six_tlid nat_cmp) (on six_rtsq nat_cmp) t.of_type_6 ordered.type_6)

  pub sevens_in_order : {sevens : List Fields7} → sevens ≡ t.of_type_7 → IsInOrder (on seven_land nat_cmp) sevens
  sevens_in_order stated = subst (IsInOrder (on seven_land nat_cmp)) (sym stated)
      (in_order-first (on seven_land nat_cmp) (λ a b. landmark_body_cmp a.body b.body) t.of_type_7 ordered.type_7)

  pub eights_in_order : {eights : List Fields8} → eights ≡ t.of_type_8 → IsInOrder (on eight_land nat_cmp) eights
  eights_in_order stated = subst (IsInOrder (on eight_land nat_cmp)) (sym stated)
      (in_order-first (on eight_land nat_cmp) (on link_part link_part_cmp) t.of_type_8 ordered.type_8)

pub ruleset tables_in_order =
    (tlids_in_order, linked_in_order, twos_in_order, fours_in_order, sixes_in_order, sevens_in_order, eights_in_order)
