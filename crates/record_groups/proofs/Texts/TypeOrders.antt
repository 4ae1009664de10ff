-- For two packings with equally many records of each type, the first type that differs decides the order.
use Rattle.record_groups.proofs.Common.{AreSame, County, Eight, Equal, Five, Four, HasAsMany, I, IsCounty, IsWithinLimits, List, One, Record, Seven, Six, Two, ap, ap₂, carried_many, grouped, groups_cmp, length, length-append, length-map, map, most_records, nat_cmp, ordering_then, packed, packed-fits, packed_by_type, records_cmp, slice_cmp, spelling_cmp, sym, text_of, tied_itself, type_1_by_chain, type_2_by_chain, type_4_by_chain, types_1_to_4, types_5_to_7, types_8_to_p, ◌++◌, ◌+◌, ◌∙◌, ◌≡◌}
use Rattle.record_groups.proofs.Records.PackedGroups.{all_groups, eights, fives, fours, is, ones, sevens, sixes, twos}
use Rattle.record_groups.proofs.Texts.GroupOrders.{records_total}
use Rattle.record_groups.proofs.Texts.RecordTexts.{cmp-append, text_cmp}
use Rattle.record_groups.specs.RecordOrder.{types_1_to_4_cmp, types_5_to_7_cmp, types_8_to_p_cmp}

-- three lists, the first two of them as long as the lists that they are compared with
three_lists : (a b c d e f : List Record) → length a ≡ length d → length b ≡ length e
    → records_cmp (a ++ (b ++ c)) (d ++ (e ++ f)) ≡ ordering_then (records_cmp a d) (ordering_then (records_cmp b e) (records_cmp c f))
three_lists a b c d e f first second = cmp-append spelling_cmp a d (b ++ c) (e ++ f) first
    ∙ ap (ordering_then (records_cmp a d)) (cmp-append spelling_cmp b e c f second)

three_lengths : (a b c d e f : List Record) → length a ≡ length d → length b ≡ length e → length c ≡ length f
    → length (a ++ (b ++ c)) ≡ length (d ++ (e ++ f))
three_lengths a b c d e f first second third = length-append a (b ++ c)
    ∙ ap₂ (λ m n. m + n) first (length-append b c ∙ ap₂ (λ m n. m + n) second third ∙ sym (length-append e f))
    ∙ sym (length-append d (e ++ f))

-- lists of records of one type, under other names
of_type : {X : Type 0} (record_of : X → Record) (xs ys : List X) (rs ss : List Record) → rs ≡ map record_of xs → ss ≡ map record_of ys
    → length xs ≡ length ys → length rs ≡ length ss
of_type record_of xs ys rs ss e f many = ap length e ∙ length-map xs record_of ∙ many ∙ sym (length-map ys record_of) ∙ sym (ap length f)

module _ (a b : County) (many : HasAsMany (packed_by_type a) (packed_by_type b)) where
  types_in_order : records_cmp (packed a) (packed b)
      ≡ ordering_then (types_1_to_4_cmp a b) (ordering_then (types_5_to_7_cmp a b) (types_8_to_p_cmp a b))
  types_in_order =
      let one = of_type One _ _ _ _ (ones a) (ones b) many.of_type_1 in
      let two = of_type Two _ _ _ _ (twos a) (twos b) many.of_type_2 in
      let four = of_type Four _ _ _ _ (fours a) (fours b) many.of_type_4 in
      let five = of_type Five _ _ _ _ (fives a) (fives b) many.of_type_5 in
      let six = of_type Six _ _ _ _ (sixes a) (sixes b) many.of_type_6 in
      let seven = of_type Seven _ _ _ _ (sevens a) (sevens b) many.of_type_7 in
      let eight = of_type Eight _ _ _ _ (eights a) (eights b) many.of_type_8 in
      let link = of_type I _ _ _ _ (is a) (is b) many.of_type_i in
      ap₂ records_cmp (sym (all_groups a)) (sym (all_groups b))
      ∙ three_lists (types_1_to_4 a) (types_5_to_7 a) (types_8_to_p a) (types_1_to_4 b) (types_5_to_7 b) (types_8_to_p b)
      (three_lengths _ _ _ _ _ _ one two four) (three_lengths _ _ _ _ _ _ five six seven)
      ∙ ap₂ ordering_then (three_lists _ _ _ _ _ _ one two)
      (ap₂ ordering_then (three_lists _ _ _ _ _ _ five six) (three_lists _ _ _ _ _ _ eight link))

-- The texts of counties that are the same map are in that order.
pub texts_in_order : (a b : County) → IsCounty a → IsCounty b → IsWithinLimits most_records a → IsWithinLimits most_records b → AreSame a b
    → slice_cmp nat_cmp (text_of (packed a)) (text_of (packed b))
    ≡ ordering_then (types_1_to_4_cmp a b) (ordering_then (types_5_to_7_cmp a b) (types_8_to_p_cmp a b))
texts_in_order a b is_a is_b within_a within_b same =
    text_cmp (packed a) (packed b) (packed-fits a is_a.whole within_a.contents within_a.numbers within_a.lists)
    (packed-fits b is_b.whole within_b.contents within_b.numbers within_b.lists)
    ∙ types_in_order a b (carried_many same.by a b same.carries)

-- So if their type 1 records are spelled alike and their type 2 records are the same, the records of the other types decide.
pub tied_texts_in_order : (a b : County) → IsCounty a → IsCounty b → IsWithinLimits most_records a → IsWithinLimits most_records b → AreSame a b
    → groups_cmp One (type_1_by_chain a) (type_1_by_chain b) ≡ Equal → type_2_by_chain a ≡ type_2_by_chain b
    → slice_cmp nat_cmp (text_of (packed a)) (text_of (packed b))
    ≡ ordering_then (groups_cmp Four (type_4_by_chain a) (type_4_by_chain b)) (ordering_then (types_5_to_7_cmp a b) (types_8_to_p_cmp a b))
tied_texts_in_order a b is_a is_b within_a within_b same ones_tied twos_same =
    let fours = groups_cmp Four (type_4_by_chain a) (type_4_by_chain b) in
    let rest = ordering_then (types_5_to_7_cmp a b) (types_8_to_p_cmp a b) in
    let twos_tied : groups_cmp Two (type_2_by_chain a) (type_2_by_chain b) ≡ Equal =
    ap (λ groups. groups_cmp Two groups (type_2_by_chain b)) twos_same ∙ tied_itself records_total (map Two (grouped (type_2_by_chain b))) in
    texts_in_order a b is_a is_b within_a within_b same
    ∙ ap (λ o. ordering_then (ordering_then o (ordering_then (groups_cmp Two (type_2_by_chain a) (type_2_by_chain b)) fours)) rest) ones_tied
    ∙ ap (λ o. ordering_then (ordering_then o fours) rest) twos_tied
