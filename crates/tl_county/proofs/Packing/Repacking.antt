-- The county depends on the packing of types 2 and 4 and on RTSQs only through the contents in their order.
use Rattle.tl_county.proofs.Common.{AllByRecursion, ChainTwice, Eight, Fields1, Fields2, Fields4, Fields6, FieldsI, Five, Four, IsLinked, IsTrue, LandUnknown, LinkFault, LinkMissing, LinkTwice, LinkedType, List, Memory, NameTwice, NameUnknown, NoChain, None, One, Option, Ordering, P, PolygonTwice, PolygonUnknown, Record, SequenceBroken, SequencedType, Seven, Six, Some, Two, Typed, [], all-in_order, all_both, all_known, all_map, all_unmap, ap, ap₂, arith, as_type, by_type, cases_order, chain_of, chains_of, common_steps, cons_option, contains, county_of, eight_land, filter_map, five_feat, flat_map, four_rtsq, four_tlid, further_names, further_ranges, greater, has_repeat, i_tlid, in_order, is_gt, is_rule_broken, key_cmp, less, link_key, linked_tlids, lt-ltb, map, map-map, map_agree_all, map_agree_everywhere, named_feats, nat_cmp, nat_cmp_total, nat_keys, nat_lt, not, of_number, of_number-all, of_type_2, of_type_4, of_type_6, on, one_tlid, option_map, p_key, polygons_of, put_in_order, refl, rtsqs, rules, seven_land, shape_points, side_keys, six_rtsq, six_tlid, sym, tied_itself, times, two_rtsq, two_tlid, ℕ, ◌&&◌, ◌++◌, ◌<◌, ◌||◌, ◌∙◌, ◌∷◌, ◌≡◌}
use Rattle.tl_county.proofs.Sameness.SameChains.{chains_alike}
use Rattle.tl_layout.specs.declared.record_type.Record.TheVariants.{I}
use Rattle.county_chart.specs.declared.fault.LinkedType.TheVariants.{Four as Type4, I as TypeI, Six as Type6, Two as Type2}
use Rattle.tl_county.specs.Repacked.{KeepsSequence, Sequence, resequenced}
use Rattle.tl_layout.specs.RecordTypes as record_types
use Rattle.county_chart.specs.declared.fault.SequencedType.TheVariants as sequenced

-- the records of the types that aren't ordered by RTSQ
abbrev pub unsequenced : List Record → Typed
unsequenced records = record (by_type records) { of_type_2 = []; of_type_4 = []; of_type_6 = [] }

-- Each chain has the same shape points, names and ranges, joined in the order of its RTSQs, and the other records are the same.
pub record AreRepacked (xs ys : List Record) : Type 0 where
  pub points : (tlid : ℕ) → shape_points xs tlid ≡ shape_points ys tlid
  pub names : (tlid : ℕ) → further_names xs tlid ≡ further_names ys tlid
  pub ranges : (tlid : ℕ) → further_ranges xs tlid ≡ further_ranges ys tlid
  pub rest : unsequenced xs ≡ unsequenced ys

module _ (xs ys : List Record) (s : AreRepacked xs ys) where
  chain_same : (r : Fields1) (link : FieldsI) → chain_of xs r link ≡ chain_of ys r link
  chain_same r link = search rules

  chains_same : chains_of xs ≡ chains_of ys
  chains_same = chains_alike xs ys chain_same (λ n i. of_number i_tlid n (s.rest i).of_type_i) (λ i. in_order (on one_tlid nat_cmp) (s.rest i).of_type_1)

  polygons_same : polygons_of xs ≡ polygons_of ys
  polygons_same = search rules

  pub repacked-county : county_of xs ≡ county_of ys
  repacked-county = search (rules, chains_alike)

-- lists changed element by element
select-changed : {X Y : Type 0} (h : X → Option Y) (g : X → X) (f : Y → Y) → ((x : X) → h (g x) ≡ option_map f (h x)) → (xs : List X)
    → filter_map h (map g xs) ≡ map f (filter_map h xs)
select-changed h g f k [] = refl
select-changed {X} {Y} h g f k (x ∷ xs) = ap₂ cons_option (k x) (select-changed h g f k xs) ∙ go (h x)
  where
    go : (o : Option Y) → cons_option (option_map f o) (map f (filter_map h xs)) ≡ map f (cons_option o (filter_map h xs))
    go None = refl
    go (Some y) = refl

number-kept : {X : Type 0} (number : X → ℕ) (f : X → X) → ((x : X) → number (f x) ≡ number x) → (n : ℕ) (xs : List X)
    → of_number number n (map f xs) ≡ map f (of_number number n xs)
number-kept number f k n [] = refl
number-kept number f k n (x ∷ xs) = search (rules, number-kept number f k n xs)

put-changed : {X : Type 0} (by : X → X → Ordering) (f : X → X) (Q : X → Type 0)
    → ((x y : X) → Q x → Q y → is_gt (by (f x) (f y)) ≡ is_gt (by x y)) → (x : X) → Q x → (ys : List X) → AllByRecursion Q ys
    → put_in_order by (f x) (map f ys) ≡ map f (put_in_order by x ys)
put-changed by f Q k x p [] a = refl
put-changed by f Q k x p (y ∷ ys) a = search (rules, put-changed by f Q k x p ys a.1)

order-changed : {X : Type 0} (by : X → X → Ordering) (f : X → X) (Q : X → Type 0)
    → ((x y : X) → Q x → Q y → is_gt (by (f x) (f y)) ≡ is_gt (by x y)) → (xs : List X) → AllByRecursion Q xs
    → in_order by (map f xs) ≡ map f (in_order by xs)
order-changed by f Q k [] a = refl
order-changed by f Q k (x ∷ xs) a = search (rules, put-changed, all-in_order, order-changed by f Q k xs a.1)

-- two numbers that increase with two others have the same order
rising : (f : ℕ → ℕ) (i j : ℕ) → (i < j → f i < f j) → (j < i → f j < f i) → nat_cmp (f i) (f j) ≡ nat_cmp i j
rising f i j up down = search (rules, cases_order, tied_itself, nat_cmp_total, less, greater)

-- the number is one of the list's numbers
abbrev IsContained : {X : Type 0} → (X → ℕ) → List X → ℕ → Type 0
IsContained number xs n = IsTrue (contains nat_cmp n (map number xs))

all_contained : {X : Type 0} (number : X → ℕ) (xs : List X) → AllByRecursion (λ x. IsContained number xs (number x)) xs
all_contained number xs = all_unmap (IsContained number xs) number xs
    (all_known nat_keys (IsContained number xs) (map number xs) (λ n known. lt-ltb 0 (times nat_cmp n (map number xs)) known))

-- one type of records in order, under new RTSQs
sequence_kept : {X : Type 0} (tlid rtsq : X → ℕ) (f : X → X) (new : ℕ → ℕ → ℕ) → ((x : X) → tlid (f x) ≡ tlid x)
    → ((x : X) → rtsq (f x) ≡ new (tlid x) (rtsq x)) → (n : ℕ) (xs : List X)
    → ((i j : ℕ) → IsContained rtsq (of_number tlid n xs) i → IsContained rtsq (of_number tlid n xs) j → i < j → new n i < new n j)
    → in_order (on rtsq nat_cmp) (of_number tlid n (map f xs)) ≡ map f (in_order (on rtsq nat_cmp) (of_number tlid n xs))
sequence_kept {X} tlid rtsq f new kt kr n xs up =
    ap (in_order (on rtsq nat_cmp)) (number-kept tlid f kt n xs)
    ∙ order-changed (on rtsq nat_cmp) f (λ x. (tlid x ≡ n) × IsContained rtsq (of_number tlid n xs) (rtsq x))
    (λ x y p q. ap is_gt (ap₂ nat_cmp (kr x ∙ ap (λ m. new m (rtsq x)) p.0) (kr y ∙ ap (λ m. new m (rtsq y)) q.0))
    ∙ ap is_gt (rising (new n) (rtsq x) (rtsq y) (up (rtsq x) (rtsq y) p.1 q.1) (up (rtsq y) (rtsq x) q.1 p.1)))
    (of_number tlid n xs)
    (all_both (λ x. tlid x ≡ n) (λ x. IsContained rtsq (of_number tlid n xs) (rtsq x)) (of_number tlid n xs)
    (of_number-all tlid n xs) (all_contained rtsq (of_number tlid n xs)))

flat_map-kept : {X Y : Type 0} (c : X → List Y) (f : X → X) → ((x : X) → c (f x) ≡ c x) → (xs : List X)
    → flat_map c (map f xs) ≡ flat_map c xs
flat_map-kept c f k [] = refl
flat_map-kept c f k (x ∷ xs) = λ i. k x i ++ flat_map-kept c f k xs i

module _ (f : ℕ → ℕ) (P : ℕ → Type 0) (up : (i j : ℕ) → P i → P j → i < j → f i < f j) where
  times-rising : (k : ℕ) → P k → (ks : List ℕ) → AllByRecursion P ks → times nat_cmp (f k) (map f ks) ≡ times nat_cmp k ks
  times-rising k p [] a = refl
  times-rising k p (j ∷ js) a = grind (arith, common_steps, rising, times-rising k p js a.1)

  repeat-rising : (ks : List ℕ) → AllByRecursion P ks → has_repeat nat_cmp (map f ks) ≡ has_repeat nat_cmp ks
  repeat-rising [] a = refl
  repeat-rising (k ∷ ks) a = ap₂ (λ n b. nat_lt 0 n || b) (times-rising k a.0 ks a.1) (repeat-rising ks a.1)

-- one type of records under new RTSQs: the RTSQs of a chain
rtsqs_kept : {X : Type 0} (tlid rtsq : X → ℕ) (f : X → X) (new : ℕ → ℕ → ℕ) → ((x : X) → tlid (f x) ≡ tlid x)
    → ((x : X) → rtsq (f x) ≡ new (tlid x) (rtsq x)) → (n : ℕ) (xs : List X)
    → ((i j : ℕ) → IsContained rtsq (of_number tlid n xs) i → IsContained rtsq (of_number tlid n xs) j → i < j → new n i < new n j)
    → has_repeat nat_cmp (map rtsq (of_number tlid n (map f xs))) ≡ has_repeat nat_cmp (map rtsq (of_number tlid n xs))
rtsqs_kept {X} tlid rtsq f new kt kr n xs up =
    ap (λ ys. has_repeat nat_cmp (map rtsq ys)) (number-kept tlid f kt n xs)
    ∙ ap (has_repeat nat_cmp) (map-map rtsq f (of_number tlid n xs)
    ∙ map_agree_all (λ x. rtsq (f x)) (λ x. new n (rtsq x)) (λ x. tlid x ≡ n) (λ x e. kr x ∙ ap (λ m. new m (rtsq x)) e)
    (of_number tlid n xs) (of_number-all tlid n xs) ∙ sym (map-map (new n) rtsq (of_number tlid n xs)))
    ∙ repeat-rising (new n) (IsContained rtsq (of_number tlid n xs)) up (map rtsq (of_number tlid n xs))
    (all_map (IsContained rtsq (of_number tlid n xs)) rtsq (of_number tlid n xs) (all_contained rtsq (of_number tlid n xs)))

module _ (q : Sequence) (xs : List Record) (up : KeepsSequence q xs) where
  new_two : Fields2 → Fields2
  new_two r = record r { rtsq = q sequenced.Two r.tlid r.rtsq }

  new_four : Fields4 → Fields4
  new_four r = record r { rtsq = q sequenced.Four r.tlid r.rtsq }

  new_six : Fields6 → Fields6
  new_six r = record r { rtsq = q sequenced.Six r.tlid r.rtsq }

  keeps_rest : (rs : List Record) → unsequenced (map (resequenced q) rs) ≡ unsequenced rs
  keeps_rest [] = refl
  keeps_rest (One r ∷ rs) = λ i. record (keeps_rest rs i) { of_type_1 = r ∷ (keeps_rest rs i).of_type_1 }
  keeps_rest (Five r ∷ rs) = λ i. record (keeps_rest rs i) { of_type_5 = r ∷ (keeps_rest rs i).of_type_5 }
  keeps_rest (Seven r ∷ rs) = λ i. record (keeps_rest rs i) { of_type_7 = r ∷ (keeps_rest rs i).of_type_7 }
  keeps_rest (Eight r ∷ rs) = λ i. record (keeps_rest rs i) { of_type_8 = r ∷ (keeps_rest rs i).of_type_8 }
  keeps_rest (I r ∷ rs) = λ i. record (keeps_rest rs i) { of_type_i = r ∷ (keeps_rest rs i).of_type_i }
  keeps_rest (P r ∷ rs) = λ i. record (keeps_rest rs i) { of_type_p = r ∷ (keeps_rest rs i).of_type_p }
  keeps_rest (Two r ∷ rs) = keeps_rest rs
  keeps_rest (Four r ∷ rs) = keeps_rest rs
  keeps_rest (Six r ∷ rs) = keeps_rest rs

  news_two : (r : Record) → as_type record_types.Type2 (resequenced q r) ≡ option_map new_two (as_type record_types.Type2 r)
  unfolding new_two
  news_two (Two r) = refl
  news_two _ = refl

  news_four : (r : Record) → as_type record_types.Type4 (resequenced q r) ≡ option_map new_four (as_type record_types.Type4 r)
  unfolding new_four
  news_four (Four r) = refl
  news_four _ = refl

  news_six : (r : Record) → as_type record_types.Type6 (resequenced q r) ≡ option_map new_six (as_type record_types.Type6 r)
  unfolding new_six
  news_six (Six r) = refl
  news_six _ = refl

  pub resequenced-repacked : AreRepacked (map (resequenced q) xs) xs
  unfolding new_two new_four new_six
  resequenced-repacked = record {
    points = λ n. ap (λ rs. flat_map (λ (r : Fields2). r.points) (in_order (on two_rtsq nat_cmp) (of_number two_tlid n rs)))
        (select-changed (as_type record_types.Type2) (resequenced q) new_two news_two xs)
        ∙ ap (flat_map (λ (r : Fields2). r.points))
        (sequence_kept two_tlid two_rtsq new_two (q sequenced.Two) (λ r. refl) (λ r. refl) n (of_type_2 xs) (up sequenced.Two n))
        ∙ flat_map-kept (λ (r : Fields2). r.points) new_two (λ r. refl)
        (in_order (on two_rtsq nat_cmp) (of_number two_tlid n (of_type_2 xs)));
    names = λ n. ap (λ rs. flat_map (λ (r : Fields4). r.feats) (in_order (on four_rtsq nat_cmp) (of_number four_tlid n rs)))
        (select-changed (as_type record_types.Type4) (resequenced q) new_four news_four xs)
        ∙ ap (flat_map (λ (r : Fields4). r.feats))
        (sequence_kept four_tlid four_rtsq new_four (q sequenced.Four) (λ r. refl) (λ r. refl) n (of_type_4 xs) (up sequenced.Four n))
        ∙ flat_map-kept (λ (r : Fields4). r.feats) new_four (λ r. refl)
        (in_order (on four_rtsq nat_cmp) (of_number four_tlid n (of_type_4 xs)));
    ranges = λ n. ap (λ rs. map (λ (r : Fields6). r.ranges) (in_order (on six_rtsq nat_cmp) (of_number six_tlid n rs)))
        (select-changed (as_type record_types.Type6) (resequenced q) new_six news_six xs)
        ∙ ap (map (λ (r : Fields6). r.ranges)) (sequence_kept six_tlid six_rtsq new_six (q sequenced.Six) (λ r. refl) (λ r. refl) n
        (of_type_6 xs) (up sequenced.Six n))
        ∙ map-map (λ (r : Fields6). r.ranges) new_six (in_order (on six_rtsq nat_cmp) (of_number six_tlid n (of_type_6 xs)));
    rest = keeps_rest xs;
  }

  pub resequenced-county : county_of (map (resequenced q) xs) ≡ county_of xs
  resequenced-county = repacked-county (map (resequenced q) xs) xs resequenced-repacked

  -- the numbers that the rules look at
  new_tlids : {X : Type 0} (tlid : X → ℕ) (new : X → X) → ((x : X) → tlid (new x) ≡ tlid x) → (rs : List X)
      → map tlid (map new rs) ≡ map tlid rs
  new_tlids tlid new k rs = map-map tlid new rs ∙ map_agree_everywhere (λ x. tlid (new x)) tlid k rs

  ys : List Record
  ys = map (resequenced q) xs

  two_is : of_type_2 ys ≡ map new_two (of_type_2 xs)
  unfolding ys
  two_is = select-changed (as_type record_types.Type2) (resequenced q) new_two news_two xs

  four_is : of_type_4 ys ≡ map new_four (of_type_4 xs)
  unfolding ys
  four_is = select-changed (as_type record_types.Type4) (resequenced q) new_four news_four xs

  six_is : of_type_6 ys ≡ map new_six (of_type_6 xs)
  unfolding ys
  six_is = select-changed (as_type record_types.Type6) (resequenced q) new_six news_six xs

  linked_same : (t : LinkedType) → linked_tlids t ys ≡ linked_tlids t xs
  unfolding new_two new_four new_six ys
  linked_same Type2 = ap (map two_tlid) two_is ∙ new_tlids two_tlid new_two (λ r. refl) (of_type_2 xs)
  linked_same Type4 = ap (map four_tlid) four_is ∙ new_tlids four_tlid new_four (λ r. refl) (of_type_4 xs)
  linked_same Type6 = ap (map six_tlid) six_is ∙ new_tlids six_tlid new_six (λ r. refl) (of_type_6 xs)
  linked_same TypeI = λ i. map i_tlid (keeps_rest xs i).of_type_i

  named_same : (n : ℕ) → named_feats n ys ≡ named_feats n xs
  unfolding new_four
  named_same n = search (rules, four_is, number-kept, flat_map-kept)

  sequence_same : (t : SequencedType) (n : ℕ) → has_repeat nat_cmp (rtsqs t n ys) ≡ has_repeat nat_cmp (rtsqs t n xs)
  unfolding new_two new_four new_six
  sequence_same sequenced.Two n = ap (λ rs. has_repeat nat_cmp (map two_rtsq (of_number two_tlid n rs))) two_is
      ∙ rtsqs_kept two_tlid two_rtsq new_two (q sequenced.Two) (λ r. refl) (λ r. refl) n (of_type_2 xs) (up sequenced.Two n)
  sequence_same sequenced.Four n = ap (λ rs. has_repeat nat_cmp (map four_rtsq (of_number four_tlid n rs))) four_is
      ∙ rtsqs_kept four_tlid four_rtsq new_four (q sequenced.Four) (λ r. refl) (λ r. refl) n (of_type_4 xs) (up sequenced.Four n)
  sequence_same sequenced.Six n = ap (λ rs. has_repeat nat_cmp (map six_rtsq (of_number six_tlid n rs))) six_is
      ∙ rtsqs_kept six_tlid six_rtsq new_six (q sequenced.Six) (λ r. refl) (λ r. refl) n (of_type_6 xs) (up sequenced.Six n)

  same_broken : (f : LinkFault) → is_rule_broken ys f ≡ is_rule_broken xs f
  unfolding ys
  same_broken (ChainTwice n) = λ i. nat_lt 1 (times nat_cmp n (map one_tlid (keeps_rest xs i).of_type_1))
  same_broken (NoChain t n) = λ i. contains nat_cmp n (linked_same t i) && not
      (contains nat_cmp n (map one_tlid (keeps_rest xs i).of_type_1))
  same_broken (SequenceBroken t n) = sequence_same t n
  same_broken (LinkMissing n) = λ i.
      contains nat_cmp n (map one_tlid (keeps_rest xs i).of_type_1) && not (contains nat_cmp n (map i_tlid (keeps_rest xs i).of_type_i))
  same_broken (LinkTwice n) = λ i. nat_lt 1 (times nat_cmp n (map i_tlid (keeps_rest xs i).of_type_i))
  same_broken (NameTwice n) = λ i. nat_lt 1 (times nat_cmp n (map five_feat (keeps_rest xs i).of_type_5))
  same_broken (NameUnknown n y) = λ i. contains nat_cmp y (named_same n i) && not
      (contains nat_cmp y (map five_feat (keeps_rest xs i).of_type_5))
  same_broken (PolygonTwice c k) = λ i. nat_lt 1 (times key_cmp (c, k) (map p_key (keeps_rest xs i).of_type_p))
  same_broken (LandUnknown n) = λ i.
      contains nat_cmp n (map eight_land (keeps_rest xs i).of_type_8) && not
      (contains nat_cmp n (map seven_land (keeps_rest xs i).of_type_7))
  same_broken (PolygonUnknown c k) = λ i.
      contains key_cmp (c, k) (map link_key (keeps_rest xs i).of_type_8) && not
      (contains key_cmp (c, k) (flat_map side_keys (keeps_rest xs i).of_type_i ++ map p_key (keeps_rest xs i).of_type_p))
  same_broken Memory = refl

  pub resequenced-linked : IsLinked xs → IsLinked (map (resequenced q) xs)
  unfolding ys
  resequenced-linked linked f = same_broken f ∙ linked f
