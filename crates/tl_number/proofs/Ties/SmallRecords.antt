-- The records of a type that are made of chains, in two choices of a county and of its small county: types 1, 4, 6 and I.
use Rattle.tl_number.proofs.Common.{AllByRecursion, Among, AreSame, Bool, Chain, County, Eight, Equal, FieldsOf, FitsRecord, Five, Four, Greater, I, IsCounty, IsWithinLimits, Less, List, None, One, Option, Ordering, P, Ranges, Record, RecordType, Renumbering, Seven, Six, Some, Two, Type1, Type6, [], all_everywhere, all_groups, all_left, all_map, all_right, all_themselves, all_unmap, ap, ap₂, arith, carried_many, decided, drop, exact_unsigned, false, grouped, grouped_lone, grouped_map, groups_cmp, groups_from, is_open, kept_entry, length, length-map, map, map-map, most_records, nat_cmp, nat_cmp_total, nat_list_cmp_total, none_past, numbered_from, option_map, ordering_then, packed-fits, packed_one, packed_sixes, record_of, refl, renumbered, slice_cmp, slice_get, spelling_of, subst, suc, sym, table_1, table_6, table_of, then-equal, then_same, those_decide, those_from, those_groups, tied_itself, true, type_1_by_chain, type_2_by_chain, type_4_by_chain, type_5_by_name, type_6_by_chain, type_7_by_landmark, type_8_together, type_i_by_chain, type_p_by_number, types_1_to_4, types_5_to_7, types_8_to_p, unwrap_or, zero, ℕ, ◌++◌, ◌+◌, ◌<◌, ◌∙◌, ◌∷◌, ◌≡◌, ◌≢◌}
use Rattle.tl_number.proofs.Ties.Columns.{AreColumnsAlike, columns_alike, columns_decide, fields_cmp, lists_decide, rows_cmp, tied_fields}
use Rattle.tl_number.proofs.Ties.KeptPieces.{IsKept, IsThere, Kept, all_are_there, all_kept, at_place, at_rank, kept_order, kept_pieces, lists_alike, place_groups, rank_groups}
use Rattle.tl_number.proofs.Ties.ComparedChoices.{ComparedChoices, IsKeptPart, chains_at, chains_numbered, choice, length_at, new_in, one_map, places_in, same_at, whole_in}

-- ---- records of one type

-- records of a type of two choices are compared by columns
pub choices_decide : (t : RecordType) (groups : County → List (List (FieldsOf t)))
    → ((county : County) → IsCounty county → IsWithinLimits most_records county → AllByRecursion (λ r. FitsRecord (record_of t r)) (grouped (groups county)))
    → (c : ComparedChoices) (n k : ℕ) → groups_cmp (record_of t) (groups (choice c n)) (groups (choice c k))
    ≡ slice_cmp (fields_cmp t) (grouped (groups (choice c n))) (grouped (groups (choice c k)))
choices_decide t groups fit c n k = lists_decide t (grouped (groups (choice c n))) (grouped (groups (choice c k))) (fits n) (fits k)
  where
    fits : (i : ℕ) → AllByRecursion (λ r. FitsRecord (record_of t r)) (grouped (groups (choice c i)))
    fits i = let whole = whole_in c i in fit (choice c i) whole.is_county whole.within_limits

-- groups made of elements and their numbers
numbered_groups : {X Y : Type 0} (under : ℕ → X → List Y) (F : ℕ → List Y) (xs : List X) (p : ℕ)
    → ((i : ℕ) (x : X) → slice_get xs i ≡ Some x → (q : ℕ) → q ≡ p + i → under (suc q) x ≡ F q)
    → grouped (map (λ (e : ℕ × X). under e.0 e.1) (numbered_from (suc p) xs)) ≡ groups_from F p (length xs)
numbered_groups under F [] p h = refl
numbered_groups under F (x ∷ xs) p h =
    ap₂ (λ us vs. us ++ vs) (h 0 x refl p (omega arith)) (numbered_groups under F xs (suc p) (λ i y e q f. h (suc i) y e q (omega (arith, f))))

-- what holds for all elements holds for the elements of each group
all_there : {X : Type 0} (Holds : X → Type 0) (F : ℕ → List X) (p count : ℕ) → AllByRecursion Holds (groups_from F p count)
    → (i : ℕ) → i < count → (q : ℕ) → q ≡ p + i → AllByRecursion Holds (F q)
all_there Holds F p zero all i l q e = absurd (omega (arith, l))
all_there Holds F p (suc count) all zero l q e = subst (λ j. AllByRecursion Holds (F j)) (let same : p ≡ q = omega (arith, e) in same)
    (all_left Holds (F p) (groups_from F (suc p) count) all)
all_there Holds F p (suc count) all (suc i) l q e =
    all_there Holds F (suc p) count (all_right Holds (F p) (groups_from F (suc p) count) all) i (omega (arith, l)) q (omega (arith, e))

-- How the records of a type are made of pieces of chains: of new numbers, the chain's TLID, the number of the piece, and the piece.
pub record Making (t : RecordType) (Y : Type 0) : Type 0 where
  pub pieces : Chain → List Y
  pub make : Renumbering → ℕ → ℕ → Y → FieldsOf t
  pub pack : ℕ × Chain → List (FieldsOf t)
  pub packs : (r : Renumbering) (n : ℕ) (c : Chain) → pack (n, renumbered r c) ≡ map (λ (e : ℕ × Y). make r n e.0 e.1) (numbered_from 1 (pieces c))
  pub tlid : FieldsOf t → ℕ
  pub has_tlid : (r : Renumbering) (n number : ℕ) (piece : Y) → tlid (make r n number piece) ≡ n
  pub fit : (county : County) → IsCounty county → IsWithinLimits most_records county
      → AllByRecursion (λ r. FitsRecord (record_of t r)) (grouped (map pack county.chains))
  pub as_many : (a b : County) → AreSame a b → length (grouped (map pack a.chains)) ≡ length (grouped (map pack b.chains))

module _ {t : RecordType} {Y : Type 0} (m : Making t Y) where
  abbrev Fits : FieldsOf t → Type 0
  Fits r = FitsRecord (record_of t r)

  -- the order of records by TLID first
  abbrev pub by_tlid : FieldsOf t → FieldsOf t → Ordering
  by_tlid r s = ordering_then (nat_cmp (m.tlid r) (m.tlid s)) (fields_cmp t r s)

  pub tlids_decide : (r s : FieldsOf t) → m.tlid r ≢ m.tlid s → by_tlid r s ≡ nat_cmp (m.tlid r) (m.tlid s)
  tlids_decide r s differ = decided (nat_cmp (m.tlid r) (m.tlid s)) (fields_cmp t r s) (λ e. differ (exact_unsigned (m.tlid r) (m.tlid s) e))

  -- records tie with themselves,
  tied : (rs : List (FieldsOf t)) → AllByRecursion Fits rs → slice_cmp by_tlid rs rs ≡ Equal
  tied [] f = refl
  tied (r ∷ rs) f = λ i. ordering_then (ordering_then (tied_itself nat_cmp_total (m.tlid r) i)
      ((sym (columns_decide t r r f.0 f.0) ∙ tied_itself nat_list_cmp_total (spelling_of (record_of t r))) i)) (tied rs f.1 i)

  -- and with no others
  pub tied_same : (rs ss : List (FieldsOf t)) → AllByRecursion Fits rs → AllByRecursion Fits ss → slice_cmp by_tlid rs ss ≡ Equal → rs ≡ ss
  tied_same [] [] f g e = refl
  tied_same [] (s ∷ ss) f g e = cc
  tied_same (r ∷ rs) [] f g e = cc
  tied_same (r ∷ rs) (s ∷ ss) f g e =
      let both = then-equal (by_tlid r s) (slice_cmp by_tlid rs ss) e in
      ap₂ (λ x xs. x ∷ xs) (tied_fields t r s f.0 g.0 (then-equal (nat_cmp (m.tlid r) (m.tlid s)) (fields_cmp t r s) both.0).1)
      (tied_same rs ss f.1 g.1 both.1)

  -- The records of a choice.
  module _ (c : ComparedChoices) where
    abbrev pub made_in : ℕ → ℕ → Chain → List (FieldsOf t)
    made_in i number chain = map (λ (e : ℕ × Y). m.make (new_in c i) number e.0 e.1) (numbered_from 1 (m.pieces chain))

    -- the records of the chain at a place, if there is one
    abbrev pub made_if : ℕ → ℕ → Option Chain → List (FieldsOf t)
    made_if i place chain = unwrap_or (option_map (made_in i (suc place)) chain) []

    abbrev pub made_at : ℕ → ℕ → List (FieldsOf t)
    made_at i place = made_if i place (slice_get (chains_at c i) place)

    abbrev pub records_in : ℕ → List (FieldsOf t)
    records_in i = grouped (map m.pack (choice c i).chains)

    -- all records are made of chains
    pub records_are : (i : ℕ) → records_in i ≡ grouped (map (λ (e : ℕ × Chain). made_in i e.0 e.1) (numbered_from 1 (chains_at c i)))
    records_are i =
        ap (λ es. grouped (map m.pack es)) (chains_numbered c i)
        ∙ ap grouped (map-map m.pack (kept_entry (new_in c i)) (numbered_from 1 (chains_at c i)))
        ∙ (λ j. grouped (map (λ (e : ℕ × Chain). m.packs (new_in c i) e.0 e.1 j) (numbered_from 1 (chains_at c i))))

    -- they are in groups by place
    pub groups_are : (i : ℕ) → records_in i ≡ groups_from (made_at i) 0 (length c.still.by_shape)
    groups_are i = records_are i
        ∙ numbered_groups (made_in i) (made_at i) (chains_at c i) 0 (λ j chain e q f.
        sym (ap (made_if i q) (ap (slice_get (chains_at c i)) (let s : q ≡ j = omega (arith, f) in s) ∙ e)))
        ∙ ap (groups_from (made_at i) 0) (length_at c i)

    -- they fit,
    fit_in : (i : ℕ) → AllByRecursion Fits (records_in i)
    fit_in i = let whole = whole_in c i in m.fit (choice c i) whole.is_county whole.within_limits

    -- also at one place
    pub fit_at : (i place : ℕ) → AllByRecursion Fits (made_at i place)
    fit_at i place = go (slice_get (chains_at c i) place) refl
      where
        go : (o : Option Chain) → slice_get (chains_at c i) place ≡ o → AllByRecursion Fits (made_at i place)
        go None e = subst (λ o. AllByRecursion Fits (made_if i place o)) (sym e) tt
        go (Some chain) e = all_there Fits (made_at i) 0 (length c.still.by_shape) (subst (AllByRecursion Fits) (groups_are i) (fit_in i))
            place (subst (λ count. place < count) (length_at c i) (none_past (chains_at c i) place chain e))
            place (omega arith)

    -- at a place their TLID is the place, counted from 1
    pub keyed : (i place : ℕ) → AllByRecursion (λ r. m.tlid r ≡ suc place) (made_at i place)
    keyed i place = go (slice_get (chains_at c i) place)
      where
        go : (o : Option Chain) → AllByRecursion (λ r. m.tlid r ≡ suc place) (made_if i place o)
        go None = tt
        go (Some chain) = all_map (λ r. m.tlid r ≡ suc place) (λ (e : ℕ × Y). m.make (new_in c i) (suc place) e.0 e.1)
            (numbered_from 1 (m.pieces chain))
            (all_everywhere (λ (e : ℕ × Y). m.tlid (m.make (new_in c i) (suc place) e.0 e.1) ≡ suc place)
            (λ e. m.has_tlid (new_in c i) (suc place) e.0 e.1) (numbered_from 1 (m.pieces chain)))

    -- a fixed place has as many in all choices
    pub lengths : (n k place : ℕ) → is_open c.still.places place ≡ false → length (made_at n place) ≡ length (made_at k place)
    lengths n k place fixed =
        go (slice_get (chains_at c n) place) ∙ ap (λ o. length (made_if k place o)) (same_at c n k place fixed)
      where
        go : (o : Option Chain) → length (made_if n place o) ≡ length (made_if k place o)
        go None = refl
        go (Some chain) = length-map (numbered_from 1 (m.pieces chain)) (λ (e : ℕ × Y). m.make (new_in c n) (suc place) e.0 e.1)
            ∙ sym (length-map (numbered_from 1 (m.pieces chain)) (λ (e : ℕ × Y). m.make (new_in c k) (suc place) e.0 e.1))

    -- two choices have as many in all
    pub as_many_in : (n k : ℕ) → length (groups_from (made_at n) 0 (length c.still.by_shape)) ≡ length (groups_from (made_at k) 0 (length c.still.by_shape))
    as_many_in n k = sym (ap length (groups_are n)) ∙ m.as_many (choice c n) (choice c k) (one_map c n k)
        ∙ ap length (groups_are k)

  -- Two choices of a county and of its small county.
  module _ {whole small : ComparedChoices} {is_in : ℕ → Bool} (part : IsKeptPart whole small is_in) (n k : ℕ) where
    -- records at kept places before this one tie
    abbrev pub AreTiedBefore : ℕ → Type 0
    AreTiedBefore place = (q : ℕ) → q < place → is_in q ≡ true → slice_cmp by_tlid (made_at whole n q) (made_at whole k q) ≡ Equal

    abbrev IsPiece : ℕ → Kept Chain Y → Type 0
    IsPiece i v = IsKept m.pieces (chains_at whole i) (places_in whole is_in) v

    abbrev pieces_kept : ℕ → List (Kept Chain Y)
    pieces_kept i = kept_pieces m.pieces (chains_at whole i) 0 (places_in whole is_in)

    -- the record of a piece in the county and in the small county
    abbrev in_whole : ℕ → Kept Chain Y → FieldsOf t
    in_whole i = at_place m.pieces (chains_at whole i) (m.make (new_in whole i))

    abbrev in_small : ℕ → Kept Chain Y → FieldsOf t
    in_small i = at_rank m.pieces (chains_at whole i) (m.make (new_in small i))

    kept_there : (i : ℕ) → AllByRecursion (IsThere (chains_at whole i)) (places_in whole is_in)
    kept_there i = all_are_there (chains_at whole i) is_in (length whole.still.by_shape)
        (sym (length_at whole i))

    pieces_are : (i : ℕ) → AllByRecursion (IsPiece i) (pieces_kept i)
    pieces_are i = all_kept m.pieces (chains_at whole i) (places_in whole is_in) 0 (places_in whole is_in)
        (λ j. ap (slice_get (places_in whole is_in)) (let s : j ≡ 0 + j = omega arith in s)) (kept_there i)

    -- the county's records at kept places are made of pieces, and so are the small county's
    whole_pieces : (i : ℕ) → those_from is_in (made_at whole i) 0 (length whole.still.by_shape) ≡ map (in_whole i) (pieces_kept i)
    whole_pieces i = sym (those_groups is_in (made_at whole i) 0 (length whole.still.by_shape))
        ∙ place_groups m.pieces (chains_at whole i) (m.make (new_in whole i)) (made_at whole i)
        (λ place chain e. ap (made_if whole i place) e) 0 (places_in whole is_in) (kept_there i)

    small_pieces : (i : ℕ) → records_in small i ≡ map (in_small i) (pieces_kept i)
    small_pieces i = records_are small i
        ∙ ap (λ cs. grouped (map (λ (e : ℕ × Chain). made_in small i e.0 e.1) (numbered_from 1 cs))) (part.chains i)
        ∙ rank_groups m.pieces (chains_at whole i) (m.make (new_in small i)) 0 (places_in whole is_in) (kept_there i)

    -- the columns of two records at kept places compare alike, the first ones one by one
    abbrev pub AreAlike : ℕ → Type 0
    AreAlike count = (v w : Kept Chain Y) → IsPiece n v → IsPiece k w → nat_cmp (suc v.place) (suc w.place) ≡ nat_cmp (suc v.rank) (suc w.rank)
        → v.place ≡ w.place → AreColumnsAlike count (table_of t) (in_whole n v) (in_whole k w) (in_small n v) (in_small k w)

    -- If they do, and a chain at each other place has the same records in both choices where all before tie,
    module _ (same_there : (place : ℕ) (chain : Chain) → is_in place ≡ false → AreTiedBefore place
        → slice_get (chains_at whole n) place ≡ Some chain → made_in whole n (suc place) chain ≡ made_in whole k (suc place) chain)
        (count : ℕ) (alike : AreAlike count) where
      same_records : (place : ℕ) → is_in place ≡ false → AreTiedBefore place → made_at whole n place ≡ made_at whole k place
      same_records place out before = go (slice_get (chains_at whole n) place) refl
          ∙ ap (made_if whole k place) (same_at whole n k place (part.fixed place out))
        where
          go : (o : Option Chain) → slice_get (chains_at whole n) place ≡ o → made_if whole n place o ≡ made_if whole k place o
          go None e = refl
          go (Some chain) e = same_there place chain out before e

      pieces_decide : slice_cmp by_tlid (records_in whole n) (records_in whole k)
          ≡ slice_cmp by_tlid (map (in_whole n) (pieces_kept n)) (map (in_whole k) (pieces_kept k))
      pieces_decide =
          ap₂ (slice_cmp by_tlid) (groups_are whole n) (groups_are whole k)
          ∙ those_decide by_tlid m.tlid (suc (length whole.still.by_shape)) (λ r s f g. tlids_decide r s) is_in (made_at whole n) (made_at whole k)
          (keyed whole n) (keyed whole k)
          (λ place out before. subst (λ rs. slice_cmp by_tlid (made_at whole n place) rs ≡ Equal) (same_records place out before)
          (tied (made_at whole n place) (fit_at whole n place)))
          (λ place out. lengths whole n k place (part.fixed place out)) (length whole.still.by_shape) (omega arith) (as_many_in whole n k)
          ∙ ap₂ (slice_cmp by_tlid) (whole_pieces n) (whole_pieces k)

      -- then two pieces compare alike,
      pair_alike : (v w : Kept Chain Y) → IsPiece n v → IsPiece k w → by_tlid (in_whole n v) (in_whole k w) ≡ by_tlid (in_small n v) (in_small k w)
      pair_alike v w p q =
          let order = kept_order is_in (length whole.still.by_shape) v.rank w.rank v.place w.place p.ranked q.ranked in
          let tlid = m.has_tlid (new_in whole n) (suc v.place) v.number v.piece in
          let tlid_too = m.has_tlid (new_in whole k) (suc w.place) w.number w.piece in
          then_same (nat_cmp (m.tlid (in_whole n v)) (m.tlid (in_whole k w))) (fields_cmp t (in_whole n v) (in_whole k w))
          (fields_cmp t (in_small n v) (in_small k w))
          (λ tie. columns_alike count (table_of t) (in_whole n v) (in_whole k w) (in_small n v) (in_small k w)
          (alike v w p q order (let same : suc v.place ≡ suc w.place =
          sym tlid ∙ exact_unsigned (m.tlid (in_whole n v)) (m.tlid (in_whole k w)) tie ∙ tlid_too in omega (arith, same))))
          ∙ ap (λ o. ordering_then o (fields_cmp t (in_small n v) (in_small k w))) (ap₂ nat_cmp tlid tlid_too ∙ order
          ∙ sym (ap₂ nat_cmp (m.has_tlid (new_in small n) (suc v.rank) v.number v.piece) (m.has_tlid (new_in small k) (suc w.rank) w.number w.piece)))

      -- and so do all records, if the columns order records by TLID first.
      pub records_small : ((c : ComparedChoices)
          → slice_cmp (fields_cmp t) (records_in c n) (records_in c k) ≡ slice_cmp by_tlid (records_in c n) (records_in c k))
          → groups_cmp (record_of t) (map m.pack (choice whole n).chains) (map m.pack (choice whole k).chains)
          ≡ groups_cmp (record_of t) (map m.pack (choice small n).chains) (map m.pack (choice small k).chains)
      records_small tlids_first =
          choices_decide t (λ county. map m.pack county.chains) m.fit whole n k ∙ tlids_first whole
          ∙ pieces_decide
          ∙ lists_alike by_tlid (in_whole n) (in_small n) (in_whole k) (in_small k) (IsPiece n) (IsPiece k) pair_alike (pieces_kept n) (pieces_kept k)
          (pieces_are n) (pieces_are k)
          ∙ sym (choices_decide t (λ county. map m.pack county.chains) m.fit small n k ∙ tlids_first small
          ∙ ap₂ (slice_cmp by_tlid) (small_pieces n) (small_pieces k))

-- a TLID in the first column decides before the other columns anyway
pub first_twice : (o p : Ordering) → ordering_then o p ≡ ordering_then o (ordering_then o p)
first_twice Less p = refl
first_twice Equal p = refl
first_twice Greater p = refl

pub tlid_first : {t : RecordType} {Y : Type 0} (m : Making t Y) → ((r s : FieldsOf t) → fields_cmp t r s ≡ by_tlid m r s) → (n k : ℕ) (c : ComparedChoices)
    → slice_cmp (fields_cmp t) (records_in m c n) (records_in m c k) ≡ slice_cmp (by_tlid m) (records_in m c n) (records_in m c k)
tlid_first m same n k c = λ i. slice_cmp (λ r s. same r s i) (records_in m c n) (records_in m c k)

-- images of two lists that compare alike in pairs compare alike
pub images_in_order : {V X : Type 0} (cmp : X → X → Ordering) (f h g k : V → X) (xs ys : List V)
    → ((x y : V) → Among x xs → Among y ys → cmp (f x) (g y) ≡ cmp (h x) (k y))
    → slice_cmp cmp (map f xs) (map g ys) ≡ slice_cmp cmp (map h xs) (map k ys)
images_in_order cmp f h g k xs ys alike =
    lists_alike cmp f h g k (λ x. Among x xs) (λ y. Among y ys) alike xs ys (all_themselves xs) (all_themselves ys)

-- ---- types 1 and 6

-- records of a county within its limits fit
three_fit : (xs ys zs : List Record) → AllByRecursion FitsRecord (xs ++ (ys ++ zs))
    → AllByRecursion FitsRecord xs × (AllByRecursion FitsRecord ys × AllByRecursion FitsRecord zs)
three_fit xs ys zs all =
    let later = all_right FitsRecord xs (ys ++ zs) all in
    (all_left FitsRecord xs (ys ++ zs) all, (all_left FitsRecord ys zs later, all_right FitsRecord ys zs later))

module _ (county : County) (is : IsCounty county) (within : IsWithinLimits most_records county) where
  all_fit : AllByRecursion FitsRecord (types_1_to_4 county)
      × (AllByRecursion FitsRecord (types_5_to_7 county) × AllByRecursion FitsRecord (types_8_to_p county))
  all_fit = three_fit (types_1_to_4 county) (types_5_to_7 county) (types_8_to_p county)
      (subst (AllByRecursion FitsRecord) (sym (all_groups county)) (packed-fits county is.whole within.contents within.numbers within.lists))

  ones_fit : AllByRecursion (λ r. FitsRecord (One r)) (grouped (type_1_by_chain county))
  ones_fit = all_unmap FitsRecord One (grouped (type_1_by_chain county)) (three_fit (map One (grouped (type_1_by_chain county)))
      (map Two (grouped (type_2_by_chain county))) (map Four (grouped (type_4_by_chain county))) all_fit.0).0

  sixes_fit : AllByRecursion (λ r. FitsRecord (Six r)) (grouped (type_6_by_chain county))
  sixes_fit = all_unmap FitsRecord Six (grouped (type_6_by_chain county)) (three_fit (map Five (grouped (type_5_by_name county)))
      (map Six (grouped (type_6_by_chain county))) (map Seven (grouped (type_7_by_landmark county))) all_fit.1.0).1.0

  pub eights_fit : AllByRecursion (λ r. FitsRecord (Eight r)) (grouped (type_8_together county))
  eights_fit = all_unmap FitsRecord Eight (grouped (type_8_together county)) (three_fit (map Eight (grouped (type_8_together county)))
      (map I (grouped (type_i_by_chain county))) (map P (grouped (type_p_by_number county))) all_fit.1.1).0

abbrev ones : Making Type1 Chain
ones = record {
  pieces = λ c. c ∷ [];
  make = λ r n number c. packed_one (n, c);
  pack = λ entry. packed_one entry ∷ [];
  packs = λ r n c. refl;
  tlid = λ r. r.tlid;
  has_tlid = λ r n number c. refl;
  fit = ones_fit;
  as_many = λ a b same. ap length (grouped_lone packed_one a.chains) ∙ (carried_many same.by a b same.carries).of_type_1
      ∙ sym (ap length (grouped_lone packed_one b.chains));
}

abbrev sixes : Making Type6 Ranges
sixes = record {
  pieces = λ c. c.ranges;
  make = λ r n number ranges. record { tlid = n; rtsq = number; ranges = ranges };
  pack = packed_sixes;
  packs = λ r n c. refl;
  tlid = λ r. r.tlid;
  has_tlid = λ r n number ranges. refl;
  fit = sixes_fit;
  as_many = λ a b same. ap length (grouped_map packed_sixes a.chains) ∙ (carried_many same.by a b same.carries).of_type_6
      ∙ sym (ap length (grouped_map packed_sixes b.chains));
}

module _ {whole small : ComparedChoices} {is_in : ℕ → Bool} (part : IsKeptPart whole small is_in) (n k : ℕ) where
  -- The records of type 1 of two choices compare alike in both counties,
  pub ones_small : groups_cmp One (type_1_by_chain (choice whole n)) (type_1_by_chain (choice whole k))
      ≡ groups_cmp One (type_1_by_chain (choice small n)) (type_1_by_chain (choice small k))
  ones_small = records_small ones part n k (λ place chain out before e. refl) 1 (λ v w p q order same. (order, λ tie. refl))
      (tlid_first ones (λ r s. first_twice (nat_cmp r.tlid s.tlid) (rows_cmp (drop 1 table_1) r s)) n k)

  -- and so do the records of type 6.
  pub sixes_small : groups_cmp Six (type_6_by_chain (choice whole n)) (type_6_by_chain (choice whole k))
      ≡ groups_cmp Six (type_6_by_chain (choice small n)) (type_6_by_chain (choice small k))
  sixes_small = records_small sixes part n k (λ place chain out before e. refl) 1 (λ v w p q order same. (order, λ tie. refl))
      (tlid_first sixes (λ r s. first_twice (nat_cmp r.tlid s.tlid) (rows_cmp (drop 1 table_6) r s)) n k)
