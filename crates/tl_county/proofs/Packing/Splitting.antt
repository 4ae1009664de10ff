-- Cutting a record of type 2 or 4 into two, or leaving out an empty one, changes neither whether a list is linked nor its county.
use Rattle.tl_county.proofs.Common.{AllByRecursion, Bool, Fields2, Fields4, Four, IsLinked, IsPermutation, IsPermutation-sym, LinkFault, List, NameUnknown, NoChain, Ordering, Record, SequenceBroken, Two, [], all-in_order, ap, append_assoc, arith, chain_tlids, common_steps, cond, contains, county_of, eqb-true, false, false≢true, flat_map, four_rtsq, four_tlid, greater, has_repeat, in_order, inl, inr, is_eq, is_gt, is_rule_broken, less, lt-ltb, map, nat_cmp, nat_keys, not, of_number, of_type_2, of_type_4, of_type_5, on, put_in_order, refl, rules, subst, sym, times-no, true, two_rtsq, two_tlid, ℕ, ◌&&◌, ◌++◌, ◌<◌, ◌==◌, ◌∙◌, ◌∷◌, ◌≡◌, ◌⊎◌}
use Rattle.tl_county.proofs.Packing.Repacking.{AreRepacked, repacked-county}
use Rattle.tl_county.proofs.Sameness.SameCounty.{reordered-county, reordered-linked}
use Rattle.tl_county.specs.Repacked.{AreCut, IsCut, IsEmpty, IsSplit, LeavesEmptyOut}
use Rattle.county_chart.specs.declared.fault.LinkedType.TheVariants.{Four as Type4, Two as Type2}
use Rattle.county_chart.specs.declared.fault.SequencedType.TheVariants as sequenced_types

module _ {X : Type 0} (by : X → X → Ordering) (x y : X) (ys : List X) where
  put-after : is_gt (by x y) ≡ true → put_in_order by x (y ∷ ys) ≡ y ∷ put_in_order by x ys
  put-after e = ap (λ b. cond b (y ∷ put_in_order by x ys) (x ∷ y ∷ ys)) e

  put-before : is_gt (by x y) ≡ false → put_in_order by x (y ∷ ys) ≡ x ∷ y ∷ ys
  put-before e = ap (λ b. cond b (y ∷ put_in_order by x ys) (x ∷ y ∷ ys)) e

rises : (m n : ℕ) → m < n → is_gt (nat_cmp m n) ≡ false
rises m n h = ap is_gt (less m n h)

falls : (m n : ℕ) → n < m → is_gt (nat_cmp m n) ≡ true
falls m n h = ap is_gt (greater m n h)

-- a key that is in the list twice is in the list
contains-twice : (n k : ℕ) (ks : List ℕ) → contains nat_cmp n (k ∷ ks) ≡ contains nat_cmp n (k ∷ k ∷ ks)
contains-twice n k ks = search (rules, lt-ltb)

module _ {X Y : Type 0} (tlid rtsq : X → ℕ) (held : X → List Y) where
  abbrev pub by_rtsq : X → X → Ordering
  by_rtsq = on rtsq nat_cmp

  -- the contents, in the order of the RTSQs
  abbrev pub sequenced : List X → List Y
  sequenced xs = flat_map held (in_order by_rtsq xs)

  module _ (others : List X) (whole first second : X) (cut : IsCut tlid rtsq held others whole first second) where
    abbrev pub IsFree : X → Type 0
    IsFree other = (rtsq other < rtsq first) ⊎ (rtsq second < rtsq other)

    joined_with : (ys : List Y) → held whole ++ ys ≡ held first ++ (held second ++ ys)
    joined_with ys = ap (λ h. h ++ ys) cut.joined ∙ append_assoc (held first) (held second) ys

    put-cut : (xs : List X) → AllByRecursion IsFree xs
        → flat_map held (put_in_order by_rtsq whole xs) ≡ flat_map held (put_in_order by_rtsq first (put_in_order by_rtsq second xs))
    put-cut [] free = search (rules, joined_with, put-before, rises)
    put-cut (x ∷ xs) free = search (rules, put-after, falls, put-before, rises, joined_with, put-cut xs free.1)

    -- the records of a chain, by whether the record that is cut is one of them
    of_chain : (n : ℕ) → (C : List X → List X → Type 0)
        → ((tlid whole ≡ n) → C (whole ∷ of_number tlid n others) (first ∷ second ∷ of_number tlid n others))
        → C (of_number tlid n others) (of_number tlid n others)
        → C (of_number tlid n (whole ∷ others)) (of_number tlid n (first ∷ second ∷ others))
    of_chain n C here away =
        subst (λ b. C (of_number tlid n (whole ∷ others)) (cond b (first ∷ rest) rest)) (sym (ap (λ m. m == n) cut.first_chain))
        (subst (λ b. C (of_number tlid n (whole ∷ others)) (cond (tlid whole == n) (first ∷ cond b (second ∷ S) S) (cond b (second ∷ S) S)))
        (sym (ap (λ m. m == n) cut.second_chain)) (go (tlid whole == n) refl))
      where
        S : List X
        S = of_number tlid n others

        rest : List X
        rest = cond (tlid second == n) (second ∷ S) S

        go : (b : Bool) → (tlid whole == n) ≡ b → C (cond b (whole ∷ S) S) (cond b (first ∷ cond b (second ∷ S) S) (cond b (second ∷ S) S))
        go true e = here (eqb-true (tlid whole) n e)
        go false e = away

    free_of : (n : ℕ) → tlid whole ≡ n → AllByRecursion IsFree (of_number tlid n others)
    free_of n e = subst (λ m. AllByRecursion IsFree (of_number tlid m others)) e cut.free

    pub sequenced-cut : (n : ℕ) → sequenced (of_number tlid n (whole ∷ others)) ≡ sequenced (of_number tlid n (first ∷ second ∷ others))
    sequenced-cut n = search (rules, put-cut, all-in_order, free_of)

    pub held-cut : (n : ℕ) → flat_map held (of_number tlid n (whole ∷ others)) ≡ flat_map held (of_number tlid n (first ∷ second ∷ others))
    held-cut n = of_chain n (λ xs ys. flat_map held xs ≡ flat_map held ys) (λ e. joined_with (flat_map held (of_number tlid n others))) refl

    pub known-cut : (n : ℕ) → contains nat_cmp n (map tlid (whole ∷ others)) ≡ contains nat_cmp n (map tlid (first ∷ second ∷ others))
    known-cut n = search (rules, contains-twice)

    differs : (m n : ℕ) → (m < n) ⊎ (n < m) → is_eq (nat_cmp m n) ≡ false
    differs m n (inl h) = ap is_eq (less m n h)
    differs m n (inr h) = ap is_eq (greater m n h)

    absent : (xs : List X) → AllByRecursion IsFree xs → contains nat_cmp (rtsq second) (map rtsq xs) ≡ false
    absent [] free = refl
    absent (x ∷ xs) free = search (rules, times-no, nat_keys, differs, absent xs free.1)

    pub repeat-cut : (n : ℕ) → has_repeat nat_cmp (map rtsq (of_number tlid n (whole ∷ others))) ≡ has_repeat nat_cmp
        (map rtsq (of_number tlid n (first ∷ second ∷ others)))
    repeat-cut n = of_chain n (λ xs ys. has_repeat nat_cmp (map rtsq xs) ≡ has_repeat nat_cmp (map rtsq ys))
        (λ e. here (of_number tlid n others) (free_of n e)) refl
      where
        here : (xs : List X) → AllByRecursion IsFree xs
            → has_repeat nat_cmp (map rtsq (whole ∷ xs)) ≡ has_repeat nat_cmp (map rtsq (first ∷ second ∷ xs))
        here xs free = search (rules, times-no, nat_keys, differs, absent)

  -- a record that holds nothing
  module _ (empty : X) (is_empty : held empty ≡ []) where
    put-empty : (xs : List X) → flat_map held (put_in_order by_rtsq empty xs) ≡ flat_map held xs
    put-empty [] = ap (λ h. h ++ []) is_empty
    put-empty (x ∷ xs) = search (rules, put-empty xs)

    pub sequenced-empty : (n : ℕ) (others : List X) → sequenced (of_number tlid n (empty ∷ others)) ≡ sequenced (of_number tlid n others)
    sequenced-empty n others = search (rules, put-empty)

    pub held-empty : (n : ℕ) (others : List X) → flat_map held (of_number tlid n (empty ∷ others)) ≡ flat_map held (of_number tlid n others)
    held-empty n others = search rules

  -- leaving out a record: there are fewer numbers, so fewer are unknown or occur twice
  module _ (empty : X) where
    pub unknown-empty : (n : ℕ) (others : List X) (known : Bool)
        → (contains nat_cmp n (map tlid (empty ∷ others)) && not known) ≡ false
        → (contains nat_cmp n (map tlid others) && not known) ≡ false
    unknown-empty n others known = search (rules, lt-ltb)

    pub repeat-empty : (n : ℕ) (others : List X) → has_repeat nat_cmp (map rtsq (of_number tlid n (empty ∷ others))) ≡ false
        → has_repeat nat_cmp (map rtsq (of_number tlid n others)) ≡ false
    repeat-empty n others = search (rules, false≢true)

-- a record of type 2 cut into two, at the head of a list
module _ (others : List Record) (whole first second : Fields2)
    (cut : IsCut two_tlid two_rtsq (λ (r : Fields2). r.points) (of_type_2 others) whole first second) where
  two-broken : (f : LinkFault) → is_rule_broken (Two whole ∷ others) f ≡ is_rule_broken (Two first ∷ Two second ∷ others) f
  two-broken (NoChain Type2 n) = search (rules, known-cut)
  two-broken (SequenceBroken sequenced_types.Two n) = search (rules, repeat-cut)
  two-broken fault = refl

  two-repacked : AreRepacked (Two whole ∷ others) (Two first ∷ Two second ∷ others)
  two-repacked = search (rules, common_steps, sequenced-cut)

-- a record of type 4 cut into two, at the head of a list
module _ (others : List Record) (whole first second : Fields4)
    (cut : IsCut four_tlid four_rtsq (λ (r : Fields4). r.feats) (of_type_4 others) whole first second) where
  four-broken : (f : LinkFault) → is_rule_broken (Four whole ∷ others) f ≡ is_rule_broken (Four first ∷ Four second ∷ others) f
  four-broken (NoChain Type4 n) = search (rules, known-cut)
  four-broken (SequenceBroken sequenced_types.Four n) = search (rules, repeat-cut)
  four-broken (NameUnknown n y) = grind (arith, common_steps, held-cut)
  four-broken fault = refl

  four-repacked : AreRepacked (Four whole ∷ others) (Four first ∷ Four second ∷ others)
  four-repacked = search (rules, common_steps, sequenced-cut)

-- the head of a list cut into two
record IsAlike (xs ys : List Record) : Type 0 where
  broken : (f : LinkFault) → is_rule_broken xs f ≡ is_rule_broken ys f
  county : county_of xs ≡ county_of ys

alike : (others : List Record) (whole first second : Record) → AreCut others whole first second
    → IsAlike (whole ∷ others) (first ∷ second ∷ others)
alike others (Two whole) first second h =
    subst (λ r. IsAlike (Two whole ∷ others) (r ∷ second ∷ others)) (sym h.2)
    (subst (λ r. IsAlike (Two whole ∷ others) (Two h.0 ∷ r ∷ others)) (sym h.3) (record {
      broken = two-broken others whole h.0 h.1 h.4;
      county = repacked-county (Two whole ∷ others) (Two h.0 ∷ Two h.1 ∷ others) (two-repacked others whole h.0 h.1 h.4);
    }))
alike others (Four whole) first second h =
    subst (λ r. IsAlike (Four whole ∷ others) (r ∷ second ∷ others)) (sym h.2)
    (subst (λ r. IsAlike (Four whole ∷ others) (Four h.0 ∷ r ∷ others)) (sym h.3) (record {
      broken = four-broken others whole h.0 h.1 h.4;
      county = repacked-county (Four whole ∷ others) (Four h.0 ∷ Four h.1 ∷ others) (four-repacked others whole h.0 h.1 h.4);
    }))
alike others _ first second h = absurd h

-- from any order of one list to any order of another
in_any_order : (records others xs ys : List Record) → IsPermutation xs records → IsPermutation ys others
    → (IsLinked xs → IsLinked ys) → county_of xs ≡ county_of ys → IsLinked records
    → IsLinked others × (county_of others ≡ county_of records)
in_any_order records others xs ys p q linked same h =
    let from : IsPermutation records xs = IsPermutation-sym xs records p in
    let there : IsLinked ys = linked (reordered-linked records xs from h) in
    (reordered-linked ys others q there, reordered-county ys others q there ∙ sym same ∙ reordered-county records xs from h)

pub split-county : (records split : List Record) → IsSplit records split → IsLinked records
    → IsLinked split × (county_of split ≡ county_of records)
split-county records split s =
    let a : IsAlike (s.whole ∷ s.others) (s.first ∷ s.second ∷ s.others) = alike s.others s.whole s.first s.second s.cut in
    in_any_order records split (s.whole ∷ s.others) (s.first ∷ s.second ∷ s.others) s.before s.after
    (λ linked f. sym (a.broken f) ∙ linked f) a.county

pub joined-county : (records split : List Record) → IsSplit records split → IsLinked split
    → IsLinked records × (county_of records ≡ county_of split)
joined-county records split s =
    let a : IsAlike (s.whole ∷ s.others) (s.first ∷ s.second ∷ s.others) = alike s.others s.whole s.first s.second s.cut in
    in_any_order split records (s.first ∷ s.second ∷ s.others) (s.whole ∷ s.others) s.after s.before
    (λ linked f. a.broken f ∙ linked f) (sym a.county)

-- the head of a list left out
two-left_out : (others : List Record) (empty : Fields2) → IsLinked (Two empty ∷ others) → IsLinked others
two-left_out others empty linked (NoChain Type2 n) =
    unknown-empty two_tlid two_rtsq (λ (r : Fields2). r.points) empty n (of_type_2 others) (contains nat_cmp n (chain_tlids others))
    (linked (NoChain Type2 n))
two-left_out others empty linked (SequenceBroken sequenced_types.Two n) =
    repeat-empty two_tlid two_rtsq (λ (r : Fields2). r.points) empty n (of_type_2 others) (linked (SequenceBroken sequenced_types.Two n))
two-left_out others empty linked fault = linked fault

four-left_out : (others : List Record) (empty : Fields4) → empty.feats ≡ [] → IsLinked (Four empty ∷ others) → IsLinked others
four-left_out others empty none linked (NoChain Type4 n) =
    unknown-empty four_tlid four_rtsq (λ (r : Fields4). r.feats) empty n (of_type_4 others) (contains nat_cmp n (chain_tlids others))
    (linked (NoChain Type4 n))
four-left_out others empty none linked (SequenceBroken sequenced_types.Four n) =
    repeat-empty four_tlid four_rtsq (λ (r : Fields4). r.feats) empty n (of_type_4 others) (linked (SequenceBroken sequenced_types.Four n))
four-left_out others empty none linked (NameUnknown n y) =
    ap (λ feats. contains nat_cmp y feats && not (contains nat_cmp y (map (λ r. r.feat) (of_type_5 others))))
    (sym (held-empty four_tlid four_rtsq (λ (r : Fields4). r.feats) empty none n (of_type_4 others)))
    ∙ linked (NameUnknown n y)
four-left_out others empty none linked fault = linked fault

left_out : (others : List Record) (empty : Record) → IsEmpty empty
    → (IsLinked (empty ∷ others) → IsLinked others) × (county_of (empty ∷ others) ≡ county_of others)
left_out others (Two empty) none = search (rules, two-left_out, repacked-county, sequenced-empty)
left_out others (Four empty) none = search (rules, four-left_out, repacked-county, sequenced-empty)
left_out others _ none = absurd none

pub left_out-county : (records others : List Record) → LeavesEmptyOut records others → IsLinked records
    → IsLinked others × (county_of others ≡ county_of records)
left_out-county records others s linked =
    let from : IsPermutation records (s.empty ∷ others) = IsPermutation-sym (s.empty ∷ others) records s.before in
    let out = left_out others s.empty s.is_empty in (
      out.0 (reordered-linked records (s.empty ∷ others) from linked),
      sym out.1 ∙ reordered-county records (s.empty ∷ others) from linked,
    )
