-- The rules in turn: what each search finds about its rule, and how stretches of rules are joined.
use Rattle.tl_county.proofs.Common.{Among, Bool, ChainTwice, Equal, Greater, I, IsFirstBrokenRule, IsFirstFrom, IsLeastPassing, IsLinked, LandUnknown, Less, LinkFault, LinkMissing, LinkTwice, List, Memory, NameTwice, NameUnknown, NoChain, None, Ordering, PolygonTwice, PolygonUnknown, Record, RulesHold, SequenceBroken, Some, [], and_parts, any_among, ap, arith, cond, eqb-true, false, false≢true, inl, inr, is_gt, is_rule_broken, link_fault_place, list_all, list_any, lt-ltb, ltb-false, ltb-true, nat_cmp, nat_lt, not, number, ordering_then, part, place_cmp, refl, rule_place, rules, slice_cmp, suc, sym, true, ℕ, ◌++◌, ◌<◌, ◌==◌, ◌||◌, ◌∙◌, ◌∷◌, ◌≡◌, ◌≤◌}
use Rattle.county_chart.specs.declared.fault.LinkedType.TheVariants.{Four, Six, Two}
use Rattle.county_chart.specs.declared.fault.SequencedType.TheVariants as sequenced

-- a fault's place begins with the place of its rule and ends with its key
abbrev head_of_rule : ℕ → List (List ℕ)
head_of_rule n =
    cond (n == 0) ((11 ∷ []) ∷ [])
    (cond (n == 1) ((12 ∷ []) ∷ (2 ∷ []) ∷ [])
    (cond (n == 2) ((12 ∷ []) ∷ (4 ∷ []) ∷ [])
    (cond (n == 3) ((12 ∷ []) ∷ (6 ∷ []) ∷ [])
    (cond (n == 4) ((12 ∷ []) ∷ (7 ∷ []) ∷ [])
    (cond (n == 5) ((13 ∷ []) ∷ (2 ∷ []) ∷ [])
    (cond (n == 6) ((13 ∷ []) ∷ (4 ∷ []) ∷ [])
    (cond (n == 7) ((13 ∷ []) ∷ (6 ∷ []) ∷ [])
    (cond (n == 8) ((14 ∷ []) ∷ [])
    (cond (n == 9) ((15 ∷ []) ∷ [])
    (cond (n == 10) ((16 ∷ []) ∷ [])
    (cond (n == 11) ((17 ∷ []) ∷ [])
    (cond (n == 12) ((18 ∷ []) ∷ [])
    (cond (n == 13) ((19 ∷ []) ∷ [])
    (cond (n == 14) ((20 ∷ []) ∷ []) ((9 ∷ []) ∷ [])))))))))))))))

abbrev pub key_place : LinkFault → List (List ℕ)
key_place (ChainTwice tlid) = (tlid ∷ []) ∷ []
key_place (NoChain rtype tlid) = (tlid ∷ []) ∷ []
key_place (SequenceBroken rtype tlid) = (tlid ∷ []) ∷ []
key_place (LinkMissing tlid) = (tlid ∷ []) ∷ []
key_place (LinkTwice tlid) = (tlid ∷ []) ∷ []
key_place (NameTwice feat) = (feat ∷ []) ∷ []
key_place (NameUnknown tlid feat) = (tlid ∷ []) ∷ (feat ∷ []) ∷ []
key_place (PolygonTwice cenid polyid) = cenid ∷ (polyid ∷ []) ∷ []
key_place (LandUnknown land) = (land ∷ []) ∷ []
key_place (PolygonUnknown cenid polyid) = cenid ∷ (polyid ∷ []) ∷ []
key_place Memory = []

place-split : (f : LinkFault) → link_fault_place f ≡ head_of_rule (rule_place f) ++ key_place f
place-split (NoChain Two tlid) = refl
place-split (SequenceBroken sequenced.Two tlid) = refl
place-split fault = refl

-- the fault of a rule at a key
abbrev pub fault_of_rule : ℕ → List (List ℕ) → LinkFault
fault_of_rule n p =
    cond (n == 0) (ChainTwice (number p 0))
    (cond (n == 1) (NoChain Two (number p 0))
    (cond (n == 2) (NoChain Four (number p 0))
    (cond (n == 3) (NoChain Six (number p 0))
    (cond (n == 4) (NoChain I (number p 0))
    (cond (n == 5) (SequenceBroken sequenced.Two (number p 0))
    (cond (n == 6) (SequenceBroken sequenced.Four (number p 0))
    (cond (n == 7) (SequenceBroken sequenced.Six (number p 0))
    (cond (n == 8) (LinkMissing (number p 0))
    (cond (n == 9) (LinkTwice (number p 0))
    (cond (n == 10) (NameTwice (number p 0))
    (cond (n == 11) (NameUnknown (number p 0) (number p 1))
    (cond (n == 12) (PolygonTwice (part p 0) (number p 1))
    (cond (n == 13) (LandUnknown (number p 0))
    (cond (n == 14) (PolygonUnknown (part p 0) (number p 1)) Memory))))))))))))))

pub fault_of_rule-itself : (f : LinkFault) → fault_of_rule (rule_place f) (key_place f) ≡ f
fault_of_rule-itself (NoChain Two tlid) = refl
fault_of_rule-itself (SequenceBroken sequenced.Two tlid) = refl
fault_of_rule-itself fault = refl

-- the places of the rules
abbrev places : List ℕ
places = 0 ∷ 1 ∷ 2 ∷ 3 ∷ 4 ∷ 5 ∷ 6 ∷ 7 ∷ 8 ∷ 9 ∷ 10 ∷ 11 ∷ 12 ∷ 13 ∷ 14 ∷ []

-- a broken rule has one of these places
has_place : (records : List Record) (f : LinkFault) → is_rule_broken records f ≡ true → list_any (λ n. n == rule_place f) places ≡ true
has_place records (NoChain Two tlid) b = refl
has_place records (SequenceBroken sequenced.Two tlid) b = refl
has_place records Memory b = absurd (false≢true b)
has_place records fault b = refl

place_among : (records : List Record) (f : LinkFault) → is_rule_broken records f ≡ true → Among (rule_place f) places
place_among records f b = search (rules, any_among, has_place, eqb-true)

-- whether the first list comes before the second at the first place where they differ, before either ends
abbrev differs_at : Ordering → Bool → Bool
differs_at Less rest = true
differs_at Equal rest = rest
differs_at Greater rest = false

abbrev comes_before : List (List ℕ) → List (List ℕ) → Bool
comes_before [] qs = false
comes_before (a ∷ ps) [] = false
comes_before (a ∷ ps) (b ∷ qs) = differs_at (slice_cmp nat_cmp a b) (comes_before ps qs)

before-less : (ps qs xs ys : List (List ℕ)) → comes_before ps qs ≡ true → place_cmp (ps ++ xs) (qs ++ ys) ≡ Less
before-less [] qs xs ys e = absurd (false≢true e)
before-less (a ∷ ps) [] xs ys e = absurd (false≢true e)
before-less (a ∷ ps) (b ∷ qs) xs ys e = go (slice_cmp nat_cmp a b) e (before-less ps qs xs ys)
  where
    go : (o : Ordering) → differs_at o (comes_before ps qs) ≡ true → (comes_before ps qs ≡ true → place_cmp (ps ++ xs) (qs ++ ys) ≡ Less)
        → ordering_then o (place_cmp (ps ++ xs) (qs ++ ys)) ≡ Less
    go Less f ih = refl
    go Equal f ih = ih f
    go Greater f ih = absurd (false≢true f)

-- the rules are in the order of their places
rules_ascend : list_all (λ m. list_all (λ n. not (nat_lt m n) || comes_before (head_of_rule m) (head_of_rule n)) places) places ≡ true
rules_ascend = refl

all_of : {X : Type 0} (p : X → Bool) (xs : List X) → list_all p xs ≡ true → (x : X) → Among x xs → p x ≡ true
all_of p [] e x m = absurd m
all_of p (y ∷ xs) e x (inl f) = ap p f ∙ (and_parts (p y) (list_all p xs) e).0
all_of p (y ∷ xs) e x (inr m) = all_of p xs (and_parts (p y) (list_all p xs) e).1 x m

-- a fault of an earlier rule has the lesser place
earlier_rule : (records : List Record) (f g : LinkFault) → is_rule_broken records f ≡ true → is_rule_broken records g ≡ true
    → rule_place f < rule_place g → is_gt (place_cmp (link_fault_place f) (link_fault_place g)) ≡ false
earlier_rule records f g b d lt = search (rules, all_of, rules_ascend, place_among, before-less, lt-ltb, place-split, false≢true)

-- A rule as its search finds it: its faults have keys, it is broken at a key that passes the test, and lesser keys have lesser
-- places.
pub record IsRule {K : Type 0} (cmp : K → K → Ordering) (test : K → Bool) (records : List Record) (n : ℕ) (at : K
    → LinkFault) : Type 0 where
  pub broken : (k : K) → is_rule_broken records (at k) ≡ test k
  pub place : (k : K) → rule_place (at k) ≡ n
  pub key : List (List ℕ) → K
  pub only : (p : List (List ℕ)) → fault_of_rule n p ≡ at (key p)
  pub order : (k j : K) → is_gt (cmp k j) ≡ false → is_gt (place_cmp (link_fault_place (at k)) (link_fault_place (at j))) ≡ false

module _ {K : Type 0} {cmp : K → K → Ordering} {test : K → Bool} {records : List Record} {n : ℕ} {at : K → LinkFault}
    (rule : IsRule cmp test records n at) where
  fault_at_key : (f : LinkFault) → rule_place f ≡ n → f ≡ at (rule.key (key_place f))
  fault_at_key f e = sym (fault_of_rule-itself f) ∙ ap (λ m. fault_of_rule m (key_place f)) e ∙ rule.only (key_place f)

  pub rule-holds : IsLeastPassing cmp test None → RulesHold records n (suc n)
  rule-holds none f low high =
      let e : rule_place f ≡ n = omega (arith, low, high) in
      ap (is_rule_broken records) (fault_at_key f e) ∙ rule.broken (rule.key (key_place f)) ∙ none (rule.key (key_place f))

  pub rule-broken : (k : K) → IsLeastPassing cmp test (Some k) → IsFirstFrom records n (at k)
  rule-broken k h = record { from = omega (arith, rule.place k); broken = rule.broken k ∙ h.0; least = least }
    where
      least : (g : LinkFault) → n ≤ rule_place g → is_rule_broken records g ≡ true
          → is_gt (place_cmp (link_fault_place (at k)) (link_fault_place g)) ≡ false
      least g low b = go (nat_lt n (rule_place g)) refl
        where
          go : (t : Bool) → nat_lt n (rule_place g) ≡ t → is_gt (place_cmp (link_fault_place (at k)) (link_fault_place g)) ≡ false
          go true e = earlier_rule records (at k) g (rule.broken k ∙ h.0) b (let lt : n < rule_place g = ltb-true n (rule_place g) e in
              omega (arith, rule.place k))
          go false e =
              let le : rule_place g ≤ n = ltb-false n (rule_place g) e in
              let same : g ≡ at (rule.key (key_place g)) = fault_at_key g (omega (arith, low)) in
              ap (λ f. is_gt (place_cmp (link_fault_place (at k)) (link_fault_place f))) same
              ∙ rule.order k (rule.key (key_place g))
              (h.1 (rule.key (key_place g)) (sym (rule.broken (rule.key (key_place g))) ∙ ap (is_rule_broken records) (sym same) ∙ b))

pub rules-join : (records : List Record) {low mid high : ℕ} → RulesHold records low mid → RulesHold records mid high
    → RulesHold records low high
rules-join records {low} {mid} {high} h k f from to = go (nat_lt (rule_place f) mid) refl
  where
    go : (t : Bool) → nat_lt (rule_place f) mid ≡ t → is_rule_broken records f ≡ false
    go true e = h f from (ltb-true (rule_place f) mid e)
    go false e = k f (ltb-false (rule_place f) mid e) to

pub first-after : (records : List Record) {low mid : ℕ} {f : LinkFault} → low ≤ mid → RulesHold records low mid → IsFirstFrom records mid f
    → IsFirstFrom records low f
first-after records {low} {mid} {f} le h k =
    record { from = (let m : mid ≤ rule_place f = k.from in omega (arith, le)); broken = k.broken; least = least }
  where
    least : (g : LinkFault) → low ≤ rule_place g → is_rule_broken records g ≡ true → is_gt
        (place_cmp (link_fault_place f) (link_fault_place g)) ≡ false
    least g from b = go (nat_lt (rule_place g) mid) refl
      where
        go : (t : Bool) → nat_lt (rule_place g) mid ≡ t → is_gt (place_cmp (link_fault_place f) (link_fault_place g)) ≡ false
        go true e = absurd (false≢true (sym (h g from (ltb-true (rule_place g) mid e)) ∙ b))
        go false e = k.least g (ltb-false (rule_place g) mid e) b

-- all rules together
pub all_hold : (records : List Record) → RulesHold records 0 15 → IsLinked records
all_hold records h f = search (rules, place_among, ltb-true, all_of)

pub first_of_all : (records : List Record) (f : LinkFault) → IsFirstFrom records 0 f → IsFirstBrokenRule records f
first_of_all records f h = record { there = h.broken; least = λ g b. h.least g (omega arith) b }
