-- Either a list of records is linked, or exactly one rule is the first that is broken.
use Rattle.county_chart.proofs.Common.{Among, Bool, ChainTwice, Fields4, I, IsFirstBrokenRule, IsLinked, Known, LandUnknown, LinkFault, LinkMissing, LinkTwice, LinkedType, List, NameTwice, NameUnknown, NoChain, PolygonTwice, PolygonUnknown, Record, SequenceBroken, SequencedType, Six, [], among_left, among_right, and_parts, arith, chain_tlids, common_steps, cond, contains, differ_apart, eight_land, eqb-true, false, false≢true, five_feat, flat_map, four_rtsq, four_tlid, has_repeat, i_tlid, inl, inr, is_eq, is_rule_broken, key_keys, known-append, known_among, link_fault_place, link_key, linked_tlids, linked_type, ltb-true, map, nat_cmp, nat_keys, nat_lt, ne_eqb, not, of_number, of_type_2, of_type_4, of_type_5, of_type_6, of_type_8, of_type_i, of_type_p, p_key, refl, rtsqs, rules, same_or_not, six_rtsq, six_tlid, suc, times, times-no, times-yes, true, two_rtsq, two_tlid, zero, ℕ, ◌&&◌, ◌++◌, ◌<◌, ◌==◌, ◌∷◌, ◌≡◌, ◌⊎◌}
use Rattle.county_chart.proofs.Rules.FirstFault.{first_or_none, not_first, one_first}
use Rattle.county_chart.specs.declared.fault.LinkFault.TheVariants.{Memory}
use Rattle.county_chart.specs.declared.fault.LinkedType.TheVariants.{Four, Two}
use Rattle.county_chart.specs.declared.fault.SequencedType.TheVariants as sequenced

-- the fault at a place
abbrev pub part : List (List ℕ) → ℕ → List ℕ
part [] i = []
part (p ∷ ps) zero = p
part (p ∷ ps) (suc i) = part ps i

abbrev pub head_of : List ℕ → ℕ
head_of [] = 0
head_of (n ∷ ns) = n

abbrev pub number : List (List ℕ) → ℕ → ℕ
number place i = head_of (part place i)

abbrev type_at : ℕ → LinkedType
type_at n = cond (n == 2) Two (cond (n == 4) Four (cond (n == 6) Six I))

abbrev sequenced_at : ℕ → SequencedType
sequenced_at n = cond (n == 2) sequenced.Two (cond (n == 4) sequenced.Four sequenced.Six)

abbrev fault_at : List (List ℕ) → LinkFault
fault_at p =
    cond (number p 0 == 11) (ChainTwice (number p 1))
    (cond (number p 0 == 12) (NoChain (type_at (number p 1)) (number p 2))
    (cond (number p 0 == 13) (SequenceBroken (sequenced_at (number p 1)) (number p 2))
    (cond (number p 0 == 14) (LinkMissing (number p 1))
    (cond (number p 0 == 15) (LinkTwice (number p 1))
    (cond (number p 0 == 16) (NameTwice (number p 1))
    (cond (number p 0 == 17) (NameUnknown (number p 1) (number p 2))
    (cond (number p 0 == 18) (PolygonTwice (part p 1) (number p 2))
    (cond (number p 0 == 19) (LandUnknown (number p 1))
    (cond (number p 0 == 20) (PolygonUnknown (part p 1) (number p 2)) Memory)))))))))

fault_at-place : (f : LinkFault) → fault_at (link_fault_place f) ≡ f
fault_at-place (NoChain Two tlid) = refl
fault_at-place (SequenceBroken sequenced.Two tlid) = refl
fault_at-place fault = refl

-- These lists have every broken rule, with its place.
abbrev pub name_faults : List Fields4 → List LinkFault
name_faults = flat_map (λ r. map (NameUnknown r.tlid) r.feats)

abbrev pub type_faults : SequencedType → List Record → List LinkFault
type_faults t records =
    map (NoChain (linked_type t)) (linked_tlids (linked_type t) records) ++ map (SequenceBroken t) (linked_tlids (linked_type t) records)

abbrev pub faults_11_to_15 : List Record → List LinkFault
faults_11_to_15 records =
    map ChainTwice (chain_tlids records)
    ++ (type_faults sequenced.Two records
    ++ (type_faults sequenced.Four records
    ++ (type_faults sequenced.Six records
    ++ (map (NoChain I) (linked_tlids I records)
    ++ (map LinkMissing (chain_tlids records)
    ++ map LinkTwice (map i_tlid (of_type_i records)))))))

abbrev pub faults_16_to_20 : List Record → List LinkFault
faults_16_to_20 records =
    map NameTwice (map five_feat (of_type_5 records))
    ++ (name_faults (of_type_4 records)
    ++ (map (λ k. PolygonTwice k.0 k.1) (map p_key (of_type_p records))
    ++ (map LandUnknown (map eight_land (of_type_8 records))
    ++ map (λ k. PolygonUnknown k.0 k.1) (map link_key (of_type_8 records)))))

-- a chain without records of a type has no RTSQ there
none_of_number : {X : Type 0} (f : X → ℕ) (n : ℕ) (xs : List X) → times nat_cmp n (map f xs) ≡ 0 → of_number f n xs ≡ []
none_of_number f n [] e = refl
none_of_number f n (x ∷ xs) e = go (same_or_not nat_keys n (f x)) (none_of_number f n xs)
  where
    go : (n ≡ f x) ⊎ (is_eq (nat_cmp n (f x)) ≡ false) → (times nat_cmp n (map f xs) ≡ 0 → of_number f n xs ≡ [])
        → of_number f n (x ∷ xs) ≡ []
    go (inl h) ih = absurd (omega (arith, times-yes nat_keys n (f x) (map f xs) h, e))
    go (inr ne) ih = search (rules, ne_eqb, differ_apart, nat_keys, times-no)

repeat_known : {X : Type 0} (f g : X → ℕ) (n : ℕ) (xs : List X) → has_repeat nat_cmp (map g (of_number f n xs)) ≡ true
    → Known nat_cmp (map f xs) n
repeat_known f g n xs h = search (rules, false≢true, none_of_number)

name_among : (x y : ℕ) (rs : List Fields4) → Known nat_cmp (flat_map (λ r. r.feats) (of_number four_tlid x rs)) y
    → Among (NameUnknown x y) (name_faults rs)
name_among x y [] h = absurd (omega (arith, h))
name_among x y (r ∷ rs) h = go (r.tlid == x) refl h (name_among x y rs)
  where
    here : r.tlid ≡ x → Known nat_cmp r.feats y → Among (NameUnknown x y) (map (NameUnknown r.tlid) r.feats)
    here e k = search (rules, known_among, nat_keys)

    split : r.tlid ≡ x → Known nat_cmp r.feats y ⊎ Known nat_cmp (flat_map (λ q. q.feats) (of_number four_tlid x rs)) y
        → (Known nat_cmp (flat_map (λ q. q.feats) (of_number four_tlid x rs)) y → Among (NameUnknown x y) (name_faults rs))
        → Among (NameUnknown x y) (name_faults (r ∷ rs))
    split e (inl k) ih = among_left (NameUnknown x y) (map (NameUnknown r.tlid) r.feats) (name_faults rs) (here e k)
    split e (inr k) ih = among_right (NameUnknown x y) (map (NameUnknown r.tlid) r.feats) (name_faults rs) (ih k)

    go : (b : Bool) → (r.tlid == x) ≡ b → Known nat_cmp (flat_map (λ q. q.feats)
        (cond b (r ∷ of_number four_tlid x rs) (of_number four_tlid x rs))) y
        → (Known nat_cmp (flat_map (λ q. q.feats) (of_number four_tlid x rs)) y → Among (NameUnknown x y) (name_faults rs))
        → Among (NameUnknown x y) (name_faults (r ∷ rs))
    go true e k ih = split (eqb-true r.tlid x e) (known-append nat_keys y r.feats (flat_map (λ q. q.feats) (of_number four_tlid x rs)) k) ih
    go false e k ih = among_right (NameUnknown x y) (map (NameUnknown r.tlid) r.feats) (name_faults rs) (ih k)

type_among_sequence : (t : SequencedType) (tlid : ℕ) (records : List Record) → Known nat_cmp (linked_tlids (linked_type t) records) tlid
    → Among (SequenceBroken t tlid) (type_faults t records)
type_among_sequence t tlid records h = search (rules, among_right, known_among, nat_keys)

among_types : (t : SequencedType) (f : LinkFault) (records : List Record) → Among f (type_faults t records) → Among f
    (faults_11_to_15 records)
among_types sequenced.Two f records h = search (rules, among_right, among_left)
among_types sequenced.Four f records h = search (rules, among_right, among_left)
among_types sequenced.Six f records h = search (rules, among_right, among_left)

-- a fault listed after the faults of types 2, 4 and 6 is in the whole list
after_types : (f : LinkFault) (records : List Record)
    → Among f (map (NoChain I) (linked_tlids I records)
    ++ (map LinkMissing (chain_tlids records) ++ map LinkTwice (map i_tlid (of_type_i records)))) → Among f (faults_11_to_15 records)
after_types f records h = search (rules, among_right)

no_chain_among : (t : LinkedType) (tlid : ℕ) (records : List Record) → Known nat_cmp (linked_tlids t records) tlid
    → Among (NoChain t tlid) (faults_11_to_15 records)
no_chain_among Two tlid records h = search (rules, among_right, among_left, known_among, nat_keys)
no_chain_among Four tlid records h = search (rules, among_right, among_left, known_among, nat_keys)
no_chain_among Six tlid records h = search (rules, among_right, among_left, known_among, nat_keys)
no_chain_among I tlid records h = search (rules, among_left, known_among, nat_keys, among_right)

some_above : (n : ℕ) → nat_lt 1 n ≡ true → 0 < n
some_above n e = omega (arith, ltb-true 1 n e)

some : (n : ℕ) (b : Bool) → (nat_lt 0 n && b) ≡ true → 0 < n
some n b e = ltb-true 0 n (and_parts (nat_lt 0 n) b e).0

-- the faults that have every broken rule among them
abbrev pub all_faults : List Record → List LinkFault
all_faults records = faults_11_to_15 records ++ faults_16_to_20 records

first_half : (records : List Record) (f : LinkFault) → Among f (faults_11_to_15 records) → Among f (all_faults records)
first_half records f h = among_left f (faults_11_to_15 records) (faults_16_to_20 records) h

second_half : (records : List Record) (f : LinkFault) → Among f (faults_16_to_20 records) → Among f (all_faults records)
second_half records f h = among_right f (faults_11_to_15 records) (faults_16_to_20 records) h

sequence_among : (t : SequencedType) (tlid : ℕ) (records : List Record) → has_repeat nat_cmp (rtsqs t tlid records) ≡ true
    → Known nat_cmp (linked_tlids (linked_type t) records) tlid
sequence_among sequenced.Two tlid records e = repeat_known two_tlid two_rtsq tlid (of_type_2 records) e
sequence_among sequenced.Four tlid records e = repeat_known four_tlid four_rtsq tlid (of_type_4 records) e
sequence_among sequenced.Six tlid records e = repeat_known six_tlid six_rtsq tlid (of_type_6 records) e

skip_types : (records : List Record) (f : LinkFault)
    → Among f (map LinkMissing (chain_tlids records) ++ map LinkTwice (map i_tlid (of_type_i records))) → Among f (faults_11_to_15 records)
skip_types records f h = after_types f records (among_right f (map (NoChain I) (linked_tlids I records)) _ h)

pub broken_among : (records : List Record) (f : LinkFault) → is_rule_broken records f ≡ true → Among f (all_faults records)
broken_among records (ChainTwice tlid) e = grind (arith, common_steps, first_half, among_left, known_among, nat_keys, some_above)
broken_among records (NoChain t tlid) e = search (rules, first_half, no_chain_among, some)
broken_among records (SequenceBroken t tlid) e = search (rules, first_half, among_types, type_among_sequence, sequence_among)
broken_among records (LinkMissing tlid) e =
    first_half records (LinkMissing tlid)
    (skip_types records (LinkMissing tlid)
    (among_left (LinkMissing tlid) (map LinkMissing (chain_tlids records)) _
    (known_among nat_keys LinkMissing tlid (chain_tlids records)
    (some (times nat_cmp tlid (chain_tlids records)) (not (contains nat_cmp tlid (map i_tlid (of_type_i records)))) e))))
broken_among records (LinkTwice tlid) e =
    first_half records (LinkTwice tlid)
    (skip_types records (LinkTwice tlid)
    (among_right (LinkTwice tlid) (map LinkMissing (chain_tlids records)) _
    (known_among nat_keys LinkTwice tlid (map i_tlid (of_type_i records))
    (some_above (times nat_cmp tlid (map i_tlid (of_type_i records))) e))))
broken_among records (NameTwice feat) e =
    second_half records (NameTwice feat)
    (among_left (NameTwice feat) (map NameTwice (map five_feat (of_type_5 records))) _
    (known_among nat_keys NameTwice feat (map five_feat (of_type_5 records))
    (some_above (times nat_cmp feat (map five_feat (of_type_5 records))) e)))
broken_among records (NameUnknown tlid feat) e = search (rules, second_half, among_right, among_left, name_among, some)
broken_among records (PolygonTwice cenid polyid) e = search (rules, second_half, among_right, among_left, known_among, key_keys, some_above)
broken_among records (LandUnknown land) e =
    second_half records (LandUnknown land)
    (among_right (LandUnknown land) (map NameTwice (map five_feat (of_type_5 records))) _
    (among_right (LandUnknown land) (name_faults (of_type_4 records)) _
    (among_right (LandUnknown land) (map (λ k. PolygonTwice k.0 k.1) (map p_key (of_type_p records))) _
    (among_left (LandUnknown land) (map LandUnknown (map eight_land (of_type_8 records))) _
    (known_among nat_keys LandUnknown land (map eight_land (of_type_8 records))
    (some (times nat_cmp land (map eight_land (of_type_8 records))) _ e))))))
broken_among records (PolygonUnknown cenid polyid) e = search (rules, second_half, among_right, known_among, key_keys, some)
broken_among records Memory e = absurd (false≢true e)

pub linked_or_first : (records : List Record) → IsLinked records ⊎ ((fault : LinkFault) × IsFirstBrokenRule records fault)
linked_or_first records = first_or_none (is_rule_broken records) link_fault_place (all_faults records) (broken_among records)

pub linked_has_none : (records : List Record) (fault : LinkFault) → IsLinked records → IsFirstBrokenRule records fault → ⊥
linked_has_none records fault linked h = not_first (is_rule_broken records) link_fault_place fault linked h

pub one_first_rule : (records : List Record) (f g : LinkFault) → IsFirstBrokenRule records f → IsFirstBrokenRule records g → f ≡ g
one_first_rule records = one_first (is_rule_broken records) link_fault_place fault_at fault_at-place
