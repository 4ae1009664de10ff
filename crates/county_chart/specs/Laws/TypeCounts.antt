-- The number of records of each type, by the type's byte and by the lists of records of one type.
use Rattle.std.proofs.Common.{Bool, List, None, Option, Some, [], ap, arith, cond, false, filter_map, inl, inr, length, refl, subst, suc, sym, true, zero-add, ℕ, ◌+◌, ◌==◌, ◌∙◌, ◌∷◌, ◌≡◌, ◌≤◌, ◌⊎◌}
use Rattle.std.proofs.lemmas.Bool.{eqb-true}
use Rattle.std.proofs.lemmas.List.Sums.{sum_by-cons}
use Rattle.std.specs.List.{cons_option}
use Rattle.tl_layout.specs.RecordTypes.{RecordType, Type1, Type2, Type4, Type5, Type6, Type7, Type8, TypeI, TypeP, as_type, byte_of, of_type}
use Rattle.tl_layout.specs.Laws.RecordTypeLaws.{is_selected, selected_by_byte, type_of_record, typed}
use Rattle.tl_layout.specs.Limits.{IsWithinLimit, count_of_type}
use Rattle.tl_layout.specs.RecordText.{type_of}
use Rattle.tl_layout.specs.declared.record_type.Record.{Record}
use Rattle.county_chart.specs.Packing.{Typed, by_type, packed, packed_by_type}
use Rattle.county_chart.specs.County.{County}
use Rattle.county_chart.specs.Laws.PackedTypes.{by_type_of}

-- each type has at most as many records as the limit for its byte
pub record HasWithin (limits : ℕ → ℕ) (records : Typed) : Type 0 where
  pub of_type_1 : length records.of_type_1 ≤ limits 49
  pub of_type_2 : length records.of_type_2 ≤ limits 50
  pub of_type_4 : length records.of_type_4 ≤ limits 52
  pub of_type_5 : length records.of_type_5 ≤ limits 53
  pub of_type_6 : length records.of_type_6 ≤ limits 54
  pub of_type_7 : length records.of_type_7 ≤ limits 55
  pub of_type_8 : length records.of_type_8 ≤ limits 56
  pub of_type_i : length records.of_type_i ≤ limits 73
  pub of_type_p : length records.of_type_p ≤ limits 80

-- at most limit records of each type
abbrev pub HasAtMost : ℕ → Typed → Type 0
HasAtMost limit = HasWithin (λ _. limit)

-- as many records of each type
pub record HasAsMany (records others : Typed) : Type 0 where
  pub of_type_1 : length records.of_type_1 ≡ length others.of_type_1
  pub of_type_2 : length records.of_type_2 ≡ length others.of_type_2
  pub of_type_4 : length records.of_type_4 ≡ length others.of_type_4
  pub of_type_5 : length records.of_type_5 ≡ length others.of_type_5
  pub of_type_6 : length records.of_type_6 ≡ length others.of_type_6
  pub of_type_7 : length records.of_type_7 ≡ length others.of_type_7
  pub of_type_8 : length records.of_type_8 ≡ length others.of_type_8
  pub of_type_i : length records.of_type_i ≡ length others.of_type_i
  pub of_type_p : length records.of_type_p ≡ length others.of_type_p

-- no type has more records than its limit
abbrev pub KeepsLimits : (ℕ → ℕ) → List Record → Type 0
KeepsLimits limits records = (rtype : ℕ) → count_of_type rtype records ≤ limits rtype

count-cons : (n : ℕ) (r : Record) (records : List Record)
    → count_of_type n (r ∷ records) ≡ cond (type_of r == n) 1 0 + count_of_type n records
count-cons n r records = sum_by-cons (λ q. cond (type_of q == n) 1 0) r records

-- the number of records of a type is the number that a selection of exactly these leaves
count_selected : {Y : Type 0} (h : Record → Option Y) (n : ℕ) → ((r : Record) → (type_of r == n) ≡ is_selected (h r))
    → (records : List Record) → count_of_type n records ≡ length (filter_map h records)
count_selected h n same [] = refl
count_selected {Y} h n same (r ∷ records) = count-cons n r records ∙ go (h r) (type_of r == n) (same r) (count_selected h n same records)
  where
    go : (o : Option Y) (b : Bool) → b ≡ is_selected o → count_of_type n records ≡ length (filter_map h records)
        → cond b 1 0 + count_of_type n records ≡ length (cons_option o (filter_map h records))
    go None b e ih = ap (λ t. cond t 1 0 + count_of_type n records) e ∙ zero-add (count_of_type n records) ∙ ih
    go (Some y) b e ih = ap (λ t. cond t 1 0 + count_of_type n records) e ∙ ap (λ m. 1 + m) ih
        ∙ (let t : 1 + length (filter_map h records) ≡ suc (length (filter_map h records)) = omega arith in t)

count_of : (t : RecordType) (records : List Record) → count_of_type (byte_of t) records ≡ length (of_type t records)
count_of t = count_selected (as_type t) (byte_of t) (selected_by_byte t)

-- if records keep the limits, their lists by type do
pub by_type_keeps : (limits : ℕ → ℕ) (records : List Record) → KeepsLimits limits records → HasWithin limits (by_type records)
by_type_keeps limits records h = record {
  of_type_1 = kept Type1;
  of_type_2 = kept Type2;
  of_type_4 = kept Type4;
  of_type_5 = kept Type5;
  of_type_6 = kept Type6;
  of_type_7 = kept Type7;
  of_type_8 = kept Type8;
  of_type_i = kept TypeI;
  of_type_p = kept TypeP;
}
  where
    kept : (t : RecordType) → length (of_type t records) ≤ limits (byte_of t)
    kept t = subst (λ n. n ≤ limits (byte_of t)) (count_of t records) (h (byte_of t))

pub by_type_within : (limit : ℕ) (records : List Record) → IsWithinLimit limit records → HasAtMost limit (by_type records)
by_type_within limit = by_type_keeps (λ _. limit)

-- the limit of each type, as a function of the type
within_each : (limits : ℕ → ℕ) (records : List Record) → HasWithin limits (by_type records)
    → (t : RecordType) → length (of_type t records) ≤ limits (byte_of t)
within_each limits records h Type1 = h.of_type_1
within_each limits records h Type2 = h.of_type_2
within_each limits records h Type4 = h.of_type_4
within_each limits records h Type5 = h.of_type_5
within_each limits records h Type6 = h.of_type_6
within_each limits records h Type7 = h.of_type_7
within_each limits records h Type8 = h.of_type_8
within_each limits records h TypeI = h.of_type_i
within_each limits records h TypeP = h.of_type_p

-- a number is the byte of a type, or no record begins with it
byte_or_none : (n : ℕ) (records : List Record) → ((t : RecordType) × (byte_of t ≡ n)) ⊎ (count_of_type n records ≡ 0)
byte_or_none n [] = inr refl
byte_or_none n (r ∷ records) = go (type_of r == n) refl (byte_or_none n records)
  where
    go : (b : Bool) → (type_of r == n) ≡ b → ((t : RecordType) × (byte_of t ≡ n)) ⊎ (count_of_type n records ≡ 0)
        → ((t : RecordType) × (byte_of t ≡ n)) ⊎ (count_of_type n (r ∷ records) ≡ 0)
    go true e rest =
        let own = typed r in
        inl (own.0, sym (ap type_of own.2 ∙ type_of_record own.0 own.1) ∙ eqb-true (type_of r) n e)
    go false e (inl byte) = inl byte
    go false e (inr none) = inr (count-cons n r records ∙ ap (λ b. cond b 1 0 + count_of_type n records) e
        ∙ zero-add (count_of_type n records) ∙ none)

-- if the lists by type keep the limits, the records do
pub within_from : (limits : ℕ → ℕ) (records : List Record) → HasWithin limits (by_type records) → KeepsLimits limits records
within_from limits records h n = go (byte_or_none n records)
  where
    go : ((t : RecordType) × (byte_of t ≡ n)) ⊎ (count_of_type n records ≡ 0) → count_of_type n records ≤ limits n
    go (inl byte) = subst (λ m. count_of_type m records ≤ limits m) byte.1
        (subst (λ m. m ≤ limits (byte_of byte.0)) (sym (count_of byte.0 records)) (within_each limits records h byte.0))
    go (inr none) = subst (λ m. m ≤ limits n) (sym none) (let z : 0 ≤ limits n = omega arith in z)

pub packed_keeps : (limits : ℕ → ℕ) (county : County) → HasWithin limits (packed_by_type county) → KeepsLimits limits (packed county)
packed_keeps limits county h n =
    within_from limits (packed county) (subst (HasWithin limits) (sym (by_type_of (packed_by_type county))) h) n

pub packed_within : (limit : ℕ) (county : County) → HasAtMost limit (packed_by_type county) → IsWithinLimit limit (packed county)
packed_within limit = packed_keeps (λ _. limit)
