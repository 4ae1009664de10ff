-- The counts of records of each type.
use Rattle.tl_load.proofs.Common.{All-nil, AreCounted, Bool, Eight, Err, Five, Four, I, IsLoader, List, Ok, One, P, Record, Seven, Six, Two, [], ap, arith, cases_eq, common_steps, cond, count_of, eq-eqb, eqb, false, get_or, get_or-replicate, get_or-set_other, get_or-set_same, is_line_feed, le-leb, length, length-replicate, length-set, lit<, lt-leb, most_records, ne_eqb, refl, replicate, rules, set, sym, total, ℕ, ◌++◌, ◌+◌, ◌<◌, ◌∙◌, ◌∷◌, ◌≡◌, ◌≤◌}
use Rattle.tl_load.proofs.Reading.{count_push}
use Rattle.tl_layout.specs.RecordText.{type_of}
use Rattle.tl_load.specs.Choice.{tiger}
use Rattle.tl_load.specs.Outcome.{with_record}
use Rattle.tl_load.specs.declared.fault.LoadFault.TheVariants as faults

tiger_rtype : (r : Record) → tiger.rtype r ≡ type_of r
unfolding tiger
tiger_rtype r = refl

pub type_low : (r : Record) → type_of r < 128
unfolding type_of
type_low (One x) = lit< tt
type_low (Two x) = lit< tt
type_low (Four x) = lit< tt
type_low (Five x) = lit< tt
type_low (Six x) = lit< tt
type_low (Seven x) = lit< tt
type_low (Eight x) = lit< tt
type_low (I x) = lit< tt
type_low (P x) = lit< tt

-- ---- one more record

type_count : (counts : List ℕ) (records : List Record) (added : Record) (rtype : ℕ) → AreCounted counts records → type_of added ≡ rtype
    → count_of tiger (tiger.rtype added) records ≡ get_or counts rtype 0
type_count counts records added rtype counted is = search (rules, tiger_rtype, type_low)

pub adds_full : (counts : List ℕ) (records : List Record) (limit : ℕ) (added : Record) (rtype : ℕ) → AreCounted counts records
    → type_of added ≡ rtype → limit ≤ get_or counts rtype 0 → with_record tiger limit records added ≡ Err (faults.TooManyRecords rtype)
adds_full counts records limit added rtype counted is full =
    let e = type_count counts records added rtype counted is in
    ap (λ (b : Bool). cond b (Err (faults.TooManyRecords (tiger.rtype added))) (Ok (records ++ added ∷ [])))
    (le-leb limit (count_of tiger (tiger.rtype added) records) (omega arith))
    ∙ ap (λ (t : ℕ). Err (faults.TooManyRecords t)) (tiger_rtype added ∙ is)

pub adds_below : (counts : List ℕ) (records : List Record) (limit : ℕ) (added : Record) (rtype : ℕ) → AreCounted counts records
    → type_of added ≡ rtype → get_or counts rtype 0 < limit → with_record tiger limit records added ≡ Ok (records ++ added ∷ [])
adds_below counts records limit added rtype counted is below =
    let e = type_count counts records added rtype counted is in
    ap (λ (b : Bool). cond b (Err (faults.TooManyRecords (tiger.rtype added))) (Ok (records ++ added ∷ [])))
    (lt-leb limit (count_of tiger (tiger.rtype added) records) (omega arith))

one_up : (counts : List ℕ) (t u : ℕ) → t < length counts
    → get_or (set counts t (get_or counts t 0 + 1)) u 0 ≡ get_or counts u 0 + cond (eqb t u) 1 0
one_up counts t u low = search (rules, cases_eq, eq-eqb, get_or-set_same, ne_eqb, get_or-set_other)

pub counted_more : (counts : List ℕ) (records : List Record) (added : Record) (rtype : ℕ) → length counts ≡ 128 → AreCounted counts records
    → type_of added ≡ rtype → AreCounted (set counts rtype (get_or counts rtype 0 + 1)) (records ++ added ∷ [])
counted_more counts records added rtype len counted is t low = grind (arith, common_steps, one_up, type_low, count_push, tiger_rtype)

-- 1 if this is one of the nine types, and 0 otherwise
abbrev pub of_nine : ℕ → ℕ
of_nine t = cond (eqb t 49) 1 0 + cond (eqb t 50) 1 0 + cond (eqb t 52) 1 0 + cond (eqb t 53) 1 0 + cond (eqb t 54) 1 0 + cond
    (eqb t 55) 1 0 + cond (eqb t 56) 1 0 + cond (eqb t 73) 1 0 + cond (eqb t 80) 1 0

all_nine : (counts : List ℕ) (t : ℕ) → t < length counts → of_nine t ≡ 1 → total (set counts t (get_or counts t 0 + 1)) ≡ total counts + 1
all_nine counts t low one = search (rules, one_up)

-- counting one more record raises the total by one, since its type is one of the nine
total_more : (counts : List ℕ) (added : Record) → length counts ≡ 128
    → total (set counts (type_of added) (get_or counts (type_of added) 0 + 1)) ≡ total counts + 1
unfolding type_of
total_more counts (One r) len = all_nine counts 49 (omega (arith, len)) refl
total_more counts (Two r) len = all_nine counts 50 (omega (arith, len)) refl
total_more counts (Four r) len = all_nine counts 52 (omega (arith, len)) refl
total_more counts (Five r) len = all_nine counts 53 (omega (arith, len)) refl
total_more counts (Six r) len = all_nine counts 54 (omega (arith, len)) refl
total_more counts (Seven r) len = all_nine counts 55 (omega (arith, len)) refl
total_more counts (Eight r) len = all_nine counts 56 (omega (arith, len)) refl
total_more counts (I r) len = all_nine counts 73 (omega (arith, len)) refl
total_more counts (P r) len = all_nine counts 80 (omega (arith, len)) refl

pub total_up : (counts : List ℕ) (added : Record) (rtype : ℕ) → length counts ≡ 128 → type_of added ≡ rtype
    → total (set counts rtype (get_or counts rtype 0 + 1)) ≡ total counts + 1
total_up counts added rtype len is = ap (λ (t : ℕ). total (set counts t (get_or counts t 0 + 1))) (sym is) ∙ total_more counts added len

pub loader_with : (counts : List ℕ) (unfinished : List ℕ) (parts judged limit : ℕ) (added : Record) (rtype : ℕ)
    → IsLoader counts unfinished parts judged limit → type_of added ≡ rtype → get_or counts rtype 0 < limit
    → IsLoader (set counts rtype (get_or counts rtype 0 + 1)) unfinished parts (judged + 1) limit
loader_with counts unfinished parts judged limit added rtype l is below = record {
  counts_len = omega (arith, length-set counts rtype (get_or counts rtype 0 + 1), l.counts_len);
  within = search (rules, cases_eq, get_or-set_same, type_low, get_or-set_other);
  judged_low = omega (arith, l.judged_low, total_up counts added rtype l.counts_len is);
  limit_low = l.limit_low;
  no_feed = l.no_feed;
  short = l.short;
  begun = l.begun;
}

-- ---- a new loader

no_count : (t : ℕ) → t < 128 → get_or (replicate {A = ℕ} 128 0) t 0 ≡ 0
no_count t low = get_or-replicate {A = ℕ} 128 t 0 0 low

pub none_counted : AreCounted (replicate 128 0) []
none_counted t low = no_count t low

pub empty_loader : (limit : ℕ) → limit ≤ most_records → IsLoader (replicate 128 0) [] 0 0 limit
empty_loader limit low = record {
  counts_len = length-replicate {A = ℕ} 128 0;
  within = λ t lt. omega (arith, no_count t lt);
  judged_low = omega arith;
  limit_low = low;
  no_feed = All-nil (λ b. is_line_feed b ≡ false);
  short = omega arith;
  begun = λ lt. absurd (omega arith);
}

-- ---- the number of records is bounded

pub few_records : (counts : List ℕ) (unfinished : List ℕ) (parts judged limit : ℕ) → IsLoader counts unfinished parts judged limit
    → total counts ≤ 90000000
few_records counts unfinished parts judged limit l = search rules
