-- The length of a county's text.
use Rattle.std.specs.List.{AllByRecursion}
use Rattle.county_chart.specs.County.{County}
use Rattle.county_chart.specs.Laws.TypeCounts.{HasAtMost, by_type_within}
use Rattle.county_chart.specs.CountyRules.{IsCounty}
use Rattle.std.proofs.Common.{List, [], arith, length, length-append, map, subst, ℕ, ◌*◌, ◌++◌, ◌-◌, ◌<◌, ◌^◌, ◌∷◌, ◌≡◌, ◌≤◌}
use Rattle.std.proofs.lemmas.List.{length-map}
use Rattle.tl_layout.specs.declared.record_type.Record.TheVariants.{Eight, Five, Four, I, One, P, Seven, Six, Two}
use Rattle.tl_layout.specs.RecordText.{FitsRecord, len_of, spelling_of, text_of}
use Rattle.county_chart.specs.Limits.{IsWithinLimits}
use Rattle.tl_layout.specs.declared.record_type.Record.{Record}
use Rattle.tl_layout.specs.Limits.{most_records}
use Rattle.county_chart.specs.Packing.{Typed, packed, packed_by_type, type_after_type}
use Rattle.county_chart.proofs.Limits.FitsPacked.{packed-fits}
use Rattle.tl_layout.specs.Laws.RecordLaws.{spelling_is_line}
use Rattle.county_chart.specs.Laws.PackedTypes.{by_type_of}

line_length : (r : Record) → len_of r ≤ 228
unfolding len_of
line_length (One r) = omega arith
line_length (Two r) = omega arith
line_length (Four r) = omega arith
line_length (Five r) = omega arith
line_length (Six r) = omega arith
line_length (Seven r) = omega arith
line_length (Eight r) = omega arith
line_length (I r) = omega arith
line_length (P r) = omega arith

-- a line with its line ending has at most 229 bytes
text_length : (records : List Record) → AllByRecursion FitsRecord records → length (text_of records) ≤ length records * 229
text_length [] a = omega arith
text_length (r ∷ records) a =
    let line : length (spelling_of r) ≡ len_of r = (spelling_is_line r a.0).text.len in
    let both = length-append (spelling_of r ++ 10 ∷ []) (text_of records) in
    let end = length-append (spelling_of r) (10 ∷ []) in
    omega (arith, line, line_length r, both, end, text_length records a.1)

type_lengths : (t : Typed) (limit : ℕ) → HasAtMost limit t → length (type_after_type t) ≤ 9 * limit
type_lengths t limit h =
    let p = length-map t.of_type_p P in
    let is = length-map t.of_type_i I in
    let eights = length-map t.of_type_8 Eight in
    let sevens = length-map t.of_type_7 Seven in
    let sixes = length-map t.of_type_6 Six in
    let fives = length-map t.of_type_5 Five in
    let fours = length-map t.of_type_4 Four in
    let twos = length-map t.of_type_2 Two in
    let ones = length-map t.of_type_1 One in
    let from_i = length-append (map I t.of_type_i) (map P t.of_type_p) in
    let from_8 = length-append (map Eight t.of_type_8) (map I t.of_type_i ++ map P t.of_type_p) in
    let from_7 = length-append (map Seven t.of_type_7) (map Eight t.of_type_8 ++ (map I t.of_type_i ++ map P t.of_type_p)) in
    let from_6 = length-append (map Six t.of_type_6)
    (map Seven t.of_type_7 ++ (map Eight t.of_type_8 ++ (map I t.of_type_i ++ map P t.of_type_p))) in
    let from_5 = length-append (map Five t.of_type_5) (map Six t.of_type_6
    ++ (map Seven t.of_type_7 ++ (map Eight t.of_type_8 ++ (map I t.of_type_i ++ map P t.of_type_p)))) in
    let from_4 = length-append (map Four t.of_type_4) (map Five t.of_type_5
    ++ (map Six t.of_type_6 ++ (map Seven t.of_type_7 ++ (map Eight t.of_type_8 ++ (map I t.of_type_i ++ map P t.of_type_p))))) in
    let from_2 = length-append (map Two t.of_type_2) (map Four t.of_type_4 ++ (map Five t.of_type_5
    ++ (map Six t.of_type_6 ++ (map Seven t.of_type_7 ++ (map Eight t.of_type_8 ++ (map I t.of_type_i ++ map P t.of_type_p)))))) in
    let all = length-append (map One t.of_type_1) (map Two t.of_type_2 ++ (map Four t.of_type_4 ++ (map Five t.of_type_5
    ++ (map Six t.of_type_6 ++ (map Seven t.of_type_7 ++ (map Eight t.of_type_8 ++ (map I t.of_type_i ++ map P t.of_type_p))))))) in
    omega (
      arith,
      p,
      is,
      eights,
      sevens,
      sixes,
      fives,
      fours,
      twos,
      ones,
      from_i,
      from_8,
      from_7,
      from_6,
      from_5,
      from_4,
      from_2,
      all,
      h.of_type_1,
      h.of_type_2,
      h.of_type_4,
      h.of_type_5,
      h.of_type_6,
      h.of_type_7,
      h.of_type_8,
      h.of_type_i,
      h.of_type_p,
    )

-- The text of a county within its limits has fewer bytes than 64 bits can count.
pub few_bytes : (county : County) → IsCounty county → IsWithinLimits most_records county → length (text_of (packed county)) < 2 ^ 64 - 1
few_bytes county is within =
    let records : length (packed county) ≤ 9 * most_records =
    type_lengths (packed_by_type county) most_records
    (subst (HasAtMost most_records) (by_type_of (packed_by_type county)) (by_type_within most_records (packed county) within.counts)) in
    let bytes = text_length (packed county) (packed-fits county is.whole within.contents within.numbers within.lists) in
    omega (arith, records, bytes)
