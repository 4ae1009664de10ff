-- The canonical text of records is loaded as these records.
use Rattle.tl_load.proofs.Common.{All, Eight, Err, FieldFault, Five, Four, I, IsLine, IsWithoutLineFeed, List, Ok, One, P, Record, Result, Seven, Six, Spells, Two, Type1, Type2, Type4, Type5, Type6, Type7, Type8, TypeI, TypeP, [], ap, append-nil, append_assoc, arith, as_record, eqb, eqb-true, false, false_from_ne_true, flat_map-append, get_or, is_allowed, judged, layout_laws, le-ltb, length, length-drop, lines, map, placed_lines, reading_of, refl, rules, spelling_is_line, suc, take, text_of, true, with_version, ℕ, ◌++◌, ◌+◌, ◌<◌, ◌∙◌, ◌∷◌, ◌≡◌, ◌≤◌}
use Rattle.tl_load.proofs.Filling.{filled_full}
use Rattle.tl_load.proofs.LineLaws.{bad_none}
use Rattle.tl_load.proofs.LineLemmas.{lines_line, lines_none}
use Rattle.tl_load.proofs.Reading.{AreJudged, judged_spelled, spelled_once}
use Rattle.tl_load.proofs.RecordLines.{by_first, tiger_is_sound}
use Rattle.tl_layout.specs.Bytes.{AreAllowed}
use Rattle.tl_layout.specs.RecordText.{FitsRecord, len_of, spelling_of, type_of}
use Rattle.tl_load.specs.Choice.{judged_by, tiger}
use Rattle.tl_load.specs.LineOf.{judged_as, judged_full}
use Rattle.tl_load.specs.Lines.{without_return}
use Rattle.tl_load.specs.Places.{lines_from_part, numbered_lines}
use Rattle.tl_load.specs.declared.fault.LineFault.TheVariants as line_faults

-- ---- a canonical line

-- a line that is as long with the version as without has space for it
pub has_version : (line : List ℕ) → length (with_version line) ≡ length line → 5 ≤ length line
has_version [] h = absurd (omega (arith, h))
has_version (b ∷ bytes) h = omega (arith, h, length-drop 4 bytes)

-- a full line is judged as the record that it is read as
pub judged_full_line : {R : Type 0} (rtype len : ℕ) (reading : List ℕ → Result R FieldFault) (line : List ℕ) (r : R) → IsLine rtype len line
    → reading line ≡ Ok r → judged_as len reading line ≡ Ok r
unfolding judged_as judged_full
judged_full_line rtype len reading line r is e = search (rules, le-ltb, filled_full, bad_none)

-- and as the fault with which reading fails
pub judged_fault_line : {R : Type 0} (rtype len : ℕ) (reading : List ℕ → Result R FieldFault) (line : List ℕ) (fault : FieldFault)
    → IsLine rtype len line → reading line ≡ Err fault → judged_as len reading line ≡ Err (line_faults.Field fault)
unfolding judged_as judged_full
judged_fault_line rtype len reading line fault is e = search (rules, le-ltb, filled_full, bad_none)

judged_spelling : (r : Record) → FitsRecord r → judged (spelling_of r) ≡ Ok r
unfolding judged_by type_of len_of spelling_of FitsRecord
judged_spelling (One r) f = let is = spelling_is_line (One r) f in by_first 49 _ is.begins
    ∙ ap (as_record One) (judged_full_line 49 228 (reading_of Type1) _ r is ((layout_laws Type1).reads_spelling r f))
judged_spelling (Two r) f = let is = spelling_is_line (Two r) f in by_first 50 _ is.begins
    ∙ ap (as_record Two) (judged_full_line 50 208 (reading_of Type2) _ r is ((layout_laws Type2).reads_spelling r f))
judged_spelling (Four r) f = let is = spelling_is_line (Four r) f in by_first 52 _ is.begins
    ∙ ap (as_record Four) (judged_full_line 52 58 (reading_of Type4) _ r is ((layout_laws Type4).reads_spelling r f))
judged_spelling (Five r) f = let is = spelling_is_line (Five r) f in by_first 53 _ is.begins
    ∙ ap (as_record Five) (judged_full_line 53 56 (reading_of Type5) _ r is ((layout_laws Type5).reads_spelling r f))
judged_spelling (Six r) f = let is = spelling_is_line (Six r) f in by_first 54 _ is.begins
    ∙ ap (as_record Six) (judged_full_line 54 76 (reading_of Type6) _ r is ((layout_laws Type6).reads_spelling r f))
judged_spelling (Seven r) f = let is = spelling_is_line (Seven r) f in by_first 55 _ is.begins
    ∙ ap (as_record Seven) (judged_full_line 55 74 (reading_of Type7) _ r is ((layout_laws Type7).reads_spelling r f))
judged_spelling (Eight r) f = let is = spelling_is_line (Eight r) f in by_first 56 _ is.begins
    ∙ ap (as_record Eight) (judged_full_line 56 36 (reading_of Type8) _ r is ((layout_laws Type8).reads_spelling r f))
judged_spelling (I r) f = let is = spelling_is_line (I r) f in by_first 73 _ is.begins
    ∙ ap (as_record I) (judged_full_line 73 127 (reading_of TypeI) _ r is ((layout_laws TypeI).reads_spelling r f))
judged_spelling (P r) f = let is = spelling_is_line (P r) f in by_first 80 _ is.begins
    ∙ ap (as_record P) (judged_full_line 80 45 (reading_of TypeP) _ r is ((layout_laws TypeP).reads_spelling r f))

-- ---- its bytes

-- a byte that isn't allowed doesn't occur in a line
is_not : (c b : ℕ) → is_allowed c ≡ false → is_allowed b ≡ true → eqb b c ≡ false
is_not c b bad good = search (rules, false_from_ne_true, eqb-true)

no_feed : (line : List ℕ) → AreAllowed line → IsWithoutLineFeed line
unfolding AreAllowed
no_feed line h k d lt = is_not 10 (get_or line k d) refl (h k d lt)

no_return : (line : List ℕ) → 0 < length line → AreAllowed line → without_return line ≡ line
unfolding AreAllowed without_return
no_return line some h = search (rules, is_not)

some_begin : (rtype : ℕ) (line : List ℕ) → take 1 line ≡ rtype ∷ [] → 0 < length line
some_begin rtype [] e = absurd cc
some_begin rtype (b ∷ line) e = omega arith

-- ---- the text

abbrev pub AllFit : List Record → Type 0
AllFit records = All FitsRecord records

rest_fit : (r : Record) (records : List Record) → AllFit (r ∷ records) → AllFit records
rest_fit r records h k d lt = h (suc k) d (omega arith)

first_fits : (r : Record) (records : List Record) → AllFit (r ∷ records) → FitsRecord r
first_fits r records h = h 0 r (omega arith)

lines_of_text : (records : List Record) → AllFit records → lines (text_of records) ≡ map spelling_of records
lines_of_text [] h = lines_none
lines_of_text (r ∷ records) h =
    let is = spelling_is_line r (first_fits r records h) in
    ap lines (append_assoc (spelling_of r) (10 ∷ []) (text_of records))
    ∙ lines_line (spelling_of r) (text_of records) (no_feed (spelling_of r) is.text.allowed)
    ∙ ap (λ (l : List ℕ). l ∷ lines (text_of records)) (no_return (spelling_of r) (some_begin _ _ is.begins) is.text.allowed)
    ∙ ap (λ (ls : List (List ℕ)). spelling_of r ∷ ls) (lines_of_text records (rest_fit r records h))

judged_lines : (part line : ℕ) (records : List Record) → AllFit records
    → AreJudged tiger (numbered_lines part line (map spelling_of records)) records
unfolding numbered_lines tiger
judged_lines part line [] h = refl
judged_lines part line (r ∷ records) h =
    search (rules, judged_spelling, first_fits, rest_fit, judged_lines part (line + 1) records (rest_fit r records h))

one_part : (text : List ℕ) → placed_lines (text ∷ []) ≡ numbered_lines 1 1 (lines text)
unfolding lines_from_part
one_part text = append-nil (numbered_lines 1 1 (lines text))

pub text_spells : (records : List Record) → AllFit records → Spells tiger (text_of records ∷ []) records
text_spells records h = search (rules, one_part, lines_of_text, judged_spelled, tiger_is_sound, judged_lines)

pub text_spells_only : (records others : List Record) → AllFit records → Spells tiger (text_of records ∷ []) others → others ≡ records
text_spells_only records others h s = spelled_once tiger tiger_is_sound (text_of records ∷ []) others records s (text_spells records h)

-- the text of records and one more record
pub text_of-snoc : (records : List Record) (added : Record)
    → text_of (records ++ added ∷ []) ≡ text_of records ++ (spelling_of added ++ 10 ∷ [])
text_of-snoc records added = search (rules, flat_map-append, append-nil)
