-- The content of record type 1 and its columns determine each other.
use Rattle.std.proofs.Common.{List, Ok, [], ap, append_assoc, arith, codes, drop, get_or, length, lit≤, pos, refl, subst, sym, take, ℕ, ◌++◌, ◌+◌, ◌∙◌, ◌∷◌, ◌≡◌, ◌≤◌}
use Rattle.std.proofs.lemmas.List.{length-append}
use Rattle.tl_layout.specs.Laws.ColumnLaws.{columns_of_text, joined-before, part_of_text}
use Rattle.tl_layout.specs.RecordTypes.{FitsFields, Type1, byte_of, fields_spelling, make_of, reading_of}
use Rattle.tl_layout.specs.Type1Groups.{FitsBody1, body_1_at, body_1_texts, entities_at, point_texts}
use Rattle.tl_layout.specs.Bytes.{IsText, columns}
use Rattle.tl_layout.specs.Columns.{joined}
use Rattle.tl_layout.specs.FieldReading.{number_at, point_at}
use Rattle.tl_layout.specs.Fields.{Fields1}
use Rattle.tl_layout.specs.Laws.FieldLaws.{ok_value, reads}
use Rattle.tl_layout.specs.Pieces.{pieces_from}
use Rattle.tl_layout.specs.Coordinates.{Coordinates, IsOnMap}
use Rattle.tl_layout.specs.FieldTexts.{number_text}
use Rattle.tl_layout.specs.Type1Columns.{body_1_of, body_1_text}
use Rattle.tl_layout.specs.Laws.CoordinateLaws.{coordinate_text_is_text}
use Rattle.tl_layout.specs.declared.type1.fields.Body1Fields.{Body1Fields}
use Rattle.tl_layout.specs.Laws.PieceLaws.{pieces_join, pieces_of_part}
use Rattle.tl_layout.specs.Laws.PlaceLaws.{columns_behind, pair_of_texts}
use Rattle.tl_layout.specs.Laws.NumberTextLaws.{number_text_is_text}
use Rattle.tl_layout.specs.Laws.Type1Laws.{type_1_fits, type_1_reading_is_short}
use Rattle.tl_layout.specs.Laws.TypeLaws.{layout_laws}
use Rattle.tl_layout.specs.Type1.{type_1_short_reading}

-- the widths of the fields, from column 16 to column 190
widths : List ℕ
widths =
    1 ∷ 1 ∷ 2 ∷ 30 ∷ 4 ∷ 2 ∷ 3 ∷ 11 ∷ 11 ∷ 11 ∷ 11 ∷ 1 ∷ 1 ∷ 1 ∷ 1 ∷ 5 ∷ 5 ∷ 5 ∷ 5 ∷ 1 ∷ 1 ∷ 1 ∷ 1
    ∷ 2 ∷ 2 ∷ 3 ∷ 3 ∷ 5 ∷ 5 ∷ 5 ∷ 5 ∷ 5 ∷ 5 ∷ 6 ∷ 6 ∷ 4 ∷ 4 ∷ []

abbrev somewhere : Coordinates
somewhere = record { long = pos 1; lat = pos 1 }

-- the content made from these texts
abbrev content : List (List ℕ) → Body1Fields
content texts =
    let text : ℕ → List ℕ = λ at. get_or texts at [] in
    (make_of Type1 1 (text 0) (text 1) (text 2) (text 3) (text 4) (text 5) (text 6) (text 7) (text 8) (text 9) (text 10) (text 11) (text 12)
    (text 13) (text 14) (text 15) (text 16) (text 17) (text 18) (text 19) (text 20) (text 21) (text 22) (text 23) (text 24) (text 25)
    (text 26) (text 27) (text 28) (text 29) (text 30) (text 31) (text 32) (text 33) (text 34) (text 35) (text 36) somewhere somewhere).body

-- the fields in a line are its pieces from column 16 on
are_pieces : (line : List ℕ) → body_1_texts (body_1_at line) ≡ pieces_from 15 widths line
unfolding body_1_at entities_at widths
are_pieces line = refl

are_pieces_of_columns : (text : List ℕ) → body_1_texts (body_1_of text) ≡ pieces_from 0 widths text
unfolding body_1_at entities_at widths
are_pieces_of_columns text = refl

content_again : (body : Body1Fields) → content (body_1_texts body) ≡ body
content_again body = refl

-- columns 16 to 190 are the text of the content read from them
pub text_of_columns : (text : List ℕ) → IsText 175 text → body_1_text (body_1_of text) ≡ text
unfolding widths
text_of_columns text t =
    ap (joined []) (are_pieces_of_columns text) ∙ pieces_join 0 widths text (sym t.len)

-- columns 16 to 190 of a line hold its content
pub content_of_line : (line : List ℕ) → body_1_of (columns 16 190 line) ≡ body_1_at line
unfolding widths
content_of_line line =
    let part : body_1_texts (body_1_of (columns 16 190 line)) ≡ body_1_texts (body_1_at line) =
    are_pieces_of_columns (columns 16 190 line) ∙ (pieces_of_part 15 175 line 0 widths (omega arith) ∙ sym (are_pieces line)) in
    sym (content_again (body_1_of (columns 16 190 line))) ∙ (ap content part ∙ content_again (body_1_at line))

-- the content was written after the text before it
pub content_behind : (before text : List ℕ) → IsText 175 text → before ++ text ≡ joined before (body_1_texts (body_1_of text))
content_behind before text t =
    ap (λ (l : List ℕ). before ++ l) (sym (text_of_columns text t)) ∙ sym (joined-before before (body_1_texts (body_1_of text)))

-- fields that are cut out of columns fit
pub content_fits : (text : List ℕ) → IsText 175 text → FitsBody1 (body_1_of text)
unfolding body_1_at entities_at
content_fits text t =
    let part : (at width : ℕ) → at + width ≤ 175 → IsText width (take width (drop at text)) = part_of_text 175 text t in
    record {
      side1 = part 0 1 (omega arith);
      source = part 1 1 (omega arith);
      name =
          record {
            fedirp = part 2 2 (omega arith);
            fename = part 4 30 (omega arith);
            fetype = part 34 4 (omega arith);
            fedirs = part 38 2 (omega arith);
          };
      cfcc = part 40 3 (omega arith);
      ranges =
          record {
            fraddl = part 43 11 (omega arith);
            toaddl = part 54 11 (omega arith);
            fraddr = part 65 11 (omega arith);
            toaddr = part 76 11 (omega arith);
            friaddl = part 87 1 (omega arith);
            toiaddl = part 88 1 (omega arith);
            friaddr = part 89 1 (omega arith);
            toiaddr = part 90 1 (omega arith);
            zip = record { left = part 91 5 (omega arith); right = part 96 5 (omega arith) };
          };
      native_areas =
          record {
            aianhhfp = record { left = part 101 5 (omega arith); right = part 106 5 (omega arith) };
            aihhtli = record { left = part 111 1 (omega arith); right = part 112 1 (omega arith) };
          };
      census1 = part 113 1 (omega arith);
      census2 = part 114 1 (omega arith);
      entities =
          record {
            state = record { left = part 115 2 (omega arith); right = part 117 2 (omega arith) };
            county = record { left = part 119 3 (omega arith); right = part 122 3 (omega arith) };
            cousub = record { left = part 125 5 (omega arith); right = part 130 5 (omega arith) };
            submcd = record { left = part 135 5 (omega arith); right = part 140 5 (omega arith) };
            place = record { left = part 145 5 (omega arith); right = part 150 5 (omega arith) };
            tract = record { left = part 155 6 (omega arith); right = part 161 6 (omega arith) };
            block = record { left = part 167 4 (omega arith); right = part 171 4 (omega arith) };
          };
    }

-- ---- the columns of fields that fit

-- some record with this content
abbrev sample : Body1Fields → Fields1
sample body = record { tlid = 1; body = body; start = somewhere; end = somewhere }

is_on_map : IsOnMap somewhere
is_on_map = record { long = lit≤ tt; lat = lit≤ tt; somewhere = lit≤ tt }

sample_fits : (body : Body1Fields) → FitsBody1 body → FitsFields Type1 (sample body)
sample_fits body f = type_1_fits (sample body) (lit≤ tt, lit≤ tt) f is_on_map is_on_map

-- the record that a line is read as has the content of its columns
content_read : (line : List ℕ) (r : Fields1) → reading_of Type1 line ≡ Ok r → body_1_at line ≡ r.body
unfolding type_1_short_reading
content_read line r h =
    let tlid = reads (number_at 6 15 line) _ r (sym (type_1_reading_is_short line) ∙ h) in
    let start = reads (point_at 191 line) _ r tlid.gave in
    let end = reads (point_at 210 line) _ r start.gave in
    ap (λ (f : Fields1). f.body) (ok_value _ r end.gave)

-- three groups of texts, one after another
three_groups : (before : List ℕ) (a b c : List (List ℕ))
    → joined (joined (joined before a) b) c ≡ before ++ (joined [] a ++ (joined [] b ++ joined [] c))
three_groups before a b c =
    joined-before (joined (joined before a) b) c
    ∙ (ap (λ (l : List ℕ). l ++ joined [] c) (joined-before (joined before a) b ∙ ap (λ (l : List ℕ). l ++ joined [] b) (joined-before before a))
    ∙ (append_assoc (before ++ joined [] a) (joined [] b) (joined [] c) ∙ append_assoc before (joined [] a) (joined [] b ++ joined [] c)))

abbrev spelled_before : Fields1 → List ℕ
spelled_before r = (byte_of Type1 ∷ codes "2006") ++ number_text 10 r.tlid

abbrev spelled_behind : Fields1 → List ℕ
spelled_behind r = joined [] (point_texts r.start) ++ joined [] (point_texts r.end)

spelled_parts : (r : Fields1) → fields_spelling Type1 r ≡ spelled_before r ++ (body_1_text r.body ++ spelled_behind r)
unfolding fields_spelling
spelled_parts r = three_groups (spelled_before r) (body_1_texts r.body) (point_texts r.start) (point_texts r.end)

point_is_text : (point : Coordinates) → IsText 19 (joined [] (point_texts point))
point_is_text point = pair_of_texts 10 9 _ _ (coordinate_text_is_text 9 point.long) (coordinate_text_is_text 8 point.lat)

-- a record's content is in columns 16 to 190 of its spelling
spelled_content : (r : Fields1) → length (fields_spelling Type1 r) ≡ 228 → columns 16 190 (fields_spelling Type1 r) ≡ body_1_text r.body
spelled_content r l =
    let head = length-append (byte_of Type1 ∷ codes "2006") (number_text 10 r.tlid) in
    let number = (number_text_is_text 10 r.tlid).len in
    let start = (point_is_text r.start).len in
    let end = (point_is_text r.end).len in
    let behind = length-append (joined [] (point_texts r.start)) (joined [] (point_texts r.end)) in
    let later = length-append (body_1_text r.body) (spelled_behind r) in
    let all = length-append (spelled_before r) (body_1_text r.body ++ spelled_behind r) in
    let whole : length (spelled_before r ++ (body_1_text r.body ++ spelled_behind r)) ≡ 228 = ap length (sym (spelled_parts r)) ∙ l in
    let first : length (spelled_before r) ≡ 15 = head ∙ omega arith in
    ap (columns 16 190) (spelled_parts r)
    ∙ columns_behind (spelled_before r) (body_1_text r.body) (spelled_behind r) 16 190 (omega arith) (omega arith)

record IsContentText (body : Body1Fields) : Type 0 where
  is_text : IsText 175 (body_1_text body)
  again : body_1_of (body_1_text body) ≡ body

content_text : (body : Body1Fields) → FitsBody1 body → IsContentText body
content_text body f =
    let fits = sample_fits body f in
    let line = fields_spelling Type1 (sample body) in
    let is_line = (layout_laws Type1).spelling_is_line (sample body) fits in
    let stands = spelled_content (sample body) is_line.text.len in
    record {
      is_text = subst (IsText 175) stands (columns_of_text 228 line is_line.text 16 190 175 (omega arith) (omega arith) (omega arith));
      again = ap body_1_of (sym stands)
          ∙ (content_of_line line ∙ content_read line (sample body) ((layout_laws Type1).reads_spelling (sample body) fits));
    }

-- fields that fit are written as text
pub columns_are_text : (body : Body1Fields) → FitsBody1 body → IsText 175 (body_1_text body)
columns_are_text body f = (content_text body f).is_text

-- fields that fit can be read back from the columns that they were written to
pub fields_again : (body : Body1Fields) → FitsBody1 body → body_1_of (body_1_text body) ≡ body
fields_again body f = (content_text body f).again
