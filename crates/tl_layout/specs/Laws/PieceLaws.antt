-- The pieces of a text: what they join to, and where else they occur.
use Rattle.std.proofs.Common.{List, [], ap, arith, drop, length, refl, sym, take, ℕ, ◌++◌, ◌+◌, ◌-◌, ◌∙◌, ◌∷◌, ◌≡◌, ◌≤◌}
use Rattle.std.proofs.lemmas.List.{drop-drop, drop-take, drop_all, take-append-drop, take-take}
use Rattle.tl_layout.specs.Columns.{joined}
use Rattle.tl_layout.specs.Laws.ColumnLaws.{joined-before}
use Rattle.tl_layout.specs.Pieces.{pieces_from, total_width}

-- pieces up to the end of the text join to the rest of it
pub pieces_join : (at : ℕ) (widths text : List ℕ) → at + total_width widths ≡ length text → joined [] (pieces_from at widths text) ≡ drop at text
pieces_join at [] text l = sym (drop_all at text (omega arith))
pieces_join at (width ∷ widths) text l =
    let on : at + width + total_width widths ≡ length text = omega arith in
    joined-before (take width (drop at text)) (pieces_from (at + width) widths text)
    ∙ (ap (λ (t : List ℕ). take width (drop at text) ++ t) (pieces_join (at + width) widths text on ∙ sym (drop-drop width at text))
    ∙ take-append-drop width (drop at text))

-- part of a line has the same pieces as the line has there
pub pieces_of_part : (first len : ℕ) (line : List ℕ) (at : ℕ) (widths : List ℕ) → at + total_width widths ≤ len
    → pieces_from at widths (take len (drop first line)) ≡ pieces_from (first + at) widths line
pieces_of_part first len line at [] l = refl
pieces_of_part first len line at (width ∷ widths) l =
    let rest : at + (len - at) ≡ len = omega arith in
    let short : width ≤ len - at = omega arith in
    let next : first + at + width ≡ first + (at + width) = omega arith in
    let whole : drop at (take len (drop first line)) ≡ take (len - at) (drop (first + at) line) =
    ap (λ (n : ℕ). drop at (take n (drop first line))) (sym rest)
    ∙ (drop-take at (len - at) (drop first line) ∙ ap (take (len - at)) (drop-drop at first line)) in
    let piece : take width (drop at (take len (drop first line))) ≡ take width (drop (first + at) line) =
    ap (take width) whole ∙ take-take width (len - at) (drop (first + at) line) short in
    let later : pieces_from (at + width) widths (take len (drop first line)) ≡ pieces_from (first + at + width) widths line =
    pieces_of_part first len line (at + width) widths (omega arith) ∙ ap (λ (n : ℕ). pieces_from n widths line) (sym next) in
    rw (piece, later) refl
