-- Cutting a set into parts: an empty part has no lines, and the bytes after the end of a line keep their lines.
use Rattle.tl_load.proofs.Common.{All-nil, AreLinesSpelled, Bool, FaultAt, FieldKind, HaveSameLines, IsFaultOf, IsWithoutLineFeed, LineFault, List, LoadFault, PlacedLine, Spells, [], ap, append_assoc, arith, common_steps, eqb, eqb-true, false, flat_map, flat_map-append, is_line_feed, lines, map, map-append, of_limit, of_line, placed_lines, refl, rules, subst, sym, true, without_place, ℕ, ◌++◌, ◌+◌, ◌↔◌, ◌∙◌, ◌∷◌, ◌≡◌}
use Rattle.tl_load.proofs.LineLemmas.{lines_line, lines_none}
use Rattle.tl_load.specs.Places.{lines_from_part, numbered_lines}
use Rattle.tl_load.specs.Verdicts.{Judge, fault_at, field_fault_at}
use Rattle.tl_layout.specs.declared.fault.FieldKind.TheVariants as kinds
use Rattle.tl_load.specs.declared.fault.LineFault.TheVariants as line_faults

-- ---- what lines spell doesn't depend on their places

-- the bytes of lines, without their places
abbrev pub bytes_of : List PlacedLine → List (List ℕ)
bytes_of placed = map (λ (l : PlacedLine). l.bytes) placed

bytes_of_part : (part line : ℕ) (ls : List (List ℕ)) → bytes_of (numbered_lines part line ls) ≡ ls
unfolding numbered_lines
bytes_of_part part line [] = refl
bytes_of_part part line (l ∷ ls) = ap (λ (rest : List (List ℕ)). l ∷ rest) (bytes_of_part part (line + 1) ls)

bytes_of_parts : (n : ℕ) (parts : List (List ℕ)) → bytes_of (lines_from_part n parts) ≡ flat_map lines parts
unfolding lines_from_part
bytes_of_parts n [] = refl
bytes_of_parts n (part ∷ parts) = search (rules, map-append, bytes_of_part, bytes_of_parts (n + 1) parts)

spelled_as : {R : Type 0} (judge : Judge R) (xs ys : List PlacedLine) (records : List R) → bytes_of xs ≡ bytes_of ys
    → AreLinesSpelled judge xs records → AreLinesSpelled judge ys records
spelled_as judge [] [] records e h = h
spelled_as judge [] (y ∷ ys) records e h = absurd cc
spelled_as judge (x ∷ xs) [] records e h = absurd cc
spelled_as judge (x ∷ xs) (y ∷ ys) [] e h = absurd h
spelled_as judge (x ∷ xs) (y ∷ ys) (r ∷ records) e h =
    let first : x.bytes ≡ y.bytes = cc in
    let rest : bytes_of xs ≡ bytes_of ys = cc in
    (subst (λ (bytes : List ℕ). judge.Has bytes r) first h.0, spelled_as judge xs ys records rest h.1)

same_bytes : (parts others : List (List ℕ)) → HaveSameLines parts others → bytes_of (placed_lines parts) ≡ bytes_of (placed_lines others)
same_bytes parts others same = bytes_of_parts 1 parts ∙ same ∙ sym (bytes_of_parts 1 others)

-- parts with the same lines spell the same
pub spells_as : {R : Type 0} (judge : Judge R) (parts others : List (List ℕ)) (records : List R) → HaveSameLines parts others
    → Spells judge parts records → Spells judge others records
spells_as judge parts others records same = search (rules, spelled_as, same_bytes)

pub spells_alike : {R : Type 0} (judge : Judge R) (parts others : List (List ℕ)) (records : List R) → HaveSameLines parts others
    → (Spells judge parts records ↔ Spells judge others records)
spells_alike judge parts others records same = search (rules, spells_as)

-- ---- the first fault doesn't depend on places either, except for its own place

-- the lines split into lines with the same bytes as those before a line, one with the bytes of that line, and the rest
record SplitAlike (before : List PlacedLine) (line : PlacedLine) (all : List PlacedLine) : Type 0 where
  front : List PlacedLine
  here : PlacedLine
  rest : List PlacedLine
  split : all ≡ front ++ here ∷ rest
  same_front : bytes_of before ≡ bytes_of front
  same_here : line.bytes ≡ here.bytes

split_alike : (before : List PlacedLine) (line : PlacedLine) (after all : List PlacedLine)
    → bytes_of (before ++ line ∷ after) ≡ bytes_of all → SplitAlike before line all
split_alike [] line after [] e = absurd cc
split_alike [] line after (l ∷ all) e = record { front = []; here = l; rest = all; split = refl; same_front = refl; same_here = cc }
split_alike (b ∷ before) line after [] e = absurd cc
split_alike (b ∷ before) line after (l ∷ all) e =
    let first : b.bytes ≡ l.bytes = cc in
    let found = split_alike before line after all cc in
    record {
      front = l ∷ found.front;
      here = found.here;
      rest = found.rest;
      split = λ i. l ∷ found.split i;
      same_front = λ i. first i ∷ found.same_front i;
      same_here = found.same_here;
    }

field_fault_unplaced : (part line other_part other_line column : ℕ) (kind : FieldKind)
    → without_place (field_fault_at part line column kind) ≡ without_place (field_fault_at other_part other_line column kind)
field_fault_unplaced part line other_part other_line column kinds.BadNumber = refl
field_fault_unplaced part line other_part other_line column kinds.BadPoint = refl
field_fault_unplaced part line other_part other_line column kinds.GapInRecord = refl

fault_unplaced : (part line other_part other_line : ℕ) (own : LineFault)
    → without_place (fault_at part line own) ≡ without_place (fault_at other_part other_line own)
unfolding fault_at
fault_unplaced part line other_part other_line line_faults.UnknownType = refl
fault_unplaced part line other_part other_line line_faults.LineTooLong = refl
fault_unplaced part line other_part other_line (line_faults.BadByte column) = refl
fault_unplaced part line other_part other_line (line_faults.Field f) = field_fault_unplaced part line other_part other_line f.column f.kind

-- the fault of a line with the same bytes
fault_of_same : {R : Type 0} (judge : Judge R) (limit : ℕ) (records : List R) (line other : PlacedLine) (fault : LoadFault)
    → line.bytes ≡ other.bytes → IsFaultOf judge limit records line fault
    → (reported : LoadFault) × IsFaultOf judge limit records other reported × (without_place reported ≡ without_place fault)
fault_of_same judge limit records line other fault same (of_line own h e) = (
  fault_at other.part other.line own,
  of_line own (subst (λ (bytes : List ℕ). judge.IsFault bytes own) same h) refl,
  fault_unplaced other.part other.line line.part line.line own ∙ sym (ap without_place e),
)
fault_of_same judge limit records line other fault same (of_limit r has full e) =
    (fault, of_limit r (subst (λ (bytes : List ℕ). judge.Has bytes r) same has) full e, refl)

-- the first fault of parts with the same lines
pub fault_elsewhere : {R : Type 0} (judge : Judge R) (limit : ℕ) (parts others : List (List ℕ)) (fault : LoadFault)
    → HaveSameLines parts others → FaultAt judge limit parts fault
    → (reported : LoadFault) × FaultAt judge limit others reported × (without_place reported ≡ without_place fault)
fault_elsewhere judge limit parts others fault same at =
    let found = split_alike at.before at.line at.after (placed_lines others)
    (ap bytes_of (sym at.split) ∙ same_bytes parts others same) in
    let reported = fault_of_same judge limit at.records at.line found.here fault found.same_here at.fault_is in (
      reported.0,
      record {
        before = found.front;
        line = found.here;
        after = found.rest;
        records = at.records;
        split = found.split;
        well = spelled_as judge at.before found.front at.records found.same_front at.well;
        within = at.within;
        fault_is = reported.1;
      },
      reported.2,
    )

-- ---- cutting after the end of a line

lines_of_cut : (a text rest : List ℕ) → IsWithoutLineFeed a → lines (a ++ (text ++ 10 ∷ rest)) ≡ lines (a ++ (text ++ 10 ∷ [])) ++ lines rest
lines_of_cut a [] rest h = search (rules, lines_line, rest, lines_none)
lines_of_cut a (c ∷ text) rest h =
    go (eqb c 10) refl (lines_of_cut [] text rest (All-nil (λ b. is_line_feed b ≡ false))) (λ n. lines_of_cut (a ++ c ∷ []) text rest (longer n))
  where
    longer : is_line_feed c ≡ false → IsWithoutLineFeed (a ++ c ∷ [])
    longer n = grind (arith, common_steps)

    -- either the line ends here, or it continues with this byte
    go : (t : Bool) → eqb c 10 ≡ t → lines (text ++ 10 ∷ rest) ≡ lines (text ++ 10 ∷ []) ++ lines rest
        → (is_line_feed c ≡ false
        → lines ((a ++ c ∷ []) ++ (text ++ 10 ∷ rest)) ≡ lines ((a ++ c ∷ []) ++ (text ++ 10 ∷ [])) ++ lines rest)
        → lines (a ++ (c ∷ text ++ 10 ∷ rest)) ≡ lines (a ++ (c ∷ text ++ 10 ∷ [])) ++ lines rest
    go true e shorter _ = search (rules, eqb-true, rest, lines_line)
    go false e _ longer_line = search (rules, append_assoc, rest)

pub cut_lines : (before later : List (List ℕ)) (text rest : List ℕ)
    → HaveSameLines (before ++ (text ++ 10 ∷ rest) ∷ later) (before ++ (text ++ 10 ∷ []) ∷ rest ∷ later)
cut_lines before later text rest =
    flat_map-append lines before ((text ++ 10 ∷ rest) ∷ later)
    ∙ ap (λ (ls : List (List ℕ)). flat_map lines before ++ ls)
    (ap (λ (ls : List (List ℕ)). ls ++ flat_map lines later) (lines_of_cut [] text rest (All-nil (λ b. is_line_feed b ≡ false)))
    ∙ append_assoc (lines (text ++ 10 ∷ [])) (lines rest) (flat_map lines later))
    ∙ sym (flat_map-append lines before ((text ++ 10 ∷ []) ∷ rest ∷ later))

pub cut_spells : {R : Type 0} (judge : Judge R) (before later : List (List ℕ)) (text rest : List ℕ) (records : List R)
    → (Spells judge (before ++ (text ++ 10 ∷ rest) ∷ later) records ↔ Spells judge (before ++ (text ++ 10 ∷ []) ∷ rest ∷ later) records)
cut_spells judge before later text rest records = search (rules, spells_alike, rest, cut_lines)

-- ---- empty parts

pub empty_lines : (before later : List (List ℕ)) → HaveSameLines (before ++ [] ∷ later) (before ++ later)
empty_lines before later = search (rules, flat_map-append, lines_none)

pub empty_spells : {R : Type 0} (judge : Judge R) (before later : List (List ℕ)) (records : List R)
    → (Spells judge (before ++ [] ∷ later) records ↔ Spells judge (before ++ later) records)
empty_spells judge before later records = search (rules, spells_alike, empty_lines)

-- an empty part at the end doesn't change the place of any line
lines_with_empty_part : (n : ℕ) (parts : List (List ℕ)) → lines_from_part n (parts ++ [] ∷ []) ≡ lines_from_part n parts
unfolding lines_from_part numbered_lines
lines_with_empty_part n [] = ap (λ (ls : List (List ℕ)). numbered_lines n 1 ls ++ []) lines_none
lines_with_empty_part n (part ∷ parts) = search (rules, lines_with_empty_part (n + 1) parts)

fault_as : {R : Type 0} (judge : Judge R) (limit : ℕ) (parts others : List (List ℕ)) (fault : LoadFault)
    → placed_lines parts ≡ placed_lines others → FaultAt judge limit parts fault → FaultAt judge limit others fault
fault_as judge limit parts others fault same at = record {
  before = at.before;
  line = at.line;
  after = at.after;
  records = at.records;
  split = sym same ∙ at.split;
  well = at.well;
  within = at.within;
  fault_is = at.fault_is;
}

-- an empty part at the end doesn't change the fault
pub empty_fault : {R : Type 0} (judge : Judge R) (limit : ℕ) (parts : List (List ℕ)) (fault : LoadFault)
    → (FaultAt judge limit (parts ++ [] ∷ []) fault ↔ FaultAt judge limit parts fault)
empty_fault judge limit parts fault = search (rules, lines_with_empty_part, fault_as)
