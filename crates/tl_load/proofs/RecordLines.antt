-- A line is judged as the record that it has, and that record fits.
use Rattle.tl_load.proofs.Common.{All, All-cons, All-nil, AllByRecursion, AreLinesSpelled, BeginsWith, Bool, Err, FitsRecord, IsFaultIn, IsFaultOfLine, IsLeftmostFault, IsLineOf, IsWithinLimit, LineFault, List, Ok, PlacedLine, Record, RecordType, Result, Spells, SpellsWithin, Type1, Type2, Type4, Type5, Type6, Type7, Type8, TypeI, TypeP, [], ap, as_record, byte_of, cond, eqb, eqb-false, eqb-true, every_record, false, fitting_record, inl, inr, layout_laws, line_length, ne_eqb, of_its_type, of_no_type, placed_lines, reading_of, record_exact, refl, rules, subst, sym, table_of, take, true, type_of, type_of_record, ℕ, ◌∙◌, ◌∷◌, ◌≡◌, ◌⊎◌}
use Rattle.tl_load.proofs.Reading.{IsSound}
use Rattle.tl_load.proofs.LineLaws.{Reading, judged_fault_found, judged_fault_only, judged_is_line, line_fits, line_is_judged}
use Rattle.tl_layout.specs.RecordTypes.{FieldsOf, FitsFields, SpellsFields, record_of, types}
use Rattle.tl_load.specs.Choice.{judged, judged_by, tiger}
use Rattle.tl_load.specs.LineOf.{judged_as}
use Rattle.tl_load.specs.RecordLine.{HasRecord}
use Rattle.tl_load.specs.declared.fault.LineFault.TheVariants as line_faults

-- ---- the layouts

-- how a line of this type is judged
abbrev judged_of : (t : RecordType) → List ℕ → Result (FieldsOf t) LineFault
judged_of t line = judged_as (line_length t) (reading_of t) line

-- what a layout promises about its reading
layout_reading : (t : RecordType) → Reading (byte_of t) (line_length t) (reading_of t) (SpellsFields t)
layout_reading t = record {
  found = λ l r is e. ((layout_laws t).reads_spelled l r is e).1;
  only = λ l r is h. (layout_laws t).spelled_is_read l r is h;
}

-- a line with a record of a type is a line of that type
line_of_type : (t : RecordType) (line : List ℕ) (fields : FieldsOf t)
    → HasRecord line (record_of t fields) ≡ IsLineOf (byte_of t) (line_length t) (SpellsFields t) line fields
unfolding HasRecord
line_of_type Type1 line fields = refl
line_of_type _ line fields = refl

-- a line that begins with the byte of a type is judged as a line of that type
judged_by_own : (t : RecordType) (line : List ℕ) → judged_by (byte_of t) line ≡ as_record (record_of t) (judged_of t line)
unfolding judged_by
judged_by_own Type1 line = refl
judged_by_own _ line = refl

pub by_first : (rtype : ℕ) (line : List ℕ) → take 1 line ≡ rtype ∷ [] → judged line ≡ judged_by rtype line
unfolding judged
by_first rtype [] e = absurd cc
by_first rtype (b ∷ line) e = let same : b ≡ rtype = cc in ap (λ (t : ℕ). judged_by t (b ∷ line)) same

-- ---- the choice

-- how a line is judged if it begins with the byte of one of these types
abbrev judged_among : List RecordType → ℕ → List ℕ → Result Record LineFault
judged_among [] rtype line = Err line_faults.UnknownType
judged_among (t ∷ ts) rtype line = cond (eqb rtype (byte_of t)) (as_record (record_of t) (judged_of t line)) (judged_among ts rtype line)

judged_among_all : (rtype : ℕ) (line : List ℕ) → judged_by rtype line ≡ judged_among types rtype line
unfolding judged_by
judged_among_all rtype line = refl

-- the record that a layout returns has its type
typed_among : (ts : List RecordType) (rtype : ℕ) (line : List ℕ) (r : Record) → judged_among ts rtype line ≡ Ok r → type_of r ≡ rtype
typed_among [] rtype line r e = absurd cc
typed_among (t ∷ ts) rtype line r e = go (eqb rtype (byte_of t)) refl (judged_of t line) e (typed_among ts rtype line r)
  where
    go : (b : Bool) → eqb rtype (byte_of t) ≡ b → (v : Result (FieldsOf t) LineFault)
        → cond b (as_record (record_of t) v) (judged_among ts rtype line) ≡ Ok r
        → (judged_among ts rtype line ≡ Ok r → type_of r ≡ rtype) → type_of r ≡ rtype
    go true is (Ok fields) h later = search (rules, type_of_record, eqb-true)
    go true is (Err f) h later = absurd cc
    go false is v h later = later h

unwrapped : (t : RecordType) (v : Result (FieldsOf t) LineFault) (fields : FieldsOf t)
    → as_record (record_of t) v ≡ Ok (record_of t fields) → v ≡ Ok fields
unwrapped t (Ok others) fields e = search (rules, record_exact)
unwrapped t (Err f) fields e = absurd cc

pub record_of_judged : (line : List ℕ) (r : Record) → judged line ≡ Ok r → HasRecord line r
unfolding judged
record_of_judged [] r e = absurd cc
record_of_judged (b ∷ line) r e =
    every_record (λ r. judged_by b (b ∷ line) ≡ Ok r → type_of r ≡ b → HasRecord (b ∷ line) r) found r e
    (typed_among types b (b ∷ line) r (sym (judged_among_all b (b ∷ line)) ∙ e))
  where
    found : (t : RecordType) (fields : FieldsOf t) → judged_by b (b ∷ line) ≡ Ok (record_of t fields) → type_of (record_of t fields) ≡ b
        → HasRecord (b ∷ line) (record_of t fields)
    found t fields h own =
        let byte : byte_of t ≡ b = sym (type_of_record t fields) ∙ own in
        subst (λ T. T) (sym (line_of_type t (b ∷ line) fields))
        (judged_is_line (byte_of t) (line_length t) (reading_of t) (SpellsFields t) (layout_reading t) (b ∷ line) fields
        (ap (λ (n : ℕ). n ∷ []) (sym byte))
        (unwrapped t (judged_of t (b ∷ line)) fields
        (sym (judged_by_own t (b ∷ line)) ∙ ap (λ n. judged_by n (b ∷ line)) byte ∙ h)))

pub judged_of_record : (line : List ℕ) (r : Record) → HasRecord line r → judged line ≡ Ok r
judged_of_record line = every_record (λ r. HasRecord line r → judged line ≡ Ok r) found
  where
    found : (t : RecordType) (fields : FieldsOf t) → HasRecord line (record_of t fields) → judged line ≡ Ok (record_of t fields)
    found t fields h =
        let is = subst (λ T. T) (line_of_type t line fields) h in
        by_first (byte_of t) line is.begins ∙ judged_by_own t line
        ∙ ap (as_record (record_of t))
        (line_is_judged (byte_of t) (line_length t) (reading_of t) (SpellsFields t) (layout_reading t) line fields is)

-- ---- faults

wrapped_err : {R : Type 0} (wrap : R → Record) (v : Result R LineFault) (fault : LineFault) → v ≡ Err fault → as_record wrap v ≡ Err fault
wrapped_err wrap (Ok r) fault e = absurd cc
wrapped_err wrap (Err f) fault e = let same : f ≡ fault = cc in ap (λ (z : LineFault). Err z) same

unwrapped_err : {R : Type 0} (wrap : R → Record) (v : Result R LineFault) (fault : LineFault) → as_record wrap v ≡ Err fault → v ≡ Err fault
unwrapped_err wrap (Ok r) fault e = absurd cc
unwrapped_err wrap (Err f) fault e = let same : f ≡ fault = cc in ap (λ (z : LineFault). Err z) same

begins_so : (b t : ℕ) (line : List ℕ) → eqb b t ≡ true → BeginsWith t (b ∷ line)
begins_so b t line e = ap (λ (x : ℕ). x ∷ []) (eqb-true b t e)

begins_otherwise : (b t : ℕ) (line : List ℕ) → eqb b t ≡ false → ¬ BeginsWith t (b ∷ line)
begins_otherwise b t line e h = let same : b ≡ t = cc in eqb-false b t e same

not_so : (b t : ℕ) (line : List ℕ) → ¬ BeginsWith t (b ∷ line) → eqb b t ≡ false
not_so b t line h = ne_eqb b t (λ e. h (ap (λ (x : ℕ). x ∷ []) e))

no_type_reported : (fault : LineFault) → ◌≡◌ {A = Result Record LineFault} (Err line_faults.UnknownType) (Err fault)
    → fault ≡ line_faults.UnknownType
no_type_reported fault e = cc

-- the line begins with the byte of no type in the list
abbrev IsOfNone : List RecordType → List ℕ → Type 0
IsOfNone ts line = AllByRecursion (λ t. ¬ BeginsWith (byte_of t) line) ts

-- the fault of a line is the fault for the type whose byte it begins with, or that it begins with none
fault_among : (ts : List RecordType) (b : ℕ) (line : List ℕ) (fault : LineFault) → judged_among ts b (b ∷ line) ≡ Err fault
    → IsFaultOfLine (b ∷ line) fault ⊎ (IsOfNone ts (b ∷ line) × (fault ≡ line_faults.UnknownType))
fault_among [] b line fault e = inr (tt, no_type_reported fault e)
fault_among (t ∷ ts) b line fault e = go (eqb b (byte_of t)) refl e (fault_among ts b line fault)
  where
    go : (x : Bool) → eqb b (byte_of t) ≡ x
        → cond x (as_record (record_of t) (judged_of t (b ∷ line))) (judged_among ts b (b ∷ line)) ≡ Err fault
        → (judged_among ts b (b ∷ line) ≡ Err fault
        → IsFaultOfLine (b ∷ line) fault ⊎ (IsOfNone ts (b ∷ line) × (fault ≡ line_faults.UnknownType)))
        → IsFaultOfLine (b ∷ line) fault ⊎ (IsOfNone (t ∷ ts) (b ∷ line) × (fault ≡ line_faults.UnknownType))
    go true is h rest = let begins = begins_so b (byte_of t) line is in
        inl (of_its_type t begins
        (judged_fault_found (byte_of t) (line_length t) (reading_of t) _ (layout_laws t).shows_leftmost (b ∷ line) fault begins
        (unwrapped_err (record_of t) (judged_of t (b ∷ line)) fault h)))
    go false is h rest = later (rest h)
      where
        later : IsFaultOfLine (b ∷ line) fault ⊎ (IsOfNone ts (b ∷ line) × (fault ≡ line_faults.UnknownType))
            → IsFaultOfLine (b ∷ line) fault ⊎ (IsOfNone (t ∷ ts) (b ∷ line) × (fault ≡ line_faults.UnknownType))
        later (inl found) = inl found
        later (inr none) = inr ((begins_otherwise b (byte_of t) line is, none.0), none.1)

-- what holds for each type in the list of all types holds for each type
each_type : (Holds : RecordType → Type 0) → AllByRecursion Holds types → (t : RecordType) → Holds t
each_type Holds h Type1 = h.0
each_type Holds h Type2 = h.1.0
each_type Holds h Type4 = h.1.1.0
each_type Holds h Type5 = h.1.1.1.0
each_type Holds h Type6 = h.1.1.1.1.0
each_type Holds h Type7 = h.1.1.1.1.1.0
each_type Holds h Type8 = h.1.1.1.1.1.1.0
each_type Holds h TypeI = h.1.1.1.1.1.1.1.0
each_type Holds h TypeP = h.1.1.1.1.1.1.1.1.0

-- the fault that a line is judged to have is its fault
pub fault_of_judged : (line : List ℕ) (fault : LineFault) → judged line ≡ Err fault → IsFaultOfLine line fault
unfolding judged
fault_of_judged [] fault e = of_no_type (λ t begins. cc) (no_type_reported fault e)
fault_of_judged (b ∷ line) fault e = go (fault_among types b line fault (sym (judged_among_all b (b ∷ line)) ∙ e))
  where
    go : IsFaultOfLine (b ∷ line) fault ⊎ (IsOfNone types (b ∷ line) × (fault ≡ line_faults.UnknownType)) → IsFaultOfLine (b ∷ line) fault
    go (inl found) = found
    go (inr none) = of_no_type (each_type (λ t. ¬ BeginsWith (byte_of t) (b ∷ line)) none.0) none.1

unknown_among : (ts : List RecordType) (b : ℕ) (line : List ℕ) → ((t : RecordType) → ¬ BeginsWith (byte_of t) (b ∷ line))
    → judged_among ts b (b ∷ line) ≡ Err line_faults.UnknownType
unknown_among [] b line h = refl
unknown_among (t ∷ ts) b line h = rw (not_so b (byte_of t) line (h t)) (unknown_among ts b line h)

unknown_judged : (line : List ℕ) → ((t : RecordType) → ¬ BeginsWith (byte_of t) line)
    → judged line ≡ Err line_faults.UnknownType
unfolding judged
unknown_judged [] h = refl
unknown_judged (b ∷ line) h = judged_among_all b (b ∷ line) ∙ unknown_among types b line h

-- a line is judged to have the fault that a line of its type has
judged_of_type : (t : RecordType) (line : List ℕ) (fault : LineFault) → BeginsWith (byte_of t) line
    → IsFaultIn (line_length t) (IsLeftmostFault (table_of t)) line fault → judged line ≡ Err fault
judged_of_type t line fault begins h = by_first (byte_of t) line begins ∙ judged_by_own t line
    ∙ wrapped_err (record_of t) (judged_of t line) fault
    (judged_fault_only (byte_of t) (line_length t) (reading_of t) _ (layout_laws t).shows_leftmost line fault begins h)

-- a line is judged to have the fault that it has
pub judged_of_fault : (line : List ℕ) (fault : LineFault) → IsFaultOfLine line fault → judged line ≡ Err fault
judged_of_fault line fault (of_no_type h e) = unknown_judged line h ∙ ap (λ (z : LineFault). Err z) (sym e)
judged_of_fault line fault (of_its_type t begins h) = judged_of_type t line fault begins h

-- the judge of TIGER/Line 2006 finds exactly the records and the faults of lines
pub tiger_is_sound : IsSound tiger
unfolding tiger
tiger_is_sound = search (rules, record_of_judged, judged_of_record, fault_of_judged, judged_of_fault)

-- ---- spelled records fit

-- a line has only records that fit
pub record_fits : (line : List ℕ) (r : Record) → HasRecord line r → FitsRecord r
record_fits line = every_record (λ r. HasRecord line r → FitsRecord r) (λ t fields h.
    fitting_record t fields (line_fits (byte_of t) (line_length t) (SpellsFields t) (FitsFields t)
    (λ l r is s. ((layout_laws t).reads_spelled l r is ((layout_laws t).spelled_is_read l r is s)).0) line fields
    (subst (λ T. T) (line_of_type t line fields) h)))

-- if lines have records, these fit
lines_fit : (lines : List PlacedLine) (records : List Record) → AreLinesSpelled tiger lines records → All FitsRecord records
unfolding tiger
lines_fit [] [] h = All-nil FitsRecord
lines_fit [] (r ∷ records) h = absurd h
lines_fit (line ∷ lines) [] h = absurd h
lines_fit (line ∷ lines) (r ∷ records) h = All-cons FitsRecord r records (record_fits line.bytes r h.0) (lines_fit lines records h.1)

-- parts spell only records that fit
pub spelled_fit : (parts : List (List ℕ)) (records : List Record) → Spells tiger parts records → All FitsRecord records
spelled_fit parts records h = lines_fit (placed_lines parts) records h

-- a set accepted within a limit has at most that many records of each type
pub accepted_within : (limit : ℕ) (parts : List (List ℕ)) (records : List Record) → SpellsWithin tiger limit parts records
    → IsWithinLimit limit records
unfolding tiger
accepted_within limit parts records h = h.within
