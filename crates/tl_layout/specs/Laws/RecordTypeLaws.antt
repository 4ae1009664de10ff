-- Laws of the record types: each record has one of them, and is selected by that one alone.
use Rattle.std.proofs.Common.{Bool, None, Option, Some, ap, false, inl, inr, refl, subst, sym, true, ◌==◌, ◌∙◌, ◌≡◌, ◌⊎◌}
use Rattle.std.proofs.lemmas.Bool.{eq-eqb}
use Rattle.tl_layout.specs.RecordText.{FitsRecord, spelling_of, type_of}
use Rattle.tl_layout.specs.RecordTypes.{FieldsOf, FitsFields, RecordType, Type1, Type2, Type4, Type5, Type6, Type7, Type8, TypeI, TypeP, as_type, byte_of, fields_spelling, own_type, record_of}
use Rattle.tl_layout.specs.declared.record_type.Record.{Record}
use Rattle.tl_layout.specs.declared.record_type.Record.TheVariants.{One}

-- a record is the record of its type with its fields
pub typed : (r : Record) → (t : RecordType) × (fields : FieldsOf t) × (r ≡ record_of t fields)
typed r = ((own_type r).0, (own_type r).1, is r)
  where
    is : (r : Record) → r ≡ record_of (own_type r).0 (own_type r).1
    is (One r) = refl
    is _ = refl

-- all records have a property that the records of each type have
pub every_record : (Holds : Record → Type 0) → ((t : RecordType) (fields : FieldsOf t) → Holds (record_of t fields))
    → (r : Record) → Holds r
every_record Holds each r = let own = typed r in subst Holds (sym own.2) (each own.0 own.1)

-- a record of a type begins with its byte
pub type_of_record : (t : RecordType) (fields : FieldsOf t) → type_of (record_of t fields) ≡ byte_of t
unfolding type_of
type_of_record Type1 fields = refl
type_of_record _ fields = refl

-- a record has the canonical spelling of its fields
pub spelling_of_record : (t : RecordType) (fields : FieldsOf t) → spelling_of (record_of t fields) ≡ fields_spelling t fields
unfolding spelling_of
spelling_of_record Type1 fields = refl
spelling_of_record _ fields = refl

-- a record of a type fits if its fields do
pub fitting_record : (t : RecordType) (fields : FieldsOf t) → FitsFields t fields → FitsRecord (record_of t fields)
unfolding FitsRecord
fitting_record Type1 fields f = f
fitting_record _ fields f = f

-- records of a type are the same only if their fields are
pub record_exact : (t : RecordType) (fields others : FieldsOf t) → record_of t fields ≡ record_of t others → fields ≡ others
record_exact Type1 fields others e = cc
record_exact _ fields others e = cc

-- the fields of a record of a type are selected
pub own_selected : (t : RecordType) (fields : FieldsOf t) → as_type t (record_of t fields) ≡ Some fields
own_selected Type1 fields = refl
own_selected _ fields = refl

-- the two types differ, and a record of the second isn't selected as one of the first
abbrev pub AreApart : RecordType → RecordType → Type 0
AreApart t u = ((byte_of u == byte_of t) ≡ false) × ((fields : FieldsOf u) → as_type t (record_of u fields) ≡ None)

-- two types are one or differ
same_or_apart : (t u : RecordType) → (t ≡ u) ⊎ AreApart t u
same_or_apart Type1 Type1 = inl refl
same_or_apart Type1 _ = inr (refl, λ fields. refl)
same_or_apart Type2 Type2 = inl refl
same_or_apart Type2 _ = inr (refl, λ fields. refl)
same_or_apart Type4 Type4 = inl refl
same_or_apart Type4 _ = inr (refl, λ fields. refl)
same_or_apart Type5 Type5 = inl refl
same_or_apart Type5 _ = inr (refl, λ fields. refl)
same_or_apart Type6 Type6 = inl refl
same_or_apart Type6 _ = inr (refl, λ fields. refl)
same_or_apart Type7 Type7 = inl refl
same_or_apart Type7 _ = inr (refl, λ fields. refl)
same_or_apart Type8 Type8 = inl refl
same_or_apart Type8 _ = inr (refl, λ fields. refl)
same_or_apart TypeI TypeI = inl refl
same_or_apart TypeI _ = inr (refl, λ fields. refl)
same_or_apart TypeP TypeP = inl refl
same_or_apart TypeP _ = inr (refl, λ fields. refl)

-- all types have a property that one type has and that the types have which differ from it
pub every_type : (t : RecordType) (Holds : RecordType → Type 0) → Holds t → ((u : RecordType) → AreApart t u → Holds u)
    → (u : RecordType) → Holds u
every_type t Holds own other u = go (same_or_apart t u)
  where
    go : (t ≡ u) ⊎ AreApart t u → Holds u
    go (inl same) = subst Holds same own
    go (inr apart) = other u apart

-- a record whose fields are selected as fields of a type is the record of this type with these fields
pub record_selected : (t : RecordType) (r : Record) (fields : FieldsOf t) → as_type t r ≡ Some fields → r ≡ record_of t fields
record_selected t r fields = every_record (λ q. as_type t q ≡ Some fields → q ≡ record_of t fields)
    (every_type t (λ u. (others : FieldsOf u) → as_type t (record_of u others) ≡ Some fields → record_of u others ≡ record_of t fields)
    (λ own e. let selected = own_selected t own in let same : own ≡ fields = cc in ap (record_of t) same)
    (λ u apart others e. let unselected = apart.1 others in cc)) r

-- whether there is a value
abbrev pub is_selected : {Y : Type 0} → Option Y → Bool
is_selected None = false
is_selected (Some y) = true

-- a record is selected by the type whose byte it begins with, and by no other
pub selected_by_byte : (t : RecordType) (r : Record) → (type_of r == byte_of t) ≡ is_selected (as_type t r)
selected_by_byte t = every_record (λ r. (type_of r == byte_of t) ≡ is_selected (as_type t r))
    (every_type t (λ u. (fields : FieldsOf u) → (type_of (record_of u fields) == byte_of t) ≡ is_selected (as_type t (record_of u fields)))
    (λ fields. eq-eqb (type_of (record_of t fields)) (byte_of t) (type_of_record t fields) ∙ sym (ap is_selected (own_selected t fields)))
    (λ u apart fields. ap (λ b. b == byte_of t) (type_of_record u fields) ∙ apart.0 ∙ sym (ap is_selected (apart.1 fields))))
