-- A list whose records stand type after type, by the list of all types and by the lists of the records of each type.
use Rattle.canonical_form.proofs.Common.{FieldsOf, List, None, Option, Record, RecordType, Some, Type1, Type2, Type4, Type5, Type6, Type7, Type8, TypeI, TypeP, [], append-nil, ap₂, as_type, by_type, cond, cons_option, filter, flat_map, is_some, map, of_type, record_of, refl, sym, type_after_type, types, ◌++◌, ◌∙◌, ◌∷◌, ◌≡◌}
use Rattle.tl_layout.specs.Laws.RecordTypeLaws.{record_selected}

-- the records of a type, as records of any type
own_records : (t : RecordType) (records : List Record)
    → map (record_of t) (of_type t records) ≡ filter (λ r. is_some (as_type t r)) records
own_records t [] = refl
own_records t (r ∷ records) = go (as_type t r) refl (own_records t records)
  where
    go : (o : Option (FieldsOf t)) → as_type t r ≡ o
        → map (record_of t) (of_type t records) ≡ filter (λ q. is_some (as_type t q)) records
        → map (record_of t) (cons_option o (of_type t records))
        ≡ cond (is_some o) (r ∷ filter (λ q. is_some (as_type t q)) records) (filter (λ q. is_some (as_type t q)) records)
    go None e rest = rest
    go (Some fields) e rest = ap₂ (λ x xs. x ∷ xs) (sym (record_selected t r fields e)) rest

-- the lists of all types, one after the other, are the records of each of the types in their order
pub type_by_type : (records : List Record)
    → type_after_type (by_type records) ≡ flat_map (λ t. filter (λ r. is_some (as_type t r)) records) types
type_by_type records = λ i. own_records Type1 records i ++ (own_records Type2 records i ++ (own_records Type4 records i ++
    (own_records Type5 records i ++ (own_records Type6 records i ++ (own_records Type7 records i ++ (own_records Type8 records i ++
    (own_records TypeI records i ++ last i)))))))
  where
    last : map (record_of TypeP) (of_type TypeP records) ≡ filter (λ r. is_some (as_type TypeP r)) records ++ []
    last = own_records TypeP records ∙ sym (append-nil (filter (λ r. is_some (as_type TypeP r)) records))
