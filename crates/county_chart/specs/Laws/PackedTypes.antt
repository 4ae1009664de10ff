-- The records of each type of a packed county.
use Rattle.std.proofs.Common.{List, [], ap, append-nil, ap₂, cond, map, refl, sym, ◌++◌, ◌==◌, ◌∙◌, ◌∷◌, ◌≡◌}
use Rattle.std.proofs.lemmas.Bool.{eq-eqb}
use Rattle.std.proofs.lemmas.List.Elements.{filter_map-append}
use Rattle.tl_layout.specs.RecordTypes.{FieldsOf, ListsByType, RecordType, Type1, Type2, Type4, Type5, Type6, Type7, Type8, TypeI, TypeP, as_type, byte_of, later_types, listed_by_type, of_type, record_of}
use Rattle.tl_layout.specs.Laws.RecordTypeLaws.{every_type, own_selected}
use Rattle.county_chart.specs.Packing.{Typed, by_type, type_after_type}
use Rattle.ordered_lists.proofs.Lists.Elements.{selected_none, selected_own}

-- the records of each type, as a function of the type
abbrev pub lists_of : Typed → ListsByType
lists_of t Type1 = t.of_type_1
lists_of t Type2 = t.of_type_2
lists_of t Type4 = t.of_type_4
lists_of t Type5 = t.of_type_5
lists_of t Type6 = t.of_type_6
lists_of t Type7 = t.of_type_7
lists_of t Type8 = t.of_type_8
lists_of t TypeI = t.of_type_i
lists_of t TypeP = t.of_type_p

module _ (lists : ListsByType) where
  -- the records of type t in the list of type u: all or none
  abbrev own_or_none : (t u : RecordType) → List (FieldsOf t)
  own_or_none t u = cond (byte_of u == byte_of t) (lists t) []

  of_one_type : (t u : RecordType) → of_type t (map (record_of u) (lists u)) ≡ own_or_none t u
  of_one_type t = every_type t (λ u. of_type t (map (record_of u) (lists u)) ≡ own_or_none t u)
      (selected_own (as_type t) (record_of t) (own_selected t) (lists t)
      ∙ sym (ap (λ b. cond b (lists t) []) (eq-eqb (byte_of t) (byte_of t) refl)))
      (λ u apart. selected_none (as_type t) (record_of u) apart.1 (lists u) ∙ sym (ap (λ b. cond b (lists t) []) apart.0))

  -- of the lists of several types, the records of type t
  abbrev own_alone : (t u : RecordType) → List RecordType → List (FieldsOf t)
  own_alone t u [] = own_or_none t u
  own_alone t u (v ∷ vs) = own_or_none t u ++ own_alone t v vs

  of_several_types : (t u : RecordType) (us : List RecordType) → of_type t (listed_by_type lists u us) ≡ own_alone t u us
  of_several_types t u [] = of_one_type t u
  of_several_types t u (v ∷ vs) =
      filter_map-append (as_type t) (map (record_of u) (lists u)) (listed_by_type lists v vs)
      ∙ ap₂ (λ xs ys. xs ++ ys) (of_one_type t u) (of_several_types t v vs)

  -- each type stands once among all types
  own_once : (t : RecordType) → own_alone t Type1 later_types ≡ lists t
  own_once TypeP = refl
  own_once t = append-nil (lists t)

-- the records of a type, if the records are listed type after type
pub of_its_type : (typed : Typed) (t : RecordType) → of_type t (type_after_type typed) ≡ lists_of typed t
of_its_type typed t = of_several_types (lists_of typed) t Type1 later_types ∙ own_once (lists_of typed) t

-- the records of each type, if the records are listed type after type
pub by_type_of : (t : Typed) → by_type (type_after_type t) ≡ t
by_type_of t = λ i. record {
  of_type_1 = of_its_type t Type1 i;
  of_type_2 = of_its_type t Type2 i;
  of_type_4 = of_its_type t Type4 i;
  of_type_5 = of_its_type t Type5 i;
  of_type_6 = of_its_type t Type6 i;
  of_type_7 = of_its_type t Type7 i;
  of_type_8 = of_its_type t Type8 i;
  of_type_i = of_its_type t TypeI i;
  of_type_p = of_its_type t TypeP i;
}
