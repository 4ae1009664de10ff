-- The records of one type in a list of records, in their order.
use Rattle.std.specs.Prelude.{List, filter, ℕ, ◌==◌}
use Rattle.tl_layout.specs.Fields.{Fields1, Fields2, Fields4, Fields5, Fields6, Fields7, Fields8, FieldsI, FieldsP}
use Rattle.tl_layout.specs.RecordTypes.{Type1, Type2, Type4, Type5, Type6, Type7, Type8, TypeI, TypeP, of_type}
use Rattle.tl_layout.specs.declared.record_type.Record.{Record}

abbrev pub of_type_1 : List Record → List Fields1
of_type_1 = of_type Type1

abbrev pub of_type_2 : List Record → List Fields2
of_type_2 = of_type Type2

abbrev pub of_type_4 : List Record → List Fields4
of_type_4 = of_type Type4

abbrev pub of_type_5 : List Record → List Fields5
of_type_5 = of_type Type5

abbrev pub of_type_6 : List Record → List Fields6
of_type_6 = of_type Type6

abbrev pub of_type_7 : List Record → List Fields7
of_type_7 = of_type Type7

abbrev pub of_type_8 : List Record → List Fields8
of_type_8 = of_type Type8

abbrev pub of_type_i : List Record → List FieldsI
of_type_i = of_type TypeI

abbrev pub of_type_p : List Record → List FieldsP
of_type_p = of_type TypeP

-- the elements with this number
abbrev pub of_number : {X : Type 0} → (X → ℕ) → ℕ → List X → List X
of_number number n xs = filter (λ x. number x == n) xs
