-- The names from below that the proofs of this crate cite, passed on from one place. Declares nothing.
pub use Rattle.canonical_lines.specs.SpeltLine.{IsSpeltLine, with_version}
pub use Rattle.canonical_lines.specs.Texts.{IsCoordinateText, IsNumberOrNoneText, IsNumberText, IsNumeral, IsNumeralOrNone, IsPlacesText, IsPointOrNoneText, IsPointText, IsUsedText}
pub use Rattle.canonical_lines.specs.declared.point.TheConstants.{UNUSED}
pub use Rattle.std.proofs.Common.{Bool, List, None, Option, Some, [], ap, append_assoc, arith, bit_and, codes, cond, drop, eqb, false, get_or, inl, inr, length, lit<, lit≤, ltb, map, negsuc, pos, refl, replicate, slice_range, subst, suc, sym, take, true, unsigned_abs, unwrap_or, w8, zero, ℕ, ℤ, ◌%◌, ◌*◌, ◌++◌, ◌+◌, ◌-◌, ◌/◌, ◌<◌, ◌^◌, ◌∙◌, ◌∷◌, ◌≡◌, ◌≤◌, ◌⊎◌}
pub use Rattle.std.proofs.Math.Nat.{pow-succ'}
pub use Rattle.std.proofs.lemmas.Bool.{and_from, and_parts, eqb-false, eqb-true, le-leb, leb-true, ne_eqb}
pub use Rattle.std.proofs.lemmas.List.{append-nil, drop-drop, drop_all, length-append, length-drop, length-map, take-append-drop, take_all}
pub use Rattle.std.proofs.lemmas.List.Folds.{list_all-append}
pub use Rattle.std.proofs.lemmas.Nat.{and_block}
pub use Rattle.std.proofs.lemmas.Simd.{Each1-get_or, bitmask_splat, length-zip2, map-map, mask_l-lt, zip2_splat}
pub use Rattle.std.specs.Int.Bits.{and_self}
pub use Rattle.std.specs.List.{list_all}
pub use Rattle.tl_layout.proofs.CoordinateSteps.{two_and_eight}
pub use Rattle.tl_layout.proofs.PlaceSteps.{same_bytes}
pub use Rattle.tl_layout.proofs.Words.{digit_from, full_mask}
pub use Rattle.tl_layout.specs.Bytes.{IsLine, IsText, columns}
pub use Rattle.tl_layout.specs.Columns.{joined}
pub use Rattle.tl_layout.specs.Coordinates.{Coordinates, IsOnMap}
pub use Rattle.tl_layout.specs.FieldTexts.{number_text, point_place_text, rows_spelling, rows_texts, value_texts}
pub use Rattle.tl_layout.specs.Laws.ColumnLaws.{columns_of_text, joined-before}
pub use Rattle.tl_layout.specs.Laws.NumberTextLaws.{length-number_text, number_below}
pub use Rattle.tl_layout.specs.NumberField.{is_blank, is_digit, value_after}
pub use Rattle.tl_layout.specs.NumberReading.{drop_blanks}
pub use Rattle.tl_layout.specs.Numbers.{IsNumber, IsNumberOrNone}
pub use Rattle.tl_layout.specs.RecordTypes.{FieldsOf, RecordType, Type1, Type2, Type4, Type5, Type6, Type7, Type8, TypeI, TypeP, byte_of, line_length, make_of, table_of}
