-- The groups of columns in the content of record type 1: the widths of their fields, their columns in a line, and the texts
-- that they are written as.
use Rattle.std.specs.Prelude.{List, [], ℕ, ◌++◌, ◌∷◌}
use Rattle.tl_layout.specs.AddressRanges.{FitsRanges, ranges_at, ranges_texts}
use Rattle.tl_layout.specs.Bytes.{IsText, columns}
use Rattle.tl_layout.specs.Coordinates.{Coordinates}
use Rattle.tl_layout.specs.FieldTexts.{coordinate_text}
use Rattle.tl_layout.specs.Names.{FitsName, feature_name_at, name_texts}
use Rattle.tl_layout.specs.Pairs.{FitsPair, pair_at, pair_texts}
use Rattle.tl_layout.specs.declared.type1.fields.Body1Fields.{Body1Fields}
use Rattle.tl_layout.specs.declared.type1.fields.GeographicEntities.{GeographicEntities}
use Rattle.tl_layout.specs.declared.type1.fields.NativeAreas.{NativeAreas}

pub record FitsNativeAreas (areas : NativeAreas) : Type 0 where
  pub aianhhfp : FitsPair 5 areas.aianhhfp
  pub aihhtli : FitsPair 1 areas.aihhtli

pub record FitsEntities (entities : GeographicEntities) : Type 0 where
  pub state : FitsPair 2 entities.state
  pub county : FitsPair 3 entities.county
  pub cousub : FitsPair 5 entities.cousub
  pub submcd : FitsPair 5 entities.submcd
  pub place : FitsPair 5 entities.place
  pub tract : FitsPair 6 entities.tract
  pub block : FitsPair 4 entities.block

-- each field of the content has its width
pub record FitsBody1 (body : Body1Fields) : Type 0 where
  pub side1 : IsText 1 body.side1
  pub source : IsText 1 body.source
  pub name : FitsName body.name
  pub cfcc : IsText 3 body.cfcc
  pub ranges : FitsRanges body.ranges
  pub native_areas : FitsNativeAreas body.native_areas
  pub census1 : IsText 1 body.census1
  pub census2 : IsText 1 body.census2
  pub entities : FitsEntities body.entities

-- the geographic entities in the columns of a line
unfoldable pub entities_at : List ℕ → GeographicEntities
entities_at line =
    record {
      state = pair_at 2 131 line;
      county = pair_at 3 135 line;
      cousub = pair_at 5 141 line;
      submcd = pair_at 5 151 line;
      place = pair_at 5 161 line;
      tract = pair_at 6 171 line;
      block = pair_at 4 183 line;
    }

-- the content in the columns of a line
unfoldable pub body_1_at : List ℕ → Body1Fields
body_1_at line =
    record {
      side1 = columns 16 16 line;
      source = columns 17 17 line;
      name = feature_name_at 18 line;
      cfcc = columns 56 58 line;
      ranges = ranges_at 59 line;
      native_areas = record { aianhhfp = pair_at 5 117 line; aihhtli = pair_at 1 127 line };
      census1 = columns 129 129 line;
      census2 = columns 130 130 line;
      entities = entities_at line;
    }

-- the texts of the geographic entities
abbrev pub entities_texts : GeographicEntities → List (List ℕ)
entities_texts entities =
    pair_texts 2 entities.state ++ pair_texts 3 entities.county ++ pair_texts 5 entities.cousub ++ pair_texts 5 entities.submcd
    ++ pair_texts 5 entities.place ++ pair_texts 6 entities.tract ++ pair_texts 4 entities.block

-- the texts of the content
abbrev pub body_1_texts : Body1Fields → List (List ℕ)
body_1_texts body =
    body.side1 ∷ body.source ∷ (name_texts body.name ++ body.cfcc ∷ ranges_texts body.ranges ++ pair_texts 5 body.native_areas.aianhhfp
    ++ pair_texts 1 body.native_areas.aihhtli ++ body.census1 ∷ body.census2 ∷ entities_texts body.entities)

-- the texts of a point
abbrev pub point_texts : Coordinates → List (List ℕ)
point_texts point = coordinate_text 9 point.long ∷ coordinate_text 8 point.lat ∷ []
