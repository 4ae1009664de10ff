-- The column tables of the nine record types of TIGER/Line 2006, with one row for each field, as in the technical
-- documentation. Columns 1 to 5, the record type and the version, are the same in all and not in the tables. A longitude and
-- the latitude after it are one row. If a turn of the chain exchanges a field with another one, the row has the other field's
-- value last. Rows for fields that name a source and for reserved fields are marked: a mask can leave them out.
use Rattle.std.specs.Prelude.{List, [], ◌∷◌}
use Rattle.tl_layout.specs.ColumnTable.{Filler, Number, NumberOrNone, NumberPlaces, Opaque, Pair, PairOrNone, PointPlaces, Reserved, Row, Sources, row, row_of, row_with_partner}
use Rattle.tl_layout.specs.Fields.{Fields1, Fields2, Fields4, Fields5, Fields6, Fields7, Fields8, FieldsI, FieldsP}

-- Record type 1, 228 bytes: a chain with its two end points.
abbrev pub table_1 : List (Row Fields1)
table_1 =
    row 6 15 Number (λ r. r.tlid)
    ∷ row 16 16 Opaque (λ r. r.body.side1)
    ∷ row_of Sources 17 17 (λ r. r.body.source)
    ∷ row 18 19 Opaque (λ r. r.body.name.fedirp)
    ∷ row 20 49 Opaque (λ r. r.body.name.fename)
    ∷ row 50 53 Opaque (λ r. r.body.name.fetype)
    ∷ row 54 55 Opaque (λ r. r.body.name.fedirs)
    ∷ row 56 58 Opaque (λ r. r.body.cfcc)
    ∷ row_with_partner 59 69 Opaque (λ r. r.body.ranges.fraddl) (λ r. r.body.ranges.toaddr)
    ∷ row_with_partner 70 80 Opaque (λ r. r.body.ranges.toaddl) (λ r. r.body.ranges.fraddr)
    ∷ row_with_partner 81 91 Opaque (λ r. r.body.ranges.fraddr) (λ r. r.body.ranges.toaddl)
    ∷ row_with_partner 92 102 Opaque (λ r. r.body.ranges.toaddr) (λ r. r.body.ranges.fraddl)
    ∷ row_with_partner 103 103 Opaque (λ r. r.body.ranges.friaddl) (λ r. r.body.ranges.toiaddr)
    ∷ row_with_partner 104 104 Opaque (λ r. r.body.ranges.toiaddl) (λ r. r.body.ranges.friaddr)
    ∷ row_with_partner 105 105 Opaque (λ r. r.body.ranges.friaddr) (λ r. r.body.ranges.toiaddl)
    ∷ row_with_partner 106 106 Opaque (λ r. r.body.ranges.toiaddr) (λ r. r.body.ranges.friaddl)
    ∷ row_with_partner 107 111 Opaque (λ r. r.body.ranges.zip.left) (λ r. r.body.ranges.zip.right)
    ∷ row_with_partner 112 116 Opaque (λ r. r.body.ranges.zip.right) (λ r. r.body.ranges.zip.left)
    ∷ row_with_partner 117 121 Opaque (λ r. r.body.native_areas.aianhhfp.left) (λ r. r.body.native_areas.aianhhfp.right)
    ∷ row_with_partner 122 126 Opaque (λ r. r.body.native_areas.aianhhfp.right) (λ r. r.body.native_areas.aianhhfp.left)
    ∷ row_with_partner 127 127 Opaque (λ r. r.body.native_areas.aihhtli.left) (λ r. r.body.native_areas.aihhtli.right)
    ∷ row_with_partner 128 128 Opaque (λ r. r.body.native_areas.aihhtli.right) (λ r. r.body.native_areas.aihhtli.left)
    ∷ row_of Reserved 129 129 (λ r. r.body.census1)
    ∷ row_of Reserved 130 130 (λ r. r.body.census2)
    ∷ row_with_partner 131 132 Opaque (λ r. r.body.entities.state.left) (λ r. r.body.entities.state.right)
    ∷ row_with_partner 133 134 Opaque (λ r. r.body.entities.state.right) (λ r. r.body.entities.state.left)
    ∷ row_with_partner 135 137 Opaque (λ r. r.body.entities.county.left) (λ r. r.body.entities.county.right)
    ∷ row_with_partner 138 140 Opaque (λ r. r.body.entities.county.right) (λ r. r.body.entities.county.left)
    ∷ row_with_partner 141 145 Opaque (λ r. r.body.entities.cousub.left) (λ r. r.body.entities.cousub.right)
    ∷ row_with_partner 146 150 Opaque (λ r. r.body.entities.cousub.right) (λ r. r.body.entities.cousub.left)
    ∷ row_with_partner 151 155 Opaque (λ r. r.body.entities.submcd.left) (λ r. r.body.entities.submcd.right)
    ∷ row_with_partner 156 160 Opaque (λ r. r.body.entities.submcd.right) (λ r. r.body.entities.submcd.left)
    ∷ row_with_partner 161 165 Opaque (λ r. r.body.entities.place.left) (λ r. r.body.entities.place.right)
    ∷ row_with_partner 166 170 Opaque (λ r. r.body.entities.place.right) (λ r. r.body.entities.place.left)
    ∷ row_with_partner 171 176 Opaque (λ r. r.body.entities.tract.left) (λ r. r.body.entities.tract.right)
    ∷ row_with_partner 177 182 Opaque (λ r. r.body.entities.tract.right) (λ r. r.body.entities.tract.left)
    ∷ row_with_partner 183 186 Opaque (λ r. r.body.entities.block.left) (λ r. r.body.entities.block.right)
    ∷ row_with_partner 187 190 Opaque (λ r. r.body.entities.block.right) (λ r. r.body.entities.block.left)
    ∷ row_with_partner 191 209 Pair (λ r. r.start) (λ r. r.end)
    ∷ row_with_partner 210 228 Pair (λ r. r.end) (λ r. r.start)
    ∷ []

-- Record type 2, 208 bytes: up to ten shape points of a chain.
abbrev pub table_2 : List (Row Fields2)
table_2 =
    row 6 15 Number (λ r. r.tlid)
    ∷ row 16 18 Number (λ r. r.rtsq)
    ∷ row 19 208 PointPlaces (λ r. r.points)
    ∷ []

-- Record type 4, 58 bytes: up to five features whose names a chain has besides its own.
abbrev pub table_4 : List (Row Fields4)
table_4 =
    row 6 15 Number (λ r. r.tlid)
    ∷ row 16 18 Number (λ r. r.rtsq)
    ∷ row 19 58 NumberPlaces (λ r. r.feats)
    ∷ []

-- Record type 5, 56 bytes: the name of a feature.
abbrev pub table_5 : List (Row Fields5)
table_5 =
    row 6 10 Opaque (λ r. r.body.file)
    ∷ row 11 18 Number (λ r. r.feat)
    ∷ row 19 20 Opaque (λ r. r.body.name.fedirp)
    ∷ row 21 50 Opaque (λ r. r.body.name.fename)
    ∷ row 51 54 Opaque (λ r. r.body.name.fetype)
    ∷ row 55 56 Opaque (λ r. r.body.name.fedirs)
    ∷ []

-- Record type 6, 76 bytes: further address ranges and ZIP codes of a chain.
abbrev pub table_6 : List (Row Fields6)
table_6 =
    row 6 15 Number (λ r. r.tlid)
    ∷ row 16 18 Number (λ r. r.rtsq)
    ∷ row_with_partner 19 29 Opaque (λ r. r.ranges.fraddl) (λ r. r.ranges.toaddr)
    ∷ row_with_partner 30 40 Opaque (λ r. r.ranges.toaddl) (λ r. r.ranges.fraddr)
    ∷ row_with_partner 41 51 Opaque (λ r. r.ranges.fraddr) (λ r. r.ranges.toaddl)
    ∷ row_with_partner 52 62 Opaque (λ r. r.ranges.toaddr) (λ r. r.ranges.fraddl)
    ∷ row_with_partner 63 63 Opaque (λ r. r.ranges.friaddl) (λ r. r.ranges.toiaddr)
    ∷ row_with_partner 64 64 Opaque (λ r. r.ranges.toiaddl) (λ r. r.ranges.friaddr)
    ∷ row_with_partner 65 65 Opaque (λ r. r.ranges.friaddr) (λ r. r.ranges.toiaddl)
    ∷ row_with_partner 66 66 Opaque (λ r. r.ranges.toiaddr) (λ r. r.ranges.friaddl)
    ∷ row_with_partner 67 71 Opaque (λ r. r.ranges.zip.left) (λ r. r.ranges.zip.right)
    ∷ row_with_partner 72 76 Opaque (λ r. r.ranges.zip.right) (λ r. r.ranges.zip.left)
    ∷ []

-- Record type 7, 74 bytes: a landmark.
abbrev pub table_7 : List (Row Fields7)
table_7 =
    row 6 10 Opaque (λ r. r.body.file)
    ∷ row 11 20 Number (λ r. r.land)
    ∷ row_of Sources 21 21 (λ r. r.body.source)
    ∷ row 22 24 Opaque (λ r. r.body.cfcc)
    ∷ row 25 54 Opaque (λ r. r.body.laname)
    ∷ row 55 73 PairOrNone (λ r. r.body.point)
    ∷ row 74 74 Filler (λ _. tt)
    ∷ []

-- Record type 8, 36 bytes: a polygon that belongs to a landmark.
abbrev pub table_8 : List (Row Fields8)
table_8 =
    row 6 10 Opaque (λ r. r.file)
    ∷ row 11 15 Opaque (λ r. r.cenid)
    ∷ row 16 25 Number (λ r. r.polyid)
    ∷ row 26 35 Number (λ r. r.land)
    ∷ row 36 36 Filler (λ _. tt)
    ∷ []

-- Record type I, 127 bytes: the nodes of a chain and the polygons on its sides.
abbrev pub table_i : List (Row FieldsI)
table_i =
    row 6 10 Opaque (λ r. r.body.file)
    ∷ row 11 20 Number (λ r. r.tlid)
    ∷ row_with_partner 21 30 NumberOrNone (λ r. r.start_node) (λ r. r.end_node)
    ∷ row_with_partner 31 40 NumberOrNone (λ r. r.end_node) (λ r. r.start_node)
    ∷ row_with_partner 41 45 Opaque (λ r. r.left.cenid) (λ r. r.right.cenid)
    ∷ row_with_partner 46 55 NumberOrNone (λ r. r.left.polyid) (λ r. r.right.polyid)
    ∷ row_with_partner 56 60 Opaque (λ r. r.right.cenid) (λ r. r.left.cenid)
    ∷ row_with_partner 61 70 NumberOrNone (λ r. r.right.polyid) (λ r. r.left.polyid)
    ∷ row_of Sources 71 80 (λ r. r.body.source)
    ∷ row 81 97 Opaque (λ r. r.body.ftseg)
    ∷ row_of Reserved 98 107 (λ r. r.body.rs_i1)
    ∷ row_of Reserved 108 117 (λ r. r.body.rs_i2)
    ∷ row_of Reserved 118 127 (λ r. r.body.rs_i3)
    ∷ []

-- Record type P, 45 bytes: a polygon's inner point.
abbrev pub table_p : List (Row FieldsP)
table_p =
    row 6 10 Opaque (λ r. r.body.file)
    ∷ row 11 15 Opaque (λ r. r.cenid)
    ∷ row 16 25 Number (λ r. r.polyid)
    ∷ row 26 44 PairOrNone (λ r. r.body.point)
    ∷ row 45 45 Opaque (λ r. r.body.water)
    ∷ []
