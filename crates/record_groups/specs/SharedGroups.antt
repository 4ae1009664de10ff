-- What two counties with the same records share.
use Rattle.std.specs.Prelude.{length, ◌≡◌}
use Rattle.county_chart.specs.County.{County}
use Rattle.record_groups.specs.CountyGroups.{type_1_by_chain, type_2_by_chain, type_4_by_chain, type_5_by_name, type_6_by_chain, type_7_by_landmark, type_8_together, type_i_by_chain, type_p_by_number}

-- equally many chains, names, polygons and landmarks
pub record HaveSameCounts (a b : County) : Type 0 where
  pub chains : length a.chains ≡ length b.chains
  pub names : length a.names ≡ length b.names
  pub polygons : length a.polygons ≡ length b.polygons
  pub landmarks : length a.landmarks ≡ length b.landmarks

-- the same records of types 1 and I for each chain, which has one of each
pub record HaveSameSingleRecords (a b : County) : Type 0 where
  pub chains : type_1_by_chain a ≡ type_1_by_chain b
  pub links : type_i_by_chain a ≡ type_i_by_chain b

-- the same records of types 2, 4 and 6 for each chain, which may have any number of them
pub record HaveSameLists (a b : County) : Type 0 where
  pub shape_points : type_2_by_chain a ≡ type_2_by_chain b
  pub further_names : type_4_by_chain a ≡ type_4_by_chain b
  pub ranges : type_6_by_chain a ≡ type_6_by_chain b

-- the same records for each chain
pub record HaveSameChains (a b : County) : Type 0 where
  pub heads : HaveSameSingleRecords a b
  pub lists : HaveSameLists a b

-- the same records of types 7 and 8 for each landmark
pub record HaveSameLandmarks (a b : County) : Type 0 where
  pub landmarks : type_7_by_landmark a ≡ type_7_by_landmark b
  pub landmark_links : type_8_together a ≡ type_8_together b

-- the same records for each name, each landmark and each polygon
pub record HaveSameEntries (a b : County) : Type 0 where
  pub names : type_5_by_name a ≡ type_5_by_name b
  pub landmarks : HaveSameLandmarks a b
  pub polygons : type_p_by_number a ≡ type_p_by_number b
