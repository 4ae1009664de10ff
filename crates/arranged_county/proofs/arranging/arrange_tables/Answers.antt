use Rattle.arranged_county.proofs.Common.{AreWhole, FitsPlaces, places_fit, whole_arrangement}
use Rattle.arranged_county.proofs.arranging.arrange_tables.Given.{Over}
use Rattle.arranged_county.proofs.arranging.arrange_tables.Goals.{Start}
use Rattle.arranged_county.proofs.arranging.arrange_tables.Goals as goal

fit : (g : Over) (c : Start g) → FitsPlaces (g.C.Chart.county c.args.classes.now.chart.now)
fit g c =
    let chart = c.args.classes.now.chart.now in
    places_fit (g.C.Chart.county chart) (g.met.C.Chart.is_county chart) (g.met.C.Chart.within_limits chart) c.requires.sides

whole : (g : Over) (c : Start g) → AreWhole (g.C.Chart.county c.args.classes.now.chart.now) c.args.arrangement.now
whole g c =
    let chart = c.args.classes.now.chart.now in
    whole_arrangement (g.C.Chart.county chart) c.args.arrangement.now (g.met.C.Chart.is_county chart) (g.met.C.Chart.within_limits chart)
    c.requires.there c.requires.once c.requires.sides (fit g c).chains

pub arrange_nodes_and_polygons-requires-clause-whole : goal.arrange_nodes_and_polygons-requires-clause-whole
arrange_nodes_and_polygons-requires-clause-whole g c = whole g (goal.at.arrange_nodes_and_polygons-requires-clause-whole g c).Start

pub arrange_nodes_and_polygons-requires-clause-few : goal.arrange_nodes_and_polygons-requires-clause-few
arrange_nodes_and_polygons-requires-clause-few g c = (fit g (goal.at.arrange_nodes_and_polygons-requires-clause-few g c).Start).polygons

pub arrange_names_and_landmarks-others-requires-clause-whole : goal.arrange_names_and_landmarks-others-requires-clause-whole
arrange_names_and_landmarks-others-requires-clause-whole g c = whole g (goal.at.arrange_names_and_landmarks-others-requires-clause-whole g c).Start

pub arrange_names_and_landmarks-others-requires-clause-few_names : goal.arrange_names_and_landmarks-others-requires-clause-few_names
arrange_names_and_landmarks-others-requires-clause-few_names g c =
    (fit g (goal.at.arrange_names_and_landmarks-others-requires-clause-few_names g c).Start).names

pub arrange_names_and_landmarks-others-requires-clause-few_landmarks : goal.arrange_names_and_landmarks-others-requires-clause-few_landmarks
arrange_names_and_landmarks-others-requires-clause-few_landmarks g c =
    (fit g (goal.at.arrange_names_and_landmarks-others-requires-clause-few_landmarks g c).Start).landmarks
