use Rattle.arranged_county.proofs.Common.{Some, directed_chain, ends_of, map, option_map, sides_of, take, ◌≡◌}
use Rattle.arranged_county.proofs.first_appearance.topologies_along.Given as goal

abbrev pub invariant-loop-directed : goal.invariant-loop-directed
invariant-loop-directed g l =
    (map Some l.ends.items ≡ map (λ directed. option_map ends_of (directed_chain (g.C.Chart.county l.chart) directed)) (take l.directed-index l.arrangement))
    × (map Some l.sides.items ≡ map (λ directed. option_map sides_of (directed_chain (g.C.Chart.county l.chart) directed)) (take l.directed-index l.arrangement))
