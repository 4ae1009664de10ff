-- The keys of a chain are those that are read at its ends and on its sides.
use Rattle.tl_number.proofs.Common.{Chain, None, Option, Some, append-nil, ap₂, chain_nodes, chain_polygons, flat_map, key_on, option_flatten, option_map, option_to_list, refl, sym, ◌++◌, ◌∙◌, ◌≡◌}

pub nodes_read : (o : Option Chain) → option_to_list (option_flatten (option_map (λ chain. chain.start_node) o))
    ++ option_to_list (option_flatten (option_map (λ chain. chain.end_node) o)) ≡ flat_map chain_nodes (option_to_list o)
nodes_read None = refl
nodes_read (Some chain) = sym (append-nil (chain_nodes chain))

pub polygons_read : (o : Option Chain) → flat_map key_on (option_to_list (option_map (λ chain. chain.left) o))
    ++ flat_map key_on (option_to_list (option_map (λ chain. chain.right) o)) ≡ flat_map chain_polygons (option_to_list o)
polygons_read None = refl
polygons_read (Some chain) = ap₂ (λ xs ys. xs ++ ys) (append-nil (key_on chain.left)) (append-nil (key_on chain.right)) ∙ sym (append-nil (chain_polygons chain))
