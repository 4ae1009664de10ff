use Rattle.tl_load.proofs.Common.{Each1, chunk, length, length-chunk, length-zip2, map, replicate, rules, subst, zip2, zip2_of_maps, zip2_splat, ◌%◌, ◌+◌, ◌≡◌, ◌≤◌}
use Rattle.tl_load.proofs.Lanes.{clean_at}
use Rattle.tl_load.proofs.bytes.past_controls.Goals as goal

pub returns-clause-long : goal.returns-clause-long
returns-clause-long c = search (rules, length-chunk, length-zip2)

pub returns-clause-clean : goal.returns-clause-clean
returns-clause-clean c each k from below =
    let bytes = c.args.bytes.now in
    let block = chunk c.args.at 32 bytes in
    let long : length block ≡ 32 = length-chunk c.args.at 32 bytes c.requires in
    let next = zip2 (λ a b. (a + b) % 256) block (replicate 32 1) in
    let next_is : next ≡ map (λ b. (b + 1) % 256) block = zip2_splat (λ a b. (a + b) % 256) block 32 1 long in
    clean_at bytes c.args.at c.requires
    (subst (λ lanes. Each1 (λ x. 66 ≤ x) lanes)
    (zip2_of_maps (λ a b. (a + b) % 256) (λ b. (b + 1) % 256) (λ b. (b + 1) % 256) block next_is next_is) each)
    k from below (c.type_inv.bytes k).fits
