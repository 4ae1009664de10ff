use Rattle.record_groups.proofs.Common.{Decides, YieldsList-from_range, arith, cases_from_all, decides_equal, false, false≢true, group_at, places_from_decide, refl, rules, slice_get, sym, true, ℕ, ◌-◌, ◌∙◌, ◌≡◌}
use Rattle.record_groups.proofs.same_groups.is_same_group.Goals as goal

pub returns-then-count_in-count : goal.returns-then-count_in-count
returns-then-count_in-count g c =
    let xs = group_at (g.G.RecordGroups.groups c.args.a.now) c.args.group in
    let ys = group_at (g.H.RecordGroups.groups c.args.b.now) c.args.group in
    let P = λ (place : ℕ). slice_get xs place ≡ slice_get ys place in
    decides_equal xs ys c.count_in-count.result (sym c.count_in-count.ensures) (sym c.count_in.ensures ∙ cc) c.all.result
    (places_from_decide P 0 c.count_in-count.result (λ i l. absurd (omega (arith, l))) c.all.result
    (cases_from_all _ _ _ P (λ place. P place → ⊥) c.all.ensures.ran
    (YieldsList-from_range 0 c.count_in-count.result (c.count_in-count.result - 0) (cc) refl)
    (λ x q k. let yes : Decides true (P x) = search rules in (search rules, yes.0 refl))
    (λ x q k held. let no : Decides false (P x) = search rules in false≢true (no.1 held))))
