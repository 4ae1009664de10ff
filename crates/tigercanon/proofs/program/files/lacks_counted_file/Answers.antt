use Rattle.tigercanon.proofs.Common.{Bool, Counted, List, Opened, YieldsList-from_slice, [], any_from_yields_List, ap, is_failed, list_any, opened_of, refl, rules, sym, tests, ◌||◌, ◌∙◌, ◌∷◌, ◌≡◌}
use Rattle.tigercanon.proofs.program.files.lacks_counted_file.Goals as goal

one_failed : {R : Type 0} (files : List (Counted (Opened R))) → list_any (λ file. is_failed file.inner) files ≡ list_any is_failed (opened_of files)
one_failed [] = refl
one_failed (f ∷ fs) = ap (λ (b : Bool). is_failed f.inner || b) (one_failed fs)

pub returns-else-is_first_counted_absent : goal.returns-else-is_first_counted_absent
returns-else-is_first_counted_absent g c =
    rw (sym c.is_first_counted_absent.ensures ∙ c.if-is_first_counted_absent.false) (any_from_yields_List (λ file. is_failed file.inner) _ _ c.any.result
    c.any.ensures.ran (YieldsList-from_slice c.args.files.now (cc)) (λ x b q k. search (rules, tests)) ∙ one_failed c.args.files.now)
