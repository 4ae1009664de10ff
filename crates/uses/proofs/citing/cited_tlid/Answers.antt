use Rattle.std.proofs.Common.{Err, IfOk, IfSome, None, Ok, Option, Result, Some, [], ◌∷◌}
use Rattle.uses.proofs.Cited.{carried_through}
use Rattle.uses.proofs.citing.cited_tlid.Goals as goal

-- the consequence of two properties of an optional result
both : {X E : Type 0} (r : Result (Option X) E) {P Q R : X → Type 0} → IfOk r (λ o. IfSome o P) → IfOk r (λ o. IfSome o Q)
    → ((x : X) → P x → Q x → R x) → IfOk r (λ o. IfSome o R)
both (Err e) p q h = tt
both (Ok None) p q h = tt
both (Ok (Some x)) p q h = h x p q

pub returns : goal.returns
returns c =
    let file = c.args.file.now ∷ [] in
    let other = c.args.other.now ∷ [] in
    both c.tlid_through.result c.tlid_through.ensures.same c.tlid_through.ensures.renaming (λ new same onto. (
      onto.0,
      carried_through c.spelled_or_one_fault.ensures c.linked_records_have_a_well_formed_county.ensures file other _ _ same _ _ onto.0
          c.in_ok-cited.ensures.carries c.in_ok-kept.ensures.carries onto.1,
      onto.2,
    ))
