use Rattle.std.proofs.Common.{Err, List, Ok, Result, [], inl, inr, ℕ, ◌++◌, ◌∷◌, ◌⊎◌}
use Rattle.tl_load.proofs.Common.{LoadFault, LoadedInto, MatchResult, WasFed, WasFedInto}
use Rattle.tl_load.proofs.Listed.{Records, holds_list, into_of, listed, of_into}
use Rattle.tl_load.proofs.loader.Loader.read_part.Given as given
use Rattle.tl_load.proofs.loader.Loader.read_part.Goals as goal

fed : (g : given.Over) (c : goal.After-buffer-2-1 g) (limit : ℕ) (closed : List (List ℕ)) (open_part : List ℕ)
    → WasFed limit c.args.self.now closed open_part → WasFedInto holds_list limit c.self.inside.inner closed open_part
fed g c limit closed open_part w = into_of limit c.self.inside.inner closed open_part c.self.invariant (rw (← c.self.view_is) at w)

read : (limit : ℕ) (l : LoadedInto Records) (at_end : Type 0) (closed : List (List ℕ)) (part : List ℕ) (r : Result (Unit {0}) LoadFault)
    → MatchResult r (λ _. at_end × WasFedInto holds_list limit l (closed ++ part ∷ []) [])
    (λ _. (at_end × WasFedInto holds_list limit l (closed ++ part ∷ []) []) ⊎ WasFedInto holds_list limit l closed part)
    → MatchResult r (λ _. at_end × WasFed limit (listed l) (closed ++ part ∷ []) [])
    (λ _. (at_end × WasFed limit (listed l) (closed ++ part ∷ []) []) ⊎ WasFed limit (listed l) closed part)
read limit l at_end closed part (Ok x) h = (h.0, of_into limit l (closed ++ part ∷ []) [] h.1)
read limit l at_end closed part (Err f) (inl h) = inl (h.0, of_into limit l (closed ++ part ∷ []) [] h.1)
read limit l at_end closed part (Err f) (inr h) = inr (of_into limit l closed part h)

pub returns-clause-fed : goal.returns-clause-fed
returns-clause-fed g c =
    let r = c.read_part_by.ensures.fed in (
      r.0,
      r.1,
      r.2,
      λ limit closed open_part w. read limit c.read_part_by.new.self _ closed (open_part ++ r.0) c.read_part_by.result
          (r.3 limit closed open_part (fed g c limit closed open_part w)),
    )
