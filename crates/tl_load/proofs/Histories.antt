-- What a loader was fed after each call.
use Rattle.tl_load.proofs.Common.{All, AreCounted, AreKept, Closes, Ends, Err, FaultAt, HasLoaded, IfErr, IsFaultHowever, IsOfLines, IsPartClosed, IsSamePart, IsWellAfter, IsWellSoFar, IsWithoutLineFeed, Lifts, List, LoadFault, Loaded, LoadedInto, MatchOption, MatchResult, None, Ok, OnOk, Option, PlacedLine, ReadsPart, Record, Result, Some, SpellsWithin, Takes, TakesLines, WasFedInto, [], all_parts, ap, append-nil, append_assoc, arith, common_steps, flat_map-append, inl, inr, length, length-append, length-map, lines, map, most_unfinished, outcome, placed_lines, refl, replicate, rules, seen, subst, sym, tiger, to_end, with_fault, without_return, ℕ, ◌++◌, ◌+◌, ◌then_with◌, ◌∙◌, ◌∷◌, ◌≡◌, ◌≤◌, ◌⊎◌}
use Rattle.tl_load.proofs.Reading.{accepts_from_outcome, fault_from_outcome, outcome_after-append, outcome_from_accepts}
use Rattle.tl_load.proofs.Runs.{lines_after, numbered_lines-append, parts-append}
use Rattle.tl_load.proofs.Counts.{none_counted}
use Rattle.tl_load.proofs.LineLemmas.{lines_none}
use Rattle.tl_load.proofs.RecordLines.{tiger_is_sound}
use Rattle.tl_load.proofs.Steps.{comes_at_end}
use Rattle.tl_load.specs.Loaded.{with_line_feeds}
use Rattle.tl_load.specs.Outcome.{outcome_after}
use Rattle.tl_load.specs.Places.{lines_from_part, numbered_lines}
use Rattle.tl_load.specs.Steps.{to_come}
use Rattle.tl_load.specs.declared.fault.LoadFault.TheVariants as faults

pub at_none : {A : Type 0} (P : Type 0) (Q : A → Type 0) (o : Option A) → o ≡ None → MatchOption o P Q → P
at_none P Q None e h = h
at_none P Q (Some x) e h = absurd cc

at_some : {A : Type 0} (P : Type 0) (Q : A → Type 0) (o : Option A) (x : A) → o ≡ Some x → MatchOption o P Q → Q x
at_some P Q None x e h = absurd cc
at_some P Q (Some y) x e h = let same : y ≡ x = cc in subst Q same h

pub from_none : {A : Type 0} (P : Type 0) (Q : A → Type 0) (o : Option A) → o ≡ None → P → MatchOption o P Q
from_none P Q None e h = h
from_none P Q (Some x) e h = absurd cc

from_some : {A : Type 0} (P : Type 0) (Q : A → Type 0) (o : Option A) (x : A) → o ≡ Some x → Q x → MatchOption o P Q
from_some P Q None x e h = absurd cc
from_some P Q (Some y) x e h = let same : x ≡ y = cc in subst Q same h

-- ---- a loader of a list

-- an empty part has no lines
no_lines : (n : ℕ) → lines_from_part n ([] ∷ []) ≡ []
unfolding lines_from_part numbered_lines
no_lines n = ap (λ (l : List (List ℕ)). numbered_lines n 1 l ++ []) lines_none

-- the lines of closed parts and of lines that have ended in the next part, followed by others
ended_then : (closed : List (List ℕ)) (ended : List (List ℕ)) (rest : List ℕ) (later : List (List ℕ)) → All IsWithoutLineFeed ended
    → placed_lines (closed ++ (with_line_feeds ended ++ rest) ∷ later)
    ≡ placed_lines (closed ++ with_line_feeds ended ∷ []) ++
    (numbered_lines (1 + length closed) (1 + length ended) (lines rest) ++ lines_from_part (1 + length closed + 1) later)
unfolding lines_from_part
ended_then closed ended rest later apart =
    let n = 1 + length closed in
    let first = numbered_lines n 1 (map without_return ended) in
    let place : 1 + length (map without_return ended) ≡ 1 + length ended = omega (arith, length-map ended without_return) in
    let alone : lines (with_line_feeds ended) ≡ map without_return ended =
    ap lines (sym (append-nil (with_line_feeds ended))) ∙ lines_after ended [] apart
    ∙ ap (λ (l : List (List ℕ)). map without_return ended ++ l) lines_none ∙ append-nil (map without_return ended) in
    let before : placed_lines (closed ++ with_line_feeds ended ∷ []) ≡ lines_from_part 1 closed ++ first =
    search (rules, parts-append, append-nil) in
    parts-append 1 closed ((with_line_feeds ended ++ rest) ∷ later)
    ∙ ap (λ (l : List (List ℕ)). lines_from_part 1 closed ++ (numbered_lines n 1 l ++ lines_from_part (n + 1) later))
    (lines_after ended rest apart)
    ∙ ap (λ (l : List PlacedLine). lines_from_part 1 closed ++ (l ++ lines_from_part (n + 1) later))
    (numbered_lines-append n 1 (map without_return ended) (lines rest))
    ∙ ap (λ (k : ℕ). lines_from_part 1 closed ++ ((first ++ numbered_lines n k (lines rest)) ++ lines_from_part (n + 1) later)) place
    ∙ ap (λ (l : List PlacedLine). lines_from_part 1 closed ++ l)
    (append_assoc first (numbered_lines n (1 + length ended) (lines rest)) (lines_from_part (n + 1) later))
    ∙ sym (append_assoc (lines_from_part 1 closed) first (numbered_lines n (1 + length ended) (lines rest) ++ lines_from_part (n + 1)
    later))
    ∙ ap (λ (l : List PlacedLine). l ++ (numbered_lines n (1 + length ended) (lines rest) ++ lines_from_part (n + 1) later)) (sym before)

-- the result for parts whose beginning was loaded
comes_after : (limit : ℕ) (l : Loaded) (closed : List (List ℕ)) (open_part rest : List ℕ) (later : List (List ℕ)) → l.limit ≡ limit
    → (h : HasLoaded limit l closed open_part)
    → outcome tiger limit (closed ++ (with_line_feeds h.ended ++ rest) ∷ later) ≡ outcome_after tiger l.limit l.records
    (numbered_lines (l.parts + 1) (l.judged + 1) (lines rest) ++ lines_from_part (l.parts + 1 + 1) later)
comes_after limit l closed open_part rest later same h =
    let parts : 1 + length closed ≡ l.parts + 1 = omega (arith, h.parts_are) in
    let judged : 1 + length h.ended ≡ l.judged + 1 = omega (arith, h.judged_are) in
    ap (outcome_after tiger limit []) (ended_then closed h.ended rest later h.lines_are.each_ended)
    ∙ outcome_after-append tiger limit [] (placed_lines (closed ++ with_line_feeds h.ended ∷ []))
    (numbered_lines (1 + length closed) (1 + length h.ended) (lines rest) ++ lines_from_part (1 + length closed + 1) later)
    ∙ ap (λ (r : Result (List Record) LoadFault). r then_with λ records. outcome_after tiger limit records
    (numbered_lines (1 + length closed) (1 + length h.ended) (lines rest) ++ lines_from_part (1 + length closed + 1) later))
    (outcome_from_accepts tiger tiger_is_sound limit (closed ++ with_line_feeds h.ended ∷ []) l.records h.accepts)
    ∙ ap (λ (k : ℕ). outcome_after tiger limit l.records (numbered_lines k (1 + length h.ended) (lines rest) ++ lines_from_part (k + 1)
    later))
    parts
    ∙ ap (λ (k : ℕ). outcome_after tiger limit l.records
    (numbered_lines (l.parts + 1) k (lines rest) ++ lines_from_part (l.parts + 1 + 1) later)) judged
    ∙ ap (λ (k : ℕ). outcome_after tiger k l.records (numbered_lines (l.parts + 1) (l.judged + 1) (lines rest) ++ lines_from_part
    (l.parts + 1 + 1) later)) (sym same)

pub comes_of : (limit : ℕ) (l : Loaded) (closed : List (List ℕ)) (open_part : List ℕ) (more : List ℕ) (later : List (List ℕ))
    → l.limit ≡ limit → HasLoaded limit l closed open_part
    → outcome tiger limit (closed ++ (open_part ++ more) ∷ later) ≡ to_come l more later
unfolding to_come
comes_of limit l closed open_part more later same h =
    ap (λ (b : List ℕ). outcome tiger limit (closed ++ b ∷ later)) (ap (λ (b : List ℕ). b ++ more) h.lines_are.bytes_are
    ∙ append_assoc (with_line_feeds h.ended) l.unfinished more)
    ∙ comes_after limit l closed open_part (l.unfinished ++ more) later same h

-- further lines that end are loaded
loaded_more : (limit : ℕ) (before after : Loaded) (closed : List (List ℕ)) (open_part bytes : List ℕ) → before.limit ≡ limit
    → HasLoaded limit before closed open_part → TakesLines before bytes after → HasLoaded limit after closed (open_part ++ bytes)
unfolding lines_from_part
loaded_more limit before after closed open_part bytes same h t = record {
  ended = h.ended ++ t.ended;
  lines_are = grind (arith, common_steps, append_assoc, joined);
  parts_are = t.parts_are ∙ h.parts_are;
  judged_are = omega (arith, h.judged_are, t.judged_are, length-append h.ended t.ended);
  accepts = accepts_from_outcome tiger tiger_is_sound limit _ after.records
      (ap (λ (b : List ℕ). outcome tiger limit (closed ++ b ∷ [])) joined
      ∙ comes_after limit before closed open_part (with_line_feeds t.ended) [] same h
      ∙ ap (λ (ls : List PlacedLine). outcome_after tiger before.limit before.records ls)
      (append-nil (numbered_lines (before.parts + 1) (before.judged + 1) (lines (with_line_feeds t.ended))))
      ∙ ap (λ (ls : List (List ℕ)). outcome_after tiger before.limit before.records
      (numbered_lines (before.parts + 1) (before.judged + 1) ls))
      alone
      ∙ t.reads);
}
  where
    joined : with_line_feeds (h.ended ++ t.ended) ≡ with_line_feeds h.ended ++ with_line_feeds t.ended
    joined = flat_map-append (λ (line : List ℕ). line ++ 10 ∷ []) h.ended t.ended

    alone : lines (with_line_feeds t.ended) ≡ map without_return t.ended
    alone = ap lines (sym (append-nil (with_line_feeds t.ended))) ∙ lines_after t.ended [] t.lines_are.each_ended
        ∙ ap (λ (l : List (List ℕ)). map without_return t.ended ++ l) lines_none ∙ append-nil (map without_return t.ended)

-- a part that ends is loaded
loaded_closed : (limit : ℕ) (before after : Loaded) (closed : List (List ℕ)) (open_part : List ℕ) → before.limit ≡ limit
    → HasLoaded limit before closed open_part → IsPartClosed before after → HasLoaded limit after (closed ++ open_part ∷ []) []
unfolding lines_from_part numbered_lines
loaded_closed limit before after closed open_part same h c = record {
  ended = [];
  lines_are = search rules;
  parts_are = omega (arith, c.parts_are, h.parts_are, length-append closed (open_part ∷ []));
  judged_are = c.none_judged;
  accepts = accepts_from_outcome tiger tiger_is_sound limit _ after.records
      (ap (outcome_after tiger limit []) (empty_last closed open_part)
      ∙ ap (λ (b : List ℕ). outcome tiger limit (closed ++ b ∷ [])) h.lines_are.bytes_are
      ∙ comes_after limit before closed open_part before.unfinished [] same h
      ∙ ap (λ (ls : List PlacedLine). outcome_after tiger before.limit before.records ls)
      (append-nil (numbered_lines (before.parts + 1) (before.judged + 1) (lines before.unfinished)))
      ∙ c.reads);
}
  where
    no_lines : (n : ℕ) → lines_from_part n ([] ∷ []) ≡ []
    no_lines n = ap (λ (l : List (List ℕ)). numbered_lines n 1 l ++ []) lines_none

    empty_last : (parts : List (List ℕ)) (part : List ℕ)
        → placed_lines ((parts ++ part ∷ []) ++ [] ∷ []) ≡ placed_lines (parts ++ part ∷ [])
    empty_last parts part = search (rules, parts-append, no_lines, append-nil)

pub well_of : (limit : ℕ) (l : Loaded) (closed : List (List ℕ)) (open_part : List ℕ) → HasLoaded limit l closed open_part
    → length l.unfinished ≤ most_unfinished → IsWellSoFar limit closed open_part
well_of limit l closed open_part h short =
    record { ended = h.ended; unfinished = l.unfinished; lines_are = h.lines_are; records = l.records; accepts = h.accepts; short = short }

-- the fault of the step is the fault of the parts
fault_more : (limit : ℕ) (l : Loaded) (closed : List (List ℕ)) (open_part bytes : List ℕ) (f : LoadFault) → l.limit ≡ limit
    → HasLoaded limit l closed open_part → ((more : List ℕ) (later : List (List ℕ)) → to_come l (bytes ++ more) later ≡ Err f)
    → IsFaultHowever limit closed (open_part ++ bytes) f
fault_more limit l closed open_part bytes f same h comes more later =
    fault_from_outcome tiger tiger_is_sound limit _ f
    (ap (λ (b : List ℕ). outcome tiger limit (closed ++ b ∷ later)) (append_assoc open_part bytes more)
    ∙ comes_of limit l closed open_part (bytes ++ more) later same h ∙ comes more later)

one_more : (closed : List (List ℕ)) (part more : List ℕ) (later : List (List ℕ))
    → (closed ++ part ∷ []) ++ ([] ++ more) ∷ later ≡ closed ++ part ∷ (more ∷ later)
one_more closed part more later = append_assoc closed (part ∷ []) (more ∷ later)

fault_closed : (limit : ℕ) (l : Loaded) (closed : List (List ℕ)) (open_part bytes : List ℕ) (f : LoadFault) → l.limit ≡ limit
    → HasLoaded limit l closed open_part → ((later : List (List ℕ)) → to_come l bytes later ≡ Err f)
    → IsFaultHowever limit (closed ++ (open_part ++ bytes) ∷ []) [] f
fault_closed limit l closed open_part bytes f same h comes more later =
    fault_from_outcome tiger tiger_is_sound limit _ f (ap (outcome tiger limit) (one_more closed (open_part ++ bytes) more later)
    ∙ comes_of limit l closed open_part bytes (more ∷ later) same h ∙ comes (more ∷ later))

-- ---- a loader over a collector

pub with_fault_reported : {K T : Type 0} (result : Result T LoadFault) (l : LoadedInto K)
    → IfErr result (λ f. (with_fault result l).fault ≡ Some f)
with_fault_reported (Ok x) l = tt
with_fault_reported (Err f) l = refl

-- a loader that was fed nothing
pub fed_nothing : {K : Type 0} (holds : K → List Record → Type 0) (limit : ℕ) (kept : K) (counts unfinished : List ℕ) → holds kept []
    → counts ≡ replicate {A = ℕ} 128 0 → unfinished ≡ []
    → WasFedInto holds limit (record {
      kept = kept;
      counts = counts;
      parts = 0;
      judged = 0;
      unfinished = unfinished;
      limit = limit;
      fault =
          None;
    }) [] []
unfolding lines_from_part outcome_after
fed_nothing holds limit kept counts unfinished empty none open_is = record {
  limit_is = refl;
  comes = (
    [],
    record { held = empty; counted = subst (λ (l : List ℕ). AreCounted l []) (sym none) none_counted },
    record {
      ended = [];
      lines_are = search rules;
      parts_are = refl;
      judged_are = refl;
      accepts = accepts_from_outcome tiger tiger_is_sound limit ([] ∷ []) [] (ap (outcome_after tiger limit []) (no_lines 1));
    },
  );
}

-- a recorded fault of the lines is the fault of the parts, however they continue
pub unchanged_after_fault : {K : Type 0} (holds : K → List Record → Type 0) (limit : ℕ) (l : LoadedInto K) (closed : List (List ℕ)) (open_part : List ℕ)
    (f : LoadFault) → l.fault ≡ Some f → WasFedInto holds limit l closed open_part → IsOfLines f → IsFaultHowever limit closed open_part f
unchanged_after_fault holds limit l closed open_part f e w = at_some _ _ l.fault f e w.comes

pub reported_at : {K T : Type 0} (holds : K → List Record → Type 0) (limit : ℕ) (l : LoadedInto K) (closed : List (List ℕ)) (open_part : List ℕ)
    (result : Result T LoadFault) → IfErr result (λ f. l.fault ≡ Some f) → WasFedInto holds limit l closed open_part
    → IfErr result (λ f. IsOfLines f → IsFaultHowever limit closed open_part f)
reported_at holds limit l closed open_part (Ok x) e w = tt
reported_at holds limit l closed open_part (Err f) e w = unchanged_after_fault holds limit l closed open_part f e w

-- the records that were kept, if there is no recorded fault
pub record Has {K : Type 0} (holds : K → List Record → Type 0) (limit : ℕ) (l : LoadedInto K) (closed : List (List ℕ))
    (open_part : List ℕ) : Type 0 where
  pub records : List Record
  pub kept : AreKept holds l records
  pub loaded : HasLoaded limit (seen l records) closed open_part

pub has_of : {K : Type 0} (holds : K → List Record → Type 0) (limit : ℕ) (l : LoadedInto K) (closed : List (List ℕ)) (open_part : List ℕ)
    → l.fault ≡ None → WasFedInto holds limit l closed open_part → Has holds limit l closed open_part
has_of holds limit l closed open_part none w = let p = at_none _ _ l.fault none w.comes in
    record { records = p.0; kept = p.1; loaded = p.2 }

pub fed_piece : {K T : Type 0} (holds : K → List Record → Type 0) (limit : ℕ) (before mid : LoadedInto K) (piece : List ℕ)
    (result : Result T LoadFault) (closed : List (List ℕ)) (open_part : List ℕ) → before.fault ≡ None → IsSamePart before mid
    → Lifts holds (Takes piece) before result mid
    → WasFedInto holds limit before closed open_part → WasFedInto holds limit (with_fault result mid) closed (open_part ++ piece)
fed_piece holds limit before mid piece (Ok x) closed open_part none part takes w =
    let h = has_of holds limit before closed open_part none w in
    let t = takes h.records h.kept in
    record {
      limit_is = part.limit ∙ w.limit_is;
      comes = from_none _ _ mid.fault (part.fault ∙ none)
          (t.0, t.1, loaded_more limit (seen before h.records) (seen mid t.0) closed open_part piece w.limit_is h.loaded t.2);
    }
fed_piece holds limit before mid piece (Err f) closed open_part none part takes w =
    let h = has_of holds limit before closed open_part none w in
    let t = takes h.records h.kept in
    record {
      limit_is = part.limit ∙ w.limit_is;
      comes =
          λ is. fault_more limit (seen before h.records) closed open_part piece f w.limit_is h.loaded (t.2 is);
    }

pub fed_unchanged : {K : Type 0} (holds : K → List Record → Type 0) (limit : ℕ) (l : LoadedInto K) (piece : List ℕ) (f : LoadFault)
    (closed : List (List ℕ)) (open_part : List ℕ) → l.fault ≡ Some f → WasFedInto holds limit l closed open_part
    → WasFedInto holds limit l closed (open_part ++ piece)
fed_unchanged holds limit l piece f closed open_part e w = search (rules, from_some, append_assoc, unchanged_after_fault)

pub well_after : {K T : Type 0} (holds : K → List Record → Type 0) (x : T) (limit : ℕ) (before after : LoadedInto K) (piece : List ℕ)
    (closed : List (List ℕ)) (open_part : List ℕ) → before.fault ≡ None → Lifts holds (Takes piece) before (Ok x) after
    → length after.unfinished ≤ most_unfinished
    → WasFedInto holds limit before closed open_part → IsWellSoFar limit closed (open_part ++ piece)
well_after holds x limit before after piece closed open_part none takes short w =
    let h = has_of holds limit before closed open_part none w in
    let t = takes h.records h.kept in
    well_of limit (seen after t.0) closed (open_part ++ piece)
    (loaded_more limit (seen before h.records) (seen after t.0) closed open_part piece w.limit_is h.loaded t.2) short

-- what a step guarantees if it was `Ok`
pub well_of_step : {K T : Type 0} (holds : K → List Record → Type 0) (before after : LoadedInto K) (piece : List ℕ)
    (result : Result T LoadFault) → before.fault ≡ None → Lifts holds (Takes piece) before result after
    → OnOk result (length after.unfinished ≤ most_unfinished)
    → OnOk result (IsWellAfter (WasFedInto holds) before piece)
well_of_step holds before after piece (Ok x) none takes short =
    λ limit closed open_part w. well_after holds x limit before after piece closed open_part none takes short w
well_of_step holds before after piece (Err f) none takes short = tt

-- ---- closed parts

pub fed_closed : {K T : Type 0} (holds : K → List Record → Type 0) (limit : ℕ) (before mid : LoadedInto K) (result : Result T LoadFault)
    (closed : List (List ℕ)) (open_part : List ℕ) → before.fault ≡ None → mid.limit ≡ before.limit → mid.fault ≡ before.fault
    → Lifts holds Closes before result mid
    → WasFedInto holds limit before closed open_part → WasFedInto holds limit (with_fault result mid) (closed ++ open_part ∷ []) []
fed_closed holds limit before mid (Ok x) closed open_part none same stays closing w =
    let h = has_of holds limit before closed open_part none w in
    let t = closing h.records h.kept in
    record {
      limit_is = same ∙ w.limit_is;
      comes =
          from_none _ _ mid.fault (stays ∙ none)
          (t.0, t.1, loaded_closed limit (seen before h.records) (seen mid t.0) closed open_part w.limit_is h.loaded t.2);
    }
fed_closed holds limit before mid (Err f) closed open_part none same stays closing w =
    let h = has_of holds limit before closed open_part none w in
    let t = closing h.records h.kept in
    let e : (later : List (List ℕ)) → IsOfLines f → to_come (seen before h.records) [] later ≡ Err f =
    λ later is. comes_at_end (seen before h.records) later
    ∙ ap (λ (r : Result (List Record) LoadFault). r then_with λ records. outcome_after tiger before.limit records
    (lines_from_part (before.parts + 1 + 1) later)) (t.2 is) in
    record {
      limit_is = same ∙ w.limit_is;
      comes = λ is. subst (λ (b : List ℕ). IsFaultHowever limit (closed ++ b ∷ []) [] f) (append-nil open_part)
          (fault_closed limit (seen before h.records) closed open_part [] f w.limit_is h.loaded (λ later. e later is));
    }

pub fed_closed_unchanged : {K : Type 0} (holds : K → List Record → Type 0) (limit : ℕ) (l : LoadedInto K) (f : LoadFault)
    (closed : List (List ℕ)) (open_part : List ℕ) → l.fault ≡ Some f → WasFedInto holds limit l closed open_part
    → WasFedInto holds limit l (closed ++ open_part ∷ []) []
fed_closed_unchanged holds limit l f closed open_part e w = record {
  limit_is = w.limit_is;
  comes = from_some _ _ l.fault f e (λ is more later.
      subst (λ (parts : List (List ℕ)). FaultAt tiger limit parts f)
      (sym (one_more closed open_part more later ∙ ap (λ (b : List ℕ). closed ++ b ∷ (more ∷ later)) (sym (append-nil open_part))))
      (unchanged_after_fault holds limit l closed open_part f e w is [] (more ∷ later)));
}

-- ---- all parts together

-- an open part into which nothing was fed has no line
pub placed_all : (closed : List (List ℕ)) (open_part : List ℕ)
    → placed_lines (all_parts closed open_part) ≡ placed_lines (closed ++ (open_part ++ []) ∷ [])
placed_all closed [] = search (rules, parts-append, no_lines, append-nil)
placed_all closed (b ∷ bytes) = ap (λ (l : List ℕ). placed_lines (closed ++ l ∷ [])) (sym (append-nil (b ∷ bytes)))

fault_along : (limit : ℕ) (a b : List (List ℕ)) (f : LoadFault) → placed_lines a ≡ placed_lines b → FaultAt tiger limit b f
    → FaultAt tiger limit a f
fault_along limit a b f e h =
    record {
      before = h.before;
      line = h.line;
      after = h.after;
      records = h.records;
      split = e ∙ h.split;
      well = h.well;
      within = search rules;
      fault_is = h.fault_is;
    }

outcome_all : (limit : ℕ) (l : Loaded) (closed : List (List ℕ)) (open_part : List ℕ) → l.limit ≡ limit → HasLoaded limit l closed open_part
    → outcome tiger limit (all_parts closed open_part) ≡ to_end l
unfolding lines_from_part outcome_after
outcome_all limit l closed open_part same h =
    ap (outcome_after tiger limit []) (placed_all closed open_part) ∙ comes_of limit l closed open_part [] [] same h ∙ comes_at_end l []
    ∙ bind_ok (to_end l)
  where
    bind_ok : (r : Result (List Record) LoadFault)
        → (r then_with λ records. outcome_after tiger l.limit records (lines_from_part (l.parts + 1 + 1) [])) ≡ r
    bind_ok (Ok x) = refl
    bind_ok (Err f) = refl

pub finished : {K T : Type 0} (holds : K → List Record → Type 0) (x : T) (limit : ℕ) (before after : LoadedInto K) (closed : List (List ℕ))
    (open_part : List ℕ) → before.fault ≡ None → Lifts holds Ends before (Ok x) after → WasFedInto holds limit before closed open_part
    → (records : List Record) × holds after.kept records × SpellsWithin tiger limit (all_parts closed open_part) records
finished holds x limit before after closed open_part none ends w =
    let h = has_of holds limit before closed open_part none w in
    let t = ends h.records h.kept in (
      t.0,
      t.1.held,
      accepts_from_outcome tiger tiger_is_sound limit (all_parts closed open_part) t.0
          (outcome_all limit (seen before h.records) closed open_part w.limit_is h.loaded ∙ t.2),
    )

pub finished_fault : {K : Type 0} (T : Type 0) (holds : K → List Record → Type 0) (limit : ℕ) (before after : LoadedInto K) (f : LoadFault)
    (closed : List (List ℕ)) (open_part : List ℕ) → before.fault ≡ None → Lifts {T = T} holds Ends before (Err f) after
    → WasFedInto holds limit before closed open_part → IsOfLines f → FaultAt tiger limit (all_parts closed open_part) f
finished_fault T holds limit before after f closed open_part none ends w is =
    let h = has_of holds limit before closed open_part none w in
    let t = ends h.records h.kept in
    fault_from_outcome tiger tiger_is_sound limit (all_parts closed open_part) f
    (outcome_all limit (seen before h.records) closed open_part w.limit_is h.loaded ∙ t.2 is)

pub finished_unchanged : {K : Type 0} (holds : K → List Record → Type 0) (limit : ℕ) (l : LoadedInto K) (f : LoadFault)
    (closed : List (List ℕ)) (open_part : List ℕ) → l.fault ≡ Some f → WasFedInto holds limit l closed open_part → IsOfLines f
    → FaultAt tiger limit (all_parts closed open_part) f
finished_unchanged holds limit l f closed open_part e w is =
    fault_along limit (all_parts closed open_part) _ f (placed_all closed open_part)
    (unchanged_after_fault holds limit l closed open_part f e w is [] [])

-- ---- a part that was read

pub fed_read : {K T : Type 0} (holds : K → List Record → Type 0) (limit : ℕ) (before mid : LoadedInto K) (taken : List ℕ) (at_end : Type 0)
    (result : Result T LoadFault) (closed : List (List ℕ)) (open_part : List ℕ) → before.fault ≡ None → mid.limit ≡ before.limit
    → mid.fault ≡ before.fault
    → Lifts holds (ReadsPart taken at_end) before result mid → WasFedInto holds limit before closed open_part → MatchResult result
    (λ _. at_end × WasFedInto holds limit (with_fault result mid) (closed ++ (open_part ++ taken) ∷ []) [])
    (λ _. (at_end × WasFedInto holds limit (with_fault result mid) (closed ++ (open_part ++ taken) ∷ []) [])
    ⊎ WasFedInto holds limit (with_fault result mid) closed (open_part ++ taken))
fed_read holds limit before mid taken at_end (Ok x) closed open_part none same stays reads w =
    let h = has_of holds limit before closed open_part none w in
    let t = reads h.records h.kept in
    let r = t.2.1 in (
      t.2.0,
      record {
        limit_is = same ∙ w.limit_is;
        comes = from_none _ _ mid.fault (stays ∙ none) (
          t.0,
          t.1,
          loaded_closed limit r.at_end (seen mid t.0) closed (open_part ++ taken) (r.takes.limit_is ∙ w.limit_is)
              (loaded_more limit (seen before h.records) r.at_end closed open_part taken w.limit_is h.loaded r.takes) r.closes,
        );
      },
    )
fed_read {K} holds limit before mid taken at_end (Err f) closed open_part none same stays reads w = go f (reads h.records h.kept).2
  where
    h : Has holds limit before closed open_part
    h = has_of holds limit before closed open_part none w

    anywhere : (g : LoadFault) → (IsOfLines g → ⊥) → WasFedInto holds limit (record mid { fault = Some g }) closed (open_part ++ taken)
    anywhere g never = record { limit_is = same ∙ w.limit_is; comes = λ is. absurd (never is) }

    of_lines : (g : LoadFault) → (at_end × ((later : List (List ℕ)) → to_come (seen before h.records) taken later ≡ Err g))
        ⊎ ((more : List ℕ) (later : List (List ℕ)) → to_come (seen before h.records) (taken ++ more) later ≡ Err g)
        → (at_end × WasFedInto holds limit (record mid { fault = Some g }) (closed ++ (open_part ++ taken) ∷ []) [])
        ⊎ WasFedInto holds limit (record mid { fault = Some g }) closed (open_part ++ taken)
    of_lines g (inl p) = inl (
      p.0,
      record {
        limit_is = same ∙ w.limit_is;
        comes =
            λ is. fault_closed limit (seen before h.records) closed open_part taken g w.limit_is h.loaded p.1;
      },
    )
    of_lines g (inr p) = inr (record {
      limit_is = same ∙ w.limit_is;
      comes =
          λ is. fault_more limit (seen before h.records) closed open_part taken g w.limit_is h.loaded p;
    })

    go : (g : LoadFault) → (IsOfLines g → (at_end × ((later : List (List ℕ)) → to_come (seen before h.records) taken later ≡ Err g))
        ⊎ ((more : List ℕ) (later : List (List ℕ)) → to_come (seen before h.records) (taken ++ more) later ≡ Err g))
        → (at_end × WasFedInto holds limit (record mid { fault = Some g }) (closed ++ (open_part ++ taken) ∷ []) [])
        ⊎ WasFedInto holds limit (record mid { fault = Some g }) closed (open_part ++ taken)
    go faults.Device k = inr (anywhere faults.Device (λ is. is))
    go faults.Memory k = inr (anywhere faults.Memory (λ is. is))
    go (faults.UnknownType a b) k = of_lines _ (k tt)
    go (faults.LineTooLong a b) k = of_lines _ (k tt)
    go (faults.BadByte a b c) k = of_lines _ (k tt)
    go (faults.BadNumber a b c) k = of_lines _ (k tt)
    go (faults.BadPoint a b c) k = of_lines _ (k tt)
    go (faults.GapInRecord a b c) k = of_lines _ (k tt)
    go (faults.TooManyRecords a) k = of_lines _ (k tt)
