-- Processing the lines one after another yields the records that they spell, or the first fault.
use Rattle.tl_load.proofs.Common.{AreLinesSpelled, Bool, Err, FaultAt, IsFaultOf, LineFault, List, LoadFault, MatchResult, Ok, PlacedLine, Result, Spells, SpellsWithin, [], after_verdict, ap, append-nil, append_assoc, arith, cases_eq, cond, count_of, eq-eqb, eqb, false, fault_at, inl, inr, le-leb, leb, leb-false, leb-true, lt-leb, map, ne_eqb, of_limit, of_line, outcome, placed_lines, refl, rules, subst, sum_by-append, sym, true, ℕ, ◌++◌, ◌+◌, ◌<◌, ◌then_with◌, ◌∙◌, ◌∷◌, ◌≡◌, ◌≤◌, ◌⊎◌}
use Rattle.tl_load.specs.Outcome.{IsFaulty, IsSpelled, IsWithinLimitBy, next, outcome_after}
use Rattle.tl_load.specs.Verdicts.{Judge}
use Rattle.tl_load.specs.declared.fault.LoadFault.TheVariants as faults

-- ---- verdicts

-- the verdict on a line is exactly its record or its fault
pub record IsSound {R : Type 0} (judge : Judge R) : Type 0 where
  pub has_found : (line : List ℕ) (r : R) → judge.verdict line ≡ Ok r → judge.Has line r
  pub has_only : (line : List ℕ) (r : R) → judge.Has line r → judge.verdict line ≡ Ok r
  pub fault_found : (line : List ℕ) (fault : LineFault) → judge.verdict line ≡ Err fault → judge.IsFault line fault
  pub fault_only : (line : List ℕ) (fault : LineFault) → judge.IsFault line fault → judge.verdict line ≡ Err fault

-- there are as many lines as records, and each line is judged as its record
abbrev pub AreJudged : {R : Type 0} → Judge R → List PlacedLine → List R → Type 0
AreJudged {R} judge lines records = map (λ (l : PlacedLine). judge.verdict l.bytes) lines ≡ map (λ (r : R). Ok r) records

-- how the verdict on a line after these records is reported as a fault
abbrev pub IsVerdictOf : {R : Type 0} → Judge R → ℕ → List R → PlacedLine → LoadFault → Type 0
IsVerdictOf judge limit records line fault = MatchResult (judge.verdict line.bytes)
    (λ r. (limit ≤ count_of judge (judge.rtype r) records) × (fault ≡ faults.TooManyRecords (judge.rtype r)))
    (λ f. fault ≡ fault_at line.part line.line f)

pub spelled_judged : {R : Type 0} (judge : Judge R) → IsSound judge → (lines : List PlacedLine) (records : List R)
    → AreLinesSpelled judge lines records → AreJudged judge lines records
spelled_judged judge sound [] [] h = refl
spelled_judged judge sound [] (r ∷ records) h = absurd h
spelled_judged judge sound (l ∷ lines) [] h = absurd h
spelled_judged {R} judge sound (l ∷ lines) (r ∷ records) h =
    ap (λ (z : Result R LineFault). z ∷ map (λ (l : PlacedLine). judge.verdict l.bytes) lines) (sound.has_only l.bytes r h.0)
    ∙ ap (λ (z : List (Result R LineFault)). Ok r ∷ z) (spelled_judged judge sound lines records h.1)

pub judged_spelled : {R : Type 0} (judge : Judge R) → IsSound judge → (lines : List PlacedLine) (records : List R)
    → AreJudged judge lines records → AreLinesSpelled judge lines records
judged_spelled judge sound [] [] h = tt
judged_spelled judge sound [] (r ∷ records) h = absurd cc
judged_spelled judge sound (l ∷ lines) [] h = absurd cc
judged_spelled judge sound (l ∷ lines) (r ∷ records) h =
    let first : judge.verdict l.bytes ≡ Ok r = cc in
    let rest : AreJudged judge lines records = cc in
    (sound.has_found l.bytes r first, judged_spelled judge sound lines records rest)

fault_verdict : {R : Type 0} (judge : Judge R) → IsSound judge → (limit : ℕ) (records : List R) (line : PlacedLine) (fault : LoadFault)
    → IsFaultOf judge limit records line fault → IsVerdictOf judge limit records line fault
fault_verdict judge sound limit records line fault (of_line own h e) =
    subst (λ v. MatchResult v (λ r. (limit ≤ count_of judge (judge.rtype r) records) × (fault ≡ faults.TooManyRecords (judge.rtype r)))
    (λ f. fault ≡ fault_at line.part line.line f)) (sym (sound.fault_only line.bytes own h)) e
fault_verdict judge sound limit records line fault (of_limit r h most e) =
    subst (λ v. MatchResult v (λ r. (limit ≤ count_of judge (judge.rtype r) records) × (fault ≡ faults.TooManyRecords (judge.rtype r)))
    (λ f. fault ≡ fault_at line.part line.line f)) (sym (sound.has_only line.bytes r h)) (most, e)

verdict_fault : {R : Type 0} (judge : Judge R) → IsSound judge → (limit : ℕ) (records : List R) (line : PlacedLine) (fault : LoadFault)
    → IsVerdictOf judge limit records line fault → IsFaultOf judge limit records line fault
verdict_fault {R} judge sound limit records line fault = go (judge.verdict line.bytes) refl
  where
    go : (v : Result R LineFault) → judge.verdict line.bytes ≡ v
        → MatchResult v (λ r. (limit ≤ count_of judge (judge.rtype r) records) × (fault ≡ faults.TooManyRecords (judge.rtype r)))
        (λ f. fault ≡ fault_at line.part line.line f) → IsFaultOf judge limit records line fault
    go (Ok r) e h = of_limit r (sound.has_found line.bytes r e) h.0 h.1
    go (Err f) e h = of_line f (sound.fault_found line.bytes f e) h

-- ---- steps

bind_assoc : {A B C : Type 0} (r : Result A LoadFault) (f : A → Result B LoadFault) (g : B → Result C LoadFault)
    → ((r then_with f) then_with g) ≡ (r then_with λ x. f x then_with g)
bind_assoc (Ok x) f g = refl
bind_assoc (Err e) f g = refl

bind_same : {A B : Type 0} (r : Result A LoadFault) (f g : A → Result B LoadFault) → ((x : A) → f x ≡ g x) → (r then_with f) ≡ (r then_with g)
bind_same (Ok x) f g h = h x
bind_same (Err e) f g h = refl

bind_ok : {A B : Type 0} (r : Result A LoadFault) (f : A → Result B LoadFault) (y : B) → (r then_with f) ≡ Ok y
    → (x : A) × (r ≡ Ok x) × (f x ≡ Ok y)
bind_ok (Ok x) f y e = (x, refl, e)
bind_ok (Err d) f y e = absurd cc

bind_err : {A B : Type 0} (r : Result A LoadFault) (f : A → Result B LoadFault) (y : LoadFault) → (r then_with f) ≡ Err y
    → (r ≡ Err y) ⊎ ((x : A) × (r ≡ Ok x) × (f x ≡ Err y))
bind_err (Ok x) f y e = inr (x, refl, e)
bind_err {A} {B} (Err d) f y e = let same : d ≡ y = cc in inl (ap (λ (z : LoadFault). Err z) same)

-- processing lines and then more lines
pub outcome_after-append : {R : Type 0} (judge : Judge R) (limit : ℕ) (records : List R) (a b : List PlacedLine)
    → outcome_after judge limit records (a ++ b) ≡ (outcome_after judge limit records a then_with λ more. outcome_after judge limit more b)
unfolding outcome_after
outcome_after-append judge limit records [] b = refl
outcome_after-append judge limit records (x ∷ a) b =
    bind_same (next judge limit records x) (λ more. outcome_after judge limit more (a ++ b))
    (λ more. outcome_after judge limit more a then_with λ rest. outcome_after judge limit rest b)
    (λ more. outcome_after-append judge limit more a b)
    ∙ sym (bind_assoc (next judge limit records x) (λ more. outcome_after judge limit more a) (λ rest. outcome_after judge limit rest b))

-- ---- one line

pub record Takes_one {R : Type 0} (judge : Judge R) (limit : ℕ) (records : List R) (line : PlacedLine) (more : List R) : Type 0 where
  pub found : R
  pub verdict : judge.verdict line.bytes ≡ Ok found
  pub below : count_of judge (judge.rtype found) records < limit
  pub after : more ≡ records ++ found ∷ []

takes_by : {R : Type 0} (judge : Judge R) (limit : ℕ) (records : List R) (line : PlacedLine) (more : List R) (v : Result R LineFault)
    → judge.verdict line.bytes ≡ v → after_verdict judge limit records line v ≡ Ok more → Takes_one judge limit records line more
takes_by judge limit records line more (Err f) e h = absurd cc
takes_by {R} judge limit records line more (Ok r) e h = go (leb limit (count_of judge (judge.rtype r) records)) refl h
  where
    go : (b : Bool) → leb limit (count_of judge (judge.rtype r) records) ≡ b
        → cond b (Err (faults.TooManyRecords (judge.rtype r))) (Ok (records ++ r ∷ [])) ≡ Ok more → Takes_one judge limit records line more
    go true t k = absurd cc
    go false t k = record { found = r; verdict = e; below = leb-false _ _ t; after = cc }

pub next_ok : {R : Type 0} (judge : Judge R) (limit : ℕ) (records : List R) (line : PlacedLine) (more : List R)
    → next judge limit records line ≡ Ok more → Takes_one judge limit records line more
unfolding next
next_ok judge limit records line more h = takes_by judge limit records line more (judge.verdict line.bytes) refl h

pub next_from : {R : Type 0} (judge : Judge R) (limit : ℕ) (records : List R) (line : PlacedLine) (r : R) → judge.verdict line.bytes ≡ Ok r
    → count_of judge (judge.rtype r) records < limit → next judge limit records line ≡ Ok (records ++ r ∷ [])
unfolding next
next_from judge limit records line r e h = search (rules, lt-leb)

fault_by : {R : Type 0} (judge : Judge R) (limit : ℕ) (records : List R) (line : PlacedLine) (f : LoadFault) (v : Result R LineFault)
    → after_verdict judge limit records line v ≡ Err f
    → MatchResult v (λ r. (limit ≤ count_of judge (judge.rtype r) records) × (f ≡ faults.TooManyRecords (judge.rtype r)))
    (λ k. f ≡ fault_at line.part line.line k)
fault_by judge limit records line f (Err k) h = cc
fault_by {R} judge limit records line f (Ok r) h = search (rules, leb-true)

pub next_err : {R : Type 0} (judge : Judge R) (limit : ℕ) (records : List R) (line : PlacedLine) (f : LoadFault)
    → next judge limit records line ≡ Err f → IsVerdictOf judge limit records line f
unfolding next
next_err judge limit records line f h = fault_by judge limit records line f (judge.verdict line.bytes) h

by_fault : {R : Type 0} (judge : Judge R) (limit : ℕ) (records : List R) (line : PlacedLine) (f : LoadFault) (v : Result R LineFault)
    → MatchResult v (λ r. (limit ≤ count_of judge (judge.rtype r) records) × (f ≡ faults.TooManyRecords (judge.rtype r)))
    (λ k. f ≡ fault_at line.part line.line k)
    → after_verdict judge limit records line v ≡ Err f
by_fault judge limit records line f (Err k) h = ap (λ (z : LoadFault). Err z) (sym h)
by_fault judge limit records line f (Ok r) h = search (rules, le-leb)

pub next_faulty : {R : Type 0} (judge : Judge R) (limit : ℕ) (records : List R) (line : PlacedLine) (f : LoadFault)
    → IsVerdictOf judge limit records line f → next judge limit records line ≡ Err f
unfolding next
next_faulty judge limit records line f h = by_fault judge limit records line f (judge.verdict line.bytes) h

-- ---- counts

pub count_push : {R : Type 0} (judge : Judge R) (records : List R) (r : R) (t : ℕ)
    → count_of judge t (records ++ r ∷ []) ≡ count_of judge t records + cond (eqb (judge.rtype r) t) 1 0
count_push judge records r t = sum_by-append (λ s. cond (eqb (judge.rtype s) t) 1 0) records (r ∷ []) ∙ omega arith

pub within_push : {R : Type 0} (judge : Judge R) (limit : ℕ) (records : List R) (r : R) → IsWithinLimitBy judge limit records
    → count_of judge (judge.rtype r) records < limit → IsWithinLimitBy judge limit (records ++ r ∷ [])
within_push judge limit records r h below t = elim (cases_eq (judge.rtype r) t) [
  | inl same ↦ let e = count_push judge records r t in let b = eq-eqb (judge.rtype r) t same in let le : count_of judge t records < limit =
      search (rules, below) in rw (e, b) (omega arith)
  | inr other ↦ let e = count_push judge records r t in let b = ne_eqb (judge.rtype r) t other in let le = h t in rw (e, b) (omega arith)
]

-- if a list with one more record is within the limit, it has fewer than limit records of that record's type
pub below_before : {R : Type 0} (judge : Judge R) (limit : ℕ) (records : List R) (r : R) (more : List R)
    → IsWithinLimitBy judge limit (records ++ r ∷ more) → count_of judge (judge.rtype r) records < limit
below_before judge limit records r more h =
    let e = sum_by-append (λ s. cond (eqb (judge.rtype s) (judge.rtype r)) 1 0) records (r ∷ more) in
    let b = eq-eqb (judge.rtype r) (judge.rtype r) refl in
    let all = h (judge.rtype r) in
    let first = sum_by-append (λ s. cond (eqb (judge.rtype s) (judge.rtype r)) 1 0) (r ∷ []) more in
    let one : count_of judge (judge.rtype r) (r ∷ []) ≡ 0 + 1 = ap (λ (z : Bool). 0 + cond z 1 0) b in
    omega (arith, e, first, one, all)

-- ---- many lines

-- the records that the lines were judged as, appended to these records
pub record ReadsOn {R : Type 0} (judge : Judge R) (limit : ℕ) (records : List R) (lines : List PlacedLine) (all : List R) : Type 0 where
  pub found : List R
  pub judged : AreJudged judge lines found
  pub all_are : all ≡ records ++ found
  pub within : IsWithinLimitBy judge limit all

ok_is : {R E : Type 0} (x y : R) → ◌≡◌ {A = Result R E} (Ok x) (Ok y) → x ≡ y
ok_is x y e = cc

pub reads_ok : {R : Type 0} (judge : Judge R) (limit : ℕ) (records : List R) (lines : List PlacedLine) (all : List R)
    → IsWithinLimitBy judge limit records → outcome_after judge limit records lines ≡ Ok all → ReadsOn judge limit records lines all
unfolding outcome_after
reads_ok {R} judge limit records [] all h e =
    let same : records ≡ all = ok_is records all e in
    record { found = []; judged = refl; all_are = sym same ∙ sym (append-nil records); within = subst (IsWithinLimitBy judge limit) same h }
reads_ok {R} judge limit records (x ∷ lines) all h e =
    let b = bind_ok (next judge limit records x) (λ more. outcome_after judge limit more lines) all e in
    let t = next_ok judge limit records x b.0 b.1 in
    let mid : IsWithinLimitBy judge limit b.0 =
    subst (IsWithinLimitBy judge limit) (sym t.after) (within_push judge limit records t.found h t.below) in
    let rest = reads_ok judge limit b.0 lines all mid b.2 in
    record {
      found = t.found ∷ rest.found;
      judged = ap (λ (z : Result R LineFault). z ∷ map (λ (l : PlacedLine). judge.verdict l.bytes) lines) t.verdict
          ∙ ap (λ (z : List (Result R LineFault)). Ok t.found ∷ z) rest.judged;
      all_are = rest.all_are ∙ ap (λ (z : List R). z ++ rest.found) t.after ∙ append_assoc records (t.found ∷ []) rest.found;
      within = rest.within;
    }

pub reads_from : {R : Type 0} (judge : Judge R) (limit : ℕ) (records : List R) (lines : List PlacedLine) (found : List R)
    → AreJudged judge lines found → IsWithinLimitBy judge limit (records ++ found) → outcome_after judge limit records lines ≡ Ok
    (records ++ found)
unfolding outcome_after
reads_from judge limit records [] [] e h = ap (λ (z : List _). Ok z) (sym (append-nil records))
reads_from judge limit records [] (r ∷ found) e h = absurd cc
reads_from judge limit records (x ∷ lines) [] e h = absurd cc
reads_from {R} judge limit records (x ∷ lines) (r ∷ found) e h =
    let first : judge.verdict x.bytes ≡ Ok r = cc in
    let rest : AreJudged judge lines found = cc in
    let joined : (records ++ r ∷ []) ++ found ≡ records ++ r ∷ found = append_assoc records (r ∷ []) found in
    let step = next_from judge limit records x r first (below_before judge limit records r found h) in
    let again = reads_from judge limit (records ++ r ∷ []) lines found rest (subst (IsWithinLimitBy judge limit) (sym joined) h) in
    ap (λ (z : Result (List R) LoadFault). z then_with λ more. outcome_after judge limit more lines) step ∙ again ∙ ap (λ (z : List R). Ok z)
    joined

-- the first fault of the lines, after these records
pub record Stops {R : Type 0} (judge : Judge R) (limit : ℕ) (records : List R) (lines : List PlacedLine) (fault : LoadFault) : Type 0 where
  pub before : List PlacedLine
  pub line : PlacedLine
  pub after : List PlacedLine
  pub found : List R
  pub split : lines ≡ before ++ line ∷ after
  pub well : AreJudged judge before found
  pub within : IsWithinLimitBy judge limit (records ++ found)
  pub fault_is : IsVerdictOf judge limit (records ++ found) line fault

pub stops_err : {R : Type 0} (judge : Judge R) (limit : ℕ) (records : List R) (lines : List PlacedLine) (fault : LoadFault)
    → IsWithinLimitBy judge limit records → outcome_after judge limit records lines ≡ Err fault → Stops judge limit records lines fault
unfolding outcome_after
stops_err judge limit records [] fault h e = absurd cc
stops_err {R} judge limit records (x ∷ lines) fault h e =
    elim (bind_err (next judge limit records x) (λ more. outcome_after judge limit more lines) fault e) [
      | inl here ↦ record {
        before = [];
        line = x;
        after = lines;
        found = [];
        split = refl;
        well = refl;
        within = subst (IsWithinLimitBy judge limit) (sym (append-nil records)) h;
        fault_is = search (rules, append-nil, next_err);
      }
      | inr b ↦
          let t = next_ok judge limit records x b.0 b.1 in
          let mid : IsWithinLimitBy judge limit b.0 =
          subst (IsWithinLimitBy judge limit) (sym t.after) (within_push judge limit records t.found h t.below) in
          let rest = stops_err judge limit b.0 lines fault mid b.2 in
          let joined : b.0 ++ rest.found ≡ records ++ t.found ∷ rest.found = ap (λ (z : List R). z ++ rest.found) t.after
          ∙ append_assoc records (t.found ∷ []) rest.found in
          record {
            before = x ∷ rest.before;
            line = rest.line;
            after = rest.after;
            found = t.found ∷ rest.found;
            split = ap (λ (z : List PlacedLine). x ∷ z) rest.split;
            well = ap (λ (z : Result R LineFault). z ∷ map (λ (l : PlacedLine). judge.verdict l.bytes) rest.before) t.verdict
                ∙ ap (λ (z : List (Result R LineFault)). Ok t.found ∷ z) rest.well;
            within = subst (IsWithinLimitBy judge limit) joined rest.within;
            fault_is = subst (λ (rs : List R). IsVerdictOf judge limit rs rest.line fault) joined rest.fault_is;
          }
    ]

-- ---- parts

no_records : {R : Type 0} (judge : Judge R) (limit : ℕ) → IsWithinLimitBy judge limit []
no_records judge limit t = omega arith

pub accepts_from_outcome : {R : Type 0} (judge : Judge R) → IsSound judge → (limit : ℕ) (parts : List (List ℕ)) (records : List R)
    → outcome judge limit parts ≡ Ok records → SpellsWithin judge limit parts records
accepts_from_outcome {R} judge sound limit parts records e =
    let r = reads_ok judge limit [] (placed_lines parts) records (no_records judge limit) e in
    record {
      spells = judged_spelled judge sound (placed_lines parts) records
          (subst (λ (rs : List R). AreJudged judge (placed_lines parts) rs) (sym r.all_are) r.judged);
      within = r.within;
    }

pub outcome_from_accepts : {R : Type 0} (judge : Judge R) → IsSound judge → (limit : ℕ) (parts : List (List ℕ)) (records : List R)
    → SpellsWithin judge limit parts records → outcome judge limit parts ≡ Ok records
outcome_from_accepts judge sound limit parts records a =
    reads_from judge limit [] (placed_lines parts) records (spelled_judged judge sound (placed_lines parts) records a.spells) a.within

pub fault_from_outcome : {R : Type 0} (judge : Judge R) → IsSound judge → (limit : ℕ) (parts : List (List ℕ)) (fault : LoadFault)
    → outcome judge limit parts ≡ Err fault → FaultAt judge limit parts fault
fault_from_outcome judge sound limit parts fault e =
    let s = stops_err judge limit [] (placed_lines parts) fault (no_records judge limit) e in
    record {
      before = s.before;
      line = s.line;
      after = s.after;
      records = s.found;
      split = s.split;
      well =
          judged_spelled judge sound s.before s.found s.well;
      within = s.within;
      fault_is =
          verdict_fault judge sound limit s.found s.line fault s.fault_is;
    }

pub outcome_from_fault : {R : Type 0} (judge : Judge R) → IsSound judge → (limit : ℕ) (parts : List (List ℕ)) (fault : LoadFault)
    → FaultAt judge limit parts fault → outcome judge limit parts ≡ Err fault
unfolding outcome_after
outcome_from_fault {R} judge sound limit parts fault f =
    ap (outcome_after judge limit []) f.split
    ∙ outcome_after-append judge limit [] f.before (f.line ∷ f.after)
    ∙ ap (λ (z : Result (List R) LoadFault). z then_with λ more. outcome_after judge limit more (f.line ∷ f.after))
    (reads_from judge limit [] f.before f.records (spelled_judged judge sound f.before f.records f.well) f.within)
    ∙ ap (λ (z : Result (List R) LoadFault). z then_with λ more. outcome_after judge limit more f.after)
    (next_faulty judge limit f.records f.line fault (fault_verdict judge sound limit f.records f.line fault f.fault_is))

-- a line has only one verdict
pub verdicts_same : {R : Type 0} (a b : List R) → ◌≡◌ {A = List (Result R LineFault)} (map (λ (r : R). Ok r) a) (map (λ (r : R). Ok r) b)
    → a ≡ b
verdicts_same [] [] e = refl
verdicts_same [] (y ∷ b) e = absurd cc
verdicts_same (x ∷ a) [] e = absurd cc
verdicts_same {R} (x ∷ a) (y ∷ b) e =
    let first : x ≡ y = cc in
    let rest : ◌≡◌ {A = List (Result R LineFault)} (map (λ (r : R). Ok r) a) (map (λ (r : R). Ok r) b) = cc in
    ap (λ (z : R). z ∷ a) first ∙ ap (λ (z : List R). y ∷ z) (verdicts_same a b rest)

err_is : {R : Type 0} (x y : LoadFault) → ◌≡◌ {A = Result R LoadFault} (Err x) (Err y) → x ≡ y
err_is x y e = cc

never_both : {R : Type 0} (r : Result R LoadFault) (x : R) (y : LoadFault) → r ≡ Ok x → r ≡ Err y → ⊥
never_both r x y p q = cc

-- parts spell only one list
pub spelled_once : {R : Type 0} (judge : Judge R) → IsSound judge → (parts : List (List ℕ)) (a b : List R) → Spells judge parts a
    → Spells judge parts b → a ≡ b
spelled_once judge sound parts a b p q = search (rules, verdicts_same, spelled_judged)

-- parts either spell a list within the limit or have exactly one fault
pub one_verdict : {R : Type 0} (judge : Judge R) → IsSound judge → (limit : ℕ) (parts : List (List ℕ))
    → IsSpelled judge limit parts ⊎ IsFaulty judge limit parts
one_verdict {R} judge sound limit parts = go (outcome judge limit parts) refl
  where
    go : (r : Result (List R) LoadFault) → outcome judge limit parts ≡ r → IsSpelled judge limit parts ⊎ IsFaulty judge limit parts
    go (Ok records) e = inl (record {
      records = records;
      accepts = accepts_from_outcome judge sound limit parts records e;
      only = λ others s. spelled_once judge sound parts others records s (accepts_from_outcome judge sound limit parts records e).spells;
      none = λ fault f. never_both _ records fault e (outcome_from_fault judge sound limit parts fault f);
    })
    go (Err fault) e = inr (record {
      fault = fault;
      at = fault_from_outcome judge sound limit parts fault e;
      only = λ other f. err_is other fault (sym (outcome_from_fault judge sound limit parts other f) ∙ e);
      none = λ records a. never_both _ records fault (outcome_from_accepts judge sound limit parts records a) e;
    })

-- parts that spell a list have no fault
pub accepted_once : {R : Type 0} (judge : Judge R) → IsSound judge → (limit : ℕ) (parts : List (List ℕ)) (a b : List R)
    → SpellsWithin judge limit parts a → SpellsWithin judge limit parts b → a ≡ b
accepted_once judge sound limit parts a b p q = spelled_once judge sound parts a b p.spells q.spells

pub accepted_no_fault : {R : Type 0} (judge : Judge R) → IsSound judge
    → (limit : ℕ) (parts : List (List ℕ)) (records : List R) (fault : LoadFault) → SpellsWithin judge limit parts records
    → FaultAt judge limit parts fault → ⊥
accepted_no_fault judge sound limit parts records fault p q =
    never_both _ records fault (outcome_from_accepts judge sound limit parts records p) (outcome_from_fault judge sound limit parts fault q)
