-- The bytes read from sources over files are in the files, and what is reported for files that aren't read.
use Rattle.tigercanon.proofs.Common.{All, All-cons, AreCounted, AreHeld, AreRead, AreReadFirst, AreReadUpTo, AreRefused, AreRefusedParts, AreSourcesOf, Bool, Check, Compare, Consumes, Counted, Device, Does, Err, Fault, Fingerprint, Gave, GivenOutput, GivenSet, IfSome, IsFaultHowever, IsFaultOfRead, IsFirstFault, IsNext, IsOfNoLines, IsRefusalBy, IsReportedBy, IsUnopened, Job, List, Load, LoadFault, MAX, Mask, Memory, None, Normalise, Opened, Option, ReportsFor, ReportsSet, Respell, Some, Stopped, [], ap, arith, bytes_of, false, if◌then◌else◌, inl, inr, map, most_records, opened_of, refl, set_of_files, set_of_job, set_of_sources, slice_index_or, subst, sym, true, ℕ, ◌++◌, ◌<◌, ◌∷◌, ◌≡◌}
use Rattle.tigercanon.proofs.FileParts.{head_of, tail_of, taken_all}
use Rattle.tigercanon.proofs.Parts.{fault_of_rest}
use Rattle.tigercanon.proofs.GivenSets.{IsKnownOf}
use Rattle.tigercanon.proofs.Leaving.{kept}
use Rattle.tigercanon.proofs.SourceSets.{left_untouched}

-- sources that are the files, none of which has failed
pub counted_from : {R : Type 0} (sources : List (Counted (Opened R))) (files : List (Opened R))
    → map {B = Opened R × ℕ} (λ s. (s.inner, s.failures)) sources ≡ map {B = Opened R × ℕ} (λ f. (f, 0)) files → AreCounted sources files
counted_from [] [] e = (refl, λ k d h. absurd (omega arith))
counted_from [] (f ∷ fs) e = absurd cc
counted_from (s ∷ ss) [] e = absurd cc
counted_from {R} (s ∷ ss) (f ∷ fs) e =
    let rest = counted_from ss fs cc in
    let first : ◌≡◌ {A = Opened R × ℕ} (s.inner, s.failures) (f, 0) = cc in
    let one : s.inner ≡ f = ap (λ (p : Opened R × ℕ). p.0) first in
    let none : s.failures ≡ 0 = ap (λ (p : Opened R × ℕ). p.1) first in
    (λ i. one i ∷ rest.0 i, All-cons (λ source. source.failures ≡ 0) s ss none rest.1)

-- sources that are the files give what the files hold
pub sources_of : {R : Type 0} (remaining : R → Option (List ℕ)) (sources : List (Counted (Opened R))) (files : List (Opened R))
    → AreCounted sources files → AreSourcesOf (λ s. bytes_of remaining s.inner) sources remaining files
sources_of {R} remaining sources files counted =
    subst (AreSourcesOf (λ (s : Counted (Opened R)). bytes_of remaining s.inner) sources remaining) counted.0 (go sources)
  where
    go : (all : List (Counted (Opened R))) → AreSourcesOf (λ (s : Counted (Opened R)). bytes_of remaining s.inner) all remaining (opened_of all)
    go [] = refl
    go (s ∷ ss) = ap (λ rest. bytes_of remaining s.inner ∷ rest) (go ss)

-- sources that haven't failed can be read
pub below_most : {S : Type 0} (failed : S → ℕ) (xs ys : List S) → ys ≡ xs → All (λ s. failed s ≡ 0) xs → All (λ s. failed s < MAX) ys
below_most failed xs ys e all =
    subst (All (λ s. failed s < MAX)) (sym e) (λ k d l. let z : failed (slice_index_or xs k d) ≡ 0 = all k d l in omega arith)

-- known bytes, or none
abbrev pub known_or_none : Option (List ℕ) → List ℕ
known_or_none None = []
known_or_none (Some bytes) = bytes

is_known : (known : Option (List ℕ)) → IfSome known (λ bytes. known_or_none known ≡ bytes)
is_known None = tt
is_known (Some bytes) = refl

-- bytes that were taken, and the known bytes that are left
with_left : (known left : Option (List ℕ)) (taken : List ℕ) → Consumes known left taken
    → (more : List ℕ) × IfSome known (λ bytes. taken ++ more ≡ bytes)
with_left None left taken c = ([], tt)
with_left (Some all) None taken c = absurd c
with_left (Some all) (Some rest) taken c = (rest, sym c)

module _ {R : Type 0} (remaining : R → Option (List ℕ)) where
  -- some parts that the files contain
  some_parts : (files : List (Opened R)) → (parts : List (List ℕ)) × AreHeld remaining files parts
  some_parts [] = ([], tt)
  some_parts (f ∷ fs) = let rest = some_parts fs in (
    known_or_none (bytes_of remaining f) ∷ rest.0,
    (is_known (bytes_of remaining f), rest.1),
  )

  abbrev file_set : List (Opened R) → GivenSet
  file_set = set_of_files remaining

  -- what is reported if a file is missing, or if there is no memory for the sources
  unopened_reported : (first second : List (Opened R)) (fault : Fault) → IsOfNoLines fault → IsReportedBy Respell fault
      → ((files : List (Opened R)) → ReportsSet (file_set files) fault) → (job : Job) (is_first : Bool)
      → ReportsFor job (file_set first) (file_set second) fault (set_of_job job (if is_first then 1 else 2))
  unopened_reported first second fault none by unread Compare true = inl (refl, unread first)
  unopened_reported first second fault none by unread Compare false = inr (refl, some_parts first, inr none, unread second)
  unopened_reported first second fault none by unread Respell is_first = (refl, (unread first, by))
  unopened_reported first second fault none by unread Normalise is_first = (refl, (unread first, tt))
  unopened_reported first second fault none by unread Check is_first = (refl, (unread first, tt))
  unopened_reported first second fault none by unread Fingerprint is_first = (refl, (unread first, tt))

  -- a job whose files aren't opened leaves its output alone
  pub unopened_left : (mask : Mask) (out : GivenOutput) → out.kept → (first second : List (Opened R)) (job : Job) (stopped : Stopped)
      → IsUnopened job stopped → Does mask job (file_set first) (file_set second) out (Err stopped)
  unopened_left mask out kept first second job stopped (is_first, inl missing) =
      subst (λ (s : Stopped). Does mask job (file_set first) (file_set second) out (Err s)) (sym missing)
      (left_untouched mask (file_set first) (file_set second) out kept job (Load Device) _
      (unopened_reported first second (Load Device) tt tt (λ files. ((λ of. absurd of), (λ is. tt))) job is_first))
  unopened_left mask out kept first second job stopped (is_first, inr memory) =
      subst (λ (s : Stopped). Does mask job (file_set first) (file_set second) out (Err s)) (sym memory)
      (left_untouched mask (file_set first) (file_set second) out kept job Memory _
      (unopened_reported first second Memory tt tt (λ files. (tt, λ is. tt)) job is_first))

module _ {S R : Type 0} (left : S → Option (List ℕ)) (given : S → ℕ) (remaining : R → Option (List ℕ)) where
  -- parts that were read to their ends
  pub read_held : (files : List (Opened R)) (before after : List S) (parts : List (List ℕ)) → AreSourcesOf left before remaining files
      → AreRead left given before after parts → AreHeld remaining files parts
  read_held [] [] [] [] s r = tt
  read_held (f ∷ fs) (b ∷ bs) (n ∷ ns) (p ∷ ps) s r = (
    subst (λ known. IfSome known (λ bytes. p ≡ bytes)) (head_of _ _ _ _ s) (taken_all (left b) (left n) p r.0.bytes r.1),
    read_held fs bs ns ps (tail_of _ _ _ _ s) r.2,
  )
  read_held [] (b ∷ bs) after parts s r = absurd cc
  read_held (f ∷ fs) [] after parts s r = absurd cc
  read_held files before after parts s r = absurd r

  -- if the first sources were read to their ends, the files hold the parts that these gave, and then what the other files hold
  held_first : (others : List S → List S → Type 0) (Q : List (List ℕ) → Type 0)
      → ((files : List (Opened R)) (bs ns : List S) → AreSourcesOf left bs remaining files → others bs ns
      → (later : List (List ℕ)) × AreHeld remaining files later × Q later)
      → (files : List (Opened R)) (before after : List S) (parts : List (List ℕ)) → AreSourcesOf left before remaining files
      → AreReadFirst left given others before after parts → (later : List (List ℕ)) × AreHeld remaining files (parts ++ later) × Q later
  held_first others Q rest files before after [] s r = rest files before after s r
  held_first others Q rest (f ∷ fs) (b ∷ bs) (n ∷ ns) (p ∷ ps) s r =
      let more = held_first others Q rest fs bs ns ps (tail_of _ _ _ _ s) r.2 in (
        more.0,
        (subst (λ known. IfSome known (λ bytes. p ≡ bytes)) (head_of _ _ _ _ s) (taken_all (left b) (left n) p r.0.bytes r.1), more.1),
        more.2,
      )
  held_first others Q rest [] (b ∷ bs) (n ∷ ns) (p ∷ ps) s r = absurd cc
  held_first others Q rest files before after parts s r = absurd r

  -- the next file's part begins with the bytes that its source gave
  next_held : (bytes : List ℕ) (files : List (Opened R)) (bs ns : List S) → AreSourcesOf left bs remaining files
      → IsNext (λ b n. Gave left given b n bytes) bs ns → (later : List (List ℕ)) × AreHeld remaining files later
      × ((more : List ℕ) × (rest : List (List ℕ)) × (later ≡ (bytes ++ more) ∷ rest))
  next_held bytes (f ∷ fs) (b ∷ bs) (n ∷ ns) s r =
      let rest = some_parts remaining fs in
      let m = with_left (left b) (left n) bytes r.0.bytes in (
        (bytes ++ m.0) ∷ rest.0,
        (subst (λ known. IfSome known (λ all. bytes ++ m.0 ≡ all)) (head_of _ _ _ _ s) m.1, rest.1),
        (m.0, rest.0, refl),
      )
  next_held bytes [] (b ∷ bs) (n ∷ ns) s r = absurd cc
  next_held bytes files bs ns s r = absurd r

  module _ (files : List (Opened R)) (before after : List S) (sources : AreSourcesOf left before remaining files) where
    -- the files are refused for a fault in the bytes that were read
    read_refused : (reads : S → ℕ) (fault : LoadFault) → IsFaultOfRead left given reads before after fault
        → AreRefused remaining files (Load fault)
    read_refused reads fault h = go h.2
      where
        go : AreReadUpTo left given before after h.0 h.1 → AreRefused remaining files (Load fault)
        go (inl (read, none)) =
            let held = held_first (λ bs ns. ns ≡ bs) (λ later. Unit {0})
            (λ fs bs ns s same. let some = some_parts remaining fs in (some.0, some.1, tt)) files before after h.0 sources read in
            record {
              parts = h.0 ++ held.0;
              held = held.1;
              refused = fault_of_rest h.0 held.0 fault (subst (λ (bytes : List ℕ). IsFaultHowever most_records h.0 bytes fault) none h.3);
            }
        go (inr read) =
            let held = held_first (IsNext (λ b n. Gave left given b n h.1))
            (λ later. (more : List ℕ) × (rest : List (List ℕ)) × (later ≡ (h.1 ++ more) ∷ rest)) (next_held h.1) files before after h.0
            sources read in
            record {
              parts = h.0 ++ held.0;
              held = held.1;
              refused = subst (λ later. IsFirstFault (h.0 ++ later) fault) (sym held.2.2) (h.3 held.2.0 held.2.1);
            }

    refused_parts : (fault : Fault) → AreRefusedParts left given before after fault → AreRefused remaining files fault
    refused_parts fault r = record {
      parts = r.parts;
      held = read_held files before after r.parts sources r.read;
      refused = r.refused;
    }

    refused_files : (job : Job) (reads : S → ℕ) (fault : Fault) → IsRefusalBy job left given reads before after fault
        → AreRefused remaining files fault
    refused_files Normalise reads (Load f) r = read_refused reads f r
    refused_files job reads fault r = refused_parts fault r

    -- facts about the sources hold for the files
    pub known_of_files : (job : Job) (failed reads : S → ℕ)
        → IsKnownOf (set_of_sources job left given failed reads before after) (set_of_files remaining files)
    known_of_files job failed reads = record {
      holds = λ parts r. read_held files before after parts sources r;
      refused = refused_files job reads;
      unread = λ _. tt;
    }
