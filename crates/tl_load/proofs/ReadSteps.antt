-- The bytes that a source returns, and its counts.
use Rattle.tl_load.proofs.Common.{Consumes, Gave, Lifts, List, LoadedInto, None, Ok, Option, Record, RoseBy, Some, StopsThere, Takes, TakesWell, [], ap, append-nil, append_assoc, arith, length, length-append, mod-add-mod, most_unfinished, refl, rules, subst, sym, ℕ, ◌%◌, ◌++◌, ◌+◌, ◌^◌, ◌∙◌, ◌≤◌}

consumes_nil : (a : Option (List ℕ)) → Consumes a a []
consumes_nil None = tt
consumes_nil (Some x) = refl

consumes_then : (a b c : Option (List ℕ)) (x y : List ℕ) → Consumes a b x → Consumes b c y → Consumes a c (x ++ y)
consumes_then None b c x y p q = tt
consumes_then (Some s) None c x y p q = absurd p
consumes_then (Some s) (Some t) None x y p q = absurd q
consumes_then (Some s) (Some t) (Some u) x y p q = p ∙ ap (λ (l : List ℕ). x ++ l) q ∙ sym (append_assoc x y u)

rose_then : (a b c m n : ℕ) → RoseBy m a b → RoseBy n b c → RoseBy (m + n) a c
rose_then a b c m n p q = search (rules, mod-add-mod)

module _ {R : Type 0} (remaining : R → Option (List ℕ)) (given : R → ℕ) where
  pub gave_none : (s : R) → Gave remaining given s s []
  gave_none s = record { bytes = consumes_nil (remaining s); counted = ap (λ (k : ℕ). k % 2 ^ 64) (omega arith) }

  pub gave_more : (a b c : R) (taken bytes : List ℕ) → Gave remaining given a b taken → Consumes (remaining b) (remaining c) bytes
      → RoseBy (length bytes) (given b) (given c) → Gave remaining given a c (taken ++ bytes)
  gave_more a b c taken bytes p q r = search (rules, consumes_then, length-append, rose_then)

  pub gave_same : (a b c : R) (taken : List ℕ) → Gave remaining given a b taken → Consumes (remaining b) (remaining c) []
      → RoseBy 0 (given b) (given c) → Gave remaining given a c taken
  gave_same a b c taken p q r = subst (Gave remaining given a c) (append-nil taken) (gave_more a b c taken [] p q r)

-- reading stops as it should if the loader took all bytes before the last read without a fault
pub stopped : {R K : Type 0} (remaining : R → Option (List ℕ)) (given reads : R → ℕ) (holds : K → List Record → Type 0)
    (start now : LoadedInto K) (before last after : R) (taken : List ℕ) → Gave remaining given before last taken
    → Lifts {T = Unit {0}} holds (Takes taken) start (Ok tt) now → length now.unfinished ≤ most_unfinished → RoseBy 1 (reads last) (reads after)
    → StopsThere remaining given reads before after (TakesWell holds start)
stopped remaining given reads holds start now before last after taken gave takes short one_read = search rules
