-- Small facts for proofs about the loader.
use Rattle.tl_load.proofs.Common.{Err, Inside, IsFeedAfter, IsLineEnd, IsOk, IsTrue, IsWithoutLineFeed, List, Loaded, Ok, OnOk, Record, Result, [], ap, arith, drop, drop_more, eqb, eqb-true, false, false_from_ne_true, get_or, get_or-take, get_or_default, inl, inr, is_allowed, is_line_feed, length, length-take, refl, rules, subst, sym, take, take-append-drop, take_all, take_more, take_rest, true, without_return, ℕ, ◌++◌, ◌+◌, ◌-◌, ◌<◌, ◌∙◌, ◌∷◌, ◌≡◌, ◌≤◌}
use Rattle.tl_load.proofs.LineLemmas.{clean_without_return, without_feed_cons, without_return_drops}
use Rattle.memchr.specs.Find.{Nowhere, Passes, is_byte}
use Rattle.tl_layout.specs.Bytes.{AreAllowed}

pub empty_is : (l : List ℕ) → eqb (length l) 0 ≡ true → l ≡ []
empty_is [] h = refl
empty_is (x ∷ l) h = let e = eqb-true (length (x ∷ l)) 0 h in absurd (omega (arith, e))

pub some_is : (l : List ℕ) → eqb (length l) 0 ≡ false → 0 < length l
some_is [] h = absurd cc
some_is (x ∷ l) h = omega arith

pub on_ok_by : {T E P : Type 0} (r : Result T E) → P → OnOk r P
on_ok_by (Ok x) p = p
on_ok_by (Err e) p = tt

pub on_ok_of : {T E P : Type 0} (r : Result T E) → IsOk r → OnOk r P → P
on_ok_of (Ok x) h p = p
on_ok_of (Err e) h p = absurd cc

-- the loader with these fields, if these records were kept
abbrev pub opened : {K : Type 0} → Inside K → List Record → Loaded
opened l records =
    record { records = records; parts = l.parts; judged = l.judged; unfinished = l.line.items; limit = l.limit; fault = l.fault }

-- if no position has an LF, no byte is an LF
pub no_feed_below : (bytes : List ℕ) (n : ℕ) → n ≤ length bytes → Nowhere (Passes (is_byte 10) bytes) 0 n → IsWithoutLineFeed (take n bytes)
no_feed_below bytes n le none k d lt = search (rules, length-take, get_or-take, get_or_default, false_from_ne_true)

pub no_feed : (bytes : List ℕ) → Nowhere (Passes (is_byte 10) bytes) 0 (length bytes) → IsWithoutLineFeed bytes
no_feed bytes none = subst IsWithoutLineFeed (take_all (length bytes) bytes (omega arith))
    (no_feed_below bytes (length bytes) (omega arith) none)

-- the bytes before an LF, the LF, and the bytes after it
pub cut_at : (bytes : List ℕ) (n : ℕ) → n < length bytes → eqb (get_or bytes n 0) 10 ≡ true
    → bytes ≡ take n bytes ++ 10 ∷ drop 1 (drop n bytes)
cut_at bytes n lt h = search (rules, drop_more, take-append-drop, eqb-true)

-- a byte that is allowed in a line isn't an LF
not_feed : (b : ℕ) → IsTrue (is_allowed b) → is_line_feed b ≡ false
not_feed b allowed = search (rules, eqb-true)

clean_no_feed : (bytes : List ℕ) → AreAllowed bytes → IsWithoutLineFeed bytes
unfolding AreAllowed
clean_no_feed bytes allowed k d lt = not_feed (get_or bytes k d) (allowed k d lt)

-- an LF after clean bytes ends the first line
ends_with_feed : (bytes : List ℕ) (n : ℕ) → n < length bytes → get_or bytes n 0 ≡ 10 → AreAllowed (take n bytes)
    → IsLineEnd bytes n true
ends_with_feed bytes n lt feed allowed = record {
  within = lt;
  cut = cut_at bytes n lt (ap (λ (b : ℕ). eqb b 10) feed);
  first = clean_no_feed (take n bytes) allowed;
  clean = λ _. clean_without_return (take n bytes) allowed;
}

-- so do a CR and an LF after them
ends_with_return : (bytes : List ℕ) (n : ℕ) → n + 1 < length bytes → get_or bytes n 0 ≡ 13 → get_or bytes (n + 1) 0 ≡ 10
    → AreAllowed (take n bytes) → IsLineEnd bytes (n + 1) true
ends_with_return bytes n lt return feed allowed =
    let line : take (n + 1) bytes ≡ take n bytes ++ 13 ∷ [] =
    take_more bytes n 0 (omega (arith, lt)) ∙ ap (λ (b : ℕ). take n bytes ++ b ∷ []) return in
    record {
      within = lt;
      cut = cut_at bytes (n + 1) lt (ap (λ (b : ℕ). eqb b 10) feed);
      first = subst IsWithoutLineFeed (sym line) (without_feed_cons (take n bytes) 13 (clean_no_feed (take n bytes) allowed) refl);
      clean = λ _. subst (λ l. AreAllowed (without_return l)) (sym line)
          (subst AreAllowed (sym (without_return_drops (take n bytes))) allowed);
    }

pub ends_clean : (bytes : List ℕ) (len place : ℕ) → IsFeedAfter bytes len place → AreAllowed (take len bytes)
    → IsLineEnd bytes place true
ends_clean bytes len place (within, feed, inl same) allowed =
    ends_with_feed bytes place within feed (subst (λ n. AreAllowed (take n bytes)) (sym same) allowed)
ends_clean bytes len place (within, feed, inr (next, return)) allowed =
    subst (λ n. IsLineEnd bytes n true) (sym next)
    (ends_with_return bytes len (omega (arith, within, next)) return (ap (λ n. get_or bytes n 0) (sym next) ∙ feed) allowed)

-- the slice `&bytes[1..]`
pub rest_of : (bytes : List ℕ) → take (length bytes - 1) (drop 1 bytes) ≡ drop 1 bytes
rest_of bytes = take_rest bytes 1
