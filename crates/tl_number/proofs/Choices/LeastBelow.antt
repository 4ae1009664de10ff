-- The least of the values of numbers below a bound, number by number, and digit by digit.
use Rattle.std.specs.List.{AllByRecursion}
use Rattle.std.proofs.Common.{Bool, Equal, Greater, Less, List, Ordering, [], ap, append-nil, arith, below_more, cond, false, get_or, inl, inr, is_eq, is_gt, length, length-append, map, mul_comm, nat_cmp, refl, subst, sym, true, ℕ, ◌%◌, ◌*◌, ◌++◌, ◌+◌, ◌/◌, ◌<◌, ◌∙◌, ◌∷◌, ◌≡◌, ◌≤◌}
use Rattle.std.specs.Cmp.{IsTotalOrder}
use Rattle.std.proofs.lemmas.Bool.{false≢true, lt-ltb, ltb-true}
use Rattle.std.specs.Ordering.{ordering_reverse}
use Rattle.ordered_lists.specs.Orders.{contains, times}
use Rattle.std.proofs.lemmas.Cmp.{tied_itself, upto}
use Rattle.ordered_lists.proofs.ByKey.Keys.{Known, known-here, known-left, known-right, known_all, nat_keys}
use Rattle.ordered_lists.proofs.Lists.Among.{Among, among_left, among_right}
use Rattle.ordered_lists.proofs.Lists.Members.{among-map, among_known, known_is_among}
use Rattle.ordered_lists.proofs.Lists.Elements.{all_append, all_both, all_left, all_map, all_right, all_unmap, all_weaker}
use Rattle.ordered_lists.proofs.Lists.InOrder.{not_greater}
use Rattle.std.proofs.lemmas.Nat.{div_below, mod_below, mul-add-lt}
use Rattle.std.proofs.Math.Nat.{div-add-mod}
use Rattle.tl_number.specs.LeastOnes.{AreLeastBelow}
use Rattle.tl_number.specs.ShapeDigits.{combined}

contained : (n : ℕ) (ns : List ℕ) → Known nat_cmp ns n → contains nat_cmp n ns ≡ true
contained n ns known = lt-ltb 0 (times nat_cmp n ns) known

-- what holds for all numbers holds for one that is contained
pub contained_all : (P : ℕ → Type 0) (ns : List ℕ) → AllByRecursion P ns → (n : ℕ) → contains nat_cmp n ns ≡ true → P n
contained_all P ns all n is_in = known_all nat_keys P ns all n (ltb-true 0 (times nat_cmp n ns) is_in)

-- When the next number is added, the first one stays the first, or gives way to it.
pub first_stays : (p : Ordering) (n : ℕ) (numbers : List ℕ) → 0 < length numbers → is_gt p ≡ false
    → get_or (cond (is_gt p) (n ∷ []) (numbers ++ cond (is_eq p) (n ∷ []) [])) 0 0 ≡ get_or numbers 0 0
first_stays p n [] some e = absurd (omega (arith, some))
first_stays p n (m ∷ numbers) some e = ap (λ b. get_or (cond b (n ∷ []) ((m ∷ numbers) ++ cond (is_eq p) (n ∷ []) [])) 0 0) e

pub first_comes : (p : Ordering) (n : ℕ) (numbers : List ℕ) → is_gt p ≡ true
    → get_or (cond (is_gt p) (n ∷ []) (numbers ++ cond (is_eq p) (n ∷ []) [])) 0 0 ≡ n
first_comes p n numbers e = ap (λ b. get_or (cond b (n ∷ []) (numbers ++ cond (is_eq p) (n ∷ []) [])) 0 0) e

-- ---- each digit with each number

module _ (ways : ℕ) where
  pub all_combined : (P : ℕ → Type 0) (digits numbers : List ℕ)
      → AllByRecursion (λ digit. AllByRecursion (λ number. P (digit * ways + number)) numbers) digits
      → AllByRecursion P (combined ways digits numbers)
  all_combined P [] numbers all = tt
  all_combined P (digit ∷ digits) numbers all =
      all_append P (map (λ number. digit * ways + number) numbers) (combined ways digits numbers)
      (all_map P (λ number. digit * ways + number) numbers all.0) (all_combined P digits numbers all.1)

  pub all_uncombined : (P : ℕ → Type 0) (digits numbers : List ℕ) → AllByRecursion P (combined ways digits numbers)
      → AllByRecursion (λ digit. AllByRecursion (λ number. P (digit * ways + number)) numbers) digits
  all_uncombined P [] numbers all = tt
  all_uncombined P (digit ∷ digits) numbers all = (
    all_unmap P (λ number. digit * ways + number) numbers
        (all_left P (map (λ number. digit * ways + number) numbers) (combined ways digits numbers) all),
    all_uncombined P digits numbers (all_right P (map (λ number. digit * ways + number) numbers) (combined ways digits numbers) all),
  )

  among_combined : (digit number : ℕ) (digits numbers : List ℕ) → Among digit digits → Among number numbers
      → Among (digit * ways + number) (combined ways digits numbers)
  among_combined digit number [] numbers h l = absurd h
  among_combined digit number (d ∷ digits) numbers (inl e) l =
      among_left (digit * ways + number) (map (λ n. d * ways + n) numbers) (combined ways digits numbers)
      (subst (λ i. Among (digit * ways + number) (map (λ n. i * ways + n) numbers)) e
      (among-map (λ n. digit * ways + n) number numbers l))
  among_combined digit number (d ∷ digits) numbers (inr h) l =
      among_right (digit * ways + number) (map (λ n. d * ways + n) numbers) (combined ways digits numbers)
      (among_combined digit number digits numbers h l)

  pub combined_contains : (digit number : ℕ) (digits numbers : List ℕ) → contains nat_cmp digit digits ≡ true
      → contains nat_cmp number numbers ≡ true → contains nat_cmp (digit * ways + number) (combined ways digits numbers) ≡ true
  combined_contains digit number digits numbers h l =
      contained (digit * ways + number) (combined ways digits numbers)
      (among_known nat_keys (digit * ways + number) (combined ways digits numbers)
      (among_combined digit number digits numbers
      (known_is_among nat_keys digit digits (ltb-true 0 (times nat_cmp digit digits) h))
      (known_is_among nat_keys number numbers (ltb-true 0 (times nat_cmp number numbers) l))))

  some_combined : (digits numbers : List ℕ) → 0 < length digits → 0 < length numbers → 0 < length (combined ways digits numbers)
  some_combined [] numbers h l = absurd (omega (arith, h))
  some_combined (digit ∷ digits) [] h l = absurd (omega (arith, l))
  some_combined (digit ∷ digits) (number ∷ numbers) h l = omega arith

  -- the first of them has both firsts
  pub first_combined : (digits numbers : List ℕ) → 0 < length digits → 0 < length numbers
      → get_or (combined ways digits numbers) 0 0 ≡ get_or digits 0 0 * ways + get_or numbers 0 0
  first_combined [] numbers h l = absurd (omega (arith, h))
  first_combined (digit ∷ digits) [] h l = absurd (omega (arith, l))
  first_combined (digit ∷ digits) (number ∷ numbers) h l = refl

  -- which stays below the product of the ways
  pub few_combined : (count bound : ℕ) → count * ways ≤ bound → (digits numbers : List ℕ) → AllByRecursion (λ digit. digit < count) digits
      → AllByRecursion (λ number. number < ways) numbers
      → AllByRecursion (λ digit. AllByRecursion (λ number. digit * ways + number < bound) numbers) digits
  few_combined count bound few digits numbers high low =
      all_weaker (λ digit. digit < count) (λ digit. AllByRecursion (λ number. digit * ways + number < bound) numbers)
      (λ digit h. all_weaker (λ number. number < ways) (λ number. digit * ways + number < bound)
      (λ number l. omega (arith, mul-add-lt digit ways number count h l, mul_comm ways count, few)) numbers low) digits high

-- the first of some numbers
pub first_contained : (ns : List ℕ) → 0 < length ns → contains nat_cmp (get_or ns 0 0) ns ≡ true
first_contained [] some = absurd (omega (arith, some))
first_contained (n ∷ ns) some = contained n (n ∷ ns) (known-here nat_keys n ns)

-- ---- the least of the values of numbers

module _ {K : Type 0} {cmp : K → K → Ordering} (o : IsTotalOrder cmp) where
  -- what comes before a value isn't after it
  before : (x y : K) → is_gt (cmp x y) ≡ true → is_gt (cmp y x) ≡ false
  before x y = not_greater (cmp x y) (cmp y x) (o.antisymm x y)

  itself : (x : K) → is_gt (cmp x x) ≡ false
  itself x = ap is_gt (tied_itself o x)

  -- what isn't before a value comes after all that come before it
  still_greater : (x y z : K) → is_gt (cmp x y) ≡ false → is_gt (cmp x z) ≡ true → is_gt (cmp y z) ≡ true
  still_greater x y z up gt = go (is_gt (cmp y z)) refl
    where
      go : (b : Bool) → is_gt (cmp y z) ≡ b → b ≡ true
      go true e = refl
      go false e = absurd (false≢true (sym (upto o x y z up e) ∙ gt))

  module _ (value : ℕ → K) where
    abbrev NotAfter : ℕ → ℕ → Type 0
    NotAfter n m = is_gt (cmp (value n) (value m)) ≡ false

    only : (n : ℕ) → ((m : ℕ) → m < n → is_gt (cmp (value m) (value n)) ≡ true) → AreLeastBelow cmp value (n + 1) (n ∷ [])
    only n greater = record {
      some = omega arith;
      within = (omega arith, tt);
      least = (below_more (NotAfter n) n (λ m l. before (value m) (value n) (greater m l)) (itself (value n)), tt);
      all = below_more (λ m. AllByRecursion (NotAfter m) (n ∷ []) → contains nat_cmp m (n ∷ []) ≡ true) n
          (λ m l up. absurd (false≢true (sym up.0 ∙ greater m l))) (λ up. contained n (n ∷ []) (known-here nat_keys n []));
    }

    -- of one number
    pub least_first : AreLeastBelow cmp value 1 (0 ∷ [])
    least_first = only 0 (λ m l. absurd (omega (arith, l)))

    -- Of one number more, whose value is compared with one of the least.
    module _ (n : ℕ) (numbers : List ℕ) (are : AreLeastBelow cmp value n numbers) (c : ℕ) (is_in : contains nat_cmp c numbers ≡ true) where
      within_of : c < n
      within_of = contained_all (λ k. k < n) numbers are.within c is_in

      least_of : (m : ℕ) → m < n → NotAfter c m
      least_of = contained_all (λ k. (m : ℕ) → m < n → NotAfter k m) numbers are.least c is_in

      -- if it's less,
      pub least_less : is_gt (cmp (value c) (value n)) ≡ true → AreLeastBelow cmp value (n + 1) (n ∷ [])
      least_less gt = only n (λ m l. still_greater (value c) (value m) (value n) (least_of m l) gt)

      -- if it's greater,
      pub least_greater : is_gt (cmp (value n) (value c)) ≡ true → AreLeastBelow cmp value (n + 1) numbers
      least_greater gt = record {
        some = are.some;
        within = all_weaker (λ k. k < n) (λ k. k < n + 1) (λ k l. omega (arith, l)) numbers are.within;
        least = all_weaker (λ k. (m : ℕ) → m < n → NotAfter k m) (λ k. (m : ℕ) → m < n + 1 → NotAfter k m)
            (λ k up. below_more (NotAfter k) n up (upto o (value k) (value c) (value n) (up c within_of) (before (value n) (value c) gt)))
            numbers are.least;
        all = below_more (λ m. AllByRecursion (NotAfter m) numbers → contains nat_cmp m numbers ≡ true) n are.all
            (λ up. absurd (false≢true (sym (contained_all (NotAfter n) numbers up c is_in) ∙ gt)));
      }

      -- and if it's as little
      pub least_tied : cmp (value c) (value n) ≡ Equal → AreLeastBelow cmp value (n + 1) (numbers ++ n ∷ [])
      least_tied tie =
          let one : NotAfter c n = ap is_gt tie in
          let other : NotAfter n c = ap is_gt (o.antisymm (value n) (value c) ∙ ap ordering_reverse tie) in
          record {
            some = omega (arith, length-append numbers (n ∷ []));
            within = all_append (λ k. k < n + 1) numbers (n ∷ [])
                (all_weaker (λ k. k < n) (λ k. k < n + 1) (λ k l. omega (arith, l)) numbers are.within) (omega arith, tt);
            least = all_append (λ k. (m : ℕ) → m < n + 1 → NotAfter k m) numbers (n ∷ [])
                (all_weaker (λ k. (m : ℕ) → m < n → NotAfter k m) (λ k. (m : ℕ) → m < n + 1 → NotAfter k m)
                (λ k up. below_more (NotAfter k) n up (upto o (value k) (value c) (value n) (up c within_of) one)) numbers are.least)
                (below_more (NotAfter n) n (λ m l. upto o (value n) (value c) (value m) other (least_of m l)) (itself (value n)), tt);
            all = below_more (λ m. AllByRecursion (NotAfter m) (numbers ++ n ∷ []) → contains nat_cmp m (numbers ++ n ∷ []) ≡ true) n
                (λ m l up. contained m (numbers ++ n ∷ []) (known-left nat_keys m numbers (n ∷ [])
                (ltb-true 0 (times nat_cmp m numbers) (are.all m l (all_left (NotAfter m) numbers (n ∷ []) up)))))
                (λ up. contained n (numbers ++ n ∷ []) (known-right nat_keys n numbers (n ∷ []) (known-here nat_keys n [])));
          }

      -- So the least of them are kept by how they compare.
      pub least_next : (p : Ordering) → p ≡ cmp (value c) (value n)
          → AreLeastBelow cmp value (n + 1) (cond (is_gt p) (n ∷ []) (numbers ++ cond (is_eq p) (n ∷ []) []))
      least_next Less e = subst (AreLeastBelow cmp value (n + 1)) (sym (append-nil numbers))
          (least_greater (ap is_gt (o.antisymm (value n) (value c) ∙ ap ordering_reverse (sym e))))
      least_next Equal e = least_tied (sym e)
      least_next Greater e = least_less (ap is_gt (sym e))

    -- Of numbers with one digit more. Numbers with one digit compare as the numbers after it do.
    module _ (ways count : ℕ) (alike : (digit n m : ℕ) → n < ways → m < ways
        → cmp (value (digit * ways + n)) (value (digit * ways + m)) ≡ cmp (value n) (value m))
        (numbers : List ℕ) (are : AreLeastBelow cmp value ways numbers) (c : ℕ) (is_in : contains nat_cmp c numbers ≡ true)
        (digits : List ℕ) (tops : AreLeastBelow cmp (λ digit. value (digit * ways + c)) count digits) where
      low : c < ways
      low = contained_all (λ k. k < ways) numbers are.within c is_in

      lowest : (m : ℕ) → m < ways → NotAfter c m
      lowest = contained_all (λ k. (m : ℕ) → m < ways → NotAfter k m) numbers are.least c is_in

      -- numbers with one digit
      in_digit : (digit n m : ℕ) → n < ways → m < ways → NotAfter n m → NotAfter (digit * ways + n) (digit * ways + m)
      in_digit digit n m l k up = ap is_gt (alike digit n m l k) ∙ up

      out_of_digit : (digit n m : ℕ) → n < ways → m < ways → NotAfter (digit * ways + n) (digit * ways + m) → NotAfter n m
      out_of_digit digit n m l k up = sym (ap is_gt (alike digit n m l k)) ∙ up

      abbrev Below : (ℕ → Type 0) → Type 0
      Below P = (m : ℕ) → m < count * ways → P m

      -- what holds for each digit with each number holds below the product
      by_digits : (P : ℕ → Type 0) → ((digit n : ℕ) → digit < count → n < ways → P (digit * ways + n)) → Below P
      by_digits P each m l =
          let some : 0 < ways = omega (arith, low) in
          let top : m / ways < count = div_below m ways count some l in
          let rest : m % ways < ways = mod_below m ways some in
          let whole : (m / ways) * ways + m % ways ≡ m = omega (arith, div-add-mod m ways, mul_comm ways (m / ways)) in
          subst P whole (each (m / ways) (m % ways) top rest)

      bounded : (digit n : ℕ) → digit < count → n < ways → digit * ways + n < count * ways
      bounded digit n l k =
          let more : (digit + 1) * ways ≤ count * ways = grown (digit + 1) count ways (omega (arith, l)) in
          let apart : (digit + 1) * ways ≡ digit * ways + ways = grind arith in
          omega (arith, more, apart, k)
        where
          grown : (a b w : ℕ) → a ≤ b → a * w ≤ b * w
          grown a b w h = grind (arith, h)

      pub least_combined : AreLeastBelow cmp value (count * ways) (combined ways digits numbers)
      least_combined = record {
        some = some_combined ways digits numbers tops.some are.some;
        within = all_combined ways (λ k. k < count * ways) digits numbers
            (all_weaker (λ digit. digit < count) (λ digit. AllByRecursion (λ n. digit * ways + n < count * ways) numbers)
            (λ digit l. all_weaker (λ n. n < ways) (λ n. digit * ways + n < count * ways) (λ n k. bounded digit n l k) numbers are.within)
            digits tops.within);
        least = all_combined ways (λ k. Below (NotAfter k)) digits numbers
            (all_weaker (λ digit. (e : ℕ) → e < count → NotAfter (digit * ways + c) (e * ways + c))
            (λ digit. AllByRecursion (λ n. Below (NotAfter (digit * ways + n))) numbers)
            (λ digit up. all_weaker (λ n. (n < ways) × ((m : ℕ) → m < ways → NotAfter n m)) (λ n. Below (NotAfter (digit * ways + n)))
            (λ n both. by_digits (NotAfter (digit * ways + n)) (λ e m l k.
            upto o (value (digit * ways + n)) (value (e * ways + c)) (value (e * ways + m))
            (upto o (value (digit * ways + n)) (value (digit * ways + c)) (value (e * ways + c))
            (in_digit digit n c both.0 low (both.1 c low)) (up e l))
            (in_digit e c m low k (lowest m k))))
            numbers (all_both (λ n. n < ways) (λ n. (m : ℕ) → m < ways → NotAfter n m) numbers are.within are.least))
            digits tops.least);
        all = by_digits (λ m. AllByRecursion (NotAfter m) (combined ways digits numbers) → contains nat_cmp m (combined ways digits numbers) ≡ true)
            (λ digit n l k up.
            let each = all_uncombined ways (NotAfter (digit * ways + n)) digits numbers up in
            let top : contains nat_cmp digit digits ≡ true =
            tops.all digit l (all_weaker (λ d. AllByRecursion (λ m. NotAfter (digit * ways + n) (d * ways + m)) numbers)
            (λ d. NotAfter (digit * ways + c) (d * ways + c))
            (λ d some. upto o (value (digit * ways + c)) (value (digit * ways + n)) (value (d * ways + c))
            (in_digit digit c n low k (lowest n k)) (contained_all (λ m. NotAfter (digit * ways + n) (d * ways + m)) numbers some c is_in))
            digits each) in
            combined_contains ways digit n digits numbers top
            (are.all n k (all_weaker (λ m. (m < ways) × NotAfter (digit * ways + n) (digit * ways + m)) (NotAfter n)
            (λ m both. out_of_digit digit n m k both.0 both.1) numbers
            (all_both (λ m. m < ways) (λ m. NotAfter (digit * ways + n) (digit * ways + m)) numbers are.within
            (contained_all (λ d. AllByRecursion (λ m. NotAfter (digit * ways + n) (d * ways + m)) numbers) digits each digit top)))));
      }

  -- All values are the same,
  pub least_tie : (value : ℕ → K) (bound : ℕ) (numbers : List ℕ) → AreLeastBelow cmp value bound numbers
      → AllByRecursion (λ n. AllByRecursion (λ m. cmp (value n) (value m) ≡ Equal) numbers) numbers
  least_tie value bound numbers are =
      let all = all_both (λ n. n < bound) (λ n. (m : ℕ) → m < bound → NotAfter value n m) numbers are.within are.least in
      all_weaker (λ n. (n < bound) × ((m : ℕ) → m < bound → NotAfter value n m)) (λ n. AllByRecursion (λ m. cmp (value n) (value m) ≡ Equal) numbers)
      (λ n one. all_weaker (λ m. (m < bound) × ((k : ℕ) → k < bound → NotAfter value m k)) (λ m. cmp (value n) (value m) ≡ Equal)
      (λ m other. tied (cmp (value n) (value m)) (cmp (value m) (value n)) (o.antisymm (value n) (value m)) (one.1 m other.0) (other.1 n one.0))
      numbers all) numbers all
    where
      tied : (p q : Ordering) → p ≡ ordering_reverse q → is_gt p ≡ false → is_gt q ≡ false → p ≡ Equal
      tied p Less e f g = absurd (false≢true (sym f ∙ ap is_gt e))
      tied p Equal e f g = e
      tied p Greater e f g = absurd (false≢true (sym g))

  -- If the values decide another order, the least of the numbers in that order is the least of all.
  pub least_leads : (value : ℕ → K) (bound : ℕ) (numbers : List ℕ) → AreLeastBelow cmp value bound numbers
      → {T : Type 0} {by : T → T → Ordering} (p : IsTotalOrder by) (text : ℕ → T)
      → ((m k : ℕ) → is_gt (cmp (value m) (value k)) ≡ true → is_gt (by (text m) (text k)) ≡ true)
      → (n : ℕ) → AllByRecursion (λ k. is_gt (by (text n) (text k)) ≡ false) numbers → (m : ℕ) → m < bound → is_gt (by (text n) (text m)) ≡ false
  least_leads value bound [] are p text decide n among m l = absurd (omega (arith, are.some))
  least_leads value bound (x ∷ xs) are {by = by} p text decide n among m l = go (is_gt (cmp (value m) (value x))) refl
    where
      go : (b : Bool) → is_gt (cmp (value m) (value x)) ≡ b → is_gt (by (text n) (text m)) ≡ false
      go false e = contained_all (λ k. is_gt (by (text n) (text k)) ≡ false) (x ∷ xs) among m
          (are.all m l (all_weaker (λ k. k < bound) (NotAfter value m)
          (λ k h. upto o (value m) (value x) (value k) e (are.least.0 k h)) (x ∷ xs) are.within))
      go true e = upto p (text n) (text x) (text m) among.0
          (not_greater (by (text m) (text x)) (by (text x) (text m)) (p.antisymm (text m) (text x)) (decide m x e))

-- what holds for the only one of some numbers holds for all
pub lone_all : (P : ℕ → Type 0) (ns : List ℕ) → length ns ≡ 1 → P (get_or ns 0 0) → AllByRecursion P ns
lone_all P [] one p = tt
lone_all P (n ∷ []) one p = (p, tt)
lone_all P (n ∷ k ∷ ns) one p = absurd (omega (arith, one))
