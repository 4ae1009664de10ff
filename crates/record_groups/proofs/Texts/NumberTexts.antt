-- Numbers are in the order of their canonical texts of one width.
use Rattle.record_groups.proofs.Common.{Bool, Equal, Greater, Less, MatchOrdering, Ordering, [], arith, cond, eqb-false, eqb-true, false, nat_cmp, nat_cmp_is, nat_eq, ordering_then, ranked, refl, slice_cmp, suc, sym, true, zero, ℕ, ◌%◌, ◌+◌, ◌/◌, ◌<◌, ◌==◌, ◌^◌, ◌∙◌, ◌∷◌, ◌≡◌}
use Rattle.record_groups.proofs.Texts.RecordTexts.{cmp-append, then_equal}
use Rattle.tl_layout.specs.FieldTexts.{number_text}
use Rattle.tl_layout.specs.Laws.NumberTextLaws.{length-number_text, tenth_below}

-- two pairs of numbers in one order
pub record InOneOrder (a b x y : ℕ) : Type 0 where
  pub less : a < b → x < y
  pub same : a ≡ b → x ≡ y
  pub more : b < a → y < x

-- which are compared alike
pub one_cmp : (a b x y : ℕ) → InOneOrder a b x y → nat_cmp a b ≡ nat_cmp x y
one_cmp a b x y h = nat_cmp_is x y (nat_cmp a b) (go (nat_cmp a b) (ranked a b (nat_cmp a b) refl))
  where
    go : (o : Ordering) → MatchOrdering o (a < b) (a ≡ b) (b < a) → MatchOrdering o (x < y) (x ≡ y) (y < x)
    go Less l = h.less l
    go Equal e = h.same e
    go Greater g = h.more g

-- the last byte of a number's text
abbrev last_byte : ℕ → ℕ
last_byte n = cond (n == 0) 32 (48 + n % 10)

-- numbers that differ in the last digit alone
last_digits : (n m : ℕ) → n / 10 ≡ m / 10 → (b : Bool) → nat_eq n 0 ≡ b → (d : Bool) → nat_eq m 0 ≡ d
    → InOneOrder (cond b 32 (48 + n % 10)) (cond d 32 (48 + m % 10)) n m
last_digits n m e true f true g =
    let n_none : n ≡ 0 = eqb-true n 0 f in
    let m_none : m ≡ 0 = eqb-true m 0 g in
    record { less = λ l. absurd (omega (arith, l)); same = λ s. n_none ∙ sym m_none; more = λ l. absurd (omega (arith, l)) }
last_digits n m e true f false g =
    let n_none : n ≡ 0 = eqb-true n 0 f in
    let m_some : m ≡ 0 → ⊥ = eqb-false m 0 g in
    let m_more : 0 < m = omega arith in
    record { less = λ l. omega arith; same = λ s. absurd (omega (arith, s)); more = λ l. absurd (omega (arith, l)) }
last_digits n m e false f true g =
    let m_none : m ≡ 0 = eqb-true m 0 g in
    let n_some : n ≡ 0 → ⊥ = eqb-false n 0 f in
    let n_more : 0 < n = omega arith in
    record { less = λ l. absurd (omega (arith, l)); same = λ s. absurd (omega (arith, s)); more = λ l. omega arith }
last_digits n m e false f false g =
    record { less = λ l. omega (arith, l); same = λ s. omega (arith, s); more = λ l. omega (arith, l) }

-- the digits before the last one decide first
digits_decide : (n m : ℕ) → ordering_then (nat_cmp (n / 10) (m / 10)) (nat_cmp (last_byte n) (last_byte m)) ≡ nat_cmp n m
digits_decide n m = go (nat_cmp (n / 10) (m / 10)) (ranked (n / 10) (m / 10) (nat_cmp (n / 10) (m / 10)) refl)
  where
    go : (o : Ordering) → MatchOrdering o (n / 10 < m / 10) (n / 10 ≡ m / 10) (m / 10 < n / 10)
        → ordering_then o (nat_cmp (last_byte n) (last_byte m)) ≡ nat_cmp n m
    go Less l = nat_cmp_is n m Less (let below : n < m = omega (arith, l) in below)
    go Equal e = one_cmp (last_byte n) (last_byte m) n m (last_digits n m e (nat_eq n 0) refl (nat_eq m 0) refl)
    go Greater g = nat_cmp_is n m Greater (let above : m < n = omega (arith, g) in above)

pub number_order : (width n m : ℕ) → n < 10 ^ width → m < 10 ^ width
    → slice_cmp nat_cmp (number_text width n) (number_text width m) ≡ nat_cmp n m
unfolding number_text
number_order zero n m h k = nat_cmp_is n m Equal (let same : n ≡ m = omega (arith, h, k) in same)
number_order (suc width) n m h k =
    cmp-append nat_cmp (number_text width (n / 10)) (number_text width (m / 10)) (last_byte n ∷ []) (last_byte m ∷ [])
    (length-number_text width (n / 10) ∙ sym (length-number_text width (m / 10)))
    ∙ (λ i. ordering_then (number_order width (n / 10) (m / 10) (tenth_below width n h) (tenth_below width m k) i)
    (then_equal (nat_cmp (last_byte n) (last_byte m)) i))
    ∙ digits_decide n m
