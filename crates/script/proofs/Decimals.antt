-- Decimal numbers: what is written is read back, and nothing else is read.
use Rattle.std.specs.Prelude.{decimal as library_decimal}
use Rattle.std.proofs.lemmas.Fmt.{decimal_from_appends, length-decimal-le}
use mir.Syntax.{w32}
use mir.Val.{Fits}
use Rattle.std.proofs.lemmas.Option.{same_Some, none-some}
use Rattle.std.specs.Prelude.{Some, None}
use Prim.Native.Nat.{ℕ, zero, suc, pred, ◌<◌, ◌≤◌, ◌+◌, ◌-◌, ◌*◌, ◌/◌, ◌%◌, ◌^◌}
use mathlib.Core.Bool.{Bool, true, false, false≢true}
use mathlib.Core.List.{List, [], ◌∷◌, ◌++◌, append-nil}
use mathlib.Core.Path.{◌≡◌, refl, sym, ap, ◌∙◌}
use borrow.Author.Tests.{ne_eqb, lt-ltb, le-ltb, leb-true, eqb-true, eqb-false, ltb-true, ltb-false}
use lib.Dec.{eqb, ltb, leb}
use lib.ListN.{length, get_or, length-append, get_or-append}
use lib.Seq.{append_snoc}
use native.Mathlib.Nat.{pow-suc, pow-le-pow_right}
use native.Mathlib.Omega.{arith}
use Rattle.script.proofs.Scans.{digit_is, digit_goes_on, digit_stops, digits_none}
use Rattle.script.proofs.Steps.{natural_long, natural_padded, natural_plain}
use Rattle.script.specs.Reading.{word_length, is_digit, natural_from, read_natural}
use Rattle.script.specs.Sizes.{most_digits}
use Rattle.script.specs.Texts.{space, minus_sign, digit_0, digit_9, decimal_in, decimal}
use Rattle.table.proofs.Chains.{by_bool, pick_yes, pick_no}
use Rattle.table.specs.Tests.{◌and◌}

both_first : (a b : Bool) → a and b ≡ true → a ≡ true
unfolding ◌and◌
both_first true b e = refl
both_first false b e = e

both_second : (a b : Bool) → a and b ≡ true → b ≡ true
unfolding ◌and◌
both_second true b e = e
both_second false b e = absurd (false≢true e)

-- ---- one step of the definition

decimal_small : (k n : ℕ) → n < 10 → decimal_in (suc k) n ≡ (digit_0 + n) ∷ []
unfolding decimal_in
decimal_small k n h =
    pick_yes (ltb n 10) ((digit_0 + n) ∷ []) (decimal_in k (n / 10) ++ (digit_0 + n % 10) ∷ []) (lt-ltb n 10 h)

decimal_large : (k n : ℕ) → 10 ≤ n → decimal_in (suc k) n ≡ decimal_in k (n / 10) ++ (digit_0 + n % 10) ∷ []
unfolding decimal_in
decimal_large k n h =
    pick_no (ltb n 10) ((digit_0 + n) ∷ []) (decimal_in k (n / 10) ++ (digit_0 + n % 10) ∷ []) (le-ltb n 10 h)

-- by whether a number has one digit
by_size : {A : Type 0} (n : ℕ) → (n < 10 → A) → (10 ≤ n → A) → A
by_size n f g = by_bool (ltb n 10) (λ e. f (ltb-true n 10 e)) (λ e. g (ltb-false n 10 e))

tenth : (k n : ℕ) → n < 10 ^ suc (suc k) → n / 10 < 10 ^ suc k
tenth k n h = let p = pow-suc 10 (suc k) in omega arith

-- ---- more digits than are needed make no difference

decimal_enough : (k n : ℕ) → n < 10 ^ suc k → decimal_in (suc (suc k)) n ≡ decimal_in (suc k) n
decimal_enough zero n h =
    let l : n < 10 = omega arith in
    decimal_small 1 n l ∙ sym (decimal_small 0 n l)
decimal_enough (suc k) n h =
    by_size n
    (λ l. decimal_small (suc (suc k)) n l ∙ sym (decimal_small (suc k) n l))
    (λ l.
    decimal_large (suc (suc k)) n l
    ∙ ap (λ ds. ds ++ (digit_0 + n % 10) ∷ []) (decimal_enough k (n / 10) (tenth k n h))
    ∙ sym (decimal_large (suc k) n l))

pub decimal_one : (n : ℕ) → n < 10 → decimal n ≡ (digit_0 + n) ∷ []
unfolding decimal
decimal_one n h = decimal_small (pred most_digits) n h

pub decimal_more : (n : ℕ) → 10 ≤ n → n < 10 ^ most_digits → decimal n ≡ decimal (n / 10) ++ (digit_0 + n % 10) ∷ []
unfolding decimal
decimal_more n h b =
    decimal_large (pred most_digits) n h
    ∙ ap (λ ds. ds ++ (digit_0 + n % 10) ∷ []) (sym (decimal_enough (pred (pred most_digits)) (n / 10) (tenth (pred (pred most_digits)) n b)))

-- ---- how long a number is

at_most : (k n : ℕ) → length (decimal_in k n) ≤ k
unfolding decimal_in
at_most zero n = omega arith
at_most (suc k) n =
    by_size n
    (λ l. let e = ap length (decimal_small k n l) in omega arith)
    (λ l.
    let e = ap length (decimal_large k n l) in
    let f = length-append (decimal_in k (n / 10)) ((digit_0 + n % 10) ∷ []) in
    let h = at_most k (n / 10) in
    omega arith)

at_least : (k n : ℕ) → 1 ≤ length (decimal_in (suc k) n)
at_least k n =
    by_size n
    (λ l. let e = ap length (decimal_small k n l) in omega arith)
    (λ l.
    let e = ap length (decimal_large k n l) in
    let f = length-append (decimal_in k (n / 10)) ((digit_0 + n % 10) ∷ []) in
    omega arith)

pub decimal_length : (n : ℕ) → length (decimal n) ≤ most_digits
unfolding decimal
decimal_length n = at_most most_digits n

-- the library's decimal text is the definition's
pub decimal_library : (n : ℕ) → Fits w32 n → library_decimal n ≡ decimal n
unfolding decimal
decimal_library n f =
    let h = f.fits in
    sym (decimal_from_appends decimal_in (record { one = decimal_small; more = decimal_large }) most_digits n (omega arith)
    (length-decimal-le most_digits n (omega arith) (omega arith) (omega arith)))

pub decimal_some : (n : ℕ) → 1 ≤ length (decimal n)
unfolding decimal
decimal_some n = at_least (pred most_digits) n

-- ---- no needless zero

first_digit : (k n : ℕ) → 0 < n → n < 10 ^ suc k → get_or (decimal_in (suc k) n) 0 0 ≡ digit_0 → ⊥
first_digit zero n h b e =
    let l : n < 10 = omega arith in
    let f : digit_0 + n ≡ digit_0 = sym (ap (λ ds. get_or ds 0 0) (decimal_small 0 n l)) ∙ e in
    omega arith
first_digit (suc k) n h b e =
    by_size n
    (λ l.
    let f : digit_0 + n ≡ digit_0 = sym (ap (λ ds. get_or ds 0 0) (decimal_small (suc k) n l)) ∙ e in
    omega arith)
    (λ l.
    let f = ap (λ ds. get_or ds 0 0) (decimal_large (suc k) n l) in
    let g = get_or-append (decimal_in (suc k) (n / 10)) ((digit_0 + n % 10) ∷ []) 0 0 (at_least k (n / 10)) in
    let p : 0 < n / 10 = omega arith in
    first_digit k (n / 10) p (tenth k n b) (sym (f ∙ g) ∙ e))

-- ---- what is written is read back

-- one more digit at the end
read_snoc : (ds : List ℕ) (m v d : ℕ) → d < 10 → natural_from m ds ≡ Some v → natural_from m (ds ++ (digit_0 + d) ∷ []) ≡ Some (v * 10 + d)
read_snoc [] m v d h e =
    let i : m ≡ v = same_Some m v (sym (digits_none m) ∙ e) in
    let f : m * 10 + (digit_0 + d - digit_0) ≡ v * 10 + d = omega arith in
    digit_goes_on m (digit_0 + d) [] (digit_is (digit_0 + d) (omega arith) (omega arith)) ∙ digits_none _ ∙ ap Some f
read_snoc (b ∷ bs) m v d h e =
    by_bool (is_digit b)
    (λ q.
    digit_goes_on m b (bs ++ (digit_0 + d) ∷ []) q
    ∙ read_snoc bs (m * 10 + (b - digit_0)) v d h (sym (digit_goes_on m b bs q) ∙ e))
    (λ q. absurd (none-some v (sym (digit_stops m b bs q) ∙ e)))

read_small : (k n : ℕ) → n < 10 → natural_from 0 (decimal_in (suc k) n) ≡ Some n
read_small k n l =
    let f : 0 * 10 + (digit_0 + n - digit_0) ≡ n = omega arith in
    ap (natural_from 0) (decimal_small k n l)
    ∙ digit_goes_on 0 (digit_0 + n) [] (digit_is (digit_0 + n) (omega arith) (omega arith))
    ∙ digits_none _
    ∙ ap Some f

read_decimal_in : (k n : ℕ) → n < 10 ^ suc k → natural_from 0 (decimal_in (suc k) n) ≡ Some n
read_decimal_in zero n h = read_small 0 n (omega arith)
read_decimal_in (suc k) n h =
    by_size n
    (λ l. read_small (suc k) n l)
    (λ l.
    let f : n / 10 * 10 + n % 10 ≡ n = omega arith in
    ap (natural_from 0) (decimal_large (suc k) n l)
    ∙ read_snoc (decimal_in (suc k) (n / 10)) 0 (n / 10) (n % 10) (omega arith) (read_decimal_in k (n / 10) (tenth k n h))
    ∙ ap Some f)

natural_zero : read_natural (digit_0 ∷ []) ≡ Some 0
unfolding read_natural
natural_zero = refl

pub decimal_read : (n : ℕ) → n < 10 ^ most_digits → read_natural (decimal n) ≡ Some n
unfolding decimal
decimal_read n h =
    by_bool (eqb n 0)
    (λ e.
    let z = eqb-true n 0 e in
    ap read_natural (decimal_one n (omega arith)) ∙ ap (λ m. read_natural ((digit_0 + m) ∷ [])) z ∙ natural_zero ∙ ap Some (sym z))
    (λ e.
    let z = eqb-false n 0 e in
    let s = decimal_some n in
    natural_plain (decimal_in most_digits n) (λ q. omega arith) (decimal_length n) (first_digit (pred most_digits) n (omega arith) h) ∙ read_decimal_in (pred most_digits) n h)

-- ---- nothing else is read

digit_low_end : (b : ℕ) → is_digit b ≡ true → digit_0 ≤ b
unfolding is_digit
digit_low_end b e = leb-true digit_0 b (both_first (leb digit_0 b) (leb b digit_9) e)

digit_high_end : (b : ℕ) → is_digit b ≡ true → b ≤ digit_9
unfolding is_digit
digit_high_end b e = leb-true b digit_9 (both_second (leb digit_0 b) (leb b digit_9) e)

-- The digits of n are p, those of the value so far, and those that are left.
written : (l p : List ℕ) (m k n : ℕ) → 0 < m → m < 10 ^ k → length l + k ≤ most_digits → decimal m ≡ p → natural_from m l ≡ Some n → decimal n ≡ p ++ l
written [] p m k n z s h d e =
    let i : m ≡ n = same_Some m n (sym (digits_none m) ∙ e) in
    ap decimal (sym i) ∙ d ∙ sym (append-nil p)
written (b ∷ bs) p m k n z s h d e =
    by_bool (is_digit b)
    (λ q.
    let l = digit_low_end b q in
    let u = digit_high_end b q in
    let w = pow-suc 10 k in
    let t : 10 ^ suc k ≤ 10 ^ most_digits = pow-le-pow_right {n = 10} (omega arith) {i = suc k} {j = most_digits} (omega arith) in
    let m' : ℕ = m * 10 + (b - digit_0) in
    let x : m' / 10 ≡ m = omega arith in
    let y : digit_0 + m' % 10 ≡ b = omega arith in
    let f : decimal m' ≡ p ++ b ∷ [] =
    decimal_more m' (omega arith) (omega arith) ∙ (λ j. decimal (x j) ++ y j ∷ []) ∙ ap (λ ds. ds ++ b ∷ []) d in
    written bs (p ++ b ∷ []) m' (suc k) n (omega arith) (omega arith) (omega arith) f (sym (digit_goes_on m b bs q) ∙ e)
    ∙ append_snoc p b bs)
    (λ q. absurd (none-some n (sym (digit_stops m b bs q) ∙ e)))

natural_empty : read_natural [] ≡ None
unfolding read_natural
natural_empty = refl

length_none : (l : List ℕ) → length l ≡ 0 → l ≡ []
length_none [] e = refl
length_none (b ∷ bs) e = absurd (omega arith)

-- a lone 0
lone_zero : (b : ℕ) (bs : List ℕ) (n : ℕ) → b ≡ digit_0 → length bs ≡ 0 → read_natural (b ∷ bs) ≡ Some n → b ∷ bs ≡ decimal n
lone_zero b bs n f o e =
    let x : b ∷ bs ≡ digit_0 ∷ [] = (λ j. f j ∷ length_none bs o j) in
    let i = same_Some 0 n (sym natural_zero ∙ sym (ap read_natural x) ∙ e) in
    x ∙ sym (decimal_one 0 (omega arith)) ∙ ap decimal i

-- digits, of which the first is not 0
plain_digits : (b : ℕ) (bs : List ℕ) (n : ℕ) → (b ≡ digit_0 → ⊥) → length bs ≤ pred most_digits → natural_from 0 (b ∷ bs) ≡ Some n → b ∷ bs ≡ decimal n
plain_digits b bs n f h e =
    by_bool (is_digit b)
    (λ q.
    let l = digit_low_end b q in
    let u = digit_high_end b q in
    let m : ℕ = 0 * 10 + (b - digit_0) in
    let z : 0 < m = omega (arith, f) in
    let y : digit_0 + m ≡ b = omega arith in
    let d : decimal m ≡ b ∷ [] = decimal_one m (omega arith) ∙ ap (λ c. c ∷ []) y in
    sym (written bs (b ∷ []) m 1 n z (omega arith) (omega arith) d (sym (digit_goes_on 0 b bs q) ∙ e)))
    (λ q. absurd (none-some n (sym (digit_stops 0 b bs q) ∙ e)))

pub natural_written : (l : List ℕ) (n : ℕ) → read_natural l ≡ Some n → l ≡ decimal n
natural_written [] n e = absurd (none-some n (sym natural_empty ∙ e))
natural_written (b ∷ bs) n e =
    by_bool (ltb most_digits (length (b ∷ bs)))
    (λ t. absurd (none-some n (sym (natural_long (b ∷ bs) z (ltb-true most_digits (length (b ∷ bs)) t)) ∙ e)))
    (λ t.
    let h = ltb-false most_digits (length (b ∷ bs)) t in
    by_bool (eqb b digit_0)
    (λ f.
    by_bool (eqb (length bs) 0)
    (λ o. lone_zero b bs n (eqb-true b digit_0 f) (eqb-true (length bs) 0 o) e)
    (λ o.
    let o' = eqb-false (length bs) 0 o in
    absurd (none-some n (sym (natural_padded (b ∷ bs) z h (eqb-true b digit_0 f) (λ q. o' (omega arith))) ∙ e))))
    (λ f.
    let f' = eqb-false b digit_0 f in
    plain_digits b bs n f' (omega arith) (sym (natural_plain (b ∷ bs) z h f') ∙ e)))
  where
    z : length (b ∷ bs) ≡ 0 → ⊥
    z q = omega arith

-- ---- digits are no spaces

digits_one_word : (l : List ℕ) (m n : ℕ) → natural_from m l ≡ Some n → word_length l ≡ length l
unfolding word_length
digits_one_word [] m n e = refl
digits_one_word (b ∷ bs) m n e =
    by_bool (is_digit b)
    (λ q.
    let l = digit_low_end b q in
    let s : b ≡ space → ⊥ = λ x. omega arith in
    pick_no (eqb b space) 0 (suc (word_length bs)) (ne_eqb b space s)
    ∙ ap suc (digits_one_word bs (m * 10 + (b - digit_0)) n (sym (digit_goes_on m b bs q) ∙ e)))
    (λ q. absurd (none-some n (sym (digit_stops m b bs q) ∙ e)))

pub decimal_one_word : (n : ℕ) → n < 10 ^ most_digits → word_length (decimal n) ≡ length (decimal n)
unfolding decimal
decimal_one_word n h = digits_one_word (decimal_in most_digits n) 0 n (read_decimal_in (pred most_digits) n h)

-- ---- nor is one of them a minus sign

digits_unsigned : (l : List ℕ) (m n : ℕ) → natural_from m l ≡ Some n → get_or l 0 0 ≡ minus_sign → ⊥
digits_unsigned [] m n e s = omega arith
digits_unsigned (b ∷ bs) m n e s =
    by_bool (is_digit b)
    (λ q. let l = digit_low_end b q in omega arith)
    (λ q. none-some n (sym (digit_stops m b bs q) ∙ e))

pub decimal_unsigned : (n : ℕ) → n < 10 ^ most_digits → get_or (decimal n) 0 0 ≡ minus_sign → ⊥
unfolding decimal
decimal_unsigned n h = digits_unsigned (decimal_in most_digits n) 0 n (read_decimal_in (pred most_digits) n h)
