-- Calls: the text of a call is read as it, and nothing else is read.
use Rattle.std.proofs.lemmas.Option.{same_Some, none-some}
use Rattle.std.specs.Prelude.{Option, Some, None}
use Prim.Native.Nat.{ℕ, ◌≤◌}
use mathlib.Core.Bool.{Bool, true, false}
use mathlib.Core.List.{List, ◌∷◌, ◌++◌}
use mathlib.Core.Path.{◌≡◌, refl, sym, ap, ap₂, subst, ◌∙◌}
use borrow.Author.Tests.{leb-true, leb-false}
use lib.Dec.{leb}
use lib.IntN.{ℤ}
use lib.ListN.{length, length-append}
use native.Mathlib.Omega.{arith}
use Rattle.script.proofs.Arguments.{number_read, number_unbroken, number_length, number_written}
use Rattle.script.proofs.Scans.{same_true}
use Rattle.script.proofs.Steps.{of_one_word, of_two_words, of_more_words}
use Rattle.script.proofs.Words.{read_one, read_two, joined}
use Rattle.script.specs.Lines.{switch, call_text, ArgumentsFit}
use Rattle.script.specs.Reading.{word_length, first_word, later_words, same, read_number, own_call, plain_call, with_number, call_with, kill_call, handle_call, call_with_two, read_call}
use Rattle.script.specs.Texts.{bytes, space, number}
use Rattle.table.proofs.Chains.{by_bool, pick_yes, pick_no}
use Rattle.table.specs.declared.Call.{Call}
use Rattle.table.specs.declared.Call.TheVariants.{Clone, CloneNew, Unshare, Setns, Kill, Exit, Wait, Getpid, Getppid, Handle, Poll}

-- ---- the text of a call is read as it

setns_read : (a : List ℕ) (m : Option ℤ) → read_number a ≡ m → call_with (bytes "setns") a ≡ with_number (bytes "setns") m
unfolding call_with same
setns_read a m e = ap (with_number (bytes "setns")) e

exit_read : (a : List ℕ) (m : Option ℤ) → read_number a ≡ m → call_with (bytes "exit") a ≡ with_number (bytes "exit") m
unfolding call_with same
exit_read a m e = ap (with_number (bytes "exit")) e

kill_read : (a b : List ℕ) (m n : Option ℤ) → read_number a ≡ m → read_number b ≡ n → call_with_two (bytes "kill") a b ≡ kill_call m n
unfolding call_with_two same
kill_read a b m n e f = ap₂ kill_call e f

handle_read : (a b : List ℕ) (m : Option ℤ) → read_number a ≡ m → call_with_two (bytes "handle") a b ≡ handle_call m b
unfolding call_with_two same
handle_read a b m e = ap (λ n. handle_call n b) e

switch_read : (s : ℤ) (on : Bool) → handle_call (Some s) (switch on) ≡ Some (Handle s on)
unfolding handle_call same switch
switch_read s true = refl
switch_read s false = refl

pub call_read : (c : Call) → ArgumentsFit c → read_call (call_text c) ≡ Some c
unfolding call_text read_call word_length plain_call own_call call_with with_number kill_call same
call_read Clone h = refl
call_read CloneNew h = refl
call_read Unshare h = refl
call_read (Setns n) h =
    read_one (bytes "setns") (number n) refl (number_unbroken n h) ∙ setns_read (number n) (Some n) (number_read n h)
call_read (Kill n s) h =
    read_two (bytes "kill") (number n) (number s) refl (number_unbroken n h.0)
    ∙ kill_read (number n) (number s) (Some n) (Some s) (number_read n h.0) (number_read s h.1)
call_read (Exit s) h =
    read_one (bytes "exit") (number s) refl (number_unbroken s h) ∙ exit_read (number s) (Some s) (number_read s h)
call_read Wait h = refl
call_read Getpid h = refl
call_read Getppid h = refl
call_read (Handle s on) h =
    read_two (bytes "handle") (number s) (switch on) refl (number_unbroken s h)
    ∙ handle_read (number s) (switch on) (Some s) (number_read s h)
    ∙ switch_read s on
call_read Poll h = refl

-- ---- how long it is

pub call_length : (c : Call) → length (call_text c) ≤ 40
unfolding call_text switch
call_length Clone = omega arith
call_length CloneNew = omega arith
call_length Unshare = omega arith
call_length (Setns n) = let h = number_length n in omega arith
call_length (Kill n s) =
    let h = number_length n in
    let k = number_length s in
    let e = length-append (number n) (space ∷ number s) in
    omega arith
call_length (Exit s) = let h = number_length s in omega arith
call_length Wait = omega arith
call_length Getpid = omega arith
call_length Getppid = omega arith
call_length (Handle s true) =
    let h = number_length s in
    let e = length-append (number s) (space ∷ bytes "1") in
    omega arith
call_length (Handle s false) =
    let h = number_length s in
    let e = length-append (number s) (space ∷ bytes "0") in
    omega arith
call_length Poll = omega arith

-- ---- nothing else is read

-- the words w are the text of c
abbrev pub TextOf : List ℕ → Call → Type 0
TextOf w c = (w ≡ call_text c) × ArgumentsFit c

found : (w : List ℕ) (c d : Call) → TextOf w d → Some d ≡ Some c → TextOf w c
found w c d t e = subst (TextOf w) (same_Some d c e) t

-- a test for a word t, after which q is read, or else what r gives
try_word : (w t : List ℕ) (c : Call) (q r : Option Call) {A : Type 0} → (w ≡ t → q ≡ Some c → A) → (r ≡ Some c → A) → (elim (same w t) as (λ _. Option Call) [ true ↦ q | false ↦ r ]) ≡ Some c → A
try_word w t c q r yes_word other e =
    by_bool (same w t)
    (λ s. yes_word (same_true w t s) (sym (pick_yes (same w t) q r s) ∙ e))
    (λ s. other (sym (pick_no (same w t) q r s) ∙ e))

own_written : (w : List ℕ) (c : Call) → own_call w ≡ Some c → TextOf w c
unfolding own_call call_text
own_written w c =
    try_word w (bytes "getpid") c (Some Getpid) _ (λ s. found w c Getpid (s, tt))
    (try_word w (bytes "getppid") c (Some Getppid) _ (λ s. found w c Getppid (s, tt))
    (try_word w (bytes "poll") c (Some Poll) None (λ s. found w c Poll (s, tt)) (λ e. absurd (none-some c e))))

plain_written : (w : List ℕ) (c : Call) → plain_call w ≡ Some c → TextOf w c
unfolding plain_call call_text
plain_written w c =
    try_word w (bytes "clone") c (Some Clone) _ (λ s. found w c Clone (s, tt))
    (try_word w (bytes "unshare") c (Some Unshare) _ (λ s. found w c Unshare (s, tt))
    (try_word w (bytes "wait") c (Some Wait) (own_call w) (λ s. found w c Wait (s, tt)) (own_written w c)))

-- a word, a space and the argument a
number_call : (w a : List ℕ) (c : Call) (m : Option ℤ) → read_number a ≡ m → with_number w m ≡ Some c → TextOf (w ++ space ∷ a) c
unfolding with_number call_text
number_call w a c None p = λ e. absurd (none-some c e)
number_call w a c (Some n) p =
    let t = number_written a n p in
    try_word w (bytes "setns") c (Some (Setns n)) _ (λ s. found (w ++ space ∷ a) c (Setns n) ((λ j. s j ++ space ∷ t.0 j), t.1))
    (try_word w (bytes "exit") c (Some (Exit n)) None (λ s. found (w ++ space ∷ a) c (Exit n) ((λ j. s j ++ space ∷ t.0 j), t.1))
    (λ e. absurd (none-some c e)))

one_written : (w a : List ℕ) (c : Call) → call_with w a ≡ Some c → TextOf (w ++ space ∷ a) c
unfolding call_with call_text
one_written w a c =
    try_word w (bytes "clone") c _ (with_number w (read_number a))
    (λ s.
    try_word a (bytes "new") c (Some CloneNew) None
    (λ t. found (w ++ space ∷ a) c CloneNew ((λ j. s j ++ space ∷ t j), tt))
    (λ e. absurd (none-some c e)))
    (number_call w a c (read_number a) refl)

-- a word, a space, the argument a, a space and the argument b
kill_written : (w a b : List ℕ) (c : Call) → w ≡ bytes "kill" → (m n : Option ℤ) → read_number a ≡ m → read_number b ≡ n → kill_call m n ≡ Some c → TextOf (w ++ space ∷ (a ++ space ∷ b)) c
unfolding kill_call call_text
kill_written w a b c s None n p q e = absurd (none-some c e)
kill_written w a b c s (Some x) None p q e = absurd (none-some c e)
kill_written w a b c s (Some x) (Some y) p q e =
    let t = number_written a x p in
    let u = number_written b y q in
    found (w ++ space ∷ (a ++ space ∷ b)) c (Kill x y) ((λ j. s j ++ space ∷ (t.0 j ++ space ∷ u.0 j)), (t.1, u.1)) e

handle_written : (w a b : List ℕ) (c : Call) → w ≡ bytes "handle" → (m : Option ℤ) → read_number a ≡ m → handle_call m b ≡ Some c → TextOf (w ++ space ∷ (a ++ space ∷ b)) c
unfolding handle_call call_text switch
handle_written w a b c s None p = λ e. absurd (none-some c e)
handle_written w a b c s (Some x) p =
    let t = number_written a x p in
    try_word b (bytes "1") c (Some (Handle x true)) _
    (λ u. found (w ++ space ∷ (a ++ space ∷ b)) c (Handle x true) ((λ j. s j ++ space ∷ (t.0 j ++ space ∷ u j)), t.1))
    (try_word b (bytes "0") c (Some (Handle x false)) None
    (λ u. found (w ++ space ∷ (a ++ space ∷ b)) c (Handle x false) ((λ j. s j ++ space ∷ (t.0 j ++ space ∷ u j)), t.1))
    (λ e. absurd (none-some c e)))

two_written : (w a b : List ℕ) (c : Call) → call_with_two w a b ≡ Some c → TextOf (w ++ space ∷ (a ++ space ∷ b)) c
unfolding call_with_two
two_written w a b c =
    try_word w (bytes "kill") c (kill_call (read_number a) (read_number b)) _
    (λ s e. kill_written w a b c s (read_number a) (read_number b) refl refl e)
    (try_word w (bytes "handle") c (handle_call (read_number a) b) None
    (λ s e. handle_written w a b c s (read_number a) refl e)
    (λ e. absurd (none-some c e)))

pub call_written : (l : List ℕ) (c : Call) → read_call l ≡ Some c → TextOf l c
call_written l c e =
    by_bool (leb (length l) (word_length l))
    (λ t. plain_written l c (sym (of_one_word l (leb-true (length l) (word_length l) t)) ∙ e))
    (λ t.
    let h = leb-false (length l) (word_length l) t in
    let r : List ℕ = later_words l in
    by_bool (leb (length r) (word_length r))
    (λ u.
    subst (λ s. TextOf s c) (sym (joined l h))
    (one_written (first_word l) r c (sym (of_two_words l h (leb-true (length r) (word_length r) u)) ∙ e)))
    (λ u.
    let k = leb-false (length r) (word_length r) u in
    subst (λ s. TextOf s c) (sym (joined l h ∙ ap (λ s. first_word l ++ space ∷ s) (joined r k)))
    (two_written (first_word l) (first_word r) (later_words r) c (sym (of_more_words l h k) ∙ e))))
