-- The returns of the functions that take a number, or what a reader found, apart.
use Rattle.std.specs.Prelude.{Option, Some, None}
use Rattle.std.proofs.Common.{ControlFlow, Continue, Break}
use Rattle.std.specs.ControlFlow.{continue_value}
use Prim.Native.Nat.{ℕ}
use mathlib.Core.Bool.{true, false}
use mathlib.Core.List.{List}
use mathlib.Core.Path.{◌≡◌, refl, sym, ap, ap₂, ◌∙◌}
use lib.IntN.{ℤ}
use mir.Syntax.{w32}
use mir.Val.{SFits, to_z, of_z}
use mir.ValLaws.{to_z-of_z}
use Rattle.script.specs.Reading.{same, read_number, with_number, kill_call, handle_call}
use Rattle.script.specs.Texts.{bytes}
use Rattle.table.proofs.Chains.{pick_yes, pick_no}
use Rattle.table.specs.declared.Call.{Call}
use Rattle.table.specs.declared.Call.TheVariants.{Setns, Kill, Exit, Handle}

-- ---- what `?` went on with, or stopped at

pub went_on : {E T : Type 0} (a : Option T) (b : ControlFlow E T) (n : T) → a ≡ continue_value b → b ≡ Continue n → a ≡ Some n
went_on a b n p q = p ∙ ap continue_value q

pub stopped : {E T : Type 0} (a : Option T) (b : ControlFlow E T) (e : E) → a ≡ continue_value b → b ≡ Break e → a ≡ None
stopped a b e p q = p ∙ ap continue_value q

-- ---- what is read first

pub with_read : (w a : List ℕ) (m : Option ℤ) (r : Option Call) → m ≡ read_number a → r ≡ with_number w m → r ≡ with_number w (read_number a)
with_read w a m r p q = q ∙ ap (with_number w) p

pub kill_read : (a b : List ℕ) (m n : Option ℤ) (r : Option Call) → m ≡ read_number a → n ≡ read_number b → r ≡ kill_call m n → r ≡ kill_call (read_number a) (read_number b)
kill_read a b m n r p q e = e ∙ ap₂ kill_call p q

pub handle_read : (a b : List ℕ) (m : Option ℤ) (r : Option Call) → m ≡ read_number a → r ≡ handle_call m b → r ≡ handle_call (read_number a) b
handle_read a b m r p e = e ∙ ap (λ n. handle_call n b) p

-- ---- a word and a number

pub with_none : (w : List ℕ) (a : Option ℤ) (r : Option Call) → r ≡ None → a ≡ None → r ≡ with_number w a
unfolding with_number
with_none w a r q e = q ∙ rw e

pub with_setns : (w : List ℕ) (a : Option ℤ) (n : ℤ) → SFits w32 n → a ≡ Some n → same w (bytes "setns") ≡ true → Some (Setns (to_z w32 (of_z w32 n))) ≡ with_number w a
unfolding with_number
with_setns w a n f e s =
    ap (λ z. Some (Setns z)) (to_z-of_z w32 n f) ∙ rw e (sym (pick_yes (same w (bytes "setns")) (Some (Setns n)) _ s))

pub with_exit : (w : List ℕ) (a : Option ℤ) (n : ℤ) → SFits w32 n → a ≡ Some n → same w (bytes "setns") ≡ false → same w (bytes "exit") ≡ true → Some (Exit (to_z w32 (of_z w32 n))) ≡ with_number w a
unfolding with_number
with_exit w a n f e s t =
    ap (λ z. Some (Exit z)) (to_z-of_z w32 n f)
    ∙ rw e (sym (pick_no (same w (bytes "setns")) (Some (Setns n)) _ s ∙ pick_yes (same w (bytes "exit")) (Some (Exit n)) None t))

pub with_other : (w : List ℕ) (a : Option ℤ) → same w (bytes "setns") ≡ false → same w (bytes "exit") ≡ false → None ≡ with_number w a
unfolding with_number
with_other w None s t = refl
with_other w (Some n) s t =
    sym (pick_no (same w (bytes "setns")) (Some (Setns n)) _ s ∙ pick_no (same w (bytes "exit")) (Some (Exit n)) None t)

pub ruleset number_laws = (went_on, stopped, with_none, with_setns, with_exit, with_other)

-- ---- kill

pub kill_none : (a b : Option ℤ) (r : Option Call) → r ≡ None → a ≡ None → r ≡ kill_call a b
unfolding kill_call
kill_none a b r q e = q ∙ rw e

pub kill_half : (a b : Option ℤ) (n : ℤ) (r : Option Call) → r ≡ None → a ≡ Some n → b ≡ None → r ≡ kill_call a b
unfolding kill_call
kill_half a b n r q e f = q ∙ rw (e, f)

kill_both : (a b : Option ℤ) (n s : ℤ) → a ≡ Some n → b ≡ Some s → kill_call a b ≡ Some (Kill n s)
unfolding kill_call
kill_both a b n s e f = rw (e, f)

pub kill_taken : (a b : Option ℤ) (n s : ℤ) → a ≡ Some n → b ≡ Some s → SFits w32 n → SFits w32 s → Some (Kill (to_z w32 (of_z w32 n)) (to_z w32 (of_z w32 s))) ≡ kill_call a b
kill_taken a b n s e f g h =
    ap₂ (λ x y. Some (Kill x y)) (to_z-of_z w32 n g) (to_z-of_z w32 s h) ∙ sym (kill_both a b n s e f)

-- ---- handle

pub handle_none : (a : Option ℤ) (b : List ℕ) (r : Option Call) → r ≡ None → a ≡ None → r ≡ handle_call a b
unfolding handle_call
handle_none a b r q e = q ∙ rw e

pub handle_on : (a : Option ℤ) (b : List ℕ) (s : ℤ) → SFits w32 s → a ≡ Some s → same b (bytes "1") ≡ true → Some (Handle (to_z w32 (of_z w32 s)) true) ≡ handle_call a b
unfolding handle_call
handle_on a b s f e t =
    ap (λ z. Some (Handle z true)) (to_z-of_z w32 s f) ∙ rw e (sym (pick_yes (same b (bytes "1")) (Some (Handle s true)) _ t))

pub handle_off : (a : Option ℤ) (b : List ℕ) (s : ℤ) → SFits w32 s → a ≡ Some s → same b (bytes "1") ≡ false → same b (bytes "0") ≡ true → Some (Handle (to_z w32 (of_z w32 s)) false) ≡ handle_call a b
unfolding handle_call
handle_off a b s f e t u =
    ap (λ z. Some (Handle z false)) (to_z-of_z w32 s f)
    ∙ rw e (sym (pick_no (same b (bytes "1")) (Some (Handle s true)) _ t ∙ pick_yes (same b (bytes "0")) (Some (Handle s false)) None u))

pub handle_other : (a : Option ℤ) (b : List ℕ) → same b (bytes "1") ≡ false → same b (bytes "0") ≡ false → None ≡ handle_call a b
unfolding handle_call
handle_other None b t u = refl
handle_other (Some s) b t u =
    sym (pick_no (same b (bytes "1")) (Some (Handle s true)) _ t ∙ pick_no (same b (bytes "0")) (Some (Handle s false)) None u)

pub ruleset handle_laws = (went_on, stopped, handle_none, handle_on, handle_off, handle_other)
