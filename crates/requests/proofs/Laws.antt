-- Signed numbers on their way in and out. What the code holds is `to_z w (of_z w z)`, which is z where z fits.
use Prim.Native.Nat.{ℕ}
use mathlib.Core.Bool.{true}
use mathlib.Core.Path.{◌≡◌, refl, sym, ap, ◌∙◌}
use lib.IntN.{ℤ}
use mir.Syntax.{w32}
use mir.Val.{SFits, to_z, of_z}
use mir.ValLaws.{to_z-of_z}
use Rattle.rules.specs.Answers.{number_of, refusal_number, is_refused}
use Rattle.table.specs.declared.Answer.{Answer}
use Rattle.table.specs.declared.Answer.TheVariants.{Refused}
use Rattle.table.specs.declared.Refusal.{Refusal}
use Rattle.table.specs.declared.Refusal.TheVariants.{Unsound, NotRunning, Einval, Enosys, Esrch, Ebusy, Echild, Enospc, Enomem, Eagain}
use Rattle.table.specs.declared.Reply.{Reply}
use Rattle.requests.specs.Requests.{end_kind, end_value, told_of}
use Rattle.requests.specs.declared.Told.{Told}

-- ---- answers

refusal_told : (e : Refusal) → to_z w32 (of_z w32 (refusal_number e)) ≡ refusal_number e
unfolding refusal_number
refusal_told Unsound = refl
refusal_told NotRunning = refl
refusal_told Einval = refl
refusal_told Enosys = refl
refusal_told Esrch = refl
refusal_told Ebusy = refl
refusal_told Echild = refl
refusal_told Enospc = refl
refusal_told Enomem = refl
refusal_told Eagain = refl

pub refused_number : (a : Answer) (e : Refusal) (z : ℤ) → a ≡ Refused e → z ≡ refusal_number e → to_z w32 (of_z w32 z) ≡ number_of a
unfolding number_of
refused_number a e z p q = ap (λ x. to_z w32 (of_z w32 x)) q ∙ refusal_told e ∙ ap number_of (sym p)

pub told_made : (r : Reply) (z : ℤ) (k e : ℕ) → SFits w32 z → z ≡ number_of r.answer → k ≡ end_kind r.answer → e ≡ end_value r.answer → ◌≡◌ {A = Told} (record { answer = to_z w32 (of_z w32 z); child = r.child; state = k; end = e }) (told_of r)
unfolding told_of
told_made r z k e f p q s = rw (to_z-of_z w32 z f, p, q, s)

-- ---- whether it is a refusal

refuses : (e : Refusal) → is_refused (Refused e) ≡ true
unfolding is_refused number_of refusal_number
refuses Unsound = refl
refuses NotRunning = refl
refuses Einval = refl
refuses Enosys = refl
refuses Esrch = refl
refuses Ebusy = refl
refuses Echild = refl
refuses Enospc = refl
refuses Enomem = refl
refuses Eagain = refl

pub told_refused : (a : Answer) (e : Refusal) → a ≡ Refused e → true ≡ is_refused a
told_refused a e p = sym (ap is_refused p ∙ refuses e)
