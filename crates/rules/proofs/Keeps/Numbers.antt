-- A process keeps its numbers as long as it is in the table.
use Prim.Native.Nat.{ℕ, ◌<◌}
use mathlib.Core.Bool.{So, false≢true}
use mathlib.Core.Logic.{⊎_elim}
use mathlib.Core.Path.{◌≡◌, refl, sym, ◌∙◌, subst}
use borrow.Author.Tests.{eq-eqb, ne_eqb}
use Rattle.rules.proofs.Keeps.Birth.{with_born, birth_view}
use Rattle.rules.proofs.Keeps.Changes.{Change, ends, alters, turns, reaps, makes_namespace, change_sane, Run, start, more, run_sane, MayBear, Made, nothing_done, freed_after, altered, born, born_in_new, call_made}
use Rattle.rules.proofs.Keeps.End.{end_view}
use Rattle.rules.proofs.Keeps.Fixed.{namespace_fixed}
use Rattle.rules.proofs.Keeps.Freed.{freed_view}
use Rattle.rules.proofs.Keeps.InitEnds.{gone, subtree_gone}
use Rattle.rules.proofs.Keeps.Premises as K
use Rattle.rules.proofs.Keeps.Puts.{reaped_view, new_namespace_view, lights_view}
use Rattle.rules.proofs.Keeps.Reap.{without}
use Rattle.rules.proofs.Laws.Facts.{Taken, Lives, Other, lives_taken, not_ended, facts, Sane, sane}
use Rattle.rules.proofs.Laws.Steps.{made_or_refused}
use Rattle.rules.proofs.Laws.Tests.{yes_or_no, same_or, isnt_so, choose}
use Rattle.rules.specs.Births.{birth}
use Rattle.rules.specs.Calls.{new_namespace}
use Rattle.rules.specs.Claims.{NamespaceFixed, NumbersKept}
use Rattle.rules.specs.Ends.{end}
use Rattle.rules.specs.Freeing.{freed}
use Rattle.table.specs.Limits.{namespace_slots}
use Rattle.rules.specs.Pids.{free_namespace_slot, free_slot}
use Rattle.rules.specs.Read.{View, is_init, taken, view, children}
use Rattle.rules.specs.Sound.{SoundTable, kept_end}
use Rattle.table.specs.declared.End.{End}
use Rattle.table.specs.declared.State.TheVariants.{Ended}
use Rattle.table.specs.declared.Table.{Table}

-- the same numbers at all levels
abbrev Numbers : View → View → ℕ → Type 0
Numbers v u i = (l : ℕ) → u.pid i l ≡ v.pid i l

-- whoever is there after was there before, with the same numbers
abbrev Leave : View → View → Type 0
Leave v u = (i : ℕ) → Taken u i → Taken v i × Numbers v u i

-- whoever was there before is there after, with the same numbers
abbrev Add : View → View → Type 0
Add v u = (i : ℕ) → Taken v i → Taken u i × Numbers v u i

leave_trans : (a b c : View) → Leave a b → Leave b c → Leave a c
leave_trans a b c x y i t = let (p, q) = y i t in let (r, s) = x i p in (r, λ l. q l ∙ s l)

-- ---- each change

subtree_leaves : (v : View) (n p : ℕ) (e : End) → Leave v (subtree_gone v n p e)
unfolding taken
subtree_leaves v n p e i t = ⊎_elim (λ g. absurd (false≢true (rw g at t))) (λ g. (rw g at t, λ l. rw g)) (yes_or_no (gone v n i))

without_leaves : (v : View) (d : ℕ) → Leave v (without v d)
unfolding taken
without_leaves v d i t = ⊎_elim (λ x. absurd (false≢true (rw (eq-eqb i d x) at t))) (λ y. (rw y at t, λ l. rw y)) (same_or i d)

end_leaves : (t : Table) (s : Sane t) (p : ℕ) (e : End) → Lives (view t) p → Other p → So (kept_end (Ended e)) → Leave (view t) (view (end t p e))
unfolding taken
end_leaves t s p e l o ok = subst (Leave (view t)) (sym (end_view t s p e (lives_taken (view t) p l))) (choose (Leave (view t)) (is_init (view t) p) (λ i. subtree_leaves (view t) ((view t).own p) p e) (λ i j x. (x, λ l. refl)))

change_leaves : (t u : Table) → Sane t → Change t u → Leave (view t) (view u)
unfolding taken
change_leaves t u s (ends p e l o ok) = end_leaves t s p e l o ok
change_leaves t u s (alters c l x o k y fine) = subst (Leave (view t)) (sym (lights_view t s c l x o y (children (view t) c))) (λ j y. (y, λ l. refl))
change_leaves t u s (turns c m l k) = subst (Leave (view t)) (sym (lights_view t s c l ((view t).state c) (isnt_so (not_ended (view t) c l)) ((view t).traits c) m)) (λ j y. (y, λ l. refl))
change_leaves t u s (reaps d o) = subst (Leave (view t)) (sym (reaped_view t s d o)) (without_leaves (view t) d)
change_leaves t u s (makes_namespace c l a b) = subst (Leave (view t)) (sym (new_namespace_view t s.shape_of c (K.free_namespace_is (view t) b).0)) (λ j y. (y, λ l. refl))

freed_leaves : (t : Table) → Sane t → Leave (view t) (view (freed t))
unfolding taken
freed_leaves t s = subst (Leave (view t)) (sym (freed_view t s.shape_of)) (λ j y. (y, λ l. refl))

run_leaves : (t u : Table) → Sane t → Run t u → Leave (view t) (view u)
run_leaves t u s start = λ j y. (y, λ l. refl)
run_leaves t u s (more {u = x} r c) = leave_trans (view t) (view x) (view u) (run_leaves t x s r) (change_leaves x u (run_sane t x s r) c)

born_adds : (v : View) (c n k : ℕ) → (Taken v k → ⊥) → Add v (with_born v c n k)
unfolding taken
born_adds v c n k o i t = let e = ne_eqb i k (λ x. o (subst (Taken v) x t)) in (rw e t, λ l. rw e)

birth_adds : (t : Table) → Sane t → (c n : ℕ) → MayBear (view t) c n → Add (view t) (view (birth t c n))
birth_adds t s c n m =
    let (low, free) = K.free_slot_is (view t) m.room in
    subst (Add (view t)) (sym (birth_view t s.shape_of s.facts c n m.namespace low)) (born_adds (view t) c n (free_slot (view t)) free)

namespace_adds : (t : Table) → Sane t → (c : ℕ) → free_namespace_slot (view t) < namespace_slots → Add (view t) (view (new_namespace t c))
unfolding taken
namespace_adds t s c l = subst (Add (view t)) (sym (new_namespace_view t s.shape_of c l)) (λ i x. (x, λ l. refl))

-- ---- each call

made_numbers : (t u : Table) → SoundTable t → Made t u → (i : ℕ) → Taken (view t) i → Taken (view u) i → Numbers (view t) (view u) i
made_numbers t u h nothing_done i x y = λ l. refl
made_numbers t u h (freed_after w r) i x y = (leave_trans (view t) (view w) (view u) (run_leaves t w (sane t h) r) (freed_leaves w (run_sane t w (sane t h) r)) i y).1
made_numbers t u h (altered c l z fine) i x y = (change_leaves t u (sane t h) (alters c l ((view t).state c) (isnt_so (not_ended (view t) c l)) ((facts t h).ends_kept c (lives_taken (view t) c l)) z fine) i y).1
made_numbers t u h (born c n m) i x y = (birth_adds t (sane t h) c n m i x).1
made_numbers t u h (born_in_new c n k low m) i x y =
    let (z, e) = namespace_adds t (sane t h) c low i x in
    let q = (birth_adds (new_namespace t c) (change_sane t (new_namespace t c) (sane t h) k) c n m i z).1 in
    λ l. q l ∙ e l

pub numbers_kept : NumbersKept
unfolding NumbersKept NamespaceFixed
numbers_kept t c i call h x y = (
  made_or_refused (λ u. Taken (view u) i → Numbers (view t) (view u) i) t c call h (λ y l. refl) (λ r. made_numbers t _ h (call_made t c h r call) i x) y,
  namespace_fixed t c i call h x y,
)
