-- Freeing the namespaces that nobody holds leaves the sheet of S.
use native.Mathlib.Omega.{arith}
use Prim.Native.Nat.{ℕ}
use mathlib.Core.Bool.{false, So, false≢true}
use mathlib.Core.List.{List, ◌∷◌, map, []}
use mathlib.Core.Logic.{inl, ⊎_elim}
use mathlib.Core.Path.{◌≡◌, refl, sym, ◌∙◌, ap, subst}
use borrow.Author.Tests.{eqb-true}
use Rattle.rules.proofs.Keeps.Freed.{restrict, kept_up, kept_own, kept_by, kept_root, freed_view, freed_keeps, kept_hold}
use Rattle.rules.proofs.Laws.Below.{deep_namespace, not_root}
use Rattle.rules.proofs.Laws.Facts.{Facts, facts, Sane, seen_taken, seen_below}
use Rattle.rules.proofs.Laws.Lists.{In}
use Rattle.rules.proofs.Laws.Slots.{init_own, alive_taken, init_taken}
use Rattle.rules.proofs.Laws.Tests.{isnt_so, no_so, cases}
use Rattle.sameness.proofs.Cases.{by_test}
use Rattle.sameness.proofs.Remain.{Remain, lit, row_remain, seen_remain, pid_in_remain, name_remain, everyone}
use Rattle.sameness.proofs.Still.{Still, same_still, stands_still}
use Rattle.sameness.proofs.Same.{Same, sheets_of_same, listed_seen}
use Rattle.sameness.specs.Events.{at, follow, sheet_of}
use Rattle.rules.specs.Freeing.{freed, kept}
use Rattle.rules.specs.Read.{View, all_seen, is_init, namespace_taken, seen, taken, view, alive, init}
use Rattle.sameness.specs.Sheet.{Sheet, row, sheet}
use Rattle.sameness.proofs.Names.{values_same}
use Rattle.rules.specs.Sound.{SoundTable}
use Rattle.table.specs.Tests.{when◌then◌else◌}
use Rattle.table.specs.declared.Table.{Table}
use Rattle.table.specs.Limits.{hold_slots}

module _ {v : View} (f : Facts v) where
  -- the view once they are freed
  abbrev w : View
  w = restrict (kept v) v

  remain : Remain v w (kept v) everyone
  remain =
      record {
        places =
            record {
              tree = record { ups = λ n k. rw k; levels = λ n k. rw k; up_kept = λ n k h e. kept_up v f n (deep_namespace v n k e) (not_root v f n k e) h };
              owns = λ i q. refl;
              pids = λ i l q. refl;
              gone = λ i q. absurd (false≢true (sym q));
              own_kept = λ i q t. kept_own v f i t;
            };
        lives = λ n k. rw k;
        inits = λ n k. refl;
      }

  seen_freed : (s i : ℕ) → seen w s i ≡ seen v s i
  seen_freed s i = seen_remain f remain.places s i refl

  row_freed : (s i : ℕ) → So (kept v s) → So (taken v i) → row w s i ≡ row v s i
  unfolding row
  row_freed s i ks h =
      let last : (when is_init v i then w.last (v.own i) else 0) ≡ (when is_init v i then v.last (v.own i) else 0) = rw (kept_own v f i h) in
      row_remain f remain s i ks refl h
      ∙ (λ z. lit v s i (v.state i) (v.traits i) (pid_in_remain f remain.places s (v.parent i) ks refl z) (values_same _ _ hold_slots 0 (λ k a b. name_remain f remain s (v.hold i k) ks (kept_hold v f i h k (omega arith))) z) (last z))

  module _ (s : ℕ) where
    same_freed : So (kept v s) → Same w v s s
    same_freed ks =
        record {
          levels = rw ks;
          there = λ i k. let q = sym (seen_freed s i) ∙ k in (i, q, row_freed s i ks (seen_taken v s i q));
          back = λ i k. (i, seen_freed s i ∙ k, row_freed s i ks (seen_taken v s i k));
        }

    stands_freed : So (kept v s) → So (namespace_taken v s) → So (namespace_taken w s)
    unfolding namespace_taken
    stands_freed ks h = rw ks h

    -- S freed: nobody saw from it
    gone_freed : kept v s ≡ false → namespace_taken w s ≡ false
    unfolding namespace_taken
    gone_freed k = rw k (isnt_so (λ h. ⊎_elim (λ z. no_so k (subst (λ n. So (kept v n)) (sym (eqb-true s 0 z)) (kept_root v f))) (λ z. false≢true z) (cases _ _ h)))

    nobody_freed : kept v s ≡ false → (i : ℕ) → So (seen v s i) → ⊥
    nobody_freed k i h = no_so k (kept_by v f s i (seen_taken v s i h) (inl (seen_below v s i h)))

    -- a living namespace is kept
    alive_kept : So (alive v s) → So (kept v s)
    alive_kept a = subst (λ n. So (kept v n)) (init_own v f s a) (kept_own v f (init v s) (init_taken v f s a))

-- a sheet with nobody to see
pub empty_sheet : (v : View) (s l : ℕ) → ((i : ℕ) → So (seen v s i) → ⊥) → v.level s ≡ l → sheet v s ≡ record { level = l; rows = [] }
unfolding sheet
empty_sheet v s l h e = λ z. record { level = e z; rows = ap (map (row v s)) (go (all_seen v s) (λ i m. h i (listed_seen v s i m))) z }
  where
    go : (xs : List ℕ) → ((i : ℕ) → In i xs → ⊥) → xs ≡ []
    go [] n = refl
    go (x ∷ xs) n = absurd (n x (inl refl))

-- the sheet of S after a call that took the table t to u
abbrev pub after : Table → ℕ → Table → Sheet
after t s u = sheet_of u (follow t u (at s))

-- where S is then, and its sheet
pub sheet_freed : (t₀ : Table) {t : Table} → Sane t → (s : ℕ) → So (namespace_taken (view t) s) → (kept (view t) s ≡ false → (view t).level s ≡ (view t₀).level s) → after t₀ s (freed t) ≡ sheet (view t) s
unfolding follow sheet_of
sheet_freed t₀ {t} x s h e =
    let f = x.facts in
    let ev = freed_view t x.shape_of in
    by_test (kept (view t) s)
    (λ k. rw (ap (λ (u : View). namespace_taken u s) ev ∙ stands_freed f s k h)
    (ap (λ (u : View). sheet u s) ev ∙ sheets_of_same (subst Facts ev (facts (freed t) (freed_keeps t x.shape_of f))) f (stands_freed f s k h) h (same_freed f s k)))
    (λ k. rw (ap (λ (u : View). namespace_taken u s) ev ∙ gone_freed f s k) (sym (empty_sheet (view t) s _ (nobody_freed f s k) (e k))))

-- two tables in the middle of a call that are the same to S: so they are once freed
pub freed_sheets : (t u : Table) {t₁ u₁ : Table} → Sane t₁ → Sane u₁ → {s r : ℕ} → So (namespace_taken (view t₁) s) → So (namespace_taken (view u₁) r) → (kept (view t₁) s ≡ false → (view t₁).level s ≡ (view t).level s) → (kept (view u₁) r ≡ false → (view u₁).level r ≡ (view u).level r) → Same (view t₁) (view u₁) s r → after t s (freed t₁) ≡ after u r (freed u₁)
freed_sheets t u a b {s} {r} hs hr es er w = sheet_freed t a s hs es ∙ sheets_of_same a.facts b.facts hs hr w ∙ sym (sheet_freed u b r hr er)

-- and where S lives
pub freed_alike : (t u : Table) {t₁ u₁ : Table} (a : Sane t₁) (b : Sane u₁) {s r : ℕ} → So (alive (view t₁) s) → So (alive (view u₁) r) → Same (view t₁) (view u₁) s r → after t s (freed t₁) ≡ after u r (freed u₁)
freed_alike t u {t₁} {u₁} a b {s} {r} x y w =
    freed_sheets t u a b (alive_taken (view t₁) a.facts s x) (alive_taken (view u₁) b.facts r y)
    (λ k. absurd (no_so k (alive_kept a.facts s x))) (λ k. absurd (no_so k (alive_kept b.facts r y))) w

-- a table in the middle of an outsider's call that is the same to S as before
pub freed_leaves : {t t₁ : Table} {s : ℕ} → SoundTable t → Sane t₁ → So (namespace_taken (view t) s) → So (namespace_taken (view t₁) s) → Same (view t₁) (view t) s s → after t s (freed t₁) ≡ sheet (view t) s
freed_leaves {t} {s} h x hs hs₁ w = sheet_freed t x s hs₁ (λ k. w.levels) ∙ sheets_of_same x.facts (facts t h) hs₁ hs w

pub freed_still : {t t₁ : Table} {s : ℕ} (h : SoundTable t) → Sane t₁ → So (namespace_taken (view t) s) → Still (view t) (view t₁) s → after t s (freed t₁) ≡ sheet (view t) s
freed_still {t} h x hs d = freed_leaves h x hs (stands_still (facts t h) d hs) (same_still (facts t h) d)
