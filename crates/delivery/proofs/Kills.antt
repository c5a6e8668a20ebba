-- What `kill` takes from `deliver`, and from `others` with `deliver_all`: from a sound table it is delivered to the
-- definition's targets.
use Prim.Native.Nat.{ℕ, ◌<◌}
use mathlib.Core.List.{[], ◌∷◌}
use mathlib.Core.Path.{◌≡◌, sym, ap, subst, ◌∙◌}
use lib.IntN.{negsuc}
use Rattle.rules.proofs.Keeps.Deliver.{Safe}
use Rattle.rules.proofs.Keeps.Premises.{targets_safe}
use Rattle.rules.proofs.Laws.Facts.{sane}
use Rattle.rules.specs.Calls.{others, targets}
use Rattle.rules.specs.Delivery.{deliver_all}
use Rattle.rules.specs.Read.{view}
use Rattle.rules.specs.Sound.{SoundTable}
use Rattle.table.specs.Limits.{signals}
use Rattle.table.specs.declared.Table.{Table}
use Rattle.delivery.specs.Delivery.{Delivers, DeliversAll}
use Rattle.delivery.specs.Targets.{listed, Lists}
use Rattle.delivery.specs.declared.Targets.{Targets}

-- u is the result of `deliver`
pub kills_one : (t : Table) (from i s : ℕ) (u : Table) → SoundTable t → Delivers t from i s u → u ≡ deliver_all t from (i ∷ []) s
unfolding deliver_all
kills_one t from i s u h e = e.as_defined (sane t h).facts

-- r is the result of `others`, and u that of `deliver_all`; from is the caller's own namespace
pub kills_others : (t : Table) (c from s k : ℕ) (r : Targets) (u : Table) → s < signals → SoundTable t → from ≡ (view t).own c → Lists r (others (view t) c)
    → DeliversAll t from (listed r) s u → u ≡ deliver_all t from (targets (view t) c (negsuc k)) s
unfolding targets
kills_others t c from s k r u low h q l e =
    let safe : Safe from (others (view t) c) = subst (λ n. Safe n (others (view t) c)) (sym q) (targets_safe (view t) (sane t h).facts c (negsuc k)) in
    e.as_defined low (sane t h) (subst (Safe from) (sym l.list) safe) ∙ ap (λ is. deliver_all t from is s) l.list
