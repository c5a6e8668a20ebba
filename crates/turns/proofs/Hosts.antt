-- What is claimed of whole lists of requests, proved.
use Prim.Native.Nat.{ℕ}
use mathlib.Core.List.{List, [], ◌∷◌}
use mathlib.Core.Path.{◌≡◌, refl, ap, ap₂, ◌∙◌}
use Rattle.mirror.proofs.RoundTrip.{mirrors_are_read}
use Rattle.mirror.specs.Mirror.{table_from, mirror_of}
use Rattle.mirror.specs.declared.Mirror.{Mirror}
use Rattle.requests.specs.Requests.{asked_by}
use Rattle.requests.specs.declared.Request.{Request}
use Rattle.requests.specs.declared.Told.{Told}
use Rattle.rules.proofs.Promises.{keeps_sound}
use Rattle.rules.proofs.Refused.{fresh_sound}
use Rattle.rules.specs.Claims.{KeepsSound}
use Rattle.rules.specs.Sound.{sound, SoundTable}
use Rattle.table.specs.Fresh.{fresh}
use Rattle.std.specs.Prelude.{Option, None, Some}
use Rattle.table.specs.declared.Call.{Call}
use Rattle.table.specs.declared.Table.{Table}
use Rattle.turns.proofs.Turns.{turns_step, others_do_nothing}
use Rattle.turns.specs.Claims.{HostsGoOn, HostsStaySound}
use Rattle.turns.specs.Turns.{turn, told_all, held_after, asked_told, asked_after, steps_told, steps_after}

-- ---- one request, whatever it asks for

one : (m : Mirror) (c : ℕ) (r : Request) (a : Option Call) → asked_by r ≡ a → ((turn m c r).told ≡ asked_told (table_from m) c a) × (table_from (turn m c r).mirror ≡ asked_after (table_from m) c a)
unfolding asked_told asked_after
one m c r None e = let n = others_do_nothing m c r e in (n.0, ap table_from n.1)
one m c r (Some call) e = turns_step m c r call e

-- ---- a list of them

pub hosts_go_on : HostsGoOn
unfolding told_all held_after steps_told steps_after
hosts_go_on m [] = (refl, refl)
hosts_go_on m (r ∷ rs) =
    let first = one m r.0 r.1 (asked_by r.1) refl in
    let rest = hosts_go_on (turn m r.0 r.1).mirror rs in (
      ap₂ (λ (x : Told) (xs : List Told). x ∷ xs) first.0 (rest.0 ∙ ap (λ (t : Table). steps_told t rs) first.1),
      rest.1 ∙ ap (λ (t : Table). steps_after t rs) first.1,
    )

-- ---- soundness

asked_sound : (t : Table) (c : ℕ) (a : Option Call) → SoundTable t → SoundTable (asked_after t c a)
unfolding asked_after KeepsSound
asked_sound t c None s = s
asked_sound t c (Some call) s = keeps_sound t c call s

steps_sound : (t : Table) (rs : List (ℕ × Request)) → SoundTable t → SoundTable (steps_after t rs)
unfolding steps_after
steps_sound t [] s = s
steps_sound t (r ∷ rs) s = steps_sound (asked_after t r.0 (asked_by r.1)) rs (asked_sound t r.0 (asked_by r.1) s)

pub hosts_stay_sound : HostsStaySound
hosts_stay_sound rs =
    ap sound ((hosts_go_on (mirror_of fresh) rs).1 ∙ ap (λ (t : Table). steps_after t rs) (mirrors_are_read fresh))
    ∙ (steps_sound fresh rs fresh_sound).rules
