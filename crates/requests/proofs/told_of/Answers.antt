use Prim.Native.Nat.{ℕ}
use mathlib.Core.Path.{ap}
use Rattle.requests.proofs.Laws.{told_made}
use Rattle.requests.proofs.told_of.Goals as goal

pub returns : goal.returns
returns c =
    let e = c.end_bytes-state.ensures in
    told_made c.args.r c.number_of.result _ _ (record { sfits = c.number_of.type_inv }) c.number_of.ensures (ap (λ (x : ℕ × ℕ). x.0) e) (ap (λ (x : ℕ × ℕ). x.1) e)
