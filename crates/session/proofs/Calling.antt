-- From call to call on one table: the loop of `run_calls`, and the chunk that it goes through.
use Prim.Native.Nat.{ℕ, suc, ◌<◌, ◌≤◌, ◌+◌, ◌*◌}
use mathlib.Core.List.{List, [], ◌∷◌, ◌++◌, append-nil}
use mathlib.Core.Path.{◌≡◌, refl, sym, ap, ap₂, subst, ◌∙◌}
use lib.ListN.{length, take, length-append}
use native.Mathlib.Omega.{arith}
use Rattle.std.specs.Prelude.{Some, None}
use Rattle.entry.specs.Applied.{Applied}
use Rattle.lines.proofs.Carrying.{carries_own}
use Rattle.lines.proofs.Cuts.{ended_count}
use Rattle.lines.specs.Carried.{carried, Carries, cut}
use Rattle.lines.specs.Runs.{run_line, run_all}
use Rattle.lines.specs.Splitting.{ended, left, last_line}
use Rattle.script.specs.Outputs.{answer_line}
use Rattle.script.specs.Sizes.{answer_bytes}
use Rattle.script.specs.Texts.{line_feed}
use Rattle.script.specs.declared.Asked.{Asked}
use Rattle.session.proofs.Seeking.{twice, end_next}
use Rattle.session.proofs.Writing.{puts_none, puts_more, puts_length, puts_wrote, nothing_last}
use Rattle.session.specs.Places.{lines_after, left_at, and_then, run_at, Leaves, Puts, Sought, Called}
use Rattle.session.specs.Sessions.{Wrote, Feeds}
use Rattle.session.specs.declared.Fed.{Fed}
use Rattle.session.specs.declared.Place.{Place}
use Rattle.session.specs.declared.Session.{Session}
use Rattle.table.specs.declared.Reply.{Reply}
use Rattle.table.specs.declared.Table.{Table}

-- ---- the loop's invariant

-- From the table t₀ and the place p₀ on: the lines that were left there give what was written, and then what the lines
-- left at p give on the table t.
pub record Passed (t₀ : Table) (p₀ : Place) (chunk before : List ℕ) (t : Table) (p : Place) (out : List ℕ) : Type 0 where
  pub text : List ℕ
  pub gives : run_at t₀ chunk p₀ ≡ and_then text (run_at t chunk p)
  pub wrote : Puts text p₀.used before out p.used
  pub leaves : (m : List ℕ) → Leaves chunk p₀ m → Leaves chunk p m
  pub room : p.used + answer_bytes * left_at chunk p ≤ length before

pub passed_starts : (t : Table) (p : Place) (chunk out : List ℕ) → p.used + answer_bytes * left_at chunk p ≤ length out → Passed t p chunk out t p out
passed_starts t p chunk out h =
    record {
      text = [];
      gives = refl;
      wrote = puts_none p.used out;
      leaves = λ m w. w;
      room = h;
    }

found_left : (chunk : List ℕ) (p : Place) (a : Asked) → p.asked ≡ Some a → left_at chunk p ≡ suc (length (lines_after chunk p))
unfolding left_at
found_left chunk p a f = rw f

-- ---- one call

made_next : (t : Table) (chunk : List ℕ) (p : Place) (a : Asked) (r : Reply) (z : Table) → p.asked ≡ Some a → Applied t a.slot a.call r z → run_at t chunk p ≡ and_then (answer_line r.answer) (run_all z (lines_after chunk p))
unfolding run_at run_line
made_next t chunk p a r z f e =
    rw f
    (sym (ap₂ (λ (s : Reply) (u : Table). and_then (answer_line s.answer) (run_all u (lines_after chunk p))) e.reply_is e.table_is))

pub passed_length : (t₀ : Table) (p₀ : Place) (chunk before : List ℕ) (t : Table) (p : Place) (out : List ℕ) → Passed t₀ p₀ chunk before t p out → length out ≡ length before
passed_length t₀ p₀ chunk before t p out w =
    let m = w.room in
    puts_length w.text p₀.used p.used before out w.wrote (omega arith)

pub passed_room : (t₀ : Table) (p₀ : Place) (chunk before : List ℕ) (t : Table) (p : Place) (out : List ℕ) (a : Asked) → Passed t₀ p₀ chunk before t p out → p.asked ≡ Some a → p.used + answer_bytes * suc (length (lines_after chunk p)) ≤ length out
passed_room t₀ p₀ chunk before t p out a w f =
    let m = w.room in
    let n = found_left chunk p a f in
    let e = passed_length t₀ p₀ chunk before t p out w in
    omega arith

pub passed_next : (t₀ : Table) (p₀ : Place) (chunk before : List ℕ) (t : Table) (p : Place) (out : List ℕ) (r : Reply) (z : Table) (q : Place) (after : List ℕ) (a : Asked) → Passed t₀ p₀ chunk before t p out → p.asked ≡ Some a → Applied t a.slot a.call r z → Sought (answer_line r.answer) [] chunk p.at p.used out after q → Passed t₀ p₀ chunk before z q after
passed_next t₀ p₀ chunk before t p out r z q after a w f e s =
    let u : List ℕ = answer_line r.answer in
    let n = found_left chunk p a f in
    let m = w.room in
    let x = s.room in
    let y = s.short in
    let k = w.wrote.place in
    record {
      text = w.text ++ (u ++ s.text);
      gives =
          w.gives
          ∙ ap (and_then w.text) (made_next t chunk p a r z f e ∙ ap (and_then u) (s.gives z) ∙ twice u s.text (run_at z chunk q))
          ∙ twice w.text (u ++ s.text) (run_at z chunk q);
      wrote = puts_more w.text (u ++ s.text) p₀.used p.used q.used before out after (omega arith) w.wrote s.wrote;
      leaves = λ l v. subst (Leaves chunk q) (sym ((w.leaves l v).on_call a f)) s.leaves;
      room = omega arith;
    }

pub fewer_left : (chunk : List ℕ) (p : Place) (u before after : List ℕ) (q : Place) (a : Asked) → p.asked ≡ Some a → Sought u [] chunk p.at p.used before after q → left_at chunk q < left_at chunk p
fewer_left chunk p u before after q a f s =
    let n = found_left chunk p a f in
    let m = s.room in
    let k = s.wrote.place in
    let l = length-append u s.text in
    omega arith

pub passed_all : (t₀ : Table) (p₀ : Place) (chunk before : List ℕ) (t : Table) (p : Place) (out : List ℕ) → Passed t₀ p₀ chunk before t p out → p.asked ≡ None → Called t₀ p₀ chunk before out t p
unfolding run_all
passed_all t₀ p₀ chunk before t p out w f =
    let e = w.gives ∙ ap (and_then w.text) (sym (end_next t chunk p f)) in
    record {
      table_is = sym (ap (λ r. r.table) e);
      wrote =
          subst (λ s. Puts s p₀.used before out p.used) (sym (ap (λ r. r.text) e ∙ append-nil w.text))
          w.wrote;
      carries = λ m v. (w.leaves m v).on_end f;
    }

-- ---- a whole chunk

pub chunk_room : (s : Session) (chunk before mid : List ℕ) (p : Place) → length s.line.bytes ≡ carried → answer_bytes * length (ended [] chunk) ≤ length before → ((l : List ℕ) → Carries (cut s.line) l → Sought [] l chunk 0 0 before mid p) → p.used + answer_bytes * left_at chunk p ≤ length mid
chunk_room s chunk before mid p e h q =
    let own : List ℕ = take (cut s.line).len s.line.bytes in
    let w = q own (carries_own s.line e) in
    let n = ended_count own [] chunk in
    let m = w.room in
    let k = puts_length w.text 0 p.used before mid w.wrote (omega arith) in
    omega arith

pub chunk_fed : (s : Session) (chunk before mid after : List ℕ) (p : Place) (z : Table) (r : Place) → ((l : List ℕ) → Carries (cut s.line) l → Sought [] l chunk 0 0 before mid p) → Called s.table p chunk mid after z r → (l : List ℕ) → Carries (cut s.line) l → Feeds s l chunk before after (record { session = record { table = z; line = r.line }; used = r.used })
chunk_fed s chunk before mid after p z r q c l k =
    let w = q l k in
    let g = w.gives s.table in
    let all : List ℕ = w.text ++ (run_at s.table chunk p).text in
    record {
      table_is = c.table_is ∙ sym (ap (λ x. x.table) g);
      carries = c.carries (left l chunk) w.leaves;
      wrote =
          subst (λ x. Wrote x before after r.used) (sym (ap (λ x. x.text) g))
          (puts_wrote all before after r.used
          (puts_more w.text (run_at s.table chunk p).text 0 p.used r.used before mid after (omega arith) w.wrote c.wrote));
    }

pub ruleset feed_laws = (chunk_room, chunk_fed)

-- ---- the last line, which is run as if its line feed stood there

one_line : (l : List ℕ) → ended l (line_feed ∷ []) ≡ l ∷ []
unfolding ended
one_line l = refl

pub last_room : (out : List ℕ) → answer_bytes ≤ length out → answer_bytes * length (ended [] (line_feed ∷ [])) ≤ length out
last_room out h = let n = ap length (one_line []) in omega arith

pub last_fed : (s : Session) (before after : List ℕ) (r : Fed) → (s.line.len ≡ 0 → ⊥) → ((l : List ℕ) → Carries (cut s.line) l → Feeds s l (line_feed ∷ []) before after r) → (l : List ℕ) → Carries (cut s.line) l → Wrote (run_all s.table (last_line l)).text before after r.used
unfolding last_line
last_fed s before after r n f [] k = let e = k.size in absurd (n (omega arith))
last_fed s before after r n f (b ∷ bs) k =
    subst (λ ls. Wrote (run_all s.table ls).text before after r.used) (one_line (b ∷ bs)) (f (b ∷ bs) k).wrote

pub ruleset last_laws = (nothing_last, last_room, last_fed)
