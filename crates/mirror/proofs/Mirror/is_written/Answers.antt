use mathlib.Core.Path.{sym, ◌∙◌}
use borrow.Author.Rules.{rules}
use Rattle.mirror.specs.Mirror.{is_written, is_process_row, is_namespace_row, no_process_row, no_namespace_row}
use Rattle.table.proofs.Chains.{and_goes, and_false}
use Rattle.mirror.proofs.Rows.{all_passed}
use Rattle.mirror.proofs.Mirror.is_written.Goals as goal

pub returns-then-all : goal.returns-then-all
unfolding is_written
returns-then-all c =
    let m = c.args.self.now in
    let first = all_passed m.processes no_process_row is_process_row c.all.result c.all.ensures.ran (search rules) (λ x b q k. search rules) in
    let then = all_passed m.namespaces no_namespace_row is_namespace_row c.all-then-all.result c.all-then-all.ensures.ran (search rules) (λ x b q k. search rules) in
    and_goes _ _ _ (sym first ∙ c.if-all.true) then

pub returns-else-all : goal.returns-else-all
unfolding is_written
returns-else-all c =
    let m = c.args.self.now in
    let first = all_passed m.processes no_process_row is_process_row c.all.result c.all.ensures.ran (search rules) (λ x b q k. search rules) in
    c.if-all.false ∙ sym (and_false _ _ (sym first ∙ c.if-all.false))
