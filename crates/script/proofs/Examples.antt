-- Lines of document 01 and lines that it rules out, by computing.
use Rattle.std.specs.Prelude.{None}
use mathlib.Core.Bool.{true}
use mathlib.Core.Path.{◌≡◌, refl}
use lib.IntN.{pos, negsuc}
use Rattle.script.proofs.Open.{script}
use Rattle.script.specs.Lines.{line_of}
use Rattle.script.specs.Outputs.{answer_line}
use Rattle.script.specs.Reading.{read_line}
use Rattle.script.specs.Texts.{bytes}
use Rattle.rules.specs.Answers.{refusal_number, number_of, end_of}
use Rattle.table.specs.declared.Answer.TheVariants.{Refused, Number, Reaped}
use Rattle.table.specs.declared.Call.TheVariants.{CloneNew, Setns, Kill, Handle}
use Rattle.table.specs.declared.End.TheVariants.{Exited, Signaled}
use Rattle.table.specs.declared.Refusal.TheVariants.{Esrch}

-- ---- texts

clone_new_text : line_of 0 CloneNew ≡ bytes "0 clone new"
unfolding script
clone_new_text = refl

kill_text : line_of 63 (Kill (negsuc 0) (pos 9)) ≡ bytes "63 kill -1 9"
unfolding script
kill_text = refl

handle_text : line_of 255 (Handle (pos 15) true) ≡ bytes "255 handle 15 1"
unfolding script
handle_text = refl

least_text : line_of 7 (Setns (negsuc 2147483647)) ≡ bytes "7 setns -2147483648"
unfolding script
least_text = refl

-- ---- lines that are no calls

empty : read_line (bytes "") ≡ None
unfolding script
empty = refl

needless_zero : read_line (bytes "01 wait") ≡ None
unfolding script
needless_zero = refl

minus_zero : read_line (bytes "0 exit -0") ≡ None
unfolding script
minus_zero = refl

plus : read_line (bytes "0 exit +1") ≡ None
unfolding script
plus = refl

past_32_bit : read_line (bytes "0 exit 2147483648") ≡ None
unfolding script
past_32_bit = refl

below_32_bit : read_line (bytes "0 exit -2147483649") ≡ None
unfolding script
below_32_bit = refl

slot_256 : read_line (bytes "256 wait") ≡ None
unfolding script
slot_256 = refl

two_spaces : read_line (bytes "0  wait") ≡ None
unfolding script
two_spaces = refl

space_at_end : read_line (bytes "0 wait ") ≡ None
unfolding script
space_at_end = refl

tab : read_line (bytes "0\twait") ≡ None
unfolding script
tab = refl

third_number : read_line (bytes "0 handle 15 2") ≡ None
unfolding script
third_number = refl

no_slot : read_line (bytes "wait") ≡ None
unfolding script
no_slot = refl

one_more : read_line (bytes "0 getpid 1") ≡ None
unfolding script
one_more = refl

-- ---- answers

esrch_line : answer_line (Refused Esrch) ≡ bytes "-3\n"
unfolding script number_of end_of refusal_number
esrch_line = refl

signal_line : answer_line (Reaped (record { 0 = 2 }) (Signaled 9)) ≡ bytes "2 signal 9\n"
unfolding script number_of end_of
signal_line = refl

gave_line : answer_line (Reaped (record { 0 = 2 }) (Exited 255)) ≡ bytes "2 gave 255\n"
unfolding script number_of end_of
gave_line = refl

zero_line : answer_line (Number 0) ≡ bytes "0\n"
unfolding script number_of end_of
zero_line = refl
