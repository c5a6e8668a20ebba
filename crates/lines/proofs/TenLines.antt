-- "One run whole": the script of document 01 gives its ten lines, with and without the last line feed.
use mathlib.Core.Path.{◌≡◌, refl}
use Rattle.lines.specs.Runs.{run_line, run_all, run}
use Rattle.lines.specs.Splitting.{ended, left, last_line, lines}
use Rattle.script.proofs.Open.{script}
use Rattle.script.specs.Texts.{bytes}
use Rattle.rules.proofs.Open.{everything}

pub ten_lines : run (bytes "0 clone new\n1 getpid\n1 getppid\n1 clone\n2 kill 1 9\n0 kill 2 9\n0 kill 3 0\n0 wait\n0 wait\n0 clone\n") ≡ bytes "2\n1\n0\n2\n0\n0\n-3\n2 signal 9\n-10\n4\n"
unfolding run run_all run_line ended left last_line lines script everything
ten_lines = refl

pub last_feed_missing : run (bytes "0 getpid\n\n0 wait") ≡ bytes "1\n?\n-10\n"
unfolding run run_all run_line ended left last_line lines script everything
last_feed_missing = refl

pub empty_input : run (bytes "") ≡ bytes ""
unfolding run run_all run_line ended left last_line lines script everything
empty_input = refl

pub lone_feed : run (bytes "\n") ≡ bytes "?\n"
unfolding run run_all run_line ended left last_line lines script everything
lone_feed = refl
