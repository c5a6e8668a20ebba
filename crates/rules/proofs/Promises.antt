-- The promises of specs/Claims.antt, each proved.
use Rattle.rules.proofs.Keeps.Changes as Changes
use Rattle.rules.proofs.Keeps.Clones as Clones
use Rattle.rules.proofs.Keeps.Exact as Exact
use Rattle.rules.proofs.Keeps.Fixed as Fixed
use Rattle.rules.proofs.Keeps.Fresh as Fresh
use Rattle.rules.proofs.Keeps.Killed as Killed
use Rattle.rules.proofs.Keeps.Lines as Lines
use Rattle.rules.proofs.Keeps.MemberExact as MemberExact
use Rattle.rules.proofs.Keeps.Numbers as Numbers
use Rattle.rules.proofs.Keeps.Own as Own
use Rattle.rules.proofs.Keeps.Refusals as Refusals
use Rattle.rules.proofs.Keeps.Spared as Spared
use Rattle.rules.proofs.Keeps.Waited as Waited
use Rattle.rules.specs.Claims.{RefusalLeaves, AnswersListed, KeepsSound, NamespaceFixed, NumbersKept, NamespacesKept, NumberFresh, CloneTells, ChildrenTurn, SignalsOnly, WaitExact, SignalFinds, SignalExact, InitSpared, SubtreeFalls, EndExact, MemberEndExact}

-- ---- promise 1

-- A refusal leaves the whole table unchanged and tells the host no slot.
pub refusal_leaves : RefusalLeaves
refusal_leaves = Refusals.refusal_leaves

-- Each negative number is given exactly when its row says so and no earlier row does.
pub answers_listed : AnswersListed
answers_listed = Lines.answers_listed

-- ---- promise 2

-- Each call leaves a sound table sound.
pub keeps_sound : KeepsSound
keeps_sound = Changes.keeps_sound

-- A process never changes namespace.
pub namespace_fixed : NamespaceFixed
namespace_fixed = Fixed.namespace_fixed

-- A process that stays in the table keeps its numbers at all levels and its own namespace.
pub numbers_kept : NumbersKept
numbers_kept = Numbers.numbers_kept

-- A namespace slot that is taken before and after a call is the same namespace's.
pub namespaces_kept : NamespacesKept
namespaces_kept = Fixed.namespaces_kept

-- A newborn has in its own namespace and in each above it the next number there, which nobody had; it becomes the last.
pub number_fresh : NumberFresh
number_fresh = Fresh.number_fresh

-- A granted clone tells the host the slot of exactly the child, and no other call tells one.
pub clone_tells : CloneTells
clone_tells = Clones.clone_tells

-- unshare and setns change the caller's children's namespace, and no other record.
pub children_turn : ChildrenTurn
children_turn = Own.children_turn

-- handle and poll change only the caller's signals.
pub signals_only : SignalsOnly
signals_only = Own.signals_only

-- A wait removes exactly one, the caller's ended child with the lowest number, and says how it ended; no other call
-- does.
pub wait_exact : WaitExact
wait_exact = Waited.wait_exact

-- A signal finds exactly the processes of the caller's namespace and those below.
pub signal_finds : SignalFinds
signal_finds = Killed.signal_finds

-- What a granted kill makes of each process: of those it means, of a fallen subtree, of orphans, and of all others.
pub signal_exact : SignalExact
signal_exact = Killed.signal_exact

-- An init's 9 to itself leaves the whole table as it was.
pub init_spared : InitSpared
init_spared = Spared.init_spared

-- A namespace's first process takes its whole subtree down.
pub subtree_falls : SubtreeFalls
subtree_falls = Fixed.subtree_falls

-- The end of an init removes exactly those of its subtree whose parent lies there, and leaves all outside as they were.
pub end_exact : EndExact
end_exact = Exact.end_exact

-- The end of one that is no init hands its children to the init of its namespace, and leaves all others as they were.
pub member_end_exact : MemberEndExact
member_end_exact = MemberExact.member_end_exact
