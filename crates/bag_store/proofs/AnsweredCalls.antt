-- What a call that changes a tree promises follows from what it did on the disk.
use Rattle.bag_store.proofs.Common.{◌≡◌, ◌+◌, ◌≤◌, ℕ, List, IsTrue, refl, sym, arith, AppliesStep, Bag, DiskState, due_in_move}
use Rattle.bag_store.proofs.Common.{MeetsSpecial, Refusal, ReportsDisk, fault_answering, file_state_after}
use Rattle.bag_store.proofs.ChangedTree.{count_grows}
use Rattle.bag_store.proofs.RefusedCalls.{move_answered_so, tells_move}
use Rattle.std.proofs.Common.{subst}
use Rattle.std.specs.Prelude.{Result, Ok, Err, IfErr, MatchResult, OnErr, OnOk}
use Rattle.bag_tree.specs.Asked.{Asking}
use Rattle.bag_tree.specs.ChangeCalls.{Changes, IsPossible}
use Rattle.bag_tree.specs.Tree.{TreeState}
use Rattle.bag_tree.specs.declared.answer.Answer.{Answer}
use Rattle.bag_tree.specs.declared.answer.Answer.TheVariants.{Given, Refused}
use Rattle.bag_tree.specs.declared.tree_fault.TreeFault.{TreeFault}
use Rattle.bag_disk.specs.Refusal.{IsCounted, IsDueInStep}
use Rattle.bag_store.specs.Answered.{answer_to, own_after}
use Rattle.bag_store.specs.Asking.{AsksOfDisk, SeesTakenLast}
use Rattle.bag_store.specs.FileTree.{Replies}
use Rattle.bag_store.specs.FileTreeCalls.{AnswersTakenLast}
use Rattle.bag_disk.specs.declared.refusal.Refusal.TheVariants as refused
use Rattle.bag_tree.specs.declared.tree_fault.TreeFault.TheVariants as fault

-- two facts of what was done
pub on_ok_both : {T E P Q R : Type 0} (r : Result T E) → OnOk r P → OnOk r Q → (P → Q → R) → OnOk r R
on_ok_both (Ok x) p q f = f p q
on_ok_both (Err e) p q f = tt

abbrev SaysLast : Answer → Result (Unit {0}) TreeFault → Type 0
SaysLast last result = MatchResult result (λ _. last ≡ Given) (λ fault. last ≡ Refused fault)

module _ (old new : DiskState) (own own_then : ℕ) (said said_then : Replies) where
  abbrev before : TreeState
  before = file_state_after old own said

  abbrev after : TreeState
  after = file_state_after new own_then said_then

  module _ (change : Bag → Bag) (more : ℕ) (absent taken left gone : Type 0) (asks refused_asks : Asking) where
    so_answered : (done : Result (Unit {0}) Refusal) → own_then ≡ own_after done own
        → SaysLast said_then.last (answer_to done) → IsCounted done old new
        → OnOk done (new.failures ≡ old.failures → own_then ≡ own
        → AppliesStep change more before after × IsPossible absent taken before)
        → OnErr done (old.failures + own ≤ new.failures + own_then → left)
        → (gone → IsTrue old.honest → absent)
        → IfErr done (IsDueInStep (MeetsSpecial old) gone (IsTrue old.honest → taken))
        → AsksOfDisk asks refused_asks old new done
        → Changes change more absent taken left asks refused_asks before after (answer_to done)
    so_answered (Ok done) same says counts made leaves none due asked = record {
      changed = (made counts same).0;
      no_failure = omega (arith, counts, same);
      possible = (made counts same).1;
      last = says;
      leaves = tt;
      refused = tt;
      asked = asked;
    }
    so_answered (Err r) more_own says counts made leaves none due asked = record {
      changed = tt;
      no_failure = tt;
      possible = tt;
      last = says;
      leaves = leaves (count_grows r old.failures new.failures own own_then counts more_own);
      refused =
          move_answered_so old new own own_then r (fault_answering r) absent taken gone ⊥ counts more_own refl none
          (due_in_move (MeetsSpecial old) gone (IsTrue old.honest → taken) ⊥ r due);
      asked = asked;
    }

    -- the answer to how it went
    pub answered : (done : Result (Unit {0}) Refusal) (result : Result (Unit {0}) TreeFault) → result ≡ answer_to done
        → own_then ≡ own_after done own → SaysLast said_then.last result → IsCounted done old new
        → OnOk done (new.failures ≡ old.failures → own_then ≡ own
        → AppliesStep change more before after × IsPossible absent taken before)
        → OnErr done (old.failures + own ≤ new.failures + own_then → left)
        → (gone → IsTrue old.honest → absent)
        → IfErr done (IsDueInStep (MeetsSpecial old) gone (IsTrue old.honest → taken))
        → AsksOfDisk asks refused_asks old new done
        → Changes change more absent taken left asks refused_asks before after result
    answered done result is same says counts made leaves none due asked =
        subst (Changes change more absent taken left asks refused_asks before after) (sym is)
        (so_answered done same (subst (SaysLast said_then.last) is says) counts made leaves none due asked)

module _ (old new : DiskState) (gone there : Type 0) where
  so_told : (done : Result (Unit {0}) Refusal) → IsCounted done old new
      → IfErr done (IsDueInStep (MeetsSpecial old) gone there)
      → IfErr (answer_to done) (ReportsDisk ⊥ old new)
  so_told (Ok done) counts due = tt
  so_told (Err r) counts due =
      tells_move old new r (fault_answering r) gone there ⊥ refl counts (due_in_move (MeetsSpecial old) gone there ⊥ r due)

  -- what the answer tells of the disk
  pub told : (done : Result (Unit {0}) Refusal) (result : Result (Unit {0}) TreeFault) → result ≡ answer_to done
      → IsCounted done old new → IfErr done (IsDueInStep (MeetsSpecial old) gone there)
      → IfErr result (ReportsDisk ⊥ old new)
  told done result is counts due =
      subst (λ answer. IfErr answer (ReportsDisk ⊥ old new)) (sym is) (so_told done counts due)

-- only what is there already is answered so
taken_alone : (r : Refusal) → fault_answering r ≡ fault.Exists → r ≡ refused.Exists
taken_alone refused.Exists is = refl
taken_alone refused.Device is = grind arith
taken_alone refused.Special is = grind arith
taken_alone refused.Name is = grind arith
taken_alone refused.NotFound is = grind arith
taken_alone refused.TooMany is = grind arith
taken_alone refused.Memory is = grind arith
taken_alone refused.Contradicts is = grind arith
taken_alone refused.InTheWay is = grind arith

so_taken : (folder : List ℕ) (old new : DiskState) (done : Result (Unit {0}) Refusal)
    → IfErr done (SeesTakenLast folder old new) → IfErr (answer_to done) (AnswersTakenLast folder old new)
so_taken folder old new (Ok done) sees = tt
so_taken folder old new (Err r) sees = λ is. sees (taken_alone r is)

-- a taken name is answered as it was seen
pub taken_last : (folder : List ℕ) (old new : DiskState) (done : Result (Unit {0}) Refusal)
    (result : Result (Unit {0}) TreeFault) → result ≡ answer_to done
    → IfErr done (SeesTakenLast folder old new) → IfErr result (AnswersTakenLast folder old new)
taken_last folder old new done result is sees =
    subst (λ answer. IfErr answer (AnswersTakenLast folder old new)) (sym is) (so_taken folder old new done sees)
