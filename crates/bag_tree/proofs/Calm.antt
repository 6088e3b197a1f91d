-- A tree that refuses nothing, and out of memory.
use Rattle.bag_tree.proofs.Common.{arith, ◌≡◌, ◌∙◌, inl, inr, ℕ, None, Some, refl, ap, TreeState, answer_of_read}
use Rattle.bag_tree.proofs.Common.{refusal_of, Given, Refused, Unlisted}
use Rattle.bag_tree.specs.Tree.{MayReportMemory, NothingFailed}
use Rattle.bag_tree.specs.declared.tree_fault.TreeFault.{TreeFault}
use Rattle.bag_tree.specs.declared.tree_fault.TreeFault.TheVariants.{Memory}

pub nothing_asked : (old : TreeState) → NothingFailed old old
nothing_asked old = record { failures = refl; last = inl refl }

-- and then nothing either
pub nothing_then : (old mid new : TreeState) → NothingFailed old mid → NothingFailed mid new → NothingFailed old new
nothing_then old mid new p q = grind arith

-- and then out of memory was reported
pub memory_then : (old mid new : TreeState) → NothingFailed old mid → MayReportMemory mid new → MayReportMemory old new
memory_then old mid new p told = grind (arith, nothing_then)

-- a listing was refused when out of memory
pub memory_unlisted : (old new : TreeState) (cause : TreeFault) → new.last ≡ Unlisted cause → cause ≡ Memory
    → MayReportMemory old new
memory_unlisted old new cause last is = inl (ap refusal_of last ∙ ap Some is)

-- and another call
pub memory_refused : (old new : TreeState) (cause : TreeFault) → new.last ≡ Refused cause → cause ≡ Memory
    → MayReportMemory old new
memory_refused old new cause last is = inl (ap refusal_of last ∙ ap Some is)

read_is_none : (n : ℕ) → refusal_of (answer_of_read n) ≡ None
read_is_none n = grind arith

-- a call was answered
pub nothing_given : (old new : TreeState) → new.failures ≡ old.failures → new.last ≡ Given → NothingFailed old new
nothing_given old new no_failure last = record { failures = no_failure; last = inr (ap refusal_of last) }

-- a read was
pub nothing_read : (old new : TreeState) (n : ℕ) → new.failures ≡ old.failures → new.last ≡ answer_of_read n
    → NothingFailed old new
nothing_read old new n no_failure last =
    record { failures = no_failure; last = inr (ap refusal_of last ∙ read_is_none n) }
