-- Which call of a tree is refused, and what that makes of the tree.
use Rattle.std.specs.Prelude.{ℕ, suc, zero, ◌+◌, Bool, true, false, Option, None, Some}
use Rattle.std.specs.Prelude.{if◌then◌else◌}
use Rattle.bag_tree.specs.Tree.{TreeState}
use Rattle.bag_tree.specs.declared.answer.Answer.{Answer}
use Rattle.bag_tree.specs.declared.answer.Answer.TheVariants.{Refused, Unlisted}
use Rattle.bag_tree.specs.declared.tree_fault.TreeFault.TheVariants.{Device, NoneOpen}
use Rattle.bag_memory.specs.Skewed.{last_answer}
use Rattle.bag_memory.specs.declared.calls.Calls.{Calls}
use Rattle.bag_memory.specs.declared.calls.Due.{Due}
use Rattle.bag_memory.specs.declared.calls.Due.TheVariants.{Never, After, Past}

-- the next call is the refused one
abbrev pub is_kth : Due → Bool
is_kth Never = false
is_kth (After zero) = true
is_kth (After (suc left)) = false
is_kth Past = false

-- which call is refused after one more
abbrev pub next_due : Due → Due
next_due Never = Never
next_due (After zero) = Past
next_due (After (suc left)) = After left
next_due Past = Past

-- how many calls are left before the refused one
abbrev pub calls_left : Due → Option ℕ
calls_left Never = None
calls_left (After left) = Some left
calls_left Past = None

-- how many calls were refused
abbrev pub refused_calls : Due → ℕ
refused_calls Never = 0
refused_calls (After left) = 0
refused_calls Past = 1

-- the call of this number is refused, from 1, and none for 0
abbrev pub due_at : ℕ → Due
due_at zero = Never
due_at (suc left) = After left

-- no call was made
abbrev pub before_calls : ℕ → Calls
before_calls k = record { due = due_at k; shut = false; own = None }

-- what a call is answered without asking the tree below
abbrev pub own_answer : Due → Option Answer
own_answer due = if is_kth due then Some (Refused Device) else None

-- what a `list` is answered so
abbrev pub own_of_list : Due → Option Answer
own_of_list due = if is_kth due then Some (Unlisted Device) else None

-- after one call more
abbrev pub after_call : Calls → Calls
after_call calls =
    record { due = next_due calls.due; shut = calls.shut; own = own_answer calls.due }

-- after a `list` more
abbrev pub after_listing : Calls → Calls
after_listing calls =
    record { due = next_due calls.due; shut = calls.shut; own = own_of_list calls.due }

-- after an `open_file` more: nothing is open where it was the refused call
abbrev pub after_opening : Calls → Calls
after_opening calls =
    record { due = next_due calls.due; shut = is_kth calls.due; own = own_answer calls.due }

-- what a `read` is answered without asking the tree below
abbrev pub own_of_read : Calls → Option Answer
own_of_read calls =
    if is_kth calls.due then Some (Refused Device)
    else (if calls.shut then Some (Refused NoneOpen) else None)

-- after a `read` more
abbrev pub after_read : Calls → Calls
after_read calls = record { due = next_due calls.due; shut = calls.shut; own = own_of_read calls }

-- What a tree means of which a call is refused: what the tree below means, but for the refused
-- call, which is a failure more, for nothing being open after a refused `open_file`, and for the
-- last answer.
abbrev pub failing : TreeState → Calls → TreeState
failing below calls = record {
  bag = below.bag;
  plain = below.plain;
  honest = below.honest;
  entries = below.entries;
  failures = below.failures + refused_calls calls.due;
  openings = below.openings;
  listed = below.listed;
  gave = below.gave;
  rest = if calls.shut then None else below.rest;
  given = below.given;
  last = last_answer calls.own below.last;
  trail = below.trail;
  noted = below.noted;
}
