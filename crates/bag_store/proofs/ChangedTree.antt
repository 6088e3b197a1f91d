-- What a step makes of a tree of the files on a disk.
use Rattle.bag_store.proofs.Common.{◌≡◌, ℕ, ◌+◌, ◌≤◌, true, IsTrue, List, take, Some, None, is_some, inl, inr, ◌⊎◌, ap}
use Rattle.bag_store.proofs.Common.{sym, ◌∙◌, arith, false≢true, get-insert, get-remove, nat_list_cmp_total}
use Rattle.bag_store.proofs.Common.{is_base_name, Bag, LeavesPartialFile, AppliesStep, IsUnchanged, Keeps, DiskState}
use Rattle.bag_store.proofs.Common.{Nodes, Node, node}
use Rattle.bag_store.proofs.Common.{IsDisk, OnlyLooks, entry_count, is_plain, is_plain_node, ClosesOpenFile}
use Rattle.bag_store.proofs.Common.{MakesFolderNode, moved, nodes_move, IsMovedIn, IsRenamed, bag_of, file_state_after}
use Rattle.bag_store.proofs.Common.{count_after, Begins, Makes, failures_after, Refusal, all_plain, other_not_plain}
use Rattle.std.specs.FinMap as map
use Rattle.bag_tree.specs.Steps as step
use Rattle.bag_disk.specs.DiskNodes.{OnlySyncs, SameDisk}
use Rattle.bag_store.proofs.AskedOf.{looked}
use Rattle.bag_store.proofs.EntryCounts.{as_many_moved, more_put, no_more_gone}
use Rattle.bag_store.proofs.BagSteps.{came_from, bag_moved_in, bag_renamed, file_gone, file_made, file_put}
use Rattle.bag_store.proofs.BagSteps.{folder_made, free_not_taken}
use Rattle.bag_store.specs.FileTree.{KeepsGiven, Replies}
use Rattle.bag_store.specs.Writing.{LeavesPut, Puts, RemovesIt}
use Rattle.bag_tree.specs.Cut.{lose}
use Rattle.bag_tree.specs.ReplaceCalls.{LeavesReplaced}

-- what stands there stood there before, or is a file or a folder
abbrev NothingElse : Nodes → Nodes → Type 0
NothingElse old new = (path : List ℕ) (n : Node) → node new path ≡ Some n
    → (is_plain_node n ≡ true) ⊎ ((q : List ℕ) × (node old q ≡ Some n))

stays_plain : (old new : Nodes) → NothingElse old new → is_plain old ≡ true → is_plain new ≡ true
stays_plain old new from plain = grind (arith, all_plain, false≢true, other_not_plain)

nothing_else_put : (nodes : Nodes) (name : List ℕ) (n : Node) → is_plain_node n ≡ true
    → NothingElse nodes (map.insert nodes name n)
nothing_else_put nodes name n good path m is = grind (arith, get-insert nat_list_cmp_total nodes name n path)

nothing_else_gone : (nodes : Nodes) (name : List ℕ) → NothingElse nodes (map.remove nodes name)
nothing_else_gone nodes name path n is = grind (arith, get-remove nat_list_cmp_total nodes name path)

nothing_else_moved : (nodes : Nodes) (from to : List ℕ) → IsDisk nodes → node nodes to ≡ None
    → NothingElse nodes (moved from to nodes)
nothing_else_moved nodes from to disk free path n is =
    came_from _ nodes (moved from to nodes) nodes (moved from to nodes) from to path
    (nodes_move nodes from to disk free) (nodes_move nodes from to disk free)
    (λ q one _. inr (q, sym one ∙ is)) (λ none _. absurd (false≢true (ap is_some (sym none ∙ is))))

-- a step on what stands there
record Steps (change : Bag → Bag) (more : ℕ) (old new : Nodes) : Type 0 where
  bag : bag_of new ≡ change (bag_of old)
  plain : is_plain old ≡ true → is_plain new ≡ true
  entries : entry_count new ≤ entry_count old + more

-- a call that changes nothing that stands there keeps the tree
pub tree_keeps : (old new : DiskState) (own own_then : ℕ) (said said_then : Replies) → SameDisk old new
    → old.failures + own ≤ new.failures + own_then
    → Keeps (file_state_after old own said) (file_state_after new own_then said_then)
tree_keeps old new own own_then said said_then same grows = record {
  bag = ap bag_of same.nodes;
  plain = ap is_plain same.nodes;
  honest = same.honest;
  entries = ap entry_count same.nodes;
  failures = grows;
  noted = same.noted;
  trail = same.trail;
}

-- a step, whose answer leaves what was given before it
module _ (old new : DiskState) (own own_then : ℕ) (said said_then : Replies) (kept : KeepsGiven said said_then) where
  changed : (change : Bag → Bag) (more : ℕ) → ClosesOpenFile old new → old.failures + own ≤ new.failures + own_then
      → (IsTrue old.honest → Steps change more old.nodes new.nodes)
      → AppliesStep change more (file_state_after old own said)
      (file_state_after new own_then said_then)
  changed change more closes grows steps = grind arith

  pub folder_changed : (name : List ℕ) → IsDisk old.nodes → IsDisk new.nodes → is_base_name name ≡ true
      → new.failures ≡ old.failures → own_then ≡ own → ClosesOpenFile old new
      → (IsTrue old.honest → MakesFolderNode old.nodes new.nodes name)
      → AppliesStep (step.make_folder name) 1 (file_state_after old own said)
      (file_state_after new own_then said_then)
  folder_changed name disk disk_then is no_failure same closes makes =
      grind (arith, changed, folder_made, stays_plain, nothing_else_put, more_put)

  pub file_changed : (name bytes : List ℕ) → IsDisk old.nodes → IsDisk new.nodes
      → old.failures + own ≤ new.failures + own_then → Makes old new name bytes
      → AppliesStep (step.create name bytes) 1 (file_state_after old own said)
      (file_state_after new own_then said_then)
  file_changed name bytes disk disk_then grows makes =
      grind (arith, changed, file_made, stays_plain, nothing_else_put, more_put)

  pub put_changed : (beside name bytes : List ℕ) → IsDisk old.nodes → IsDisk new.nodes
      → old.failures + own ≤ new.failures + own_then → Puts old new beside name bytes
      → AppliesStep (step.create name bytes) 1 (file_state_after old own said)
      (file_state_after new own_then said_then)
  put_changed beside name bytes disk disk_then grows puts =
      grind (arith, changed, file_put, stays_plain, nothing_else_put, more_put)

  pub gone_changed : (name : List ℕ) → IsDisk old.nodes → IsDisk new.nodes
      → old.failures + own ≤ new.failures + own_then → RemovesIt old new name
      → AppliesStep (lose name) 0 (file_state_after old own said)
      (file_state_after new own_then said_then)
  gone_changed name disk disk_then grows removes =
      grind (arith, changed, file_gone, stays_plain, nothing_else_gone, no_more_gone)

  pub moved_changed : (top folder : List ℕ) → IsDisk old.nodes → IsDisk new.nodes → is_base_name top ≡ true
      → new.failures ≡ old.failures → own_then ≡ own → ClosesOpenFile old new → IsMovedIn old new top folder
      → AppliesStep (step.move_in top folder) 0 (file_state_after old own said)
      (file_state_after new own_then said_then)
  moved_changed top folder disk disk_then is no_failure same closes moves =
      grind (arith, changed, bag_moved_in, stays_plain, nothing_else_moved, as_many_moved)

  pub renamed_changed : (from to : List ℕ) → IsDisk old.nodes → IsDisk new.nodes → is_base_name from ≡ true
      → is_base_name to ≡ true → new.failures ≡ old.failures → own_then ≡ own → ClosesOpenFile old new
      → IsRenamed old new from to
      → AppliesStep (step.rename_folder from to) 0 (file_state_after old own said)
      (file_state_after new own_then said_then)
  renamed_changed from to disk disk_then from_is to_is no_failure same closes moves =
      grind (arith, changed, bag_renamed, stays_plain, nothing_else_moved, as_many_moved)

  -- a refused step left all
  pub step_same : OnlySyncs old new → old.failures + own ≤ new.failures + own_then
      → IsUnchanged (file_state_after old own said) (file_state_after new own_then said_then)
  step_same syncs grows = record {
    keeps = record {
      bag = ap bag_of syncs.nodes;
      plain = ap is_plain syncs.nodes;
      honest = syncs.honest;
      entries = ap entry_count syncs.nodes;
      failures = grows;
      noted = syncs.noted;
    };
    openings = syncs.openings;
    listed = kept.listed;
    gave = kept.gave;
    rest = syncs.rest;
    given = kept.given;
  }

  -- a refused step left all, or a file of some first bytes
  pub step_begun : (name bytes : List ℕ) → IsDisk old.nodes → IsDisk new.nodes → is_base_name name ≡ true
      → old.failures + own ≤ new.failures + own_then → OnlyLooks old new ⊎ Begins old new name bytes
      → IsUnchanged (file_state_after old own said) (file_state_after new own_then said_then)
      ⊎ LeavesPartialFile name bytes (file_state_after old own said)
      (file_state_after new own_then said_then)
  step_begun name bytes disk disk_then is grows (inl looks) = inl (step_same (looked old new looks) grows)
  step_begun name bytes disk disk_then is grows (inr begins) =
      grind (arith, file_changed name (take begins.count bytes) disk disk_then grows begins.first, free_not_taken)

  -- a refused change left all, or a file of some first bytes beside, or was made
  pub put_left : (beside name bytes : List ℕ) → IsDisk old.nodes → IsDisk new.nodes → is_base_name beside ≡ true
      → old.failures + own ≤ new.failures + own_then → LeavesPut old new beside name bytes
      → LeavesReplaced beside name bytes (file_state_after old own said)
      (file_state_after new own_then said_then)
  put_left beside name bytes disk disk_then is grows (inl syncs) = inl (step_same syncs grows)
  put_left beside name bytes disk disk_then is grows (inr (inl begins)) =
      elim (step_begun beside bytes disk disk_then is grows (inr begins))
      [ inl all ↦ inl all | inr part ↦ inr (inl part) ]
  put_left beside name bytes disk disk_then is grows (inr (inr puts)) =
      inr (inr (put_changed beside name bytes disk disk_then grows puts))

  pub gone_left : (name : List ℕ) → IsDisk old.nodes → IsDisk new.nodes
      → old.failures + own ≤ new.failures + own_then → OnlySyncs old new ⊎ RemovesIt old new name
      → IsUnchanged (file_state_after old own said) (file_state_after new own_then said_then)
      ⊎ AppliesStep (lose name) 0 (file_state_after old own said)
      (file_state_after new own_then said_then)
  gone_left name disk disk_then grows (inl syncs) = inl (step_same syncs grows)
  gone_left name disk disk_then grows (inr removes) = inr (gone_changed name disk disk_then grows removes)

pub looked_same : (old new : DiskState) → OnlyLooks old new → SameDisk old new
looked_same old new looks =
    record { nodes = looks.nodes; honest = looks.honest; noted = looks.noted; trail = looks.trail }

pub same_on : (old mid new : DiskState) → SameDisk old mid → SameDisk mid new → SameDisk old new
same_on old mid new one two =
    record {
      nodes = two.nodes ∙ one.nodes;
      honest = two.honest ∙ one.honest;
      noted = two.noted
          ∙ one.noted;
      trail = two.trail ∙ one.trail;
    }

pub kept_count : (before after own own_then : ℕ) → after ≡ before → own_then ≡ own → before + own ≤ after + own_then
kept_count before after own own_then same own_same = omega (arith, same, own_same)

-- a refusal forgets no failure
pub count_grows : (r : Refusal) (before after own own_then : ℕ) → after ≡ failures_after r before
    → own_then ≡ count_after r own → before + own ≤ after + own_then
count_grows r before after own own_then disk tree = grind arith
