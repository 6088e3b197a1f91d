-- The folder that a file brings with it, and that is taken back.
use Rattle.bag_memory.proofs.Common.{arith, ◌≡◌, ℕ, ◌<◌, true, false, cond, List, length, list_any, position_or_len}
use Rattle.bag_memory.proofs.Common.{contains-insert, contains-remove, contains-from_list, same_set, eq_by_cmp}
use Rattle.bag_memory.proofs.Common.{eq_by_cmp_equiv, nat_list_cmp_total, is_at, text_cmp, first_component, folder_set}
use Rattle.bag_memory.proofs.Common.{folders_for, exact_texts, one_text}
use Rattle.std.specs.FinSet as set
use Rattle.bag_memory.proofs.Parents.{is_slash, in_folder, not_in_folder}

-- the folder of a path with a slash
pub parent_put : (folders : set.FinSet text_cmp) (name path : List ℕ) → position_or_len is_slash path < length path
    → name ≡ first_component path → set.insert folders name ≡ folders_for folders path
parent_put folders name path place is = grind (arith, in_folder)

pub no_parent : (folders : set.FinSet text_cmp) (path : List ℕ) → position_or_len is_slash path ≡ length path
    → folders ≡ folders_for folders path
no_parent folders path past = grind (arith, not_in_folder)

-- a new folder is taken back
pub put_and_taken : (folders : set.FinSet text_cmp) (name : List ℕ) → set.contains folders name ≡ false
    → set.remove (set.insert folders name) name ≡ folders
put_and_taken folders name new =
    same_set nat_list_cmp_total exact_texts _ _ (λ q.
    grind (arith, contains-remove nat_list_cmp_total, contains-insert nat_list_cmp_total, one_text))

-- a folder that is there is put to no effect
pub put_again : (folders : set.FinSet text_cmp) (name : List ℕ) → set.contains folders name ≡ true
    → set.insert folders name ≡ folders
put_again folders name old =
    same_set nat_list_cmp_total exact_texts _ _ (λ q. grind (arith, contains-insert nat_list_cmp_total, one_text))

-- names that lack one make the set without it
pub one_taken : (es fs : List (List ℕ)) (k : List ℕ)
    → ((q : List ℕ) → list_any (eq_by_cmp text_cmp q) fs
    ≡ cond (is_at (text_cmp k) q) false (list_any (eq_by_cmp text_cmp q) es))
    → folder_set fs ≡ set.remove (folder_set es) k
one_taken es fs k h =
    same_set nat_list_cmp_total exact_texts _ _ (λ q.
    grind (
      arith,
      contains-from_list nat_list_cmp_total,
      h q,
      (eq_by_cmp_equiv nat_list_cmp_total).symm,
      contains-remove nat_list_cmp_total,
    ))
