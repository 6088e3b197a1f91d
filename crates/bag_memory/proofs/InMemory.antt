-- The bag of a tree in memory is a bag.
use Rattle.bag_memory.proofs.Common.{◌≡◌, ℕ, ◌<◌, true, List, [], ◌∷◌, All, IsUtf8, Result, Ok, Err, OnOk, OnErr, Fits}
use Rattle.bag_memory.proofs.Common.{w8, get_or, refl, sym, ◌∙◌, subst, arith, get-insert, get-empty, contains-insert}
use Rattle.bag_memory.proofs.Common.{contains-empty, eq_by_cmp, nat_list_cmp_total, and_from, lt-ltb, or_left, or_right}
use Rattle.bag_memory.proofs.Common.{false≢true, All-head, All-tail, All-from_get_or, is_utf8-from_IsUtf8, text_cmp}
use Rattle.bag_memory.proofs.Common.{is_path, is_base_name, under, first_component, Bag, has_folder, PassesAsBag}
use Rattle.bag_memory.proofs.Common.{empty_bag, with_file, with_folder, folders_for, is_text_path, is_text_name}
use Rattle.bag_memory.proofs.Common.{are_bytes, bag_of_files, file_map, folder_set, one_text, text_itself}
use Rattle.std.specs.FinMap as map
use Rattle.std.specs.FinSet as set
use Rattle.bag_memory.proofs.Parents.{under_in_folder, first-under, first_is_name}

pub are_bytes_from : (bytes : List ℕ) → All (λ b. b < 256) bytes → are_bytes bytes ≡ true
are_bytes_from [] all = refl
are_bytes_from (b ∷ bytes) all =
    and_from _ _ (lt-ltb b 256 (All-head (λ b. b < 256) b bytes all))
    (are_bytes_from bytes (All-tail (λ b. b < 256) b bytes all))

pub empty_passes : PassesAsBag empty_bag
empty_passes = grind (arith, get-empty {X = List ℕ} text_cmp, contains-empty text_cmp, false≢true)

-- what is in memory is a bag of its files and folders
pub same_bag : (files : List (List ℕ × List ℕ)) (folders : List (List ℕ)) (bag : Bag) → file_map files ≡ bag.files
    → folder_set folders ≡ bag.folders → bag_of_files files folders ≡ bag
same_bag files folders bag one other = λ i. record { files = one i; folders = other i }

pub bag_passes : (files : List (List ℕ × List ℕ)) (folders : List (List ℕ)) (bag : Bag) → file_map files ≡ bag.files
    → folder_set folders ≡ bag.folders → PassesAsBag bag → PassesAsBag (bag_of_files files folders)
bag_passes files folders bag one other passes = subst PassesAsBag (sym (same_bag files folders bag one other)) passes

-- a folder of a set with one more is that one or was there
pub folder_cases : (P : List ℕ → Type 0) (folders : set.FinSet text_cmp) (name q : List ℕ) → P name
    → (set.contains folders q ≡ true → P q) → set.contains (set.insert folders name) q ≡ true → P q
folder_cases P folders name q here there has =
    grind (arith, contains-insert nat_list_cmp_total folders name q, one_text)

pub folder_stays : (folders : set.FinSet text_cmp) (name q : List ℕ) → set.contains folders q ≡ true
    → set.contains (set.insert folders name) q ≡ true
folder_stays folders name q has =
    contains-insert nat_list_cmp_total folders name q ∙ or_right (eq_by_cmp text_cmp q name) _ has

pub folder_is_there : (folders : set.FinSet text_cmp) (name : List ℕ)
    → set.contains (set.insert folders name) name ≡ true
folder_is_there folders name =
    contains-insert nat_list_cmp_total folders name name ∙ or_left (eq_by_cmp text_cmp name name) _ (text_itself name)

pub folder_passes : (bag : Bag) (name : List ℕ) → is_text_name name ≡ true → PassesAsBag bag
    → PassesAsBag (with_folder bag name)
folder_passes bag name is passes = grind (arith, folder_cases (λ q. is_text_name q ≡ true), folder_stays)

-- a bag with one more file, whose folder is there
put_file_there : (bag : Bag) (path bytes : List ℕ) → is_text_path path ≡ true → are_bytes bytes ≡ true
    → ((top rest : List ℕ) → is_base_name top ≡ true → path ≡ under top rest → has_folder bag top ≡ true)
    → PassesAsBag bag → PassesAsBag (record { files = map.insert bag.files path bytes; folders = bag.folders })
put_file_there bag path bytes is are top_is passes = record {
  paths = λ q has. grind (arith, get-insert nat_list_cmp_total bag.files path bytes q, one_text);
  names = passes.names;
  parents = λ top rest name_is has.
      grind (arith, get-insert nat_list_cmp_total bag.files path bytes (under top rest), one_text);
  bytes = λ q content has. grind (arith, get-insert nat_list_cmp_total bag.files path bytes q);
}

pub file_passes : (bag : Bag) (path bytes : List ℕ) → is_text_path path ≡ true → are_bytes bytes ≡ true
    → PassesAsBag bag → PassesAsBag (with_file bag path bytes)
file_passes bag path bytes is are passes =
    grind (
      arith,
      put_file_there (with_folder bag (first_component path)) path bytes,
      put_file_there bag path bytes,
      first-under,
      folder_is_there,
      folder_passes,
      first_is_name,
      false≢true,
      under_in_folder,
    )

-- what a bag becomes passes too
pub file_put_passes : (old new : Bag) (path bytes : List ℕ) → new.files ≡ map.insert old.files path bytes
    → new.folders ≡ folders_for old.folders path
    → is_text_path path ≡ true → are_bytes bytes ≡ true → PassesAsBag old → PassesAsBag new
file_put_passes old new path bytes files folders is are passes = grind (arith, file_passes)

pub folder_put_passes : {E : Type 0} (r : Result (Unit {0}) E) (files : List (List ℕ × List ℕ))
    (old new : List (List ℕ)) (name : List ℕ)
    → OnOk r (folder_set new ≡ set.insert (folder_set old) name) → OnErr r (folder_set new ≡ folder_set old)
    → is_text_name name ≡ true → PassesAsBag (bag_of_files files old) → PassesAsBag (bag_of_files files new)
folder_put_passes (Ok u) files old new name put refused is passes =
    grind (arith, folder_passes (bag_of_files files old) name is passes)
folder_put_passes (Err e) files old new name put refused is passes = grind arith

-- the bytes of a slice
pub bytes_below : (bytes : List ℕ) → ((i : ℕ) → Fits w8 (get_or bytes i 0)) → are_bytes bytes ≡ true
bytes_below bytes fits = are_bytes_from bytes (All-from_get_or (λ b. b < 256) bytes 0 (λ i _. omega (arith, fits i)))

pub text_path_of : (path : List ℕ) → is_path path ≡ true → IsUtf8 path → is_text_path path ≡ true
text_path_of path is text = and_from _ _ is (is_utf8-from_IsUtf8 path text)

pub text_name_of : (name : List ℕ) → is_base_name name ≡ true → IsUtf8 name → is_text_name name ≡ true
text_name_of name is text = and_from _ _ is (is_utf8-from_IsUtf8 name text)
