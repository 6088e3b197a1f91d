-- What a walk finds has paths.
use Rattle.bag_disk.proofs.Common.{◌≡◌, ℕ, ◌<◌, List, [], ◌∷◌, ◌++◌, length, inl, inr, refl, arith, All, IsTrue}
use Rattle.bag_disk.proofs.Common.{onto_first, and_from, All-contains, All-cons, All-nil, All-push, Contains-push}
use Rattle.bag_disk.proofs.Common.{components, is_path, under, FileEntry, path_in, Entry, AllArePaths, IsFolderPath}
use Rattle.bag_disk.proofs.Common.{files_with, folders_with}
use Rattle.std.proofs.lemmas.List.Folds.{list_all-append}
use Rattle.std.proofs.lemmas.List.Splits.{length-slice_split}
use Rattle.bag_disk.specs.declared.disk.Entry.TheVariants as entry

onto_before : (c : ℕ) (xs ys : List (List ℕ)) → 0 < length xs → onto_first c (xs ++ ys) ≡ onto_first c xs ++ ys
onto_before c [] ys some = absurd (omega arith)
onto_before c (x ∷ xs) ys some = refl

-- the components of a path under a folder
pub components_under : (folder path : List ℕ) → components (under folder path) ≡ components folder ++ components path
components_under [] path = refl
components_under (c ∷ folder) path = grind (arith, onto_before, length-slice_split, components_under folder path)

-- a path in a folder is a path
pub path_in_folder : (folder name : List ℕ) → IsFolderPath folder → IsTrue (is_path name)
    → IsTrue (is_path (path_in folder name))
path_in_folder [] name is named = named
path_in_folder (c ∷ folder) name (inl e) named = cc
path_in_folder (c ∷ folder) name (inr is) named = grind (arith, components_under, list_all-append, and_from)

-- what stands at one more path
pub path_found : (files : List FileEntry) (folders : List (List ℕ)) (path : List ℕ) (found : Entry)
    → IsTrue (is_path path) → AllArePaths files folders
    → AllArePaths (files_with files path found) (folders_with folders path found)
path_found files folders path (entry.File size) is before =
    (All-push (λ file. IsTrue (is_path file.path)) files (record { path = path; size = size }) before.0 is, before.1)
path_found files folders path entry.Folder is before = (before.0, All-push IsFolderPath folders path before.1 (inr is))
path_found files folders path entry.Other is before = before

-- at first there is the base folder alone
pub base_folder_alone : AllArePaths [] ([] ∷ [])
base_folder_alone =
    (All-nil (λ file. IsTrue (is_path file.path)), All-cons IsFolderPath [] [] (inl refl) (All-nil IsFolderPath))

-- a folder that was taken from the folders
pub is_folder_path : (folders rest : List (List ℕ)) (folder : List ℕ) → folders ≡ rest ++ folder ∷ []
    → All IsFolderPath folders → IsFolderPath folder
is_folder_path folders rest folder are all =
    All-contains IsFolderPath folders folder all (rw are (Contains-push rest folder))
