-- The changes of a renewal are of files of the base folder.
use Rattle.bag_changes.proofs.Common.{◌≡◌, ◌++◌, ◌∷◌, ◌∙◌, ℕ, Bool, true, false, cond, List, [], Option, None, Some}
use Rattle.bag_changes.proofs.Common.{map, refl, sym, subst, All-append, All-cons, All-nil, map-append}
use Rattle.bag_changes.proofs.Common.{in_base, Info, Declaration, Manifest, Payload, Tag, TagName, Kind, tag_path, Alg}
use Rattle.bag_changes.proofs.Common.{File, FileChange, Put, Remove, begun_file, put, removals_of, with_path}
use Rattle.bag_text.specs.declared.rules.Rules.{Rules}
use Rattle.bag_tags.specs.Entry.{manifest_text_by}
use Rattle.bag_tags.specs.Summed.{manifests_by, summed_entry}
use Rattle.bag_tree.specs.ChangeFiles.{IsOfFile}
use Rattle.bag_changes.specs.Composing.{AreOfFiles, tag_manifests_of}
use Rattle.bag_tags.specs.declared.summed.SummedFile.{SummedFile}
use Rattle.bag_changes.proofs.Staying.{no_begun}

-- a tag file is put
pub tag_put : (tag : TagName) (text : List ℕ) → IsOfFile begun_file (Put (tag_path tag) text)
tag_put tag text = (in_base tag, no_begun tag)

pub none_of_files : AreOfFiles []
none_of_files = All-nil (IsOfFile begun_file)

pub one_of_files : (change : FileChange) → IsOfFile begun_file change → AreOfFiles (change ∷ [])
one_of_files change is = All-cons (IsOfFile begun_file) change [] is none_of_files

pub both_of_files : (some more : List FileChange) → AreOfFiles some → AreOfFiles more → AreOfFiles (some ++ more)
both_of_files some more a b = All-append (IsOfFile begun_file) some more a b

each_of_file : {A : Type 0} (change : A → FileChange) → ((x : A) → IsOfFile begun_file (change x)) → (xs : List A)
    → AreOfFiles (map change xs)
each_of_file change is [] = none_of_files
each_of_file change is (x ∷ xs) =
    All-cons (IsOfFile begun_file) (change x) (map change xs) (is x) (each_of_file change is xs)

pub removals_of_files : (kind : Kind) (algs : List Alg) → AreOfFiles (removals_of kind algs)
removals_of_files kind algs =
    each_of_file (λ (alg : Alg). Remove (tag_path (Manifest kind alg))) (λ alg. in_base (Manifest kind alg)) algs

abbrev text_for : Rules → Alg → List SummedFile → List ℕ
text_for rules alg files = manifest_text_by rules (map (summed_entry alg) files)

manifests_of_files : (rules : Rules) (kind : Kind) (algs : List Alg) (files : List SummedFile)
    → AreOfFiles (map put (manifests_by rules kind algs files))
manifests_of_files rules kind [] files = none_of_files
manifests_of_files rules kind (alg ∷ algs) files =
    All-cons (IsOfFile begun_file) _ _ (tag_put (Manifest kind alg) (text_for rules alg files))
    (manifests_of_files rules kind algs files)

pub tag_manifests_of_files : (rules : Rules) (algs : List Alg) (files : List SummedFile)
    → AreOfFiles (tag_manifests_of rules algs files)
tag_manifests_of_files rules algs files = manifests_of_files rules Tag algs files

info_of_files : (info : Option (List ℕ)) → AreOfFiles (map put (with_path (tag_path Info) info))
info_of_files None = none_of_files
info_of_files (Some text) = one_of_files (Put (tag_path Info) text) (tag_put Info text)

-- the files that are put first
pub first_of_files : (rules : Rules) (made : List File) (info : Option (List ℕ)) (algs : List Alg) (files : List SummedFile)
    → made ≡ with_path (tag_path Info) info ++ manifests_by rules Payload algs files → AreOfFiles (map put made)
first_of_files rules made info algs files is =
    let some = with_path (tag_path Info) info in
    subst AreOfFiles (sym ((λ i. map put (is i)) ∙ map-append put some (manifests_by rules Payload algs files)))
    (both_of_files (map put some) (map put (manifests_by rules Payload algs files)) (info_of_files info)
    (manifests_of_files rules Payload algs files))

-- and last
pub last_of_files : (made : List File) (file : File) (text : List ℕ) (b : Bool) → file ≡ (tag_path Declaration, text)
    → made ≡ cond b (file ∷ []) [] → AreOfFiles (map put made)
last_of_files made file text b same is = subst (λ some. AreOfFiles (map put some)) (sym is) (by b)
  where
    by : (b : Bool) → AreOfFiles (map put (cond b (file ∷ []) []))
    by false = none_of_files
    by true = subst (λ e. AreOfFiles (map put (e ∷ []))) (sym same)
        (one_of_files (Put (tag_path Declaration) text) (tag_put Declaration text))

begun_removed : IsOfFile begun_file (Remove begun_file)
begun_removed = refl

-- the tag manifests that are removed, and a file that was begun
pub opened_of_files : (made : List FileChange) (algs : List Alg) (name : List ℕ) (b : Bool) → name ≡ begun_file
    → made ≡ removals_of Tag algs ++ cond b (Remove name ∷ []) [] → AreOfFiles made
opened_of_files made algs name b same is =
    subst AreOfFiles (sym is) (both_of_files (removals_of Tag algs) (cond b (Remove name ∷ []) [])
    (removals_of_files Tag algs) (by b))
  where
    by : (b : Bool) → AreOfFiles (cond b (Remove name ∷ []) [])
    by false = none_of_files
    by true = subst (λ n. AreOfFiles (Remove n ∷ [])) (sym same) (one_of_files (Remove begun_file) begun_removed)
