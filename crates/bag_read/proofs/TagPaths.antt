-- The paths of tag files.
use Rattle.bag_read.proofs.Common.{Bool, List, MatchOption, None, Option, Some, [], ap, append_assoc, arith, bytes_eq}
use Rattle.bag_read.proofs.Common.{codes, false, find, get_or, refl, sym, true, ℕ, ◌++◌, ◌∙◌, ◌∷◌, ◌≡◌, ◌≢◌}
use Rattle.bag_read.proofs.Common.{bytes_eq-Decides, option_or, list_all, slice_get, alg_named, algs, name, Alg}
use Rattle.bag_read.proofs.Common.{is_alg_text, manifest_name, prefix, Kind, Payload, Tag}
use Rattle.std.proofs.lemmas.List.Elements.{All-contains}
use Rattle.std.proofs.lemmas.List.Sums.{AllPass-from_list_all}
use Rattle.bag_text.proofs.AlgSets.{each_is_listed, name_is_read_again, names_tell_apart}
use Rattle.bag_read.specs.declared.tag_name.TagName.{TagName}
use Rattle.bag_read.specs.declared.tag_name.TagName.TheVariants.{Manifest}
use Rattle.bag_read.specs.ManifestName.{tag_path}
use Rattle.bag_read.specs.Laws.{TagPathsDiffer, TagFilesStandInTheBase}
use Rattle.bag_read.proofs.ManifestName.{same_alg}

-- what all of the list pass, each algorithm passes
each_alg : (test : Alg → Bool) → list_all test algs ≡ true → (alg : Alg) → test alg ≡ true
each_alg test all alg =
    All-contains (λ a. test a ≡ true) algs alg (AllPass-from_list_all test algs all) (each_is_listed alg)

pub name_named : (a : Alg) → alg_named (name a) ≡ Some a
name_named = name_is_read_again

pub name_is_text : (a : Alg) → is_alg_text (name a) ≡ true
name_is_text = each_alg (λ a. is_alg_text (name a)) refl

-- what is found passes the test
found_passes : (test : Alg → Bool) (all : List Alg) (found : Alg) → find test all ≡ Some found → test found ≡ true
found_passes test [] found e = cc
found_passes test (first ∷ rest) found e = grind (arith, find, found_passes test rest found)

-- the algorithm of a name has this name
pub alg_named_is : (t : List ℕ) (a : Alg) → alg_named t ≡ Some a → t ≡ name a
alg_named_is t a h = sym ((bytes_eq-Decides (name a) t).0 (found_passes (λ alg. bytes_eq (name alg) t) algs a h))

one_text : (kind : Kind) (a b : List ℕ) → manifest_name kind a ≡ manifest_name kind b → a ≡ b
one_text kind a b e =
    same_alg kind (manifest_name kind a) (a ++ codes ".txt") a b (append_assoc (prefix kind) a (codes ".txt")) refl e

-- two bytes tell the three files and the two kinds of manifests apart
abbrev first : List ℕ → ℕ
first t = get_or t 0 0

abbrev fourth : List ℕ → ℕ
fourth t = get_or t 3 0

pub paths_differ : TagPathsDiffer
paths_differ a b e = grind (arith, names_tell_apart, one_text, name, first, fourth)

-- no tag file's path begins with a d
pub no_tag_begins_so : (path : List ℕ) → slice_get path 0 ≡ Some 100 → (name : TagName) → tag_path name ≢ path
no_tag_begins_so path begins name same = grind arith

pub in_base : TagFilesStandInTheBase
in_base tag_file = grind (arith, each_alg)

-- the manifest of a supported algorithm, at a path that has the form of a manifest's
pub manifest_by : (kind : Kind) (path text : List ℕ) (alg : Alg) → path ≡ manifest_name kind text
    → Some alg ≡ alg_named text → tag_path (Manifest kind alg) ≡ path
manifest_by kind path text alg at e = sym (at ∙ ap (manifest_name kind) (alg_named_is text alg (sym e)))

pub no_manifest_by : (kind : Kind) (path text : List ℕ) → path ≡ manifest_name kind text → None ≡ alg_named text
    → (alg : Alg) → tag_path (Manifest kind alg) ≢ path
no_manifest_by kind path text at e alg same = grind (arith, one_text, name_named)

-- what stands at a path that is none of the three files: the manifest of a kind, or of the other
pub of_kinds : (path : List ℕ) (r o : Option TagName) → false ≡ bytes_eq path (codes "bagit.txt")
    → false ≡ bytes_eq path (codes "bag-info.txt") → false ≡ bytes_eq path (codes "fetch.txt")
    → MatchOption r ((alg : Alg) → tag_path (Manifest Payload alg) ≢ path) (λ name. tag_path name ≡ path)
    → MatchOption o ((alg : Alg) → tag_path (Manifest Tag alg) ≢ path) (λ name. tag_path name ≡ path)
    → MatchOption (option_or r o) ((name : TagName) → tag_path name ≢ path) (λ name. tag_path name ≡ path)
of_kinds path (Some name) o d i f found tag = found
of_kinds path None (Some name) d i f payload found = found
of_kinds path None None d i f payload tag =
    elim [
      | Manifest kind alg ↦ elim kind as (λ k. tag_path (Manifest k alg) ≢ path)
          [ Payload ↦ payload alg | Tag ↦ tag alg ]
      | _ ↦ λ e. grind (arith, bytes_eq-Decides)
    ]
