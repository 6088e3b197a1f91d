-- The payload manifests of further algorithms.
use Rattle.std.specs.Prelude.{ℕ, ◌≡◌, ◌++◌, All, Bool, IsTrue, List, Some, map, true}
use Rattle.std.specs.List.Sorted.{IsStrictlySortedBy}
use Rattle.std.specs.Option.{option_map}
use Rattle.bag_text.specs.Bytes.{Path}
use Rattle.bag_text.specs.Text.{text_cmp}
use Rattle.bag_text.specs.declared.alg.Alg.{Alg}
use Rattle.bag_text.specs.declared.rules.Rules.{Rules}
use Rattle.bag_read.specs.ManifestName.{tag_path}
use Rattle.bag_read.specs.declared.kind.Kind.TheVariants.{Payload}
use Rattle.bag_read.specs.declared.tag_name.TagName.TheVariants.{Manifest}
use Rattle.bag_facts.specs.Facts.{rules_in}
use Rattle.bag_facts.specs.FactsOfBag.{IsFactsOf}
use Rattle.bag_facts.specs.Given.{AreTagFiles}
use Rattle.bag_facts.specs.Wanted.{IsWanted, paths_of}
use Rattle.bag_facts.specs.declared.facts.Facts.{Facts}
use Rattle.bag_report.specs.Valid.{IsFaultOf, full}
use Rattle.bag_tree.specs.Bag.{Bag, IsBag, files_of}
use Rattle.bag_tree.specs.Tree.{TreeState}
use Rattle.bag_checked.specs.Compared.{AreCompared}
use Rattle.bag_checked.specs.FirstFaults.{HasNoneBefore, IsFirst}
use Rattle.bag_tags.specs.Summed.{File, manifest_by}
use Rattle.bag_checked.specs.Summed.{AreChecked, files_to_read, payload_of, to_read}
use Rattle.bag_checked.specs.declared.checked.Unchecked.{Unchecked}
use Rattle.bag_checked.specs.declared.checked.Unchecked.TheVariants.{Faulty, Stopped}
use Rattle.bag_tags.specs.declared.summed.SummedFile.{SummedFile}

-- the payload manifests that name these files of the payload, one for each algorithm, written by
-- these rules
abbrev pub manifests_for : Rules → List Alg → List File → List File
manifests_for rules algs payload =
    map (λ alg. (tag_path (Manifest Payload alg), manifest_by rules alg payload)) algs

-- the tag files that are read were opened, each once, and then once each file of the bag that is to
-- be read
abbrev pub OpensRead : Bool → TreeState → TreeState → Type 0
OpensRead with_payload old new =
    (tags : List (List ℕ)) × IsStrictlySortedBy text_cmp tags × All (IsWanted full) tags
    × (new.openings
    ≡ (old.openings ++ tags) ++ map (λ e. e.0) (files_to_read with_payload (files_of old.bag)))

-- Over any tree: these manifests give the digests of the very bytes that the tree gave of the files
-- that it listed, and of which the digests were compared that its manifests, as it gave them first,
-- give. They are written by the rules of the bag that has these tag files.
pub record AreOfSameBytes (algs : List Alg) (old new : TreeState) (made : List File) : Type 0 where
  pub bag : Bag
  pub files : List File
  pub compared : AreCompared bag true files old new
  pub made_of : made ≡ manifests_for (rules_in bag) algs (payload_of files)

-- All was read and checked: the tag files, of what they say no fault of stages 1 to 6 was found, and
-- each listed file that is to be read, which has the digests that manifests give for it. Over any
-- tree this is what it gave, and of an honest one it is of its bag.
pub record HasChecked (facts : Facts) (with_payload : Bool) (algs : List Alg) (old new : TreeState)
    (summed : List SummedFile) (info : List ℕ) : Type 0 where
  pub options : facts.options ≡ full
  pub bag : Bag
  pub is_bag : IsBag bag
  pub of_it : IsFactsOf bag facts
  pub listed : option_map (λ listing. listing.files) new.listed ≡ Some facts.listing.files
  pub given : List File
  pub given_are : AreTagFiles full bag given
  pub none : HasNoneBefore facts 7
  pub tags : List Path
  pub ascend : IsStrictlySortedBy text_cmp tags
  pub wanted : All (IsWanted full) tags
  pub opened : new.openings
      ≡ (old.openings ++ tags) ++ paths_of (to_read with_payload facts.listing.files)
  pub of_bag : IsTrue old.honest → IsFactsOf old.bag facts
  pub checked : AreChecked old facts (to_read with_payload facts.listing.files) algs summed info
  pub gave : new.gave ≡ (old.gave ++ given) ++ checked.files

-- the rules of each bag whose facts these are
abbrev pub AreRulesOf : Facts → Rules → Type 0
AreRulesOf facts rules = (bag : Bag) → IsFactsOf bag facts → rules ≡ rules_in bag

-- so it was with all listed files, and these are the rules
abbrev pub HasCheckedAll : Rules → List Alg → TreeState → TreeState → List SummedFile → Type 0
HasCheckedAll rules algs old new summed =
    (facts : Facts) × (info : List ℕ) × HasChecked facts true algs old new summed info
    × AreRulesOf facts rules

-- This is the bag's first fault; or the tree refused to list its files or to read one, or memory ran
-- out.
abbrev pub IsRefusedFor : Bag → Unchecked → Type 0
IsRefusedFor bag (Stopped stop) = Unit {0}
IsRefusedFor bag (Faulty fault) = IsFirst (IsFaultOf bag) fault
