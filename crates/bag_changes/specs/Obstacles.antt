-- What keeps a bag without faults from being renewed (RFC 8493, 2).
use Rattle.std.specs.Prelude.{◌≡◌, ◌≢◌, ◌⊎◌, ◌==◌, ◌&&◌, ◌||◌, Bool, true, false, not, IsTrue, List}
use Rattle.std.specs.Prelude.{[], Option, None, Some, Contains, bytes_eq, codes, find, map, nat_eq}
use Rattle.std.specs.Prelude.{if◌then◌else◌}
use Rattle.std.specs.List.{ends_with, list_any, starts_with}
use Rattle.bag_text.specs.Bytes.{Name, Path}
use Rattle.bag_text.specs.Alg.{algs}
use Rattle.bag_text.specs.Path.{is_payload_path, slash}
use Rattle.bag_text.specs.Spelling.{percent}
use Rattle.bag_text.specs.declared.alg.Alg.{Alg}
use Rattle.bag_text.specs.declared.rules.Rules.{Rules}
use Rattle.bag_read.specs.ManifestName.{is_manifest_name, prefix, tag_path}
use Rattle.bag_read.specs.declared.kind.Kind.TheVariants.{Payload, Tag}
use Rattle.bag_read.specs.declared.tag_name.TagName.TheVariants.{Fetch}
use Rattle.bag_facts.specs.FactsOfBag.{IfBagRead, IsByV097, IsFactsOf}
use Rattle.bag_facts.specs.declared.facts.Facts.{Facts}
use Rattle.bag_faults.specs.declared.options.Depth.TheVariants as depth_of
use Rattle.bag_stages.specs.TagFiles.{Names, named_in}
use Rattle.bag_tags.specs.Writable as by_rules
use Rattle.bag_tree.specs.Bag.{Bag, HasFile, LacksFile, files_of, has_folder}
use Rattle.bag_tree.specs.Tree.{MayReportMemory, TreeState}
use Rattle.bag_changes.specs.Folders.{IsRefusedLook}
use Rattle.bag_renewed.specs.Renewed.{begun_file, is_kept_alg, keeps, new_algs, new_rules}
use Rattle.bag_renewed.specs.Renewed.{writes_payload_manifest}
use Rattle.bag_changes.specs.Reserved.{IsOutOfTheWay, reserved_names}
use Rattle.bag_changes.specs.Telling.{AreNameable, AreStillListed}
use Rattle.bag_changes.specs.declared.fault.RenewFault.{RenewFault}
use Rattle.bag_changes.specs.declared.fault.RenewFault.TheVariants as why
use Rattle.bag_renewed.specs.declared.renewal.Renewal.{Renewal}

-- a tag manifest names the path
abbrev pub IsNamedAsTag : Bag → Path → Type 0
IsNamedAsTag bag path = (alg : Alg) × Names bag Tag alg path

-- A reserved name that a folder has, be it empty; or that of a begun file, where a tag manifest
-- names it: so it's a user's own, and not what a renewal that was cut off has begun.
abbrev pub IsInTheWay : Bag → Name → Type 0
IsInTheWay bag name =
    (Contains reserved_names name × (has_folder bag name ≡ true))
    ⊎ ((name ≡ begun_file) × IsNamedAsTag bag begun_file)

abbrev pub has_percent : Path → Bool
has_percent path = list_any (λ c. c == percent) path

-- a path that no line of a manifest names by these rules; or, where nothing is kept, one with a %
abbrev pub is_unnameable_by : Rules → Bool → Path → Bool
is_unnameable_by rules is_kept path =
    by_rules.is_unnameable rules path || (not is_kept && has_percent path)

-- a path that no line of a new manifest names; or, of a bag of 0.97 that becomes one of 1.0, which
-- spells it otherwise, one with a %
abbrev pub is_unnameable : Bag → Renewal → Path → Bool
is_unnameable bag renewal path =
    is_unnameable_by (new_rules bag renewal) (keeps bag renewal) path

abbrev pub paths_of : Bag → List Path
paths_of bag = map (λ e. e.0) (files_of bag)

-- the first of them in path order, if any
abbrev pub first_unnameable : Bag → Renewal → Option Path
first_unnameable bag renewal = find (is_unnameable bag renewal) (paths_of bag)

-- the payload manifest of an algorithm is kept, and names the path
unfoldable pub keeps_naming : Bag → Renewal → Path → Alg → Bool
keeps_naming bag renewal path alg =
    is_kept_alg bag renewal alg && list_any (bytes_eq path) (named_in bag Payload alg)

-- a payload manifest that is kept names the path
unfoldable pub is_named_by_kept : Bag → Renewal → Path → Bool
is_named_by_kept bag renewal path = list_any (keeps_naming bag renewal path) algs

-- a file of the payload that none of them names
unfoldable pub is_unlisted : Bag → Renewal → Path → Bool
is_unlisted bag renewal path =
    is_payload_path path && not (is_named_by_kept bag renewal path)

-- the first of them in path order, if any, where no payload manifest is written
abbrev pub first_unlisted : Bag → Renewal → Option Path
first_unlisted bag renewal =
    if writes_payload_manifest bag renewal then None
    else find (is_unlisted bag renewal) (paths_of bag)

-- A file of the base folder with the name of a tag manifest, but for its algorithm, which no
-- manifest's name can have, as `tagmanifest-sha3_256.txt`. A renewal can't write it anew, and changes
-- tag files whose digests it may give.
abbrev pub is_other_tag_manifest : Path → Bool
is_other_tag_manifest path =
    starts_with nat_eq path (prefix Tag) && ends_with nat_eq path (codes ".txt")
    && not (list_any (λ c. c == slash) path) && not (is_manifest_name Tag path)

-- the first of them in path order, if any
abbrev pub first_outdated : Bag → Option Path
first_outdated bag = find is_other_tag_manifest (paths_of bag)

-- an algorithm is left; a bag of 0.97 that becomes one of 1.0 fetches nothing; what has the name of
-- a begun file is one; and no file that stays would be out of date
pub record IsFreeToChange (bag : Bag) (renewal : Renewal) : Type 0 where
  pub fetch : (keeps bag renewal ≡ true) ⊎ LacksFile bag (tag_path Fetch)
  pub some_alg : new_algs bag renewal ≢ []
  pub own : ¬ (IsNamedAsTag bag begun_file)
  pub none_outdated : first_outdated bag ≡ None

-- no path of the bag has a %
abbrev pub HasNoPercent : Bag → Type 0
HasNoPercent bag = (path : Path) → HasFile bag path → has_percent path ≡ false

-- manifests of the renewed bag can name its files, and name its payload
pub record CanNameFiles (bag : Bag) (renewal : Renewal) : Type 0 where
  pub nameable : AreNameable (new_rules bag renewal) bag
  pub spelled : (keeps bag renewal ≡ true) ⊎ HasNoPercent bag
  pub listed : AreStillListed bag renewal

-- nothing keeps the bag from being renewed
pub record HasNoObstacle (bag : Bag) (renewal : Renewal) : Type 0 where
  pub free : IsFreeToChange bag renewal
  pub way : IsOutOfTheWay bag
  pub names : CanNameFiles bag renewal

-- of an honest tree's bag, where these are its facts, which were read beyond the declaration
abbrev pub IfOwn : Facts → TreeState → Type 0 → Type 0
IfOwn facts state IsSo =
    IsTrue state.honest → IsFactsOf state.bag facts → facts.options.depth ≢ depth_of.Declaration
    → IsSo

-- the fault is one for which the bag isn't renewed, though it may have no fault itself; memory may
-- run out at any bag
abbrev pub IsObstacle : Bag → Renewal → RenewFault → Type 0
IsObstacle bag renewal why.Fetch = (keeps bag renewal ≡ false) × HasFile bag (tag_path Fetch)
IsObstacle bag renewal why.NoAlgorithm = new_algs bag renewal ≡ []
IsObstacle bag renewal (why.InTheWay name) = IsInTheWay bag name
IsObstacle bag renewal (why.Unnameable path) = first_unnameable bag renewal ≡ Some path
IsObstacle bag renewal (why.Outdated path) = first_outdated bag ≡ Some path
IsObstacle bag renewal (why.Unlisted path) =
    IsByV097 bag × (first_unlisted bag renewal ≡ Some path)
IsObstacle bag renewal why.Memory = Unit {0}
IsObstacle bag renewal fault = ⊥

-- An obstacle was found: a folder, of an honest tree's own bag, or one that the facts tell; or a
-- look was refused, or memory ran out.
abbrev pub IsHindered : Facts → Renewal → TreeState → TreeState → RenewFault → Type 0
IsHindered facts renewal old new (why.InTheWay name) =
    IfOwn facts old (IsInTheWay old.bag name)
IsHindered facts renewal old new (why.ReadStopped stop) =
    IfBagRead facts (λ bag. IsRefusedLook reserved_names old new stop)
IsHindered facts renewal old new why.Memory = MayReportMemory old new
IsHindered facts renewal old new fault = IfBagRead facts (λ bag. IsObstacle bag renewal fault)
