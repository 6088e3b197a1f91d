-- What was read is what is known of a bag.
use Rattle.bag_facts.proofs.Common.{arith, ◌≡◌, List, map, length, Some, sym, ap, ◌∙◌, subst, Contains, text_cmp}
use Rattle.bag_facts.proofs.Common.{IsListOf, same_members, tag_path, Bag, IsBag, file, HasFile, IsOrdered}
use Rattle.bag_facts.proofs.Common.{HasItsFolder, IsListingOf, size_at, TreeState, Keeps, FileEntry, Listing, AreJudged}
use Rattle.bag_facts.proofs.Common.{IsFactsOf, SaysOfTagFile, PathsAreTexts, IsWhole, read_path, IsWanted, AreWanted}
use Rattle.bag_facts.proofs.Common.{paths_of, Facts, Options, TagBytes, IsTrue, ◌++◌, given_of, option_map}
use Rattle.bag_facts.proofs.Common.{AreFilesOfBag}
use Rattle.bag_facts.proofs.GivenTags.{are_tag_files}
use Rattle.bag_facts.specs.Given.{GivesTagFiles}
use Rattle.bag_facts.proofs.ListedFiles.{file_listed, listed_file}
use Rattle.bag_facts.proofs.Parsed.{same_paths, parsed_from}
use Rattle.bag_facts.proofs.RulesRead.{rules_known}
use Rattle.bag_facts.proofs.Seen.{seen_bag, listing_seen, read_seen}
use Rattle.bag_facts.proofs.SeenBag.{seen_is_bag}

pub known : (bag : Bag) (facts : Facts) (read : List TagBytes) → IsOrdered facts.listing.files
    → IsListingOf bag facts.listing → AreJudged read facts.tags
    → AreWanted facts.options facts.listing.files (map read_path read)
    → ((one : TagBytes) → Contains read one → file bag (read_path one) ≡ Some one.bytes.items) → IsFactsOf bag facts
known bag facts read ordered listing judged wanted are =
    let files = facts.listing.files in
    let rules = judged.0 in
    let parsed = judged.2 in record {
      ordered = ordered;
      listing = listing;
      tags =
          subst (IsListOf text_cmp (λ path. IsWanted facts.options path × HasFile bag path))
          (sym (same_paths rules read facts.tags parsed))
          (same_members text_cmp (λ path. IsWanted facts.options path × Contains (paths_of files) path) _
          (map read_path read)
          (λ path h. (h.0, listed_file bag files path listing.files h.1))
          (λ path h. (h.0, file_listed bag files path listing.files h.1)) wanted);
      said = λ tag c.
          let from = parsed_from rules read facts.tags tag parsed c in (
            from.0.bytes.items,
            ap (λ name. file bag (tag_path name)) from.2.name ∙ are from.0 from.1,
            subst (λ by. SaysOfTagFile by from.0.bytes.items tag)
                (rules_known bag facts.options files read listing.files wanted are rules judged.1) from.2.says,
          );
    }

-- the same, where the facts were made of these options and this listing
module _ (facts : Facts) (options : Options) (listing : Listing) (files : List FileEntry) (read : List TagBytes)
    (options_are : facts.options ≡ options) (listing_is : facts.listing ≡ listing)
    (files_are : files ≡ listing.files) (ordered : IsOrdered listing.files) (judged : AreJudged read facts.tags)
    (wanted : AreWanted options files (map read_path read)) where
  pub known_of : (bag : Bag) → IsListingOf bag listing
      → ((one : TagBytes) → Contains read one → file bag (read_path one) ≡ Some one.bytes.items) → IsFactsOf bag facts
  known_of bag listed are = grind (arith, known)

  -- over an honest tree they are of its bag
  pub known_honest : (old mid : TreeState) → Keeps old mid → (IsTrue old.honest → IsListingOf old.bag listing)
      → ((one : TagBytes) → Contains read one → IsWhole files mid one)
      → IsTrue old.honest → IsFactsOf old.bag facts
  known_honest old mid k listed whole honest = grind (arith, known_of)

  module _ (mid : TreeState) (needs : HasItsFolder listing) (texts : PathsAreTexts files)
      (whole : (one : TagBytes) → Contains read one → IsWhole files mid one) where
    sizes : (one : TagBytes) → Contains read one
        → size_at listing.files (read_path one) ≡ Some (length one.bytes.items)
    sizes one c =
        subst (λ some. size_at some (read_path one) ≡ Some (length one.bytes.items)) files_are (whole one c).size

    listed : IsListingOf (seen_bag read listing) listing
    listed = listing_seen read listing ordered.ascending sizes ordered needs

    held : (one : TagBytes) → Contains read one → file (seen_bag read listing) (read_path one) ≡ Some one.bytes.items
    held = read_seen read listing ordered.ascending sizes wanted.ascending

    is_bag : IsBag (seen_bag read listing)
    is_bag =
        seen_is_bag read (λ one c. (whole one c).are_bytes) listing ordered (subst PathsAreTexts files_are texts) listed

    -- over any tree they are of some bag
    pub known_seen : (bag : Bag) × IsBag bag × IsFactsOf bag facts
    known_seen = (seen_bag read listing, is_bag, known_of (seen_bag read listing) listed held)

    -- of which the tree listed the files, and gave the tag files
    pub known_given : (old new : TreeState) (first : Listing) → mid.listed ≡ Some first
        → listing.files ≡ first.files → new.listed ≡ mid.listed → mid.gave ≡ old.gave
        → new.gave ≡ mid.gave ++ map given_of read
        → (bag : Bag) × IsBag bag × IsFactsOf bag facts × GivesTagFiles options bag facts.listing.files old new
    known_given old new first was same still none gave = (
      seen_bag read listing,
      is_bag,
      known_of (seen_bag read listing) listed held,
      record {
        listed =
            ap (option_map (λ (l : Listing). l.files)) (still ∙ was) ∙ ap Some (sym same)
            ∙ ap (λ (l : Listing). Some l.files) (sym listing_is);
        tags = map given_of read;
        tags_are = are_tag_files (seen_bag read listing) options files read
            (subst (AreFilesOfBag (seen_bag read listing)) (sym files_are) listed.files) wanted held;
        gave = gave ∙ ap (λ before. before ++ map given_of read) none;
      },
    )
