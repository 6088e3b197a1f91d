-- What the facts of a bag are, as they are read.
use Rattle.std.specs.Prelude.{◌≡◌, ◌≢◌, ◌⊎◌, ℕ, List, [], ◌∷◌, true, Some, Any, Contains, map, ⊤}
use Rattle.bag_text.specs.Text.{text_cmp}
use Rattle.bag_text.specs.Order.{IsListOf}
use Rattle.bag_text.specs.Path.{is_payload_path}
use Rattle.bag_text.specs.Rules.{rules_of}
use Rattle.bag_text.specs.declared.rules.Rules.{Rules}
use Rattle.bag_text.specs.declared.rules.Rules.TheVariants.{V10, V097}
use Rattle.bag_read.specs.Declaration.{declared_version}
use Rattle.bag_read.specs.declared.tag_name.TagName.TheVariants.{Declaration}
use Rattle.bag_tree.specs.Bag.{Bag, file, HasFile}
use Rattle.bag_tree.specs.Listing.{IsOrdered, IsListingOf}
use Rattle.bag_tree.specs.declared.listing.FileEntry.{FileEntry}
use Rattle.bag_tree.specs.declared.listing.Listing.{Listing}
use Rattle.bag_facts.specs.TagFacts.{path_of, SaysOfTagFile, IsParsed}
use Rattle.bag_facts.specs.Wanted.{IsWanted}
use Rattle.bag_facts.specs.declared.facts.Facts.{Facts}
use Rattle.bag_faults.specs.declared.options.Depth.TheVariants as depth_of
use Rattle.bag_facts.specs.declared.tag_facts.TagFacts.{TagFacts}
use Rattle.bag_facts.specs.declared.tag_reader.TagBytes.{TagBytes}
use Rattle.bag_facts.specs.Facts.{rules_in}

-- what is known of tag files, one for each that was read, is what their bytes say by the rules
abbrev pub AreParsed : Rules → List TagBytes → List TagFacts → Type 0
AreParsed rules [] [] = ⊤
AreParsed rules (file ∷ read) (tag ∷ tags) = IsParsed rules file tag × AreParsed rules read tags
AreParsed rules [] (tag ∷ tags) = ⊥
AreParsed rules (file ∷ read) [] = ⊥

-- the rules that the declaration among files that were read gives, and those of 1.0 where it isn't
-- among them
abbrev pub AreRulesOf : List TagBytes → Rules → Type 0
AreRulesOf read rules =
    ((¬ (Any (λ file. file.name ≡ Declaration) read)) × (rules ≡ V10))
    ⊎ ((file : TagBytes) × Contains read file × (file.name ≡ Declaration)
    × (rules ≡ rules_of (declared_version file.bytes.items)))

-- so it is by the rules that they give themselves
abbrev pub AreJudged : List TagBytes → List TagFacts → Type 0
AreJudged read tags = (rules : Rules) × AreRulesOf read rules × AreParsed rules read tags

-- what is known of a tag file is what its bytes in the bag say, by the bag's rules
abbrev pub IsSaidOfTagFile : Bag → TagFacts → Type 0
IsSaidOfTagFile bag tag =
    (bytes : List ℕ) × (file bag (path_of tag) ≡ Some bytes)
    × SaysOfTagFile (rules_in bag) bytes tag

-- The facts are those of the bag: the listing is its files, and the tags are exactly the wanted tag
-- files that are there, in path order, each with what its bytes say.
pub record IsFactsOf (bag : Bag) (facts : Facts) : Type 0 where
  pub ordered : IsOrdered facts.listing.files
  pub listing : IsListingOf bag facts.listing
  pub tags : IsListOf text_cmp (λ path. IsWanted facts.options path × HasFile bag path)
      (map path_of facts.tags)
  pub said : (tag : TagFacts) → Contains facts.tags tag → IsSaidOfTagFile bag tag

-- of facts that were read beyond the declaration: this holds of each bag whose facts they are
abbrev pub IfBagRead : Facts → (Bag → Type 0) → Type 0
IfBagRead facts IsSo =
    (bag : Bag) → IsFactsOf bag facts → facts.options.depth ≢ depth_of.Declaration → IsSo bag

-- a payload file is listed only where the payload folder is
abbrev pub HasItsFolder : Listing → Type 0
HasItsFolder listing =
    (entry : FileEntry) → Contains listing.files entry → is_payload_path entry.path ≡ true
    → listing.has_data ≡ true

-- a bag is judged by the rules of 0.97
abbrev pub IsByV097 : Bag → Type 0
IsByV097 bag = rules_in bag ≡ V097
