-- What is known of one tag file is what its bytes say.
use Rattle.std.specs.Prelude.{◌≡◌, Bool, List, [], Option, None, Some, map, ⊤}
use Rattle.std.specs.List.Sorted.{IsStrictlySortedBy}
use Rattle.std.specs.Ordering.{nat_cmp, on}
use Rattle.std.specs.Str.{is_utf8}
use Rattle.bag_text.specs.Bytes.{Content, Path}
use Rattle.bag_text.specs.Text.{text_cmp}
use Rattle.bag_text.specs.Lines.{lines_of_file}
use Rattle.bag_text.specs.Order.{IsListOf}
use Rattle.bag_text.specs.declared.rules.Rules.{Rules}
use Rattle.bag_text.specs.declared.alg.Alg.{Alg}
use Rattle.bag_read.specs.Declaration.{declared_version, declared_encoding, IsDeclarationFault}
use Rattle.bag_read.specs.Fetch.{IsFetch, IsFetchFault}
use Rattle.bag_read.specs.Info.{IsElement, IsInfoFault}
use Rattle.bag_read.specs.LineFault.{AreFaults}
use Rattle.bag_read.specs.Manifest.{IsEntry, IsManifestFault}
use Rattle.bag_read.specs.ManifestName.{tag_path}
use Rattle.bag_read.specs.declared.declaration.Declaration.{Declaration}
use Rattle.bag_read.specs.declared.kind.Kind.{Kind}
use Rattle.bag_entries.specs.declared.entry.ManifestEntry.{ManifestEntry}
use Rattle.bag_read.specs.declared.tag_name.TagName.{TagName}
use Rattle.bag_read.specs.declared.tag_name.TagName.TheVariants as name
use Rattle.bag_facts.specs.declared.tag_facts.FetchList.{FetchList}
use Rattle.bag_facts.specs.declared.tag_facts.Manifest.{Manifest}
use Rattle.bag_facts.specs.declared.tag_facts.Metadata.{Metadata}
use Rattle.bag_facts.specs.declared.tag_facts.TagFacts.{TagFacts}
use Rattle.bag_facts.specs.declared.tag_facts.TagFacts.TheVariants as facts
use Rattle.bag_facts.specs.declared.tag_reader.TagBytes.{TagBytes}

-- a declaration is what these bytes declare
pub record IsDeclarationOf (bytes : Content) (declaration : Declaration) : Type 0 where
  pub version : declaration.version ≡ declared_version bytes
  pub encoding : declaration.encoding ≡ declared_encoding bytes
  pub faults : AreFaults (IsDeclarationFault bytes) declaration.faults

-- what is known of the metadata is what these bytes say by the rules
pub record IsMetadataOf (rules : Rules) (bytes : Content) (metadata : Metadata) : Type 0 where
  pub text : metadata.is_text ≡ is_utf8 bytes
  pub elements : IsListOf (on (λ e. e.line) nat_cmp) (IsElement rules (lines_of_file bytes))
      metadata.elements
  pub faults : AreFaults (IsInfoFault rules bytes) metadata.faults

-- what is known of the list of files to fetch is what these bytes say by the rules
pub record IsFetchListOf (rules : Rules) (bytes : Content) (list : FetchList) : Type 0 where
  pub text : list.is_text ≡ is_utf8 bytes
  pub entries : IsListOf (on (λ e. e.line) nat_cmp) (IsFetch rules (lines_of_file bytes))
      list.entries
  pub faults : AreFaults (IsFetchFault rules bytes) list.faults

-- what is known of a manifest is what its bytes say by the rules
pub record IsManifestOf (rules : Rules) (bytes : Content) (manifest : Manifest) : Type 0 where
  pub text : manifest.is_text ≡ is_utf8 bytes
  pub entries : IsListOf (on (λ e. e.path) text_cmp)
      (IsEntry rules manifest.kind manifest.alg (lines_of_file bytes)) manifest.entries
  pub faults : AreFaults (IsManifestFault rules manifest.kind manifest.alg bytes) manifest.faults

-- the tag file that it is
abbrev pub name_of : TagFacts → TagName
name_of (facts.Declaration declaration) = name.Declaration
name_of (facts.Info metadata) = name.Info
name_of (facts.Fetch list) = name.Fetch
name_of (facts.Manifest manifest) = name.Manifest manifest.kind manifest.alg

-- the path at which it stands
abbrev pub path_of : TagFacts → Path
path_of tag = tag_path (name_of tag)

-- the bytes say what is known, by the rules; the declaration is read alike by all rules
abbrev pub SaysOfTagFile : Rules → Content → TagFacts → Type 0
SaysOfTagFile rules bytes (facts.Declaration declaration) = IsDeclarationOf bytes declaration
SaysOfTagFile rules bytes (facts.Info metadata) = IsMetadataOf rules bytes metadata
SaysOfTagFile rules bytes (facts.Fetch list) = IsFetchListOf rules bytes list
SaysOfTagFile rules bytes (facts.Manifest manifest) = IsManifestOf rules bytes manifest

-- what is known of a tag file that was read is what its bytes say
pub record IsParsed (rules : Rules) (file : TagBytes) (tag : TagFacts) : Type 0 where
  pub name : name_of tag ≡ file.name
  pub says : SaysOfTagFile rules file.bytes.items tag

-- whether it is UTF-8, but for the declaration, which its faults report
abbrev pub text_test : TagFacts → Option Bool
text_test (facts.Declaration declaration) = None
text_test (facts.Info metadata) = Some metadata.is_text
text_test (facts.Fetch list) = Some list.is_text
text_test (facts.Manifest manifest) = Some manifest.is_text

-- what was read of a file is what its bytes say, and nothing was read where it isn't there
abbrev pub IsReadOf : {A : Type 0} → (Content → A → Type 0) → Option Content → Option A → Type 0
IsReadOf IsOf None None = ⊤
IsReadOf IsOf (Some bytes) (Some x) = IsOf bytes x
IsReadOf IsOf None (Some x) = ⊥
IsReadOf IsOf (Some bytes) None = ⊥

-- what is known of this tag file is what its bytes say
abbrev pub IsTagFileNamed : Rules → TagName → Content → TagFacts → Type 0
IsTagFileNamed rules name bytes tag = SaysOfTagFile rules bytes tag × (name_of tag ≡ name)

-- the manifest of this kind and algorithm, and what is known of it is what its bytes say
abbrev pub IsManifestNamed : Rules → Kind → Alg → Content → Manifest → Type 0
IsManifestNamed rules kind alg bytes manifest =
    IsManifestOf rules bytes manifest × (manifest.kind ≡ kind) × (manifest.alg ≡ alg)

-- the paths of entries
abbrev pub entry_paths : List ManifestEntry → List Path
entry_paths entries = map (λ entry. entry.path) entries

-- entries in the order of their paths, each path once
abbrev pub AreByPath : List ManifestEntry → Type 0
AreByPath entries = IsStrictlySortedBy (on (λ entry. entry.path) text_cmp) entries

-- these are the entries of a manifest with these bytes, in the order of their paths; none where it
-- isn't there
abbrev pub AreEntriesOf : Rules → Kind → Alg → Option Content → List ManifestEntry → Type 0
AreEntriesOf rules kind alg None entries = entries ≡ []
AreEntriesOf rules kind alg (Some bytes) entries =
    IsListOf (on (λ entry. entry.path) text_cmp) (IsEntry rules kind alg (lines_of_file bytes))
    entries
