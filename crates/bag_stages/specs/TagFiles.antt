-- What the tag files of a bag say (RFC 8493, 2.1 and 2.2).
use Rattle.std.specs.Prelude.{ℕ, ◌≡◌, ◌≢◌, true, List, [], Option, Some, None, Contains}
use Rattle.bag_text.specs.Bytes.{Content, Line, Path}
use Rattle.bag_text.specs.Text.{IsNoText}
use Rattle.bag_text.specs.Lines.{lines_of_file}
use Rattle.bag_text.specs.declared.alg.Alg.{Alg}
use Rattle.bag_read.specs.Manifest.{named}
use Rattle.bag_read.specs.ManifestName.{manifest_name, is_alg_text, tag_path}
use Rattle.bag_read.specs.declared.kind.Kind.{Kind}
use Rattle.bag_read.specs.declared.tag_name.TagName.{TagName}
use Rattle.bag_read.specs.declared.tag_name.TagName.TheVariants.{Declaration, Manifest}
use Rattle.bag_tree.specs.Bag.{Bag, file, HasFile}
use Rattle.bag_facts.specs.Facts.{rules_in}

abbrev pub bagit_txt : Path
bagit_txt = tag_path Declaration

-- the manifest of a supported algorithm
abbrev pub manifest_of : Kind → Alg → Path
manifest_of kind alg = tag_path (Manifest kind alg)

abbrev pub lines_or_none : Option Content → List Line
lines_or_none None = []
lines_or_none (Some bytes) = lines_of_file bytes

-- the lines of a file; a file that isn't there has none
abbrev pub lines_in : Bag → Path → List Line
lines_in bag path = lines_or_none (file bag path)

-- a manifest that is there, of any algorithm's name
abbrev pub HasManifest : Bag → Kind → List ℕ → Type 0
HasManifest bag kind alg = (is_alg_text alg ≡ true) × HasFile bag (manifest_name kind alg)

-- the manifest of a supported algorithm is there
abbrev pub HasSupported : Bag → Kind → Alg → Type 0
HasSupported bag kind alg = HasFile bag (manifest_of kind alg)

-- the paths that the manifest's lines name by the bag's rules, in their order
abbrev pub named_in : Bag → Kind → Alg → List Path
named_in bag kind alg = named (rules_in bag) kind alg (lines_in bag (manifest_of kind alg))

-- that manifest names the path
abbrev pub Names : Bag → Kind → Alg → Path → Type 0
Names bag kind alg path = Contains (named_in bag kind alg) path

-- a tag file that is read as lines, but for the declaration
abbrev pub IsReadAsLines : Path → Type 0
IsReadAsLines path = (name : TagName) × (name ≢ Declaration) × (tag_path name ≡ path)

-- such a file that is there and isn't UTF-8
abbrev pub HasNoText : Bag → Path → Type 0
HasNoText bag path =
    IsReadAsLines path × ((bytes : List ℕ) × (file bag path ≡ Some bytes) × IsNoText bytes)
