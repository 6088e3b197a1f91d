-- Files with their digests, and the manifests that name them (RFC 8493, 2.1.3 and 2.2.1).
use Rattle.std.specs.Prelude.{ℕ, ◌≡◌, List, [], ◌∷◌, None, Option, Some, map, ⊤}
use Rattle.bag_text.specs.Bytes.{Content, Path}
use Rattle.bag_text.specs.declared.alg.Alg.{Alg}
use Rattle.bag_text.specs.declared.rules.Rules.{Rules}
use Rattle.bag_text.specs.declared.rules.Rules.TheVariants.{V10}
use Rattle.bag_read.specs.ManifestName.{tag_path}
use Rattle.bag_read.specs.declared.kind.Kind.{Kind}
use Rattle.bag_read.specs.declared.tag_name.TagName.TheVariants.{Manifest}
use Rattle.bag_tree.specs.Digest.{digest}
use Rattle.bag_tree.specs.DigestsOf.{AreSumsOf, sum_at}
use Rattle.bag_tags.specs.Entry.{NewEntry, manifest_text_by}
use Rattle.bag_tags.specs.declared.summed.SummedFile.{SummedFile}

-- a file: its path and its bytes
abbrev pub File : Type 0
File = Path × Content

-- the digest of each file, with its path
abbrev pub entries_of : Alg → List File → List NewEntry
entries_of alg files = map (λ e. (digest alg e.1, e.0)) files

-- the manifest that names these files, in their order, their paths spelled by these rules
abbrev pub manifest_by : Rules → Alg → List File → Content
manifest_by rules alg files = manifest_text_by rules (entries_of alg files)

-- the same by the rules of 1.0
abbrev pub manifest : Alg → List File → Content
manifest alg files = manifest_by V10 alg files

-- the path of a file, and the digests of its bytes
abbrev pub HasItsSums : List Alg → File → SummedFile → Type 0
HasItsSums algs e one = (one.path ≡ e.0) × AreSumsOf algs e.1 one.sums

-- these files in their order, each with its digests
abbrev pub AreSummed : List Alg → List File → List SummedFile → Type 0
AreSummed algs [] [] = ⊤
AreSummed algs (e ∷ files) (one ∷ summed) = HasItsSums algs e one × AreSummed algs files summed
AreSummed algs files summed = ⊥

abbrev pub text_or_none : Option (List ℕ) → List ℕ
text_or_none (Some text) = text
text_or_none None = []

-- what a manifest of an algorithm says of a file
abbrev pub summed_entry : Alg → SummedFile → NewEntry
summed_entry alg one = (text_or_none (sum_at one.sums alg), one.path)

-- the manifests of a kind that give these digests, one for each algorithm
abbrev pub manifests_by : Rules → Kind → List Alg → List SummedFile → List File
manifests_by rules kind algs files =
    map (λ alg.
    (tag_path (Manifest kind alg), manifest_text_by rules (map (summed_entry alg) files))) algs

-- the same by the rules of 1.0
abbrev pub manifests_of : Kind → List Alg → List SummedFile → List File
manifests_of kind algs files = manifests_by V10 kind algs files
