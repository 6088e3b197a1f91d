-- What a profile's lists say of a name, and which files its patterns are asked of (BagIt Profiles
-- Specification).
use Rattle.std.specs.Prelude.{ℕ, ◌≡◌, ◌≢◌, true, false, List, Some, Contains}
use Rattle.bag_text.specs.Bytes.{Path}
use Rattle.bag_text.specs.Path.{is_payload_path}
use Rattle.bag_read.specs.ManifestName.{manifest_name, is_alg_text, tag_path}
use Rattle.bag_read.specs.declared.kind.Kind.{Kind}
use Rattle.bag_read.specs.declared.tag_name.TagName.TheVariants.{Declaration, Info, Fetch}
use Rattle.bag_profile.specs.Pattern.{matches}
use Rattle.bag_profile.specs.Profile.{Profile, names}
use Rattle.bag_profile.specs.declared.rule.ListRule.{ListRule}

-- the list is there and has the name
abbrev pub Lists : Profile → ListRule → List ℕ → Type 0
Lists profile rule name =
    (listed : List (List ℕ)) × (names profile rule ≡ Some listed) × Contains listed name

-- the list is there and lacks the name: an empty list allows none, and a list that is absent all
abbrev pub Excludes : Profile → ListRule → List ℕ → Type 0
Excludes profile rule name =
    (listed : List (List ℕ)) × (names profile rule ≡ Some listed) × ¬ (Contains listed name)

-- the list of patterns is there, and none of them matches the name
abbrev pub MatchesNone : Profile → ListRule → List ℕ → Type 0
MatchesNone profile rule name =
    (patterns : List (List ℕ)) × (names profile rule ≡ Some patterns)
    × ((pattern : List ℕ) → Contains patterns pattern → matches pattern name ≡ false)

-- a tag file of which other rules don't speak: neither bagit.txt, bag-info.txt or fetch.txt, nor a
-- manifest of any algorithm
pub record IsFreeTagFile (path : Path) : Type 0 where
  pub outside_payload : is_payload_path path ≡ false
  pub no_declaration : path ≢ tag_path Declaration
  pub no_info : path ≢ tag_path Info
  pub no_fetch : path ≢ tag_path Fetch
  pub no_manifest : (kind : Kind) (alg : List ℕ) → is_alg_text alg ≡ true
      → path ≢ manifest_name kind alg
