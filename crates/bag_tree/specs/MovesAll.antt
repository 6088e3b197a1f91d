-- Moving all that stands below a place.
use Rattle.std.specs.Prelude.{ℕ, ◌≡◌, false, IsTrue, List, None}
use Rattle.std.specs.FinMap as map
use Rattle.bag_text.specs.Bytes.{Path}
use Rattle.bag_text.specs.Path.{under}
use Rattle.bag_tree.specs.Moved.{is_within, ByPath, moved}

-- what stands neither at nor below one of two paths is as before
abbrev pub KeepsOthers : {V : Type 0} → ByPath V → ByPath V → Path → Path → Type 0
KeepsOthers old new from to = (path : List ℕ) → is_within from path ≡ false
    → is_within to path ≡ false → map.get new path ≡ map.get old path

-- What stood at `from` and below it stands at `to` and below it, nothing stands there any more, and
-- all else stays.
pub record MovesAll {V : Type 0} (old new : ByPath V) (from to : Path) : Type 0 where
  pub arrived : map.get new to ≡ map.get old from
  pub arrived_below : (rest : Path) → map.get new (under to rest) ≡ map.get old (under from rest)
  pub left : (path : Path) → IsTrue (is_within from path) → is_within to path ≡ false
      → map.get new path ≡ None
  pub others : KeepsOthers old new from to

-- the law: that is what a move makes, where nothing stood at `to` or below it
abbrev pub MovedIsThere : Type 0 → Type 0
MovedIsThere V =
    (all : ByPath V) (from to : List ℕ)
    → ((path : List ℕ) → IsTrue (is_within to path) → map.get all path ≡ None)
    → MovesAll all (moved from to all) from to
