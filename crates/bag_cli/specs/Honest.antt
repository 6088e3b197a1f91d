-- What is reported of an honest folder.
use Rattle.std.specs.Prelude.{ℕ, ◌≡◌, ◌⊎◌, Bool, IsTrue, List, [], if◌then◌else◌}
use Rattle.std.specs.Io.KnownBytes.{Appends}
use Rattle.std.specs.declared.result.Result.TheVariants.{Ok}
use Rattle.bag_text.specs.declared.alg.Alg.{Alg}
use Rattle.bag_tree.specs.Out.{OutState}
use Rattle.bag_tree.specs.Cut.{LeavesOnly}
use Rattle.bag_tree.specs.Tree.{TreeState}
use Rattle.bag_tags.specs.Element.{NewElement}
use Rattle.bag_report.specs.Valid.{HasNoFault}
use Rattle.bag_make.specs.Made as bag
use Rattle.bag_make.specs.Make.{HasKnownSize, Leaves, MayRefuseMaking}
use Rattle.bag_make.specs.PowerCut.{OutlastsCuts}
use Rattle.bag_make.specs.declared.fault.MakeFault.{MakeFault}
use Rattle.bag_cli.specs.Making.{IsMaking}
use Rattle.bag_cli.specs.MakingLine.{made_line, not_made_line, reason}

-- The bag was made, and has no fault where its size can be known. On a device that notes what it
-- does, a power cut now leaves it and nothing else, if the folder was durable before. That was
-- said, but for a quiet making.
pub record IsReportedMade (name : List ℕ) (algs : List Alg) (info : List NewElement) (quiet : Bool)
    (old new : TreeState) (before after : OutState) (n : ℕ) : Type 0 where
  pub status : n ≡ 0
  pub made_bag : new.bag ≡ bag.made old.bag algs info
  pub valid : HasKnownSize old.bag → HasNoFault new.bag
  pub any_moment : OutlastsCuts old new
  pub lasting : IsTrue old.noted → LeavesOnly old.trail new.trail old.bag new.bag
  pub said : Appends before.taken after.taken (made_line name quiet)

-- The bag wasn't made. The reason was said, which comes only where it is so, and tells what is
-- left.
pub record IsReportedNotMade (name : List ℕ) (algs : List Alg) (info : List NewElement)
    (old new : TreeState) (before after : OutState) (n : ℕ) : Type 0 where
  pub status : n ≡ 3
  pub fault : MakeFault
  pub refused : MayRefuseMaking algs info old new fault
  pub left : Leaves algs info old.bag new.bag fault
  pub any_moment : OutlastsCuts old new
  pub said : Appends before.taken after.taken (not_made_line name (reason fault))

-- the law: of an honest folder, where the output didn't refuse, one of the two
abbrev pub HonestFoldersAreReported : Type 0
HonestFoldersAreReported =
    (name : List ℕ) (algs : List Alg) (info : List NewElement) (quiet : Bool)
    (old new : TreeState) (before after : OutState) (n : ℕ) → IsTrue old.honest
    → IsMaking name algs info quiet old new before after (Ok n)
    → IsReportedMade name algs info quiet old new before after n
    ⊎ IsReportedNotMade name algs info old new before after n
