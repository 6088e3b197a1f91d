-- Which payload files segments open.
use Rattle.std.specs.Prelude.{ℕ, ◌≡◌, ◌≤◌, ◌+◌, ◌-◌, ◌*◌, ◌++◌, true, List, Option, Contains}
use Rattle.std.specs.Prelude.{drop, filter, length, not}
use Rattle.bag_text.specs.Bytes.{Path}
use Rattle.bag_text.specs.Order.{IsListOf}
use Rattle.bag_text.specs.Path.{is_payload_path}
use Rattle.bag_text.specs.Text.{text_cmp}
use Rattle.bag_tree.specs.Bag.{Bag, HasFile}
use Rattle.bag_tree.specs.Tree.{TreeState}
use Rattle.bag_faults.specs.declared.fault.Fault.{Fault}
use Rattle.bag_faults.specs.declared.options.Depth.TheVariants.{Full}
use Rattle.bag_faults.specs.declared.options.Options.{Options}
use Rattle.bag_stages.specs.LeftOut.{IsNamedBySome}
use Rattle.bag_walk.specs.LastLine.{cursor_after}
use Rattle.bag_sources.specs.Openings.{NoFaultBefore, is_passed}
use Rattle.bag_walk.specs.SegmentEnds.{still_to_come}
use Rattle.bag_walk.specs.declared.segment.Segment.{Segment}

-- A payload file whose digests are compared: at depth Full one that is there and that a payload
-- manifest names (RFC 8493, 2.1.3).
abbrev pub IsComparedFile : Options → Bag → Path → Type 0
IsComparedFile options bag path =
    (options.depth ≡ Full) × (is_payload_path path ≡ true) × HasFile bag path
    × IsNamedBySome bag path

-- these files, in path order
abbrev pub AreCompared : Options → Bag → List Path → Type 0
AreCompared options bag compared = IsListOf text_cmp (IsComparedFile options bag) compared

-- the law: every bag has a list of these files, whatever is asked for
abbrev pub EachBagHasComparedFiles : Type 0
EachBagHasComparedFiles =
    (options : Options) (bag : Bag) → (compared : List (List ℕ)) × AreCompared options bag compared

-- those of them that a cursor hasn't passed
abbrev pub not_passed : Option Fault → List Path → List Path
not_passed cursor compared = filter (λ path. not (is_passed cursor path)) compared

-- What a segment after the first n faults of a report opens of the payload: the first of these
-- files that its cursor hasn't passed, each once and in path order, and no other. None comes
-- after a fault that it didn't write, and where it is full none after the last that it wrote.
pub record OpensInSegment (compared : List Path) (report : List Fault) (n : ℕ) (segment : Segment)
    (old new : TreeState) : Type 0 where
  pub opened : List Path
  pub openings : new.openings ≡ old.openings ++ opened
  pub rest : List Path
  pub first : not_passed (cursor_after n report) compared ≡ filter is_payload_path opened ++ rest
  pub in_turn :
      NoFaultBefore (still_to_come segment (drop n report)) (filter is_payload_path opened)

-- What this number of segments open of the payload: these files alone. They make at most as many
-- openings as there are such files, one more for each segment but the first, and as many as there
-- are such files for each segment that is unread.
pub record OpensFew (compared : List Path) (segments unread : ℕ) (old new : TreeState)
    : Type 0 where
  pub opened : List Path
  pub openings : new.openings ≡ old.openings ++ opened
  pub only_compared : (path : Path)
      → Contains (filter is_payload_path opened) path → Contains compared path
  pub few : length (filter is_payload_path opened) ≤ (unread + 1) * length compared + (segments - 1)
