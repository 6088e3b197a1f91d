-- What a tree of the files on a disk means.
use Rattle.std.specs.Prelude.{ℕ, ◌≡◌, ◌+◌, List, [], Option, None}
use Rattle.bag_text.specs.Bytes.{Content, Path}
use Rattle.bag_tree.specs.Tree.{TreeState}
use Rattle.bag_tree.specs.declared.answer.Answer.{Answer}
use Rattle.bag_tree.specs.declared.answer.Answer.TheVariants.{Given}
use Rattle.bag_tree.specs.declared.listing.Listing.{Listing}
use Rattle.bag_disk.specs.Disk.{DiskState, entry_count, is_plain}
use Rattle.bag_disk.specs.DiskBag.{bag_of}

-- what the calls of a tree have answered
pub record Replies : Type 0 where
  -- what the last listing gave
  pub listed : Option Listing
  -- of each file that was opened, in order: its path, and the bytes that its reads gave
  pub gave : List (Path × Content)
  -- how many bytes the reads of the open file have given
  pub given : ℕ
  -- what the last call answered
  pub last : Answer

-- a call left what was given before it
pub record KeepsGiven (old new : Replies) : Type 0 where
  pub listed : new.listed ≡ old.listed
  pub gave : new.gave ≡ old.gave
  pub given : new.given ≡ old.given

-- nothing was asked yet
abbrev pub no_replies : Replies
no_replies = record { listed = None; gave = []; given = 0; last = Given }

-- what a tree of the files on a disk means, with this number of failures beside those of the
-- device, which the disk counts, where its calls have answered this
abbrev pub file_state_after : DiskState → ℕ → Replies → TreeState
file_state_after disk own replies = record {
  bag = bag_of disk.nodes;
  plain = is_plain disk.nodes;
  honest = disk.honest;
  entries = entry_count disk.nodes;
  failures = disk.failures + own;
  openings = disk.openings;
  listed = replies.listed;
  gave = replies.gave;
  rest = disk.rest;
  given = replies.given;
  last = replies.last;
  trail = disk.trail;
  noted = disk.noted;
}

-- what a tree of the files on a disk means at which it hasn't looked yet, with this number of
-- failures beside those of the device
abbrev pub tree_state : DiskState → ℕ → TreeState
tree_state disk own = file_state_after disk own no_replies
